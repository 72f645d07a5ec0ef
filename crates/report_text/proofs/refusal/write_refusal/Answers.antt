use Rattle.std.proofs.Common.{rules, ◌≡◌}
use Rattle.io_edge.proofs.Giving.{gives_then, wrote}
use Rattle.report_text.proofs.refusal.write_refusal.Goals as goal

pub returns : goal.returns
returns g c =
    let same : c.finish.new.self.0 ≡ c.sink-1.given.0 = search rules in
    let did = rw same at (wrote _ _ _ _ _ _ c.new-out.ensures (gives_then c.push_refusal.ensures c.push_str.ensures)
    c.finish.ensures) in
    record {
      written = did.written;
      unwritten = did.unwritten;
      failed = did.failed;
      unfailed = did.unfailed;
      count = did.count;
    }
