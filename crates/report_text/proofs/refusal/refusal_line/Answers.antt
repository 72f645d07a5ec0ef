use Rattle.std.proofs.Common.{rules, ◌≡◌}
use Rattle.io_edge.proofs.Giving.{wrote}
use Rattle.report_text.proofs.Kept.{kept}
use Rattle.report_text.proofs.refusal.refusal_line.Goals as goal

pub returns : goal.returns
returns c =
    let same : c.finish-written.new.self.0 ≡ c.sink-2-1.given.0 = search rules in
    let did = rw same at (wrote _ _ _ _ _ _ c.new-out.ensures c.push_refusal.ensures c.finish-written.ensures) in
    kept _ _ _ _ _ c.text_sink-sink.ensures did.written c.whole_text.ensures.whole c.whole_text.ensures.written
