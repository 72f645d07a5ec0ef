use Rattle.std.proofs.Common.{rules, ◌≡◌}
use Rattle.io_edge.proofs.Giving.{gives_then}
use Rattle.report_text.proofs.journal.push_run.Goals as goal

pub returns : goal.returns
returns g c =
    let entries : c.as_slice.result.now ≡ c.args.journal.now.entries = search rules in
    let zones : c.as_slice-2.result.now ≡ c.args.journal.now.zones = search rules in
    gives_then (rw entries at c.push_entries.ensures) (gives_then (rw zones at c.push_zones.ensures) c.push_end.ensures)
