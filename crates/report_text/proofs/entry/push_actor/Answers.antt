use Rattle.io_edge.proofs.Giving.{gives_then}
use Rattle.report_text.proofs.entry.push_actor.Goals as goal

pub returns : goal.returns
returns g c =
    gives_then (rw c.spaced_letter.ensures at c.push_str.ensures) (rw c.from.ensures at c.push_decimal.ensures)
