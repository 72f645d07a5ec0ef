use Rattle.io_edge.proofs.Giving.{gives_then}
use Rattle.report_text.proofs.answer.push_wait.Goals as goal

pub returns : goal.returns
returns g c = gives_then c.push_str.ensures
    (gives_then (rw c.from.ensures at c.push_decimal.ensures)
    (gives_then c.push_str-2.ensures (rw c.from-2.ensures at c.push_decimal-2.ensures)))
