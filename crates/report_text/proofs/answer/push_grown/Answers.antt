use Rattle.io_edge.proofs.Giving.{gives_then}
use Rattle.report_text.proofs.answer.push_grown.Goals as goal

pub returns : goal.returns
returns g c = gives_then (rw c.made_text.ensures at c.push_str.ensures)
    (gives_then c.push_str-2.ensures
    (gives_then (rw c.from.ensures at c.push_decimal.ensures)
    (gives_then c.push_str-3.ensures (rw c.from-2.ensures at c.push_decimal-2.ensures))))
