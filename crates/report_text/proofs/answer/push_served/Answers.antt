use Rattle.io_edge.proofs.Giving.{gives_then}
use Rattle.report_text.proofs.answer.push_served.Goals as goal

pub returns : goal.returns
returns g c = gives_then c.push_str.ensures (rw c.from.ensures at c.push_decimal.ensures)
