use Rattle.io_edge.proofs.Giving.{gives_then}
use Rattle.report_text.proofs.answer.push_outcome.Goals as goal

pub returns : goal.returns
returns g c = gives_then c.push_str-2.ensures (gives_then c.push_answer.ensures c.push_str-3.ensures)
