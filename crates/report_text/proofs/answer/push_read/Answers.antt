use Rattle.io_edge.proofs.Giving.{gives_then}
use Rattle.report_text.proofs.answer.push_read.Goals as goal

pub returns : goal.returns
returns g c = gives_then c.push_str.ensures c.push_bytes.ensures
