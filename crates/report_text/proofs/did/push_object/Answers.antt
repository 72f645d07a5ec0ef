use Rattle.io_edge.proofs.Giving.{gives_then}
use Rattle.report_text.proofs.did.push_object.Goals as goal

pub returns : goal.returns
returns g c = gives_then c.push_str.ensures (rw c.object_name.ensures at c.push_str-2.ensures)
