use Rattle.io_edge.proofs.Giving.{gives_then}
use Rattle.report_text.proofs.did.push_callback.Goals as goal

pub returns : goal.returns
returns g c = gives_then c.push_str.ensures (rw c.map_name.ensures at c.push_str-2.ensures)
