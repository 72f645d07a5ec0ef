use Rattle.std.proofs.Common.{rules}
use Rattle.io_edge.proofs.Giving.{gives_then, gives_as}
use Rattle.report_text.proofs.did.push_again.Goals as goal

pub returns-in-Some : goal.returns-in-Some
returns-in-Some g c = gives_as (search rules) (gives_then c.push_str.ensures c.push_object.ensures)
