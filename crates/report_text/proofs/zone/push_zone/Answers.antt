use Rattle.io_edge.proofs.Giving.{gives_then}
use Rattle.report_text.proofs.zone.push_zone.Goals as goal

pub returns : goal.returns
returns g c = gives_then c.push_pages.ensures c.push_use.ensures
