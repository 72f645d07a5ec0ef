use Rattle.io_edge.proofs.Giving.{gives_then}
use Rattle.report_text.proofs.zone.push_use.Goals as goal

pub returns : goal.returns
returns g c = gives_then c.push_count.ensures
    (gives_then c.push_count-2.ensures (gives_then c.push_address.ensures c.push_count-3.ensures))
