use Rattle.io_edge.proofs.Giving.{gives_then}
use Rattle.report_text.proofs.entry.push_entry.Goals as goal

pub returns : goal.returns
returns g c = gives_then c.push_decimal.ensures
    (gives_then c.push_actor.ensures
    (gives_then c.push_str.ensures (gives_then c.push_did.ensures c.push_outcome.ensures)))
