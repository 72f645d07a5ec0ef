use Rattle.io_edge.proofs.Giving.{gives_then}
use Rattle.report_text.proofs.refusal.push_limit.Goals as goal

pub returns : goal.returns
returns g c = gives_then c.push_str.ensures (gives_then (rw c.limit_name.ensures at c.push_str-2.ensures)
    c.push_str-3.ensures)
