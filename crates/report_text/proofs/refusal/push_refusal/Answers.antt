use Rattle.io_edge.proofs.Giving.{gives_then}
use Rattle.report_text.proofs.refusal.push_refusal.Goals as goal

pub returns : goal.returns
returns g c = gives_then c.push_str.ensures
    (gives_then c.push_kind.ensures (rw (c.as_bytes.ensures.value, c.as_str.ensures) at c.push_path.ensures))
