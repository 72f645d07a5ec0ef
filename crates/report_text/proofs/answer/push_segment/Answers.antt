use Rattle.io_edge.proofs.Giving.{gives_then}
use Rattle.report_text.proofs.answer.push_segment.Goals as goal

pub returns : goal.returns
returns g c = gives_then c.push_str.ensures
    (gives_then c.push_hex.ensures (gives_then c.push_str-2.ensures c.push_decimal.ensures))
