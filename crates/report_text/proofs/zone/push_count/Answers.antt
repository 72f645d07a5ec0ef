use Rattle.std.proofs.Common.{append_assoc}
use Rattle.io_edge.proofs.Giving.{gives_then, gives_as}
use Rattle.program_rules.specs.Reports.Zone.{value_line}
use Rattle.report_text.proofs.zone.push_count.Goals as goal

pub returns : goal.returns
unfolding value_line
returns g c =
    gives_as (simp append_assoc) (gives_then c.push_name.ensures (gives_then c.push_decimal.ensures c.push_str.ensures))
