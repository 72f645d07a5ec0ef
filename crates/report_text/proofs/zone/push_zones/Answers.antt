use Rattle.std.proofs.Common.{refl}
use Rattle.io_edge.proofs.Giving.{gives_then, gives_nothing, gives_as}
use Rattle.program_rules.specs.Reports.Zone.{zone_text}
use Rattle.report_text.proofs.Rest.{numbered_next, numbered_end}
use Rattle.report_text.proofs.zone.push_zones.Goals as goal

pub loop-number-preserved : goal.loop-number-preserved
loop-number-preserved g c = λ ended rest.
    c.loop-number.invariant ended
    (gives_as (numbered_next zone_text c.args.zones.now c.loop-number.number _ _ c.loop-number-test.true refl)
    (gives_then c.push_zone.ensures rest))

pub returns : goal.returns
returns g c =
    c.loop-number.invariant c.loop-number.out
    (gives_as (numbered_end zone_text c.args.zones.now c.loop-number.number c.loop-number-test.false)
    (gives_nothing c.loop-number.out))
