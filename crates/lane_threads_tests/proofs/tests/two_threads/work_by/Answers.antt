use Rattle.std.proofs.Common.{◌≡◌, ◌+◌, arith, ap, sym, subst}
use Rattle.busdma_machine.specs.declared.name.MapId.{MapId}
use Rattle.lane_threads.specs.PassDoor.{seen}
use Rattle.lane_threads_tests.specs.Knowing.{Knows, HasNone}
use Rattle.lane_threads_tests.proofs.Starting.{starts_with_none}
use Rattle.lane_threads_tests.proofs.tests.two_threads.work_by.Goals as goal

pub work-done-requires : goal.work-done-requires
work-done-requires g c =
    let lane = c.map_of.result.lane.0 in
    let named : c.args.pass.name ≡ lane + 1 =
    omega (arith, ap (λ (m : MapId). m.lane.0) c.map_of.ensures, c.name.ensures, c.requires.name) in
    subst (λ p. Knows lane HasNone (seen p)) (sym c.new-door.ensures)
    (starts_with_none lane c.args.turnstile.now.id c.args.pass c.requires.starts named)
