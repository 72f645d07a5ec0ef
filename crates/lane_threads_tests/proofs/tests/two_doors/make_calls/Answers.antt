use Rattle.std.proofs.Common.{[], None, sym, subst}
use Rattle.lane_threads.specs.PassDoor.{seen}
use Rattle.lane_threads_tests.specs.Knowing.{Knows, HasMaps}
use Rattle.lane_threads_tests.proofs.Starting.{starts_with_no_maps}
use Rattle.lane_threads_tests.proofs.tests.two_doors.make_calls.Goals as goal

pub make_maps-requires : goal.make_maps-requires
make_maps-requires g c =
    subst (λ p. Knows 0 (HasMaps None None []) (seen p)) (sym c.new-zero.ensures)
    (starts_with_no_maps c.args.turnstile.now.id c.args.zero c.requires.zero.0 c.requires.zero.1)
