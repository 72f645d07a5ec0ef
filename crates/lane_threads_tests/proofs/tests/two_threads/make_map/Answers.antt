use Rattle.std.proofs.Common.{◌≡◌, true, rules, refl}
use Rattle.lane_threads.specs.PassDoor.{seen}
use Rattle.lane_threads_tests.specs.declared.tests.opening.TheConstants.{LOW}
use Rattle.lane_threads_tests.proofs.Rounds.{may_make, made_one}
use Rattle.lane_threads_tests.proofs.tests.two_threads.make_map.Goals as goal

pub create_map-requires : goal.create_map-requires
create_map-requires g c = may_make c.args.map (seen c.args.door.now) (seen c.args.door.now) LOW refl c.requires

pub returns-then-grown-eq0-clause-idle : goal.returns-then-grown-eq0-clause-idle
returns-then-grown-eq0-clause-idle g c =
    let grown = c.in-Ok.grown in
    let made : grown.made ≡ true = search rules in
    let here : grown.zone.0 ≡ 0 = search rules in
    made_one c.args.map (seen c.args.door.now) (seen c.create_map.new.self) LOW refl c.requires grown made here
    c.in-Ok.ensures.held
