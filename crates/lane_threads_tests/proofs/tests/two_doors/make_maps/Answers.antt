use Rattle.std.proofs.Common.{◌≡◌, true, rules, refl}
use Rattle.lane_threads.specs.PassDoor.{seen}
use Rattle.lane_threads_tests.specs.declared.tests.opening.TheConstants.{LOW}
use Rattle.lane_threads_tests.proofs.TableCalls.{may_make_first, first_made, may_make_second, second_made}
use Rattle.lane_threads_tests.proofs.tests.two_doors.make_maps.Goals as goal

pub create_map-requires : goal.create_map-requires
create_map-requires g c = may_make_first (seen c.args.door.now) (seen c.args.door.now) LOW refl c.requires

pub create_map-requires-2 : goal.create_map-requires-2
create_map-requires-2 g c =
    let d = seen c.args.door.now in let e = seen c.create_map.new.self in let grown = c.in_ok-grown.grown in
    let made : grown.made ≡ true = search rules in
    let here : grown.zone.0 ≡ 0 = search rules in
    may_make_second e e LOW refl (first_made d e LOW refl c.requires grown made here c.in_ok-grown.ensures.held)

pub returns-clause-maps : goal.returns-clause-maps
returns-clause-maps g c =
    let d = seen c.args.door.now in let e = seen c.create_map.new.self in let f = seen c.create_map-2.new.self in
    let grown = c.in_ok-grown.grown in let again = c.in_ok-grown-2.grown in
    let made : grown.made ≡ true = search rules in
    let here : grown.zone.0 ≡ 0 = search rules in
    let made_again : again.made ≡ true = search rules in
    let here_again : again.zone.0 ≡ 0 = search rules in
    second_made e f LOW refl (first_made d e LOW refl c.requires grown made here c.in_ok-grown.ensures.held) again
    made_again here_again c.in_ok-grown-2.ensures.held
