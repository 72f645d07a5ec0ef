use Rattle.std.proofs.Common.{None}
use Rattle.lane_threads.specs.PassDoor.{seen}
use Rattle.lane_threads_tests.specs.declared.tests.opening.TheConstants.{LOW}
use Rattle.lane_threads_tests.specs.declared.tests.two_doors.TheConstants.{CUT}
use Rattle.lane_threads_tests.proofs.TableCalls.{may_end_first, first_ended, may_make_memory, may_make_next}
use Rattle.lane_threads_tests.proofs.tests.two_doors.make_memories.Goals as goal

pub destroy_map-requires : goal.destroy_map-requires
destroy_map-requires g c =
    let d = seen c.args.door.now in may_end_first d d None c.requires.0 c.requires.1

pub mem_alloc-requires : goal.mem_alloc-requires
mem_alloc-requires g c =
    let d = seen c.args.door.now in let e = seen c.destroy_map.new.self in let two = c.requires.0 in
    may_make_memory e e None two CUT (first_ended d e None two c.requires.1 c.destroy_map.ensures.held)

pub mem_alloc-requires-2 : goal.mem_alloc-requires-2
mem_alloc-requires-2 g c =
    let d = seen c.args.door.now in let e = seen c.destroy_map.new.self in let f = seen c.mem_alloc.new.self in
    let two = c.requires.0 in
    may_make_next e f None two CUT LOW (first_ended d e None two c.requires.1 c.destroy_map.ensures.held)
    c.in_ok-none.none c.in_ok-none.ensures.held
