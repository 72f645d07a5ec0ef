use Rattle.std.proofs.Common.{◌≡◌, []}
use Rattle.phys_memory.specs.Walk.{walked}
use Rattle.phys_memory.proofs.walk.walk_parts.Given as goal

abbrev pub invariant-loop-part : goal.invariant-loop-part
invariant-loop-part l = walked l.extents.items l.part-iterator ≡ walked [] l.fn.parts
