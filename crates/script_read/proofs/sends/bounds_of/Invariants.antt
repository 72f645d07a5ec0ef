use Rattle.std.proofs.Common.{take}
use Rattle.std.specs.List.{AllByRecursion}
use Rattle.script_read.specs.Sends.{LiesBetween}
use Rattle.script_read.proofs.sends.bounds_of.Given as goal

abbrev pub invariant-loop-span : goal.invariant-loop-span
invariant-loop-span l = AllByRecursion (LiesBetween l.bounds) (take l.span-index l.chain)
