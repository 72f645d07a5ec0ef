use Rattle.std.proofs.Common.{arith}
use Rattle.segment_build.proofs.joining.joined.Goals as goal

pub overflow_add-result : goal.overflow_add-result
overflow_add-result c = omega (arith, c.may_join.ensures.fits c.if-not-may_join.false)
