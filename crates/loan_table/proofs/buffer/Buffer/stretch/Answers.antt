use Rattle.std.proofs.Common.{arith}
use Rattle.loan_table.proofs.Extending.{length-addresses}
use Rattle.loan_table.proofs.buffer.Buffer.stretch.Goals as goal

pub stretch_at-requires-clause-range : goal.stretch_at-requires-clause-range
stretch_at-requires-clause-range c =
    let range = rw (← c.self.view_is) at c.requires.range in
    rw c.deref.ensures.value (omega (arith, range, length-addresses c.self.inside.stretches.items))

pub stretch_at-requires-clause-starts : goal.stretch_at-requires-clause-starts
stretch_at-requires-clause-starts c = rw (c.deref.ensures.value, c.deref-2.ensures.value) c.self.invariant.begun
