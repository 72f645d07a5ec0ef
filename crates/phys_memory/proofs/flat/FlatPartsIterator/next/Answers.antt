use Rattle.std.proofs.Common.{true, length, arith, ap, sym, ◌∙◌, subst}
use Rattle.std.specs.Prelude.{Option, IfSome}
use Rattle.busdma_machine.specs.declared.machine.address.Extent.{Extent}
use Rattle.phys_memory.specs.Extents.{IsNext}
use Rattle.phys_memory.specs.Memory.{memory_physical}
use Rattle.phys_memory.proofs.Streams.{stream_next}
use Rattle.phys_memory.proofs.flat.FlatPartsIterator.next.Goals as goal

pub returns-in-Some-clause-steps : goal.returns-in-Some-clause-steps
returns-in-Some-clause-steps c =
    let s = c.self.inside in
    let is =
    subst (λ (o : Option Extent). IfSome o (IsNext (memory_physical s.memory.now.memory) s.at s.left))
    c.in-Some.is c.extent_at.ensures.next in
    sym c.self.view_is ∙ stream_next (memory_physical s.memory.now.memory) s.at s.left
    s.offset s.opens true c.in-Some.extent is

pub returns-in-Some-clause-goes : goal.returns-in-Some-clause-goes
returns-in-Some-clause-goes c =
    let s = c.self.inside in
    let is =
    subst (λ (o : Option Extent). IfSome o (IsNext (memory_physical s.memory.now.memory) s.at s.left))
    c.in-Some.is c.extent_at.ensures.next in
    let e =
    sym c.self.view_is ∙ stream_next (memory_physical s.memory.now.memory) s.at s.left
    s.offset s.opens true c.in-Some.extent is in
    record { on = λ _. (tt, tt, omega (arith, ap length e)); keeps = tt; rests = λ _. tt }
