use Rattle.std.proofs.Common.{length, ap, sym, ◌∙◌, arith}
use Rattle.memory_load.proofs.Parts.{run_next}
use Rattle.memory_load.proofs.run_parts.RunPartsIterator.next.Goals as goal

pub returns-clause-steps : goal.returns-clause-steps
returns-clause-steps c =
    let s = c.self.inside in
    sym c.self.view_is ∙ run_next s.opens s.at s.left c.min.result (omega arith) (omega arith)

pub returns-clause-goes : goal.returns-clause-goes
returns-clause-goes c =
    let s = c.self.inside in
    let e = sym c.self.view_is ∙ run_next s.opens s.at s.left c.min.result (omega arith) (omega arith) in
    record { on = λ _. (tt, tt, omega (arith, ap length e)); keeps = tt; rests = λ _. tt }
