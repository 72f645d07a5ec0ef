use Rattle.std.proofs.Common.{◌∙◌, sym, subst, rules, arith, refl}
use Rattle.std.proofs.lemmas.Bool.{false≢true}
use Rattle.busdma_machine.specs.Tags.Tag.{IsEffective}
use Rattle.busdma_rules.proofs.Tags.Effective.{IsEffective-rounded, is_accepted_decides}
use Rattle.dma_tag.proofs.limits.normal.Goals as goal

pub returns-then-not-is_accepted-clause-accepted :
    goal.returns-then-not-is_accepted-clause-accepted
returns-then-not-is_accepted-clause-accepted c =
    let decided = is_accepted_decides c.args.spec (omega arith) (omega arith) in
    (λ e. absurd (false≢true e), λ a. sym c.if-not-is_accepted.true ∙ c.is_accepted.ensures ∙ decided.1 a)

pub returns-clause-effective : goal.returns-clause-effective
returns-clause-effective c =
    let decided = is_accepted_decides c.args.spec (omega arith) (omega arith) in
    subst IsEffective (search rules) (IsEffective-rounded c.args.spec
    (decided.0 (sym c.is_accepted.ensures ∙ c.if-not-is_accepted.false)))

pub returns-clause-accepted : goal.returns-clause-accepted
returns-clause-accepted c =
    let decided = is_accepted_decides c.args.spec (omega arith) (omega arith) in
    (λ _. decided.0 (sym c.is_accepted.ensures ∙ c.if-not-is_accepted.false), λ _. refl)
