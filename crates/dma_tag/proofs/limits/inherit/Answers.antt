use Rattle.std.proofs.Common.{subst, rules}
use Rattle.busdma_machine.specs.Tags.Tag.{IsEffective}
use Rattle.busdma_rules.proofs.Tags.Effective.{IsEffective-inherit}
use Rattle.dma_tag.proofs.limits.inherit.Goals as goal

pub returns-clause-effective : goal.returns-clause-effective
returns-clause-effective c =
    subst IsEffective (search rules) (IsEffective-inherit c.args.parent.now
    c.args.child.now c.requires.parent c.requires.child)
