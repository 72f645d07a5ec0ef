use Rattle.std.proofs.Common.{refl}
use Rattle.std.proofs.lemmas.Bool.{false≢true}
use Rattle.std.proofs.lemmas.Result.{err_from_is_err_and}
use Rattle.std.proofs.lemmas.List.Elements.{All-get_or, All-tail}
use Rattle.busdma_machine.specs.Tags.Tag.{IsAccepted}
use Rattle.dma_tag.proofs.Chain.{chain_first, chain_more}
use Rattle.dma_tag.proofs.tag.Tag.create_chain.Goals as goal

pub loop-spec-init : goal.loop-spec-init
loop-spec-init c =
    chain_first c.args.first.now c.in_ok-tag.tag c.in_ok-tag.ensures.made (c.in_ok-tag.ensures.accepted.0 refl)

pub returns-in_err-tag-2-clause-accepted : goal.returns-in_err-tag-2-clause-accepted
returns-in_err-tag-2-clause-accepted c =
    let refused = c.in_err-tag-2.ensures.accepted.1 in
    let p = err_from_is_err_and c.from_residual-in_err-tag-2.result c.from_residual-in_err-tag-2.ensures.1 in
    rw p.1
    ((
      λ e. absurd (false≢true e),
      λ all. refused
          (All-get_or IsAccepted c.args.rest.now c.loop-spec.spec-index _ c.loop-spec-test.true
          (All-tail IsAccepted c.args.first.now c.args.rest.now all)),
    ))

pub loop-spec-preserved : goal.loop-spec-preserved
loop-spec-preserved c =
    chain_more c.args.first.now c.args.rest.now c.loop-spec.spec-index _ c.loop-spec.tag c.in_ok-tag-2.tag
    c.loop-spec-test.true c.loop-spec.invariant c.in_ok-tag-2.ensures.made (c.in_ok-tag-2.ensures.accepted.0 refl)
