use Rattle.std.proofs.Common.{sym, ap, ◌∙◌, arith}
use Rattle.std.proofs.lemmas.List.{get_or_read}
use Rattle.bounce_hub.specs.Growing.{serves}
use Rattle.bounce_hub.proofs.Placing.{first-is}
use Rattle.bounce_hub.proofs.place.place_in.Goals as goal

pub returns-then-serves-clause-is : goal.returns-then-serves-clause-is
returns-then-serves-clause-is c =
    sym
    (first-is (serves c.args.tag.now) c.args.zones.now c.loop-place.place (omega arith) c.loop-place.invariant (λ d h.
    ap (serves c.args.tag.now) (sym (get_or_read c.args.zones.now _ _ h c.index-zones-place.is d))
    ∙ sym c.serves.ensures ∙ c.if-serves.true))

pub returns-clause-is : goal.returns-clause-is
returns-clause-is c =
    sym
    (first-is (serves c.args.tag.now) c.args.zones.now _ (omega arith)
    (λ k d h. c.loop-place.invariant k d (omega (arith, h))) (λ d h. absurd (omega (arith, h))))
