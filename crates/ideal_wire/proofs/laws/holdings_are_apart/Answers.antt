use Rattle.std.proofs.Common.{◌≡◌, Bool, true, false, refl, sym, ◌∙◌}
use Rattle.std.proofs.lemmas.Bool.{false≢true}
use Rattle.ideal_wire.proofs.Apart.Held.{finds-held, held-once}
use Rattle.ideal_wire.proofs.laws.holdings_are_apart.Goals as goal

no : (b : Bool) → (b ≡ true → ⊥) → b ≡ false
no true h = absurd (h refl)
no false h = refl

pub returns-clause-one : goal.returns-clause-one
returns-clause-one c = λ l a b by other fit agrees stands laid h g.
    (held-once l l a fit agrees stands laid agrees stands laid b (λ x y. refl) by other h g).1

pub returns-clause-others : goal.returns-clause-others
returns-clause-others c = λ l k a b by other fit agrees stands laid agrees' stands' laid' off pages h.
    no _ (λ g. off (held-once l k a fit agrees stands laid agrees' stands' laid' b
    (λ x y. absurd (false≢true (sym (pages x) ∙ y))) by other h g).0)

pub returns-clause-found : goal.returns-clause-found
returns-clause-found c = λ l m o n bus laid mapped there at. finds-held l laid mapped m o there n bus at
