-- Judgements of lists in parts.
use Rattle.std.proofs.Common.{◌≡◌, ℕ, zero, suc, ◌+◌, List, [], ◌∷◌, ◌++◌, length, Option, Some, None, refl, sym, ap}
use Rattle.std.proofs.Common.{◌∙◌, add-zero, arith}
use Rattle.busdma_machine.specs.declared.report.Report.{Report}
use Rattle.busdma_machine.specs.declared.report.ReportName.{ReportName}
use Rattle.busdma_machine.specs.declared.report.Judged.{Judged}
use Rattle.busdma_machine.specs.declared.report.Judged.TheVariants.{Fine, Refused}
use Rattle.busdma_machine.specs.Judging.{judged, refused_or}
use Rattle.busdma_machine.specs.Runs.{run_of}

module _ {X : Type 0} (f : X → Option ReportName) where
  fine_or : (o : Option ReportName) (at : ℕ) (rest all tail : Judged) → (rest ≡ Fine → all ≡ tail) →
      refused_or o at rest ≡ Fine → refused_or o at all ≡ tail
  fine_or None at rest all tail next h = next h
  fine_or (Some name) at rest all tail next h = absurd (cc)

  -- if the first part is Fine, the rest is judged
  pub judged-fine : (at : ℕ) (xs ys : List X) → judged f at xs ≡ Fine →
      judged f at (xs ++ ys) ≡ judged f (at + length xs) ys
  judged-fine at [] ys h = ap (λ n. judged f n ys) (sym (add-zero at))
  judged-fine at (x ∷ xs) ys h =
      let e : at + 1 + length xs ≡ at + suc (length xs) = omega arith in
      fine_or (f x) at (judged f (at + 1) xs) (judged f (at + 1) (xs ++ ys)) (judged f (at + suc (length xs)) ys)
      (λ fine. judged-fine (at + 1) xs ys fine ∙ ap (λ n. judged f n ys) e) h

  refused_first : (o : Option ReportName) (at : ℕ) (rest all : Judged) (r : Report) →
      (rest ≡ Refused r → all ≡ Refused r) → refused_or o at rest ≡ Refused r → refused_or o at all ≡ Refused r
  refused_first None at rest all r next h = next h
  refused_first (Some name) at rest all r next h = h

  -- if the first part is refused, so is the list
  pub judged-refused : (at : ℕ) (xs ys : List X) (r : Report) →
      judged f at xs ≡ Refused r → judged f at (xs ++ ys) ≡ Refused r
  judged-refused at [] ys r h = absurd (cc)
  judged-refused at (x ∷ xs) ys r h = refused_first (f x) at _ _ r (judged-refused (at + 1) xs ys r) h

pub length-run_of : (at n : ℕ) → length (run_of at n) ≡ n
length-run_of at zero = refl
length-run_of at (suc n) = ap suc (length-run_of (at + 1) n)

-- the first item that is refused decides
pub judged-some : {X : Type 0} (f : X → Option ReportName) (at : ℕ) (xs rest : List X) (x : X) (name : ReportName)
    (answer : Judged) → xs ≡ x ∷ rest → f x ≡ Some name → judged f at xs ≡ answer →
    Refused (record { name = name; at = at }) ≡ answer
judged-some f at xs rest x name answer e some h =
    sym (ap (λ o. refused_or o at (judged f (at + 1) rest)) some) ∙ sym (ap (judged f at) e) ∙ h

-- if no item is refused, the judgement is Fine
pub judged-none : {X : Type 0} (f : X → Option ReportName) (at : ℕ) (xs : List X) → ((x : X) → f x ≡ None) →
    judged f at xs ≡ Fine
judged-none f at [] h = refl
judged-none f at (x ∷ xs) h =
    ap (λ o. refused_or o at (judged f (at + 1) xs)) (h x) ∙ judged-none f (at + 1) xs h

-- equal refusals give equal judgements
pub judged-same : {X : Type 0} (f g : X → Option ReportName) (at : ℕ) (xs : List X) → ((x : X) → f x ≡ g x) →
    judged f at xs ≡ judged g at xs
judged-same f g at [] h = refl
judged-same f g at (x ∷ xs) h =
    ap (λ o. refused_or o at (judged f (at + 1) xs)) (h x)
    ∙ ap (refused_or (g x) at) (judged-same f g (at + 1) xs h)
