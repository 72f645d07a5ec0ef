-- What an iterator has yielded, if its state shows what is left.
use Rattle.std.proofs.Common.{◌≡◌, List, [], ◌∷◌, ◌++◌, ap, sym, ◌∙◌, subst, append-nil}
use Rattle.std.specs.declared.option.Option.{Option}
use Rattle.std.specs.declared.option.Option.TheVariants.{Some, None}
use Rattle.std.specs.Iterator.{Yields, YieldsFirst, Drains, HoldsAlong}
use Rattle.std.proofs.iter.Next.{Yields-more}

module _ {S A : Type 0} (rest : S → List A) where
  -- what was given, and then what is left, is what was left at first
  pub given_first : (s : S) (xs : List A) (t : S) → Yields (YieldsFirst rest) s xs t → rest s ≡ xs ++ rest t
  given_first s [] t y = ap rest y
  given_first s (x ∷ xs) t y = y.1 ∙ ap (λ ys. x ∷ ys) (given_first y.0 xs t y.2)

  -- a complete run yields what was left
  pub drained_first : (s : S) (xs : List A) → Drains (YieldsFirst rest) s xs → rest s ≡ xs
  drained_first s xs d = given_first s xs d.1.0 d.1.1 ∙ (ap (λ ys. xs ++ ys) d.1.2.0 ∙ append-nil xs)

  -- what holds of a list, and of each front of a list of which it holds, holds along a run
  pub along_first : (P : List A → Type 0) → ((xs ys : List A) → P (xs ++ ys) → P xs) → (s : S) →
      P (rest s) → HoldsAlong (YieldsFirst rest) s P
  along_first P front s h xs t y = front xs (rest t) (subst P (given_first s xs t y) h)

-- what holds along a stream holds of what a loop has seen of it, with the next item
pub holds_so_far : {S A : Type 0} (steps : S → Option A → S → Type 0) (P : List A → Type 0) {p : S} (s : S)
    (xs : List A) (t : S) (x : A) (u : S) → s ≡ p → HoldsAlong steps p P →
    Yields steps s xs t → steps t (Some x) u → P (xs ++ x ∷ [])
holds_so_far steps P s xs t x u e h y n =
    subst (λ k. HoldsAlong steps k P) (sym e) h (xs ++ x ∷ []) u (Yields-more steps s xs t x u y n)

-- what holds along a stream holds of what a loop has seen of it
pub holds_seen : {S A : Type 0} (steps : S → Option A → S → Type 0) (P : List A → Type 0) {p : S} (s : S) (xs : List A)
    (t : S) → s ≡ p → HoldsAlong steps p P → Yields steps s xs t → P xs
holds_seen steps P s xs t e h y = subst (λ k. HoldsAlong steps k P) (sym e) h xs t y

-- a loop that has come to the end has seen all of the stream
pub drained : {S A : Type 0} (steps : S → Option A → S → Type 0) {p : S} (s : S) (xs : List A) (t u : S) → s ≡ p →
    Yields steps s xs t → steps t None u → Drains steps p xs
drained steps s xs t u e y n = subst (λ k. Drains steps k xs) e (u, (t, y, n))
