-- The first of two refusals.
use Rattle.std.proofs.Common.{◌≡◌, ℕ, ◌+◌, ◌≤◌, Bool, true, false, cond, List, [], ◌∷◌, Option, Some, None}
use Rattle.std.proofs.Common.{refl, ap, arith, nat_le}
use Rattle.std.proofs.lemmas.Bool.Decides.{nat_tests}
use Rattle.std.specs.Option.{option_or}
use Rattle.std.specs.List.{enumerate_from}
use Rattle.busdma_machine.specs.declared.report.Judged.{Judged}
use Rattle.busdma_machine.specs.declared.report.Judged.TheVariants.{Fine, Refused}
use Rattle.busdma_machine.specs.declared.report.ReportName.{ReportName}
use Rattle.busdma_machine.specs.Judging.{judged, refused_or}
use Rattle.lane_state.specs.Judging.{earlier}

-- a judgement does not come before its first place
abbrev pub IsFrom : ℕ → Judged → Type 0
IsFrom k Fine = Unit {0}
IsFrom k (Refused r) = k ≤ r.at

later : (k : ℕ) (j : Judged) → IsFrom (k + 1) j → IsFrom k j
later k Fine h = tt
later k (Refused r) h = omega (arith, h)

pub judged-from : {X : Type 0} (f : X → Option ReportName) (k : ℕ) (xs : List X) → IsFrom k (judged f k xs)
judged-from f k [] = tt
judged-from f k (x ∷ xs) = by (f x) (later k (judged f (k + 1) xs) (judged-from f (k + 1) xs))
  where
    by : (o : Option ReportName) → IsFrom k (judged f (k + 1) xs) → IsFrom k (refused_or o k (judged f (k + 1) xs))
    by None h = h
    by (Some name) h = omega arith

abbrev at : ReportName → ℕ → Judged
at name k = Refused (record { name = name; at = k })

first-wins : (name : ReportName) (k : ℕ) (j : Judged) → IsFrom k j → earlier (at name k) j ≡ at name k
first-wins name k Fine h = refl
first-wins name k (Refused r) h = grind (arith, nat_tests, h)

first-loses : (name : ReportName) (k : ℕ) (j : Judged) → IsFrom (k + 1) j → earlier j (at name k) ≡ at name k
first-loses name k Fine h = refl
first-loses name k (Refused r) h = grind (arith, nat_tests, h)

-- what is refused for one of two causes is refused first for the earlier of them
pub judged-either : {X : Type 0} (f g : X → Option ReportName) (k : ℕ) (xs : List X) →
    earlier (judged f k xs) (judged g k xs) ≡ judged (λ x. option_or (f x) (g x)) k xs
judged-either f g k [] = refl
judged-either f g k (x ∷ xs) =
    by (f x) (g x) (judged-either f g (k + 1) xs) (judged-from f (k + 1) xs) (judged-from g (k + 1) xs)
  where
    by : (o p : Option ReportName) →
        earlier (judged f (k + 1) xs) (judged g (k + 1) xs) ≡ judged (λ x. option_or (f x) (g x)) (k + 1) xs →
        IsFrom (k + 1) (judged f (k + 1) xs) → IsFrom (k + 1) (judged g (k + 1) xs) →
        earlier (refused_or o k (judged f (k + 1) xs)) (refused_or p k (judged g (k + 1) xs))
        ≡ refused_or (option_or o p) k (judged (λ x. option_or (f x) (g x)) (k + 1) xs)
    by None None h a b = h
    by None (Some name) h a b = first-loses name k (judged f (k + 1) xs) a
    by (Some name) None h a b = first-wins name k (judged g (k + 1) xs) (later k (judged g (k + 1) xs) b)
    by (Some name) (Some other) h a b = first-wins name k (at other k) (omega arith)

-- equal causes give equal judgements
pub judged-alike : {X : Type 0} (f g : X → Option ReportName) → ((x : X) → f x ≡ g x) → (k : ℕ) (xs : List X) →
    judged f k xs ≡ judged g k xs
judged-alike f g same k xs = λ i. judged (λ x. same x i) k xs

-- things with their places are judged like the things
pub judged-placed : {X : Type 0} (f : X → Option ReportName) (k n : ℕ) (xs : List X) →
    judged (λ b. f b.1) k (enumerate_from n xs) ≡ judged f k xs
judged-placed f k n [] = refl
judged-placed f k n (x ∷ xs) = ap (refused_or (f x) k) (judged-placed f (k + 1) (n + 1) xs)

-- the earliest of three refusals
pub earlier-three : (a b c : Judged) → earlier (earlier a b) c ≡ earlier a (earlier b c)
earlier-three Fine b c = refl
earlier-three (Refused r) Fine c = refl
earlier-three (Refused r) (Refused s) Fine = chosen (nat_le r.at s.at)
  where
    chosen : (t : Bool) → earlier (cond t (Refused r) (Refused s)) Fine ≡ cond t (Refused r) (Refused s)
    chosen true = refl
    chosen false = refl
earlier-three (Refused r) (Refused s) (Refused t) = by (nat_le r.at s.at) (nat_le s.at t.at) refl refl
  where
    by : (p q : Bool) → nat_le r.at s.at ≡ p → nat_le s.at t.at ≡ q →
        earlier (cond p (Refused r) (Refused s)) (Refused t) ≡ earlier (Refused r) (cond q (Refused s) (Refused t))
    by true true h k =
        let one : nat_le r.at t.at ≡ true = grind (arith, nat_tests) in rw (h, one) refl
    by true false h k = refl
    by false true h k = rw (h, k) refl
    by false false h k =
        let one : nat_le r.at t.at ≡ false = grind (arith, nat_tests) in rw (k, one) refl
