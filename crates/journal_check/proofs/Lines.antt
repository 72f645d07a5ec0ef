-- Lines of texts.
use Rattle.std.proofs.Common.{◌≡◌, ◌≢◌, ℕ, zero, suc, ◌+◌, ◌==◌, ◌≤◌, ◌<◌, Bool, true, false, cond, List, [], ◌∷◌, ◌++◌}
use Rattle.std.proofs.Common.{length, take, refl, sym}
use Rattle.std.proofs.Common.{ap, ◌∙◌, arith, if◌then◌else◌, rules, ◌&&◌, nat_lt}
use Rattle.std.proofs.lemmas.Bool.Decides.{nat_tests}
use Rattle.std.specs.List.{onto_first, concat, list_all}
use Rattle.std.specs.Str.{bytes_eq}
use Rattle.std.proofs.lemmas.Slice.Eq.{bytes_eq-Decides}
use Rattle.program_rules.specs.Verdicts.TextLines.{lines, alike_lines as alike}

concat-onto : (b : ℕ) (ls : List (List ℕ)) → concat (onto_first b ls) ≡ b ∷ concat ls
concat-onto b [] = refl
concat-onto b (l ∷ ls) = refl

pub and-both : (a b : Bool) → (a && b) ≡ true → (a ≡ true) × (b ≡ true)
and-both true b h = (refl, h)
and-both false b h = absurd (cc)

not-feed : (b : ℕ) → nat_lt 31 b ≡ true → (b == 10) ≡ false
not-feed b h = grind (arith, nat_tests)

-- the lines of a text, one after the other, are the text
pub concat-lines : (text : List ℕ) → concat (lines text) ≡ text
concat-lines [] = refl
concat-lines (b ∷ bs) = by (b == 10) (concat-lines bs)
  where
    by : (c : Bool) → concat (lines bs) ≡ bs
        → concat (if c then (b ∷ []) ∷ lines bs else onto_first b (lines bs)) ≡ b ∷ bs
    by true rest = ap (λ t. b ∷ t) rest
    by false rest = concat-onto b (lines bs) ∙ ap (λ t. b ∷ t) rest

-- each byte of a text is above this one
abbrev pub over : ℕ → List ℕ → Bool
over c bs = list_all (nat_lt c) bs

-- a text whose bytes are above 31, and then a line feed, are the first line
pub lines-line : (front rest : List ℕ) → over 31 front ≡ true
    → lines (front ++ 10 ∷ rest) ≡ (front ++ 10 ∷ []) ∷ lines rest
lines-line [] rest none = refl
lines-line (b ∷ bs) rest none =
    let high : (nat_lt 31 b ≡ true) × (over 31 bs ≡ true) = and-both (nat_lt 31 b) (over 31 bs) none in
    let off : (b == 10) ≡ false = not-feed b high.0 in
    rw off (ap (onto_first b) (lines-line bs rest high.1))

-- ---- how many lines two lists have in common from their beginning on

alike-same : (x y : List ℕ) (xs ys : List (List ℕ)) (b : Bool) → (b ≡ true → x ≡ y)
    → take (alike xs ys) xs ≡ take (alike xs ys) ys
    → take (if b then 1 + alike xs ys else 0) (x ∷ xs) ≡ take (if b then 1 + alike xs ys else 0) (y ∷ ys)
alike-same x y xs ys true same rest =
    let e : 1 + alike xs ys ≡ suc (alike xs ys) = omega arith in
    rw e (ap (λ t. t ∷ take (alike xs ys) xs) (same refl) ∙ ap (λ t. y ∷ t) rest)
alike-same x y xs ys false same rest = refl

-- the lines before it are the same
pub alike-front : (xs ys : List (List ℕ)) → take (alike xs ys) xs ≡ take (alike xs ys) ys
alike-front [] ys = refl
alike-front (x ∷ xs) [] = refl
alike-front (x ∷ xs) (y ∷ ys) =
    alike-same x y xs ys (bytes_eq x y) (λ h. search (rules, bytes_eq-Decides)) (alike-front xs ys)

alike-next : (x y : List ℕ) (xs ys : List (List ℕ)) (b : Bool) → (x ≡ y → b ≡ true)
    → ((x ∷ xs) ≡ (y ∷ ys) → ⊥)
    → ((xs ≡ ys → ⊥) → take (alike xs ys + 1) xs ≡ take (alike xs ys + 1) ys → ⊥)
    → take ((if b then 1 + alike xs ys else 0) + 1) (x ∷ xs) ≡ take ((if b then 1 + alike xs ys else 0) + 1) (y ∷ ys)
    → ⊥
alike-next x y xs ys false decides apart next h =
    let e : x ≡ y = cc in
    let clash : false ≡ true = decides e in
    absurd (cc)
alike-next x y xs ys true decides apart next h =
    let e : (1 + alike xs ys) + 1 ≡ suc (alike xs ys + 1) = omega arith in
    let g : take (suc (alike xs ys + 1)) (x ∷ xs) ≡ take (suc (alike xs ys + 1)) (y ∷ ys) = rw e at h in
    let heads : x ≡ y = cc in
    let tails : take (alike xs ys + 1) xs ≡ take (alike xs ys + 1) ys = cc in
    next (λ same. apart (ap (λ t. t ∷ xs) heads ∙ ap (λ t. y ∷ t) same)) tails

-- if two lists differ, their next lines differ, or one list has no next line
pub alike-breaks : (xs ys : List (List ℕ)) → (xs ≡ ys → ⊥)
    → take (alike xs ys + 1) xs ≡ take (alike xs ys + 1) ys → ⊥
alike-breaks [] [] apart h = apart refl
alike-breaks [] (y ∷ ys) apart h = absurd (cc)
alike-breaks (x ∷ xs) [] apart h = absurd (cc)
alike-breaks (x ∷ xs) (y ∷ ys) apart h =
    alike-next x y xs ys (bytes_eq x y) (λ same. search (rules, bytes_eq-Decides)) apart (alike-breaks xs ys) h

pub take-past : (p q : List (List ℕ)) (m k : ℕ) → k ≡ length p + m → take k (p ++ q) ≡ p ++ take m q
take-past [] q m k e = let a : k ≡ m = omega (arith, e) in ap (λ i. take i q) a
take-past (x ∷ p) q m zero e = absurd (omega (arith, e))
take-past (x ∷ p) q m (suc k) e = ap (λ t. x ∷ t) (take-past p q m k (omega (arith, e)))
