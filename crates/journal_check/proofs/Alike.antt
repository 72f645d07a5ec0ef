-- How many lines two texts have in common from their beginning on.
use Rattle.std.proofs.Common.{◌≡◌, ℕ, suc, ◌+◌, ◌≤◌, Bool, true, false, List, [], ◌∷◌, length, take, drop}
use Rattle.std.proofs.Common.{if◌then◌else◌}
use Rattle.std.proofs.Common.{refl, sym, ap, ap₂, ◌∙◌, arith, rules}
use Rattle.std.proofs.lemmas.List.{drop-drop, drop_all, length-take-le}
use Rattle.std.proofs.lemmas.Slice.Eq.{bytes_eq-Decides}
use Rattle.std.specs.Str.{bytes_eq}
use Rattle.program_rules.specs.Verdicts.TextLines.{lines, alike_lines as alike}

none-right : (xs : List (List ℕ)) → alike xs [] ≡ 0
none-right [] = refl
none-right (x ∷ xs) = refl

next-alike : (x y : List ℕ) (xs ys : List (List ℕ)) → x ≡ y → alike (x ∷ xs) (y ∷ ys) ≡ alike xs ys + 1
next-alike x y xs ys same = by (bytes_eq x y) (search (rules, bytes_eq-Decides))
  where
    by : (b : Bool) → b ≡ true → (if b then 1 + alike xs ys else 0) ≡ alike xs ys + 1
    by true h = omega arith
    by false h = absurd (cc)

next-other : (x y : List ℕ) (xs ys : List (List ℕ)) → (x ≡ y → ⊥) → alike (x ∷ xs) (y ∷ ys) ≡ 0
next-other x y xs ys off = by (bytes_eq x y) (λ h. search (rules, bytes_eq-Decides))
  where
    by : (b : Bool) → (b ≡ true → x ≡ y) → (if b then 1 + alike xs ys else 0) ≡ 0
    by true h = absurd (off (h refl))
    by false h = refl

-- this many lines were the same, and both texts go on at this place
abbrev pub AreAlike : List ℕ → List ℕ → ℕ → ℕ → Type 0
AreAlike text other at count =
    alike (lines text) (lines other) ≡ count + alike (lines (drop at text)) (lines (drop at other))

pub begin-alike : (text other : List ℕ) → AreAlike text other 0 0
begin-alike text other = omega arith

-- if one of the texts has ended, no more lines are the same
pub end-alike : (text other : List ℕ) (at count : ℕ) → AreAlike text other at count → length text ≤ at →
    count ≡ alike (lines text) (lines other)
end-alike text other at count h over =
    let none : drop at text ≡ [] = drop_all at text over in
    let zero : alike (lines (drop at text)) (lines (drop at other)) ≡ 0 =
    ap (λ t. alike (lines t) (lines (drop at other))) none in
    omega (arith, h, zero)

pub end-other : (text other : List ℕ) (at count : ℕ) → AreAlike text other at count → length other ≤ at →
    count ≡ alike (lines text) (lines other)
end-other text other at count h over =
    let none : drop at other ≡ [] = drop_all at other over in
    let zero : alike (lines (drop at text)) (lines (drop at other)) ≡ 0 =
    ap (λ t. alike (lines (drop at text)) (lines t)) none ∙ none-right (lines (drop at text)) in
    omega (arith, h, zero)

-- the first line of a rest
pub record Cuts (text : List ℕ) (at : ℕ) (line : List ℕ) (end : ℕ) : Type 0 where
  pub rest : List ℕ
  pub there : rest ≡ drop at text
  pub cut : lines rest ≡ take end rest ∷ lines (drop end rest)
  pub is : line ≡ take end rest
  pub within : end ≤ length rest

left : (text : List ℕ) (at : ℕ) (line : List ℕ) (end : ℕ) → Cuts text at line end →
    lines (drop at text) ≡ line ∷ lines (drop (at + end) text)
left text at line end c =
    ap lines (sym c.there) ∙ (c.cut ∙ (ap (λ l. l ∷ lines (drop end c.rest)) (sym c.is)
    ∙ ap (λ t. line ∷ lines t) (ap (drop end) c.there ∙ drop-drop end at text)))

module _ (text other : List ℕ) (at count end ends : ℕ) (line expected : List ℕ) (h : AreAlike text other at count)
    (c : Cuts text at line end) (d : Cuts other at expected ends) where
  same-end : line ≡ expected → end ≡ ends
  same-end same =
      let a : length line ≡ end = ap length c.is ∙ length-take-le end c.rest c.within in
      let b : length expected ≡ ends = ap length d.is ∙ length-take-le ends d.rest d.within in
      let e : length line ≡ length expected = ap length same in
      omega (arith, a, b, e)

  pub goes-alike : line ≡ expected → AreAlike text other (at + end) (count + 1)
  goes-alike same =
      let e : alike (lines (drop at text)) (lines (drop at other))
      ≡ alike (lines (drop (at + end) text)) (lines (drop (at + ends) other)) + 1 =
      ap₂ alike (left text at line end c) (left other at expected ends d)
      ∙ next-alike line expected (lines (drop (at + end) text)) (lines (drop (at + ends) other)) same in
      let f : alike (lines (drop (at + end) text)) (lines (drop (at + ends) other))
      ≡ alike (lines (drop (at + end) text)) (lines (drop (at + end) other)) =
      ap (λ n. alike (lines (drop (at + end) text)) (lines (drop (at + n) other))) (sym (same-end same)) in
      omega (arith, h, e, f)

  pub stops-alike : (line ≡ expected → ⊥) → count ≡ alike (lines text) (lines other)
  stops-alike off =
      let e : alike (lines (drop at text)) (lines (drop at other)) ≡ 0 =
      ap₂ alike (left text at line end c) (left other at expected ends d)
      ∙ next-other line expected (lines (drop (at + end) text)) (lines (drop (at + ends) other)) off in
      omega (arith, h, e)
