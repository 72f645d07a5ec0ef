-- The first place of a byte in a text, and the first line of a text.
use Rattle.std.proofs.Common.{◌≡◌, ℕ, zero, suc, ◌+◌, ◌<◌, ◌≤◌, ◌==◌, Bool, true, false, cond, not, List, [], ◌∷◌, ◌++◌}
use Rattle.std.proofs.Common.{length, take, drop}
use Rattle.std.proofs.Common.{Option, Some, None, refl, sym, ap, ◌∙◌, arith, nat_lt, if◌then◌else◌, length-append}
use Rattle.std.proofs.lemmas.Bool.Decides.{nat_tests}
use Rattle.std.proofs.lemmas.List.{take_all, drop_all}
use Rattle.std.specs.List.{list_all, onto_first, position, position_or_len}
use Rattle.program_rules.specs.Verdicts.TextLines.{lines}
use Rattle.journal_check.proofs.Lines.{over, and-both}

-- the first place of a byte, or the end
abbrev pub first : ℕ → List ℕ → ℕ
first byte text = position_or_len (λ b. b == byte) text

-- ---- the first line

abbrev FirstLine : List ℕ → Type 0
FirstLine text = lines text ≡ take (first 10 text + 1) text ∷ lines (drop (first 10 text + 1) text)

pub first-line : (b : ℕ) (bs : List ℕ) → FirstLine (b ∷ bs)
first-line b [] = by (b == 10)
  where
    by : (c : Bool) → (if c then (b ∷ []) ∷ [] else (b ∷ []) ∷ [])
        ≡ take (cond (not c) (1 + 0) 0 + 1) (b ∷ []) ∷ lines (drop (cond (not c) (1 + 0) 0 + 1) (b ∷ []))
    by true = refl
    by false = refl
first-line b (x ∷ bs) = by (b == 10) (first-line x bs)
  where
    by : (c : Bool) → FirstLine (x ∷ bs) → (if c then (b ∷ []) ∷ lines (x ∷ bs) else onto_first b (lines (x ∷ bs)))
        ≡ take (cond (not c) (1 + first 10 (x ∷ bs)) 0 + 1) (b ∷ x ∷ bs)
        ∷ lines (drop (cond (not c) (1 + first 10 (x ∷ bs)) 0 + 1) (b ∷ x ∷ bs))
    by true rest = refl
    by false rest =
        let e : (1 + first 10 (x ∷ bs)) + 1 ≡ suc (first 10 (x ∷ bs) + 1) = omega arith in
        rw e (ap (onto_first b) rest)

first-of : (text : List ℕ) → 0 < length text → FirstLine text
first-of [] some = absurd (omega (arith, some))
first-of (b ∷ bs) some = first-line b bs

found : (text : List ℕ) (at m : ℕ) → (if nat_lt m (length text) then Some m else None) ≡ Some at → m ≡ at
found text at m h = by (nat_lt m (length text)) h
  where
    by : (c : Bool) → (if c then Some m else None) ≡ Some at → m ≡ at
    by true k = cc
    by false k = absurd (cc)

missed : (text : List ℕ) (m : ℕ) → (if nat_lt m (length text) then Some m else None) ≡ None → length text ≤ m
missed text m h = by (nat_lt m (length text)) refl h
  where
    by : (c : Bool) → nat_lt m (length text) ≡ c → (if c then Some m else None) ≡ None → length text ≤ m
    by true e k = absurd (cc)
    by false e k = grind (arith, nat_tests)

-- a line ends after its line feed
pub cut-at : (text : List ℕ) (at : ℕ) → 0 < length text → position (λ b. b == 10) text ≡ Some at →
    lines text ≡ take (at + 1) text ∷ lines (drop (at + 1) text)
cut-at text at some h =
    let same : first 10 text ≡ at = found text at (first 10 text) h in
    first-of text some ∙ ap (λ n. take (n + 1) text ∷ lines (drop (n + 1) text)) same

-- without a line feed, a line ends with the text
pub cut-last : (text : List ℕ) → 0 < length text → position (λ b. b == 10) text ≡ None →
    lines text ≡ take (length text) text ∷ lines (drop (length text) text)
cut-last text some h =
    let far : length text ≤ first 10 text = missed text (first 10 text) h in
    let n : ℕ = first 10 text + 1 in
    let own : length text ≤ length text = omega arith in
    first-of text some ∙ (ap (λ t. t ∷ lines (drop n text)) (take_all n text (omega (arith, far))
    ∙ sym (take_all (length text) text own))
    ∙ ap (λ t. take (length text) text ∷ lines t) (drop_all n text (omega (arith, far))
    ∙ sym (drop_all (length text) text own)))

-- ---- the first word

-- a byte follows a word whose bytes are above it
pub first-behind : (byte : ℕ) (word rest : List ℕ) → over byte word ≡ true → first byte (word ++ byte ∷ rest)
    ≡ length word
first-behind byte [] rest h = by (byte == byte) (grind (arith, nat_tests))
  where
    by : (c : Bool) → c ≡ true → cond (not c) (1 + first byte rest) 0 ≡ 0
    by true e = refl
    by false e = absurd (cc)
first-behind byte (b ∷ word) rest h =
    let high = and-both (nat_lt byte b) (over byte word) h in
    let high0 : nat_lt byte b ≡ true = high.0 in
    let off : (b == byte) ≡ false = grind (arith, nat_tests) in
    rw off (omega (arith, first-behind byte word rest high.1))

pub word-end : (byte : ℕ) (text word rest : List ℕ) → over byte word ≡ true → text ≡ word ++ byte ∷ rest →
    position (λ b. b == byte) text ≡ Some (length word)
word-end byte text word rest h is =
    let e : first byte text ≡ length word = ap (first byte) is ∙ first-behind byte word rest h in
    let long : length text ≡ length word + suc (length rest) = ap length is ∙ length-append word (byte ∷ rest) in
    rw e (by (nat_lt (length word) (length text)) (grind (arith, nat_tests)))
  where
    by : (c : Bool) → c ≡ true → (if c then Some (length word) else None) ≡ Some (length word)
    by true e = refl
    by false e = absurd (cc)
