-- What `parse` returns for a word that should write a number.
use Rattle.std.proofs.Common.{◌≡◌, ◌≢◌, ◌∙◌, ℕ, ◌<◌, ◌≤◌, ◌^◌, ◌&&◌, Bool, cond, true, false, List, length, get_or}
use Rattle.std.proofs.Common.{arith, refl, ap, subst}
use Rattle.std.proofs.Common.{Some, None, nat_le, nat_lt}
use Rattle.std.proofs.lemmas.Bool.Decides.{nat_tests}
use Rattle.std.specs.Str.{all_ascii_digits}
use Rattle.std.specs.Str.Parse.{IsNumeral, digits_value, without_leading_plus}
use Rattle.std.proofs.lemmas.Str.Parse.{numerals_by_value, tells_all_ascii_digits, without_leading_plus_none}
use Rattle.clap.proofs.WalkLemmas.{both}
use Rattle.program_rules.specs.Commands.Words.{is_numeral, number, writes_number}

-- the digits write a number of 64 bits
abbrev Numeral : List ℕ → Type 0
Numeral digits = IsNumeral 10 digits × (digits_value 10 digits < 2 ^ 64)

-- a numeral that was read is the number, if it is from 1 to `most`
pub number_good : (most : ℕ) (word : List ℕ) (n : ℕ) → length word ≤ 20
    → get_or word 0 0 ≢ 43 → Numeral (without_leading_plus word) × (n ≡ digits_value 10 (without_leading_plus word))
    → 1 ≤ n → n ≤ most
    → Some n ≡ number most word
number_good most word n short unsigned read least within =
    let is = subst (λ (t : List ℕ). Numeral t × (n ≡ digits_value 10 t))
    (without_leading_plus_none word unsigned) read in
    let some : nat_lt 0 (length word) ≡ true = grind (arith, nat_tests, is.0.0.0) in
    let few : nat_le (length word) 20 ≡ true = grind (arith, nat_tests, short) in
    let digits : all_ascii_digits word ≡ true =
    (numerals_by_value _ tells_all_ascii_digits).from word is.0.0.1 in
    let from_1 : nat_le 1 (digits_value 10 word) ≡ true = grind (arith, nat_tests, is.1, least) in
    let to_most : nat_le (digits_value 10 word) most ≡ true = grind (arith, nat_tests, is.1, within) in
    ap Some is.1 ∙ rw (some, few, digits, from_1, to_most) refl

-- a word that is not read as a numeral of 64 bits is no number
pub number_bad : (most : ℕ) (word : List ℕ) → get_or word 0 0 ≢ 43
    → (Numeral (without_leading_plus word) → ⊥) → most < 2 ^ 64 → None ≡ number most word
number_bad most word unsigned read fits = go (writes_number most word) refl
  where
    go : (b : Bool) → writes_number most word ≡ b → None ≡ cond b (Some (digits_value 10 word)) None
    go false is = refl
    go true is =
        let parts = both (is_numeral word) (nat_le 1 (digits_value 10 word) && nat_le (digits_value 10 word) most) is in
        let numeral = both (nat_lt 0 (length word)) (nat_le (length word) 20 && all_ascii_digits word) parts.0 in
        let digits = both (nat_le (length word) 20) (all_ascii_digits word) numeral.1 in
        let within = both (nat_le 1 (digits_value 10 word)) (nat_le (digits_value 10 word) most) parts.1 in
        let some : 0 < length word = grind (arith, nat_tests, numeral.0) in
        let small : digits_value 10 word < 2 ^ 64 = grind (arith, nat_tests, within.1, fits) in
        let all = (numerals_by_value (λ ds. all_ascii_digits ds ≡ true) tells_all_ascii_digits).to word digits.1 in
        absurd (subst (λ (t : List ℕ). Numeral t → ⊥) {x = without_leading_plus word} {y = word}
        (without_leading_plus_none word unsigned) read ((some, all), small))
