-- No command has a word that begins with a hyphen.
use Rattle.std.proofs.Common.{◌≡◌, ℕ, ◌||◌, ◌&&◌, Bool, cond, true, false, true≢false, eqb-true, List, [], ◌∷◌, length}
use Rattle.std.proofs.Common.{codes, refl, sym, ap, subst, ◌∙◌, Option, Some, None, nat_le, nat_lt, ◌^◌, ◌-◌}
use Rattle.std.specs.Str.{bytes_eq, all_ascii_digits}
use Rattle.std.specs.Str.Parse.{digits_value}
use Rattle.std.specs.List.{list_any}
use Rattle.std.proofs.lemmas.Slice.Eq.{bytes_eq-Decides}
use Rattle.clap.proofs.WalkLemmas.{both}
use Rattle.program_rules.specs.Commands.Words.{command, is_numeral, number, storm_of, writes_number}
use Rattle.command_words.specs.Line.{is_flag}

-- a word that begins with a hyphen is not a text that does not
other_text : (word text : List ℕ) → is_flag word ≡ true → is_flag text ≡ false → bytes_eq word text ≡ false
other_text word text flag plain = go (bytes_eq word text) refl
  where
    go : (b : Bool) → bytes_eq word text ≡ b → b ≡ false
    go false is = refl
    go true is =
        let same : is_flag word ≡ is_flag text = ap is_flag ((bytes_eq-Decides word text).0 is) in
        absurd (true≢false (sym flag ∙ (same ∙ plain)))

not_digits : (word : List ℕ) → is_flag word ≡ true → all_ascii_digits word ≡ true → ⊥
not_digits [] flag digits = true≢false (sym flag)
not_digits (x ∷ xs) flag digits =
    let hyphen : x ≡ 45 = eqb-true _ _ flag in
    let bad : all_ascii_digits (45 ∷ xs) ≡ true =
    subst (λ (y : ℕ). all_ascii_digits (y ∷ xs) ≡ true) hyphen digits in
    true≢false (sym bad)

-- a word that begins with a hyphen writes no number
no_number : (most : ℕ) (word : List ℕ) → is_flag word ≡ true → number most word ≡ None
no_number most word flag = go (writes_number most word) refl
  where
    go : (b : Bool) → writes_number most word ≡ b → cond b (Some (digits_value 10 word)) None ≡ None
    go false is = refl
    go true is =
        let parts = both (is_numeral word) (nat_le 1 (digits_value 10 word) && nat_le (digits_value 10 word) most) is in
        let numeral = both (nat_lt 0 (length word)) (nat_le (length word) 20 && all_ascii_digits word) parts.0 in
        let digits = both (nat_le (length word) 20) (all_ascii_digits word) numeral.1 in
        absurd (not_digits word flag digits.1)

no_seed : (n : Option ℕ) → storm_of n None ≡ None
no_seed (Some n) = refl
no_seed None = refl

one_word : (word : List ℕ) (a : Bool) → is_flag word ≡ a → (a || false) ≡ true → command (word ∷ []) ≡ None
one_word word true flag some =
    rw (
      other_text word (codes "replay") flag refl,
      other_text word (codes "run") flag refl,
      other_text word (codes "check") flag refl,
    )
    refl
one_word word false flag some = absurd (true≢false (sym some))

three_words : (word n seed : List ℕ) (a b c : Bool) → is_flag word ≡ a → is_flag n ≡ b → is_flag seed ≡ c
    → (a || (b || (c || false))) ≡ true → command (word ∷ n ∷ seed ∷ []) ≡ None
three_words word n seed true b c flag of_n of_seed some = rw (other_text word (codes "storm") flag refl) refl
three_words word n seed false true c of_word flag of_seed some =
    storm_none (bytes_eq word (codes "storm")) (ap (λ x. storm_of x (number (2 ^ 64 - 1) seed)) (no_number 256 n flag))
  where
    storm_none : (b : Bool) → storm_of (number 256 n) (number (2 ^ 64 - 1) seed) ≡ None
        → cond b (storm_of (number 256 n) (number (2 ^ 64 - 1) seed)) None ≡ None
    storm_none true is = is
    storm_none false is = refl
three_words word n seed false false true of_word of_n flag some =
    storm_none (bytes_eq word (codes "storm"))
    (ap (storm_of (number 256 n)) (no_number (2 ^ 64 - 1) seed flag) ∙ no_seed (number 256 n))
  where
    storm_none : (b : Bool) → storm_of (number 256 n) (number (2 ^ 64 - 1) seed) ≡ None
        → cond b (storm_of (number 256 n) (number (2 ^ 64 - 1) seed)) None ≡ None
    storm_none true is = is
    storm_none false is = refl
three_words word n seed false false false of_word of_n of_seed some = absurd (true≢false (sym some))

pub flags_ask_nothing : (words : List (List ℕ)) → list_any is_flag words ≡ true → command words ≡ None
flags_ask_nothing [] some = refl
flags_ask_nothing (word ∷ []) some = one_word word (is_flag word) refl some
flags_ask_nothing (word ∷ n ∷ []) some = refl
flags_ask_nothing (word ∷ n ∷ seed ∷ []) some =
    three_words word n seed (is_flag word) (is_flag n) (is_flag seed) refl refl refl some
flags_ask_nothing (word ∷ n ∷ seed ∷ next ∷ more) some = refl
