-- The bounds of a storm that words ask for, and the words that ask for a run.
use Rattle.std.proofs.Common.{◌≡◌, ◌≤◌, ◌<◌, ◌^◌, ◌-◌, ◌&&◌, ◌↔◌, ◌∙◌, ℕ, Bool, cond, true, false, List, [], ◌∷◌, codes}
use Rattle.std.proofs.Common.{length, map, refl, sym, ap, arith, get_or, Option, Some, None, nat_le}
use Rattle.std.specs.Bool.{IsTrue}
use Rattle.std.specs.Str.{bytes_eq}
use Rattle.std.specs.Str.Parse.{digits_value}
use Rattle.std.proofs.lemmas.Bool.Decides.{nat_tests}
use Rattle.std.proofs.lemmas.Slice.Eq.{bytes_eq-Decides}
use Rattle.clap.proofs.WalkLemmas.{both}
use Rattle.program_rules.specs.declared.command.Command.{Command}
use Rattle.program_rules.specs.declared.command.Command.TheVariants.{Replay, Run, Storm, Check}
use Rattle.program_rules.specs.Commands.Words.{command, is_numeral, number}
use Rattle.command_words.specs.Command.{run_words}
use Rattle.program_rules.specs.Commands.Words.{storm_command, storm_of, writes_number}

number_bounds : (most : ℕ) (word : List ℕ) (k : ℕ) → number most word ≡ Some k → (1 ≤ k) × (k ≤ most)
number_bounds most word k = go (writes_number most word) refl
  where
    go : (b : Bool) → writes_number most word ≡ b → cond b (Some (digits_value 10 word)) None ≡ Some k
        → (1 ≤ k) × (k ≤ most)
    go false writes is = absurd (cc)
    go true writes is =
        let same : digits_value 10 word ≡ k = cc in
        let parts = both (is_numeral word) (nat_le 1 (digits_value 10 word) && nat_le (digits_value 10 word) most)
        writes in
        let within = both (nat_le 1 (digits_value 10 word)) (nat_le (digits_value 10 word) most) parts.1 in
        (grind (arith, nat_tests, within.0, same), grind (arith, nat_tests, within.1, same))

abbrev Small : ℕ → ℕ → Type 0
Small n seed = (1 ≤ n) × (n ≤ 256) × (1 ≤ seed)

made_of : (x y : Option ℕ) (n seed : ℕ) → storm_of x y ≡ Some (Storm n seed)
    → (x ≡ Some n) × (y ≡ Some seed)
made_of (Some a) (Some b) n seed is =
    let first : a ≡ n = cc in
    let second : b ≡ seed = cc in
    (ap Some first, ap Some second)
made_of (Some a) None n seed is = absurd (cc)
made_of None y n seed is = absurd (cc)

storm_small : (first second : List ℕ) (n seed : ℕ) → storm_command first second ≡ Some (Storm n seed) → Small n seed
storm_small first second n seed is =
    let parts = made_of (number 256 first) (number (2 ^ 64 - 1) second) n seed is in
    let few = number_bounds 256 first n parts.0 in
    (few.0, few.1, (number_bounds (2 ^ 64 - 1) second seed parts.1).0)

-- a single word asks for no storm
no_storm_alone : (a b c : Bool) (n seed : ℕ)
    → cond a (Some Replay) (cond b (Some Run) (cond c (Some Check) None)) ≡ Some (Storm n seed) → ⊥
no_storm_alone true b c n seed is = cc
no_storm_alone false true c n seed is = cc
no_storm_alone false false true n seed is = cc
no_storm_alone false false false n seed is = cc

chosen : (b : Bool) (c : Option Command) (n seed : ℕ) → cond b c None ≡ Some (Storm n seed)
    → c ≡ Some (Storm n seed)
chosen true c n seed is = is
chosen false c n seed is = absurd (cc)

pub storm_bounds : (words : List (List ℕ)) (n seed : ℕ) → command words ≡ Some (Storm n seed) → Small n seed
storm_bounds [] n seed is = absurd (cc)
storm_bounds (word ∷ []) n seed is =
    absurd (no_storm_alone (bytes_eq word (codes "replay")) (bytes_eq word (codes "run"))
    (bytes_eq word (codes "check")) n seed is)
storm_bounds (word ∷ first ∷ []) n seed is = absurd (cc)
storm_bounds (word ∷ first ∷ second ∷ []) n seed is =
    storm_small first second n seed (chosen (bytes_eq word (codes "storm")) (storm_command first second) n seed is)
storm_bounds (word ∷ first ∷ second ∷ third ∷ more) n seed is = absurd (cc)

no_run_chosen : (b : Bool) (first second : List ℕ) → cond b (storm_command first second) None ≡ Some Run → ⊥
no_run_chosen true first second is = no_run_made (number 256 first) (number (2 ^ 64 - 1) second) is
  where
    no_run_made : (x y : Option ℕ) → storm_of x y ≡ Some Run → ⊥
    no_run_made (Some a) (Some b) made = cc
    no_run_made (Some a) None made = cc
    no_run_made None y made = cc
no_run_chosen false first second is = cc

-- only the word `run` asks for a run
pub run_alone : (words : List (List ℕ)) → command words ≡ Some Run → words ≡ run_words
run_alone [] is = absurd (cc)
run_alone (word ∷ []) is =
    go (bytes_eq word (codes "replay")) (bytes_eq word (codes "run")) (bytes_eq word (codes "check")) refl is
  where
    go : (a b c : Bool) → bytes_eq word (codes "run") ≡ b
        → cond a (Some Replay) (cond b (Some Run) (cond c (Some Check) None)) ≡ Some Run → word ∷ [] ≡ run_words
    go true b c same chosen = absurd (cc)
    go false true c same chosen = ap (λ w. w ∷ []) ((bytes_eq-Decides word (codes "run")).0 same)
    go false false true same chosen = absurd (cc)
    go false false false same chosen = absurd (cc)
run_alone (word ∷ first ∷ []) is = absurd (cc)
run_alone (word ∷ first ∷ second ∷ []) is =
    absurd (no_run_chosen (bytes_eq word (codes "storm")) first second is)
run_alone (word ∷ first ∷ second ∷ third ∷ more) is = absurd (cc)

-- whether one word is `run`
pub one_word_is : {A : Type 0} (f : A → List ℕ) (xs : List A) (x : A) (b : Bool) → 1 ≤ length xs → length xs < 2
    → x ≡ get_or xs 0 x → b ≡ bytes_eq (f x) (codes "run") → IsTrue b ↔ (map f xs ≡ run_words)
one_word_is f [] x b some few first is = absurd (omega (arith, some))
one_word_is f (y ∷ z ∷ more) x b some few first is = absurd (omega (arith, few))
one_word_is f (y ∷ []) x b some few first is = (
  λ true_. ap (λ w. w ∷ []) (ap f (sym first) ∙ (bytes_eq-Decides (f x) (codes "run")).0 (sym is ∙ true_)),
  λ same.
      let alone : f y ≡ codes "run" = cc in
      is ∙ (bytes_eq-Decides (f x) (codes "run")).1 (ap f first ∙ alone),
)
