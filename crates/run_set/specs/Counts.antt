-- How many runs hold a number, by the starts and the ends of runs.
use Rattle.std.specs.Prelude.{◌⊎◌, ℕ, zero, suc, ◌+◌, ◌-◌, ◌≤◌, Bool, true, false, List, refl}
use Rattle.std.specs.Coded.{Coded, code_by, coded×, coded_ℕ, coded_list}
use Rattle.run_set.specs.Numbers.{count_le, Climbs, IsAbsent}

-- the starts and the ends, each as often as it is kept, and for how many changes there is room
pub record Counts : Type 0 where
  pub starts : List ℕ
  pub ends : List ℕ
  pub room : ℕ

-- counts as numbers and lists
abbrev pub counts_code : Coded Counts
counts_code =
    code_by (List ℕ × (List ℕ × ℕ)) (coded× (coded_list coded_ℕ) (coded× (coded_list coded_ℕ) coded_ℕ))
    (λ s. (s.starts, (s.ends, s.room)))
    (λ p. record { starts = p.0; ends = p.1.0; room = p.1.1 }) (λ _. refl)

-- how many runs hold n
abbrev pub count_of : List ℕ → List ℕ → ℕ → ℕ
count_of starts ends n = count_le starts n - count_le ends n

-- how often runs hold the numbers from 0 to n, in all
abbrev pub held_to : List ℕ → List ℕ → ℕ → ℕ
held_to starts ends zero = count_of starts ends 0
held_to starts ends (suc n) = held_to starts ends n + count_of starts ends (suc n)

-- how many runs of counts hold n
abbrev pub count : Counts → ℕ → ℕ
count c n = count_of c.starts c.ends n

-- how many runs hold a number after a change: one more or one fewer if the number is in the changed run
abbrev pub changed : Bool → Bool → ℕ → ℕ
changed up false n = n
changed true true n = n + 1
changed false true n = n - 1

-- no number is in both lists
abbrev pub NoneInCommon : List ℕ → List ℕ → Type 0
NoneInCommon first second = (n : ℕ) → IsAbsent first n ⊎ IsAbsent second n

-- what is true of all starts and ends
pub record IsBalanced (starts ends : List ℕ) : Type 0 where
  pub starts_climb : Climbs 0 starts
  pub ends_climb : Climbs 0 ends
  pub enough : (n : ℕ) → count_le ends n ≤ count_le starts n
  pub apart : NoneInCommon starts ends
