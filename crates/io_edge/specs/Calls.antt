-- The calls of a source or a sink in memory, some of which are to fail.
use Rattle.std.specs.Prelude.{ℕ, ◌+◌, ◌-◌, ◌^◌, ◌==◌, min, Bool, List}
use Rattle.std.specs.List.{list_any}

-- the calls of a source or a sink: the numbers of those that fail, counted from 0, how many were made, and how many
-- failed
pub record Calls : Type 0 where
  pub failing : List ℕ
  pub made : ℕ
  pub faults : ℕ

-- a count plus one, but never more than a `u64` can hold
abbrev pub count_up : ℕ → ℕ
count_up count = min (count + 1) (2 ^ 64 - 1)

-- the calls before the first one is made
abbrev pub no_calls : List ℕ → Calls
no_calls failing = record { failing = failing; made = 0; faults = 0 }

-- whether the next call is one that fails
abbrev pub next_fails : Calls → Bool
next_fails calls = list_any (λ number. number == calls.made) calls.failing

-- the calls after one more was made
abbrev pub one_more : Calls → Calls
one_more calls = record calls { made = count_up calls.made }

-- the calls after the latest one failed
abbrev pub one_fault : Calls → Calls
one_fault calls = record calls { faults = count_up calls.faults }
