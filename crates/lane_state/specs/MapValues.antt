-- A finite map in which each value is replaced by a function of it.
use Rattle.std.specs.Prelude.{ℕ, List, map}
use Rattle.std.specs.Ordering.{nat_cmp}
use Rattle.std.specs.FinMap.{FinMap, entries, from_sorted}

-- the entries, each with its value replaced by a function of it
abbrev pub entry_values : {X Y : Type 0} → (X → Y) → List (ℕ × X) → List (ℕ × Y)
entry_values f es = map (λ e. (e.0, f e.1)) es

-- the finite map with each of its values replaced by a function of it
unfoldable pub map_values : {X Y : Type 0} → (X → Y) → FinMap nat_cmp X → FinMap nat_cmp Y
map_values f m = from_sorted (entry_values f (entries m))
