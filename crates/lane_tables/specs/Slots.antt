-- How a table of values by script place is kept: a list names, for each place, the key of its value in a slab.
use Rattle.std.specs.Prelude.{◌≡◌, ℕ, ◌<◌, ◌^◌, List, length, map, Option, Some, None, slice_index_or}
use Rattle.std.specs.Ordering.{nat_cmp}
use Rattle.std.specs.FinMap.{FinMap, from_sorted}
use Rattle.slab.specs.Slab.{Slab, get, ContainsKey, entries_from}

module _ {T : Type 0} where
  -- the value under a key, if there is one
  abbrev pub value_under : Slab T → Option ℕ → Option T
  value_under slab None = None
  value_under slab (Some key) = get slab key

  -- for each place, its value or nothing
  abbrev pub slots : List (Option ℕ) → Slab T → List (Option T)
  slots keys slab = map (value_under slab) keys

  -- the map from places to their values
  abbrev pub by_place : List (Option ℕ) → Slab T → FinMap nat_cmp T
  by_place keys slab = from_sorted (entries_from 0 (slots keys slab))

  -- each key has a value and is kept for one place only, and places are numbers of 32 bits
  pub record IsKept (keys : List (Option ℕ)) (slab : Slab T) : Type 0 where
    pub present : (place key : ℕ) → slice_index_or keys place None ≡ Some key → ContainsKey slab key
    pub once : (place other key : ℕ) → slice_index_or keys place None ≡ Some key →
        slice_index_or keys other None ≡ Some key → place ≡ other
    pub few : length keys < 2 ^ 32
