-- Operations of a script, found by the names that they make.
use Rattle.std.specs.Prelude.{◌≡◌, ℕ, List, String, Some, true, false, slice_get}
use Rattle.std.specs.BTreeMap.{BTreeMap, get_by_text}
use Rattle.std.specs.Option.{option_map_or}
use Rattle.busdma_base.specs.declared.scenarios.script.Op.{Op}
use Rattle.busdma_base.specs.Scenarios.Names.{makes}

-- the operation at a place makes the name
abbrev pub IsMadeAt : List Op → List ℕ → ℕ → Type 0
IsMadeAt ops name place = option_map_or (makes name) (slice_get ops place) false ≡ true

-- the index has exactly the names that operations make, each with the place of the operation that makes it
pub record IsIndex {Y : Type 0} (places : BTreeMap (String Y) ℕ) (ops : List Op) : Type 0 where
  pub has : (name : List ℕ) (place : ℕ) → IsMadeAt ops name place → get_by_text places name ≡ Some place
  pub made : (name : List ℕ) (place : ℕ) → get_by_text places name ≡ Some place → IsMadeAt ops name place
