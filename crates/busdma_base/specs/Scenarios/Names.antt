-- The names that a script makes and uses.
use Rattle.std.specs.Prelude.{◌≡◌, ℕ, Bool, true, false, ◌&&◌, ◌||◌, ◌==◌, List, length, nat_le, if◌then◌else◌}
use Rattle.std.specs.Prelude.{slice_index, Option, Some, None, slice_get}
use Rattle.std.specs.List.{list_all, list_any}
use Rattle.std.specs.Option.{option_map_or}
use Rattle.std.specs.Str.{bytes_eq}
use Rattle.busdma_base.specs.declared.scenarios.script.Op.{Op}
use Rattle.busdma_base.specs.declared.scenarios.operations.NameKind.{NameKind}
use Rattle.busdma_base.specs.declared.scenarios.operations.NameKind.TheVariants as kind
use Rattle.busdma_base.specs.declared.scenarios.operations.NameUse.{NameUse}
use Rattle.busdma_base.specs.declared.scenarios.operations.NameUse.TheVariants as use_as
use Rattle.busdma_base.specs.declared.scenarios.operations.UsedName.{UsedName}
use Rattle.busdma_base.specs.Scenarios.Operations.{Made, about}

-- the byte is a letter from a to z
abbrev pub is_letter : ℕ → Bool
is_letter b = nat_le 97 b && nat_le b 122

-- the byte can be in a name: it is a letter from a to z, a digit or an underscore
abbrev pub in_name : ℕ → Bool
in_name b = is_letter b || (nat_le 48 b && nat_le b 57) || (b == 95)

-- a text can be a name: it has 1 to 32 letters from a to z, digits and underscores, and begins with a letter
abbrev pub is_name : List ℕ → Bool
is_name s =
    if nat_le 1 (length s) && nat_le (length s) 32 && is_letter (slice_index s 0) then list_all in_name s else false

-- the thing is a tag that is not an IOMMU tag
abbrev pub is_tag : NameKind → Bool
is_tag kind.Tag = true
is_tag kind.IommuTag = false
is_tag kind.Map = false
is_tag kind.Memory = false
is_tag kind.Ring = false

-- the thing is an IOMMU tag
abbrev pub is_iommu_tag : NameKind → Bool
is_iommu_tag kind.Tag = false
is_iommu_tag kind.IommuTag = true
is_iommu_tag kind.Map = false
is_iommu_tag kind.Memory = false
is_iommu_tag kind.Ring = false

-- the thing is a map that is not a memory's own
abbrev pub is_map : NameKind → Bool
is_map kind.Tag = false
is_map kind.IommuTag = false
is_map kind.Map = true
is_map kind.Memory = false
is_map kind.Ring = false

-- the thing is a dmamem memory together with its own map
abbrev pub is_memory : NameKind → Bool
is_memory kind.Tag = false
is_memory kind.IommuTag = false
is_memory kind.Map = false
is_memory kind.Memory = true
is_memory kind.Ring = false

-- the thing is a ring
abbrev pub is_ring : NameKind → Bool
is_ring kind.Tag = false
is_ring kind.IommuTag = false
is_ring kind.Map = false
is_ring kind.Memory = false
is_ring kind.Ring = true

-- a thing of this kind can be used in this way; a memory can also be used as a map, except if the map must not be a
-- memory's own
abbrev pub accepts : NameUse → NameKind → Bool
accepts use_as.Tag k = is_tag k
accepts use_as.IommuTag k = is_iommu_tag k
accepts use_as.AnyTag k = is_tag k || is_iommu_tag k
accepts use_as.Map k = is_map k || is_memory k
accepts use_as.MapAlone k = is_map k
accepts use_as.Memory k = is_memory k
accepts use_as.Ring k = is_ring k

-- the operation makes the name, for a thing that can be used in this way
abbrev pub makes_for : NameUse → List ℕ → Op → Bool
makes_for u name o = option_map_or (λ made. accepts u made.kind && bytes_eq made.name name) (about o).makes false

-- the operation makes the name, for a thing of any kind
abbrev pub makes : List ℕ → Op → Bool
makes name o = option_map_or (λ made. bytes_eq made.name name) (about o).makes false

-- the operation makes a thing that can be used in this way
abbrev pub makes_used : NameUse → Op → Bool
makes_used u o = option_map_or (λ made. accepts u made.kind) (about o).makes false

-- a new name: it is well formed, and none of the operations before makes it
pub record IsNewName (before : List Op) (name : List ℕ) : Type 0 where
  pub well_formed : is_name name ≡ true
  pub fresh : list_any (makes name) before ≡ false

-- the name that an operation makes, if it makes one, is new
abbrev pub MakesNewName : List Op → Option Made → Type 0
MakesNewName before None = Unit {0}
MakesNewName before (Some made) = IsNewName before made.name

-- the operation at the place of a used name comes before, and makes a thing that can be used in this way
abbrev pub IsMade : List Op → UsedName → Type 0
IsMade before used = option_map_or (makes_used used.used_as) (slice_get before used.made_at) false ≡ true
