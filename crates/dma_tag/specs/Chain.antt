-- Chains of tags, in which each is the child of the one before it. The law is this project's own.
use Rattle.std.specs.Prelude.{◌≡◌, ◌≢◌, ◌-◌, ◌≤◌, ℕ, List, map, length, All, Contains, slice_index_or}
use Rattle.busdma_machine.specs.declared.tags.tag.TagLimits.{TagLimits}
use Rattle.busdma_machine.specs.Tags.Tag.{frame_end, segment_limit}

-- The number is in the list, and none is greater.
pub record IsGreatest (xs : List ℕ) (x : ℕ) : Type 0 where
  pub within : Contains xs x
  pub bound : All (λ y. y ≤ x) xs

-- The number is in the list, and none is less.
pub record IsLeast (xs : List ℕ) (x : ℕ) : Type 0 where
  pub within : Contains xs x
  pub bound : All (λ y. x ≤ y) xs

-- The boundary is the least of those that are not 0, or 0 if all are 0.
pub record IsLeastBoundary (xs : List ℕ) (x : ℕ) : Type 0 where
  pub within : x ≢ 0 → Contains xs x
  pub bound : All (λ y. y ≢ 0 → (x ≢ 0) × (x ≤ y)) xs

-- The tag's alignment, boundary, lowaddr and highaddr are each the strictest in the chain.
pub record IsNarrowest (chain : List TagLimits) (t : TagLimits) : Type 0 where
  pub alignment : IsGreatest (map (λ s. s.alignment) chain) t.alignment
  pub boundary : IsLeastBoundary (map (λ s. s.boundary) chain) t.boundary
  pub lowaddr : IsLeast (map (λ s. frame_end s.lowaddr.0) chain) t.lowaddr.0
  pub highaddr : IsGreatest (map (λ s. frame_end s.highaddr.0) chain) t.highaddr.0

-- The limits that a tag takes only from its own arguments: sizes, number of segments, and flags.
pub record IsOwn (s t : TagLimits) : Type 0 where
  pub maxsize : t.maxsize ≡ s.maxsize
  pub nsegments : t.nsegments ≡ s.nsegments
  pub maxsegsz : t.maxsegsz ≡ segment_limit s
  pub flags : t.flags ≡ s.flags

-- The last limits of a chain.
abbrev pub last_of : TagLimits → List TagLimits → TagLimits
last_of first rest = slice_index_or rest (length rest - 1) first
