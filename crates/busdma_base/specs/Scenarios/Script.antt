-- Which scripts are valid.
use Rattle.std.specs.Prelude.{◌≡◌, ℕ, ◌+◌, ◌≤◌, Bool, true, false, List, [], length, sum_by, IfSome}
use Rattle.std.specs.List.{AllByRecursion}
use Rattle.std.specs.Option.{option_map_or}
use Rattle.busdma_base.specs.declared.scenarios.script.Op.{Op}
use Rattle.busdma_base.specs.declared.scenarios.script.Op.TheVariants as op
use Rattle.busdma_base.specs.declared.scenarios.script.Item.{Item}
use Rattle.busdma_base.specs.declared.scenarios.script.Item.TheVariants as item
use Rattle.busdma_machine.specs.Each.{EachAfter}
use Rattle.busdma_base.specs.Scenarios.Buffers.{buffer_bytes, buffer_entries, HasClusters, IsFromBegin}
use Rattle.busdma_base.specs.Scenarios.Limits.{access_limit, buffer_limit, entries_limit, steps_limit}
use Rattle.busdma_base.specs.Scenarios.Names.{IsMade, MakesNewName}
use Rattle.busdma_base.specs.Scenarios.Operations.{about, about_item, items_of}

-- an item is a step of a ring
abbrev pub is_ring_step : Item → Bool
is_ring_step (item.Sync map ops) = false
is_ring_step (item.SyncRange map off len ops) = false
is_ring_step (item.DevRead map off len) = false
is_ring_step (item.DevWrite map off bytes) = false
is_ring_step (item.DevReadAt tag addr len) = false
is_ring_step (item.DevWriteAt tag addr bytes) = false
is_ring_step (item.RingStep ring) = true

-- an operation has the kind of items that it can have: a kick has at least one step of its own ring and no other items,
-- and a load has no step of a ring
abbrev pub HasOwnItems : Op → Type 0
HasOwnItems (op.Kick ring steps) =
    (1 ≤ length steps) × AllByRecursion (λ i. i ≡ item.RingStep ring) steps
HasOwnItems (op.Load map buffer flags items) = AllByRecursion (λ i. is_ring_step i ≡ false) items
HasOwnItems (op.Tag name parent limits) = Unit {0}
HasOwnItems (op.IommuTag name limits) = Unit {0}
HasOwnItems (op.TagDestroy tag) = Unit {0}
HasOwnItems (op.Map name tag) = Unit {0}
HasOwnItems (op.MapDestroy map) = Unit {0}
HasOwnItems (op.Dmamem name tag flags) = Unit {0}
HasOwnItems (op.DmamemFree mem) = Unit {0}
HasOwnItems (op.Unload map) = Unit {0}
HasOwnItems (op.Sync map ops) = Unit {0}
HasOwnItems (op.SyncRange map off len ops) = Unit {0}
HasOwnItems (op.CpuRead place len) = Unit {0}
HasOwnItems (op.CpuWrite place bytes) = Unit {0}
HasOwnItems (op.Await map) = Unit {0}
HasOwnItems (op.Ring name mem slots) = Unit {0}
HasOwnItems (op.RingPost ring slot map off len kind fill) = Unit {0}

-- how many operations and items a script has together
abbrev pub steps_of : List Op → ℕ
steps_of script = length script + sum_by (λ o. length (items_of o)) script

-- a valid item: the name that it uses is made by an operation before its own, and it keeps the limits on an access
pub record IsItem (before : List Op) (i : Item) : Type 0 where
  pub made : IsMade before (about_item i).uses
  pub read : (about_item i).reads ≤ access_limit
  pub written : (about_item i).writes ≤ access_limit

-- a valid operation: the name that it makes is new, the names that it uses are made before it, it loads a memory from
-- the memory's first byte, it keeps the limits on an access and on a load, and its items are valid and of its kind
pub record IsOp (before : List Op) (o : Op) : Type 0 where
  pub new : MakesNewName before (about o).makes
  pub made : AllByRecursion (IsMade before) (about o).uses
  pub within : AllByRecursion (IsMade before) (about o).within
  pub whole : IfSome (about o).loads IsFromBegin
  pub read : (about o).reads ≤ access_limit
  pub written : (about o).writes ≤ access_limit
  pub items : AllByRecursion (IsItem before) (about o).items
  pub own_items : HasOwnItems o
  pub listed : option_map_or buffer_entries (about o).loads 0 ≤ entries_limit
  pub loaded : option_map_or buffer_bytes (about o).loads 0 ≤ buffer_limit
  pub clusters : IfSome (about o).loads HasClusters

-- a valid script: each operation is valid after the ones before it, and there are at most `steps_limit` steps
pub record IsScript (script : List Op) : Type 0 where
  pub each : EachAfter IsOp [] script
  pub short : steps_of script ≤ steps_limit
