-- What it means that the things which a driver holds are apart.
use Rattle.std.specs.Prelude.{◌≡◌, ℕ, true, false, Some, slice_get, is_some}
use Rattle.std.specs.FinMap.{get}
use Rattle.busdma_machine.specs.Bounce.MemoryRuns.{in_run}
use Rattle.busdma_base.specs.Scenarios.PageRuns.{is_own}
use Rattle.ideal_lane.specs.State.{LaneState, LaneMemory}
use Rattle.ideal_lane.specs.Unloads.{pages_of}
use Rattle.ideal_wire.specs.Traces.{stage_at}

-- a map holds a page, at a place in the list of its pages
abbrev pub HoldsPage : LaneState → ℕ → ℕ → ℕ → Type 0
HoldsPage l m i page = slice_get (pages_of (stage_at l m)) i ≡ Some page

-- a page that a map holds has no byte of the driver's own, and is at one place of one map only; a byte of a memory is
-- not in the driver's pages, nor in another memory
pub record IsApart (l : LaneState) : Type 0 where
  pub away : (m i page a : ℕ) → HoldsPage l m i page → in_run page 1 a ≡ true → is_some (l.memory a) ≡ false
  pub one : (m n i j page : ℕ) → HoldsPage l m i page → HoldsPage l n j page → (m ≡ n) × (i ≡ j)
  pub pages : (k a : ℕ) (x : LaneMemory) → get l.mems k ≡ Some x → in_run x.first x.count a ≡ true →
      is_own l.pages a ≡ false
  pub memories : (j k a : ℕ) (x y : LaneMemory) → get l.mems j ≡ Some x → get l.mems k ≡ Some y →
      in_run x.first x.count a ≡ true → in_run y.first y.count a ≡ true → j ≡ k
