-- An access of a device that code plays: it makes no step, and no other driver sees it.
use Rattle.std.specs.Prelude.{◌≡◌, ◌⊎◌, Result, Err}
use Rattle.busdma_base.specs.declared.journals.answer.Answer.{Answer}
use Rattle.bus_dma.specs.declared.failure.DmaError.{DmaError}
use Rattle.bus_dma.specs.declared.failure.DmaError.TheVariants.{OutOfMemory}
use Rattle.ideal_lane.specs.Asking.{Asking, Gives}
use Rattle.ideal_lane.specs.Outcomes.{Outcome}
use Rattle.ideal_lane.specs.State.{LaneState}

-- an access was done as the ideal driver does it
pub record IsAccessed {R : Type 0} (As : Result R DmaError → Answer → Type 0) (access : Asking Outcome)
    (r : Result R DmaError) (n : LaneState) : Type 0 where
  pub answer : Answer
  pub done : Gives (record { lane = n; answer = answer }) ≡ access
  pub result : As r answer

-- it was done; or memory ran out, and the driver is as it was
abbrev pub IsAccess : {R : Type 0} → (Result R DmaError → Answer → Type 0) → Asking Outcome → LaneState →
    Result R DmaError → LaneState → Type 0
IsAccess As access l r n = IsAccessed As access r n ⊎ ((r ≡ Err OutOfMemory) × (n ≡ l))
