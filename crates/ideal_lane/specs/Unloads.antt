-- Unloading, and pages on their way back to their zones.
use Rattle.std.specs.Prelude.{ℕ, ◌==◌, ◌/◌, List, [], ◌∷◌, Option, Some, None, if◌then◌else◌}
use Rattle.std.specs.FinMap.{get, insert, remove}
use Rattle.busdma_base.specs.declared.journals.answer.Answer.TheVariants.{Done}
use Rattle.busdma_machine.specs.declared.machine.address.Segment.{Segment}
use Rattle.busdma_rules.specs.Iommu.Space.{run_unmapped}
use Rattle.lane_agreement.specs.View.{Return, returning}
use Rattle.busdma_rules.specs.Lending.SyncEffects.{lost_by_forgetting}
use Rattle.ideal_lane.specs.IdealMemory.{forgotten}
use Rattle.ideal_lane.specs.State.{LaneState, LaneMap, Stage, Idle, Waiting, Loaded, Returning}
use Rattle.ideal_lane.specs.Asking.{Asking}
use Rattle.ideal_lane.specs.Outcomes.{Outcome, gives, unless_unloaded}
use Rattle.ideal_lane.specs.Loads.{unpaged}
use Rattle.ideal_lane.specs.Tags.{with_space}

-- the bounce pages that a map at this stage holds, in the order of its chunks
abbrev pub pages_of : Stage → List ℕ
pages_of Idle = []
pages_of (Waiting w) = []
pages_of (Loaded bounced segments pages) = pages
pages_of Returning = []

-- the driver after a map has stopped lending: what the map lent to write is Unknown
abbrev pub loan_forgotten : ℕ → LaneState → LaneState
loan_forgotten m l = record l {
  loans = remove l.loans m;
  memory = forgotten (lost_by_forgetting l.loans m) l.memory;
}

-- the segments of the load of a map at this stage
abbrev pub segments_in : Stage → List Segment
segments_in Idle = []
segments_in (Waiting w) = []
segments_in (Loaded bounced segments pages) = segments
segments_in Returning = []

-- the first device page of a load with these segments; it is 0 for a load of no byte, and no run begins at page 0
abbrev pub first_of : List Segment → ℕ
first_of [] = 0
first_of (s ∷ ss) = s.addr.0 / 4096

-- the driver after the live run of a map's load has ended, if it has one
abbrev pub unmapped : LaneMap → LaneState → LaneState
unmapped o l =
    record l { spaces = with_space o.tag (run_unmapped (first_of (segments_in o.stage)) (l.spaces o.tag)) l.spaces }

-- unload: the map's lending ends, and its pages join the return queue
abbrev pub unload : ℕ → LaneState → Asking Outcome
unload m l = unless_unloaded m l (λ o. gives (unmapped o (unpaged m o (pages_of o.stage) (loan_forgotten m l))) Done)

-- the stage of a map after a page of it left the return queue: idle if `rest` has none of its pages
abbrev pub after_return : ℕ → List Return → Stage
after_return m rest = if returning m rest == 0 then Idle else Returning

-- the driver with this map at another stage, if the map exists
abbrev pub restaged : ℕ → Option LaneMap → Stage → LaneState → LaneState
restaged m None s l = l
restaged m (Some o) s l = record l { maps = insert l.maps m (record o { stage = s }) }

-- the driver after the first page of the return queue has left it
abbrev pub given_back : Return → List Return → LaneState → LaneState
given_back r rest l = record (restaged r.map (get l.maps r.map) (after_return r.map rest) l) { returns = rest }
