-- What an operation or an item gives, and the refusals that come before it.
use Rattle.std.specs.Prelude.{ℕ, ◌+◌, ◌-◌, Bool, true, false, Option, Some, None, if◌then◌else◌, nat_le, length}
use Rattle.std.specs.FinMap.{get}
use Rattle.busdma_base.specs.declared.journals.answer.Answer.{Answer}
use Rattle.busdma_base.specs.declared.journals.answer.Answer.TheVariants as answer
use Rattle.busdma_machine.specs.declared.report.Judged.{Judged}
use Rattle.busdma_machine.specs.declared.report.Judged.TheVariants.{Fine, Refused}
use Rattle.busdma_machine.specs.declared.report.ReportName.{ReportName}
use Rattle.busdma_machine.specs.declared.report.ReportName.TheVariants.{Absent, MapBusy, NotLoaded, PastEnd}
use Rattle.busdma_rules.specs.Lending.Loans.{loan_of}
use Rattle.ideal_lane.specs.State.{LaneState, LaneMap, Stage, Idle, Waiting, Loaded, Returning}
use Rattle.ideal_lane.specs.Asking.{Asking, Gives}

-- the driver after a step, and the answer
pub record Outcome : Type 0 where
  pub lane : LaneState
  pub answer : Answer

-- a step without a call: the driver after it, and its answer
abbrev pub gives : LaneState → Answer → Asking Outcome
gives l a = Gives (record { lane = l; answer = a })

-- a refused step: it changes nothing, and its answer is this report
abbrev pub refused : ReportName → ℕ → LaneState → Asking Outcome
refused name at l = gives l (answer.Report (record { name = name; at = at }))

-- the step, unless the judgement is a refusal
abbrev pub unless_refused : Judged → LaneState → Asking Outcome → Asking Outcome
unless_refused Fine l step = step
unless_refused (Refused r) l step = gives l (answer.Report r)

-- the step with what was looked up, or the report Absent if there is nothing
abbrev pub unless_absent : {X : Type 0} → Option X → LaneState → (X → Asking Outcome) → Asking Outcome
unless_absent None l step = refused Absent 0 l
unless_absent (Some x) l step = step x

-- a map is idle
abbrev pub is_idle : Stage → Bool
is_idle Idle = true
is_idle (Waiting w) = false
is_idle (Loaded bounced segments pages) = false
is_idle Returning = false

-- a map is loaded
abbrev pub is_loaded : Stage → Bool
is_loaded Idle = false
is_loaded (Waiting w) = false
is_loaded (Loaded bounced segments pages) = true
is_loaded Returning = false

-- the step with a map, or a report if the map does not exist or is not idle
abbrev pub unless_busy : ℕ → LaneState → (LaneMap → Asking Outcome) → Asking Outcome
unless_busy m l step =
    unless_absent (get l.maps m) l (λ o. if is_idle o.stage then step o else refused MapBusy 0 l)

-- the step with a map, or a report if the map does not exist or is not loaded
abbrev pub unless_unloaded : ℕ → LaneState → (LaneMap → Asking Outcome) → Asking Outcome
unless_unloaded m l step =
    unless_absent (get l.maps m) l (λ o. if is_loaded o.stage then step o else refused NotLoaded 0 l)

-- the number of bytes of a map's load
abbrev pub load_length : LaneState → ℕ → ℕ
load_length l m = length (loan_of l.loans m).positions

-- the step, or a report if `len` bytes from `off` on reach past the end of the map's load; the report has the first
-- byte that does, counted from `off`
abbrev pub unless_past : ℕ → ℕ → ℕ → LaneState → Asking Outcome → Asking Outcome
unless_past m off len l step =
    if nat_le (off + len) (load_length l m) then step else refused PastEnd (load_length l m - off) l
