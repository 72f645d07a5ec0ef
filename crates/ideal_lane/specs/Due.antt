-- What holds of a send while its resend is due.
use Rattle.std.specs.Prelude.{◌≡◌, ℕ, ◌≤◌, Bool, true, false, Some, IfSome}
use Rattle.std.specs.FinMap.{get}
use Rattle.busdma_base.specs.declared.journals.answer.Answer.{Answer}
use Rattle.busdma_base.specs.declared.journals.answer.Answer.TheVariants as answer
use Rattle.busdma_machine.specs.declared.report.Errno.{Errno}
use Rattle.busdma_machine.specs.declared.report.Errno.TheVariants as errno
use Rattle.busdma_machine.specs.declared.report.ReportName.{ReportName}
use Rattle.busdma_machine.specs.declared.report.ReportName.TheVariants as name
use Rattle.busdma_machine.specs.Machine.Spans.{span_bytes}
use Rattle.lane_agreement.specs.View.{returning}
use Rattle.ideal_lane.specs.Loads.{limits_of}
use Rattle.ideal_lane.specs.Sends.{Send, due_send}
use Rattle.ideal_lane.specs.State.{LaneState, LaneMap, Stage, Idle, Waiting, Loaded, Returning}
use Rattle.ideal_lane.specs.Turns.{Turn, Stepped, Blocked, Ended}

-- a map at this stage has no load; if it is Returning, the return queue has at least one of its pages, which `pages`
-- counts
abbrev pub IsBare : Stage → ℕ → Type 0
IsBare Idle pages = Unit {0}
IsBare (Waiting w) pages = ⊥
IsBare (Loaded bounced segments held) pages = ⊥
IsBare Returning pages = 1 ≤ pages

-- the map of a send exists and has no load, and its tag allows loads of as many bytes as the chain has
pub record IsDue (l : LaneState) (s : Send) : Type 0 where
  pub o : LaneMap
  pub there : get l.maps s.map ≡ Some o
  pub bare : IsBare o.stage (returning s.map l.returns)
  pub short : span_bytes s.chain ≤ (limits_of l o).maxsize

-- if a resend is due, its send has its map without a load, and a chain that the map's tag allows
abbrev pub DueStands : LaneState → Type 0
DueStands l = IfSome (due_send l) (IsDue l)

-- the errno of a load that is longer than its tag allows
abbrev pub is_einval : Errno → Bool
is_einval errno.EINVAL = true
is_einval errno.EFBIG = false
is_einval errno.ENOMEM = false
is_einval errno.EINPROGRESS = false
is_einval errno.EBUSY = false

-- the report says that a map does not exist or is busy
abbrev pub is_of_map : ReportName → Bool
is_of_map name.Absent = true
is_of_map name.MapBusy = true
is_of_map _ = false

-- the answer is EINVAL, or a report that a map does not exist or is busy
abbrev pub is_unfit : Answer → Bool
is_unfit (answer.Refused e) = is_einval e
is_unfit (answer.Report r) = is_of_map r.name
is_unfit _ = false

-- a turn is a step that answers EINVAL, or reports that a map does not exist or is busy
abbrev pub is_unfit_turn : Turn → Bool
is_unfit_turn (Stepped e) = is_unfit e.answer
is_unfit_turn Blocked = false
is_unfit_turn Ended = false
