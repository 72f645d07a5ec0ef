-- Steps that a driver and its device do one after the other, and what a step keeps.
use Rattle.std.specs.FinMap.{get}
use Rattle.std.specs.Prelude.{◌≡◌, ℕ, Bool, not, ◌&&◌, List}
use Rattle.busdma_machine.specs.declared.bounce.hold.HubReply.{HubReply}
use Rattle.busdma_machine.specs.declared.machine.address.Pa.{Pa}
use Rattle.busdma_machine.specs.declared.name.MapId.{MapId}
use Rattle.busdma_base.specs.declared.journals.answer.Answer.{Answer}
use Rattle.busdma_rules.specs.Lending.Loans.{addresses_of, loan_of}
use Rattle.busdma_rules.specs.Tags.SyncOps.{preread, prewrite}
use Rattle.lane_agreement.specs.After.{addresses_of_pages}
use Rattle.ideal_lane.specs.Asking.{Asking, Gives, by_reply}
use Rattle.ideal_lane.specs.Outcomes.{Outcome}
use Rattle.ideal_lane.specs.State.{LaneState}
use Rattle.ideal_lane.specs.Turns.{called}

-- a driver differs from another at most in the work that is left: the script, the place in it, whether a resend is due,
-- and the transfer queue
abbrev pub DiffersInWork : LaneState → LaneState → Type 0
DiffersInWork l n = n ≡ record l { script = n.script; place = n.place; due = n.due; queue = n.queue }

-- A step was done, with this answer: with some reply of the hub, it leads from the driver before it to the driver after
-- it. Beside the step, the work that is left may change: an operation is appended to the script, the script goes on to
-- its next place, or an item leaves the queue.
pub record IsStep (step : LaneState → Asking Outcome) (before after : LaneState) (a : Answer) : Type 0 where
  pub begun : LaneState
  pub same : DiffersInWork before begun
  pub reply : HubReply
  pub left : DiffersInWork (by_reply (step begun) reply).lane after
  pub answer : a ≡ (by_reply (step begun) reply).answer

-- the driver reaches the same bytes at the same virtual addresses, and they have the same contents
pub record KeepsContents (l n : LaneState) : Type 0 where
  pub pages : n.pages ≡ l.pages
  pub mems : n.mems ≡ l.mems
  pub memory : n.memory ≡ l.memory

-- the bytes of a map's load by their physical addresses, in order
abbrev pub mapped_bytes : LaneState → ℕ → List ℕ
mapped_bytes l m = addresses_of (loan_of l.loans m).positions

-- a sync with these operations can make bytes Unknown: PREREAD can, unless PREWRITE is one of them too
abbrev pub makes_unknown : ℕ → Bool
makes_unknown ops = preread ops && not (prewrite ops)

-- the callback of a map whose load waited, as a step: the load gets these pages
abbrev pub called_step : MapId → List Pa → LaneState → Asking Outcome
called_step m pages l = Gives (called m.made_at (get l.maps m.made_at) (addresses_of_pages pages) l)
