-- A driver with another script.
use Rattle.std.specs.Prelude.{◌≡◌, ℕ, Bool, true, false, List, [], ◌∷◌, nat_lt, slice_get}
use Rattle.std.specs.List.{AllByRecursion}
use Rattle.busdma_base.specs.declared.journals.journal.Did.{Did}
use Rattle.busdma_base.specs.declared.journals.journal.Did.TheVariants as did
use Rattle.busdma_base.specs.declared.journals.journal.Side.{Side}
use Rattle.busdma_base.specs.declared.journals.journal.Side.TheVariants as side
use Rattle.busdma_base.specs.declared.scenarios.script.Op.{Op}
use Rattle.lane_agreement.specs.View.{Return}
use Rattle.ideal_lane.specs.Callbacks.{MadeStep}
use Rattle.ideal_lane.specs.Outcomes.{Outcome}
use Rattle.ideal_lane.specs.State.{LaneState}
use Rattle.ideal_lane.specs.Turns.{Turn, Turned, Stepped, Blocked, Ended}

-- the driver with this script
abbrev pub with_script : List Op → LaneState → LaneState
with_script script l = record l { script = script }

-- an outcome whose driver has this script
abbrev pub outcome_under : List Op → Outcome → Outcome
outcome_under script o = record { lane = with_script script o.lane; answer = o.answer }

-- a turn whose driver has this script
abbrev pub turned_under : List Op → Turned → Turned
turned_under script t = record { lane = with_script script t.lane; turn = t.turn }

-- a turn of a run whose driver has this script
abbrev pub made_under : List Op → MadeStep → MadeStep
made_under script m = record { side = m.side; reply = m.reply; turned = turned_under script m.turned }

-- if the turn of a side looks at the script, this one has the same operation at the driver's place as the driver's own,
-- or none there as well. Only the turn of the script looks at it, and only once no page is to go back.
abbrev pub looks_same : Side → List Return → List Op → LaneState → Type 0
looks_same side.Script [] script l = slice_get script l.place ≡ slice_get l.script l.place
looks_same side.Script (r ∷ rest) script l = Unit {0}
looks_same side.Transfer returns script l = Unit {0}
looks_same side.Callback returns script l = Unit {0}

-- this script looks the same to the turn of a side of this driver
abbrev pub LooksSame : Side → List Op → LaneState → Type 0
LooksSame s script l = looks_same s l.returns script l

-- a turn found the script at its end
abbrev pub is_ended : Turn → Bool
is_ended (Stepped e) = false
is_ended Blocked = false
is_ended Ended = true

-- none of these turns found the script at its end
abbrev pub NoneEnded : List MadeStep → Type 0
NoneEnded steps = AllByRecursion (λ m. is_ended m.turned.turn ≡ false) steps

-- what was done is an operation or a resend at a place below n, or it is neither
abbrev pub is_below : ℕ → Did → Bool
is_below n (did.Op place) = nat_lt place n
is_below n (did.Again place) = nat_lt place n
is_below n (did.Release m page) = true
is_below n (did.Callback m) = true
is_below n (did.Item load_at place) = true

-- a turn is a step, and the operation or resend that it did, if any, is at a place below n
abbrev pub is_step_below : ℕ → Turn → Bool
is_step_below n (Stepped e) = is_below n e.did
is_step_below n Blocked = false
is_step_below n Ended = false

-- each of these turns is a step, and the operation or resend that it did, if any, is at a place below n
abbrev pub AreBelow : ℕ → List MadeStep → Type 0
AreBelow n steps = AllByRecursion (λ m. is_step_below n m.turned.turn ≡ true) steps
