-- The segments that each entry answers are those of a load.
use Rattle.std.proofs.Common.{◌≡◌, ℕ, List, [], ◌∷◌, Some, sym, ap, ◌∙◌, subst, slice_get, slice_set}
use Rattle.busdma_base.specs.declared.journals.journal.JournalEntry.{JournalEntry}
use Rattle.busdma_base.specs.declared.scenarios.scenario.Scenario.{Scenario}
use Rattle.busdma_machine.specs.Bounce.AccountStep.{account_step}
use Rattle.busdma_base.specs.Scenarios.Valid.{IsValid}
use Rattle.ideal_lane.specs.Asking.{Asking, Gives, Asks}
use Rattle.ideal_lane.specs.State.{LaneState}
use Rattle.ideal_lane.specs.Turns.{Turn, Turned, Stepped, Blocked, Ended, lane_step}
use Rattle.ideal_wire.specs.Accepted.{IfSegments}
use Rattle.ideal_wire.specs.Answered.{AreOf, AnswersIn, AnswersLoads}
use Rattle.ideal_wire.proofs.Obeys.AnsweredTurns.{turn-answers}
use Rattle.ideal_world.specs.Answered.{AnswersLoad, AnswerLoads}
use Rattle.ideal_world.specs.Legal.{Leads}
use Rattle.ideal_world.specs.WellFormed.{IsWellFormed}
use Rattle.ideal_world.specs.World.{WorldState, WorldTurned, replied, step_of, step, entry_of, step_entry}
use Rattle.ideal_world.specs.World.{opening_world}
use Rattle.ideal_world.proofs.Keeping.{fits, step-keeps}
use Rattle.ideal_world.proofs.Lanes.{set-here, within}
use Rattle.ideal_world.proofs.Opens.{opens-well}
use Rattle.ideal_world.proofs.Reached.{reached-low, reached-whole}

-- a driver that is put at a place is the one that is found there
same-put : (ls : List LaneState) (i : ℕ) (l n m : LaneState) → slice_get ls i ≡ Some l →
    slice_get (slice_set ls i n) i ≡ Some m → n ≡ m
same-put ls i l n m there h = let found : Some n ≡ Some m = sym (set-here ls i n (within ls i l there)) ∙ h in cc

-- the segments that a turn answers, if it is a step
of-turn : (l n m : LaneState) (t : Turn) (e : JournalEntry) → n ≡ m → AnswersIn l n t → entry_of t ≡ Some e →
    IfSegments e.answer (AreOf l m e.did)
of-turn l n m (Stepped entry) e same h is =
    let one : entry ≡ e = cc in
    subst (λ (x : JournalEntry). IfSegments x.answer (AreOf l m x.did)) one
    (subst (λ k. IfSegments entry.answer (AreOf l k entry.did)) same h)
of-turn l n m Blocked e same h is = absurd (cc)
of-turn l n m Ended e same h is = absurd (cc)

-- the segments that a step answers, by the account's reply
of-step : (w : WorldState) (i : ℕ) (l m : LaneState) (x : Asking Turned) (e : JournalEntry) →
    slice_get w.lanes i ≡ Some l → AnswersLoads l w.account x →
    slice_get (replied w i l x).world.lanes i ≡ Some m → entry_of (replied w i l x).turn ≡ Some e →
    IfSegments e.answer (AreOf l m e.did)
of-step w i l m (Gives t) e there h at is = of-turn l t.lane m t.turn e (same-put w.lanes i l t.lane m there at) h is
of-step w i l m (Asks c k) e there h at is =
    let t : Turned = k (account_step l.id c w.account).reply in
    of-turn l t.lane m t.turn e (same-put w.lanes i l t.lane m there at) h is

pub answers-load : (s : Scenario) (w : WorldState) (e : JournalEntry) → IsWellFormed s w →
    step_entry w e.actor ≡ Some e → AnswersLoad w e
answers-load s w e well is l m there after =
    let i : ℕ = e.actor.lane.0 in
    let d = well.each i l there in
    let turn : step w e.actor ≡ replied w i l (lane_step l e.actor.side) = ap (step_of w e.actor) there in
    let a = w.account in
    of-step w i l m (lane_step l e.actor.side) e there
    (turn-answers l a d.stands d.agrees (fits s w well) (reached-whole s a well.valid well.reached)
    (reached-low s a well.valid well.reached) d.served d.machine d.laid d.spaced
    e.actor.side)
    (sym (ap (λ (x : WorldTurned). slice_get x.world.lanes i) turn) ∙ after)
    (sym (ap (λ (x : WorldTurned). entry_of x.turn) turn) ∙ is)

answer-loads : (s : Scenario) (w : WorldState) (es : List JournalEntry) (end : WorldState) → IsWellFormed s w →
    Leads w es end → AnswerLoads w es
answer-loads s w [] end well h = tt
answer-loads s w (e ∷ es) end well h = (
  answers-load s w e well h.0,
  answer-loads s (step w e.actor).world es end (step-keeps s w well e.actor) h.1,
)

pub journals-answer : (s : Scenario) (es : List JournalEntry) (end : WorldState) → IsValid s →
    Leads (opening_world s) es end → AnswerLoads (opening_world s) es
journals-answer s es end valid h = answer-loads s (opening_world s) es end (opens-well s valid) h
