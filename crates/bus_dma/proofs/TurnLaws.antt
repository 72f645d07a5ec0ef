-- What the turn of an operation is, of a driver that gets its operations one by one.
use Rattle.std.proofs.Common.{◌≡◌, ℕ, ◌+◌, Bool, true, false, if◌then◌else◌, List, [], ◌∷◌, ◌++◌, length, Option}
use Rattle.std.proofs.Common.{Some, None}
use Rattle.std.proofs.Common.{refl, sym, ap, ◌∙◌, subst, arith, inl, inr, ◌==◌, ◌&&◌, eq-eqb, length-append, not}
use Rattle.busdma_base.specs.declared.journals.answer.Answer.{Answer}
use Rattle.busdma_base.specs.declared.scenarios.script.Op.{Op}
use Rattle.busdma_machine.specs.declared.bounce.hold.HubCall.{HubCall}
use Rattle.busdma_machine.specs.declared.bounce.hold.HubCall.TheVariants.{TakeCallback}
use Rattle.busdma_machine.specs.declared.bounce.hold.HubReply.{HubReply}
use Rattle.busdma_machine.specs.declared.bounce.hold.HubReply.TheVariants as reply
use Rattle.busdma_machine.specs.declared.bounce.hold.HubReply.TheVariants.{Nothing}
use Rattle.busdma_machine.specs.Bounce.Door.{Seen}
use Rattle.ideal_lane.specs.Asking.{Asking, Gives, Asks, by_reply, goes_on}
use Rattle.ideal_lane.specs.Outcomes.{Outcome}
use Rattle.ideal_lane.specs.Sends.{is_kept, send_of}
use Rattle.ideal_lane.specs.State.{LaneState}
use Rattle.ideal_lane.specs.Turns.{Turned, advanced, at_next, called_back, callback_turn, kept, operation, went_on}
use Rattle.ideal_lane.proofs.Effects.{Begins, Ends, Called, IsOver, NoRun, Same, TooLong, Ungranted, IsVain, Makes}
use Rattle.ideal_lane.proofs.Effects.{Refuses, Loads, Operation, Overflows, Touched}
use Rattle.ideal_lane.proofs.Effects.{Touches, Transfer, Callback, Unmaps, Unwaited, Vain, Work, end_call}
use Rattle.ideal_lane.proofs.Stepping.{Made, called-makes, operation-makes}
use Rattle.lane_core.specs.Appending.{is_ready, with_next}
use Rattle.lane_core.proofs.AppendingLaws.{ready-for}
use Rattle.lane_state.specs.Doing.{IsDone}
use Rattle.lane_turns.specs.TakenTurns.{IsTurned}
use Rattle.bus_dma.specs.Answers.{answer_in}
use Rattle.bus_dma.specs.Calls.{next_step, past}
use Rattle.bus_dma.specs.Returns.{is_at_end}

-- ---- replies

module _ {X : Type 0} (d : Seen) (lane : ℕ) (x : X) where
  -- what a turn made is what its step makes by some reply
  pub turned-reply : (s : Asking X) (held : Bool) (e : Seen) → IsTurned d lane s x held e →
      (r : HubReply) × (x ≡ by_reply s r)
  turned-reply (Gives y) held e t = (Nothing, t.0)
  turned-reply (Asks c k) held e (inl t) = (t.1.reply, t.1.is)
  turned-reply (Asks c k) held e (inr t) = (Nothing, t.1.is)

  -- so is what a step made
  pub done-reply : (s : Asking X) (e : Seen) → IsDone d lane s x e → (r : HubReply) × (x ≡ by_reply s r)
  done-reply (Gives y) e t = (Nothing, t.0)
  done-reply (Asks c k) e t = (t.reply, t.is)

pub reply-goes : {X Y : Type 0} (f : X → Y) (s : Asking X) (r : HubReply) → by_reply (goes_on f s) r ≡ f (by_reply s r)
reply-goes f (Gives x) r = refl
reply-goes f (Asks c k) r = refl

-- ---- an operation never asks for a callback

abbrev takes : Option HubCall → Bool
takes (Some TakeCallback) = true
takes _ = false

abbrev is_operation : Work → Bool
is_operation (Operation o) = true
is_operation (Transfer i) = false
is_operation (Callback m) = false

zone-quiet : (l : LaneState) (m : ℕ) (z : Option ℕ) → takes (end_call l m z) ≡ false
zone-quiet l m None = refl
zone-quiet l m (Some z) = refl

module _ {l : LaneState} where
  vain-quiet : {d : Work} {c : HubCall} {r : HubReply} → IsVain l d c r → is_operation d ≡ true → takes (Some c) ≡ false
  vain-quiet (Unwaited m pages idle) on = absurd (cc)
  vain-quiet _ on = refl

  over-quiet : {d : Work} {b : Begins l d} {c : Option HubCall} {r : HubReply} →
      IsOver b c r → takes c ≡ false
  over-quiet (TooLong long) = refl
  over-quiet (Ungranted plain some none) = refl
  over-quiet (NoRun device none) = refl

  ends-quiet : {d : Work} {c : Option HubCall} {r : HubReply} → Ends l d c r → is_operation d ≡ true → takes c ≡ false
  ends-quiet (Called m pages o v there waits) on = absurd (cc)
  ends-quiet _ on = refl

  makes-quiet : {d : Work} {c : Option HubCall} {r : HubReply} {x : Outcome} → Makes l d c r x →
      is_operation d ≡ true → takes c ≡ false
  makes-quiet (Vain v a untold) on = vain-quiet v on
  makes-quiet (Unmaps m o there idle) on = zone-quiet l m o.zone
  makes-quiet (Refuses b over e) on = over-quiet over
  makes-quiet (Loads k fit) on = ends-quiet k on
  makes-quiet (Overflows k fit) on = ends-quiet k on
  makes-quiet _ on = refl

-- ---- what a step keeps: the script, the place in it, and whether a resend is due

pub record IsAlong (l n : LaneState) : Type 0 where
  pub script : n.script ≡ l.script
  pub place : n.place ≡ l.place
  pub due : n.due ≡ l.due

module _ (l : LaneState) where
  still : IsAlong l l
  still = record { script = refl; place = refl; due = refl }

  touches-along : {d : Work} {x : Outcome} → Touches l d x → IsAlong l x.lane
  touches-along (Same a quiet undone) = still
  touches-along _ = record { script = refl; place = refl; due = refl }

  makes-along : {d : Work} {c : Option HubCall} {r : HubReply} {x : Outcome} → Makes l d c r x → IsAlong l x.lane
  makes-along (Touched t) = touches-along t
  makes-along _ = record { script = refl; place = refl; due = refl }

  pub made-along : (d : Work) (s : Asking Outcome) → Made l d s → (r : HubReply) → IsAlong l (by_reply s r).lane
  made-along d (Gives y) m r = makes-along (m r)
  made-along d (Asks c k) m r = makes-along (m r)

-- ---- the turn of an operation

-- a turn that makes this step is a step, and it was done
pub record IsStepOf (l : LaneState) (s : Asking Outcome) (x : Turned) (d e : Seen) : Type 0 where
  pub answer : Answer
  pub told : answer_in x.turn ≡ Some answer
  pub done : IsDone d l.id (goes_on (past l.place) s) (record { lane = x.lane; answer = answer }) e

module _ (l : LaneState) (o : Op) (unsent : send_of o ≡ None) where
  abbrev n : LaneState
  n = with_next o l

  pub went-is : (y : Outcome) → went_on o l.place y ≡ advanced l.place y
  went-is y =
      subst (λ q. (if is_kept q y.answer then kept l.place y else advanced l.place y) ≡ advanced l.place y) (sym unsent)
      refl

  told-is : (y : Outcome) (x : Turned) → x ≡ went_on o l.place y → answer_in x.turn ≡ Some y.answer
  told-is y x is = ap (λ (t : Turned). answer_in t.turn) (is ∙ went-is y)

  abbrev outcome : LaneState → Answer → Outcome
  outcome m a = record { lane = m; answer = a }

  outcome-is : (y : Outcome) (x : Turned) → x ≡ went_on o l.place y → outcome x.lane y.answer ≡ past l.place y
  outcome-is y x is = ap (λ (t : Turned). outcome t.lane y.answer) (is ∙ went-is y)

  pub turned-step : (d e : Seen) (x : Turned) (held : Bool) →
      IsTurned d l.id (goes_on (went_on o l.place) (operation o n)) x held e → IsStepOf l (operation o n) x d e
  turned-step d e x held t = by (operation o n) (operation-makes n o) t
    where
      by : (s : Asking Outcome) → Made n (Operation o) s → IsTurned d l.id (goes_on (went_on o l.place) s) x held e →
          IsStepOf l s x d e
      by (Gives y) m t =
          record { answer = y.answer; told = told-is y x t.0; done = (outcome-is y x t.0, t.2) }
      by (Asks c k) m (inl t) =
          record {
            answer = (k t.1.reply).answer;
            told = told-is (k t.1.reply) x t.1.is;
            done = record {
              reply = t.1.reply;
              holds = t.1.holds;
              is = outcome-is (k t.1.reply) x t.1.is;
            };
          }
      by (Asks c k) m (inr t) =
          let off : takes (Some c) ≡ false = makes-quiet (m Nothing) refl in
          let on : takes (Some c) ≡ true = ap (λ (c : HubCall). takes (Some c)) t.1.callback in
          absurd (cc)

  -- its script has ended, and no resend is due
  pub turned-ended : is_ready l ≡ true → (d e : Seen) (x : Turned) (held : Bool) →
      IsTurned d l.id (goes_on (went_on o l.place) (operation o n)) x held e → is_at_end x.lane ≡ true
  turned-ended ready d e x held t =
      let made = turned-reply d l.id x (goes_on (went_on o l.place) (operation o n)) held e t in
      let y : Outcome = by_reply (operation o n) made.0 in
      let is : x ≡ went_on o l.place y = made.1 ∙ reply-goes (went_on o l.place) (operation o n) made.0 in
      let lane : x.lane ≡ at_next l.place y.lane = ap (λ (t : Turned). t.lane) (is ∙ went-is y) in
      let along : IsAlong n y.lane = made-along n (Operation o) (operation o n) (operation-makes n o) made.0 in
      let at : l.place + 1 ≡ length y.lane.script = ended-at (ready-for l ready).ended along.script in
      subst (λ m. is_at_end m ≡ true) (sym lane) (ap (λ b. b && true) (eq-eqb _ _ at))
    where
      ended-at : l.place ≡ length l.script → {script : List Op} → script ≡ l.script ++ o ∷ [] →
          l.place + 1 ≡ length script
      ended-at at is = omega (arith, ap length is, length-append l.script (o ∷ []))

-- the operation was done, and answered what the turn tells
pub turned-done : (l : LaneState) (o p : Op) → p ≡ o → send_of o ≡ None → (d e : Seen) (x : Turned) (held : Bool) →
    IsTurned d l.id (goes_on (went_on p l.place) (operation p (with_next p l))) x held e →
    (a : Answer) → answer_in x.turn ≡ Some a → IsDone d l.id (next_step o l) (record { lane = x.lane; answer = a }) e
turned-done l o p same unsent d e x held t a told =
    let of_o : IsTurned d l.id (goes_on (went_on o l.place) (operation o (with_next o l))) x held e =
    subst (λ q. IsTurned d l.id (goes_on (went_on q l.place) (operation q (with_next q l))) x held e) same t in
    let step = turned-step l o unsent d e x held of_o in
    let is : step.answer ≡ a = some-same (sym step.told ∙ told) in
    subst (λ b. IsDone d l.id (next_step o l) (record { lane = x.lane; answer = b }) e) is step.done
  where
    some-same : {u v : Answer} → Some u ≡ Some v → u ≡ v
    some-same e = cc

-- then the driver is at the end of its script
pub done-ended : (l : LaneState) (o p : Op) → p ≡ o → send_of o ≡ None → is_ready l ≡ true → (d e : Seen)
    (x : Turned) (held : Bool) →
    IsTurned d l.id (goes_on (went_on p l.place) (operation p (with_next p l))) x held e → is_at_end x.lane ≡ true
done-ended l o p same unsent ready d e x held t =
    turned-ended l o unsent ready d e x held
    (subst (λ q. IsTurned d l.id (goes_on (went_on q l.place) (operation q (with_next q l))) x held e) same t)

-- ---- callbacks

along-ended : (l n : LaneState) → IsAlong l n → is_at_end l ≡ true → is_at_end n ≡ true
along-ended l n a e = (λ i. (a.place i == length (a.script i)) && not (a.due i)) ∙ e

called-ended : (l : LaneState) (r : HubReply) → is_at_end l ≡ true → is_at_end (called_back l r).lane ≡ true
called-ended l (reply.Called m pages) e = along-ended l _ (makes-along l (called-makes l m pages)) e
called-ended l _ e = e

-- a driver at the end of its script stays there when a callback is taken
pub callback-ended : (l : LaneState) (d e : Seen) (x : Turned) (held : Bool) →
    IsTurned d l.id (callback_turn l) x held e → is_at_end l ≡ true → is_at_end x.lane ≡ true
callback-ended l d e x held t ended =
    let made = turned-reply d l.id x (callback_turn l) held e t in
    let is : x ≡ called_back l made.0 = made.1 in
    subst (λ (y : Turned). is_at_end y.lane ≡ true) (sym is) (called-ended l made.0 ended)
