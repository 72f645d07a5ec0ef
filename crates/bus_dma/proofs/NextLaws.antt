-- After an operation that leaves no page to go back, a driver is ready for the next one.
use Rattle.std.proofs.Common.{◌≡◌, Bool, true, false, List, Option, None, refl, ap, ◌∙◌, subst}
use Rattle.busdma_base.specs.declared.journals.answer.Answer.TheVariants as answer
use Rattle.busdma_base.specs.declared.scenarios.script.Op.{Op}
use Rattle.busdma_machine.specs.declared.bounce.hold.HubCall.{HubCall}
use Rattle.busdma_machine.specs.declared.bounce.hold.HubReply.{HubReply}
use Rattle.busdma_machine.specs.declared.machine.address.Segment.{Segment}
use Rattle.busdma_machine.specs.Bounce.Door.{Seen}
use Rattle.ideal_lane.specs.Asking.{Asking, Gives, Asks, by_reply, goes_on}
use Rattle.ideal_lane.specs.Outcomes.{Outcome}
use Rattle.ideal_lane.specs.Sends.{send_of}
use Rattle.ideal_lane.specs.State.{LaneState}
use Rattle.ideal_lane.specs.Turns.{Turned, operation, went_on}
use Rattle.ideal_lane.proofs.Effects.{Begins, Callback, Ends, AtOnce, Called, Device, Granted, Loads, Makes, Operation}
use Rattle.ideal_lane.proofs.Effects.{Overflows, Refuses, Same, Touched, Touches, Transfer, Unloads, Waits, Work}
use Rattle.ideal_lane.proofs.Stepping.{Made, operation-makes}
use Rattle.lane_core.specs.Appending.{is_ready, with_next}
use Rattle.lane_core.proofs.AppendingLaws.{ready-for}
use Rattle.lane_turns.specs.TakenTurns.{IsTurned}
use Rattle.bus_dma.specs.Returns.{may_return}
use Rattle.bus_dma.proofs.ReturnLaws.{ready-empty}
use Rattle.bus_dma.proofs.TurnLaws.{reply-goes, turned-ended, turned-reply, went-is}

-- what is done can leave pages that are to go back
abbrev returns_by : Work → Bool
returns_by (Operation o) = may_return o
returns_by (Transfer i) = true
returns_by (Callback m) = true

module _ {l : LaneState} where
  begins-may : {d : Work} → Begins l d → returns_by d ≡ true
  begins-may b = ap returns_by b.is

  ends-may : {d : Work} {c : Option HubCall} {r : HubReply} → Ends l d c r → returns_by d ≡ true
  ends-may (AtOnce b plain none) = begins-may b
  ends-may (Granted b plain some pages) = begins-may b
  ends-may (Called m pages o v there waits) = refl
  ends-may (Device b device first spaces taken) = begins-may b

  touches-keeps : {d : Work} {x : Outcome} → Touches l d x → x.lane.returns ≡ l.returns
  touches-keeps (Same a quiet undone) = refl
  touches-keeps _ = refl

  -- the pages that are to go back stay the same
  makes-keeps : {d : Work} {c : Option HubCall} {r : HubReply} {x : Outcome} → Makes l d c r x →
      returns_by d ≡ false → x.lane.returns ≡ l.returns
  makes-keeps (Touched t) off = touches-keeps t
  makes-keeps (Refuses b over e) off = let on = begins-may b in absurd (cc)
  makes-keeps (Waits b plain some have) off = let on = begins-may b in absurd (cc)
  makes-keeps (Loads k fit) off = let on = ends-may k in absurd (cc)
  makes-keeps (Overflows k fit) off = let on = ends-may k in absurd (cc)
  makes-keeps (Unloads m o there loaded) off = absurd (cc)
  makes-keeps _ off = refl

module _ {l : LaneState} where
  -- so they do after a load that answers segments
  makes-segments : {d : Work} {c : Option HubCall} {r : HubReply} {x : Outcome} → Makes l d c r x →
      (segments : List Segment) → x.answer ≡ answer.Segments segments → x.lane.returns ≡ l.returns
  makes-segments (Touched t) segments is = touches-keeps t
  makes-segments (Refuses b over e) segments is = absurd (cc)
  makes-segments (Waits b plain some have) segments is = absurd (cc)
  makes-segments (Overflows k fit) segments is = absurd (cc)
  makes-segments (Unloads m o there loaded) segments is = absurd (cc)
  makes-segments _ segments is = refl

module _ (l : LaneState) (o : Op) (r : HubReply) (segments : List Segment) where
  abbrev SegmentsKeep : Asking Outcome → Type 0
  SegmentsKeep s = (by_reply s r).answer ≡ answer.Segments segments → (by_reply s r).lane.returns ≡ l.returns

  pub segments-keep : SegmentsKeep (operation o l)
  segments-keep = by (operation o l) (operation-makes l o)
    where
      by : (s : Asking Outcome) → Made l (Operation o) s → SegmentsKeep s
      by (Gives y) m is = makes-segments (m r) segments is
      by (Asks c k) m is = makes-segments (m r) segments is

module _ (l : LaneState) where
  made-keeps : (d : Work) (s : Asking Outcome) → Made l d s → returns_by d ≡ false → (r : HubReply) →
      (by_reply s r).lane.returns ≡ l.returns
  made-keeps d (Gives y) m off r = makes-keeps (m r) off
  made-keeps d (Asks c k) m off r = makes-keeps (m r) off

module _ (l : LaneState) where
  -- a driver whose turn did such an operation is ready
  turned-ready : (o : Op) → send_of o ≡ None → is_ready l ≡ true → may_return o ≡ false → (d e : Seen) (x : Turned)
      (held : Bool) → IsTurned d l.id (goes_on (went_on o l.place) (operation o (with_next o l))) x held e →
      is_ready x.lane ≡ true
  turned-ready o unsent ready off d e x held t =
      let n = with_next o l in
      let made = turned-reply d l.id x (goes_on (went_on o l.place) (operation o n)) held e t in
      let y : Outcome = by_reply (operation o n) made.0 in
      let is = made.1 ∙ (reply-goes (went_on o l.place) (operation o n) made.0 ∙ went-is l o unsent y) in
      let keeps = made-keeps n (Operation o) (operation o n) (operation-makes n o) off made.0 in
      ready-empty x.lane (turned-ended l o unsent ready d e x held t)
      (ap (λ (t : Turned). t.lane.returns) is ∙ (keeps ∙ (ready-for l ready).none))

pub done-ready : (l : LaneState) (o p : Op) → p ≡ o → send_of o ≡ None → is_ready l ≡ true → (d e : Seen) (x : Turned)
    (held : Bool) → IsTurned d l.id (goes_on (went_on p l.place) (operation p (with_next p l))) x held e →
    may_return o ≡ false → is_ready x.lane ≡ true
done-ready l o p same unsent ready d e x held t off =
    turned-ready l o unsent ready off d e x held
    (subst (λ q. IsTurned d l.id (goes_on (went_on q l.place) (operation q (with_next q l))) x held e) same t)
