-- Each resend of a journal finds its map.
use Rattle.std.proofs.Common.{◌≡◌, ℕ, Bool, true, false, List, [], ◌∷◌, Option, Some, None, refl, sym, ap, ◌∙◌, subst}
use Rattle.std.proofs.Common.{◌+◌, slice_get}
use Rattle.busdma_machine.specs.declared.bounce.hold.HubCall.{HubCall}
use Rattle.busdma_machine.specs.declared.bounce.hold.HubReply.{HubReply}
use Rattle.busdma_base.specs.declared.journals.journal.Actor.{Actor}
use Rattle.busdma_base.specs.declared.journals.journal.JournalEntry.{JournalEntry}
use Rattle.busdma_base.specs.declared.journals.journal.Side.{Side}
use Rattle.busdma_base.specs.declared.journals.journal.Side.TheVariants as side
use Rattle.busdma_base.specs.declared.scenarios.scenario.Scenario.{Scenario}
use Rattle.busdma_base.specs.Scenarios.Opening.{maxmem_of}
use Rattle.busdma_base.specs.Scenarios.Valid.{IsValid}
use Rattle.ideal_lane.specs.Asking.{by_reply}
use Rattle.ideal_lane.specs.Due.{DueStands, is_unfit, is_unfit_turn}
use Rattle.ideal_lane.specs.Resends.{is_resend}
use Rattle.ideal_lane.specs.Sends.{Send, due_send}
use Rattle.ideal_lane.specs.State.{LaneState}
use Rattle.ideal_lane.specs.Turns.{Turn, Turned, Stepped, Blocked, Ended, lane_step}
use Rattle.ideal_lane.proofs.DueLaws.{opens-due, resends-fit, turn-due}
use Rattle.ideal_lane.proofs.Effects.{Advances, Calls, Declines, IsStay, Keeps, Leaves, NoneCalled, NothingLeft}
use Rattle.ideal_lane.proofs.Effects.{NothingNow}
use Rattle.ideal_lane.proofs.Effects.{Releases, Resends, Stays, Steps}
use Rattle.ideal_lane.proofs.Stepping.{turn-steps}
use Rattle.ideal_world.specs.Legal.{Leads}
use Rattle.ideal_world.specs.Resends.{FindMaps, FindsMap}
use Rattle.ideal_world.specs.WellFormed.{IsWellFormed}
use Rattle.ideal_world.specs.World.{WorldState, entry_of, opening_world, step, step_entry, step_of}
use Rattle.ideal_world.proofs.Keeping.{step-keeps}
use Rattle.ideal_world.proofs.Lanes.{opening_at}
use Rattle.ideal_world.proofs.Opens.{opens-well}
use Rattle.ideal_world.proofs.Turns.{OwnStep, each-step, own-step}

-- a turn is the resend of the send at a place of the script
abbrev resends : ℕ → Turn → Bool
resends p (Stepped e) = is_resend p e.did
resends p Blocked = false
resends p Ended = false

-- a turn that is a resend is of the script, and of a send whose resend is due
record IsDueNow (l : LaneState) (s : Side) : Type 0 where
  side : s ≡ side.Script
  send : Send
  due : due_send l ≡ Some send

stays-rest : (p : ℕ) {c : Option HubCall} {r : HubReply} {t : Turn} → IsStay c r t → resends p t ≡ false
stays-rest p NothingNow = refl
stays-rest p NothingLeft = refl
stays-rest p (NoneCalled u) = refl

resends-now : (l : LaneState) (p : ℕ) {s : Side} {c : Option HubCall} {r : HubReply} {t : Turned} →
    Steps l s c r t → resends p t.turn ≡ true → IsDueNow l s
resends-now l p (Declines s now x why) h = record { side = refl; send = s; due = now.due }
resends-now l p (Resends s now c told m) h = record { side = refl; send = s; due = now.due }
resends-now l p (Stays t is) h = let gone : false ≡ true = sym (stays-rest p is) ∙ h in absurd (cc)
resends-now l p (Advances o at free m) h = absurd (cc)
resends-now l p (Keeps o at free s is big held m) h = absurd (cc)
resends-now l p (Leaves q rest is t) h = absurd (cc)
resends-now l p (Releases q rest is y there) h = absurd (cc)
resends-now l p (Calls m pages k) h = absurd (cc)

-- while the resend of a send is due, the send's map is without a load, of each driver
abbrev AllDue : WorldState → Type 0
AllDue w = (i : ℕ) (l : LaneState) → slice_get w.lanes i ≡ Some l → DueStands l

due-on : (w : WorldState) (actor : Actor) → AllDue w → AllDue (step w actor).world
due-on w actor all =
    each-step (λ i l. DueStands l) w actor (λ l o there. turn-due l actor.side o.reply (all actor.lane.0 l there))
    (λ j n off e. all j n e)

module _ (s : Scenario) (w : WorldState) (well : IsWellFormed s w) (all : AllDue w) (e : JournalEntry)
    (is : step_entry w e.actor ≡ Some e) where
  abbrev i : ℕ
  i = e.actor.lane.0

  -- the turn with this entry
  of-turn : (t : Turn) → entry_of t ≡ Some e → t ≡ Stepped e
  of-turn (Stepped entry) h = let same : entry ≡ e = cc in ap (λ x. Stepped x) same
  of-turn Blocked h = absurd (cc)
  of-turn Ended h = absurd (cc)

  finds-map : FindsMap e
  finds-map p again = by (slice_get w.lanes i) refl
    where
      own : (l : LaneState) → slice_get w.lanes i ≡ Some l → (o : OwnStep w e.actor l) → is_unfit e.answer ≡ false
      own l there o =
          let t : Turned = by_reply (lane_step l e.actor.side) o.reply in
          let turn : t.turn ≡ Stepped e = of-turn t.turn (sym (ap entry_of o.turn) ∙ is) in
          let now = resends-now l p (turn-steps l e.actor.side o.reply) (ap (resends p) turn ∙ again) in
          sym (ap is_unfit_turn turn)
          ∙ ap (λ x. is_unfit_turn (by_reply (lane_step l x) o.reply).turn) now.side
          ∙ resends-fit l now.send o.reply (all i l there) (well.each i l there).machine.clusters now.due

      by : (q : Option LaneState) → slice_get w.lanes i ≡ q → is_unfit e.answer ≡ false
      by None f =
          let none : None ≡ Some e = sym (ap (λ q. entry_of (step_of w e.actor q).turn) f) ∙ is in absurd (cc)
      by (Some l) f = own l f (own-step w e.actor l f)

find-maps : (s : Scenario) (w : WorldState) (es : List JournalEntry) (end : WorldState) → IsWellFormed s w →
    AllDue w → Leads w es end → FindMaps es
find-maps s w [] end well all h = tt
find-maps s w (e ∷ es) end well all h = (
  finds-map s w well all e h.0,
  find-maps s (step w e.actor).world es end (step-keeps s w well e.actor) (due-on w e.actor all) h.1,
)

-- no resend is due at the opening
opens-all-due : (s : Scenario) → AllDue (opening_world s)
opens-all-due s i l e =
    let o = opening_at 0 (maxmem_of s.frames) s.drivers i l e in
    subst DueStands (sym o.opens) (opens-due (0 + i) (maxmem_of s.frames) o.driver)

pub journals-find : (s : Scenario) (es : List JournalEntry) (end : WorldState) → IsValid s →
    Leads (opening_world s) es end → FindMaps es
journals-find s es end valid h = find-maps s (opening_world s) es end (opens-well s valid) (opens-all-due s) h
