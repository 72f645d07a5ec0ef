-- In a journal each read answers what was last written.
use Rattle.std.proofs.Common.{◌≡◌, ◌≢◌, ℕ, ◌==◌, Bool, true, false, if◌then◌else◌, List, [], ◌∷◌, ◌++◌, Option, Some}
use Rattle.std.proofs.Common.{None, slice_get}
use Rattle.std.proofs.Common.{refl, sym, ap, ◌∙◌, subst}
use Rattle.std.proofs.lemmas.Bool.{eq-eqb, eqb-true, false≢true}
use Rattle.busdma_base.specs.declared.journals.journal.Journal.{Journal}
use Rattle.busdma_base.specs.declared.journals.journal.JournalEntry.{JournalEntry}
use Rattle.busdma_base.specs.declared.scenarios.scenario.PageRun.{PageRun}
use Rattle.busdma_base.specs.declared.scenarios.scenario.Scenario.{Scenario}
use Rattle.busdma_base.specs.Scenarios.Opening.{maxmem_of}
use Rattle.busdma_base.specs.Scenarios.PageRuns.{is_own}
use Rattle.busdma_base.specs.Scenarios.Valid.{IsValid}
use Rattle.ideal_lane.specs.Asking.{by_reply}
use Rattle.ideal_lane.specs.IdealMemory.{Known, value}
use Rattle.ideal_lane.specs.Opening.{zeros}
use Rattle.ideal_lane.specs.State.{LaneState}
use Rattle.ideal_lane.specs.Turns.{Turn, Turned, Stepped, Blocked, Ended, lane_step}
use Rattle.ideal_world.specs.Legal.{IsLegal, Leads}
use Rattle.ideal_world.specs.WellFormed.{IsWellFormed}
use Rattle.ideal_world.specs.World.{WorldState, entry_of, opening_world, step, step_entry, step_of}
use Rattle.ideal_world.proofs.Keeping.{step-keeps}
use Rattle.ideal_world.proofs.Lanes.{opening_at}
use Rattle.ideal_world.proofs.Opens.{opens-well}
use Rattle.ideal_world.proofs.Turns.{other-step, own-step, still}
use Rattle.ideal_wire.proofs.Laid.Positions.{found_one}
use Rattle.ideal_laws.specs.LastWrites.{AnswersLast, ReadsLast, Written, by_did, by_entry, last_written}
use Rattle.ideal_laws.proofs.LastTurns.{TurnLast, TurnReads, turn-last, turn-reads}
use Rattle.ideal_laws.proofs.LastValues.{IsLast}

module _ (s : Scenario) (i : ℕ) where
  -- what is Known of the driver is what was last written
  abbrev DriverLast : WorldState → Written → Type 0
  DriverLast w last = (l : LaneState) → slice_get w.lanes i ≡ Some l → IsLast l.memory last

  module _ (w : WorldState) (well : IsWellFormed s w) (e : JournalEntry) (is : step_entry w e.actor ≡ Some e)
      (last : Written) (known : DriverLast w last) where
    abbrev next : WorldState
    next = (step w e.actor).world

    turn-entry : (t : Turn) (l : LaneState) (a : _) (st : _) (g : _) (laid : _) (mc : _) (h : IsLast l.memory last)
        (after : LaneState) →
        entry_of t ≡ Some e → TurnLast l a st g laid mc last h t after →
        IsLast after.memory (by_did e.did e.answer l after last)
    turn-entry (Stepped f) l a st g laid mc h after q k =
        let same : f ≡ e = cc in
        subst (λ (z : JournalEntry). IsLast after.memory (by_did z.did z.answer l after last)) same k
    turn-entry Blocked l a st g laid mc h after q k = absurd (cc)
    turn-entry Ended l a st g laid mc h after q k = absurd (cc)

    step-last : DriverLast next (by_entry i e (slice_get w.lanes i) (slice_get next.lanes i) last)
    step-last m after =
        subst (λ o. IsLast m.memory (by_entry i e (slice_get w.lanes i) o last)) (sym after)
        (by (slice_get w.lanes i) refl (e.actor.lane.0 == i) refl)
      where
        mine : (l : LaneState) → slice_get w.lanes i ≡ Some l → (e.actor.lane.0 == i) ≡ true →
            IsLast m.memory (by_did e.did e.answer l m last)
        mine l there q =
            let at : e.actor.lane.0 ≡ i = eqb-true e.actor.lane.0 i q in
            let own = well.each i l there in
            let o = own-step w e.actor l (ap (slice_get w.lanes) at ∙ there) in
            let t : Turned = by_reply (lane_step l e.actor.side) o.reply in
            let same : t.lane ≡ m =
            found_one (slice_get next.lanes i) t.lane m (sym (ap (slice_get next.lanes) at) ∙ o.there) after in
            subst (λ (n : LaneState). IsLast n.memory (by_did e.did e.answer l n last)) same
            (turn-entry t.turn l w.account own.stands own.agrees own.laid own.machine (known l there) t.lane
            (sym (ap entry_of o.turn) ∙ is)
            (turn-last l w.account own.stands own.agrees own.laid own.machine last (known l there) e.actor.side
            o.reply))

        by : (o : Option LaneState) → slice_get w.lanes i ≡ o → (b : Bool) → (e.actor.lane.0 == i) ≡ b →
            IsLast m.memory (by_entry i e o (Some m) last)
        by None there b q =
            let none : None ≡ Some m = sym (still w e.actor i there) ∙ after in absurd (cc)
        by (Some l) there true q =
            subst (λ b. IsLast m.memory (if b then by_did e.did e.answer l m last else last)) (sym q) (mine l there q)
        by (Some l) there false q =
            let off : i ≢ e.actor.lane.0 = (λ same. false≢true (sym q ∙ eq-eqb e.actor.lane.0 i (sym same))) in
            subst (λ b. IsLast m.memory (if b then by_did e.did e.answer l m last else last)) (sym q)
            (known m (sym (other-step w e.actor i off) ∙ after))

  entries-last : (w : WorldState) (es : List JournalEntry) (end : WorldState) (last : Written) → IsWellFormed s w →
      DriverLast w last → Leads w es end → DriverLast end (last_written i w es last) × IsWellFormed s end
  entries-last w [] end last well known h =
      subst (λ v. DriverLast v last × IsWellFormed s v) h (known, well)
  entries-last w (e ∷ es) end last well known h =
      entries-last (step w e.actor).world es end
      (by_entry i e (slice_get w.lanes i) (slice_get (step w e.actor).world.lanes i) last)
      (step-keeps s w well e.actor) (step-last w well e h.0 last known) h.1

  -- the driver opens with zeros
  zeros-last : (runs : List PageRun) → IsLast (zeros runs) (λ a. 0)
  zeros-last runs a v = by (is_own runs a)
    where
      by : (b : Bool) → (if b then Some (Known 0) else None) ≡ Some (Known v) → ◌≡◌ {A = ℕ} 0 v
      by true e = ap value e
      by false e = absurd (cc)

  opens-last : DriverLast (opening_world s) (λ a. 0)
  opens-last l there =
      let o = opening_at 0 (maxmem_of s.frames) s.drivers i l there in
      subst (λ (k : LaneState). IsLast k.memory (λ a. 0)) (sym o.opens) (zeros-last o.driver.pages)

read-entry : (t : Turn) (e : JournalEntry) (l : LaneState) (st : _) (laid : _) (sp : _) (mp : _) (w : Written)
    (h : IsLast l.memory w) → entry_of t ≡ Some e → TurnReads l st laid sp mp w h t → ReadsLast e.did e.answer l w
read-entry (Stepped f) e l st laid sp mp w h q k =
    let same : f ≡ e = cc in subst (λ (z : JournalEntry). ReadsLast z.did z.answer l w) same k
read-entry Blocked e l st laid sp mp w h q k = absurd (cc)
read-entry Ended e l st laid sp mp w h q k = absurd (cc)

pub reads-last : (s : Scenario) (before : List JournalEntry) (w : WorldState) (e : JournalEntry) (l : LaneState) →
    IsValid s →
    Leads (opening_world s) before w → step_entry w e.actor ≡ Some e → slice_get w.lanes e.actor.lane.0 ≡ Some l →
    ReadsLast e.did e.answer l (last_written e.actor.lane.0 (opening_world s) before (λ a. 0))
reads-last s before w e l valid leads is there =
    let i : ℕ = e.actor.lane.0 in
    let r = entries-last s i (opening_world s) before w (λ a. 0) (opens-well s valid) (opens-last s i) leads in
    let last : Written = last_written i (opening_world s) before (λ a. 0) in
    let own = r.1.each i l there in
    let o = own-step w e.actor l there in
    let t : Turned = by_reply (lane_step l e.actor.side) o.reply in
    read-entry t.turn e l own.stands own.laid own.spaced own.mapped last (r.0 l there) (sym (ap entry_of o.turn) ∙ is)
    (turn-reads l own.stands own.laid own.spaced own.mapped last (r.0 l there) e.actor.side o.reply)

-- the entry after the first entries of entries that lead on is the entry of the next step
record Middle (w : WorldState) (es : List JournalEntry) (e : JournalEntry) : Type 0 where
  world : WorldState
  leads : Leads w es world
  next : step_entry world e.actor ≡ Some e

middle : (w : WorldState) (es rest : List JournalEntry) (e : JournalEntry) (end : WorldState) →
    Leads w (es ++ (e ∷ rest)) end → Middle w es e
middle w [] rest e end h = record { world = w; leads = refl; next = h.0 }
middle w (f ∷ es) rest e end h =
    let m = middle (step w f.actor).world es rest e end h.1 in
    record { world = m.world; leads = (h.0, m.leads); next = m.next }

module _ (s : Scenario) (j : Journal) (before rest : List JournalEntry) (e : JournalEntry) (valid : IsValid s)
    (legal : IsLegal s j) (parts : j.entries ≡ before ++ (e ∷ rest)) where
  at : Middle (opening_world s) before e
  at =
      middle (opening_world s) before rest e legal.last
      (subst (λ es. Leads (opening_world s) es legal.last) parts legal.leads)

  by_lane : (o : Option LaneState) → slice_get at.world.lanes e.actor.lane.0 ≡ o → AnswersLast s before e
  by_lane None q =
      let none : None ≡ Some e = ap (λ o. entry_of (step_of at.world e.actor o).turn) (sym q) ∙ at.next in absurd (cc)
  by_lane (Some l) q =
      let reads = reads-last s before at.world e l valid at.leads at.next q in
      record { world = at.world; leads = at.leads; lane = l; there = q; reads = reads }

  pub answers-last : AnswersLast s before e
  answers-last = by_lane (slice_get at.world.lanes e.actor.lane.0) refl
