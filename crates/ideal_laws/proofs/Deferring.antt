-- In a journal the loads of a map that wait and the calls of its callback take turns.
use Rattle.std.proofs.Common.{◌≡◌, ◌≢◌, ℕ, ◌+◌, ◌≤◌, ◌==◌, ◌&&◌, Bool, true, false, cond, List, [], ◌∷◌, ◌++◌}
use Rattle.std.proofs.Common.{Option, Some, None, refl, sym, ap, ◌∙◌, arith, subst, slice_get, slice_set}
use Rattle.std.proofs.lemmas.Bool.{eqb-true, eq-eqb, false≢true}
use Rattle.std.proofs.lemmas.List.Sums.{sum_by-cons}
use Rattle.std.specs.FinMap.{get, get-empty}
use Rattle.std.specs.Option.{option_map_or}
use Rattle.std.specs.Ordering.{nat_cmp}
use Rattle.busdma_machine.specs.declared.bounce.hold.HubCall.TheVariants.{TakeCallback}
use Rattle.busdma_machine.specs.declared.bounce.hold.HubReply.{HubReply}
use Rattle.busdma_machine.specs.declared.bounce.hold.HubReply.TheVariants.{Nothing}
use Rattle.busdma_machine.specs.Bounce.Account.{Account}
use Rattle.busdma_machine.specs.Bounce.AccountStep.{account_step}
use Rattle.busdma_base.specs.declared.journals.journal.Journal.{Journal}
use Rattle.busdma_base.specs.declared.journals.journal.JournalEntry.{JournalEntry}
use Rattle.busdma_base.specs.declared.journals.journal.Side.{Side}
use Rattle.busdma_base.specs.declared.journals.journal.Side.TheVariants as side
use Rattle.busdma_base.specs.declared.scenarios.scenario.Driver.{Driver}
use Rattle.busdma_base.specs.declared.scenarios.scenario.Scenario.{Scenario}
use Rattle.busdma_base.specs.Scenarios.Opening.{maxmem_of}
use Rattle.busdma_base.specs.Scenarios.Valid.{IsValid}
use Rattle.ideal_lane.specs.Asking.{Asking, Gives, Asks, by_reply}
use Rattle.ideal_lane.specs.State.{LaneState}
use Rattle.ideal_lane.specs.Turns.{Turn, Turned, Stepped, Blocked, Ended, is_waiting, lane_step, waits_in}
use Rattle.ideal_lane.proofs.TurnLaws.{callback-waits}
use Rattle.ideal_world.specs.Legal.{IsLegal, Leads}
use Rattle.ideal_world.specs.WellFormed.{IsDriverOf, IsWellFormed}
use Rattle.ideal_world.specs.World.{WorldState, WorldTurned, entry_of, opening_world, replied, step, step_entry}
use Rattle.ideal_world.specs.World.{step_of}
use Rattle.ideal_world.proofs.Keeping.{fits, step-keeps}
use Rattle.ideal_world.proofs.Lanes.{opening_at, set-here, within}
use Rattle.ideal_world.proofs.Opens.{opens-well}
use Rattle.ideal_world.proofs.Turns.{other-step}
use Rattle.ideal_laws.specs.Deferrals.{calls_back, defers, is_callback_of, is_in_progress, loads_by, driver_script}
use Rattle.ideal_laws.specs.Deferrals.{times_called_back, times_deferred}
use Rattle.ideal_laws.proofs.Pending.{Counts, CountsIn, callback-counts, one, pend, pending, queue-counts}
use Rattle.ideal_laws.proofs.Pending.{script-counts}

-- the account's reply to the call of a step, if it makes one
abbrev reply_to : ℕ → Account → Asking Turned → HubReply
reply_to lane a (Gives t) = Nothing
reply_to lane a (Asks c k) = (account_step lane c a).reply

-- the world after the turn of a driver
replied-lanes : (w : WorldState) (i : ℕ) (l : LaneState) (x : Asking Turned) →
    (replied w i l x).world.lanes ≡ slice_set w.lanes i (by_reply x (reply_to l.id w.account x)).lane
replied-lanes w i l (Gives t) = refl
replied-lanes w i l (Asks c k) = refl

replied-turn : (w : WorldState) (i : ℕ) (l : LaneState) (x : Asking Turned) →
    (replied w i l x).turn ≡ (by_reply x (reply_to l.id w.account x)).turn
replied-turn w i l (Gives t) = refl
replied-turn w i l (Asks c k) = refl

module _ (s : Scenario) (i m : ℕ) where
  -- whether the driver's map waits
  abbrev waiting : WorldState → ℕ
  waiting w = option_map_or (λ l. pending m l) (slice_get w.lanes i) 0

  -- what one step of an actor counts
  abbrev StepCounts : WorldState → JournalEntry → Type 0
  StepCounts w e = waiting w + one (defers s i m e) ≡ one (calls_back i m e) + waiting (step w e.actor).world

  module _ (w : WorldState) (well : IsWellFormed s w) (e : JournalEntry) (is : step_entry w e.actor ≡ Some e) where
    -- another driver's step counts nothing
    others-count : (e.actor.lane.0 == i) ≡ false → StepCounts w e
    others-count q =
        let off : i ≢ e.actor.lane.0 = (λ same. false≢true (sym q ∙ eq-eqb e.actor.lane.0 i (sym same))) in
        let same : waiting (step w e.actor).world ≡ waiting w =
        ap (λ o. option_map_or (λ l. pending m l) o 0) (other-step w e.actor i off) in
        let none : one (defers s i m e) ≡ 0 =
        ap (λ b. one (b && (is_in_progress e.answer && loads_by m (driver_script s i) e.did))) q in
        let nor : one (calls_back i m e) ≡ 0 = ap (λ b. one (b && is_callback_of m e.did)) q in
        omega (arith, same, none, nor)

    module _ (q : (e.actor.lane.0 == i) ≡ true) (l : LaneState) (there : slice_get w.lanes i ≡ Some l) where
      own : IsDriverOf s w.account i l
      own = well.each i l there

      at : e.actor.lane.0 ≡ i
      at = eqb-true e.actor.lane.0 i q

      script : driver_script s i ≡ l.script
      script = ap (λ o. option_map_or (λ (d : Driver). d.script) o []) own.there ∙ sym own.script

      abbrev x : Asking Turned
      x = lane_step l e.actor.side

      abbrev t : Turned
      t = by_reply x (reply_to l.id w.account x)

      here : step w e.actor ≡ replied w e.actor.lane.0 l x
      here = ap (step_of w e.actor) (ap (slice_get w.lanes) at ∙ there)

      counts : Counts m l t
      counts = by e.actor.side
        where
          by : (d : Side) → Counts m l (by_reply (lane_step l d) (reply_to l.id w.account (lane_step l d)))
          by side.Script =
              script-counts m l (own.stands.no_map l.place (omega arith)) own.agrees.returns l.returns refl
              (reply_to l.id w.account (lane_step l side.Script))
          by side.Transfer = queue-counts m l l.queue (reply_to l.id w.account (lane_step l side.Transfer))
          by side.Callback =
              callback-counts m l (account_step l.id TakeCallback w.account).reply (λ n pages r.
              let c = (callback-waits l w.account n pages (fits s w well) own.agrees r).2 in
              ap is_waiting c.found ∙ ap waits_in c.stage)

      turn : entry_of t.turn ≡ Some e
      turn = sym (ap entry_of (ap (λ (y : WorldTurned). y.turn) here ∙ replied-turn w e.actor.lane.0 l x)) ∙ is

      -- the driver after it
      after : slice_get (step w e.actor).world.lanes i ≡ Some t.lane
      after =
          ap (λ (y : WorldTurned). slice_get y.world.lanes i) here
          ∙ ap (λ ls. slice_get ls i) (replied-lanes w e.actor.lane.0 l x)
          ∙ ap (λ k. slice_get (slice_set w.lanes k t.lane) i) at
          ∙ set-here w.lanes i t.lane (within w.lanes i l there)

      entry-counts : (y : Turn) → entry_of y ≡ Some e → CountsIn m l y t.lane →
          pending m l + one (is_in_progress e.answer && loads_by m l.script e.did)
          ≡ one (is_callback_of m e.did) + pending m t.lane
      entry-counts (Stepped f) g h =
          let same : f ≡ e = cc in
          subst (λ (z : JournalEntry). pending m l + one (is_in_progress z.answer && loads_by m l.script z.did)
          ≡ one (is_callback_of m z.did) + pending m t.lane) same h
      entry-counts Blocked g h = absurd (cc)
      entry-counts Ended g h = absurd (cc)

      own-counts : StepCounts w e
      own-counts =
          let before : waiting w ≡ pending m l = ap (λ o. option_map_or (λ l. pending m l) o 0) there in
          let later : waiting (step w e.actor).world ≡ pending m t.lane =
          ap (λ o. option_map_or (λ l. pending m l) o 0) after in
          let loads : one (defers s i m e) ≡ one (is_in_progress e.answer && loads_by m l.script e.did) =
          ap (λ b. one (b && (is_in_progress e.answer && loads_by m (driver_script s i) e.did))) q
          ∙ ap (λ ops. one (is_in_progress e.answer && loads_by m ops e.did)) script in
          let calls : one (calls_back i m e) ≡ one (is_callback_of m e.did) =
          ap (λ b. one (b && is_callback_of m e.did)) q in
          omega (arith, before, later, loads, calls, entry-counts t.turn turn counts)

    step-counts : StepCounts w e
    step-counts = by (e.actor.lane.0 == i) refl (slice_get w.lanes i) refl
      where
        by : (b : Bool) → (e.actor.lane.0 == i) ≡ b → (o : Option LaneState) → slice_get w.lanes i ≡ o → StepCounts w e
        by false q o there = others-count q
        by true q (Some l) there = own-counts q l there
        by true q None there =
            let gone : None ≡ Some e =
            sym (ap (λ o. entry_of (step_of w e.actor o).turn)
            (ap (slice_get w.lanes) (eqb-true e.actor.lane.0 i q) ∙ there)) ∙ is in
            absurd (cc)

  -- what entries that lead on count
  entries-count : (w : WorldState) (es : List JournalEntry) (end : WorldState) → IsWellFormed s w → Leads w es end →
      waiting w + times_deferred s i m es ≡ times_called_back i m es + waiting end
  entries-count w [] end well h = let same : waiting w ≡ waiting end = ap waiting h in omega (arith, same)
  entries-count w (e ∷ es) end well h =
      omega (
        arith,
        step-counts w well e h.0,
        entries-count (step w e.actor).world es end (step-keeps s w well e.actor) h.1,
        sum_by-cons (λ f. cond (defers s i m f) 1 0) e es,
        sum_by-cons (λ f. cond (calls_back i m f) 1 0) e es,
      )

  -- nothing waits when the scenario opens
  opens-unwaiting : waiting (opening_world s) ≡ 0
  opens-unwaiting = by (slice_get (opening_world s).lanes i) refl
    where
      by : (o : Option LaneState) → slice_get (opening_world s).lanes i ≡ o → option_map_or (λ l. pending m l) o 0 ≡ 0
      by None e = refl
      by (Some l) e =
          let o = opening_at 0 (maxmem_of s.frames) s.drivers i l e in
          ap (λ k. pending m k) o.opens ∙ ap pend (get-empty nat_cmp m)

  at-most-one : (w : WorldState) → waiting w ≤ 1
  at-most-one w = by (slice_get w.lanes i)
    where
      bit : (b : Bool) → one b ≤ 1
      bit true = omega arith
      bit false = omega arith

      by : (o : Option LaneState) → option_map_or (λ l. pending m l) o 0 ≤ 1
      by None = omega arith
      by (Some l) = bit (is_waiting (get l.maps m))

  -- the first entries of entries that lead on lead on too
  record LeadsTo (w : WorldState) (es : List JournalEntry) : Type 0 where
    middle : WorldState
    leads : Leads w es middle

  first-lead : (w : WorldState) (es fs : List JournalEntry) (end : WorldState) → Leads w (es ++ fs) end → LeadsTo w es
  first-lead w [] fs end h = record { middle = w; leads = refl }
  first-lead w (e ∷ es) fs end h =
      let r = first-lead (step w e.actor).world es fs end h.1 in
      record { middle = r.middle; leads = (h.0, r.leads) }

  module _ (j : Journal) (first rest : List JournalEntry) (valid : IsValid s) (legal : IsLegal s j)
      (parts : j.entries ≡ first ++ rest) where
    reached : LeadsTo (opening_world s) first
    reached =
        first-lead (opening_world s) first rest legal.last
        (subst (λ es. Leads (opening_world s) es legal.last) parts legal.leads)

    counted : times_deferred s i m first ≡ times_called_back i m first + waiting reached.middle
    counted =
        omega (
          arith,
          entries-count (opening_world s) first reached.middle (opens-well s valid) reached.leads,
          opens-unwaiting,
        )

    pub called-few : times_called_back i m first ≤ times_deferred s i m first
    called-few = omega (arith, counted)

    pub waiting-few : times_deferred s i m first ≤ times_called_back i m first + 1
    waiting-few = omega (arith, counted, at-most-one reached.middle)
