-- If no actor can step, each script has ended or awaits a map that waits for pages, and no callback is to be called.
use Rattle.std.proofs.Common.{◌≡◌, ℕ, zero, suc, ◌<◌, ◌≤◌, ◌==◌, ◌&&◌, ◌||◌, Bool, true, false, List, [], ◌∷◌}
use Rattle.std.proofs.Common.{length, Option, Some, None, if◌then◌else◌, refl, sym, ap, ◌∙◌, subst, arith, slice_get}
use Rattle.std.proofs.Common.{nat_lt}
use Rattle.std.proofs.lemmas.Bool.{and_parts, eq-eqb}
use Rattle.std.proofs.lemmas.Bool.Decides.{nat_tests}
use Rattle.std.specs.FinMap.{get, contains_key}
use Rattle.busdma_machine.specs.declared.bounce.zone.Waiter.{Waiter}
use Rattle.busdma_base.specs.declared.journals.journal.Actor.{Actor}
use Rattle.busdma_base.specs.declared.journals.journal.Side.{Side}
use Rattle.busdma_base.specs.declared.journals.journal.Side.TheVariants as side
use Rattle.busdma_base.specs.declared.scenarios.scenario.Scenario.{Scenario}
use Rattle.busdma_base.specs.declared.scenarios.script.Op.{Op}
use Rattle.busdma_base.specs.declared.scenarios.script.Op.TheVariants as op
use Rattle.busdma_machine.specs.Bounce.AccountStep.{account_step, called_from}
use Rattle.lane_agreement.specs.OwnShare.{share_if}
use Rattle.lane_agreement.specs.View as view
use Rattle.lane_agreement.specs.View.{Return}
use Rattle.lane_agreement.proofs.Asking.{known}
use Rattle.busdma_base.specs.declared.scenarios.queued.QueuedItem.{QueuedItem}
use Rattle.busdma_base.specs.Scenarios.Queues.{queue_names}
use Rattle.ideal_lane.specs.Asking.{Asking, Gives, Asks, goes_on}
use Rattle.ideal_lane.specs.State.{LaneState, LaneMap, Stage, Idle, Waiting, Loaded, Returning, named}
use Rattle.ideal_lane.specs.State.{WaitingLoad}
use Rattle.ideal_lane.specs.Outcomes.{Outcome}
use Rattle.ideal_lane.specs.Standing.{IsPageless}
use Rattle.ideal_lane.specs.Sends.{Send, due_send, is_kept, resend, send_of}
use Rattle.ideal_lane.specs.Turns.{Blocked, stays, operation, transfer, waits, waits_in, is_waiting, advanced, due_turn}
use Rattle.ideal_lane.specs.Turns.{kept, left_queue, next_operation, resent, script_turn, transfer_turn, called_back}
use Rattle.ideal_lane.specs.Turns.{lane_step, went_on}
use Rattle.ideal_lane.specs.View.{view_of, own_map}
use Rattle.ideal_lane.proofs.ViewLaws.{zoned}
use Rattle.ideal_world.specs.Ends.{IsAtRest}
use Rattle.ideal_world.specs.Waiting.{IsAwaiting, EndsOrAwaits, HasEnded, Awaits, DriverAwaits, OnlyAwaits}
use Rattle.ideal_world.specs.WellFormed.{IsDriverOf, IsWellFormed}
use Rattle.ideal_world.specs.World.{WorldState, replied, step_of, entry_of, has_ended}
use Rattle.ideal_world.proofs.Keeping.{fits}
use Rattle.ideal_world.proofs.Lanes.{found}
use Rattle.ideal_world.proofs.Waiters.{in-zone, unlisted, head-listed}

-- if there is no operation at the place, the script has ended
past-end : (script : List Op) (place : ℕ) → slice_get script place ≡ None → length script ≤ place
past-end [] place h = omega arith
past-end (o ∷ script) zero h = absurd (cc)
past-end (o ∷ script) (suc place) h = let r = past-end script place h in omega (arith, r)

-- a map that waits
record WaitsWith (o : Option LaneMap) : Type 0 where
  map : LaneMap
  load : WaitingLoad
  is : o ≡ Some map
  stage : map.stage ≡ Waiting load

waits-with : (o : Option LaneMap) → is_waiting o ≡ true → WaitsWith o
waits-with None h = absurd (cc)
waits-with (Some o) h = by o.stage refl h
  where
    by : (s : Stage) → o.stage ≡ s → waits_in s ≡ true → WaitsWith (Some o)
    by Idle e t = absurd (cc)
    by (Waiting w) e t = record { map = o; load = w; is = refl; stage = e }
    by (Loaded cs ss ps) e t = absurd (cc)
    by Returning e t = absurd (cc)

-- an operation that cannot step, with an empty queue, awaits a map that waits
record Awaited (l : LaneState) (o : Op) : Type 0 where
  map : ℕ
  is : o ≡ op.Await map
  waits : WaitsWith (get l.maps map)

awaited : (l : LaneState) (o : Op) → l.queue ≡ [] → waits o l ≡ true → Awaited l o
awaited l (op.Await m) none h =
    let parts : (is_waiting (get l.maps m) || queue_names m l.queue) ≡ true =
    (and_parts (contains_key l.maps m) (is_waiting (get l.maps m) || queue_names m l.queue) h).1 in
    let unnamed : queue_names m l.queue ≡ false = ap (queue_names m) none in
    record { map = m; is = refl; waits = waits-with (get l.maps m) (by (is_waiting (get l.maps m)) _ unnamed parts) }
  where
    by : (b c : Bool) → c ≡ false → (b || c) ≡ true → b ≡ true
    by true c e t = refl
    by false c e t = sym e ∙ t
awaited l _ none h = absurd (cc)

-- an operation, a resend or an item that is done is a step
went : (w : WorldState) (i : ℕ) (l : LaneState) (o : Op) (place : ℕ) (x : Outcome) →
    entry_of (went_on o place x).turn ≡ None → ⊥
went w i l o place x = by (is_kept (send_of o) x.answer)
  where
    by : (b : Bool) → entry_of (if b then kept place x else advanced place x).turn ≡ None → ⊥
    by true h = absurd (cc)
    by false h = absurd (cc)

advances : (w : WorldState) (i : ℕ) (l : LaneState) (o : Op) (place : ℕ) (x : Asking Outcome) →
    entry_of (replied w i l (goes_on (went_on o place) x)).turn ≡ None → ⊥
advances w i l o place (Gives y) h = went w i l o place y h
advances w i l o place (Asks c k) h = went w i l o place (k (account_step l.id c w.account).reply) h

again : (w : WorldState) (i place : ℕ) (l : LaneState) (x : Asking Outcome) →
    entry_of (replied w i l (goes_on (resent place) x)).turn ≡ None → ⊥
again w i place l (Gives o) h = absurd (cc)
again w i place l (Asks c k) h = absurd (cc)

leaves : (w : WorldState) (i : ℕ) (l : LaneState) (q : QueuedItem) (rest : List QueuedItem) (x : Asking Outcome) →
    entry_of (replied w i l (goes_on (left_queue q rest) x)).turn ≡ None → ⊥
leaves w i l q rest (Gives o) h = absurd (cc)
leaves w i l q rest (Asks c k) h = absurd (cc)

module _ (s : Scenario) (w : WorldState) (well : IsWellFormed s w) (rest : IsAtRest w) where
  -- ---- no callback is to be called

  module _ (x : Waiter) (ws : List Waiter) (ready : w.account.ready ≡ x ∷ ws) where
    -- the driver of the head of the callback list can step
    taken : (l : LaneState) → slice_get w.lanes x.map.lane.0 ≡ Some l → ⊥
    taken l there =
        let mine : (x.map.lane.0 == l.id) ≡ true =
        eq-eqb x.map.lane.0 l.id (sym (well.each x.map.lane.0 l there).number) in
        let actor : Actor = record { lane = x.map.lane; side = side.Callback } in
        let still : entry_of (step_of w actor (Some l)).turn ≡ None =
        ap (λ o. entry_of (step_of w actor o).turn) (sym there) ∙ rest actor in
        let asked : entry_of (called_back l (called_from (x ∷ ws) l.id w.account).reply).turn ≡ None =
        subst (λ q. entry_of (called_back l (called_from q l.id w.account).reply).turn ≡ None) ready still in
        stepped l mine asked
      where
        stepped : (l : LaneState) → (x.map.lane.0 == l.id) ≡ true →
            entry_of (called_back l (called_from (x ∷ ws) l.id w.account).reply).turn ≡ None → ⊥
        stepped l e h = absurd (cc)

    nobody : ⊥
    nobody = by (nat_lt x.map.lane.0 (length w.lanes)) refl
      where
        by : (b : Bool) → nat_lt x.map.lane.0 (length w.lanes) ≡ b → ⊥
        by true t =
            let lt : x.map.lane.0 < length w.lanes = grind (arith, nat_tests) in
            let at = found w.lanes x.map.lane.0 lt in
            taken at.0 at.1
        by false t =
            let c = well.count in
            let past : length s.drivers ≤ x.map.lane.0 = grind (arith, nat_tests) in
            absurd (omega (
              arith,
              unlisted s w.account x.map well.reached past,
              head-listed w.account x ws ready,
            ))

  none-ready : w.account.ready ≡ []
  none-ready = by w.account.ready refl
    where
      by : (ws : List Waiter) → w.account.ready ≡ ws → ws ≡ []
      by [] e = refl
      by (x ∷ ws) e = absurd (nobody x ws e)

  -- ---- each driver

  module _ (i : ℕ) (l : LaneState) (there : slice_get w.lanes i ≡ Some l) where
    driver : IsDriverOf s w.account i l
    driver = well.each i l there

    no-turn : (d : Side) → entry_of (replied w i l (lane_step l d)).turn ≡ None
    no-turn d =
        let actor : Actor = record { lane = record { 0 = i }; side = d } in
        ap (λ o. entry_of (step_of w actor o).turn) (sym there) ∙ rest actor

    no-queue : (qs : List QueuedItem) → entry_of (replied w i l (transfer_turn qs l)).turn ≡ None → qs ≡ []
    no-queue [] h = refl
    no-queue (q ∷ qs) h = absurd (leaves w i l q qs (transfer q.item l) h)

    no-returns : (rs : List Return) → entry_of (replied w i l (script_turn rs l)).turn ≡ None → rs ≡ []
    no-returns [] h = refl
    no-returns (r ∷ rs) h = absurd (cc)

    queue : l.queue ≡ []
    queue = no-queue l.queue (no-turn side.Transfer)

    returns : l.returns ≡ []
    returns = no-returns l.returns (no-turn side.Script)

    -- no resend is due, because it would be a step
    none-due : (q : Option Send) → entry_of (replied w i l (due_turn q l)).turn ≡ None →
        entry_of (replied w i l (next_operation (slice_get l.script l.place) l)).turn ≡ None
    none-due None h = h
    none-due (Some s) h = absurd (again w i l.place l (resend s l) h)

    no-next : entry_of (replied w i l (next_operation (slice_get l.script l.place) l)).turn ≡ None
    no-next =
        none-due (due_send l)
        (subst (λ rs. entry_of (replied w i l (script_turn rs l)).turn ≡ None) returns (no-turn side.Script))

    -- the map that is awaited is in its zone's waiting list
    in-list : (m : ℕ) → slice_get l.script l.place ≡ Some (op.Await m) → (x : WaitsWith (get l.maps m)) →
        (zone : Option ℕ) → x.map.zone ≡ zone → IsAwaiting w.account l
    in-list m at x None e =
        let stands = driver.stands.each m x.map x.is in
        let none : IsPageless (Waiting x.load) = subst IsPageless x.stage (stands.pageless e) in
        absurd none
    in-list m at x (Some z) e =
        let seen : own_map (get l.maps m) ≡ Some (record { zone = z; stage = view.Waiting x.load.need }) =
        ap own_map x.is ∙ (zoned x.map.stage x.map z e
        ∙ ap (λ (t : Stage). Some (record { zone = z; stage = Rattle.ideal_lane.specs.View.stage_of t })) x.stage) in
        let same = known (view_of l) w.account (named l m) _ driver.agrees refl seen in
        let one : share_if ((x.load.need == x.load.need) && (z == z)) ≡ 1 =
        rw (eq-eqb x.load.need x.load.need refl, eq-eqb z z refl) refl in
        record {
          map = m;
          operation = at;
          own = x.map;
          there = x.is;
          load = x.load;
          stage = x.stage;
          zone = z;
          bounces = e;
          listed = in-zone (named l m) z x.load.need w.account (fits s w well).well none-ready ∙
              (same.waits z x.load.need ∙ one);
        }

    awaits : (o : Op) → slice_get l.script l.place ≡ Some o → waits o l ≡ true → EndsOrAwaits w.account l
    awaits o at h =
        let a = awaited l o queue h in
        Awaits (in-list a.map (at ∙ ap (λ x. Some x) a.is) a.waits a.waits.map.zone refl)

    script : EndsOrAwaits w.account l
    script = by (slice_get l.script l.place) refl no-next
      where
        by : (o : Option Op) → slice_get l.script l.place ≡ o →
            entry_of (replied w i l (next_operation o l)).turn ≡ None → EndsOrAwaits w.account l
        by None e h =
            let past : length l.script ≤ l.place = past-end l.script l.place e in
            let ended : has_ended l ≡ true = grind (arith, nat_tests) in
            HasEnded ended
        by (Some o) e h = blocked (waits o l) refl h
          where
            blocked : (b : Bool) → waits o l ≡ b → entry_of (replied w i l
                (if b then Gives (stays Blocked l) else goes_on (went_on o l.place) (operation o l))).turn ≡ None →
                EndsOrAwaits w.account l
            blocked true t g = awaits o e t
            blocked false t g = absurd (advances w i l o l.place (operation o l) g)

    idle : DriverAwaits w.account l
    idle = record { returns = returns; queue = queue; script = script }

  pub only-awaits : OnlyAwaits w
  only-awaits = record { each = idle; ready = none-ready }
