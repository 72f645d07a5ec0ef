-- Turns of the last rounds lead a run on, until no actor can step, and its journal is legal.
use Rattle.std.proofs.Common.{◌≡◌, ℕ, zero, suc, ◌+◌, ◌<◌, ◌≤◌, Bool, true, false, List, [], ◌∷◌, ◌++◌, length, All}
use Rattle.std.proofs.Common.{◌||◌, Option, Some, None, refl, sym, ap, ◌∙◌, subst, arith, nat_lt, slice_get, slice_set}
use Rattle.std.proofs.Common.{map, add-one, append-nil, get_or, length-append, take, if◌then◌else◌}
use Rattle.std.proofs.Math.Seq.{take-suc}
use Rattle.std.proofs.lemmas.Bool.Decides.{nat_tests}
use Rattle.std.proofs.lemmas.List.Elements.{All-head, All-nil, All-push, All-tail}
use Rattle.std.proofs.lemmas.List.{length-map}
use Rattle.std.proofs.lemmas.Option.{slice_get_past}
use Rattle.busdma_machine.specs.declared.bounce.hold.HoldEntry.{HoldEntry}
use Rattle.busdma_base.specs.declared.journals.journal.Actor.{Actor}
use Rattle.busdma_base.specs.declared.journals.journal.JournalEntry.{JournalEntry}
use Rattle.busdma_base.specs.declared.scenarios.scenario.Scenario.{Scenario}
use Rattle.busdma_machine.specs.Bounce.Account.{Account}
use Rattle.busdma_machine.specs.Bounce.History.{IsSound, account_of, after_entry}
use Rattle.busdma_machine.proofs.Accounts.LaneEntries.{account_of-append}
use Rattle.busdma_base.specs.Scenarios.Opening.{opening}
use Rattle.busdma_base.specs.Scenarios.Valid.{IsValid}
use Rattle.ideal_lane.specs.State.{LaneState}
use Rattle.ideal_lane.specs.Turns.{Turn, Stepped, Blocked, lane_step}
use Rattle.ideal_world.specs.Ends.{IsAtRest}
use Rattle.ideal_world.specs.Holds.{holds_at, step_holds}
use Rattle.ideal_world.specs.Left.{left_of}
use Rattle.ideal_world.specs.Legal.{round_of}
use Rattle.ideal_world.specs.WellFormed.{IsWellFormed}
use Rattle.ideal_world.specs.World.{WorldState, WorldTurned, entry_of, opening_world, step, step_entry, step_of}
use Rattle.ideal_world.proofs.Falling.{step-falls, step-rests}
use Rattle.ideal_world.proofs.HoldLaws.{holds-lead, holds-sound}
use Rattle.ideal_world.proofs.Lanes.{within}
use Rattle.ideal_world.proofs.RestRounds.{NoneSteps, in_round}
use Rattle.ideal_runs.specs.Merged.{AllRun, log_of, logged}
use Rattle.ideal_runs.specs.Runs.{Log, Runs}
use Rattle.ideal_runs.proofs.Leading.{Some-inj}
use Rattle.ideal_runs.proofs.FromLogs.{run-well}
use Rattle.lane_rounds.proofs.Shapes.{turn-shape}
use Rattle.bounce_hub.specs.Seen.{HubSeen}
use Rattle.lane_core.specs.declared.lane.Lane.{Lane}
use Rattle.lane_core.specs.LaneIdeal.{ideal}
use Rattle.ideal_runs.specs.FromLogs.{RunsTo}
use Rattle.lane_run.specs.Closing.{HaveTurned}
use Rattle.lane_run.specs.Threads.{HasRunThread}
use Rattle.lane_run.proofs.Logging.{Joins, all-run-on, joins}

-- ---- one turn more

sound-more : (a : Account) (es fs : List HoldEntry) → IsSound a es → IsSound (account_of a es) fs → IsSound a (es ++ fs)
sound-more a [] fs h k = k
sound-more a (e ∷ es) fs h k = (h.0, sound-more (after_entry e a) es fs h.1 k)

-- a step is of a driver that is there
pub steps-there : (w : WorldState) (actor : Actor) (after : WorldState) (e : JournalEntry) →
    record { world = after; turn = Stepped e } ≡ step w actor →
    (l : LaneState) × (slice_get w.lanes actor.lane.0 ≡ Some l)
steps-there w actor after e done = by (slice_get w.lanes actor.lane.0) refl
  where
    by : (o : Option LaneState) → slice_get w.lanes actor.lane.0 ≡ o →
        (l : LaneState) × (slice_get w.lanes actor.lane.0 ≡ Some l)
    by None none =
        let t : Stepped e ≡ Blocked =
        ap (λ (x : WorldTurned). x.turn) done ∙ ap (λ o. (step_of w actor o).turn) none in absurd (cc)
    by (Some l) there = (l, there)

-- which driver has a log
pub step-logged : {Q : Type 0} (s : Scenario) (items : Q → Log) (qs : List Q) (history : List HoldEntry)
    (w after : WorldState) (actor : Actor) (e : JournalEntry) → RunsTo s (map items qs) history w →
    record { world = after; turn = Stepped e } ≡ step w actor → actor.lane.0 < length qs
step-logged s items qs history w after actor e run done =
    let driver = steps-there w actor after e done in
    omega (
      arith,
      within w.lanes actor.lane.0 driver.0 driver.1,
      run.drivers.last,
      run.drivers.logged,
      length-map qs items,
    )

module _ (s : Scenario) (valid : IsValid s) (logs : List Log) (history more : List HoldEntry) (w after : WorldState)
    (actor : Actor) (run : RunsTo s logs history w) (grown : more ≡ history ++ step_holds w actor) where
  abbrev i : ℕ
  i = actor.lane.0

  well : IsWellFormed s w
  well = run-well s logs history w run valid

  -- how many holds came
  added : (n : ℕ) → length more ≡ length history + n → length (step_holds w actor) ≡ n
  added n count = omega (arith, count, ap length grown, length-append history (step_holds w actor))

  module _ (e : JournalEntry) (held : Bool) (done : record { world = after; turn = Stepped e } ≡ step w actor)
      (count : length more ≡ length history + (if held then 1 else 0)) where
    entry : step_entry w actor ≡ Some e
    entry = ap (λ (x : WorldTurned). entry_of x.turn) (sym done)

    -- a step joins its driver's log
    pub step-runs : RunsTo s (slice_set logs i (log_of logs i ++ logged e held ∷ [])) more after
    step-runs =
        let driver = steps-there w actor after e done in
        let l : LaneState = driver.0 in
        let there : slice_get w.lanes i ≡ Some l = driver.1 in
        let number : l.id ≡ i = (well.each i l there).number in
        let hs : List HoldEntry = step_holds w actor in
        let mine : hs ≡ holds_at w actor (Some l) = ap (holds_at w actor) there in
        let turn : record { world = after; turn = Stepped e } ≡ step_of w actor (Some l) =
        done ∙ ap (step_of w actor) there in
        let j : Joins w i l (lane_step l actor.side) e held =
        joins w i l actor.side e (lane_step l actor.side) held refl (turn-shape l actor.side)
        (sym (ap (λ (x : WorldTurned). x.turn) turn))
        (sym (ap length mine) ∙ added (if held then 1 else 0) count) in
        let lanes : after.lanes ≡ slice_set w.lanes i j.next =
        ap (λ (x : WorldTurned). x.world.lanes) turn ∙ j.lanes in
        let own : All (λ h. h.lane.0 ≡ i) hs =
        subst (λ (x : List HoldEntry × ℕ). All (λ (h : HoldEntry). h.lane.0 ≡ x.1) x.0) (λ t. (sym mine t, number t))
        j.own in
        let on = all-run-on (opening_world s).lanes w.lanes logs history hs i l j.next (logged e held) run.drivers there
        own (subst (λ es. Runs l (logged e held ∷ []) es j.next) (sym mine) j.runs) in
        record {
          sound =
              subst (IsSound (opening s)) (sym grown)
              (sound-more (opening s) history hs run.sound
              (subst (λ a. IsSound a hs) (sym run.account) (holds-sound s w actor well)));
          account =
              ap (account_of (opening s)) grown ∙ account_of-append (opening s) history hs
              ∙ ap (λ a. account_of a hs) run.account ∙ holds-lead w actor
              ∙ sym (ap (λ (x : WorldTurned). x.world.account) done);
          drivers =
              subst (λ (x : List HoldEntry × List LaneState). AllRun (opening_world s).lanes
              (slice_set logs i (log_of logs i ++ logged e held ∷ [])) x.0 x.1) (λ t. (sym grown t, sym lanes t)) on;
        }

    -- a step leaves less to do
    pub step-turned : HaveTurned (actor ∷ []) w after true
    step-turned =
        subst (λ (x : WorldState). left_of x < left_of w) (sym (ap (λ (x : WorldTurned). x.world) done))
        (step-falls s w actor e well entry)

  module _ (t : Turn) (done : record { world = after; turn = t } ≡ step w actor) (none : entry_of t ≡ None)
      (count : length more ≡ length history) where
    rests : step_entry w actor ≡ None
    rests = ap (λ (x : WorldTurned). entry_of x.turn) (sym done) ∙ none

    stays : after ≡ w
    stays = ap (λ (x : WorldTurned). x.world) done ∙ step-rests w actor rests

    -- a turn that is no step leaves the run as it was
    pub rest-runs : RunsTo s logs more after
    rest-runs =
        subst (λ (x : List HoldEntry × WorldState). RunsTo s logs x.0 x.1) (λ j. (sym same j, sym stays j)) run
      where
        empty : (es : List HoldEntry) → length es ≡ 0 → es ≡ []
        empty [] e = refl
        empty (x ∷ es) e = absurd (omega (arith, e))

        same : more ≡ history
        same =
            grown ∙ ap (λ es. history ++ es) (empty (step_holds w actor) (added 0 (omega (arith, count))))
            ∙ append-nil history

    pub rest-turned : HaveTurned (actor ∷ []) w after false
    rest-turned = (
      stays,
      All-push (λ (a : Actor). step_entry after a ≡ None) [] actor
          (All-nil (λ (a : Actor). step_entry after a ≡ None)) (ap (λ x. step_entry x actor) stays ∙ rests),
    )

-- ---- turns and rounds

pub turned-first : (w : WorldState) → HaveTurned [] w w false
turned-first w = (refl, All-nil (λ (a : Actor). step_entry w a ≡ None))

pub turned-next : (xs : List Actor) (x : Actor) (w v u : WorldState) (a b : Bool) → HaveTurned xs w v a →
    HaveTurned (x ∷ []) v u b → HaveTurned (xs ++ x ∷ []) w u (a || b)
turned-next xs x w v u false false g h = (
  h.0 ∙ g.0,
  All-push (λ (a : Actor). step_entry u a ≡ None) xs x
      (subst (λ z. All (λ (a : Actor). step_entry z a ≡ None) xs) (sym h.0) g.1)
      (All-head (λ (a : Actor). step_entry u a ≡ None) x [] h.1),
)
turned-next xs x w v u false true g h = subst (λ z. left_of u < left_of z) g.0 h
turned-next xs x w v u true false g h = subst (λ z. left_of z < left_of w) (sym h.0) g
turned-next xs x w v u true true g h = omega (arith, g, h)

-- one more of the actors
pub turned-more : (actors : List Actor) (n : ℕ) (d : Actor) → n < length actors → (w v u : WorldState) (a b : Bool) →
    HaveTurned (take n actors) w v a → HaveTurned (get_or actors n d ∷ []) v u b →
    HaveTurned (take (n + 1) actors) w u (a || b)
turned-more actors n d below w v u a b g h =
    subst (λ xs. HaveTurned xs w u (a || b)) (sym (ap (λ k. take k actors) (add-one n) ∙ take-suc actors n d below))
    (turned-next (take n actors) (get_or actors n d) w v u a b g h)

none-steps : (w : WorldState) (actors : List Actor) → All (λ a. step_entry w a ≡ None) actors → NoneSteps w actors
none-steps w [] h = tt
none-steps w (a ∷ actors) h = (
  All-head (λ (x : Actor). step_entry w x ≡ None) a actors h,
  none-steps w actors (All-tail (λ (x : Actor). step_entry w x ≡ None) a actors h),
)

-- past the last driver no actor can step
past-rests : (w : WorldState) (a : Actor) → length w.lanes ≤ a.lane.0 → step_entry w a ≡ None
past-rests w a h = ap (λ o. entry_of (step_of w a o).turn) (slice_get_past w.lanes a.lane.0 h)

-- a world in which no actor of a round can step is at rest
pub at-rest : (s : Scenario) (w : WorldState) → IsWellFormed s w → All (λ a. step_entry w a ≡ None) (round_of s) →
    IsAtRest w
at-rest s w well none a = by_place (nat_lt a.lane.0 (length s.drivers)) refl
  where
    by_place : (b : Bool) → nat_lt a.lane.0 (length s.drivers) ≡ b → step_entry w a ≡ None
    by_place true t =
        let z : 0 + a.lane.0 ≡ a.lane.0 = omega arith in
        subst (λ n. step_entry w (record { lane = record { 0 = n }; side = a.side }) ≡ None) z
        (in_round w (length s.drivers) 0 a.lane.0 a.side (none-steps w (round_of s) none) (grind (arith, nat_tests)))
    by_place false t = past-rests w a (let c = well.count in grind (arith, nat_tests))

-- ---- if no turn was made

-- if all logs are empty, each of them is
empty-log : {Q : Type 0} (items : Q → Log) (qs : List Q) → All (λ q. items q ≡ []) qs → (i : ℕ) →
    log_of (map items qs) i ≡ []
empty-log items [] none i = refl
empty-log items (q ∷ qs) none zero = All-head (λ x. items x ≡ []) q qs none
empty-log items (q ∷ qs) none (suc i) = empty-log items qs (All-tail (λ x. items x ≡ []) q qs none) i

-- one more log that is empty
pub none-more : {Q : Type 0} (items : Q → Log) (qs more : List Q) (q : Q) → more ≡ qs ++ q ∷ [] →
    All (λ q. items q ≡ []) qs → items q ≡ [] → All (λ q. items q ≡ []) more
none-more items qs more q is none new =
    subst (All (λ x. items x ≡ [])) (sym is) (All-push (λ x. items x ≡ []) qs q none new)

-- empty logs run the opening to itself, by no hold
pub opening-run : {Q : Type 0} (s : Scenario) (items : Q → Log) (qs : List Q) (lanes : List Lane) (hub : HubSeen) →
    map ideal lanes ≡ (opening_world s).lanes → hub ≡ record { opening = opening s; history = [] } →
    length qs ≡ length lanes → All (λ q. items q ≡ []) qs → HasRunThread s lanes (map items qs) hub
opening-run s items qs lanes hub opened new count none =
    subst (λ (h : HubSeen). HasRunThread s lanes (map items qs) h) (sym new) (record {
      begins = refl;
      run = record {
        sound = tt;
        account = refl;
        drivers = subst (AllRun (opening_world s).lanes (map items qs) []) (sym opened) (record {
          logged = length-map qs items ∙ count ∙ sym (length-map lanes ideal) ∙ ap length opened;
          last = refl;
          own = All-nil (λ (h : HoldEntry). h.lane.0 < length (opening_world s).lanes);
          each = λ i l m first last.
              subst (λ log. Runs l log [] m) (sym (empty-log items qs none i)) (Some-inj l m (sym first ∙ last));
        });
      };
    })
