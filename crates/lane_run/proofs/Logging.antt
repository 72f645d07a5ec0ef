-- A step of the last rounds joins its driver's log, and the step's hold the history.
use Rattle.std.proofs.Common.{◌≡◌, ◌≢◌, ℕ, ◌<◌, Bool, true, false, List, [], ◌∷◌, ◌++◌, length, All, Some, refl, sym}
use Rattle.std.proofs.Common.{ap, ◌∙◌, subst, arith, if◌then◌else◌, inl, inr, slice_get, slice_set, eq-eqb, ne_eqb}
use Rattle.std.proofs.Common.{append-nil, map, slice_index_or}
use Rattle.std.proofs.lemmas.List.Elements.{All-append, All-head, All-nil, All-push, All-tail, All-weaker}
use Rattle.std.proofs.lemmas.List.{get_or-set_same, get_or-set_other}
use Rattle.busdma_machine.specs.declared.bounce.hold.HoldEntry.{HoldEntry}
use Rattle.busdma_machine.specs.declared.bounce.hold.HubCall.{HubCall}
use Rattle.busdma_machine.specs.declared.bounce.hold.HubCall.TheVariants as call
use Rattle.busdma_machine.specs.declared.bounce.hold.HubReply.{HubReply}
use Rattle.busdma_machine.specs.declared.bounce.hold.HubReply.TheVariants as reply
use Rattle.busdma_base.specs.declared.journals.journal.JournalEntry.{JournalEntry}
use Rattle.busdma_base.specs.declared.journals.journal.Side.{Side}
use Rattle.busdma_machine.specs.Bounce.AccountStep.{account_step}
use Rattle.busdma_machine.specs.Bounce.History.{is_entry}
use Rattle.busdma_machine.specs.Bounce.LaneEntries.{of_lane}
use Rattle.busdma_machine.proofs.Accounts.LaneEntries.{of_lane-append}
use Rattle.ideal_lane.specs.Asking.{Asking, Gives, Asks}
use Rattle.ideal_lane.specs.State.{LaneState}
use Rattle.ideal_lane.specs.Turns.{Turned, Stepped, called_back, lane_step}
use Rattle.ideal_world.specs.Holds.{holds_by}
use Rattle.ideal_world.specs.World.{WorldState, replied}
use Rattle.ideal_world.proofs.Lanes.{each_set, within}
use Rattle.ideal_world.proofs.Reached.{entry}
use Rattle.ideal_runs.specs.declared.logged_step.LoggedStep.{LoggedStep}
use Rattle.ideal_runs.specs.Merged.{AllRun, log_of, logged}
use Rattle.ideal_runs.specs.Runs.{Log, Runs}
use Rattle.ideal_runs.proofs.Seams.{length-slice_set}
use Rattle.lane_merge.proofs.Taking.{map-slice_set, read-map}
use Rattle.lane_rounds.proofs.Shapes.{Shape, is_step, takes}
use Rattle.lane_rounds.proofs.Working.{Runs-append, alone, by-hold}

-- ---- the holds of one driver

module _ (i : ℕ) where
  own-all : (hs : List HoldEntry) → All (λ h. h.lane.0 ≡ i) hs → of_lane i hs ≡ hs
  own-all [] own = refl
  own-all (h ∷ hs) own =
      rw (eq-eqb h.lane.0 i (All-head (λ (x : HoldEntry). x.lane.0 ≡ i) h hs own))
      (ap (λ l. h ∷ l) (own-all hs (All-tail (λ (x : HoldEntry). x.lane.0 ≡ i) h hs own)))

  others-none : (j : ℕ) (hs : List HoldEntry) → j ≢ i → All (λ h. h.lane.0 ≡ i) hs → of_lane j hs ≡ []
  others-none j [] off own = refl
  others-none j (h ∷ hs) off own =
      let here : h.lane.0 ≡ i = All-head (λ (x : HoldEntry). x.lane.0 ≡ i) h hs own in
      rw (ne_eqb h.lane.0 j (λ e. off (sym e ∙ here)))
      (others-none j hs off (All-tail (λ (x : HoldEntry). x.lane.0 ≡ i) h hs own))

-- a step of one driver, and its hold, after the logs and the history that ran all to their last states
pub all-run-on : (firsts lasts : List LaneState) (logs : List Log) (history hs : List HoldEntry) (i : ℕ)
    (l m : LaneState) (x : LoggedStep) → AllRun firsts logs history lasts → slice_get lasts i ≡ Some l →
    All (λ h. h.lane.0 ≡ i) hs → Runs l (x ∷ []) hs m →
    AllRun firsts (slice_set logs i (log_of logs i ++ x ∷ [])) (history ++ hs) (slice_set lasts i m)
all-run-on firsts lasts logs history hs i l m x all there own runs =
    let more : Log = log_of logs i ++ x ∷ [] in
    let below : i < length firsts = omega (arith, within lasts i l there, all.last) in
    let in_logs : i < length logs = omega (arith, below, all.logged) in
    record {
      logged = length-slice_set logs i more ∙ all.logged;
      last = length-slice_set lasts i m ∙ all.last;
      own =
          All-append (λ (h : HoldEntry). h.lane.0 < length firsts) history hs all.own
          (All-weaker (λ (h : HoldEntry). h.lane.0 ≡ i) (λ (h : HoldEntry). h.lane.0 < length firsts)
          (λ h e. omega (arith, e, below)) hs own);
      each = λ j f z first end.
          each_set (λ j (z : LaneState). (f : LaneState) → slice_get firsts j ≡ Some f →
          Runs f (log_of (slice_set logs i more) j) (of_lane j (history ++ hs)) z) lasts i m
          (λ f first.
          let log : log_of (slice_set logs i more) i ≡ more = get_or-set_same logs i more [] in_logs in
          let mine : of_lane i (history ++ hs) ≡ of_lane i history ++ hs =
          of_lane-append i history hs ∙ ap (λ es. of_lane i history ++ es) (own-all i hs own) in
          subst (λ (y : Log × List HoldEntry). Runs f y.0 y.1 m) (λ t. (sym log t, sym mine t))
          (Runs-append f l m (log_of logs i) (x ∷ []) (of_lane i history) hs (all.each i f l first there) runs))
          (λ j z other there f first.
          let log : log_of (slice_set logs i more) j ≡ log_of logs j = get_or-set_other logs i j more [] other in
          let others : of_lane j (history ++ hs) ≡ of_lane j history =
          of_lane-append j history hs ∙ ap (λ es. of_lane j history ++ es) (others-none i j hs other own)
          ∙ append-nil (of_lane j history) in
          subst (λ (y : Log × List HoldEntry). Runs f y.0 y.1 z) (λ t. (sym log t, sym others t))
          (all.each j f z first there))
          j z end f first;
    }

-- ---- what a step adds

one-if : (held : Bool) → ◌≡◌ {A = ℕ} 0 (if held then 1 else 0) → held ≡ false
one-if true e = absurd (let z : 0 ≡ 1 = e in omega arith)
one-if false e = refl

held-if : (held : Bool) → ◌≡◌ {A = ℕ} 1 (if held then 1 else 0) → held ≡ true
held-if true e = refl
held-if false e = absurd (let z : 1 ≡ 0 = e in omega arith)

-- only the taking of a callback that is not there is no entry
kept-unless : (c : HubCall) (r : HubReply) → takes c ≡ false → is_entry c r ≡ true
kept-unless call.TakeCallback r free = absurd (cc)
kept-unless (call.AttachTag t) r free = refl
kept-unless (call.CreateMap m t first_done) r free = refl
kept-unless (call.DestroyMap m z) r free = refl
kept-unless (call.Grab m z need nowait) r free = refl
kept-unless (call.Release m z page) r free = refl
kept-unless (call.MemAlloc m t) r free = refl
kept-unless (call.MemFree m) r free = refl

none-steps : (l : LaneState) (r : HubReply) → is_entry call.TakeCallback r ≡ false →
    is_step (called_back l r).turn ≡ false
none-steps l reply.Nothing none = refl
none-steps l (reply.Grown g) none = absurd (cc)
none-steps l (reply.Granted pages) none = absurd (cc)
none-steps l (reply.Queued have) none = absurd (cc)
none-steps l reply.NoPages none = absurd (cc)
none-steps l (reply.Served n) none = absurd (cc)
none-steps l (reply.Called m pages) none = absurd (cc)
none-steps l (reply.Run first count) none = absurd (cc)
none-steps l reply.NoRun none = absurd (cc)

-- a step of a driver in a world, with what it adds to the history
pub record Joins (w : WorldState) (i : ℕ) (l : LaneState) (x : Asking Turned) (e : JournalEntry) (held : Bool) :
    Type 0 where
  pub next : LaneState
  pub lanes : (replied w i l x).world.lanes ≡ slice_set w.lanes i next
  pub own : All (λ h. h.lane.0 ≡ l.id) (holds_by l.id x w.account)
  pub runs : Runs l (logged e held ∷ []) (holds_by l.id x w.account) next

module _ (w : WorldState) (i : ℕ) (l : LaneState) (s : Side) (e : JournalEntry) where
  module _ (c : HubCall) (k : HubReply → Turned) (is : Asks c k ≡ lane_step l s) where
    abbrev r : HubReply
    r = (account_step l.id c w.account).reply

    same-turn : (k r).turn ≡ Stepped e → record { lane = (k r).lane; turn = Stepped e } ≡ k r
    same-turn turn = λ j. record { lane = (k r).lane; turn = sym turn j }

    kept-joins : (held : Bool) → is_entry c r ≡ true → (k r).turn ≡ Stepped e →
        length (holds_by l.id (Asks c k) w.account) ≡ (if held then 1 else 0) → Joins w i l (Asks c k) e held
    kept-joins held kept turn count =
        let one : holds_by l.id (Asks c k) w.account ≡ entry l.id c w.account ∷ [] = rw kept refl in
        let is_held : held ≡ true = held-if held (sym (ap length one) ∙ count) in
        record {
          next = (k r).lane;
          lanes = refl;
          own = subst (All (λ (h : HoldEntry). h.lane.0 ≡ l.id)) (sym one)
              (All-push (λ (h : HoldEntry). h.lane.0 ≡ l.id) [] (entry l.id c w.account)
              (All-nil (λ (h : HoldEntry). h.lane.0 ≡ l.id)) refl);
          runs =
              subst (λ (y : Bool × List HoldEntry). Runs l (logged e y.0 ∷ []) y.1 (k r).lane)
              (λ j. (sym is_held j, sym one j))
              ((k r).lane, by-hold l (k r).lane s e c k r is (same-turn turn), refl);
        }

    unkept-stays : is_entry c r ≡ false → Shape l (Asks c k) → (k r).turn ≡ Stepped e → ⊥
    unkept-stays unkept (inl (take, called)) turn =
        let none : is_step (called_back l r).turn ≡ false =
        none-steps l r (ap (λ y. is_entry y r) (sym take) ∙ unkept) in
        let b : true ≡ false =
        ap is_step (sym turn) ∙ ap (λ f. is_step (f r).turn) called ∙ none in absurd (cc)
    unkept-stays unkept (inr (free, steps)) turn =
        let b : true ≡ false = sym (kept-unless c r free) ∙ unkept in absurd (cc)

  pub joins : (x : Asking Turned) (held : Bool) → x ≡ lane_step l s → Shape l x →
      (replied w i l x).turn ≡ Stepped e →
      length (holds_by l.id x w.account) ≡ (if held then 1 else 0) → Joins w i l x e held
  joins (Gives t) held is shape turn count =
      let same : record { lane = t.lane; turn = Stepped e } ≡ t = (λ j. record { lane = t.lane; turn = sym turn j }) in
      let local : held ≡ false = one-if held count in
      record {
        next = t.lane;
        lanes = refl;
        own = All-nil (λ (h : HoldEntry). h.lane.0 ≡ l.id);
        runs = subst (λ b. Runs l (logged e b ∷ []) [] t.lane) (sym local)
            (t.lane, alone l t.lane s e t is same, refl);
      }
  joins (Asks c k) held is shape turn count = by (is_entry c (r c k is)) refl
    where
      by : (b : Bool) → is_entry c (r c k is) ≡ b → Joins w i l (Asks c k) e held
      by true kept = kept-joins c k is held kept turn count
      by false unkept = absurd (unkept-stays c k is unkept shape turn)

-- a step at the end of the log of one driver
pub pushed : {Q : Type 0} (items : Q → Log) (logs : List Q) (i : ℕ) (q new : Q) (x : LoggedStep) → i < length logs →
    q ≡ slice_index_or logs i q → items new ≡ items q ++ x ∷ [] →
    map items (slice_set logs i new) ≡ slice_set (map items logs) i (log_of (map items logs) i ++ x ∷ [])
pushed items logs i q new x below is more =
    map-slice_set items logs i new
    ∙ ap (slice_set (map items logs) i) (more ∙ ap (λ l. l ++ x ∷ []) (sym (read-map items logs i q below is)))
