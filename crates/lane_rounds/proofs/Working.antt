-- A driver at work after a turn at its door.
use Rattle.std.proofs.Common.{◌≡◌, inl, inr, ℕ, Bool, true, false, IsTrue, List, [], ◌∷◌, ◌++◌, refl, sym}
use Rattle.std.proofs.Common.{ap, ◌∙◌, ◌||◌, arith, length, length-append, subst, append-nil, eq-eqb}
use Rattle.busdma_machine.specs.declared.bounce.hold.HoldEntry.{HoldEntry}
use Rattle.busdma_machine.specs.declared.bounce.hold.HubCall.{HubCall}
use Rattle.busdma_machine.specs.declared.bounce.hold.HubCall.TheVariants.{TakeCallback}
use Rattle.busdma_machine.specs.declared.bounce.hold.HubReply.{HubReply}
use Rattle.busdma_machine.specs.declared.bounce.hold.HubReply.TheVariants.{Nothing}
use Rattle.busdma_base.specs.declared.journals.journal.Actor.{Actor}
use Rattle.busdma_base.specs.declared.journals.journal.JournalEntry.{JournalEntry}
use Rattle.busdma_base.specs.declared.journals.journal.Side.{Side}
use Rattle.busdma_machine.specs.Bounce.Account.{Account}
use Rattle.busdma_machine.specs.Bounce.AccountStep.{account_step}
use Rattle.busdma_machine.specs.Bounce.Door.{Seen, HoldsAtDoor, account}
use Rattle.busdma_machine.specs.Bounce.History.{IsSound, is_entry}
use Rattle.busdma_machine.specs.Bounce.LaneEntries.{of_lane}
use Rattle.busdma_machine.proofs.Accounts.LaneEntries.{of_lane-append, own-passes, sound-rest}
use Rattle.ideal_lane.specs.Asking.{Asking, Gives, Asks, by_reply, call_of}
use Rattle.ideal_lane.specs.State.{LaneState}
use Rattle.ideal_lane.specs.Turns.{Turn, Turned, Stepped, Blocked, called_back, lane_step, stays}
use Rattle.ideal_lane.proofs.Own.{IsOwn, turn-own}
use Rattle.lane_state.specs.Doing.{IsUndone}
use Rattle.lane_state.specs.Served.{IsServed}
use Rattle.lane_turns.specs.TakenTurns.{IsTurned}
use Rattle.ideal_runs.specs.declared.logged_step.LoggedStep.{LoggedStep}
use Rattle.ideal_runs.specs.declared.logged_step.LoggedStep.TheVariants.{Local, Held}
use Rattle.ideal_runs.specs.Merged.{logged}
use Rattle.ideal_runs.specs.Runs.{Log, Runs, StepsAlone, StepsBy}
use Rattle.lane_rounds.specs.AtWork.{Grows, IsAtWork}
use Rattle.lane_rounds.proofs.Shapes.{Shape, is_step, turn-shape, taken-steps}

pub Runs-append : (l k m : LaneState) (log more : Log) (hs gs : List HoldEntry) → Runs l log hs k → Runs k more gs m →
    Runs l (log ++ more) (hs ++ gs) m
Runs-append l k m [] more [] gs r s = subst (λ x. Runs x more gs m) (sym r) s
Runs-append l k m [] more (h ∷ hs) gs r s = absurd r
Runs-append l k m (Local e ∷ log) more hs gs r s = (r.0, r.1, Runs-append r.0 k m log more hs gs r.2 s)
Runs-append l k m (Held e ∷ log) more [] gs r s = absurd r
Runs-append l k m (Held e ∷ log) more (h ∷ hs) gs r s = (r.0, r.1, Runs-append r.0 k m log more hs gs r.2 s)

-- the entry of a hold of a lane
abbrev hold_of : ℕ → HubCall → HubReply → HoldEntry
hold_of lane c r = record { lane = record { 0 = lane }; call = c; reply = r }

of_lane-own : (lane : ℕ) (c : HubCall) (r : HubReply) → of_lane lane (hold_of lane c r ∷ []) ≡ hold_of lane c r ∷ []
of_lane-own lane c r = rw (eq-eqb lane lane refl) refl

-- a hold of the driver's own is one more entry of the lane
own-holds : (lane : ℕ) (d e : Seen) (c : HubCall) (r : HubReply) → IsTrue (d.serves lane) → HoldsAtDoor d lane c r e →
    of_lane lane e.history ≡ of_lane lane d.history ++ hold_of lane c r ∷ []
own-holds lane d e c r served h =
    ap (of_lane lane) h.history
    ∙ of_lane-append lane h.between.history (hold_of lane c r ∷ [])
    ∙ ap (λ es. es ++ of_lane lane (hold_of lane c r ∷ [])) (own-passes lane d h.between h.others served h.passes)
    ∙ ap (λ es. of_lane lane d.history ++ es) (of_lane-own lane c r)

-- a hold is kept in the history
holds-kept : (lane : ℕ) (d e : Seen) (c : HubCall) (r : HubReply) → HoldsAtDoor d lane c r e → is_entry c r ≡ true
holds-kept lane d e c r h =
    let b = h.between in
    let sound : IsSound b.opening (b.history ++ hold_of lane c r ∷ []) =
    subst (λ (x : Account × List HoldEntry). IsSound x.0 x.1) (λ i. (h.opening i, h.history i)) h.sound in
    (sound-rest b.opening b.history (hold_of lane c r ∷ []) sound).0.kept

module _ (l m : LaneState) (s : Side) (entry : JournalEntry) where
  abbrev stepped : Turned
  stepped = record { lane = m; turn = Stepped entry }

  -- what is known of a driver after a step, and of the step's entry
  owned : (step : Asking Turned) (r : HubReply) → step ≡ lane_step l s → stepped ≡ by_reply step r → IsOwn l s stepped
  owned step r is same =
      subst (IsOwn l s) (sym (same ∙ ap (λ x. by_reply x r) is)) (turn-own l s r)

  side-of : IsOwn l s stepped → entry.actor.side ≡ s
  side-of o = ap (λ (a : Actor). a.side) o.actor

  pub alone : (y : Turned) → Gives y ≡ lane_step l s → stepped ≡ y → StepsAlone l entry m
  alone y is same =
      ap (lane_step l) (side-of (owned (Gives y) Nothing is same)) ∙ sym is ∙ ap Gives (sym same)

  pub by-hold : (c : HubCall) (k : HubReply → Turned) (r : HubReply) → Asks c k ≡ lane_step l s → stepped ≡ k r →
      StepsBy (hold_of l.id c r) l entry m
  by-hold c k r is same =
      let here : lane_step l entry.actor.side ≡ Asks c k =
      ap (lane_step l) (side-of (owned (Asks c k) r is same)) ∙ sym is in
      record {
        call = ap call_of here;
        turned = ap (λ x. by_reply x r) here ∙ sym same;
      }

  -- a step of a side, by what it is
  pub record IsLogged (held : Bool) (d e : Seen) : Type 0 where
    pub id : m.id ≡ l.id
    pub more : List HoldEntry
    pub own : of_lane l.id e.history ≡ of_lane l.id d.history ++ more
    pub runs : Runs l (logged entry held ∷ []) more m

  missed-none : (c : HubCall) (k : HubReply → Turned) → Shape l (Asks c k) → c ≡ TakeCallback → stepped ≡ k Nothing → ⊥
  missed-none c k (inl (take, is)) callback same =
      let t : stepped ≡ stays Blocked l = same ∙ ap (λ f. f Nothing) is in
      let b : true ≡ false = ap (λ (x : Turned). is_step x.turn) t in absurd (cc)
  missed-none c k (inr (free, steps)) callback same = absurd (cc)

  logs : (d e : Seen) (held : Bool) (step : Asking Turned) → step ≡ lane_step l s → Shape l step → IsTrue
      (d.serves l.id) →
      IsTurned d l.id step stepped held e → IsLogged held d e
  logs d e true (Gives y) is shape served turn = absurd (let b : true ≡ false = turn.1 in cc)
  logs d e false (Gives y) is shape served turn = record {
    id = (owned (Gives y) Nothing is turn.0).later.same_id;
    more = [];
    own = ap (λ (x : Seen). of_lane l.id x.history) turn.2 ∙ sym (append-nil (of_lane l.id d.history));
    runs = (m, alone y is turn.0, refl);
  }
  logs d e true (Asks c k) is shape served (inl (held, called)) = record {
    id = (owned (Asks c k) called.reply is called.is).later.same_id;
    more = hold_of l.id c called.reply ∷ [];
    own = own-holds l.id d e c called.reply served called.holds;
    runs = (m, by-hold c k called.reply is called.is, refl);
  }
  logs d e false (Asks c k) is shape served (inl (held, called)) = absurd (cc)
  logs d e held (Asks c k) is shape served (inr (none, missed)) =
      absurd (missed-none c k shape missed.callback missed.is)

-- a turn that is no step leaves the driver as it was, and is no hold
record IsStill (l m : LaneState) (d e : Seen) : Type 0 where
  same : m ≡ l
  own : of_lane l.id e.history ≡ of_lane l.id d.history

module _ (l : LaneState) (t : Turned) (d e : Seen) (none : is_step t.turn ≡ false) (served : IsTrue (d.serves l.id))
  where
    -- a call is a step, but for a callback that is not there
    call-steps : (c : HubCall) (k : HubReply → Turned) (r : HubReply) → Shape l (Asks c k) → HoldsAtDoor d l.id c r e →
        t ≡ k
        r → ⊥
    call-steps c k r (inr (free, steps)) h same =
        let b : true ≡ false = sym (steps r) ∙ ap (λ (x : Turned). is_step x.turn) (sym same) ∙ none in absurd (cc)
    call-steps c k r (inl (take, is)) h same =
        let a : Account = account h.between in
        let reply : r ≡ (account_step l.id TakeCallback a).reply = h.reply ∙ ap (λ x. (account_step l.id x a).reply)
        take in
        let kept : is_entry TakeCallback (account_step l.id TakeCallback a).reply ≡ true =
        ap (λ q. is_entry TakeCallback q) (sym reply) ∙ ap (λ x. is_entry x r) (sym take) ∙ holds-kept l.id d e c r h in
        let step : is_step (called_back l (account_step l.id TakeCallback a).reply).turn ≡ true =
        taken-steps l a.ready a kept in
        let now : t ≡ called_back l (account_step l.id TakeCallback a).reply =
        same ∙ ap (λ f. f r) is ∙ ap (called_back l) reply in
        let b : true ≡ false = sym step ∙ ap (λ (x : Turned). is_step x.turn) (sym now) ∙ none in absurd (cc)

    given-stays : (y : Turned) → Shape l (Gives y) → t ≡ y → t.lane ≡ l
    given-stays y (inl steps) same =
        absurd (let b : true ≡ false = sym steps ∙ ap (λ (x : Turned). is_step x.turn) (sym same) ∙ none in cc)
    given-stays y (inr stay) same = ap (λ (x : Turned). x.lane) same ∙ stay

    missed-stays : (c : HubCall) (k : HubReply → Turned) → Shape l (Asks c k) → c ≡ TakeCallback → t ≡ k Nothing →
        t.lane ≡ l
    missed-stays c k (inl (take, is)) callback same = ap (λ (x : Turned). x.lane) (same ∙ ap (λ f. f Nothing) is)
    missed-stays c k (inr (free, steps)) callback same = absurd (cc)

    still : (held : Bool) (step : Asking Turned) → Shape l step → IsTurned d l.id step t held e → IsStill l t.lane d e
    still held (Gives y) shape turn = record {
      same = given-stays y shape turn.0;
      own = ap (λ (x : Seen). of_lane l.id x.history) turn.2;
    }
    still held (Asks c k) shape (inl (is, called)) = absurd (call-steps c k called.reply shape called.holds called.is)
    still held (Asks c k) shape (inr (is, missed)) = record {
      same = missed-stays c k shape missed.callback missed.is;
      own = own-passes l.id d e missed.misses.others served missed.misses.passes;
    }

-- ---- a driver at work

module _ (first l m : LaneState) (log more : Log) (s : Side) (d e : Seen) (work : IsAtWork first l log d)
    (served : IsServed m e) where
  -- the run of a driver, if its own entries are by its number now
  same-id : l.id ≡ first.id
  same-id = work.own

  pub work-steps : (entry : JournalEntry) (held : Bool) →
      IsTurned d l.id (lane_step l s) (record { lane = m; turn = Stepped entry }) held e →
      more ≡ log ++ logged entry held ∷ [] → IsAtWork first m more e
  work-steps entry held turn is =
      let q = logs l m s entry d e held (lane_step l s) refl (turn-shape l s)
      work.served.served turn in
      let own : of_lane first.id e.history ≡ of_lane first.id d.history ++ q.more =
      subst (λ i. of_lane i e.history ≡ of_lane i d.history ++ q.more) same-id q.own in
      record {
        own = q.id ∙ work.own;
        runs = subst (λ (x : Log × List HoldEntry). Runs first x.0 x.1 m) (λ i. (sym is i, sym own i))
            (Runs-append first l m log (logged entry held ∷ []) (of_lane first.id d.history)
            q.more work.runs q.runs);
        served = served;
      }

  stays-so : more ≡ log → IsStill l m d e → IsAtWork first m more e
  stays-so is q =
      let own : of_lane first.id e.history ≡ of_lane first.id d.history =
      subst (λ i. of_lane i e.history ≡ of_lane i d.history) same-id q.own in
      record {
        own = ap (λ (x : LaneState). x.id) q.same ∙ work.own;
        runs = subst (λ (x : Log × List HoldEntry × LaneState). Runs first x.0 x.1 x.2)
            (λ i. (sym is i, sym own i, sym q.same i)) work.runs;
        served = served;
      }

  pub work-stays : (t : Turn) (held : Bool) → is_step t ≡ false →
      IsTurned d l.id (lane_step l s) (record { lane = m; turn = t }) held e → more ≡ log →
      IsAtWork first m more e
  work-stays t held none turn is =
      stays-so is (still l (record { lane = m; turn = t }) d e none work.served.served held
      (lane_step l s) (turn-shape l s) turn)

  pub work-fails : m ≡ l → IsUndone d e → more ≡ log → IsAtWork first m more e
  work-fails same undone is = stays-so is (record { same = same; own = by undone })
    where
      by : IsUndone d e → of_lane l.id e.history ≡ of_lane l.id d.history
      by (inl seen) = ap (λ (x : Seen). of_lane l.id x.history) seen
      by (inr fails) = own-passes l.id d e fails.others work.served.served fails.passes

-- ---- how a log grows

pub grows-both : (a b c : Log) (s t : Bool) → Grows a b s → Grows b c t → Grows a c (s || t)
grows-both a b c true true g h = omega (arith, g, h)
grows-both a b c true false g h = let e : c ≡ b = h in omega (arith, g, ap length e)
grows-both a b c false true g h = let e : b ≡ a = g in omega (arith, h, ap length e)
grows-both a b c false false g h = h ∙ g

pub grows-one : (log more : Log) (x : LoggedStep) → more ≡ log ++ x ∷ [] → Grows log more true
grows-one log more x is = omega (arith, ap length is, length-append log (x ∷ []))
