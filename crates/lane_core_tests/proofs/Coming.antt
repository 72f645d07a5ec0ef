-- What comes at a hub before the call of a lane, and the call itself.
use Rattle.std.proofs.Common.{◌≡◌, ◌≢◌, ℕ, ◌==◌, Bool, true, false, List, [], ◌∷◌, ◌++◌, All, IsTrue}
use Rattle.std.proofs.Common.{Result, Ok, Err, Option, Some, None, IfOk, OnErr, MatchOption}
use Rattle.std.proofs.Common.{refl, sym, ap, ◌∙◌, subst, inl, inr, append-nil, arith}
use Rattle.std.proofs.lemmas.Bool.Decides.{nat_tests}
use Rattle.std.proofs.lemmas.List.Elements.{All-nil, All-cons, All-head, All-tail}
use Rattle.busdma_machine.specs.declared.bounce.door.Called.{Called}
use Rattle.busdma_machine.specs.declared.bounce.hold.HubCall.{HubCall}
use Rattle.busdma_machine.specs.declared.bounce.hold.HubCall.TheVariants.{TakeCallback}
use Rattle.busdma_machine.specs.declared.bounce.hold.HubReply.{HubReply}
use Rattle.busdma_machine.specs.declared.bounce.hold.HubReply.TheVariants.{Nothing}
use Rattle.busdma_machine.specs.declared.bounce.hold.HoldEntry.{HoldEntry}
use Rattle.busdma_base.specs.declared.journals.journal.Side.{Side}
use Rattle.busdma_machine.specs.declared.name.MapId.{MapId}
use Rattle.busdma_machine.specs.Bounce.Account.{Account}
use Rattle.busdma_machine.specs.Bounce.AccountStep.{account_step}
use Rattle.busdma_machine.specs.Bounce.Conditions.{MayCall}
use Rattle.busdma_machine.specs.Bounce.Door.{Seen, Allows, Passes, HoldsAtDoor}
use Rattle.busdma_machine.specs.Bounce.Door.{FailsAtDoor, Misses, ArePagesOf, account}
use Rattle.busdma_machine.specs.Bounce.EachFrame.{LiesBelowMaxmem}
use Rattle.busdma_machine.specs.Bounce.History.{IsOpening, IsSound, account_of}
use Rattle.busdma_machine.specs.Bounce.MemoryRuns.{frames_of}
use Rattle.busdma_machine.proofs.Accounts.LaneEntries.{account_of-append, sound-rest}
use Rattle.busdma_machine.proofs.Accounts.ShareLaws.{MayCall-stays, frames-stay}
use Rattle.bounce_hub.specs.Seen.{HubSeen, door}
use Rattle.lane_agreement.proofs.Doors.{agrees-passes}
use Rattle.ideal_lane.specs.Asking.{Asking, Gives, Asks, by_reply}
use Rattle.ideal_lane.specs.State.{LaneState}
use Rattle.ideal_lane.specs.Turns.{Turned, lane_step}
use Rattle.ideal_lane.specs.View.{view_of}
use Rattle.ideal_lane.proofs.Own.{turn-own}
use Rattle.lane_turns.specs.declared.turn.Turn.{Turn}
use Rattle.lane_state.specs.Doing.{IsUndone}
use Rattle.lane_state.specs.Served.{IsServed}
use Rattle.lane_turns.specs.TakenTurns.{IsTurned, is_held}
use Rattle.lane_core_tests.specs.Beside.{Beside, Comes, seen, seen_by}

-- ---- a turn at a hub

true≢false : true ≡ false → ⊥
true≢false e = absurd (cc)

-- nobody is kept out by a door that serves all
none : (es : List HoldEntry) → All (λ h. true ≡ false) es → es ≡ []
none [] all = refl
none (e ∷ es) all = absurd (true≢false (All-head (λ (h : HoldEntry). true ≡ false) e es all))

same-history : (h : HubSeen) (others : List HoldEntry) (m : Seen) → Passes (door h) others m → m.history ≡ h.history
same-history h others m p = p.history ∙ (ap (λ es. h.history ++ es) (none others p.apart) ∙ append-nil h.history)

-- no entry came
pub comes-none : (lane : ℕ) (h g : HubSeen) → g.opening ≡ h.opening → g.history ≡ h.history → Comes lane h g
comes-none lane h g opening history = record {
  entries = [];
  own = All-nil (λ (e : HoldEntry). e.lane.0 ≡ lane);
  opening = opening;
  history = history ∙ sym (append-nil h.history);
}

comes-held : (lane : ℕ) (h g : HubSeen) (c : HubCall) (r : HubReply) → HoldsAtDoor (door h) lane c r (door g) →
    Comes lane h g
comes-held lane h g c r held =
    let own : HoldEntry = record { lane = record { 0 = lane }; call = c; reply = r } in
    let IsOwn : HoldEntry → Type 0 = (λ e. e.lane.0 ≡ lane) in
    record {
      entries = own ∷ [];
      own = All-cons IsOwn own [] refl (All-nil IsOwn);
      opening = held.opening ∙ held.passes.opening;
      history = held.history ∙ ap (λ es. es ++ own ∷ []) (same-history h held.others held.between held.passes);
    }

comes-turned : (lane : ℕ) (h g : HubSeen) (x : Asking Turned) (y : Turned) (held : Bool) →
    IsTurned (door h) lane x y held (door g) → Comes lane h g
comes-turned lane h g (Gives t) y held is =
    comes-none lane h g (ap (λ (d : Seen). d.opening) is.2) (ap (λ (d : Seen). d.history) is.2)
comes-turned lane h g (Asks c k) y held (inl called) = comes-held lane h g c called.1.reply called.1.holds
comes-turned lane h g (Asks c k) y held (inr missed) =
    let m = missed.1.misses in comes-none lane h g m.passes.opening (same-history h m.others (door g) m.passes)

comes-undone : (lane : ℕ) (h g : HubSeen) → IsUndone (door h) (door g) → Comes lane h g
comes-undone lane h g (inl same) =
    comes-none lane h g (ap (λ (d : Seen). d.opening) same) (ap (λ (d : Seen). d.history) same)
comes-undone lane h g (inr f) = comes-none lane h g f.passes.opening (same-history h f.others (door g) f.passes)

-- a turn of a driver brings only entries of its own
pub comes-turn : {E : Type 0} (lane : ℕ) (h g : HubSeen) (x : Asking Turned) (made : Turn → Turned) (r : Result Turn E)
    → IfOk r (λ t. IsTurned (door h) lane x (made t) (is_held t) (door g)) → OnErr r (IsUndone (door h) (door g))
    → Comes lane h g
comes-turn lane h g x made (Ok t) done undone = comes-turned lane h g x (made t) (is_held t) done
comes-turn lane h g x made (Err e) done undone = comes-undone lane h g undone

number-turned : (d e : Seen) (id : ℕ) (x : Asking Turned) (y : Turned) (held : Bool) →
    ((r : HubReply) → (by_reply x r).lane.id ≡ id) → IsTurned d id x y held e → y.lane.id ≡ id
number-turned d e id (Gives t) y held same is = ap (λ (t : Turned). t.lane.id) is.0 ∙ same Nothing
number-turned d e id (Asks c k) y held same (inl called) =
    ap (λ (t : Turned). t.lane.id) called.1.is ∙ same called.1.reply
number-turned d e id (Asks c k) y held same (inr missed) = ap (λ (t : Turned). t.lane.id) missed.1.is ∙ same Nothing

-- a turn leaves the driver's number
pub number-turn : {E : Type 0} (d e : Seen) (l m : LaneState) (s : Side) (made : Turn → Turned) (r : Result Turn E)
    → ((t : Turn) → (made t).lane ≡ m)
    → IfOk r (λ t. IsTurned d l.id (lane_step l s) (made t) (is_held t) e) → OnErr r (m ≡ l) → m.id ≡ l.id
number-turn d e l m s made (Ok t) is done err =
    ap (λ (n : LaneState). n.id) (sym (is t))
    ∙ number-turned d e l.id (lane_step l s) (made t) (is_held t) (λ r. (turn-own l s r).later.same_id) done
number-turn d e l m s made (Err x) is done err = ap (λ (n : LaneState). n.id) err

-- ---- a call after it

not-number : (a b : ℕ) → a ≢ b → (a == b) ≡ false
not-number a b other = grind (arith, nat_tests)

same-number : (a b : ℕ) → IsTrue (a == b) → a ≡ b
same-number a b h = grind (arith, nat_tests)

own-number : (a : ℕ) → IsTrue (a == a)
own-number a = grind (arith, nat_tests)

away : (lane other : ℕ) (es : List HoldEntry) → other ≢ lane → All (λ e. e.lane.0 ≡ other) es →
    All (λ e. e.lane.0 ≢ lane) es
away lane other [] apart own = All-nil (λ (e : HoldEntry). e.lane.0 ≢ lane)
away lane other (e ∷ es) apart own =
    let IsOwn : HoldEntry → Type 0 = (λ e. e.lane.0 ≡ other) in
    All-cons (λ (e : HoldEntry). e.lane.0 ≢ lane) e es (λ same. apart (sym (All-head IsOwn e es own) ∙ same))
    (away lane other es apart (All-tail IsOwn e es own))

unserved : (lane : ℕ) (es : List HoldEntry) → All (λ e. e.lane.0 ≢ lane) es →
    All (λ e. (e.lane.0 == lane) ≡ false) es
unserved lane [] others = All-nil (λ (e : HoldEntry). (e.lane.0 == lane) ≡ false)
unserved lane (e ∷ es) others =
    let IsOther : HoldEntry → Type 0 = (λ e. e.lane.0 ≢ lane) in
    All-cons (λ (e : HoldEntry). (e.lane.0 == lane) ≡ false) e es
    (not-number e.lane.0 lane (All-head IsOther e es others))
    (unserved lane es (All-tail IsOther e es others))

-- a driver is still served after a call of another
module _ (l : LaneState) (g k : HubSeen) (served : IsServed l (door g)) where
  grown : (es : List HoldEntry) → k.opening ≡ g.opening → k.history ≡ g.history ++ es → IsSound k.opening k.history →
      All (λ e. e.lane.0 ≢ l.id) es → IsServed l (door k)
  grown es opening history sound others =
      let form = subst (λ o. IsOpening o) (sym opening) served.opening in
      record {
        served = refl;
        opening = form;
        below = subst (λ o. LiesBelowMaxmem o) (sym opening) served.below;
        sound = sound;
        agrees = agrees-passes (view_of l) (seen_by l.id g) es (seen_by l.id k) served.agrees (own-number l.id)
            (record {
              opening = opening;
              form = form;
              serves = refl;
              apart = unserved l.id es others;
              history = history;
              sound = sound;
            });
      }

  pub still-held : (caller : ℕ) (c : HubCall) (r : HubReply) → l.id ≢ caller →
      HoldsAtDoor (door g) caller c r (door k) → IsServed l (door k)
  still-held caller c r apart held =
      let came = comes-held caller g k c r held in
      grown came.entries came.opening came.history held.sound
      (away l.id caller came.entries (λ e. apart (sym e)) came.own)

  pub still-passed : (es : List HoldEntry) → Passes (door g) es (door k) → IsServed l (door k)
  still-passed es p =
      grown [] p.opening (same-history g es (door k) p ∙ sym (append-nil g.history)) p.sound
      (All-nil (λ (e : HoldEntry). e.lane.0 ≢ l.id))

  -- by what a call gives that takes memory
  pub still-made : {X E : Type 0} (caller : ℕ) (c : HubCall) (as_reply : X → HubReply) (r : Result X E) →
      l.id ≢ caller → IfOk r (λ x. HoldsAtDoor (door g) caller c (as_reply x) (door k)) →
      OnErr r (FailsAtDoor (door g) (door k)) → IsServed l (door k)
  still-made caller c as_reply (Ok x) apart held fails = still-held caller c (as_reply x) apart held
  still-made caller c as_reply (Err e) apart held fails = still-passed fails.others fails.passes

  -- by the taking of a callback
  pub still-taken : (caller : ℕ) (as_reply : Called → HubReply) (r : Option Called) → l.id ≢ caller →
      MatchOption r (Misses (door g) caller (door k))
      (λ c. HoldsAtDoor (door g) caller TakeCallback (as_reply c) (door k)) → IsServed l (door k)
  still-taken caller as_reply None apart misses = still-passed misses.others misses.passes
  still-taken caller as_reply (Some c) apart held = still-held caller TakeCallback (as_reply c) apart held

-- entries of another driver came at the hub, and then comes a call of the lane
module _ (lane other : ℕ) (h g : HubSeen) (apart : other ≢ lane) (came : Comes other h g) (l : LaneState)
    (served : IsServed l (door g)) where
  others : All (λ e. e.lane.0 ≢ lane) came.entries
  others = away lane other came.entries apart came.own

  passes : Passes (seen_by lane h) came.entries (seen_by lane g)
  passes = record {
    opening = came.opening;
    form = served.opening;
    serves = refl;
    apart = unserved lane came.entries others;
    history = came.history;
    sound = served.sound;
  }

  after-them : account (door g) ≡ account_of (account (door h)) came.entries
  after-them =
      (λ i. account_of (came.opening i) (came.history i)) ∙ account_of-append h.opening h.history came.entries

  sound-them : IsSound (account (door h)) came.entries
  sound-them =
      sound-rest h.opening h.history came.entries
      (subst (λ o. IsSound o (h.history ++ came.entries)) came.opening
      (subst (λ hs. IsSound g.opening hs) came.history served.sound))

  away-from : (caller : ℕ) → IsTrue (caller == lane) → All (λ e. e.lane.0 ≢ caller) came.entries
  away-from caller own = subst (λ n. All (λ e. e.lane.0 ≢ n) came.entries) (sym (same-number caller lane own)) others

  allows : (caller : ℕ) (c : HubCall) → Allows (seen_by lane h) caller c → Allows (door g) caller c
  allows caller c a = record {
    served = refl;
    sound = served.sound;
    may =
        subst (λ (x : Account). MayCall caller c x) (sym after-them)
        (MayCall-stays caller c (account (door h)) came.entries a.may sound-them (away-from caller a.served));
  }

  pages-of : (m : MapId) (pages : List ℕ) → IsTrue (m.lane.0 == lane) → ArePagesOf m pages (seen_by lane h) →
      ArePagesOf m pages (door g)
  pages-of m pages own are =
      subst (λ (x : Account). pages ≡ frames_of m x.mems) (sym after-them)
      (are ∙ sym (frames-stay m.lane.0 m (account (door h)) came.entries refl sound-them (away-from m.lane.0 own)))

  module _ (k : HubSeen) where
    holds : (caller : ℕ) (c : HubCall) (r : HubReply) → HoldsAtDoor (door g) caller c r (door k) →
        HoldsAtDoor (seen_by lane h) caller c r (seen_by lane k)
    holds caller c r held =
        let same : held.between.history ≡ g.history = same-history g held.others held.between held.passes in
        let first : held.between.opening ≡ g.opening = held.passes.opening in
        let here : account held.between ≡ account (door g) = (λ i. account_of (first i) (same i)) in
        record {
          between = seen_by lane g;
          others = came.entries;
          passes = passes;
          reply = held.reply ∙ ap (λ a. (account_step caller c a).reply) here;
          opening = held.opening ∙ first;
          serves = refl;
          history = held.history
              ∙ ap (λ es. es ++ record { lane = record { 0 = caller }; call = c; reply = r } ∷ []) same;
          sound = held.sound;
        }

    passed : (es : List HoldEntry) → Passes (door g) es (door k) →
        Passes (seen_by lane h) came.entries (seen_by lane k)
    passed es p = record {
      opening = p.opening ∙ came.opening;
      form = p.form;
      serves = refl;
      apart = unserved lane came.entries others;
      history = same-history g es (door k) p ∙ came.history;
      sound = p.sound;
    }

    fails : {X E : Type 0} (r : Result X E) → OnErr r (FailsAtDoor (door g) (door k)) →
        OnErr r (FailsAtDoor (seen_by lane h) (seen_by lane k))
    fails (Ok x) f = tt
    fails (Err e) f = record { others = came.entries; passes = passed f.others f.passes }

    taken : (caller : ℕ) (as_reply : Called → HubReply) (r : Option Called) →
        MatchOption r (Misses (door g) caller (door k))
        (λ c. HoldsAtDoor (door g) caller TakeCallback (as_reply c) (door k)) →
        MatchOption r (Misses (seen_by lane h) caller (seen_by lane k))
        (λ c. HoldsAtDoor (seen_by lane h) caller TakeCallback (as_reply c) (seen_by lane k))
    taken caller as_reply None m =
        record { others = came.entries; passes = passed m.others m.passes; reply = m.reply }
    taken caller as_reply (Some c) held = holds caller TakeCallback (as_reply c) held

-- the calls of a lane that is allowed at a door, if the lane and the hub are known by what the door has seen
module _ (b : Beside) (lane other : ℕ) (h g : HubSeen) (is : record { lane = lane; hub = h } ≡ b)
    (apart : other ≢ lane) (came : Comes other h g) (l : LaneState) (served : IsServed l (door g)) where
  pub allows-at : (caller : ℕ) (c : HubCall) → Allows (seen b) caller c → Allows (door g) caller c
  allows-at caller c a =
      allows lane other h g apart came l served caller c (subst (λ (x : Beside). Allows (seen x) caller c) (sym is) a)

  pub pages-at : (m : MapId) (pages : List ℕ) (c : HubCall) → Allows (seen b) m.lane.0 c →
      ArePagesOf m pages (seen b) → ArePagesOf m pages (door g)
  pages-at m pages c a are =
      let here = subst (λ (x : Beside). Allows (seen x) m.lane.0 c) (sym is) a in
      pages-of lane other h g apart came l served m pages here.served
      (subst (λ (x : Beside). ArePagesOf m pages (seen x)) (sym is) are)

  -- the caller is not the other driver
  pub not-other : (caller : ℕ) (c : HubCall) → l.id ≡ other → Allows (seen b) caller c → l.id ≢ caller
  not-other caller c number a same =
      let here = subst (λ (x : Beside). Allows (seen x) caller c) (sym is) a in
      apart (sym number ∙ (same ∙ same-number caller lane here.served))

  module _ (k : HubSeen) where
    abbrev after : Beside
    after = record { lane = lane; hub = k }

    pub holds-at : (caller : ℕ) (c : HubCall) (r : HubReply) → HoldsAtDoor (door g) caller c r (door k) →
        HoldsAtDoor (seen b) caller c r (seen after)
    holds-at caller c r held =
        subst (λ (x : Beside). HoldsAtDoor (seen x) caller c r (seen after)) is
        (holds lane other h g apart came l served k caller c r held)

    pub made-at : {X E : Type 0} (caller : ℕ) (c : HubCall) (as_reply : X → HubReply) (r : Result X E) →
        IfOk r (λ x. HoldsAtDoor (door g) caller c (as_reply x) (door k)) →
        IfOk r (λ x. HoldsAtDoor (seen b) caller c (as_reply x) (seen after))
    made-at caller c as_reply (Ok x) held = holds-at caller c (as_reply x) held
    made-at caller c as_reply (Err e) held = tt

    pub fails-at : {X E : Type 0} (r : Result X E) → OnErr r (FailsAtDoor (door g) (door k)) →
        OnErr r (FailsAtDoor (seen b) (seen after))
    fails-at r f =
        subst (λ (x : Beside). OnErr r (FailsAtDoor (seen x) (seen after))) is
        (fails lane other h g apart came l served k r f)

    pub taken-at : (caller : ℕ) (as_reply : Called → HubReply) (r : Option Called) →
        MatchOption r (Misses (door g) caller (door k))
        (λ c. HoldsAtDoor (door g) caller TakeCallback (as_reply c) (door k)) →
        MatchOption r (Misses (seen b) caller (seen after))
        (λ c. HoldsAtDoor (seen b) caller TakeCallback (as_reply c) (seen after))
    taken-at caller as_reply r m =
        subst (λ (x : Beside). MatchOption r (Misses (seen x) caller (seen after))
        (λ c. HoldsAtDoor (seen x) caller TakeCallback (as_reply c) (seen after))) is
        (taken lane other h g apart came l served k caller as_reply r m)

-- a driver that a hub serves is served by the door of its number
pub served-there : (l : LaneState) (lane : ℕ) (h : HubSeen) → l.id ≡ lane → IsServed l (door h) →
    IsServed l (seen_by lane h)
served-there l lane h same s = record {
  served = subst (λ n. IsTrue (l.id == n)) same (own-number l.id);
  opening = s.opening;
  below = s.below;
  sound = s.sound;
  agrees = s.agrees;
}
