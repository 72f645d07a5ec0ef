-- What a turn at the hub, which serves every driver, makes of the world.
use Rattle.std.proofs.Common.{◌≡◌, inl, inr, ℕ, ◌+◌, Bool, true, false, List, [], ◌∷◌, ◌++◌, length, All, refl}
use Rattle.std.proofs.Common.{sym, subst}
use Rattle.std.proofs.Common.{ap, ◌∙◌, if◌then◌else◌, arith, length-append}
use Rattle.std.proofs.lemmas.Bool.{false≢true}
use Rattle.std.proofs.lemmas.List.{append-nil}
use Rattle.std.proofs.lemmas.List.Elements.{All-head}
use Rattle.busdma_machine.specs.declared.bounce.hold.HoldEntry.{HoldEntry}
use Rattle.busdma_machine.specs.declared.bounce.hold.HubCall.{HubCall}
use Rattle.busdma_machine.specs.declared.bounce.hold.HubCall.TheVariants.{TakeCallback}
use Rattle.busdma_machine.specs.declared.bounce.hold.HubReply.{HubReply}
use Rattle.busdma_machine.specs.declared.bounce.hold.HubReply.TheVariants.{Nothing}
use Rattle.busdma_machine.specs.Bounce.Account.{Account}
use Rattle.busdma_machine.specs.Bounce.AccountStep.{AccountReply as Outcome, account_step}
use Rattle.busdma_machine.specs.Bounce.Door.{Seen, HoldsAtDoor, Passes, account}
use Rattle.busdma_machine.specs.Bounce.History.{IsSound, account_of, is_entry}
use Rattle.busdma_machine.proofs.Accounts.LaneEntries.{account_of-append, sound-rest}
use Rattle.bounce_hub.specs.Seen.{HubSeen, door}
use Rattle.ideal_lane.specs.Asking.{Asking, Gives, Asks}
use Rattle.ideal_lane.specs.State.{LaneState}
use Rattle.ideal_lane.specs.Turns.{Turned}
use Rattle.lane_state.specs.Doing.{IsUndone}
use Rattle.lane_turns.specs.TakenTurns.{IsTurned}
use Rattle.ideal_world.specs.Holds.{hold_of, holds_by}
use Rattle.ideal_world.specs.World.{WorldState, WorldTurned, replied, turned}
use Rattle.ideal_world.proofs.Reached.{unkept}

-- a hub keeps its opening, and its history is the old one with other entries
record Goes (h k : HubSeen) (more : List HoldEntry) : Type 0 where
  opening : k.opening ≡ h.opening
  history : k.history ≡ h.history ++ more

-- no hold of another lane comes between, since the hub serves all lanes
none-between : (others : List HoldEntry) → All (λ (e : HoldEntry). true ≡ false) others → others ≡ []
none-between [] h = refl
none-between (e ∷ es) h = absurd (false≢true (sym (All-head (λ (x : HoldEntry). true ≡ false) e es h)))

passes-none : (h : HubSeen) (others : List HoldEntry) (e : Seen) → Passes (door h) others e → others ≡ []
passes-none h others e p = none-between others p.apart

-- the account of a door if no other entry came between
passes-account : (h : HubSeen) (others : List HoldEntry) (e : Seen) → Passes (door h) others e →
    account e ≡ account_of h.opening h.history
passes-account h others e p =
    (λ i. account_of (p.opening i) (p.history i))
    ∙ ap (λ es. account_of h.opening (h.history ++ es)) (passes-none h others e p)
    ∙ ap (account_of h.opening) (append-nil h.history)

passes-history : (h : HubSeen) (others : List HoldEntry) (e : Seen) → Passes (door h) others e → e.history ≡ h.history
passes-history h others e p =
    p.history ∙ ap (λ es. h.history ++ es) (passes-none h others e p) ∙ append-nil h.history

-- the account of a hub
abbrev pub hub_account : HubSeen → Account
hub_account h = account_of h.opening h.history

-- what a turn of a driver made of the hub, and of the world with the driver's new state
pub record Makes (lanes : List LaneState) (i : ℕ) (h k : HubSeen) (held : Bool) (x : Turned) (made : WorldTurned)
    : Type 0 where
  pub opening : k.opening ≡ h.opening
  pub holds : length k.history ≡ length h.history + (if held then 1 else 0)
  pub world : turned (record { lanes = lanes; account = hub_account h }) i (hub_account k) x ≡ made

one-or-none : (held b : Bool) → held ≡ b → ◌≡◌ {A = ℕ} (if held then 1 else 0) (if b then 1 else 0)
one-or-none held b e = ap one e
  where
    one : Bool → ℕ
    one c = if c then 1 else 0

module _ (lanes : List LaneState) (i : ℕ) (l : LaneState) (h k : HubSeen) where
  abbrev world : WorldState
  world = record { lanes = lanes; account = hub_account h }

  pub makes : (step : Asking Turned) (x : Turned) (held : Bool) → IsTurned (door h) l.id step x held (door k) →
      Makes lanes i h k held x (replied world i l step)
  makes (Gives t) x held turn =
      let same : x ≡ t = turn.0 in
      let seen : door k ≡ door h = turn.2 in
      let opening : k.opening ≡ h.opening = ap (λ (d : Seen). d.opening) seen in
      let history : k.history ≡ h.history = ap (λ (d : Seen). d.history) seen in
      record {
        opening = opening;
        holds = let none = one-or-none held false turn.1 in omega (arith, ap length history, none);
        world = (λ j. turned world i (account_of (opening j) (history j)) (same j));
      }
  makes (Asks c f) x held (inl (is, called)) =
      let holds = called.holds in
      let b = holds.between in
      let before : account b ≡ hub_account h = passes-account h holds.others b holds.passes in
      let o : Outcome = account_step l.id c (account b) in
      let own : HoldEntry = record { lane = record { 0 = l.id }; call = c; reply = called.reply } in
      let after : hub_account k ≡ o.account =
      (λ j. account_of (holds.opening j) (holds.history j)) ∙ account_of-append b.opening b.history (own ∷ []) in
      record {
        opening = holds.opening ∙ holds.passes.opening;
        holds =
            let one : length k.history ≡ length (b.history ++ own ∷ []) = ap length holds.history in
            let old : length b.history ≡ length h.history =
            ap length (passes-history h holds.others b holds.passes) in
            let more = one-or-none held true is in
            omega (arith, one, old, more, length-append b.history (own ∷ []));
        world =
            (λ j. turned world i (after j) ((called.is ∙ ap f holds.reply) j))
            ∙ ap (λ a. let q : Outcome = account_step l.id c a in turned world i q.account (f q.reply)) before;
      }
  makes (Asks c f) x held (inr (is, missed)) =
      let misses = missed.misses in
      let same : hub_account k ≡ hub_account h = passes-account h misses.others (door k) misses.passes in
      let call : account_step l.id c (hub_account k) ≡ account_step l.id TakeCallback (hub_account k) =
      ap (λ y. account_step l.id y (hub_account k)) missed.callback in
      let none : (account_step l.id TakeCallback (hub_account k)).reply ≡ Nothing = misses.reply in
      let still : (account_step l.id TakeCallback (hub_account k)).account ≡ hub_account k =
      unkept l.id TakeCallback (hub_account k) (ap (is_entry TakeCallback) none) in
      let reply : (account_step l.id c (hub_account k)).reply ≡ Nothing =
      ap (λ (q : Outcome). q.reply) call ∙ none in
      let stays : (account_step l.id c (hub_account k)).account ≡ hub_account k =
      ap (λ (q : Outcome). q.account) call ∙ still in
      record {
        opening = misses.passes.opening;
        holds =
            let old : length k.history ≡ length h.history =
            ap length (passes-history h misses.others (door k) misses.passes) in
            let more = one-or-none held false is in
            omega (arith, old, more);
        world =
            (λ j. turned world i (sym stays j) ((missed.is ∙ ap f (sym reply)) j))
            ∙ ap (λ a. let q : Outcome = account_step l.id c a in turned world i q.account (f q.reply)) same;
      }

-- a hold is kept in the history
holds-kept : (lane : ℕ) (d e : Seen) (c : HubCall) (r : HubReply) → HoldsAtDoor d lane c r e → is_entry c r ≡ true
holds-kept lane d e c r h =
    let b = h.between in
    let own : List HoldEntry = record { lane = record { 0 = lane }; call = c; reply = r } ∷ [] in
    let sound : IsSound b.opening (b.history ++ own) =
    subst (λ (x : Account × List HoldEntry). IsSound x.0 x.1) (λ i. (h.opening i, h.history i)) h.sound in
    (sound-rest b.opening b.history own sound).0.kept

kept-hold : (lane : ℕ) (c : HubCall) (r : HubReply) → is_entry c r ≡ true →
    record { lane = record { 0 = lane }; call = c; reply = r } ∷ [] ≡ hold_of lane c r
kept-hold lane c r kept = rw kept refl

unkept-hold : (lane : ℕ) (c : HubCall) (r : HubReply) → is_entry c r ≡ false → [] ≡ hold_of lane c r
unkept-hold lane c r unkept = rw unkept refl

-- the history that a turn leaves has one more entry if the account's reply to the turn's call is kept
pub made-holds : (lane : ℕ) (h k : HubSeen) (step : Asking Turned) (x : Turned) (held : Bool) →
    IsTurned (door h) lane step x held (door k) → k.history ≡ h.history ++ holds_by lane step (hub_account h)
made-holds lane h k (Gives t) x held turn = ap (λ (d : Seen). d.history) turn.2 ∙ sym (append-nil h.history)
made-holds lane h k (Asks c f) x held (inl (is, called)) =
    let holds = called.holds in
    let b = holds.between in
    let reply : called.reply ≡ (account_step lane c (hub_account h)).reply =
    holds.reply ∙ ap (λ a. (account_step lane c a).reply) (passes-account h holds.others b holds.passes) in
    let kept : is_entry c called.reply ≡ true = holds-kept lane (door h) (door k) c called.reply holds in
    holds.history
    ∙ (λ j. passes-history h holds.others b holds.passes j ++ kept-hold lane c called.reply kept j)
    ∙ ap (λ r. h.history ++ hold_of lane c r) reply
made-holds lane h k (Asks c f) x held (inr (is, missed)) =
    let misses = missed.misses in
    let same : hub_account k ≡ hub_account h = passes-account h misses.others (door k) misses.passes in
    let reply : (account_step lane c (hub_account h)).reply ≡ Nothing =
    ap (λ a. (account_step lane c a).reply) (sym same)
    ∙ ap (λ y. (account_step lane y (hub_account k)).reply) missed.callback ∙ misses.reply in
    let unkept : is_entry c (account_step lane c (hub_account h)).reply ≡ false =
    (λ j. is_entry (missed.callback j) (reply j)) in
    passes-history h misses.others (door k) misses.passes ∙ sym (append-nil h.history)
    ∙ ap (λ es. h.history ++ es) (unkept-hold lane c (account_step lane c (hub_account h)).reply unkept)

-- if memory runs out, the history, the account and the opening are unchanged
pub undone-history : (h k : HubSeen) → IsUndone (door h) (door k) → k.history ≡ h.history
undone-history h k (inl same) = ap (λ (d : Seen). d.history) same
undone-history h k (inr fails) = passes-history h fails.others (door k) fails.passes

pub undone-account : (h k : HubSeen) → IsUndone (door h) (door k) → hub_account k ≡ hub_account h
undone-account h k (inl same) = ap account same
undone-account h k (inr fails) = passes-account h fails.others (door k) fails.passes

pub undone-opening : (h k : HubSeen) → IsUndone (door h) (door k) → k.opening ≡ h.opening
undone-opening h k (inl same) = ap (λ (d : Seen). d.opening) same
undone-opening h k (inr fails) = fails.passes.opening
