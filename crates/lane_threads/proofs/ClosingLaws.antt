-- The hub's history begins with what the passes of lanes knew, and what came after is of other lanes.
use Rattle.std.proofs.Common.{◌≡◌, ◌≢◌, ℕ, ◌+◌, ◌==◌, ◌<◌, List, [], ◌∷◌, ◌++◌, All, Contains, Some, refl, sym, ap}
use Rattle.std.proofs.Common.{◌∙◌, subst, arith, append-nil, eq-eqb, ne_eqb}
use Rattle.std.proofs.lemmas.List.Elements.{All-nil, All-cons, All-head, All-tail, All-append, All-contains}
use Rattle.std.proofs.lemmas.List.Elements.{All-weaker}
use Rattle.std.proofs.lemmas.List.Elements.{Contains-append_left, Contains-append_right}
use mathlib.Core.List.{IsPrefix}
use mathlib.Core.Logic.{dite}
use native.Mathlib.Decide.{ℕ_discrete}
use Rattle.busdma_machine.specs.declared.bounce.hold.HoldEntry.{HoldEntry}
use Rattle.busdma_machine.specs.Bounce.Account.{Account}
use Rattle.busdma_machine.specs.Bounce.Door.{Seen, Passes}
use Rattle.busdma_machine.specs.Bounce.LaneEntries.{of_lane}
use Rattle.busdma_machine.proofs.Accounts.LaneEntries.{of_lane-append}
use Rattle.bounce_hub.specs.Seen.{HubSeen}
use Rattle.turnstile.specs.declared.view.Start.{Start}
use Rattle.turnstile.specs.TurnHistory.{entries, calls_of, IsOfOthers}
use Rattle.turnstile.specs.Start.{history_after, IsLawful}
use Rattle.turnstile.specs.Pass.{own_calls, TakesIn, Closes}
use Rattle.turnstile.proofs.Logs.{prefix_then, between, silent}
use Rattle.lane_threads.specs.Closing.{LanePass, IsJoined, Joins, HasOwnCalls, OthersCame, ClosesAfter}
use Rattle.lane_threads.specs.Closing.{with_splits}
use Rattle.lane_threads.specs.Object.{IsLegalHistory, IsOfName}
use Rattle.lane_threads.specs.PassDoor.{seen_from}
use Rattle.lane_threads.proofs.Turning.{at, passes as passes_to}

-- a pass that was joined to the old one stays joined after one more pass
joined-later : (old other new : LanePass) → TakesIn old other new → (p : LanePass) → IsJoined old p → IsJoined new p
joined-later old other new t p h = record {
  begins = prefix_then p.front old.front new.front h.begins t.begins;
  ended = subst (λ (q : LanePass). Contains q.ended (p.name, own_calls p)) (sym t.is)
      (Contains-append_left old.ended ((other.name, own_calls other) ∷ other.ended) (p.name, own_calls p) h.ended);
}

joined-now : (old other new : LanePass) → TakesIn old other new → IsJoined new other
joined-now old other new t = let own : ℕ × List HoldEntry = (other.name, own_calls other) in record {
  begins = t.begins_other;
  ended = subst (λ (q : LanePass). Contains q.ended own) (sym t.is)
      (Contains-append_right old.ended (own ∷ other.ended) own (0, omega arith, refl));
}

pub joins-more : (first old other new : LanePass) (done : List LanePass) → TakesIn old other new
    → Joins first done old → Joins first (done ++ other ∷ []) new
joins-more first old other new done t j = record {
  turnstile = ap (λ (p : LanePass). p.turnstile) t.is ∙ j.turnstile;
  start = ap (λ (p : LanePass). p.start) t.is ∙ j.start;
  name = ap (λ (p : LanePass). p.name) t.is ∙ j.name;
  begins = prefix_then first.front old.front new.front j.begins t.begins;
  own = t.own ∙ j.own;
  each = All-append (IsJoined new) done (other ∷ [])
      (All-weaker (IsJoined old) (IsJoined new) (joined-later old other new t) done j.each)
      (All-cons (IsJoined new) other [] (joined-now old other new t) (All-nil (IsJoined new)));
}

pub joins_none : (first : LanePass) → Joins first [] first
joins_none first = record {
  turnstile = refl;
  start = refl;
  name = refl;
  begins = ([], append-nil first.front);
  own = refl;
  each = All-nil (IsJoined first);
}

-- a turn of a lane: its name is one of the names, and is that of the entry's lane
abbrev IsPair : Start HoldEntry Account → ℕ × HoldEntry → Type 0
IsPair start t = (t.0 < start.names) × IsOfName t.0 t.1

-- each entry's lane has a name
drivers : (start : Start HoldEntry Account) (turns : List (ℕ × HoldEntry)) → All (IsPair start) turns
    → All (λ e. e.lane.0 + 1 < start.names) (entries turns)
drivers start [] h = All-nil (λ (e : HoldEntry). e.lane.0 + 1 < start.names)
drivers start (t ∷ ts) h =
    let here = All-head (IsPair start) t ts h in
    All-cons (λ (e : HoldEntry). e.lane.0 + 1 < start.names) t.1 (entries ts)
    (subst (λ n. n < start.names) (sym here.1) here.0)
    (drivers start ts (All-tail (IsPair start) t ts h))

-- the entries of a lane are the calls under its name
lane_calls : (start : Start HoldEntry Account) (lane name : ℕ) (turns : List (ℕ × HoldEntry)) → lane + 1 ≡ name
    → All (IsPair start) turns → of_lane lane (entries turns) ≡ calls_of name turns
lane_calls start lane name [] named h = refl
lane_calls start lane name (t ∷ ts) named h =
    let fit : t.1.lane.0 + 1 ≡ t.0 = (All-head (IsPair start) t ts h).1 in
    let rest = lane_calls start lane name ts named (All-tail (IsPair start) t ts h) in
    dite (ℕ_discrete t.0 name)
    (λ own. let lanes : t.1.lane.0 ≡ lane = omega (arith, fit, own, named) in
    rw (eq-eqb t.0 name own, eq-eqb t.1.lane.0 lane lanes) (ap (λ l. t.1 ∷ l) rest))
    (λ other. let lanes : t.1.lane.0 ≢ lane = (λ same. other (omega (arith, fit, same, named))) in
    rw (ne_eqb t.0 name other, ne_eqb t.1.lane.0 lane lanes) rest)

-- a pass whose front begins the turns, and whose own calls are all that they have of its name
record IsWithin (turns : List (ℕ × HoldEntry)) (p : LanePass) : Type 0 where
  begins : IsPrefix p.front turns
  calls : calls_of p.name turns ≡ own_calls p

-- the turnstile is closed
module _ (first all : LanePass) (hub : HubSeen)
    (c : Closes (λ h. h.history) (λ h. h.opening) IsLegalHistory IsOfName all hub) where
  own_of : (p : LanePass) → IsWithin c.turns p → HasOwnCalls c.start.opening hub.history p
  own_of p w lane named =
      ap (of_lane lane) c.whole
      ∙ of_lane-append lane c.start.opening (entries c.turns)
      ∙ ap (λ es. of_lane lane c.start.opening ++ es)
      (lane_calls c.start lane p.name c.turns named c.sound.pairs ∙ w.calls)

  others_of : (started : first.start ≡ Some c.start) (p : LanePass) → IsWithin c.turns p → OthersCame first hub p
  others_of started p w same =
      let rest : List (ℕ × HoldEntry) = w.begins.0 in
      let others : IsOfOthers p.name rest =
      silent p.name rest (between p.name (own_calls p) p.front c.turns w.begins refl w.calls) in
      let sound : IsLawful IsLegalHistory IsOfName c.start (p.front ++ rest) =
      subst (IsLawful IsLegalHistory IsOfName c.start) (sym w.begins.1) c.sound in
      let here : Passes (at c.start p.name p.front) (entries rest) (at c.start p.name (p.front ++ rest)) =
      passes_to c.start p.name p.front rest (p.front ++ rest) ([], append-nil (p.front ++ rest)) others sound in
      let here_started : p.start ≡ Some c.start = same ∙ started in
      let history : hub.history ≡ history_after c.start (p.front ++ rest) =
      c.whole ∙ ap (history_after c.start) (sym w.begins.1) in (
        entries rest,
        subst (λ (x : Seen × Seen). Passes x.0 (entries rest) x.1)
            (λ i. (
              seen_from (sym here_started i) p.name p.front,
              record { opening = sym c.fixed_part i; history = sym history i; serves = λ lane. lane + 1 == p.name },
            )) here,
      )

-- a pass that was joined
joined_within : (all p : LanePass) (turns : List (ℕ × HoldEntry)) → IsPrefix all.front turns
    → All (λ (o : ℕ × List HoldEntry). calls_of o.0 turns ≡ o.1) all.ended → IsJoined all p → IsWithin turns p
joined_within all p turns begins ended j = record {
  begins = prefix_then p.front all.front turns j.begins begins;
  calls =
      All-contains (λ (o : ℕ × List HoldEntry). calls_of o.0 turns ≡ o.1)
      all.ended (p.name, own_calls p) ended j.ended;
}

-- all were joined, and the turnstile is closed
pub closed : (first all : LanePass) (passes : List LanePass) (hub : HubSeen) → Joins first passes all
    → Closes (λ h. h.history) (λ h. h.opening) IsLegalHistory IsOfName all hub → ClosesAfter first passes hub
closed first all passes hub j c =
    let started : first.start ≡ Some c.start = sym j.start ∙ c.started in
    let lawful = c.sound.lawful c.turns ([], append-nil c.turns) in
    let first_within : IsWithin c.turns first = record {
      begins = prefix_then first.front all.front c.turns j.begins c.begins;
      calls = subst (λ n. calls_of n c.turns ≡ own_calls first) j.name (c.own ∙ j.own);
    } in
    let within : All (IsWithin c.turns) (first ∷ passes) =
    All-cons (IsWithin c.turns) first passes first_within
    (All-weaker (IsJoined all) (IsWithin c.turns) (λ p. joined_within all p c.turns c.begins c.ended) passes j.each) in
    record {
      start = c.start;
      started = started;
      opening = c.fixed_part;
      legal =
          subst (λ (x : Account × List HoldEntry). IsLegalHistory x.0 x.1) (λ i. (sym c.fixed_part i, sym c.whole i))
          lawful;
      added = entries c.turns;
      begins = c.whole;
      drivers = drivers c.start c.turns c.sound.pairs;
      own =
          All-weaker (IsWithin c.turns) (HasOwnCalls c.start.opening hub.history)
          (own_of first all hub c) (first ∷ passes) within;
      others =
          All-weaker (IsWithin c.turns) (OthersCame first hub)
          (others_of first all hub c started) (first ∷ passes) within;
    }

-- what is known of the hub does not depend on how many passes were split off from the first one
pub closed_same : (first last : LanePass) (passes : List LanePass) (hub : HubSeen) →
    last ≡ with_splits last.splits first → ClosesAfter last passes hub → ClosesAfter first passes hub
closed_same first last passes hub same closes =
    let c : ClosesAfter (with_splits last.splits first) passes hub =
    subst (λ (p : LanePass). ClosesAfter p passes hub) same closes in
    let Own : LanePass → Type 0 = HasOwnCalls c.start.opening hub.history in
    let Came : LanePass → Type 0 = OthersCame first hub in
    record {
      start = c.start;
      started = c.started;
      opening = c.opening;
      legal = c.legal;
      added = c.added;
      begins = c.begins;
      drivers = c.drivers;
      own =
          All-cons Own first passes (All-head Own (with_splits last.splits first) passes c.own)
          (All-tail Own (with_splits last.splits first) passes c.own);
      others =
          All-cons Came first passes (All-head Came (with_splits last.splits first) passes c.others)
          (All-tail Came (with_splits last.splits first) passes c.others);
    }
