-- What a call at a hub does to a hub that lets nobody in between.
use Rattle.std.proofs.Common.{◌≡◌, ℕ, ◌+◌, true, false, List, [], ◌∷◌, ◌++◌, All, length, ◌≤◌}
use Rattle.std.proofs.Common.{Result, Ok, Err, Option, Some, None, IfOk, IfSome, OnErr, MatchOption}
use Rattle.std.proofs.Common.{refl, sym, ap, ◌∙◌, subst, inl, inr, append-nil}
use Rattle.std.proofs.lemmas.List.Elements.{All-head}
use Rattle.busdma_machine.specs.declared.bounce.door.Called.{Called}
use Rattle.busdma_machine.specs.declared.bounce.hold.HubCall.{HubCall}
use Rattle.busdma_machine.specs.declared.bounce.hold.HubCall.TheVariants.{TakeCallback}
use Rattle.busdma_machine.specs.declared.bounce.hold.HubReply.{HubReply}
use Rattle.busdma_machine.specs.declared.bounce.hold.HoldEntry.{HoldEntry}
use Rattle.busdma_machine.specs.Bounce.Account.{Account}
use Rattle.busdma_machine.specs.Bounce.AccountStep.{account_step}
use Rattle.busdma_machine.specs.Bounce.Door.{Seen, Passes, HoldsAtDoor}
use Rattle.busdma_machine.specs.Bounce.Door.{FailsAtDoor, Misses, IsRow, account}
use Rattle.busdma_machine.specs.Machine.PageList.{RoomyPages, page_addresses}
use Rattle.bounce_hub.specs.Seen.{HubSeen, door}
use Rattle.turnstile.specs.TurnObject.{Grows}
use Rattle.lane_threads.specs.declared.call.DoorCall.{DoorCall}
use Rattle.lane_threads.specs.declared.call.DoorCall.TheVariants as call
use Rattle.lane_threads.specs.declared.call.DoorReply.{DoorReply}
use Rattle.lane_threads.specs.declared.call.DoorReply.TheVariants as reply
use Rattle.lane_threads.specs.Calls.{lane_of, called_reply}
use Rattle.lane_threads.specs.Object.{IsOfName, IsEntered, IsMissed, AreInRow, Answers}

true≢false : true ≡ false → ⊥
true≢false e = absurd (cc)

-- nobody is kept out by a door that serves all
no_others : (es : List HoldEntry) → All (λ h. true ≡ false) es → es ≡ []
no_others [] all = refl
no_others (e ∷ es) all = absurd (true≢false (All-head (λ (h : HoldEntry). true ≡ false) e es all))

-- a hub that could let others in let in none
same-passed : (h : HubSeen) (others : List HoldEntry) (m : Seen) → Passes (door h) others m → m.history ≡ h.history
same-passed h others m p =
    p.history ∙ (ap (λ es. h.history ++ es) (no_others others p.apart) ∙ append-nil h.history)

pub made : (h g : HubSeen) (lane : ℕ) (c : HubCall) (r : HubReply) → HoldsAtDoor (door h) lane c r (door g)
    → IsEntered h.opening h.history lane c r g.history
made h g lane c r held =
    let same : held.between.history ≡ h.history = same-passed h held.others held.between held.passes in
    let first : held.between.opening ≡ h.opening = held.passes.opening in
    let here : account held.between ≡ account (door h) =
    (λ i. account (record { opening = first i; history = same i; serves = held.between.serves })) in
    record {
      reply = held.reply ∙ ap (λ a. (account_step lane c a).reply) here;
      entry = held.history
          ∙ ap (λ es. es ++ record { lane = record { 0 = lane }; call = c; reply = r } ∷ []) same;
    }

pub failed : (h g : HubSeen) → FailsAtDoor (door h) (door g) → g.history ≡ h.history
failed h g f = same-passed h f.others (door g) f.passes

missed : (h g : HubSeen) (lane : ℕ) → Misses (door h) lane (door g) → IsMissed h.opening h.history lane g.history
missed h g lane m =
    let same : g.history ≡ h.history = same-passed h m.others (door g) m.passes in
    let first : g.opening ≡ h.opening = m.passes.opening in
    let here : account (door g) ≡ account (door h) =
    (λ i. account (record { opening = first i; history = same i; serves = λ l. true })) in
    record { reply = sym (ap (λ a. (account_step lane TakeCallback a).reply) here) ∙ m.reply; same = same }

-- the two answers of a call that takes memory
pub made_or_failed : {X E : Type 0} (h g : HubSeen) (lane : ℕ) (c : HubCall) (as_reply : X → HubReply)
    → (r : Result X E) → IfOk r (λ x. HoldsAtDoor (door h) lane c (as_reply x) (door g))
    → OnErr r (FailsAtDoor (door h) (door g))
    → IfOk r (λ x. IsEntered h.opening h.history lane c (as_reply x) g.history) × OnErr r (g.history ≡ h.history)
made_or_failed h g lane c as_reply (Ok x) held fails = (made h g lane c (as_reply x) held, tt)
made_or_failed h g lane c as_reply (Err e) held fails = (tt, failed h g fails)

-- the two answers when a callback is asked for
pub made_or_missed : (h g : HubSeen) (lane : ℕ) (r : Option Called)
    → MatchOption r (Misses (door h) lane (door g)) (λ c. HoldsAtDoor (door h) lane TakeCallback (called_reply c)
    (door g))
    → MatchOption r (IsMissed h.opening h.history lane g.history)
    (λ c. IsEntered h.opening h.history lane TakeCallback (called_reply c) g.history)
made_or_missed h g lane None m = missed h g lane m
made_or_missed h g lane (Some c) held = made h g lane TakeCallback (called_reply c) held

in_row : (o : Option RoomyPages) → IfSome o (λ pages. IsRow (page_addresses pages.items))
    → IfSome o (λ pages. length pages.items ≤ 8192) → IfSome o AreInRow
in_row None row few = tt
in_row (Some pages) row few = record { row = row; few = few }

-- if memory did not run out, the pages of a memory are in a row
pub with_row : {E : Type 0} (P : Option RoomyPages → Type 0) (same : Type 0) (r : Result (Option RoomyPages) E)
    → IfOk r P × OnErr r same → IfOk r (λ x. IfSome x (λ pages. IsRow (page_addresses pages.items)))
    → IfOk r (λ x. IfSome x (λ pages. length pages.items ≤ 8192))
    → IfOk r (λ x. P x × IfSome x AreInRow) × OnErr r same
with_row P same (Ok x) h row few = ((h.0, in_row x row few), tt)
with_row P same (Err e) h row few = (tt, h.1)

-- a call that was made has added an entry of its lane
module _ (o : Account) (before after : List HoldEntry) (name : ℕ) where
  grows : (lane : ℕ) (c : HubCall) (r : HubReply) → lane + 1 ≡ name → IsEntered o before lane c r after
      → Grows (IsOfName name) before after
  grows lane c r own m = inr (record { lane = record { 0 = lane }; call = c; reply = r }, own, m.entry)

  -- what answers a call has added an entry of its lane, or none
  pub grows_answered : (c : DoorCall) (r : DoorReply) → lane_of c + 1 ≡ name → Answers o before name c r after
      → Grows (IsOfName name) before after
  grows_answered (call.AttachTag alloc lane tag) (reply.AttachTag (Ok g)) own h = grows _ _ _ own h.0
  grows_answered (call.AttachTag alloc lane tag) (reply.AttachTag (Err e)) own h = inl h.1
  grows_answered (call.CreateMap alloc map tag first_done) (reply.CreateMap (Ok g)) own h = grows _ _ _ own h.0
  grows_answered (call.CreateMap alloc map tag first_done) (reply.CreateMap (Err e)) own h = inl h.1
  grows_answered (call.DestroyMap map zone) reply.DestroyMap own h = grows _ _ _ own h
  grows_answered (call.Grab alloc map zone need nowait) (reply.Grab (Ok g)) own h = grows _ _ _ own h.0
  grows_answered (call.Grab alloc map zone need nowait) (reply.Grab (Err e)) own h = inl h.1
  grows_answered (call.Release map zone page) (reply.Release moved) own h = grows _ _ _ own h
  grows_answered (call.TakeCallback lane) (reply.TakeCallback None) own h = inl h.same
  grows_answered (call.TakeCallback lane) (reply.TakeCallback (Some c)) own h = grows _ _ _ own h
  grows_answered (call.MemAlloc alloc mem tag) (reply.MemAlloc (Ok g)) own h = grows _ _ _ own h.0.0
  grows_answered (call.MemAlloc alloc mem tag) (reply.MemAlloc (Err e)) own h = inl h.1
  grows_answered (call.MemFree mem pages) reply.MemFree own h = grows _ _ _ own h
  grows_answered _ _ own h = absurd h

-- an answer, if the hub's value and the call are known by other names
pub answers_here : (k h : HubSeen) (after : List HoldEntry) (name : ℕ) (d c : DoorCall) (r : DoorReply) → k ≡ h
    → c ≡ d → Answers k.opening k.history name d r after → Answers h.opening h.history name c r after
answers_here k h after name d c r value same a =
    subst (λ (x : HubSeen). Answers x.opening x.history name c r after) value
    (subst (λ (x : DoorCall). Answers k.opening k.history name x r after) (sym same) a)
