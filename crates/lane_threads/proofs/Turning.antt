-- What the door of a lane learns by a turn at the turnstile.
use Rattle.std.proofs.Common.{◌≡◌, ◌≢◌, ℕ, ◌+◌, ◌==◌, ◌<◌, false, IsTrue, List, [], ◌∷◌, ◌++◌, All}
use Rattle.std.proofs.Common.{Ok, Err, Option, Some, None, IfSome, refl, sym, ap, ◌∙◌, subst, arith, append_assoc}
use Rattle.std.proofs.Common.{append-nil, unwrap_or}
use Rattle.std.proofs.lemmas.List.Elements.{All-nil, All-cons, All-head, All-tail}
use Rattle.std.proofs.lemmas.Bool.Decides.{nat_tests}
use mathlib.Core.List.{IsPrefix}
use Rattle.busdma_machine.specs.declared.bounce.hold.HubCall.{HubCall}
use Rattle.busdma_machine.specs.declared.bounce.hold.HubCall.TheVariants as hub
use Rattle.busdma_machine.specs.declared.bounce.hold.HubReply.{HubReply}
use Rattle.busdma_machine.specs.declared.bounce.hold.HubReply.TheVariants as said
use Rattle.busdma_machine.specs.declared.bounce.hold.HoldEntry.{HoldEntry}
use Rattle.busdma_machine.specs.Bounce.Account.{Account}
use Rattle.busdma_machine.specs.Bounce.AccountStep.{account_step}
use Rattle.busdma_machine.specs.Bounce.History.{account_of}
use Rattle.busdma_machine.specs.Bounce.Door.{Seen, Allows, Passes}
use Rattle.busdma_machine.specs.Bounce.Door.{HoldsAtDoor, FailsAtDoor, Misses, account}
use Rattle.turnstile.specs.declared.view.Start.{Start}
use Rattle.turnstile.specs.TurnHistory.{entries, turns_of, IsOfOthers}
use Rattle.turnstile.specs.Start.{history_after, IsLawful}
use Rattle.turnstile.specs.Pass.{IsSoundPass, HasTurn}
use Rattle.turnstile.proofs.Logs.{entries-append, All_prefix}
use Rattle.lane_threads.specs.declared.call.DoorCall.{DoorCall}
use Rattle.lane_threads.specs.declared.call.DoorCall.TheVariants as call
use Rattle.lane_threads.specs.declared.call.DoorReply.{DoorReply}
use Rattle.lane_threads.specs.declared.call.DoorReply.TheVariants as reply
use Rattle.lane_threads.specs.Calls.{lane_of, hub_call}
use Rattle.lane_threads.specs.Closing.{LanePass}
use Rattle.lane_threads.specs.Object.{IsLegalHistory, IsOfName, MayAct, GivesBack, Answers, IsEntered, IsMissed}
use Rattle.lane_threads.specs.PassDoor.{seen_from, seen, Replied}

same_number : (a b : ℕ) → IsTrue (a == b) → a ≡ b
same_number a b h = grind (arith, nat_tests)

not_number : (a b c : ℕ) → c ≢ b → a ≡ c → (a == b) ≡ false
not_number a b c other own = grind (arith, nat_tests)

-- what the door allows, its pass may call
may_from : (o : Option (Start HoldEntry Account)) (name : ℕ) (front : List (ℕ × HoldEntry)) (c : DoorCall)
    → GivesBack c (account (seen_from o name front)) → Allows (seen_from o name front) (lane_of c) (hub_call c)
    → IfSome o (λ start. MayAct start.fixed (history_after start front) name c)
may_from None name front c pages allowed = tt
may_from (Some start) name front c pages allowed =
    record { lane = same_number _ _ allowed.served; may = allowed.may; pages = pages }

-- a turn of a lane: its name is one of the names, and is that of the entry's lane
abbrev IsPair : Start HoldEntry Account → ℕ × HoldEntry → Type 0
IsPair start t = (t.0 < start.names) × IsOfName t.0 t.1

-- the entries of other names are of lanes that the door does not serve
others_apart : (name : ℕ) (start : Start HoldEntry Account) (turns : List (ℕ × HoldEntry)) → IsOfOthers name turns
    → All (IsPair start) turns → All (λ e. (e.lane.0 + 1 == name) ≡ false) (entries turns)
others_apart name start [] others fit = All-nil (λ (e : HoldEntry). (e.lane.0 + 1 == name) ≡ false)
others_apart name start (t ∷ ts) others fit =
    let IsOther : ℕ × HoldEntry → Type 0 = (λ u. u.0 ≢ name) in
    All-cons (λ (e : HoldEntry). (e.lane.0 + 1 == name) ≡ false) t.1 (entries ts)
    (not_number (t.1.lane.0 + 1) name t.0 (All-head IsOther t ts others) (All-head (IsPair start) t ts fit).1)
    (others_apart name start ts (All-tail IsOther t ts others) (All-tail (IsPair start) t ts fit))

All-right : (P : ℕ × HoldEntry → Type 0) (xs ys : List (ℕ × HoldEntry)) → All P (xs ++ ys) → All P ys
All-right P [] ys h = h
All-right P (x ∷ xs) ys h = All-right P xs ys (All-tail P x (xs ++ ys) h)

-- what a pass of this name has seen with these turns
abbrev pub at : Start HoldEntry Account → ℕ → List (ℕ × HoldEntry) → Seen
at start name turns = seen_from (Some start) name turns

-- turns of others came after the front, in a complete turn history that is sound
module _ (start : Start HoldEntry Account) (name : ℕ) (front between whole : List (ℕ × HoldEntry))
    (begins : IsPrefix (front ++ between) whole) (others : IsOfOthers name between)
    (sound : IsLawful IsLegalHistory IsOfName start whole) where
  pub passes : Passes (at start name front) (entries between) (at start name (front ++ between))
  passes =
      let legal = sound.lawful (front ++ between) begins in
      let fit : All (IsPair start) (front ++ between) =
      All_prefix (IsPair start) (front ++ between) whole sound.pairs begins in
      record {
        opening = refl;
        form = legal.form;
        serves = refl;
        apart = others_apart name start between others (All-right (IsPair start) front between fit);
        history = ap (λ es. start.opening ++ es) (entries-append front between)
            ∙ sym (append_assoc start.opening (entries front) (entries between));
        sound = legal.sound;
      }

  -- after the turns of others came the call's own turn
  holds : (lane : ℕ) (c : HubCall) (r : HubReply)
      → IsEntered start.fixed (history_after start (front ++ between)) lane c r (history_after start whole)
      → HoldsAtDoor (at start name front) lane c r (at start name whole)
  holds lane c r made = record {
    between = at start name (front ++ between);
    others = entries between;
    passes = passes;
    reply = made.reply;
    opening = refl;
    serves = refl;
    history = made.entry;
    sound = (sound.lawful whole ([], append-nil whole)).sound;
  }

  -- after the turns of others came no turn
  fails : history_after start whole ≡ history_after start (front ++ between)
      → FailsAtDoor (at start name front) (at start name whole)
  fails same = let p = passes in record {
    others = entries between;
    passes = record {
      opening = refl;
      form = p.form;
      serves = refl;
      apart = p.apart;
      history = same ∙ p.history;
      sound = (sound.lawful whole ([], append-nil whole)).sound;
    };
  }

  misses : (lane : ℕ)
      → IsMissed start.fixed (history_after start (front ++ between)) lane (history_after start whole)
      → Misses (at start name front) lane (at start name whole)
  misses lane m = let f = fails m.same in record {
    others = f.others;
    passes = f.passes;
    reply =
        subst (λ h. (account_step lane hub.TakeCallback (account_of start.fixed h)).reply
        ≡ said.Nothing) (sym m.same) m.reply;
  }

  -- the reply at the door, by the call and its reply
  replied : (c : DoorCall) (r : DoorReply)
      → Answers start.fixed (history_after start (front ++ between)) name c r (history_after start whole)
      → Replied (at start name front) c r (at start name whole)
  replied (call.AttachTag alloc lane tag) (reply.AttachTag (Ok g)) h = (holds _ _ _ h.0, tt)
  replied (call.AttachTag alloc lane tag) (reply.AttachTag (Err e)) h = (tt, fails h.1)
  replied (call.CreateMap alloc map tag first_done) (reply.CreateMap (Ok g)) h = (holds _ _ _ h.0, tt)
  replied (call.CreateMap alloc map tag first_done) (reply.CreateMap (Err e)) h = (tt, fails h.1)
  replied (call.DestroyMap map zone) reply.DestroyMap h = holds _ _ _ h
  replied (call.Grab alloc map zone need nowait) (reply.Grab (Ok g)) h = (holds _ _ _ h.0, tt)
  replied (call.Grab alloc map zone need nowait) (reply.Grab (Err e)) h = (tt, fails h.1)
  replied (call.Release map zone page) (reply.Release moved) h = holds _ _ _ h
  replied (call.TakeCallback lane) (reply.TakeCallback None) h = misses _ h
  replied (call.TakeCallback lane) (reply.TakeCallback (Some c)) h = holds _ _ _ h
  replied (call.MemAlloc alloc mem tag) (reply.MemAlloc (Ok g)) h = ((holds _ _ _ h.0.0, h.0.1), tt)
  replied (call.MemAlloc alloc mem tag) (reply.MemAlloc (Err e)) h = (tt, fails h.1)
  replied (call.MemFree mem pages) reply.MemFree h = holds _ _ _ h
  replied _ _ h = absurd h

Some-inj : {A : Type 0} (d : A) (x y : A) → Some x ≡ Some y → x ≡ y
Some-inj d x y e = ap (λ o. unwrap_or o d) e

-- a turn of the pass is a reply at its door
pub turn_replied : (old new : LanePass) (c : DoorCall) (r : DoorReply) → HasTurn IsOfName Answers old c r new
    → IsSoundPass IsLegalHistory IsOfName new → Replied (seen old) c r (seen new)
turn_replied old new c r t s =
    let again : new.start ≡ Some t.start = ap (λ (p : LanePass). p.start) t.rest ∙ t.started in
    let same : s.start ≡ t.start = Some-inj t.start s.start t.start (sym s.started ∙ again) in
    let named : new.name ≡ old.name = ap (λ (p : LanePass). p.name) t.rest in
    let sound : IsLawful IsLegalHistory IsOfName t.start new.front =
    subst (λ b. IsLawful IsLegalHistory IsOfName b new.front) same s.front in
    let here =
    replied t.start old.name old.front t.between new.front (
      turns_of old.name t.gain,
      sym t.front,
    ) t.others sound c r t.answered in
    subst (λ (x : Seen × Seen). Replied x.0 c r x.1)
    (λ i. (seen_from (sym t.started i) old.name old.front, seen_from (sym again i) (sym named i) new.front)) here
