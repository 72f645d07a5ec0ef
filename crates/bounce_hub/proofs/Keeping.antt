-- A hub after a call: one more entry, and nobody in between.
use Rattle.std.proofs.Common.{◌≡◌, ℕ, ◌+◌, ◌<◌, ◌≤◌, ◌^◌, true, false, List, [], ◌∷◌, ◌++◌, length, refl, sym, ap}
use Rattle.std.proofs.Common.{subst, arith}
use Rattle.std.proofs.lemmas.List.{length-append, append-nil}
use Rattle.std.proofs.lemmas.List.Elements.{All-nil}
use Rattle.busdma_machine.specs.declared.bounce.hold.HubCall.{HubCall}
use Rattle.busdma_machine.specs.declared.bounce.hold.HubReply.{HubReply}
use Rattle.busdma_machine.specs.declared.bounce.hold.HoldEntry.{HoldEntry}
use Rattle.busdma_machine.specs.Bounce.Account.{Account}
use Rattle.busdma_machine.specs.Bounce.Conditions.{MayCall}
use Rattle.busdma_machine.specs.Bounce.Door.{Allows, Passes, HoldsAtDoor}
use Rattle.busdma_machine.specs.Bounce.History.{IsOpening, IsSound, IsSoundEntry}
use Rattle.busdma_machine.specs.Bounce.History.{is_entry, account_of, after_entry}
use Rattle.busdma_machine.proofs.Accounts.Places.{places-bank, times-rising, total-stays}
use Rattle.busdma_machine.proofs.Accounts.WellFormed.{account-well}
use Rattle.bounce_hub.specs.declared.pool.Pool.{Pool}
use Rattle.bounce_hub.specs.Pools.{PoolAgrees, Fits, Allowed, Stepped, Steps}
use Rattle.bounce_hub.specs.Seen.{HubSeen, IsKept, door}
use Rattle.bounce_hub.proofs.Deferrals.{deferrals-few}

-- the account after one more entry
account_of-push : (a : Account) (es : List HoldEntry) (e : HoldEntry) →
    account_of a (es ++ e ∷ []) ≡ after_entry e (account_of a es)
account_of-push a [] e = refl
account_of-push a (x ∷ xs) e = account_of-push (after_entry x a) xs e

IsSound-push : (a : Account) (es : List HoldEntry) (e : HoldEntry) → IsSound a es →
    IsSoundEntry e (account_of a es) → IsSound a (es ++ e ∷ [])
IsSound-push a [] e s t = (t, tt)
IsSound-push a (x ∷ xs) e s t = (s.0, IsSound-push (after_entry x a) xs e s.1 t)

abbrev pub own : ℕ → HubCall → HubReply → HoldEntry
own lane c r = record { lane = record { 0 = lane }; call = c; reply = r }

-- what the pool's calls can rely on
pub fits-of : (o : Account) (h : List HoldEntry) (p : Pool) (capacity : ℕ) → length h < 2 ^ 63 →
    IsKept o h p capacity → Fits p (account_of o h)
fits-of o h p capacity few kept = record {
  well = account-well o h kept.form kept.sound;
  apart = λ f. omega (arith, places-bank f o h kept.form kept.sound, times-rising f o.bank kept.form.rising);
  few = omega (arith, total-stays o h kept.form kept.sound, kept.form.few);
  deferrals = omega (arith, deferrals-few o h kept.form, few);
  room = omega (arith, total-stays o h kept.form kept.sound, kept.frames);
}

-- what a lane may do, if the hub's value is these fields
pub may-inside : (h : HubSeen) (o : Account) (es : List HoldEntry) (lane : ℕ) (c : HubCall) →
    record { opening = o; history = es } ≡ h → Allows (door h) lane c → MayCall lane c (account_of o es)
may-inside h o es lane c is may =
    subst (λ (k : HubSeen). MayCall lane c (account_of k.opening k.history)) (sym is) may.may

pub allowed-of : (h : HubSeen) (o : Account) (es : List HoldEntry) (p : Pool) (capacity lane : ℕ) (c : HubCall) →
    length es < 2 ^ 63 → record { opening = o; history = es } ≡ h → Allows (door h) lane c →
    IsKept o es p capacity → Allowed p lane c
allowed-of h o es p capacity lane c few is may kept = record {
  account = account_of o es;
  agrees = kept.agrees;
  fits = fits-of o es p capacity few kept;
  may = may-inside h o es lane c is may;
}

pub stepped-of : (h : HubSeen) (o : Account) (es : List HoldEntry) (p q : Pool) (capacity lane : ℕ) (c : HubCall)
    (r : HubReply) → length es < 2 ^ 63 → record { opening = o; history = es } ≡ h →
    Allows (door h) lane c → IsKept o es p capacity
    → Steps p lane c r q → Stepped p lane c r (account_of o es) q
stepped-of h o es p q capacity lane c r few is may kept steps =
    steps (account_of o es) kept.agrees (fits-of o es p capacity few kept) (may-inside h o es lane c is may)

-- one more entry
pub kept-push : (o : Account) (es fs : List HoldEntry) (p q : Pool)
    (capacity room lane : ℕ) (c : HubCall) (r : HubReply)
    → IsKept o es p capacity → MayCall lane c (account_of o es) → is_entry c r ≡ true →
    Stepped p lane c r (account_of o es) q → fs ≡ es ++ own lane c r ∷ [] → length es + 1 + q.owed ≤ room
    → IsKept o fs q room
kept-push o es fs p q capacity room lane c r kept may noted stepped grows fits = record {
  form = kept.form;
  sound =
      subst (IsSound o) (sym grows) (IsSound-push o es (own lane c r) kept.sound
      (record { may = may; kept = noted; reply = stepped.reply }));
  agrees =
      subst (λ hs. PoolAgrees q (account_of o hs)) (sym grows)
      (subst (PoolAgrees q) (sym (account_of-push o es (own lane c r))) stepped.agrees);
  frames = omega (arith, kept.frames, stepped.room);
  room = omega (arith, fits, ap (λ (hs : List HoldEntry). length hs) grows, length-append es (own lane c r ∷ []));
}

-- a hub lets nobody in between
passes-none : (v : HubSeen) → IsOpening v.opening → IsSound v.opening v.history → Passes (door v) [] (door v)
passes-none v form sound =
    record {
      opening = refl;
      form = form;
      serves = refl;
      apart = All-nil (λ (e : HoldEntry). true ≡ false);
      history = sym (append-nil v.history);
      sound = sound;
    }

pub holds-own : (h : HubSeen) (o : Account) (es fs : List HoldEntry) (p q : Pool)
    (capacity room lane : ℕ) (c : HubCall) (r : HubReply)
    → record { opening = o; history = es } ≡ h → IsKept o es p capacity → Stepped p lane c r (account_of o es) q →
    fs ≡ es ++ own lane c r ∷ [] → IsKept o fs q room
    → HoldsAtDoor (door h) lane c r (door (record { opening = o; history = fs }))
holds-own h o es fs p q capacity room lane c r is kept stepped grows later =
    let v : HubSeen = record { opening = o; history = es } in
    subst (λ k. HoldsAtDoor (door k) lane c r (door (record { opening = o; history = fs }))) is (record {
      between = door v;
      others = [];
      passes = passes-none v kept.form kept.sound;
      reply = stepped.reply;
      opening = refl;
      serves = refl;
      history = grows;
      sound = later.sound;
    })
