-- What is known of a step at a door, by what the step is.
use Rattle.std.proofs.Common.{◌≡◌, ℕ, true, false, Option, Some, None, Result, Ok, Err, IfNone, IfOk, OnOk, OnErr}
use Rattle.std.proofs.Common.{refl, ap, sym, subst}
use Rattle.busdma_machine.specs.declared.bounce.hold.HubCall.{HubCall}
use Rattle.busdma_machine.specs.declared.bounce.hold.HubReply.{HubReply}
use Rattle.busdma_machine.specs.Bounce.Door.{Seen, Allows}
use Rattle.ideal_lane.specs.Asking.{Asking, Gives, Asks}
use Rattle.lane_state.specs.Doing.{IsAllowedBy, IsCalled, IsDone, asks}

module _ {X : Type 0} (d : Seen) (lane : ℕ) (step : Asking X) where
  -- a step without a call
  pub done-gives : (x : X) → step ≡ Gives x → IsDone d lane step x d
  done-gives x is = subst (λ s. IsDone d lane s x d) (sym is) (refl, refl)

  -- a step with a call
  pub done-asks : (c : HubCall) (k : HubReply → X) (x : X) (e : Seen) → step ≡ Asks c k →
      IsCalled d lane c k x e → IsDone d lane step x e
  done-asks c k x e is called = subst (λ s. IsDone d lane s x e) (sym is) called

  pub allowed-asks : (c : HubCall) (k : HubReply → X) → step ≡ Asks c k → IsAllowedBy d lane step → Allows d lane c
  allowed-asks c k is allowed = let P : Asking X → Type 0 = λ s. IsAllowedBy d lane s in subst P is allowed

-- whether a step makes a call, by what the step is
pub unasked : {X : Type 0} (step : Asking X) (x : X) → step ≡ Gives x → false ≡ asks step
unasked step x is = sym (ap asks is)

pub asked : {X : Type 0} (step : Asking X) (c : HubCall) (k : HubReply → X) → step ≡ Asks c k → true ≡ asks step
asked step c k is = sym (ap asks is)

-- a fact follows for a value that was made
pub ok-weak : {T E P Q : Type 0} (r : Result T E) → (P → Q) → OnOk r P → OnOk r Q
ok-weak (Ok x) f h = f h
ok-weak (Err e) f h = tt

-- what follows for a value that was made
pub ok-map : {T E : Type 0} (r : Result T E) (P Q : T → Type 0) → ((x : T) → P x → Q x) → IfOk r P → IfOk r Q
ok-map (Ok x) P Q f h = f x h
ok-map (Err e) P Q f h = h

-- a fact follows if memory ran out
pub err-map : {T E P Q : Type 0} (r : Result T E) → (P → Q) → OnErr r P → OnErr r Q
err-map (Ok x) f h = tt
err-map (Err e) f h = f h

-- what holds in any case holds if memory ran out
pub on-err : {T E P : Type 0} (r : Result T E) → P → OnErr r P
on-err (Ok x) p = tt
on-err (Err e) p = p

-- what holds in any case holds if a value was made
pub always-ok : {T E P : Type 0} (r : Result T E) → P → OnOk r P
always-ok (Ok x) h = h
always-ok (Err e) h = tt

-- what holds in any case holds if there is nothing
pub on-none : {T P : Type 0} (o : Option T) → P → IfNone o P
on-none None p = p
on-none (Some x) p = tt
