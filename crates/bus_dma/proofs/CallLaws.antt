-- How a call follows from its parts.
use Rattle.std.proofs.Common.{◌≡◌, ◌⊎◌, Bool, true, false, Option, Some, None, Result, Ok, Err, IfOk, IfErr, OnErr, OnOk}
use Rattle.std.proofs.Common.{refl, sym, ap, ◌∙◌, subst, inl, inr, if◌then◌else◌}
use Rattle.busdma_base.specs.declared.journals.answer.Answer.{Answer}
use Rattle.busdma_base.specs.declared.scenarios.script.Op.{Op}
use Rattle.busdma_machine.specs.declared.bounce.hold.HubReply.{HubReply}
use Rattle.busdma_machine.specs.declared.name.MapId.{MapId}
use Rattle.busdma_machine.specs.Bounce.Door.{Seen}
use Rattle.ideal_lane.specs.Asking.{by_reply}
use Rattle.ideal_lane.specs.Outcomes.{Outcome}
use Rattle.ideal_lane.specs.State.{LaneState}
use Rattle.ideal_lane.specs.Turns.{operation}
use Rattle.lane_core.specs.Appending.{is_ready, with_next}
use Rattle.lane_state.specs.Doing.{IsDone}
use Rattle.bus_dma.specs.declared.failure.DmaError.{DmaError}
use Rattle.bus_dma.specs.declared.failure.DmaError.TheVariants.{OutOfMemory}
use Rattle.bus_dma.specs.Answers.{IsAnswer}
use Rattle.bus_dma.specs.Calls.{IsCall, IsCallAndReturn, next_step, past}
use Rattle.bus_dma.specs.declared.turns.Callback.{Callback}
use Rattle.bus_dma.specs.Callbacks.{IsCallbackTaken, IsCallbackTurn}
use Rattle.bus_dma.specs.Returns.{IsReturned, may_return}
use Rattle.bus_dma.specs.Serving.{IsCallbackServed, IsHandedOn}
use Rattle.bus_dma.specs.State.{hindrance, is_own_name}
use Rattle.bus_dma.proofs.TurnLaws.{done-reply, reply-goes}

-- a driver that nothing keeps from a call is ready
pub unhindered-ready : (on : Option MapId) (l : LaneState) → hindrance on l ≡ None → is_ready l ≡ true
unhindered-ready on l clear = by (is_own_name l on) (is_ready l) clear
  where
    by : (own ready : Bool) →
        (if own then (if ready then None else Some Rattle.bus_dma.specs.declared.failure.DmaError.TheVariants.NotReady)
        else Some (Rattle.bus_dma.specs.declared.failure.DmaError.TheVariants.Report (record {
          name = Rattle.busdma_machine.specs.declared.report.ReportName.TheVariants.Absent;
          at = 0;
        })))
        ≡ None → ready ≡ true
    by true true e = refl
    by true false e = absurd (cc)
    by false ready e = absurd (cc)

-- an error
abbrev failed : (X : Type 0) → DmaError → Result X DmaError
failed X x = Err x

err-same : (X : Type 0) {u v : DmaError} → failed X u ≡ failed X v → u ≡ v
err-same X e = cc

module _ {R : Type 0} (As : Result R DmaError → Answer → Type 0) (o : Op) (d : Seen) (l : LaneState) where
  -- a call that something keeps from being made
  pub call-kept : (h : Option DmaError) (x : DmaError) → h ≡ Some x → IsCall h As o d l (Err x) l d
  call-kept None x e = absurd (cc)
  call-kept (Some y) x e =
      let same : y ≡ x = cc in
      record { result = ap (λ (z : DmaError). Err z) (sym same); lane = refl; seen = refl }

-- a call whose operation was done, or memory ran out
pub call-performed : (o : Op) (d : Seen) (l n : LaneState) (e : Seen) (h : Option DmaError) → h ≡ None →
    (r : Result Answer DmaError) →
    IfOk r (λ a. IsDone d l.id (next_step o l) (record { lane = n; answer = a }) e) →
    OnOk r (may_return o ≡ false → is_ready n ≡ true) → IfErr r (λ x. x ≡ OutOfMemory) →
    OnErr r ((n ≡ l) ⊎ (n ≡ with_next o l)) → IsCall h IsAnswer o d l r n e
call-performed o d l n e (Some x) clear r done next ran left = absurd (cc)
call-performed o d l n e None clear (Ok a) done next ran left =
    inl (record { answer = a; done = done; result = refl; ready = next })
call-performed o d l n e None clear (Err x) done next ran left =
    inr (record { result = ap (λ (z : DmaError). Err z) ran; lane = left })

module _ {R : Type 0} (As : Result R DmaError → Answer → Type 0) (o : Op) (d : Seen) (l n : LaneState) (e : Seen) where
  -- a call that gives an error gives it also when another result is wanted of it
  pub call-fails : (h : Option DmaError) (x : DmaError) → IsCall h IsAnswer o d l (Err x) n e →
      IsCall h As o d l (Err x) n e
  call-fails (Some y) x k =
      let same : x ≡ y = err-same Answer k.result in
      record { result = ap (λ (z : DmaError). Err z) same; lane = k.lane; seen = k.seen }
  call-fails None x (inl made) = absurd made.result
  call-fails None x (inr ran) =
      let same : x ≡ OutOfMemory = err-same Answer ran.result in
      inr (record { result = ap (λ (z : DmaError). Err z) same; lane = ran.lane })

  -- a call that gives its answer, of which the result is made
  pub call-answered : (h : Option DmaError) (a : Answer) → IsCall h IsAnswer o d l (Ok a) n e →
      (r : Result R DmaError) → As r a → IsCall h As o d l r n e
  call-answered (Some y) a k r is = let off : Ok a ≡ Err y = k.result in absurd (cc)
  call-answered None a (inl made) r is =
      inl (record {
        answer = made.answer;
        done = made.done;
        result = subst (As r) made.result is;
        ready = made.ready;
      })
  call-answered None a (inr ran) r is = let off : Ok a ≡ Err OutOfMemory = ran.result in absurd (cc)

  -- a call that gives an error gives back no page
  pub return-kept : (h : Option DmaError) (x : DmaError) → IsCall h IsAnswer o d l (Err x) n e →
      IsCallAndReturn h As o d l (Err x) n e
  return-kept (Some y) x k = call-fails (Some y) x k
  return-kept None x (inl made) = absurd made.result
  return-kept None x (inr ran) =
      let same : x ≡ OutOfMemory = err-same Answer ran.result in
      inr (record { result = ap (λ (z : DmaError). Err z) same; lane = ran.lane })

  -- a call that gives its answer, and then gives pages back
  pub return-answered : (h : Option DmaError) (a : Answer) → IsCall h IsAnswer o d l (Ok a) n e →
      (m : LaneState) (f : Seen) → IsReturned n.returns e n m f → is_ready m ≡ true → (r : Result R DmaError) →
      As r a → IsCallAndReturn h As o d l r m f
  return-answered (Some y) a k m f back ready r is = let off : Ok a ≡ Err y = k.result in absurd (cc)
  return-answered None a (inl made) m f back ready r is =
      inl (record {
        between = n;
        seen = e;
        made = record {
          answer = made.answer;
          done = made.done;
          result = subst (As r) made.result is;
          ready = made.ready;
        };
        returned = back;
        ready = ready;
      })
  return-answered None a (inr ran) m f back ready r is = let off : Ok a ≡ Err OutOfMemory = ran.result in absurd (cc)

-- the answer of a call is one that its operation has
pub call-answer : (o : Op) (d : Seen) (l n : LaneState) (e : Seen) (Q : Answer → Type 0) →
    ((r : HubReply) → Q (by_reply (operation o (with_next o l)) r).answer) →
    (h : Option DmaError) (a : Answer) → IsCall h IsAnswer o d l (Ok a) n e → Q a
call-answer o d l n e Q all (Some y) a k = let off : Ok a ≡ Err y = k.result in absurd (cc)
call-answer o d l n e Q all None a (inr ran) = let off : Ok a ≡ Err OutOfMemory = ran.result in absurd (cc)
call-answer o d l n e Q all None a (inl made) =
    let by = done-reply d l.id (record { lane = n; answer = made.answer }) (next_step o l) e made.done in
    let is : made.answer ≡ (by_reply (operation o (with_next o l)) by.0).answer =
    ap (λ (x : Outcome). x.answer) (by.1 ∙ reply-goes (past l.place) (operation o (with_next o l)) by.0) in
    subst Q (sym (made.result ∙ is)) (all by.0)

-- a call by another name
pub call-renamed : {R : Type 0} (As : Result R DmaError → Answer → Type 0) (d : Seen) (l n : LaneState) (e : Seen)
    (r : Result R DmaError) {h k : Option DmaError} {o p : Op} → h ≡ k → o ≡ p → IsCall h As o d l r n e →
    IsCall k As p d l r n e
call-renamed As d l n e r {h} {k} {o} {p} hk op call =
    subst (λ o. IsCall k As o d l r n e) op (subst (λ h. IsCall h As o d l r n e) hk call)

-- a callback is taken if nothing keeps the driver from it
pub callback-taken : (h : Option DmaError) (d : Seen) (l : LaneState) (r : Result (Option Callback) DmaError)
    (n : LaneState) (e : Seen) → h ≡ None → IsCallbackTurn d l r n e → IsCallbackTaken h d l r n e
callback-taken h d l r n e clear t = subst (λ h. IsCallbackTaken h d l r n e) (sym clear) t

-- a callback that was taken, and then handed on, was served
pub callback-handed : {H : Type 0} (Handles : H → Callback → Seen → LaneState → LaneState → Seen → H → Type 0)
    (x : Option DmaError) (h k : H) (d e f : Seen) (l m n : LaneState) (callback : Option Callback)
    (r : Result Bool DmaError) → IsCallbackTaken x d l (Ok callback) m e →
    IsHandedOn Handles callback h e m r n f k → IsCallbackServed Handles x h d l r n f k
callback-handed Handles None h k d e f l m n callback r taken handed =
    record { callback = callback; between = m; seen = e; taken = taken; handed = handed }
callback-handed Handles (Some y) h k d e f l m n callback r taken handed =
    let off : Ok callback ≡ Err y = taken.result in absurd (cc)
