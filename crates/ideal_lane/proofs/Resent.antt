-- Each send is loaded at most once by its operation, and at most once again by its resend.
use Rattle.std.proofs.Common.{◌≡◌, ℕ, ◌+◌, ◌≤◌, ◌==◌, Bool, true, false, if◌then◌else◌, List, [], ◌∷◌, Option, Some}
use Rattle.std.proofs.Common.{None}
use Rattle.std.proofs.Common.{ap, sym, ◌∙◌, subst, arith, nat_le}
use Rattle.std.proofs.lemmas.Bool.Decides.{nat_tests}
use Rattle.std.proofs.lemmas.List.Sums.{sum_by-cons}
use Rattle.std.specs.Option.{option_and_then}
use Rattle.busdma_machine.specs.declared.bounce.hold.HubCall.{HubCall}
use Rattle.busdma_machine.specs.declared.bounce.hold.HubReply.{HubReply}
use Rattle.busdma_base.specs.declared.journals.journal.Did.{Did}
use Rattle.busdma_base.specs.declared.journals.journal.Side.{Side}
use Rattle.busdma_base.specs.declared.scenarios.scenario.Driver.{Driver}
use Rattle.ideal_lane.specs.Asking.{by_reply}
use Rattle.ideal_lane.specs.Callbacks.{IsRun, MadeStep as Made}
use Rattle.ideal_lane.specs.Opening.{opening_lane}
use Rattle.ideal_lane.specs.Resends.{turn_does, is_operation, is_resend, times_done_in_run}
use Rattle.ideal_lane.specs.Sends.{Send, due_send, send_at, send_of}
use Rattle.ideal_lane.specs.State.{LaneState}
use Rattle.ideal_lane.specs.Turns.{Turned, lane_step}
use Rattle.ideal_lane.proofs.DueLaws.{Spares, big-spares, called-spares, touches-spare}
use Rattle.ideal_lane.proofs.Effects.{Advances, Calls, Declines, Keeps, Leaves, NothingLeft, Releases, Resends, Stays}
use Rattle.ideal_lane.proofs.Effects.{Steps}
use Rattle.ideal_lane.proofs.Stepping.{turn-steps}

abbrev one : Bool → ℕ
one b = if b then 1 else 0

module _ (p : ℕ) where
  -- the operation at p is not yet done if the script is at q, and its send may be due there
  abbrev to_do : Option Send → ℕ → ℕ
  to_do None q = one (nat_le q p)
  to_do (Some s) q = one (nat_le (q + 1) p)

  abbrev operation_left : LaneState → ℕ
  operation_left l = to_do (due_send l) l.place

  -- the resend of the send at p is not yet done
  abbrev resend_left : LaneState → ℕ
  resend_left l = one (nat_le l.place p)

  place-count : (q : ℕ) → one (nat_le (q + 1) p) + one (q == p) ≡ one (nat_le q p)
  place-count q = grind (arith, nat_tests)

  module _ (l : LaneState) where
    abbrev OperationSettles : Turned → Type 0
    OperationSettles t = operation_left t.lane + turn_does (is_operation p) t.turn ≤ operation_left l

    abbrev ResendSettles : Turned → Type 0
    ResendSettles t = resend_left t.lane + turn_does (is_resend p) t.turn ≤ resend_left l

    is-due : (q : Option Send) → due_send l ≡ q → operation_left l ≡ to_do q l.place
    is-due q e = ap (λ y. to_do y l.place) e

    spared-operation : (n : LaneState) → Spares l n → operation_left n ≡ operation_left l
    spared-operation n h =
        (λ i. to_do (if h.due i then send_at (h.script i) (h.place i) else None) (h.place i))

    spared-resend : (n : LaneState) → Spares l n → resend_left n ≡ resend_left l
    spared-resend n h = ap (λ q. one (nat_le q p)) h.place

    operation-settles : {s : Side} {c : Option HubCall} {r : HubReply} {t : Turned} → Steps l s c r t →
        OperationSettles t
    operation-settles (Stays t NothingLeft) = omega arith
    operation-settles (Stays t _) = omega arith
    operation-settles (Advances o at free m) = omega (arith, is-due None free.none, place-count l.place)
    operation-settles (Keeps {x = x} o at free s is big held m) =
        let h = big-spares l m big in
        let after : operation_left (record x.lane { due = true }) ≡ to_do (Some s) l.place =
        (λ i. to_do (send_at (h.script i) (h.place i)) (h.place i))
        ∙ ap (λ q. to_do q l.place) (ap (option_and_then send_of) at ∙ is) in
        omega (arith, after, is-due None free.none, place-count l.place)
    operation-settles (Declines s now x declined) = omega (arith, is-due (Some s) now.due)
    operation-settles (Resends s now k untold m) = omega (arith, is-due (Some s) now.due)
    operation-settles (Leaves {x = x} q rest e t) = omega (arith, spared-operation x.lane (touches-spare l t))
    operation-settles (Releases q rest e None there) = omega arith
    operation-settles (Releases q rest e (Some y) there) = omega arith
    operation-settles (Calls {x = x} m pages k) = omega (arith, spared-operation x.lane (called-spares l k))

    resend-settles : {s : Side} {c : Option HubCall} {r : HubReply} {t : Turned} → Steps l s c r t → ResendSettles t
    resend-settles (Stays t NothingLeft) = omega arith
    resend-settles (Stays t _) = omega arith
    resend-settles (Advances o at free m) = omega (arith, place-count l.place)
    resend-settles (Keeps {x = x} o at free s is big held m) = omega (arith, spared-resend x.lane (big-spares l m big))
    resend-settles (Declines s now x declined) = omega (arith, place-count l.place)
    resend-settles (Resends s now k untold m) = omega (arith, place-count l.place)
    resend-settles (Leaves {x = x} q rest e t) = omega (arith, spared-resend x.lane (touches-spare l t))
    resend-settles (Releases q rest e None there) = omega arith
    resend-settles (Releases q rest e (Some y) there) = omega arith
    resend-settles (Calls {x = x} m pages k) = omega (arith, spared-resend x.lane (called-spares l k))

-- if each turn does a thing only as often as it makes it less left, a run does it at most as often as it is left at the
-- beginning
module _ (chosen : Did → Bool) (left : LaneState → ℕ)
    (settles : (l : LaneState) (s : Side) (r : HubReply) →
    left (by_reply (lane_step l s) r).lane + turn_does chosen (by_reply (lane_step l s) r).turn ≤ left l) where
  run-settles : (l : LaneState) (ms : List Made) → IsRun l ms → times_done_in_run chosen ms ≤ left l
  run-settles l [] h = omega arith
  run-settles l (m ∷ ms) h =
      let step : left m.turned.lane + turn_does chosen m.turned.turn ≤ left l =
      subst (λ (t : Turned). left t.lane + turn_does chosen t.turn ≤ left l) (sym h.0) (settles l m.side m.reply) in
      omega (
        arith,
        step,
        run-settles m.turned.lane ms h.1,
        sum_by-cons (λ (q : Made). turn_does chosen q.turned.turn) m ms,
      )

at-most : (b : Bool) → one b ≤ 1
at-most true = omega arith
at-most false = omega arith

pub operation-once : (p id maxmem : ℕ) (driver : Driver) (ms : List Made) → IsRun (opening_lane id maxmem driver) ms →
    times_done_in_run (is_operation p) ms ≤ 1
operation-once p id maxmem driver ms h =
    omega (
      arith,
      run-settles (is_operation p) (operation_left p) (λ l s r. operation-settles p l (turn-steps l s r))
          (opening_lane id maxmem driver) ms h,
      at-most (nat_le 0 p),
    )

pub resend-once : (p id maxmem : ℕ) (driver : Driver) (ms : List Made) → IsRun (opening_lane id maxmem driver) ms →
    times_done_in_run (is_resend p) ms ≤ 1
resend-once p id maxmem driver ms h =
    omega (
      arith,
      run-settles (is_resend p) (resend_left p) (λ l s r. resend-settles p l (turn-steps l s r))
          (opening_lane id maxmem driver) ms h,
      at-most (nat_le 0 p),
    )
