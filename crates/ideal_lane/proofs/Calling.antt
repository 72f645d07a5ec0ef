-- The callback of each load is called at most once.
use Rattle.std.proofs.Common.{◌≡◌, ℕ, ◌+◌, ◌≤◌, ◌==◌, ◌&&◌, not, Bool, true, false, if◌then◌else◌, List, [], ◌∷◌}
use Rattle.std.proofs.Common.{Option}
use Rattle.std.proofs.Common.{Some, None, refl, ap, sym, ◌∙◌, subst, arith, nat_le, slice_get}
use Rattle.std.proofs.lemmas.Bool.Decides.{nat_tests}
use Rattle.std.specs.FinMap.{get, insert}
use Rattle.std.specs.Option.{option_and_then}
use Rattle.busdma_machine.specs.declared.bounce.hold.HubCall.TheVariants as call
use Rattle.busdma_machine.specs.declared.bounce.hold.HubReply.{HubReply}
use Rattle.busdma_machine.specs.declared.bounce.hold.HubReply.TheVariants as reply
use Rattle.busdma_base.specs.declared.journals.journal.Side.{Side}
use Rattle.lane_agreement.specs.View as view
use Rattle.busdma_base.specs.declared.scenarios.queued.QueuedItem.{QueuedItem}
use Rattle.ideal_lane.specs.State.{LaneState, LaneMap, Stage, Idle, Waiting, Loaded, Returning}
use Rattle.ideal_lane.specs.Asking.{Asking, Gives, Asks, by_reply}
use Rattle.ideal_lane.specs.Callbacks.{ends, is_load, awaits, awaited}
use Rattle.ideal_lane.specs.Callbacks.{turn_calls, MadeStep}
use Rattle.ideal_lane.specs.Callbacks.{IsRun, times_called_in_run}
use Rattle.ideal_lane.specs.Outcomes.{Outcome}
use Rattle.ideal_lane.specs.Standing.{Stands, KeepsStanding}
use Rattle.ideal_lane.specs.Loads.{load, emptied}
use Rattle.ideal_lane.specs.Unloads.{pages_of, after_return}
use Rattle.ideal_lane.specs.Sends.{Send, copied, is_kept, is_too_big, send_at, send_of}
use Rattle.ideal_lane.specs.Turns.{Turned, advanced, left_queue, lane_step, resent}
use Rattle.ideal_lane.specs.Opening.{opening_lane}
use Rattle.ideal_lane.proofs.Effects.{Declines, Keeps, Resends}
use Rattle.ideal_lane.proofs.Effects.{Advances, Callback, Called, Calls, Creates, Frees, Ends, IsUnwaited}
use Rattle.ideal_lane.proofs.Effects.{IsUnwaiting, Leaves, Loads, Makes, Maps, NothingLeft, Overflows, Places}
use Rattle.ideal_lane.proofs.Effects.{Refuses, Releases, Same, Stays, Steps, Touched, Touches, Unloads, Unmaps}
use Rattle.ideal_lane.proofs.Effects.{Unwaited, Vain, Waits, Work, asked_in, chunks_in, map_in, pages_in}
use Rattle.ideal_lane.proofs.Effects.{place_in, there_in, waits_for, was_in}
use Rattle.ideal_lane.proofs.Stepping.{turn-steps}
use Rattle.ideal_lane.proofs.Endings.{fitting, too_big, bounced_in, segments_of}
use Rattle.ideal_lane.proofs.OpeningLaws.{opens-standing}
use Rattle.ideal_lane.proofs.StandingLaws.{turn-stands}
use Rattle.ideal_lane.proofs.Weights.{weigh, weigh-new, weigh-put, weigh-cut, weigh-empty}
use Rattle.busdma_machine.specs.declared.bounce.hold.HubCall.{HubCall}
use Rattle.busdma_machine.specs.declared.name.MapId.{MapId}
use Rattle.busdma_machine.specs.declared.machine.address.Pa.{Pa}

abbrev one : Bool → ℕ
one b = if b then 1 else 0

module _ (p : ℕ) where
  -- a map whose load at p waits
  abbrev w : LaneMap → ℕ
  w o = one (awaits p o.stage)

  -- the callback of the load at p is still to be called: the load is not yet reached, or a map waits with it
  abbrev owed : LaneState → ℕ
  owed l = one (nat_le l.place p) + weigh w l.maps

  empty-stage : (ps : List ℕ) → one (awaits p (emptied ps)) ≡ 0
  empty-stage [] = refl
  empty-stage (q ∷ ps) = refl

  module _ (l : LaneState) where
    -- the maps that wait with the load, and its callback if the answer ends it, are at most the maps that waited before
    -- and `here`
    record Paid (here : ℕ) (o : Outcome) : Type 0 where
      low : weigh w o.lane.maps + (if ends o.answer then here else 0) ≤ weigh w l.maps + here
      place : o.lane.place ≡ l.place

    few : (b : Bool) (here : ℕ) → (if b then here else 0) ≤ here
    few true here = omega arith
    few false here = omega arith

    -- no more maps wait with the load than before
    no-more : {here : ℕ} (o : Outcome) → weigh w o.lane.maps ≤ weigh w l.maps → o.lane.place ≡ l.place → Paid here o
    no-more {here} o h e = record { low = omega (arith, h, few (ends o.answer) here); place = e }

    -- a map that waits with nothing is put in place of another or of none
    put-free : (k : ℕ) (o n : LaneMap) → get l.maps k ≡ Some o → w n ≡ 0 →
        weigh w (insert l.maps k n) + w o ≡ weigh w l.maps
    put-free k o n e z = omega (arith, z, weigh-put w l.maps k o n e)

    unpaged-free : (m : ℕ) (o : LaneMap) (pages : List ℕ) → get l.maps m ≡ Some o →
        weigh w (insert l.maps m (record o { tried = true; stage = emptied pages })) + w o ≡ weigh w l.maps
    unpaged-free m o pages e =
        put-free m o (record o { tried = true; stage = emptied pages }) e (empty-stage pages)

    new-free : get l.maps l.place ≡ None → (t : ℕ) (zone : Option ℕ) →
        weigh w (insert l.maps l.place (record { tag = t; zone = zone; tried = false; stage = Idle })) ≡ weigh w l.maps
    new-free e t zone =
        omega (arith, weigh-new w l.maps l.place (record { tag = t; zone = zone; tried = false; stage = Idle }) e)

    -- a load that has its pages no longer waits
    module _ {d : Work} {c : Option HubCall} {r : HubReply} (k : Ends l d c r) where
      loaded-free :
          weigh w (fitting l (map_in k) (was_in k) (place_in k) (asked_in k) (chunks_in k) (pages_in k)).lane.maps
          + w (was_in k) ≡ weigh w l.maps
      loaded-free =
          put-free (map_in k) (was_in k) (record (was_in k) {
            tried = true;
            stage = Loaded (bounced_in l (map_in k) (was_in k) (place_in k) (asked_in k) (chunks_in k) (pages_in k))
                (segments_of l (map_in k) (was_in k) (place_in k) (asked_in k) (chunks_in k) (pages_in k)) (pages_in k);
          }) (there_in k) refl

      overflown-free :
          weigh w (too_big l (map_in k) (was_in k) (place_in k) (asked_in k) (chunks_in k) (pages_in k)).lane.maps
          + w (was_in k) ≡ weigh w l.maps
      overflown-free = unpaged-free (map_in k) (was_in k) (pages_in k) (there_in k)

    touches-pay : {here : ℕ} {d : Work} {x : Outcome} → Touches l d x → Paid here x
    touches-pay {x = x} (Same a q u) = no-more x (omega arith) refl
    touches-pay {x = x} _ = no-more x (omega arith) refl

    -- a load that waits owes its callback from now on
    pays : {here : ℕ} {d : Work} {c : Option HubCall} {r : HubReply} {x : Outcome} → get l.maps l.place ≡ None →
        one (l.place == p) ≤ here → Makes l d c r x → Paid here x
    pays none owes (Touched t) = touches-pay t
    pays {x = x} none owes (Maps name t g e b) = no-more x (omega (arith, new-free none t None)) refl
    pays {x = x} none owes (Creates name t g e b n m) =
        no-more x (omega (arith, new-free none t (Some n.zone.0))) refl
    pays {x = x} none owes (Places name t flags g e first count) =
        no-more x (omega (arith, new-free none t None)) refl
    pays {x = x} none owes (Unmaps m o e i) = no-more x (weigh-cut w l.maps m o e) refl
    pays {x = x} none owes (Frees m y e o f i) = no-more x (weigh-cut w l.maps m o f) refl
    pays {x = x} none owes (Refuses b over e) = no-more x (omega (arith, unpaged-free b.m b.o [] b.there)) refl
    pays none owes (Waits b plain some have) = record {
      low =
          omega (
            arith,
            owes,
            weigh-put w l.maps b.m b.o (record b.o { tried = true; stage = Waiting (waits_for b) })
                b.there,
          );
      place = refl;
    }
    pays {x = x} none owes (Loads k e) = no-more x (omega (arith, loaded-free k)) refl
    pays {x = x} none owes (Overflows k e) = no-more x (omega (arith, overflown-free k)) refl
    pays {x = x} none owes (Unloads m o e i) = no-more x (omega (arith, unpaged-free m o (pages_of o.stage) e)) refl
    pays {x = x} none owes _ = no-more x (omega arith) refl

    -- a load with too many segments leaves no more maps that wait
    pays-big : {d : Work} {c : Option HubCall} {r : HubReply} {x : Outcome} → Makes l d c r x →
        is_too_big x.answer ≡ true → Paid 0 x
    pays-big (Touched t) big = touches-pay t
    pays-big {x = x} (Vain v a u) big = no-more x (omega arith) refl
    pays-big {x = x} (Refuses b over e) big = no-more x (omega (arith, unpaged-free b.m b.o [] b.there)) refl
    pays-big {x = x} (Overflows k e) big = no-more x (omega (arith, overflown-free k)) refl
    pays-big _ big = absurd (cc)

  -- ---- turns

  -- a turn calls at most what was owed before it and no longer is
  abbrev Settles : LaneState → Turned → Type 0
  Settles l t = owed t.lane + turn_calls p l t.turn ≤ owed l

  module _ (l : LaneState) (s : Stands l) where
    place-count : one (nat_le (l.place + 1) p) + one (l.place == p) ≡ one (nat_le l.place p)
    place-count = grind (arith, nat_tests)

    few-calls : (b load ends_it held : Bool) →
        one (b && (load && (ends_it && not held))) ≤ (if ends_it then one b else 0)
    few-calls true true true true = omega arith
    few-calls true true true false = omega arith
    few-calls true true false held = omega arith
    few-calls true false true held = omega arith
    few-calls true false false held = omega arith
    few-calls false load true held = omega arith
    few-calls false load false held = omega arith

    -- a callback that is kept is not called
    none-called : (b load ends_it held : Bool) → held ≡ true → one (b && (load && (ends_it && not held))) ≡ 0
    none-called true true true true e = refl
    none-called true true true false e = absurd (cc)
    none-called true true false held e = refl
    none-called true false ends_it held e = refl
    none-called false load ends_it held e = refl

    -- a resend calls the callback at most once, if its answer ends the load
    few-ends : (b ends_it : Bool) → one (b && ends_it) ≤ (if ends_it then one b else 0)
    few-ends true true = omega arith
    few-ends true false = omega arith
    few-ends false true = omega arith
    few-ends false false = omega arith

    none-ends : (b : Bool) → one (b && false) ≡ 0
    none-ends true = refl
    none-ends false = refl

    over-operation : (o : Outcome) → Paid l (one (l.place == p)) o → Settles l (advanced l.place o)
    over-operation o paid =
        omega (
          arith,
          paid.low,
          place-count,
          few-calls (l.place == p) (is_load (slice_get l.script l.place)) (ends o.answer)
              (is_kept (send_at l.script l.place) o.answer),
        )

    over-resend : (d : Send) (o : Outcome) → Paid (copied d l) (one (l.place == p)) o → Settles l (resent l.place o)
    over-resend d o paid =
        let low : weigh w o.lane.maps + (if ends o.answer then one (l.place == p) else 0)
        ≤ weigh w l.maps + one (l.place == p) = paid.low in
        omega (arith, low, place-count, few-ends (l.place == p) (ends o.answer))

    over-item : (q : QueuedItem) (rest : List QueuedItem) (o : Outcome) → Paid l 0 o → Settles l (left_queue q rest o)
    over-item q rest o paid =
        let at : one (nat_le o.lane.place p) ≡ one (nat_le l.place p) = ap (λ n. one (nat_le n p)) paid.place in
        omega (arith, paid.low, at)

    -- a callback that finds no load that waits calls nothing
    unwaiting : (s : Stage) → IsUnwaiting s → one (awaits p s) ≡ 0
    unwaiting (Waiting v) u = absurd u
    unwaiting _ u = refl

    unwaited : (y : Option LaneMap) → IsUnwaited y → one (awaited p y) ≡ 0
    unwaited None u = refl
    unwaited (Some o) u = unwaiting o.stage u

    over-callback : {n m : MapId} {pages : List Pa} {x : Outcome} →
        Makes l (Callback n) (Some call.TakeCallback) (reply.Called m pages) x →
        owed x.lane + one (awaited p (get l.maps m.made_at)) ≤ owed l
    over-callback (Vain (Unwaited m pages u) a q) = omega (arith, unwaited (get l.maps m.made_at) u)
    over-callback (Refuses b over e) = elim over [ ]
    over-callback (Loads (Called m pages o v e it) fit) =
        omega (arith, loaded-free l (Called m pages o v e it), ap (λ y. one (awaited p y)) e)
    over-callback (Overflows (Called m pages o v e it) fit) =
        omega (arith, overflown-free l (Called m pages o v e it), ap (λ y. one (awaited p y)) e)

    bare : (b : Bool) → one (awaits p (if b then Idle else Returning)) ≡ 0
    bare true = refl
    bare false = refl

    steps-settle : {d : Side} {c : Option HubCall} {r : HubReply} {t : Turned} → Steps l d c r t → Settles l t
    steps-settle (Stays t NothingLeft) = omega arith
    steps-settle (Stays t _) = omega arith
    steps-settle (Advances {x = x} o at free m) =
        over-operation x (pays l (s.no_map l.place (omega arith)) (omega arith) m)
    steps-settle (Keeps {x = x} o at free d is big held m) =
        let paid = pays-big l m big in
        let there : one (nat_le x.lane.place p) ≡ one (nat_le l.place p) = ap (λ n. one (nat_le n p)) paid.place in
        let is_held : is_kept (send_at l.script l.place) x.answer ≡ true =
        ap (λ q. is_kept q x.answer) (ap (option_and_then send_of) at ∙ is) ∙ big in
        omega (
          arith,
          paid.low,
          there,
          none-called (l.place == p) (is_load (slice_get l.script l.place)) (ends x.answer)
              (is_kept (send_at l.script l.place) x.answer) is_held,
        )
    steps-settle (Declines d now x declined) = omega (arith, place-count, none-ends (l.place == p))
    steps-settle (Resends {x = x} d now k untold m) =
        over-resend d x (pays (copied d l) (s.no_map l.place (omega arith)) (omega arith) m)
    steps-settle (Leaves {x = x} q rest e t) = over-item q rest x (touches-pay l t)
    steps-settle (Releases q rest e None there) = omega arith
    steps-settle (Releases q rest e (Some o) there) =
        omega (
          arith,
          put-free l q.map o (record o { stage = after_return q.map rest }) there
              (bare (view.returning q.map rest == 0)),
        )
    steps-settle (Calls m pages k) = over-callback k

    settles : (d : Side) (r : HubReply) → Settles l (by_reply (lane_step l d) r)
    settles d r = steps-settle (turn-steps l d r)

  stands-on : (x : Asking Turned) (r : HubReply) → KeepsStanding x → Stands (by_reply x r).lane
  stands-on (Gives t) r h = h
  stands-on (Asks c k) r h = h r

  -- a run calls at most what is owed at its beginning
  run-settles : (l : LaneState) (ms : List MadeStep) → Stands l → IsRun l ms → times_called_in_run p l ms ≤ owed l
  run-settles l [] s h = omega arith
  run-settles l (m ∷ ms) s h =
      let step : owed m.turned.lane + turn_calls p l m.turned.turn ≤ owed l =
      subst (Settles l) (sym h.0) (settles l s m.side m.reply) in
      let on : Stands m.turned.lane =
      subst (λ (t : Turned). Stands t.lane) (sym h.0)
      (stands-on (lane_step l m.side) m.reply (turn-stands l m.side s)) in
      omega (arith, step, run-settles m.turned.lane ms on h.1)

  at-most : (b : Bool) → one b ≤ 1
  at-most true = omega arith
  at-most false = omega arith

-- from the opening of a driver on, each callback is called at most once
pub called-once : (p id maxmem : ℕ) (driver : _) (ms : List MadeStep) → IsRun (opening_lane id maxmem driver) ms →
    times_called_in_run p (opening_lane id maxmem driver) ms ≤ 1
called-once p id maxmem driver ms h =
    omega (
      arith,
      run-settles p (opening_lane id maxmem driver) ms (opens-standing id maxmem driver) h,
      at-most p (nat_le 0 p),
      weigh-empty (w p),
    )
