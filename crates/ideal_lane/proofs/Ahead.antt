-- The items in a transfer queue and those that may still join it never become more.
use Rattle.std.proofs.Common.{◌≡◌, ℕ, ◌+◌, ◌≤◌, ◌==◌, Bool, true, false, if◌then◌else◌, List, [], ◌∷◌, Option}
use Rattle.std.proofs.Common.{Some, None, refl, ap, arith, length, drop}
use Rattle.std.proofs.lemmas.List.{length-append}
use Rattle.std.specs.FinMap.{get, insert}
use Rattle.std.specs.List.{sum_by}
use Rattle.busdma_machine.specs.declared.bounce.hold.HubCall.{HubCall}
use Rattle.busdma_machine.specs.declared.bounce.hold.HubReply.{HubReply}
use Rattle.busdma_base.specs.declared.journals.journal.Side.{Side}
use Rattle.busdma_base.specs.declared.scenarios.scenario.Driver.{Driver}
use Rattle.busdma_base.specs.declared.scenarios.script.Op.{Op}
use Rattle.busdma_base.specs.Scenarios.Operations.{items_of}
use Rattle.lane_agreement.specs.View as view
use Rattle.busdma_base.specs.Scenarios.Queues.{queued_items}
use Rattle.ideal_lane.specs.State.{LaneState, LaneMap, Idle, Waiting, Loaded, Returning}
use Rattle.ideal_lane.specs.Ahead.{awaited_items, items_ahead}
use Rattle.ideal_lane.specs.Asking.{by_reply}
use Rattle.ideal_lane.specs.Loads.{emptied}
use Rattle.ideal_lane.specs.Opening.{opening_lane}
use Rattle.ideal_lane.specs.Outcomes.{Outcome}
use Rattle.ideal_lane.specs.Sends.{copied, is_too_big}
use Rattle.ideal_lane.specs.Turns.{Turned, lane_step}
use Rattle.ideal_lane.specs.Unloads.{pages_of, after_return}
use Rattle.ideal_lane.proofs.Effects.{Work, Operation, Transfer, Callback, Touches, Same, Makes, Touched, Maps, Creates}
use Rattle.ideal_lane.proofs.Effects.{Unmaps, Places, Frees}
use Rattle.ideal_lane.proofs.Effects.{Refuses, Waits, Loads, Overflows, Unloads, Ends, AtOnce, Granted, Called, Device}
use Rattle.ideal_lane.proofs.Effects.{Kicks}
use Rattle.ideal_lane.proofs.Effects.{Declines, Keeps, Resends, Vain, Steps, Stays, Advances, Leaves, Releases, Calls}
use Rattle.ideal_lane.proofs.Effects.{waits_for, map_in}
use Rattle.ideal_lane.proofs.Stepping.{turn-steps}
use Rattle.ideal_lane.proofs.Effects.{was_in, place_in, asked_in, chunks_in, pages_in, there_in}
use Rattle.ideal_lane.proofs.Falling.{queued-from, rest-of}
use Rattle.ideal_lane.proofs.Sent.{due-at, sent-items}
use Rattle.ideal_lane.proofs.Endings.{bounced_in, segments_of}
use Rattle.ideal_lane.proofs.Weights.{weigh, weigh-new, weigh-put, weigh-cut, weigh-empty}

-- the items of operations
abbrev pub items_in : List Op → ℕ
items_in os = sum_by (λ o. length (items_of o)) os

module _ (l : LaneState) where
  -- the items for which a map waits
  abbrev w : LaneMap → ℕ
  w o = awaited_items o.stage

  -- a map that does not wait is put in place of another or of none
  unwaiting-put : (k : ℕ) (o : LaneMap) → w o ≡ 0 → weigh w (insert l.maps k o) ≤ weigh w l.maps
  unwaiting-put k o z = by (get l.maps k) refl
    where
      by : (x : Option LaneMap) → get l.maps k ≡ x → weigh w (insert l.maps k o) ≤ weigh w l.maps
      by None e = omega (arith, z, weigh-new w l.maps k o e)
      by (Some y) e = omega (arith, z, weigh-put w l.maps k y o e)

  empty-stage : (ps : List ℕ) → awaited_items (emptied ps) ≡ 0
  empty-stage [] = refl
  empty-stage (p ∷ ps) = refl

  -- a driver at the same place of the same script: the items in its queue and those for which its maps wait have
  -- together grown by at most `more`, and its queue has not shrunk
  record Few (more : ℕ) (n : LaneState) : Type 0 where
    low : length n.queue + weigh w n.maps ≤ length l.queue + (weigh w l.maps + more)
    longer : length l.queue ≤ length n.queue
    script : n.script ≡ l.script
    place : n.place ≡ l.place

  -- the queue stays, and the maps wait for no more
  no-more : {more : ℕ} (n : LaneState) → weigh w n.maps ≤ weigh w l.maps → n.queue ≡ l.queue →
      n.script ≡ l.script → n.place ≡ l.place → Few more n
  no-more n h q s p =
      record { low = omega (arith, h, ap length q); longer = omega (arith, ap length q); script = s; place = p }

  -- the items that an operation has
  abbrev more_by : Work → ℕ
  more_by (Operation o) = length (items_of o)
  more_by (Transfer i) = 0
  more_by (Callback m) = 0

  -- a load that has its pages brings the items for which its map waited, or those of the operation
  brings : {d : Work} {c : Option HubCall} {r : HubReply} (k : Ends l d c r) →
      length (asked_in k).items ≤ w (was_in k) + more_by d
  brings (AtOnce b plain none) = omega (arith, ap more_by b.is)
  brings (Granted b plain some pages) = omega (arith, ap more_by b.is)
  brings (Device b device first spaces taken) = omega (arith, ap more_by b.is)
  brings (Called m pages o v e waits) =
      omega (arith, ap awaited_items waits)

  kept : {d : Work} {x : Outcome} → Touches l d x → Few 0 x.lane
  kept (Same a q u) = no-more _ (omega arith) refl refl refl
  kept _ = no-more _ (omega arith) refl refl refl

  few : {d : Work} {c : Option HubCall} {r : HubReply} {x : Outcome} → Makes l d c r x →
      Few (more_by d) x.lane
  few (Touched t) = let k = kept t in
      record { low = omega (arith, k.low); longer = k.longer; script = k.script; place = k.place }
  few (Maps name t g e b) =
      no-more _ (unwaiting-put l.place (record { tag = t; zone = None; tried = false; stage = Idle }) refl) refl refl
      refl
  few (Creates name t g e b n made) =
      no-more _ (unwaiting-put l.place (record { tag = t; zone = Some n.zone.0; tried = false; stage = Idle }) refl)
      refl refl refl
  few (Places name t flags g e first count) =
      no-more _ (unwaiting-put l.place (record { tag = t; zone = None; tried = false; stage = Idle }) refl) refl refl
      refl
  few (Unmaps m o e i) = no-more _ (weigh-cut w l.maps m o e) refl refl refl
  few (Frees m x e o f i) = no-more _ (weigh-cut w l.maps m o f) refl refl refl
  few (Refuses b over e) =
      no-more _ (unwaiting-put b.m (record b.o { tried = true; stage = Idle }) refl) refl refl refl
  few {d} (Waits b plain some have) = record {
    low =
        omega (
          arith,
          ap more_by b.is,
          weigh-put w l.maps b.m b.o (record b.o { tried = true; stage = Waiting (waits_for b) }) b.there,
        );
    longer = omega arith;
    script = refl;
    place = refl;
  }
  few (Loads k e) = record {
    low =
        omega (
          arith,
          brings k,
          queued-from (place_in k) 0 (asked_in k).items,
          length-append l.queue (queued_items (place_in k) (asked_in k).items),
          weigh-put w l.maps (map_in k) (was_in k) (record (was_in k) {
            tried = true;
            stage = Loaded (bounced_in l (map_in k) (was_in k) (place_in k) (asked_in k) (chunks_in k) (pages_in k))
                (segments_of l (map_in k) (was_in k) (place_in k) (asked_in k) (chunks_in k) (pages_in k)) (pages_in k);
          }) (there_in k),
        );
    longer = omega (arith, length-append l.queue (queued_items (place_in k) (asked_in k).items));
    script = refl;
    place = refl;
  }
  few (Overflows k e) =
      no-more _ (unwaiting-put (map_in k) (record (was_in k) { tried = true; stage = emptied (pages_in k) })
      (empty-stage (pages_in k))) refl refl refl
  few (Unloads m o e i) =
      no-more _ (unwaiting-put m (record o { tried = true; stage = emptied (pages_of o.stage) })
      (empty-stage (pages_of o.stage))) refl refl refl
  few (Kicks k steps r there) = record {
    low =
        omega (arith, queued-from l.place 0 steps, length-append l.queue (queued_items l.place steps));
    longer = omega (arith, length-append l.queue (queued_items l.place steps));
    script = refl;
    place = refl;
  }
  few _ = no-more _ (omega arith) refl refl refl

  -- a load with too many segments brings no items
  few-big : {d : Work} {c : Option HubCall} {r : HubReply} {x : Outcome} → Makes l d c r x →
      is_too_big x.answer ≡ true → Few 0 x.lane
  few-big (Touched t) big = kept t
  few-big (Vain v a u) big = no-more _ (omega arith) refl refl refl
  few-big (Refuses b over e) big =
      no-more _ (unwaiting-put b.m (record b.o { tried = true; stage = Idle }) refl) refl refl refl
  few-big (Overflows k e) big =
      no-more _ (unwaiting-put (map_in k) (record (was_in k) { tried = true; stage = emptied (pages_in k) })
      (empty-stage (pages_in k))) refl refl refl
  few-big _ big = absurd (cc)

-- ---- turns

module _ (l : LaneState) where
  -- the items in the queue and those that may still join it are no more than before
  abbrev pub IsBounded : LaneState → Type 0
  IsBounded n = items_ahead n + length n.queue ≤ items_ahead l + length l.queue

  -- what is ahead at the same place of the same script
  ahead-at : (n : LaneState) → n.script ≡ l.script → n.place ≡ l.place →
      items_ahead n ≡ items_in (drop l.place l.script) + weigh (w l) n.maps
  ahead-at n s p = (λ i. items_in (drop (p i) (s i)) + weigh (w l) n.maps)

  bare : (b : Bool) → awaited_items (if b then Idle else Returning) ≡ 0
  bare true = refl
  bare false = refl

  bounded : {s : Side} {c : Option HubCall} {r : HubReply} {t : Turned} → Steps l s c r t → IsBounded t.lane
  bounded (Stays t is) = omega arith
  bounded (Advances {x = x} o at free m) =
      let f : Few l (length (items_of o)) x.lane = few l m in
      let ahead : items_ahead (record x.lane { place = l.place + 1 })
      ≡ items_in (drop (l.place + 1) l.script) + weigh (w l) x.lane.maps =
      ap (λ s. items_in (drop (l.place + 1) s) + weigh (w l) x.lane.maps) f.script in
      omega (arith, f.low, ahead, rest-of (λ p. length (items_of p)) l.script l.place o at)
  bounded (Keeps {x = x} o at free s is big held m) =
      let f : Few l 0 x.lane = few-big l m big in
      let ahead : items_ahead (record x.lane { due = true })
      ≡ items_in (drop l.place l.script) + weigh (w l) x.lane.maps = ahead-at x.lane f.script f.place in
      omega (arith, f.low, ahead)
  bounded (Declines s now x declined) =
      let d = due-at l s now.due in omega (arith, rest-of (λ p. length (items_of p)) l.script l.place d.o d.at)
  bounded (Resends {x = x} s now k untold m) =
      let f : Few (copied s l) (length s.items) x.lane = few (copied s l) m in
      let low : length x.lane.queue + weigh (w l) x.lane.maps
      ≤ length l.queue + (weigh (w l) l.maps + length s.items) = f.low in
      let same_script : x.lane.script ≡ l.script = f.script in
      let ahead : items_ahead (record x.lane { place = l.place + 1 })
      ≡ items_in (drop (l.place + 1) l.script) + weigh (w l) x.lane.maps =
      ap (λ s. items_in (drop (l.place + 1) s) + weigh (w l) x.lane.maps) same_script in
      let d = due-at l s now.due in
      omega (
        arith,
        low,
        ahead,
        ap length (sent-items d.o s d.is),
        rest-of (λ p. length (items_of p)) l.script l.place d.o d.at,
      )
  bounded (Leaves {x = x} q rest e m) =
      let f : Few l 0 x.lane = kept l m in
      omega (arith, f.low, f.longer, ap length e, ahead-at x.lane f.script f.place)
  bounded (Releases q rest e None there) = omega arith
  bounded (Releases q rest e (Some o) there) =
      omega (
        arith,
        unwaiting-put l q.map (record o { stage = after_return q.map rest }) (bare (view.returning q.map rest == 0)),
      )
  bounded (Calls {x = x} m pages k) =
      let f : Few l 0 x.lane = few l k in omega (arith, f.low, ahead-at x.lane f.script f.place)

  pub turn-bounded : (s : Side) (r : HubReply) → IsBounded (by_reply (lane_step l s) r).lane
  turn-bounded s r = bounded (turn-steps l s r)

-- at the opening all items of the script are ahead
pub opening-ahead : (id maxmem : ℕ) (driver : Driver) →
    items_ahead (opening_lane id maxmem driver) ≡ items_in driver.script
opening-ahead id maxmem driver = omega (arith, weigh-empty (λ (o : LaneMap). awaited_items o.stage))
