-- Each step leaves its driver less to do.
use Rattle.std.proofs.Common.{◌≡◌, ℕ, suc, ◌+◌, ◌≤◌, ◌<◌, ◌==◌, ◌++◌, Bool, true, false, if◌then◌else◌, List, [], ◌∷◌}
use Rattle.std.proofs.Common.{length, Option, Some, None, refl, ap, sym, ◌∙◌, subst, arith, drop, slice_get}
use Rattle.std.proofs.lemmas.List.{length-append}
use Rattle.std.proofs.lemmas.Option.{slice_get_within, get_or_from_slice_get}
use Rattle.std.proofs.lemmas.List.Sums.{sum_by-drop_more}
use Rattle.std.specs.FinMap.{get, insert, remove, contains_key}
use Rattle.std.specs.List.{sum_by}
use Rattle.std.specs.Option.{option_and_then, option_map_or}
use Rattle.busdma_machine.specs.declared.bounce.hold.HubCall.TheVariants as call
use Rattle.busdma_machine.specs.declared.bounce.hold.HubReply.{HubReply}
use Rattle.busdma_machine.specs.declared.bounce.hold.HubReply.TheVariants as reply
use Rattle.busdma_base.specs.declared.journals.journal.Side.{Side}
use Rattle.busdma_base.specs.declared.scenarios.script.Item.{Item}
use Rattle.busdma_base.specs.declared.scenarios.script.Op.{Op}
use Rattle.busdma_machine.specs.Bounce.Account.{Account}
use Rattle.busdma_machine.specs.Bounce.AccountStep.{account_step}
use Rattle.busdma_base.specs.Scenarios.Operations.{about, items_of, loaded_by}
use Rattle.busdma_base.specs.Scenarios.Buffers.{buffer_bytes}
use Rattle.busdma_base.specs.declared.scenarios.script.Op.TheVariants as op
use Rattle.busdma_machine.specs.Machine.Spans.{span_bytes}
use Rattle.lane_agreement.specs.View as view
use Rattle.lane_agreement.specs.View.{Return, queued_back}
use Rattle.lane_agreement.specs.After.{addresses_of_pages}
use Rattle.lane_agreement.specs.Agreement.{Agrees, IsFit}
use Rattle.lane_agreement.proofs.Left.{addresses-length, queued-length}
use Rattle.lane_agreement.proofs.Whole.{granted-length, called-length}
use Rattle.busdma_base.specs.declared.scenarios.queued.QueuedItem.{QueuedItem}
use Rattle.busdma_base.specs.Scenarios.Queues.{queued_items, queued_from}
use Rattle.busdma_rules.specs.Segments.Chunks.{need_of}
use Rattle.ideal_lane.specs.State.{LaneState, LaneMap, Stage, Idle, Waiting, Loaded, Returning, WaitingLoad, named}
use Rattle.ideal_lane.specs.Asking.{Asking, Gives, Asks, call_of, by_reply}
use Rattle.ideal_lane.specs.Outcomes.{Outcome}
use Rattle.ideal_lane.specs.Standing.{Stands}
use Rattle.ideal_lane.specs.Maps.{with_map}
use Rattle.ideal_lane.specs.Loads.{zone_of_map, unpaged, emptied, with_spaces}
use Rattle.ideal_lane.specs.Unloads.{pages_of, after_return}
use Rattle.ideal_lane.specs.Turns.{never_waits, lane_step, Turned}
use Rattle.ideal_lane.specs.View.{view_of}
use Rattle.ideal_lane.specs.Left.{op_weight, script_weight, stage_weight, maps_weight, left, Falls, FallsOrStays}
use Rattle.ideal_lane.specs.Sends.{HaveClusters, Send, copied, due_send, is_too_big, send_at, send_of}
use Rattle.ideal_lane.proofs.Effects.{Advances, AtOnce, Begins, Callback, Called, Calls, Creates, Device, Ends, Frees}
use Rattle.ideal_lane.proofs.Effects.{Granted}
use Rattle.ideal_lane.proofs.Effects.{Declines, Keeps, Resends, again, grab, spaces_in}
use Rattle.ideal_lane.proofs.Effects.{IsReplyOf, IsUnwaited, IsUnwaiting, Kicks, Leaves, Loads, Makes, Maps}
use Rattle.ideal_lane.proofs.Effects.{NothingLeft, Operation, Overflows, Places, Refuses, Releases, Same, Stays, Steps}
use Rattle.ideal_lane.proofs.Effects.{Touched, Touches, Transfer, Unloads, Unmaps, Unwaited, Vain, Waits, Work}
use Rattle.ideal_lane.proofs.Effects.{asked_in, asks, chunks, chunks_in, map_in, pages_in, place_in, there_in}
use Rattle.ideal_lane.proofs.Effects.{waits_for, was_in}
use Rattle.ideal_lane.proofs.Stepping.{turn-steps}
use Rattle.ideal_lane.proofs.Endings.{fitting, too_big, bounced_in, segments_of}
use Rattle.ideal_lane.proofs.Needs.{need-few, bytes-counted, bytes-few}
use Rattle.ideal_lane.proofs.Sent.{due-clusters, sent, sent-bytes, sent-items, unqueued}
use Rattle.ideal_lane.proofs.TurnLaws.{WaitsAt, waits-at}
use Rattle.ideal_lane.proofs.Weights.{weigh-new, weigh-put, weigh-cut}
use Rattle.busdma_machine.specs.declared.bounce.hold.HubCall.{HubCall}
use Rattle.busdma_machine.specs.declared.name.MapId.{MapId}
use Rattle.busdma_machine.specs.declared.machine.address.Pa.{Pa}

-- what is left besides the operations
abbrev pub cost : LaneState → ℕ
cost n = length n.queue + (length n.returns + maps_weight n.maps)

-- a driver at the same place of the same script, with at most `more` more to do
pub record Low (l : LaneState) (more : ℕ) (n : LaneState) : Type 0 where
  pub cost_low : cost n ≤ cost l + more
  pub script : n.script ≡ l.script
  pub place : n.place ≡ l.place
  pub due : n.due ≡ l.due

-- a load queues each of its items
pub queued-from : (at place : ℕ) (items : List Item) → length (queued_from at place items) ≡ length items
queued-from at place [] = refl
queued-from at place (i ∷ is) = ap suc (queued-from at (place + 1) is)

-- nothing more is to be done
module _ (l : LaneState) where
  same : (more : ℕ) → Low l more l
  same more = record { cost_low = omega arith; script = refl; place = refl; due = refl }

  abbrev weight : LaneMap → ℕ
  weight o = stage_weight o.stage

  -- a map is put where there was none
  new-low : (more : ℕ) (k : ℕ) (o : LaneMap) → get l.maps k ≡ None → o.stage ≡ Idle →
      Low l more (record l { maps = insert l.maps k o })
  new-low more k o none idle = record {
    cost_low = let w : weight o ≡ 0 =
        ap stage_weight idle in omega (arith, w, weigh-new weight l.maps k o none);
    script = refl;
    place = refl;
    due = refl;
  }

  -- a map is put in place of another, and so many items and pages are queued
  put-low : (more : ℕ) (k : ℕ) (o n : LaneMap) (items : List QueuedItem) (pages : List Return) →
      get l.maps k ≡ Some o →
      length items + (length pages + weight n) ≤ weight o + more →
      Low l more (record l { maps = insert l.maps k n; queue = l.queue ++ items; returns = l.returns ++ pages })
  put-low more k o n items pages found few = record {
    cost_low =
        omega (
          arith,
          few,
          weigh-put weight l.maps k o n found,
          length-append l.queue items,
          length-append l.returns pages,
        );
    script = refl;
    place = refl;
    due = refl;
  }

  cut-low : (more k : ℕ) (o : LaneMap) → get l.maps k ≡ Some o → Low l more (record l { maps = remove l.maps k })
  cut-low more k o found =
      record { cost_low = omega (arith, weigh-cut weight l.maps k o found); script = refl; place = refl; due = refl }

  -- a map is put in place of another, and nothing is queued
  stage-low : (more : ℕ) (k : ℕ) (o n : LaneMap) → get l.maps k ≡ Some o → weight n ≤ weight o + more →
      Low l more (record l { maps = insert l.maps k n })
  stage-low more k o n found few =
      record {
        cost_low = omega (arith, few, weigh-put weight l.maps k o n found);
        script = refl;
        place = refl;
        due =
            refl;
      }

  empty-weight : (ps : List ℕ) → stage_weight (emptied ps) ≡ 0
  empty-weight [] = refl
  empty-weight (p ∷ ps) = refl

  -- a load that has its pages, whether it has its segments or not
  module _ {d : Work} {c : Option HubCall} {r : HubReply} (k : Ends l d c r) where
    loads-cost : cost (fitting l (map_in k) (was_in k) (place_in k) (asked_in k) (chunks_in k) (pages_in k)).lane
        + weight (was_in k) ≤ cost l + (length (asked_in k).items + length (pages_in k))
    loads-cost =
        omega (
          arith,
          queued-from (place_in k) 0 (asked_in k).items,
          length-append l.queue (queued_items (place_in k) (asked_in k).items),
          weigh-put weight l.maps (map_in k) (was_in k) (record (was_in k) {
            tried = true;
            stage = Loaded (bounced_in l (map_in k) (was_in k) (place_in k) (asked_in k) (chunks_in k) (pages_in k))
                (segments_of l (map_in k) (was_in k) (place_in k) (asked_in k) (chunks_in k) (pages_in k)) (pages_in k);
          }) (there_in k),
        )

  unpaged-cost : (m : ℕ) (o : LaneMap) (pages : List ℕ) → get l.maps m ≡ Some o →
      cost (unpaged m o pages l) + weight o ≤ cost l + length pages
  unpaged-cost m o pages e =
      omega (
        arith,
        empty-weight pages,
        queued-length m (zone_of_map o) pages,
        length-append l.returns (queued_back m (zone_of_map o) pages),
        weigh-put weight l.maps m o (record o { tried = true; stage = emptied pages }) e,
      )

  -- ---- the effects

  touches-low : {more : ℕ} {d : Work} {x : Outcome} → Touches l d x → Low l more x.lane
  touches-low (Same a q u) = same _
  touches-low _ = record { cost_low = omega arith; script = refl; place = refl; due = refl }

  touches-queue : {d : Work} {x : Outcome} → Touches l d x → length x.lane.queue ≡ length l.queue
  touches-queue (Same a q u) = refl
  touches-queue _ = refl

  -- a new map is idle
  made-low : {more : ℕ} (n : LaneState) → get l.maps l.place ≡ None → (t : ℕ) (zone : Option ℕ) →
      cost n ≡ cost (with_map t zone l) → n.script ≡ l.script → n.place ≡ l.place → n.due ≡ l.due → Low l more n
  made-low {more} n none t zone c s p d =
      let low = new-low more l.place (record { tag = t; zone = zone; tried = false; stage = Idle }) none refl in
      record { cost_low = omega (arith, low.cost_low, c); script = s; place = p; due = d }

  held : (s : Stage) → length (pages_of s) ≤ stage_weight s
  held (Loaded bounced segments pages) = omega arith
  held _ = omega arith

  -- an operation counts 1, its items and the bytes that it loads
  abbrev more_by : Op → ℕ
  more_by o = 1 + (length (items_of o) + loaded_by o)

  -- a load needs at most as many pages as its buffer has bytes
  need-within : {d : Work} (b : Begins l d) → need_of (chunks b) ≤ buffer_bytes b.buffer
  need-within b =
      omega (
        arith,
        need-few l b.o (contains_key l.mems b.m) (asks b).entries,
        bytes-few l b.buffer b.bio b.found,
      )

  abbrev operation_in : Work → ℕ
  operation_in (Operation p) = more_by p
  operation_in (Transfer i) = 0
  operation_in (Callback m) = 0

  enough : {o : Op} (b : Begins l (Operation o)) → 1 + (length b.items + need_of (chunks b)) ≤ more_by o
  enough b = omega (arith, need-within b, bytes-counted b.buffer, ap operation_in b.is)

  -- the load of an operation that has its pages
  abbrev begun-in : {o : Op} {c : Option HubCall} {r : HubReply} → Ends l (Operation o) c r → Begins l (Operation o)
  begun-in (AtOnce b plain none) = b
  begun-in (Granted b plain some pages) = b
  begun-in (Device b device first spaces taken) = b

  items-in : {o : Op} {c : Option HubCall} {r : HubReply} (k : Ends l (Operation o) c r) →
      (asked_in k).items ≡ (begun-in k).items
  items-in (AtOnce b plain none) = refl
  items-in (Granted b plain some pages) = refl
  items-in (Device b device first spaces taken) = refl

  module _ (a : Account) where
    -- the load has at most as many pages as it needs
    pages-few : {o : Op} {c : Option HubCall} {r : HubReply} → IsReplyOf l.id a c r → (k : Ends l (Operation o) c r) →
        length (pages_in k) ≤ need_of (chunks (begun-in k))
    pages-few e (AtOnce b plain none) = omega arith
    pages-few e (Granted b plain some pages) =
        omega (
          arith,
          addresses-length pages,
          granted-length (named l b.m) (zone_of_map b.o) (need_of (chunks b)) (asks b).nowait a pages e,
        )
    pages-few e (Device b device first spaces taken) = omega arith

    loads-low : (more : ℕ) {o : Op} {c : Option HubCall} {r : HubReply} → IsReplyOf l.id a c r →
        (k : Ends l (Operation o) c r) → length (begun-in k).items + need_of (chunks (begun-in k)) ≤ more →
        Low l more
        (with_spaces (spaces_in k)
        (fitting l (map_in k) (was_in k) (place_in k) (asked_in k) (chunks_in k) (pages_in k))).lane
    loads-low more e k few = record {
      cost_low = omega (arith, few, loads-cost k, pages-few e k, ap length (items-in k));
      script = refl;
      place = refl;
      due = refl;
    }

    overflows-low : (more : ℕ) {o : Op} {c : Option HubCall} {r : HubReply} → IsReplyOf l.id a c r →
        (k : Ends l (Operation o) c r) → need_of (chunks (begun-in k)) ≤ more →
        Low l more
        (with_spaces (spaces_in k)
        (too_big l (map_in k) (was_in k) (place_in k) (asked_in k) (chunks_in k) (pages_in k))).lane
    overflows-low more e k few = record {
      cost_low = omega (arith, few, unpaged-cost (map_in k) (was_in k) (pages_in k) (there_in k), pages-few e k);
      script = refl;
      place = refl;
      due = refl;
    }

    -- a load that is refused
    refuses-low : {d : Work} (b : Begins l d) (more : ℕ) →
        Low l more (record l { maps = insert l.maps b.m (record b.o { tried = true; stage = Idle }) })
    refuses-low b more = stage-low more b.m b.o (record b.o { tried = true; stage = Idle }) b.there (omega arith)

    -- a load with too many segments
    abbrev bytes_in : Work → ℕ
    bytes_in (Operation o) = option_map_or buffer_bytes (about o).loads 0
    bytes_in (Transfer i) = 0
    bytes_in (Callback m) = 0

    big-low : (o : Op) (s : Send) → send_of o ≡ Some s → {c : Option HubCall} {r : HubReply} {x : Outcome} →
        IsReplyOf l.id a c r → Makes l (Operation o) c r x → is_too_big x.answer ≡ true →
        Low l (span_bytes s.chain) x.lane
    big-low o s is e (Touched t) big = touches-low t
    big-low o s is e (Vain v q u) big = same _
    big-low o s is e (Refuses b over v) big = refuses-low b _
    big-low o s is e (Overflows k f) big =
        let b : Begins l (Operation o) = begun-in k in
        let bytes : span_bytes s.chain ≡ buffer_bytes b.buffer =
        sym (ap (λ p. bytes_in (Operation p)) (sent o s is).is) ∙ ap bytes_in b.is in
        overflows-low _ e k (omega (arith, need-within b, bytes))
    big-low o s is e _ big = absurd (cc)

    -- the resend of a send costs its items and the bytes of its clusters, but not 1 for waiting, because it never waits
    abbrev waits_in : Work → Bool
    waits_in (Operation (op.Load m x flags items)) = never_waits x flags
    waits_in _ = true

    abbrev again_in : Work → ℕ
    again_in (Operation o) = length (items_of o) + option_map_or buffer_bytes (about o).loads 0
    again_in (Transfer i) = 0
    again_in (Callback m) = 0

    module _ (s : Send) (b : Begins l (Operation (again s))) where
      again-within : length b.items + need_of (chunks b) ≤ length s.items + span_bytes s.clusters
      again-within =
          let same : length s.items + span_bytes s.clusters ≡ length b.items + buffer_bytes b.buffer =
          ap again_in b.is in
          omega (arith, need-within b, same)

      never-queued : (have : ℕ) → IsReplyOf l.id a (Some (grab b)) (reply.Queued have) → ⊥
      never-queued have e =
          let never : (asks b).nowait ≡ true = sym (ap waits_in b.is) in
          unqueued l.id (named l b.m) (record { 0 = zone_of_map b.o }) (need_of (chunks b)) a have
          (ap (λ w. (account_step l.id (call.Grab (named l b.m) (record { 0 = zone_of_map b.o }) (need_of (chunks b)) w)
          a).reply)
          (sym never) ∙ e)

    again-low : (s : Send) {c : Option HubCall} {r : HubReply} {x : Outcome} → IsReplyOf l.id a c r →
        Makes l (Operation (again s)) c r x → Low l (length s.items + span_bytes s.clusters) x.lane
    again-low s e (Touched t) = touches-low t
    again-low s e (Refuses b over v) = refuses-low b _
    again-low s e (Waits b plain some have) = absurd (never-queued s b have e)
    again-low s e (Loads k f) = loads-low _ e k (again-within s (begun-in k))
    again-low s e (Overflows k f) = overflows-low _ e k (omega (arith, again-within s (begun-in k)))
    again-low s e (Vain v q u) = same _

  module _ (a : Account) (stands : Stands l) where
    makes-low : {o : Op} {c : Option HubCall} {r : HubReply} {x : Outcome} →
        IsReplyOf l.id a c r → Makes l (Operation o) c r x → Low l (more_by o) x.lane
    makes-low e (Touched t) = touches-low t
    makes-low {x = x} e (Maps name t g there b) =
        made-low x.lane (stands.no_map l.place (omega arith)) t None refl refl refl refl
    makes-low {x = x} e (Creates name t g there b n m) =
        made-low x.lane (stands.no_map l.place (omega arith)) t (Some n.zone.0) refl refl refl refl
    makes-low {x = x} e (Places name t flags g there first count) =
        made-low x.lane (stands.no_map l.place (omega arith)) t None refl refl refl refl
    makes-low e (Unmaps m y there i) = cut-low _ m y there
    makes-low e (Frees m y f z there i) =
        let low = cut-low _ m z there in
        record { cost_low = low.cost_low; script = refl; place = refl; due = refl }
    makes-low e (Refuses b over v) = refuses-low a b _
    makes-low e (Waits b plain some have) =
        stage-low _ b.m b.o (record b.o { tried = true; stage = Waiting (waits_for b) }) b.there
        (omega (arith, enough b))
    makes-low e (Loads k f) = loads-low a _ e k (omega (arith, enough (begun-in k)))
    makes-low e (Overflows k f) = overflows-low a _ e k (omega (arith, enough (begun-in k)))
    makes-low e (Unloads m y there i) = record {
      cost_low = omega (arith, unpaged-cost m y (pages_of y.stage) there, held y.stage);
      script = refl;
      place = refl;
      due = refl;
    }
    makes-low e (Kicks k steps q there) = record {
      cost_low = omega (arith, queued-from l.place 0 steps, length-append l.queue (queued_items l.place steps));
      script = refl;
      place = refl;
      due = refl;
    }
    makes-low e _ = record { cost_low = omega arith; script = refl; place = refl; due = refl }

-- ---- the script

pub rest-of : (f : Op → ℕ) (script : List Op) (place : ℕ) (o : Op) → slice_get script place ≡ Some o →
    sum_by f (drop place script) ≡ f o + sum_by f (drop (place + 1) script)
rest-of f script place o h =
    sum_by-drop_more f script place o (slice_get_within script place o h)
    ∙ ap (λ p. f p + sum_by f (drop (place + 1) script)) (get_or_from_slice_get script place o o h)

abbrev need_of_stage : Stage → ℕ
need_of_stage (Waiting v) = v.need
need_of_stage _ = 0

-- the need of a map that waits
abbrev need_in : Option LaneMap → ℕ
need_in None = 0
need_in (Some o) = need_of_stage o.stage

module _ (l : LaneState) (a : Account) (stands : Stands l) (fit : IsFit a) (agrees : Agrees (view_of l) a)
    (clusters : HaveClusters l.script) where
  -- a callback brings a map that waits as many pages as it needs
  waited : {m : MapId} {pages : List Pa} → (account_step l.id call.TakeCallback a).reply ≡ reply.Called m pages →
      (z need : ℕ) × (length (addresses_of_pages pages) ≡ need) × WaitsAt l m.made_at z need
  waited {m} {pages} e =
      let c = called-length (view_of l) a.ready a m pages fit.well agrees refl e in
      (c.2, c.0, addresses-length pages ∙ c.4, waits-at l m.made_at c.2 c.0 c.3)

  -- the script's weight, with a resend that is due or without
  abbrev weight_at : Bool → List Op → ℕ → ℕ
  weight_at due script place = script_weight (if due then send_at script place else None) script place

  -- what is ahead at the same place of the same script
  ops : (n : LaneState) → n.script ≡ l.script → n.place ≡ l.place → n.due ≡ l.due →
      weight_at n.due n.script n.place ≡ weight_at l.due l.script l.place
  ops n s p d = (λ i. weight_at (d i) (s i) (p i))

  -- if a resend is due, and if none is
  ahead-due : (q : Option Send) → due_send l ≡ q →
      weight_at l.due l.script l.place ≡ script_weight q l.script l.place
  ahead-due q e = ap (λ y. script_weight y l.script l.place) e

  -- the operations after the place
  behind : (n : LaneState) → n.script ≡ l.script →
      sum_by op_weight (drop (l.place + 1) n.script) ≡ sum_by op_weight (drop (l.place + 1) l.script)
  behind n s = ap (λ y. sum_by op_weight (drop (l.place + 1) y)) s

  needs : {m : ℕ} {o : LaneMap} {z need : ℕ} {v : WaitingLoad} → WaitsAt l m z need → get l.maps m ≡ Some o →
      o.stage ≡ Waiting v → v.need ≡ need
  needs w there waits =
      sym (ap need_of_stage waits) ∙ ap need_in (sym there ∙ w.found) ∙ ap need_of_stage w.stage ∙ w.counted

  called-falls : {n m : MapId} {pages : List Pa} {x : Outcome} →
      (account_step l.id call.TakeCallback a).reply ≡ reply.Called m pages →
      Makes l (Callback n) (Some call.TakeCallback) (reply.Called m pages) x → left x.lane < left l
  called-falls e (Vain (Unwaited m pages u) v q) =
      let w = (waited e).3 in absurd (subst IsUnwaiting w.stage (subst IsUnwaited w.found u))
  called-falls e (Refuses b over v) = elim over [ ]
  called-falls e (Loads (Called m pages o v there waits) f) =
      let w = waited e in
      omega (
        arith,
        loads-cost l (Called m pages o v there waits),
        ap stage_weight waits,
        needs w.3 there waits,
        w.2,
      )
  called-falls e (Overflows (Called m pages o v there waits) f) =
      let w = waited e in
      omega (
        arith,
        unpaged-cost l m.made_at o (addresses_of_pages pages) there,
        ap stage_weight waits,
        needs w.3 there waits,
        w.2,
      )

  bare : (b : Bool) → stage_weight (if b then Idle else Returning) ≡ 0
  bare true = refl
  bare false = refl

  steps-fall : {s : Side} {c : Option HubCall} {r : HubReply} {t : Turned} → IsReplyOf l.id a c r →
      Steps l s c r t → Falls l t.lane t.turn
  steps-fall e (Stays t NothingLeft) = refl
  steps-fall e (Stays t _) = refl
  steps-fall e (Advances {x = x} o at free m) =
      let low = makes-low l a stands e m in
      omega (
        arith,
        low.cost_low,
        behind x.lane low.script,
        ahead-due None free.none,
        rest-of op_weight l.script l.place o at,
      )
  steps-fall e (Keeps {x = x} o at free s is big h m) =
      let low = big-low l a o s is e m big in
      let after : weight_at true x.lane.script x.lane.place ≡ script_weight (Some s) l.script l.place =
      (λ i. weight_at true (low.script i) (low.place i))
      ∙ ap (λ q. script_weight q l.script l.place) (ap (option_and_then send_of) at ∙ is) in
      omega (
        arith,
        low.cost_low,
        after,
        ahead-due None free.none,
        rest-of op_weight l.script l.place o at,
        sent-bytes o s is,
        ap length (sent-items o s is),
      )
  steps-fall e (Declines s now x declined) = omega (arith, ahead-due (Some s) now.due)
  steps-fall e (Resends {x = x} s now k untold m) =
      let low : Low (copied s l) (length s.items + span_bytes s.clusters) x.lane = again-low (copied s l) a s e m in
      let cost_low : cost x.lane ≤ cost l + (length s.items + span_bytes s.clusters) = low.cost_low in
      omega (
        arith,
        cost_low,
        behind x.lane low.script,
        ahead-due (Some s) now.due,
        (due-clusters l s now.due clusters).alike,
      )
  steps-fall e (Leaves {x = x} q rest is t) =
      let low : Low l 0 x.lane = touches-low l t in
      let longer : length x.lane.queue ≡ length l.queue = touches-queue l t in
      omega (arith, low.cost_low, longer, ap length is, ops x.lane low.script low.place low.due)
  steps-fall e (Releases q rest is None there) = omega (arith, ap length is)
  steps-fall e (Releases q rest is (Some o) there) =
      omega (
        arith,
        ap length is,
        bare (view.returning q.map rest == 0),
        weigh-put (weight l) l.maps q.map o (record o { stage = after_return q.map rest }) there,
      )
  steps-fall e (Calls m pages k) = called-falls e k

pub turn-falls : (l : LaneState) (s : Side) (a : Account) → Stands l → HaveClusters l.script → IsFit a →
    Agrees (view_of l) a → FallsOrStays l a (lane_step l s)
turn-falls l s a stands clusters fit g = by (lane_step l s) (turn-steps l s)
  where
    by : (x : Asking Turned) → ((r : HubReply) → Steps l s (call_of x) r (by_reply x r)) → FallsOrStays l a x
    by (Gives t) h = steps-fall l a stands fit g clusters tt (h reply.Nothing)
    by (Asks c k) h = steps-fall l a stands fit g clusters refl (h (account_step l.id c a).reply)
