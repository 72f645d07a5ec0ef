-- A step whose answer is a report goes on and changes nothing else. The items of a load join the queue if it ends with
-- segments, and the items of a kick if it is done.
use Rattle.std.proofs.Common.{◌≡◌, ℕ, ◌==◌, Bool, true, false, if◌then◌else◌, List, [], ◌++◌, Option, Some, None, refl}
use Rattle.std.proofs.Common.{sym, ap, ◌∙◌, append-nil, slice_get}
use Rattle.std.proofs.lemmas.Bool.{false≢true}
use Rattle.std.specs.FinMap.{get}
use Rattle.busdma_machine.specs.declared.bounce.hold.HubCall.{HubCall}
use Rattle.busdma_machine.specs.declared.bounce.hold.HubReply.{HubReply}
use Rattle.busdma_base.specs.declared.journals.answer.Answer.{Answer}
use Rattle.busdma_base.specs.declared.journals.answer.Answer.TheVariants as answer
use Rattle.busdma_base.specs.declared.journals.journal.Side.{Side}
use Rattle.busdma_base.specs.declared.journals.journal.Side.TheVariants as side
use Rattle.busdma_base.specs.Journals.Reports.{is_report}
use Rattle.busdma_base.specs.Scenarios.Operations.{items_of}
use Rattle.busdma_base.specs.declared.scenarios.queued.QueuedItem.{QueuedItem}
use Rattle.busdma_base.specs.Scenarios.Queues.{queued_items}
use Rattle.busdma_rules.specs.Lending.Loans.{load_bytes}
use Rattle.busdma_rules.specs.declared.descriptor.Descriptor.{Descriptor}
use Rattle.ideal_lane.specs.Asking.{by_reply, call_of}
use Rattle.ideal_lane.specs.Outcomes.{Outcome}
use Rattle.ideal_lane.specs.Reported.{behind, gone_on, if_ready, is_reported, items_at, items_in}
use Rattle.ideal_lane.specs.Reported.{items_awaited, joining, remaining}
use Rattle.ideal_lane.specs.Accesses.{values}
use Rattle.ideal_lane.specs.Rings.{Candidate, head_of, told}
use Rattle.ideal_lane.specs.Sends.{Send, copied, due_send, is_too_big}
use Rattle.ideal_lane.specs.State.{LaneState, LaneMap, Stage, Idle, Waiting, Loaded, Returning}
use Rattle.ideal_lane.specs.Turns.{Turn, Turned, at_next, lane_step}
use Rattle.ideal_lane.specs.Unloads.{after_return, restaged}
use Rattle.ideal_lane.proofs.Effects.{Work, Operation, Transfer, Callback, Touches, Same, Makes, Touched, Vain, Loads}
use Rattle.ideal_lane.proofs.Effects.{Ends, AtOnce, Granted, Called, Device, IsQuiet, IsUndone, IsUntold, IsStay}
use Rattle.ideal_lane.proofs.Effects.{NothingNow}
use Rattle.ideal_lane.proofs.Effects.{IsSync, Range, RangeItem, Syncs, Whole, WholeItem}
use Rattle.ideal_lane.proofs.Effects.{Fetches, IsUnwaited, IsUnwaiting, IsVain, Kicks, Unattached, Uncreated, Unplaced}
use Rattle.ideal_lane.proofs.Effects.{Unwaited}
use Rattle.ideal_lane.proofs.Effects.{NothingLeft, NoneCalled, Steps, Stays, Advances, Leaves, Releases, Calls}
use Rattle.ideal_lane.proofs.Stepping.{turn-steps}
use Rattle.ideal_lane.proofs.Effects.{Declines, Keeps, Resends, place_in, asked_in}
use Rattle.ideal_lane.proofs.Sent.{due-at, sent-items}

module _ (l : LaneState) where
  -- ---- reports

  -- a step of a ring that is done reports nothing
  told-report : (d : Descriptor) (c : Candidate) → is_report (told d c l) ≡ true → ⊥
  told-report d c e = by (d.kind == 1) e
    where
      by : (b : Bool) →
          is_report (if b then answer.Bytes (values l (load_bytes l.loans c.map c.off d.len)) else answer.Done)
          ≡ true → ⊥
      by true e = cc
      by false e = cc

  touched-report : {d : Work} {x : Outcome} → Touches l d x → is_report x.answer ≡ true → x.lane ≡ l
  touched-report (Same a q u) e = refl
  touched-report (Fetches k f) e = absurd (told-report (head_of f.r l) f.c e)
  touched-report _ e = absurd (cc)

  untold-report : (a : Answer) → IsUntold a → is_report a ≡ true → ⊥
  untold-report (answer.Report x) u e = u
  untold-report _ u e = cc

  record IsAlone (c : Option HubCall) (m : LaneState) : Type 0 where
    call : c ≡ None
    same : m ≡ l

  made-report : {d : Work} {c : Option HubCall} {r : HubReply} {x : Outcome} → Makes l d c r x →
      is_report x.answer ≡ true → IsAlone c x.lane
  made-report (Touched t) e = record { call = refl; same = touched-report t e }
  made-report (Vain v a u) e = absurd (untold-report a u e)
  made-report _ e = absurd (cc)

  pub record IsGoneOn (s : Side) (c : Option HubCall) (m : LaneState) : Type 0 where
    pub call : c ≡ None
    pub lane : m ≡ gone_on s l

  stay-report : {c : Option HubCall} {r : HubReply} {t : Turn} → IsStay c r t → is_reported t ≡ true → ⊥
  stay-report NothingNow e = cc
  stay-report NothingLeft e = cc
  stay-report (NoneCalled u) e = cc

  big-untold : (a : Answer) → is_too_big a ≡ true → is_report a ≡ true → ⊥
  big-untold (answer.Refused e) big told = cc
  big-untold _ big told = cc

  steps-report : {s : Side} {c : Option HubCall} {r : HubReply} {t : Turned} → Steps l s c r t →
      is_reported t.turn ≡ true → IsGoneOn s c t.lane
  steps-report (Stays t k) e = absurd (stay-report k e)
  steps-report (Advances o at free k) e =
      let alone = made-report k e in
      record { call = alone.call; lane = ap (at_next l.place) alone.same }
  steps-report (Keeps {x = x} o at free s is big h k) e = absurd (big-untold x.answer big e)
  steps-report (Declines s now x declined) e = record { call = refl; lane = refl }
  steps-report (Resends s now k untold m) e = absurd (false≢true (sym untold ∙ e))
  steps-report (Leaves q rest is k) e = record {
    call = refl;
    lane = (λ j. record (touched-report k e j) { queue = ap behind (sym is) j });
  }
  steps-report (Releases q rest is y there) e = absurd (cc)
  steps-report (Calls m pages k) e = let none = (made-report k e).call in absurd (cc)

  pub turn-report : (s : Side) (r : HubReply) → is_reported (by_reply (lane_step l s) r).turn ≡ true →
      IsGoneOn s (call_of (lane_step l s)) (by_reply (lane_step l s) r).lane
  turn-report s r e = steps-report (turn-steps l s r) e

  -- ---- the transfer queue

  -- the items of what is done
  abbrev items_by : Work → List QueuedItem
  items_by (Operation o) = queued_items l.place (items_of o)
  items_by (Transfer i) = []
  items_by (Callback m) = items_in (get l.maps m.made_at)

  quiet-none : (a : Answer) (items : List QueuedItem) → IsQuiet a → IsUndone a → if_ready a items ≡ []
  quiet-none (answer.Segments ss) items q u = absurd q
  quiet-none answer.Done items q u = absurd u
  quiet-none _ items q u = refl

  -- nothing joins
  none-joins : (a : Answer) (items : List QueuedItem) → if_ready a items ≡ [] → l.queue ≡ l.queue ++ if_ready a items
  none-joins a items none = sym (append-nil l.queue) ∙ ap (λ more. l.queue ++ more) (sym none)

  no-items : (a : Answer) → if_ready a [] ≡ []
  no-items (answer.Segments ss) = refl
  no-items answer.Done = refl
  no-items _ = refl

  -- if a reply brings nothing, there are no items that could join
  no-await : (y : Option LaneMap) → IsUnwaited y → items_in y ≡ []
  no-await None u = refl
  no-await (Some o) u = by o.stage u
    where
      by : (s : Stage) → IsUnwaiting s → items_awaited s ≡ []
      by (Waiting v) u = absurd u
      by Idle u = refl
      by (Loaded bounced segments pages) u = refl
      by Returning u = refl

  sync-items : {d : Work} {m off len ops : ℕ} → IsSync l d m off len ops → items_by d ≡ []
  sync-items (Whole m ops) = refl
  sync-items (Range m off len ops) = refl
  sync-items (WholeItem m ops) = refl
  sync-items (RangeItem m off len ops) = refl

  vain-items : {d : Work} {c : HubCall} {r : HubReply} → IsVain l d c r → items_by d ≡ []
  vain-items (Unattached t b u) = refl
  vain-items (Uncreated g b u) = refl
  vain-items (Unplaced g u) = refl
  vain-items (Unwaited m pages u) = no-await (get l.maps m.made_at) u

  same-items : {d : Work} {c : Option HubCall} {r : HubReply} (k : Ends l d c r) →
      queued_items (place_in k) (asked_in k).items ≡ items_by d
  same-items (AtOnce b plain none) = sym (ap items_by b.is)
  same-items (Granted b plain some pages) = sym (ap items_by b.is)
  same-items (Device b device first spaces taken) = sym (ap items_by b.is)
  same-items (Called m pages o v there waits) = sym (ap items_in there ∙ ap items_awaited waits)

  touched-queue : {d : Work} {x : Outcome} → Touches l d x → x.lane.queue ≡ l.queue
  touched-queue (Same a q u) = refl
  touched-queue _ = refl

  touched-joins : {d : Work} {x : Outcome} → Touches l d x → x.lane.queue ≡ l.queue ++ if_ready x.answer (items_by d)
  touched-joins (Same a q u) = none-joins a _ (quiet-none a _ q u)
  touched-joins (Syncs m off len ops is o there i alone fine) =
      none-joins answer.Done _ (sync-items is)
  touched-joins (Fetches k f) =
      let a : Answer = told (head_of f.r l) f.c l in none-joins a [] (no-items a)
  touched-joins _ = sym (append-nil l.queue)

  made-joins : {d : Work} {c : Option HubCall} {r : HubReply} {x : Outcome} → Makes l d c r x →
      x.lane.queue ≡ l.queue ++ if_ready x.answer (items_by d)
  made-joins (Touched t) = touched-joins t
  made-joins (Vain v a u) = none-joins a _ (ap (if_ready a) (vain-items v) ∙ no-items a)
  made-joins (Loads k f) = ap (λ items. l.queue ++ items) (same-items k)
  made-joins (Kicks k steps r there) = refl
  made-joins _ = sym (append-nil l.queue)

-- ---- turns

module _ (l : LaneState) where
  abbrev Joins : Side → Turned → Type 0
  Joins s t = t.lane.queue ≡ remaining s t.turn l.queue ++ joining l t.turn

  stay-joins : {c : Option HubCall} {r : HubReply} {t : Turn} (s : Side) → IsStay c r t →
      l.queue ≡ remaining s t l.queue ++ joining l t
  stay-joins side.Script NothingNow = sym (append-nil l.queue)
  stay-joins side.Transfer NothingNow = sym (append-nil l.queue)
  stay-joins side.Callback NothingNow = sym (append-nil l.queue)
  stay-joins side.Script NothingLeft = sym (append-nil l.queue)
  stay-joins side.Transfer NothingLeft = sym (append-nil l.queue)
  stay-joins side.Callback NothingLeft = sym (append-nil l.queue)
  stay-joins side.Script (NoneCalled u) = sym (append-nil l.queue)
  stay-joins side.Transfer (NoneCalled u) = sym (append-nil l.queue)
  stay-joins side.Callback (NoneCalled u) = sym (append-nil l.queue)

  restaged-queue : (m : ℕ) (y : Option LaneMap) (s : Stage) → (restaged m y s l).queue ≡ l.queue
  restaged-queue m None s = refl
  restaged-queue m (Some o) s = refl

  -- the items of a resend are those of the send
  due-items : (s : Send) → due_send l ≡ Some s → queued_items l.place s.items
      ≡ items_at l.place (slice_get l.script l.place)
  due-items s e =
      let d = due-at l s e in
      ap (queued_items l.place) (sent-items d.o s d.is) ∙ ap (items_at l.place) (sym d.at)

  steps-join : {s : Side} {c : Option HubCall} {r : HubReply} {t : Turned} → Steps l s c r t → Joins s t
  steps-join {s = s} (Stays t k) = stay-joins s k
  steps-join (Advances {x = x} o at free k) =
      made-joins l k ∙ ap (λ y. l.queue ++ if_ready x.answer (items_at l.place y)) (sym at)
  steps-join (Keeps {x = x} o at free s is big h k) =
      made-joins l k ∙ ap (λ y. l.queue ++ if_ready x.answer (items_at l.place y)) (sym at)
  steps-join (Declines s now x declined) = sym (append-nil l.queue)
  steps-join (Resends {x = x} s now k untold m) =
      made-joins (copied s l) m ∙ ap (λ items. l.queue ++ if_ready x.answer items) (due-items s now.due)
  steps-join (Leaves {x = x} q rest is k) =
      ap behind (sym is) ∙ sym (append-nil (behind l.queue))
      ∙ ap (λ more. behind l.queue ++ more) (sym (no-items l x.answer))
  steps-join (Releases q rest is y there) =
      restaged-queue q.map y (after_return q.map rest) ∙ sym (append-nil l.queue)
  steps-join (Calls m pages k) = made-joins l k

  pub turn-joins : (s : Side) (r : HubReply) → Joins s (by_reply (lane_step l s) r)
  turn-joins s r = steps-join (turn-steps l s r)
