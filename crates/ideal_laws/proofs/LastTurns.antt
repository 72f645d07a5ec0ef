-- Each turn leaves Known what was last written, and each read answers that.
use Rattle.std.proofs.Common.{◌≡◌, ℕ, ◌==◌, Bool, true, false, if◌then◌else◌, List, [], ◌∷◌, map, Option, Some, None}
use Rattle.std.proofs.Common.{slice_get, unwrap_or, refl, sym, ap, ◌∙◌, subst, arith}
use Rattle.std.proofs.lemmas.Option.{slice_get-map}
use Rattle.std.specs.FinMap.{entries, get}
use Rattle.std.specs.List.{Contains}
use Rattle.std.specs.Option.{option_map}
use Rattle.busdma_machine.specs.declared.bounce.hold.HubReply.{HubReply}
use Rattle.busdma_machine.specs.declared.bounce.hold.HubReply.TheVariants as reply
use Rattle.busdma_machine.specs.declared.report.Judged.TheVariants.{Fine}
use Rattle.busdma_machine.specs.declared.report.Report.{Report}
use Rattle.busdma_machine.specs.declared.report.ReportName.TheVariants.{CpuReadLent, DeviceReadUnlent, StaleByte}
use Rattle.busdma_machine.specs.Bounce.Account.{Account}
use Rattle.busdma_machine.specs.Judging.{judged as judged_by}
use Rattle.busdma_machine.specs.Machine.Wire.{put}
use Rattle.busdma_machine.specs.Runs.{run_of}
use Rattle.busdma_base.specs.declared.journals.answer.Answer.{Answer}
use Rattle.busdma_base.specs.declared.journals.answer.Answer.TheVariants as answer
use Rattle.busdma_base.specs.declared.journals.journal.Side.{Side}
use Rattle.busdma_base.specs.declared.journals.journal.Side.TheVariants as side
use Rattle.busdma_base.specs.declared.scenarios.queued.QueuedItem.{QueuedItem}
use Rattle.busdma_base.specs.declared.scenarios.script.Item.{Item}
use Rattle.busdma_base.specs.declared.scenarios.script.Item.TheVariants as item
use Rattle.busdma_base.specs.declared.scenarios.script.Op.{Op}
use Rattle.busdma_base.specs.declared.scenarios.script.Op.TheVariants as op
use Rattle.busdma_base.specs.declared.scenarios.script.Place.{Place}
use Rattle.busdma_rules.specs.declared.position.Position.{Position}
use Rattle.busdma_rules.specs.Iommu.Space.{translated}
use Rattle.busdma_rules.specs.Lending.Access.{cpu_read_answer, cpu_read_refusal, dev_read_answer, dev_read_refusal}
use Rattle.busdma_rules.specs.Lending.Access.{dev_write_answer}
use Rattle.busdma_rules.specs.Lending.Loans.{lent, load_bytes, loan_of, to_write}
use Rattle.lane_agreement.specs.View.{Return}
use Rattle.ideal_lane.specs.Accesses.{cpu_read, dev_read, dev_read_at, raw_bytes, raw_refusal, values}
use Rattle.ideal_lane.specs.Agreement.{AgreesWith}
use Rattle.ideal_lane.specs.Asking.{Asking, Gives, Asks, by_reply, goes_on}
use Rattle.ideal_lane.specs.IdealMemory.{is_known}
use Rattle.ideal_lane.specs.Outcomes.{Outcome, gives}
use Rattle.ideal_lane.specs.Places.{bytes_at, first_unreached, virtual_at}
use Rattle.ideal_lane.specs.Rings.{candidates_in, head_of, ring_of, ring_step, told}
use Rattle.ideal_lane.specs.Sends.{Send, chain_bytes, cluster_bytes, copied, due_send, is_kept, resend, send_of}
use Rattle.ideal_lane.specs.Standing.{Stands}
use Rattle.ideal_lane.specs.State.{LaneState}
use Rattle.ideal_lane.specs.Turns.{Turn, Turned, Stepped, Blocked, Ended, advanced, due_turn, kept, lane_step}
use Rattle.ideal_lane.specs.Turns.{left_queue}
use Rattle.ideal_lane.specs.Turns.{called_back, next_operation, operation, resent, script_turn, stays, transfer}
use Rattle.ideal_lane.specs.Turns.{transfer_turn, waits, went_on}
use Rattle.ideal_lane.proofs.Effects.{Advances, Calls, Declines, Fetching, IsStay, Keeps, NoneCalled, NothingLeft}
use Rattle.ideal_lane.proofs.Effects.{NothingNow, Releases}
use Rattle.ideal_lane.proofs.Effects.{Resends, Stays, Steps, Transfer}
use Rattle.ideal_lane.proofs.Firsts.{first-allowed, first-candidate}
use Rattle.ideal_lane.proofs.Refusing.{absent, judged, past, unloaded}
use Rattle.ideal_lane.proofs.Stepping.{Only, transfer-touches, turn-steps}
use Rattle.ideal_wire.specs.Laid.{AreLaid}
use Rattle.ideal_wire.specs.Machine.{IsInMachine}
use Rattle.ideal_wire.specs.Mapped.{AreMapped}
use Rattle.ideal_wire.specs.Spaced.{AreSpaced}
use Rattle.ideal_wire.specs.WireStep.{Reads, place_bytes}
use Rattle.ideal_wire.proofs.Laid.Positions.{fine_at, found_one}
use Rattle.ideal_wire.proofs.Faithful.RingCases.{IsUnfetched, by-fetch, ring-is}
use Rattle.ideal_laws.specs.LastWrites.{IfBytes, ReadsCandidate, ReadsFirst, ReadsItem, ReadsLast, ReadsNext, Written}
use Rattle.ideal_laws.specs.LastWrites.{by_did, by_first, by_item}
use Rattle.ideal_laws.specs.LastWrites.{by_next, by_operation, by_send}
use Rattle.ideal_laws.proofs.Knowing.{chain-known, due-is, same-bytes}
use Rattle.ideal_laws.proofs.Landing.{judged-byte}
use Rattle.ideal_laws.proofs.LastValues.{IsLast, IsPlain, callback-last, head-last, item-last, last-values}
use Rattle.ideal_laws.proofs.LastValues.{operation-last, range-values}
use Rattle.ideal_laws.proofs.LastValues.{step-last, write-last}

-- an operation writes the same if it leaves the same memories
same-after : (o : Op) (a : Answer) (l after after' : LaneState) (w : Written) → after.mems ≡ after'.mems →
    by_operation o a l after w ≡ by_operation o a l after' w
same-after (op.Dmamem name tag flags) a l after after' w e =
    ap (λ ms. by_operation (op.Dmamem name tag flags) a l (record after { mems = ms }) w) e
same-after _ a l after after' w e = refl

module _ (l : LaneState) (a : Account) (stands : Stands l) (agrees : AgreesWith l a) (laid : AreLaid l)
    (machine : IsInMachine l) (w : Written) (last : IsLast l.memory w) where
  abbrev pub TurnLast : Turn → LaneState → Type 0
  TurnLast (Stepped e) after = IsLast after.memory (by_did e.did e.answer l after w)
  TurnLast Blocked after = IsLast after.memory w
  TurnLast Ended after = IsLast after.memory w

  abbrev pub TurnedLast : Turned → Type 0
  TurnedLast t = TurnLast t.turn t.lane

  none-new : get l.mems l.place ≡ None
  none-new = stands.no_memory l.place (omega arith)

  stays-last : {c : _} {r : HubReply} {t : Turn} → IsStay c r t → TurnLast t l
  stays-last NothingNow = last
  stays-last NothingLeft = last
  stays-last (NoneCalled u) = last

  -- what is Known after an operation was last written, however the script goes on
  operation-turn : (o : Op) → slice_get l.script l.place ≡ Some o → (x : Outcome) (after : LaneState) →
      after.memory ≡ x.lane.memory → after.mems ≡ x.lane.mems →
      IsLast x.lane.memory (by_operation o x.answer l x.lane w) →
      IsLast after.memory (by_next (slice_get l.script l.place) x.answer l after w)
  operation-turn o at x after memory mems h =
      subst (λ q. IsLast after.memory (by_next q x.answer l after w)) (sym at)
      (subst (λ m. IsLast m (by_operation o x.answer l after w)) (sym memory)
      (subst (IsLast x.lane.memory) (sym (same-after o x.answer l after x.lane w mems)) h))

  chain-last : (s : Send) → ((i b : ℕ) → slice_get (chain_bytes s l) i ≡ Some b → is_known l.memory b ≡ true) →
      IsLast (copied s l).memory (put (cluster_bytes s l) (map w (chain_bytes s l)) w)
  chain-last s known =
      subst (λ vs. IsLast (copied s l).memory (put (cluster_bytes s l) vs w))
      (last-values (chain_bytes s l) l.memory w last known)
      (write-last (cluster_bytes s l) (values l (chain_bytes s l)) l.memory w last)

  script-last : {c : _} {r : HubReply} {t : Turned} → Steps l side.Script c r t → TurnedLast t
  script-last (Stays t k) = stays-last k
  script-last {t = t} (Advances {x = x} o at free m) =
      operation-turn o at x t.lane refl refl (operation-last l w last none-new m)
  script-last {t = t} (Keeps {x = x} o at free s is big h m) =
      operation-turn o at x t.lane refl refl (operation-last l w last none-new m)
  script-last (Declines s now x declined) =
      subst (λ q. IsLast l.memory (by_send q (answer.Report x) l w))
      (sym (due-is l a stands agrees laid machine s now.due)) last
  script-last {t = t} (Resends {x = x} s now k untold m) =
      subst (λ q. IsLast x.lane.memory (by_send q x.answer l w)) (sym (due-is l a stands agrees laid machine s now.due))
      (subst (λ b. IsLast x.lane.memory (if b then w else put (cluster_bytes s l) (map w (chain_bytes s l)) w))
      (sym untold)
      (subst (λ memory. IsLast memory (put (cluster_bytes s l) (map w (chain_bytes s l)) w))
      (sym (same-bytes l a stands agrees laid machine s m))
      (chain-last s (chain-known l a stands agrees laid machine s now k))))
  script-last (Releases q rest is None there) = last
  script-last (Releases q rest is (Some o) there) = last

  callback-steps : {c : _} {r : HubReply} {t : Turned} → Steps l side.Callback c r t → TurnedLast t
  callback-steps (Stays t k) = stays-last k
  callback-steps (Calls m pages k) = callback-last l w last none-new k

  -- ---- items
  abbrev ItemLast : Item → Asking Outcome → Type 0
  ItemLast i (Gives x) = IsLast x.lane.memory (by_item i x.answer l w)
  ItemLast i (Asks c k) = ⊥

  plain-item : (i : Item) → IsPlain l w last none-new i → (x : Asking Outcome) → Only l (Transfer i) x → ItemLast i x
  plain-item i p (Gives x) h = item-last l w last none-new p h
  plain-item i p (Asks c k) h = h

  item-turn : (i : Item) → ItemLast i (transfer i l)
  item-turn (item.RingStep k) = step-last l w last k
  item-turn (item.Sync m ops) = plain-item (item.Sync m ops) tt _ (transfer-touches l (item.Sync m ops))
  item-turn (item.SyncRange m off len ops) =
      plain-item (item.SyncRange m off len ops) tt _ (transfer-touches l (item.SyncRange m off len ops))
  item-turn (item.DevRead m off len) = plain-item (item.DevRead m off len) tt _
      (transfer-touches l (item.DevRead m off len))
  item-turn (item.DevWrite m off bs) = plain-item (item.DevWrite m off bs) tt _
      (transfer-touches l (item.DevWrite m off bs))
  item-turn (item.DevReadAt t addr len) =
      plain-item (item.DevReadAt t addr len) tt _ (transfer-touches l (item.DevReadAt t addr len))
  item-turn (item.DevWriteAt t addr bs) =
      plain-item (item.DevWriteAt t addr bs) tt _ (transfer-touches l (item.DevWriteAt t addr bs))

  queue-last : (qs : List QueuedItem) → l.queue ≡ qs → (r : HubReply) → TurnedLast (by_reply (transfer_turn qs l) r)
  queue-last [] e r = last
  queue-last (q ∷ rest) e r = by (transfer q.item l) (item-turn q.item)
    where
      by : (x : Asking Outcome) → ItemLast q.item x → TurnedLast (by_reply (goes_on (left_queue q rest) x) r)
      by (Gives x) h = subst (λ qs. IsLast x.lane.memory (by_first qs x.answer l w)) (sym e) h
      by (Asks c k) h = absurd h

  pub turn-last : (s : Side) (r : HubReply) → TurnedLast (by_reply (lane_step l s) r)
  turn-last side.Script r = script-last (turn-steps l side.Script r)
  turn-last side.Transfer r = queue-last l.queue refl r
  turn-last side.Callback r = callback-steps (turn-steps l side.Callback r)

-- ---- reads

module _ (l : LaneState) (stands : Stands l) (laid : AreLaid l) (spaced : AreSpaced l) (mapped : AreMapped l)
    (w : Written) (last : IsLast l.memory w) where
  abbrev pub TurnReads : Turn → Type 0
  TurnReads (Stepped e) = ReadsLast e.did e.answer l w
  TurnReads Blocked = Unit {0}
  TurnReads Ended = Unit {0}

  -- what an outcome answers reads what was last written at these bytes
  abbrev ReadsAt : List ℕ → Asking Outcome → Type 0
  ReadsAt bytes (Gives x) = Reads x.answer bytes w
  ReadsAt bytes (Asks c k) = (r : HubReply) → Reads (k r).answer bytes w

  report : (bytes : List ℕ) (r : Report) → ReadsAt bytes (gives l (answer.Report r))
  report bytes r = tt

  -- ---- the driver
  driver-known : (b t : Bool) → (if b then Some CpuReadLent else if t then None else Some StaleByte) ≡ None → t ≡ true
  driver-known true t e = absurd (cc)
  driver-known false true e = refl
  driver-known false false e = absurd (cc)

  cpu-values : (keys : List ℕ) → cpu_read_answer (is_known l.memory) l.loans keys ≡ Fine → values l keys ≡ map w keys
  cpu-values keys fine =
      last-values keys l.memory w last (λ i b at.
      driver-known (lent to_write b l.loans) (is_known l.memory b)
      (fine_at (cpu_read_refusal (is_known l.memory) l.loans) 0 keys fine i b at))

  cpu-reads : (place : Place) (len : ℕ) → ReadsAt (place_bytes l place len) (cpu_read place len l)
  cpu-reads place len =
      absent l P (report bytes) (virtual_at l place) _ (λ va e.
      judged l P (report bytes) (first_unreached l va len) _ (λ reaches.
      judged l P (report bytes) (cpu_read_answer (is_known l.memory) l.loans (bytes_at l (run_of va len))) _ (λ fine.
      subst (λ y. values l (bytes_at l (run_of va len)) ≡ map w (bytes_at l (run_of (unwrap_or y 0) len))) (sym e)
      (cpu-values (bytes_at l (run_of va len)) fine))))
    where
      bytes : List ℕ
      bytes = place_bytes l place len

      P : Asking Outcome → Type 0
      P = ReadsAt (place_bytes l place len)

  abbrev OperationReads : Op → Asking Outcome → Type 0
  OperationReads o (Gives x) = ReadsNext (Some o) x.answer l w
  OperationReads o (Asks c k) = (r : HubReply) → ReadsNext (Some o) (k r).answer l w

  abbrev Nothing-read : Asking Outcome → Type 0
  Nothing-read (Gives x) = Unit {0}
  Nothing-read (Asks c k) = (r : HubReply) → Unit {0}

  nothing-read : (x : Asking Outcome) → Nothing-read x
  nothing-read (Gives x) = tt
  nothing-read (Asks c k) = λ r. tt

  operation-reads : (o : Op) → OperationReads o (operation o l)
  operation-reads (op.CpuRead place len) = cpu-reads place len
  operation-reads o = nothing-read (operation o l)

  went-reads : (o : Op) → slice_get l.script l.place ≡ Some o → (x : Outcome) → ReadsNext (Some o) x.answer l w →
      TurnReads (went_on o l.place x).turn
  went-reads o at x h = by (is_kept (send_of o) x.answer)
    where
      there : ReadsNext (slice_get l.script l.place) x.answer l w
      there = subst (λ q. ReadsNext q x.answer l w) (sym at) h

      by : (b : Bool) → TurnReads (if b then kept l.place x else advanced l.place x).turn
      by true = there
      by false = there

  next-reads : (q : Option Op) → slice_get l.script l.place ≡ q → (r : HubReply) →
      TurnReads (by_reply (next_operation q l) r).turn
  next-reads None at r = tt
  next-reads (Some o) at r = by (waits o l) (operation o l) (operation-reads o)
    where
      by : (b : Bool) (x : Asking Outcome) → OperationReads o x →
          TurnReads (by_reply (if b then Gives (stays Blocked l) else goes_on (went_on o l.place) x) r).turn
      by true x h = tt
      by false (Gives x) h = went-reads o at x h
      by false (Asks c k) h = went-reads o at (k r) (h r)

  due-reads : (q : Option Send) (r : HubReply) → TurnReads (by_reply (due_turn q l) r).turn
  due-reads None r = next-reads (slice_get l.script l.place) refl r
  due-reads (Some s) r = by (resend s l)
    where
      by : (x : Asking Outcome) → TurnReads (by_reply (goes_on (resent l.place) x) r).turn
      by (Gives x) = tt
      by (Asks c k) = tt

  script-reads : (rs : List Return) (r : HubReply) → TurnReads (by_reply (script_turn rs l) r).turn
  script-reads [] r = due-reads (due_send l) r
  script-reads (q ∷ rest) r = tt

  -- ---- devices
  device-reads : (m off len : ℕ) → ReadsAt (load_bytes l.loans m off len) (dev_read m off len l)
  device-reads m off len =
      unloaded l (ReadsAt bytes) (report bytes) m _ (λ o there i. past l (ReadsAt bytes) (report bytes) m off len _
      (judged l (ReadsAt bytes) (report bytes) (dev_read_answer (is_known l.memory) (loan_of l.loans m) off len) _
      (λ fine.
      range-values l w last m off len fine)))
    where
      bytes : List ℕ
      bytes = load_bytes l.loans m off len

  device-known : (p : Position) → dev_read_refusal (is_known l.memory) false p ≡ None → is_known l.memory p.pa ≡ true
  device-known p e = by p.to_read (is_known l.memory p.pa) e
    where
      by : (b t : Bool) → (if b then if t then None else Some StaleByte else Some DeviceReadUnlent) ≡ None → t ≡ true
      by true true e = refl
      by true false e = absurd (cc)
      by false t e = absurd (cc)

  -- a byte at a device address that may be read is Known
  raw-known : (t a : ℕ) → raw_refusal DeviceReadUnlent (dev_read_refusal (is_known l.memory) false) l t a ≡ None →
      is_known l.memory (unwrap_or (translated (l.spaces t) a) 0) ≡ true
  raw-known t a e =
      let h = judged-byte l stands laid spaced mapped DeviceReadUnlent (dev_read_refusal (is_known l.memory) false) t a
      e in
      ap (λ y. is_known l.memory (unwrap_or y 0)) h.lands ∙ device-known h.position h.allowed

  raw-values : (t : ℕ) (keys : List ℕ) →
      judged_by (raw_refusal DeviceReadUnlent (dev_read_refusal (is_known l.memory) false) l t) 0 keys ≡ Fine →
      values l (raw_bytes l t keys) ≡ map w (raw_bytes l t keys)
  raw-values t keys fine = last-values (raw_bytes l t keys) l.memory w last all
    where
      all : (i b : ℕ) → slice_get (raw_bytes l t keys) i ≡ Some b → is_known l.memory b ≡ true
      all i b at =
          by (slice_get keys i) refl (sym (slice_get-map (λ a. unwrap_or (translated (l.spaces t) a) 0) keys i) ∙ at)
        where
          by : (o : Option ℕ) → slice_get keys i ≡ o →
              option_map (λ a. unwrap_or (translated (l.spaces t) a) 0) o ≡ Some b → is_known l.memory b ≡ true
          by None q e = absurd (cc)
          by (Some a) q e =
              subst (λ k. is_known l.memory k ≡ true)
              (found_one (Some (unwrap_or (translated (l.spaces t) a) 0)) (unwrap_or (translated (l.spaces t) a) 0) b
              refl e)
              (raw-known t a (fine_at (raw_refusal DeviceReadUnlent (dev_read_refusal (is_known l.memory) false) l t) 0
              keys fine i a q))

  raw-reads : (t addr len : ℕ) → ReadsAt (raw_bytes l t (run_of addr len)) (dev_read_at t addr len l)
  raw-reads t addr len =
      absent l (ReadsAt bytes) (report bytes) (get l.tags t) _ (λ g there.
      judged l (ReadsAt bytes) (report bytes)
      (judged_by (raw_refusal DeviceReadUnlent (dev_read_refusal (is_known l.memory) false) l t) 0 (run_of addr len)) _
      (raw-values t (run_of addr len)))
    where
      bytes : List ℕ
      bytes = raw_bytes l t (run_of addr len)

  -- ---- rings
  abbrev RingReads : ℕ → Asking Outcome → Type 0
  RingReads k (Gives x) = IfBytes x.answer (ReadsCandidate (ring_of l k) l w)
  RingReads k (Asks c f) = (r : HubReply) → IfBytes (f r).answer (ReadsCandidate (ring_of l k) l w)

  unfetched-reads : (k : ℕ) (a : Answer) → IsUnfetched a → IfBytes a (ReadsCandidate (ring_of l k) l w)
  unfetched-reads k (answer.Bytes vs) u = absurd u
  unfetched-reads k _ u = tt

  fetched-reads : (k : ℕ) (g : Fetching l k) → IfBytes (told (head_of g.r l) g.c l) (ReadsCandidate g.r l w)
  fetched-reads k g = by ((head_of g.r l).kind == 1) (first-allowed g.r l g.c g.first)
    where
      by : (b : Bool) → (if b then dev_read_answer (is_known l.memory) (loan_of l.loans g.c.map) g.c.off
          (head_of g.r l).len
          else dev_write_answer (loan_of l.loans g.c.map) g.c.off (head_of g.r l).len) ≡ Fine →
          IfBytes (if b then answer.Bytes (values l (load_bytes l.loans g.c.map g.c.off (head_of g.r l).len))
          else answer.Done)
          (ReadsCandidate g.r l w)
      by true fine = record {
        candidate = g.c;
        among =
            subst (λ q. Contains (candidates_in q g.r.mem l (entries l.maps)) g.c) (sym (head-last l w last k g))
            (first-candidate g.r l g.c g.first);
        bytes =
            subst (λ q. values l (load_bytes l.loans g.c.map g.c.off (head_of g.r l).len)
            ≡ map w (load_bytes l.loans g.c.map g.c.off q.len)) (sym (head-last l w last k g))
            (range-values l w last g.c.map g.c.off (head_of g.r l).len fine);
      }
      by false fine = tt

  ring-reads : (k : ℕ) → RingReads k (ring_step k l)
  ring-reads k =
      by-fetch l k (RingReads k) (unfetched-reads k) (λ g.
      subst (λ r. IfBytes (told (head_of g.r l) g.c l) (ReadsCandidate r l w)) (sym (ring-is l k g))
      (fetched-reads k g))

  -- ---- items
  abbrev ItemReads : Item → Asking Outcome → Type 0
  ItemReads i (Gives x) = ReadsItem i x.answer l w
  ItemReads i (Asks c k) = (r : HubReply) → ReadsItem i (k r).answer l w

  item-reads : (i : Item) → ItemReads i (transfer i l)
  item-reads (item.DevRead m off len) = device-reads m off len
  item-reads (item.DevReadAt t addr len) = raw-reads t addr len
  item-reads (item.RingStep k) = ring-reads k
  item-reads i = nothing-read (transfer i l)

  queue-reads : (qs : List QueuedItem) → l.queue ≡ qs → (r : HubReply) →
      TurnReads (by_reply (transfer_turn qs l) r).turn
  queue-reads [] e r = tt
  queue-reads (q ∷ rest) e r = by (transfer q.item l) (item-reads q.item)
    where
      by : (x : Asking Outcome) → ItemReads q.item x → TurnReads (by_reply (goes_on (left_queue q rest) x) r).turn
      by (Gives x) h = subst (λ qs. ReadsFirst qs x.answer l w) (sym e) h
      by (Asks c k) h = subst (λ qs. ReadsFirst qs (k r).answer l w) (sym e) (h r)

  callback-reads : (r : HubReply) → TurnReads (called_back l r).turn
  callback-reads (reply.Called m pages) = tt
  callback-reads _ = tt

  pub turn-reads : (s : Side) (r : HubReply) → TurnReads (by_reply (lane_step l s) r).turn
  turn-reads side.Script r = script-reads l.returns r
  turn-reads side.Transfer r = queue-reads l.queue refl r
  turn-reads side.Callback r = callback-reads r
