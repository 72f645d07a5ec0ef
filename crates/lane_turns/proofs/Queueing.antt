-- An item does the same whatever else is in the transfer queue, and `Stands` holds of a driver with any queue.
use Rattle.std.proofs.Common.{◌≡◌, ℕ, ◌+◌, ◌-◌, ◌^◌, ◌==◌, ◌&&◌, ◌||◌, Bool, true, false, not, List, [], ◌∷◌, Option}
use Rattle.std.proofs.Common.{None, Some, cond, length, map, refl, sym, ap, ◌∙◌, subst, arith, if◌then◌else◌, is_some}
use Rattle.std.proofs.Common.{slice_get, unwrap_or}
use mathlib.Core.Logic.{∥∥₁_map}
use Rattle.busdma_base.specs.declared.journals.answer.Answer.{Answer}
use Rattle.busdma_base.specs.declared.journals.answer.Answer.TheVariants as answer
use Rattle.busdma_base.specs.declared.journals.journal.Did.TheVariants as did
use Rattle.busdma_base.specs.declared.journals.journal.Side.TheVariants as side
use Rattle.busdma_machine.specs.declared.machine.bio.Bio.TheVariants.{Vector}
use Rattle.busdma_machine.specs.declared.report.Judged.{Judged}
use Rattle.busdma_machine.specs.declared.report.Judged.TheVariants.{Fine, Refused}
use Rattle.busdma_machine.specs.declared.report.ReportName.{ReportName}
use Rattle.busdma_machine.specs.declared.report.ReportName.TheVariants.{DeviceReadUnlent, DeviceWriteUnlent}
use Rattle.busdma_machine.specs.declared.report.ReportName.TheVariants.{Untranslated}
use Rattle.busdma_machine.specs.Judging.{judged}
use Rattle.busdma_machine.specs.Runs.{run_of}
use Rattle.busdma_base.specs.declared.scenarios.script.Item.{Item}
use Rattle.busdma_base.specs.declared.scenarios.script.Item.TheVariants as item
use Rattle.busdma_machine.specs.Machine.Wire.{Wire, put, with_bytes_of}
use Rattle.busdma_base.specs.Scenarios.Operations.{bytes_of}
use Rattle.busdma_rules.specs.Tags.SyncOps.{is_mixed}
use Rattle.busdma_base.specs.declared.scenarios.queued.QueuedItem.{QueuedItem}
use Rattle.lane_tables.specs.Schedule.{Schedule}
use Rattle.busdma_rules.specs.Iommu.Space.{translated}
use Rattle.busdma_rules.specs.declared.position.Position.{Position}
use Rattle.busdma_rules.specs.Lending.Access.{dev_read_answer, dev_read_refusal, dev_write_answer, dev_write_refusal}
use Rattle.busdma_rules.specs.Lending.SyncEffects.{sync_answer}
use Rattle.busdma_rules.specs.Lending.Loans.{load_bytes, loan_of}
use Rattle.busdma_rules.specs.declared.descriptor.Descriptor.{Descriptor}
use Rattle.busdma_rules.specs.Rings.Ranges.{place_of}
use Rattle.std.specs.FinMap.{entries, get}
use Rattle.std.specs.Prelude.{nat_le, replicate}
use Rattle.ideal_lane.specs.Accesses.{place_in, position_in, raw_refusal, unless_unlent, values}
use Rattle.ideal_lane.specs.Asking.{Asking, Gives, goes_on}
use Rattle.ideal_lane.specs.IdealMemory.{is_known}
use Rattle.ideal_lane.specs.Outcomes.{Outcome, gives, is_loaded, load_length, unless_absent, unless_past}
use Rattle.ideal_lane.specs.Outcomes.{unless_refused}
use Rattle.ideal_lane.specs.Outcomes.{unless_unloaded}
use Rattle.ideal_lane.specs.Rings as rings
use Rattle.ideal_lane.specs.Rings.{Candidate, allowed, at_first, before_others, candidates, candidates_in, fetch}
use Rattle.ideal_lane.specs.Rings.{head_at}
use Rattle.ideal_lane.specs.Rings.{head_of, is_left_out, is_work, moved_on, retired, stored, used_candidate}
use Rattle.ideal_lane.specs.Standing.{Stands}
use Rattle.ideal_lane.specs.State.{LaneMap, LaneRing, LaneState}
use Rattle.ideal_lane.specs.Syncs.{sync_part}
use Rattle.ideal_lane.specs.Turns.{lane_step, left_queue, transfer, transfer_turn}
use Rattle.ideal_lane.specs.Unloads.{segments_in}
use Rattle.ideal_wire.proofs.Laid.SameBytes.{judged-same}
use Rattle.ideal_wire.proofs.Laid.StillLaid.{like}
use Rattle.ideal_wire.specs.Apart.{IsApart}
use Rattle.ideal_wire.specs.Centre.{IsFaithful}
use Rattle.ideal_wire.specs.Laid.{AreLaid}
use Rattle.ideal_wire.specs.Machine.{IsInMachine}
use Rattle.ideal_wire.specs.Mapped.{AreMapped}
use Rattle.ideal_wire.specs.Spaced.{AreSpaced}
use Rattle.ideal_wire.specs.WireStep as wires
use Rattle.ideal_wire.specs.WireStep.{fetched_wire, if_done, if_step_done, load_buses, used_wire}
use Rattle.phys_memory.specs.Memory.{wire}
use Rattle.lane_state.specs.declared.holdings.Holdings.{Holdings}
use Rattle.lane_turns.specs.declared.turn.Turn.{Turn}
use Rattle.lane_turns.specs.declared.turn.Turn.TheVariants.{Stepped}
use Rattle.lane_state.specs.Changes.{KeepsAgenda, KeepsBytes, KeepsButAgenda, KeepsState}
use Rattle.lane_state.specs.Held.{devices_of, held}
use Rattle.lane_state.specs.Ideal.{given, ideal_of}
use Rattle.lane_state.specs.Kept.{map_of, memory_of, return_of}
use Rattle.lane_state.specs.Kept.{kept_ring, kept_share, spaces_of, tag_of}
use Rattle.lane_state.specs.MapValues.{map_values}
use Rattle.lane_turns.specs.TakenTurns.{turn_taken}
use Rattle.lane_state.specs.Wire.{IsWired, held_pages, wire_of}

-- ---- an item, beside another queue

module _ (l : LaneState) (q : QueuedItem) (rest : List QueuedItem) where
  -- the driver with this queue
  abbrev pub beside : LaneState
  beside = record l { queue = rest }

  -- two steps leave the same after the item has left the queue, and the same wire, also if they are steps of a ring
  record IsAlike (x y : Asking Outcome) : Type 0 where
    pub step : goes_on (left_queue q rest) x ≡ goes_on (left_queue q rest) y
    pub wire : (after w : Wire) → if_done x after w ≡ if_done y after w
    pub fetched : (after w : Wire) → if_step_done x after w ≡ if_step_done y after w

  by-test : (b : Bool) (x x' y y' : Asking Outcome) → IsAlike x x' → IsAlike y y' → IsAlike (cond b x y) (cond b x' y')
  by-test true x x' y y' first second = first
  by-test false x x' y y' first second = second

  by-judged : (j : Judged) (x y : Asking Outcome) → IsAlike x y →
      IsAlike (unless_refused j beside x) (unless_refused j l y)
  by-judged Fine x y alike = alike
  by-judged (Refused r) x y alike = record { step = refl; wire = λ after w. refl; fetched = λ after w. refl }

  by-found : {X : Type 0} (o : Option X) (x y : X → Asking Outcome) → ((m : X) → IsAlike (x m) (y m)) →
      IsAlike (unless_absent o beside x) (unless_absent o l y)
  by-found None x y alike = record { step = refl; wire = λ after w. refl; fetched = λ after w. refl }
  by-found (Some m) x y alike = alike m

  -- the position of a device address is the same with the driver's own queue
  position-beside : (t a : ℕ) (es : List (ℕ × LaneMap)) → position_in beside t a es ≡ position_in l t a es
  position-beside t a [] = refl
  position-beside t a (e ∷ es) =
      ap (λ p. if e.1.tag == t && is_some (place_in 0 (segments_in e.1.stage) a)
      then slice_get (loan_of l.loans e.0).positions (unwrap_or (place_in 0 (segments_in e.1.stage) a) 0) else p)
      (position-beside t a es)

  raw-beside : (unlent : ReportName) (refusal : Position → Option ReportName) (t addr len : ℕ) →
      judged (raw_refusal unlent refusal beside t) 0 (run_of addr len)
      ≡ judged (raw_refusal unlent refusal l t) 0 (run_of addr len)
  raw-beside unlent refusal t addr len = λ i. judged (λ a.
      if nat_le (2 ^ 64) a || not (is_some (translated (l.spaces t) a)) then Some Untranslated
      else unless_unlent unlent refusal (position-beside t a (entries l.maps) i)) 0 (run_of addr len)

  by-raw : (unlent : ReportName) (refusal : Position → Option ReportName) (t addr len : ℕ) (x y : Asking Outcome) →
      IsAlike x y →
      IsAlike (unless_refused (judged (raw_refusal unlent refusal beside t) 0 (run_of addr len)) beside x)
      (unless_refused (judged (raw_refusal unlent refusal l t) 0 (run_of addr len)) l y)
  by-raw unlent refusal t addr len x y alike =
      subst (λ j. IsAlike (unless_refused j beside x)
      (unless_refused (judged (raw_refusal unlent refusal l t) 0 (run_of addr len)) l y))
      (sym (raw-beside unlent refusal t addr len))
      (by-judged (judged (raw_refusal unlent refusal l t) 0 (run_of addr len)) x y alike)

  by-loaded : (m : ℕ) (x y : LaneMap → Asking Outcome) → ((o : LaneMap) → IsAlike (x o) (y o)) →
      IsAlike (unless_unloaded m beside x) (unless_unloaded m l y)
  by-loaded m x y alike =
      by-found (get l.maps m) _ _ (λ o. by-test (is_loaded o.stage) _ _ _ _ (alike o)
      (record { step = refl; wire = λ after w. refl; fetched = λ after w. refl }))

  by-range : (m off len : ℕ) (x y : Asking Outcome) → IsAlike x y →
      IsAlike (unless_past m off len beside x) (unless_past m off len l y)
  by-range m off len x y alike =
      by-test (nat_le (off + len) (load_length l m)) _ _ _ _ alike
      (record { step = refl; wire = λ after w. refl; fetched = λ after w. refl })

  part-alike : (m : ℕ) (o : LaneMap) (off len ops : ℕ) →
      IsAlike (sync_part m o off len ops beside) (sync_part m o off len ops l)
  part-alike m o off len ops =
      by-test (is_mixed ops) _ _ _ _ (record { step = refl; wire = λ after w. refl; fetched = λ after w. refl })
      (by-judged (sync_answer l.loans m off len ops) _ _
      (record { step = refl; wire = λ after w. refl; fetched = λ after w. refl }))

  -- the candidates for a descriptor are the same with the driver's own queue
  candidates-beside : (d : Descriptor) (own : ℕ) (es : List (ℕ × LaneMap)) →
      candidates_in d own beside es ≡ candidates_in d own l es
  candidates-beside d own [] = refl
  candidates-beside d own (e ∷ es) =
      ap (λ cs. if is_left_out own l e then cs
      else before_others e.0 (place_of d.addr d.len (segments_in e.1.stage)) cs) (candidates-beside d own es)

  used-beside : (r : LaneRing) → used_candidate r beside ≡ used_candidate r l
  used-beside r =
      ap (λ cs. unwrap_or (slice_get (allowed (head_of r l) l cs) 0) (record { map = 0; off = 0 }))
      (candidates-beside (head_of r l) r.mem (entries l.maps))

  done-alike : (k : ℕ) (r : LaneRing) (d : Descriptor) (c : Candidate) (b : Bool) →
      IsAlike
      (gives (moved_on k r (retired r (if b then beside else stored c.map c.off d.len (replicate d.len d.fill) beside)))
      (if b then answer.Bytes (values beside (load_bytes l.loans c.map c.off d.len)) else answer.Done))
      (gives (moved_on k r (retired r (if b then l else stored c.map c.off d.len (replicate d.len d.fill) l)))
      (if b then answer.Bytes (values l (load_bytes l.loans c.map c.off d.len)) else answer.Done))
  done-alike k r d c true = record { step = refl; wire = λ after w. refl; fetched = λ after w. refl }
  done-alike k r d c false = record { step = refl; wire = λ after w. refl; fetched = λ after w. refl }

  first-alike : (k : ℕ) (r : LaneRing) (d : Descriptor) (cs : List Candidate) (o : Option Candidate) →
      IsAlike (at_first k r d cs o beside) (at_first k r d cs o l)
  first-alike k r d cs None = record { step = refl; wire = λ after w. refl; fetched = λ after w. refl }
  first-alike k r d cs (Some c) = done-alike k r d c (d.kind == 1)

  fetch-alike : (k : ℕ) (r : LaneRing) → IsAlike (fetch k r (head_of r l) beside) (fetch k r (head_of r l) l)
  fetch-alike k r =
      let d : Descriptor = head_of r l in
      let found : List Candidate → Option Candidate = λ cs. slice_get (allowed d l cs) 0 in
      by-test (not (d.owner == 1)) _ _ _ _ (record { step = refl; wire = λ after w. refl; fetched = λ after w. refl })
      (by-test (not (is_work d.kind d.len)) _ _ _ _
      (record { step = refl; wire = λ after w. refl; fetched = λ after w. refl })
      (subst (λ cs. IsAlike (at_first k r d cs (found cs) beside)
      (at_first k r d (candidates r l) (found (candidates r l)) l))
      (sym (candidates-beside d r.mem (entries l.maps)))
      (first-alike k r d (candidates r l) (found (candidates r l)))))

  item-alike : (i : Item) → IsAlike (transfer i beside) (transfer i l)
  item-alike (item.Sync m ops) = by-loaded m _ _ (λ o. part-alike m o 0 (load_length l m) ops)
  item-alike (item.SyncRange m off len ops) =
      by-loaded m _ _ (λ o. by-range m off len _ _ (part-alike m o off len ops))
  item-alike (item.DevRead m off len) =
      by-loaded m _ _ (λ o. by-range m off len _ _
      (by-judged (dev_read_answer (is_known l.memory) (loan_of l.loans m) off len) _ _
      (record { step = refl; wire = λ after w. refl; fetched = λ after w. refl })))
  item-alike (item.DevWrite m off bytes) =
      by-loaded m _ _ (λ o. by-range m off (length (bytes_of bytes)) _ _
      (by-judged (dev_write_answer (loan_of l.loans m) off (length (bytes_of bytes))) _ _
      (record { step = refl; wire = λ after w. refl; fetched = λ after w. refl })))
  item-alike (item.DevReadAt t addr len) =
      by-found (get l.tags t) _ _ (λ o. by-raw DeviceReadUnlent (dev_read_refusal (is_known l.memory) false) t addr len
      _ _
      (record { step = refl; wire = λ after w. refl; fetched = λ after w. refl }))
  item-alike (item.DevWriteAt t addr bytes) =
      by-found (get l.tags t) _ _ (λ o. by-raw DeviceWriteUnlent (dev_write_refusal false) t addr
      (length (bytes_of bytes)) _ _ (record { step = refl; wire = λ after w. refl; fetched = λ after w. refl }))
  item-alike (item.RingStep k) =
      by-found (get l.rings k) _ _ (λ r.
      by-loaded r.mem _ _ (λ o. by-range r.mem (head_at r) 16 _ _
      (by-judged (dev_read_answer (is_known l.memory) (loan_of l.loans r.mem) (head_at r) 16) _ _ (fetch-alike k r))))

  -- the step and the wire of an item are the same with the driver's own queue
  pub item-beside : (i : Item) →
      goes_on (left_queue q rest) (transfer i beside) ≡ goes_on (left_queue q rest) (transfer i l)
  item-beside i = (item-alike i).step

  pub wire-beside : (i : Item) (w : Wire) → wires.wire_transfer i beside w ≡ wires.wire_transfer i l w
  wire-beside (item.Sync m ops) w = (item-alike (item.Sync m ops)).wire _ w
  wire-beside (item.SyncRange m off len ops) w = (item-alike (item.SyncRange m off len ops)).wire _ w
  wire-beside (item.DevRead m off len) w = refl
  wire-beside (item.DevWrite m off bytes) w = (item-alike (item.DevWrite m off bytes)).wire _ w
  wire-beside (item.DevReadAt t addr len) w = refl
  wire-beside (item.DevWriteAt t addr bytes) w = (item-alike (item.DevWriteAt t addr bytes)).wire _ w
  wire-beside (item.RingStep k) w =
      let r : LaneRing = rings.ring_of l k in
      ap (λ c. if_step_done (rings.ring_step k beside)
      (put (load_buses l r.mem (head_at r + 14) 2) (0 ∷ 1 ∷ []) (used_wire (head_of r l) c l w)) w) (used-beside r)
      ∙ (item-alike (item.RingStep k)).fetched (fetched_wire r l w) w

-- ---- holdings with another queue

module _ (h k : Holdings) (rest : KeepsButAgenda h k)
    (agenda : k.agenda ≡ record h.agenda { queue = k.agenda.queue; room = k.agenda.room }) where
  pub queue-ideal : ideal_of k ≡ record (ideal_of h) { queue = k.agenda.queue }
  queue-ideal = λ i. record {
    id = (rest.most.id i).0;
    maxmem = rest.most.maxmem i;
    script = rest.most.script i;
    place = (agenda i).place;
    due = rest.most.due i;
    pages = (rest.most.pages i).now;
    tags = map_values tag_of (rest.tags i).map;
    maps = map_values map_of (rest.maps i).map;
    mems = map_values memory_of (rest.most.memories i).map;
    rings = map_values kept_ring (rest.most.rings i).map;
    memory = held (rest.most.loans i).bytes (rest.most.loans i).loans (devices_of (rest.maps i).map)
        (rest.most.memory i).memory;
    loans = (rest.most.loans i).loans;
    queue = k.agenda.queue;
    returns = map return_of (agenda i).returns;
    shares = kept_share (rest.most.shares i).items;
    spaces = spaces_of (rest.tags i).map;
  }

  pub queue-wire : wire_of k ≡ wire_of h
  queue-wire = λ i. with_bytes_of (held_pages (rest.maps i).map) (wire (rest.most.memory i).memory)

  pub queue-bytes : KeepsBytes h k
  queue-bytes = record {
    own = ap (λ m. wire m.memory) rest.most.memory;
    pages = λ m. ap (λ t. (devices_of t.map m).pages) rest.maps;
  }

  pub queue-wired : IsWired h → IsWired k
  queue-wired wired =
      let l = ideal_of h in
      let beside : LaneState = record l { queue = k.agenda.queue } in
      let back = sym queue-ideal in
      let machine : IsInMachine beside = record {
        numbered = wired.machine.numbered;
        pages = wired.machine.pages;
        mems = wired.machine.mems;
        tags = wired.machine.tags;
        bios = wired.machine.bios;
        clusters = wired.machine.clusters;
        unlike = wired.machine.unlike;
        due = λ s e. judged-same l beside refl refl s.map (Vector s.chain) ∙ wired.machine.due s e;
      } in
      let laid : AreLaid beside = like l wired.laid beside
      (record { script = refl; pages = refl; maxmem = refl; own = λ b. refl; mems = refl }) (λ n o e. refl) refl refl in
      let apart : IsApart beside = record {
        away = wired.apart.away;
        one = wired.apart.one;
        pages = wired.apart.pages;
        memories = wired.apart.memories;
      } in
      let spaced : AreSpaced beside = record { each = wired.spaced.each; none = wired.spaced.none } in
      let mapped : AreMapped l → AreMapped beside = (λ m. record {
        each = λ n o e d g. (let one = m.each n o e d g in record { run = one.run; found = one.found });
        alone = m.alone;
      }) in
      let faithful : IsFaithful beside (wire_of k) = subst (IsFaithful l) (sym queue-wire) wired.faithful in
      record {
        machine = subst IsInMachine back machine;
        laid = subst AreLaid back laid;
        apart = subst IsApart back apart;
        spaced = subst AreSpaced back spaced;
        mapped = ∥∥₁_map wired.mapped (λ m. subst AreMapped back (mapped m));
        faithful = subst (λ n. IsFaithful n (wire_of k)) back faithful;
      }

  pub queue-stands : Stands (ideal_of h) → Stands (ideal_of k)
  queue-stands = subst Stands (sym queue-ideal)

-- ---- the turn of a transfer: an item left the queue, and then it was done

module _ (h k n : Holdings) (q : QueuedItem) (first : h.agenda.queue ≡ q ∷ k.agenda.queue) (left : KeepsButAgenda h k)
    (agenda : k.agenda ≡ record h.agenda { queue = k.agenda.queue; room = k.agenda.room })
    (stays : n.agenda ≡ k.agenda) where
  abbrev l : LaneState
  l = ideal_of h

  abbrev rest : List QueuedItem
  rest = k.agenda.queue

  queued : ideal_of k ≡ record (ideal_of h) { queue = k.agenda.queue }
  queued = queue-ideal h k left agenda

  pub item-done : (a : Answer) (t : Turn) → Gives (given n a) ≡ transfer q.item (ideal_of k) →
      t ≡ Stepped (record {
        actor = record { lane = n.id; side = side.Transfer };
        did = did.Item q.load_at q.place;
        answer = a;
      }) false → Gives (turn_taken n t) ≡ lane_step (ideal_of h) side.Transfer
  item-done a t done is =
      ap (λ x. Gives (turn_taken n x)) is
      ∙ ap (λ (g : Schedule). goes_on (left_queue q g.queue) (Gives (given n a))) stays
      ∙ ap (goes_on (left_queue q rest)) done
      ∙ ap (λ x. goes_on (left_queue q rest) (transfer q.item x)) queued
      ∙ item-beside l q rest q.item
      ∙ ap (λ qs. transfer_turn qs l) (sym first)

  pub item-wire : wire_of n ≡ wires.wire_transfer q.item (ideal_of k) (wire_of k) →
      wire_of n ≡ wires.wire_lane_step (ideal_of h) side.Transfer (wire_of h)
  item-wire done =
      done ∙ ap (λ w. wires.wire_transfer q.item (ideal_of k) w) (queue-wire h k left agenda)
      ∙ ap (λ x. wires.wire_transfer q.item x (wire_of h)) queued
      ∙ wire-beside l q rest q.item (wire_of h)
      ∙ ap (λ qs. wires.wire_transfer_turn qs l (wire_of h)) (sym first)

  -- memory ran out, and the item was put back
  pub item-back : (b : Holdings) → KeepsState k n → KeepsButAgenda n b →
      b.agenda ≡ record n.agenda { queue = q ∷ n.agenda.queue; room = n.agenda.room - 1 } → KeepsState h b
  item-back b s back with_item =
      let queue : b.agenda.queue ≡ h.agenda.queue =
      ap (λ a. a.queue) with_item ∙ ap (λ a. q ∷ a.queue) stays ∙ sym first in
      let again : b.agenda ≡ record n.agenda { queue = b.agenda.queue; room = b.agenda.room } =
      (λ i. record (with_item i) { queue = b.agenda.queue; room = b.agenda.room }) in
      let before = queue-bytes h k left agenda in
      let after = queue-bytes n b back again in
      record {
        ideal = queue-ideal n b back again
            ∙ ap (λ (x : LaneState). record x { queue = b.agenda.queue }) (s.ideal ∙ queued)
            ∙ ap (λ qs. record l { queue = qs }) queue;
        bytes = record {
          own = after.own ∙ s.bytes.own ∙ before.own;
          pages = λ m. after.pages m ∙ s.bytes.pages m ∙ before.pages m;
        };
      }

  pub item-agenda : k.agenda.room ≡ h.agenda.room + 1 → KeepsAgenda h n
  item-agenda room = record {
    place = ap (λ a. a.place) stays ∙ ap (λ a. a.place) agenda;
    end = ap (λ a. a.length) stays ∙ ap (λ a. a.length) agenda;
    capacity = omega (arith, room, ap (λ a. a.room) stays, ap (λ a. length a.queue) stays, ap length first);
  }

  pub back-agenda : (b : Holdings) → k.agenda.room ≡ h.agenda.room + 1 →
      b.agenda ≡ record n.agenda { queue = q ∷ n.agenda.queue; room = n.agenda.room - 1 } → KeepsAgenda h b
  back-agenda b room with_item = record {
    place = ap (λ a. a.place) with_item ∙ ap (λ a. a.place) stays ∙ ap (λ a. a.place) agenda;
    end = ap (λ a. a.length) with_item ∙ ap (λ a. a.length) stays ∙ ap (λ a. a.length) agenda;
    capacity = omega (
      arith,
      room,
      ap (λ a. a.room) stays,
      ap (λ a. length a.queue) stays,
      ap length first,
      ap (λ a. a.room) with_item,
      ap (λ a. length a.queue) with_item,
    );
  }
