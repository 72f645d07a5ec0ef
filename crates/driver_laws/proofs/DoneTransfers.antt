-- Transfers that are done: the reads and writes of a device after the sync before them, and the driver's read after
-- POSTREAD.
use Rattle.std.proofs.Common.{◌≡◌, ℕ, true, List, length, Some, slice_get, is_some, ap, sym, ◌∙◌, subst, ◌||◌, false}
use Rattle.std.proofs.Common.{unwrap_or}
use Rattle.std.proofs.lemmas.Option.{slice_get-map}
use Rattle.std.specs.FinMap.{get}
use Rattle.std.specs.Option.{option_map}
use Rattle.busdma_machine.specs.declared.bounce.hold.HubReply.TheVariants as reply
use Rattle.busdma_machine.specs.declared.machine.address.Segment.{Segment}
use Rattle.busdma_machine.specs.declared.report.Judged.TheVariants.{Fine}
use Rattle.busdma_base.specs.declared.journals.answer.Answer.TheVariants as answer
use Rattle.busdma_base.specs.declared.scenarios.buffer.Buffer.TheVariants.{Flat}
use Rattle.busdma_base.specs.declared.scenarios.script.Item.{Item}
use Rattle.busdma_base.specs.declared.scenarios.script.Place.{Place}
use Rattle.busdma_rules.specs.Lending.Loans.{lent, load_bytes, loan_of, to_write}
use Rattle.busdma_rules.specs.Lending.SyncEffects.{synced}
use Rattle.busdma_rules.specs.Tags.SyncOps.{postread, preread, prewrite}
use Rattle.busdma_rules.specs.declared.position.Position.{Position}
use Rattle.busdma_rules.proofs.Memory.Paged.{IsPaged}
use Rattle.ideal_lane.specs.Accesses.{cpu_read, cpu_write, dev_read, dev_write, values}
use Rattle.ideal_lane.specs.Asking.{Asking, by_reply}
use Rattle.ideal_lane.specs.IdealMemory.{is_known, written}
use Rattle.ideal_lane.specs.Loads.{is_coherent}
use Rattle.ideal_lane.specs.Outcomes.{Outcome, gives, load_length}
use Rattle.ideal_lane.specs.Places.{first_unreached}
use Rattle.ideal_lane.specs.State.{LaneState}
use Rattle.ideal_lane.specs.Syncs.{sync}
use Rattle.ideal_lane.specs.Turns.{load_buffer}
use Rattle.ideal_wire.specs.Apart.{IsApart}
use Rattle.ideal_wire.specs.Laid.{AreLaid}
use Rattle.ideal_wire.specs.Machine.{IsInMachine}
use Rattle.ideal_wire.specs.WireStep.{place_bytes}
use Rattle.ideal_wire.proofs.Faithful.Wiring.{own-forgotten}
use Rattle.ideal_wire.proofs.Laid.SameBytes.{physical-same}
use Rattle.ideal_wire.proofs.Loads.Reaching.{paged}
use Rattle.driver_laws.specs.Steps.{DiffersInWork, IsStep, KeepsContents, mapped_bytes}
use Rattle.driver_laws.proofs.Accessing.{begin_at, dev_write-is, write-is}
use Rattle.driver_laws.proofs.Allowed.{cpu_read-done, dev_read-done, dev_write-done, marks, preread-lends}
use Rattle.driver_laws.proofs.Allowed.{prewrite-lends, written-knows}
use Rattle.driver_laws.proofs.Differing.{same-contents, same-place, same-reached, same-virtual, then-keeps, worked}
use Rattle.driver_laws.proofs.Loading.{HasLoad, flat-mapped, flat-reached, flat-there, has-load, load-coherent}
use Rattle.driver_laws.proofs.Loading.{load-contents, load-unlent, still-loaded}
use Rattle.driver_laws.proofs.Once.{bytes-own}
use Rattle.driver_laws.proofs.Syncing.{postread-keeps, prewrite-keeps, sync-alone, sync-coherent, sync-contents}
use Rattle.driver_laws.proofs.Syncing.{sync-fine, sync-forgets, sync-load, sync-loans, sync-mapped, sync-mems}
use Rattle.driver_laws.proofs.Syncing.{sync-others, sync-pages}
use Rattle.driver_laws.proofs.Transfers.{device-reads, driver-reads, place-length, whole-load}
use Rattle.driver_laws.proofs.Unlent.{byte-alone, unlent-so}

-- ---- the device's read and write are done

module _ (a b c d : LaneState) (place : Place) (vs : List ℕ) (m flags ops : ℕ) (items : List Item)
    (segments : List Segment) (laid : AreLaid a) (machine : IsInMachine a) (apart : IsApart a)
    (write : IsStep (cpu_write place vs) a b answer.Done)
    (loads : IsStep (load_buffer m (Flat place (length vs)) flags items) b c (answer.Segments segments))
    (syncs : IsStep (sync m ops) c d answer.Done) (pre : prewrite ops ≡ true) where
  -- the bytes of the place
  keys : List ℕ
  keys = place_bytes a place (length vs)

  written-so : DiffersInWork (record a { memory = written (place_bytes a place (length vs)) vs a.memory }) b
      × (first_unreached a (begin_at a place) (length vs) ≡ Fine)
  written-so = write-is a b place vs write

  after : KeepsContents (record a { memory = written (place_bytes a place (length vs)) vs a.memory }) b
  after = same-contents (record a { memory = written (place_bytes a place (length vs)) vs a.memory }) b written-so.0

  kept : KeepsContents b d
  kept =
      then-keeps b c d (load-contents b c m flags (Flat place (length vs)) items segments loads)
      (sync-contents c d m ops syncs (prewrite-keeps ops pre))

  mapped : mapped_bytes d m ≡ place_bytes a place (length vs)
  mapped =
      sync-mapped c d m ops syncs m
      ∙ flat-mapped b c m (length vs) flags place items segments loads
      (subst (IsPaged (λ p. Unit {0})) (sym (physical-same a b after.mems after.pages)) (paged a laid machine))
      ∙ same-place a b after.mems after.pages place (length vs)

  loaded : HasLoad d m segments
  loaded =
      sync-load c d m ops syncs segments (has-load b c m flags (Flat place (length vs)) items segments loads)

  module _ (e : LaneState) (same : DiffersInWork d e) where
    long : length (mapped_bytes e m) ≡ length vs
    long = ap (λ (y : LaneState). length (mapped_bytes y m)) same ∙ ap length mapped ∙ place-length a place (length vs)

    loans : e.loans ≡ synced c.loans m 0 (load_length c m) ops
    loans = ap (λ (y : LaneState). y.loans) same ∙ sync-loans c d m ops syncs

    memory : e.memory ≡ written (place_bytes a place (length vs)) vs a.memory
    memory = ap (λ (y : LaneState). y.memory) same ∙ kept.memory ∙ after.memory

    may-read : (i : ℕ) (p : Position) → slice_get (loan_of e.loans m).positions i ≡ Some p →
        (((loan_of e.loans m).coherent || p.to_read) ≡ true) × (is_known e.memory p.pa ≡ true)
    may-read i p at =
        let there : slice_get (place_bytes a place (length vs)) i ≡ Some p.pa =
        ap (λ xs. slice_get xs i) (sym (ap (λ (y : LaneState). mapped_bytes y m) same ∙ mapped))
        ∙ slice_get-map (λ (q : Position). q.pa) (loan_of e.loans m).positions i
        ∙ ap (option_map (λ (q : Position). q.pa)) at in (
          ap (λ q. (loan_of q m).coherent || p.to_read) loans
              ∙ marks c.loans m ops (λ q. q.to_read) (prewrite-lends ops pre (sync-alone c d m ops syncs)) i p
              (sym (ap (λ q. slice_get (loan_of q m).positions i) loans) ∙ at),
          ap (λ w. is_known w p.pa) memory
              ∙ written-knows (place_bytes a place (length vs)) vs a.memory (place-length a place (length vs)) i p.pa
              there
              (bytes-own a (begin_at a place) (length vs) written-so.1 laid i p.pa there),
        )

    done : dev_read m 0 (length vs) e ≡ gives e (answer.Bytes (values e (load_bytes e.loans m 0 (length vs))))
    done = dev_read-done e m (length vs) segments (still-loaded d e m segments same loaded) long may-read

    step : IsStep (dev_read m 0 (length vs)) d e (answer.Bytes (values e (load_bytes e.loans m 0 (length vs))))
    step = record {
      begun = e;
      same = same;
      reply = reply.Nothing;
      left = ap (λ (x : Asking Outcome). worked e (by_reply x reply.Nothing).lane) (sym done);
      answer = ap (λ (x : Asking Outcome). (by_reply x reply.Nothing).answer) (sym done);
    }

    pub device-done : dev_read m 0 (length vs) e ≡ gives e (answer.Bytes vs)
    device-done =
        done
        ∙ ap (λ xs. gives e (answer.Bytes xs))
        (device-reads a b c d e place vs (values e (load_bytes e.loans m 0 (length vs))) m flags ops items segments laid
        machine apart write loads syncs pre step)

module _ (a b c : LaneState) (place : Place) (vs : List ℕ) (m flags ops : ℕ) (items : List Item)
    (segments : List Segment) (laid : AreLaid a) (machine : IsInMachine a)
    (loads : IsStep (load_buffer m (Flat place (length vs)) flags items) a b (answer.Segments segments))
    (syncs : IsStep (sync m ops) b c answer.Done) (pre : preread ops ≡ true) where
  pub device-written : (d : LaneState) → DiffersInWork c d →
      dev_write m 0 vs d
      ≡ gives (record d { memory = written (place_bytes a place (length vs)) vs d.memory }) answer.Done
  device-written d same =
      let len : ℕ = length vs in
      let keys : List ℕ = place_bytes a place len in
      let mapped : mapped_bytes d m ≡ keys =
      ap (λ (y : LaneState). mapped_bytes y m) same ∙ sync-mapped b c m ops syncs m
      ∙ flat-mapped a b m len flags place items segments loads (paged a laid machine) in
      let loans : d.loans ≡ synced b.loans m 0 (load_length b m) ops =
      ap (λ (y : LaneState). y.loans) same ∙ sync-loans b c m ops syncs in
      dev_write-done d m vs segments
      (still-loaded c d m segments same (sync-load b c m ops syncs segments
      (has-load a b m flags (Flat place len) items segments loads))) (ap length mapped ∙ place-length a place len)
      (λ i p at. ap (λ q. (loan_of q m).coherent || p.to_write) loans
      ∙ marks b.loans m ops (λ q. q.to_write) (preread-lends ops pre (sync-alone b c m ops syncs)) i p
      (sym (ap (λ q. slice_get (loan_of q m).positions i) loans) ∙ at))
      ∙ ap (λ ks. gives (record d { memory = written ks vs d.memory }) answer.Done)
      (whole-load d m len keys mapped (place-length a place len))

-- ---- the driver's read is done

module _ (a b c d e : LaneState) (place : Place) (vs : List ℕ) (m flags before after : ℕ) (items : List Item)
    (segments : List Segment) (laid : AreLaid a) (machine : IsInMachine a) (apart : IsApart a)
    (direct : is_coherent (get a.mems m) ≡ false)
    (loads : IsStep (load_buffer m (Flat place (length vs)) flags items) a b (answer.Segments segments))
    (first : IsStep (sync m before) b c answer.Done) (pre : preread before ≡ true)
    (writes : IsStep (dev_write m 0 vs) c d answer.Done) (last : IsStep (sync m after) d e answer.Done)
    (post : postread after ≡ true) where
  loaded-direct : (loan_of b.loans m).coherent ≡ false
  loaded-direct = load-coherent a b m flags (Flat place (length vs)) items segments loads ∙ direct

  found : mapped_bytes b m ≡ place_bytes a place (length vs)
  found = flat-mapped a b m (length vs) flags place items segments loads (paged a laid machine)

  -- the device's write changes no loan
  same-loans : d.loans ≡ c.loans
  same-loans = ap (λ (y : LaneState). y.loans) (dev_write-is c d m 0 vs writes)

  ended-loans : e.loans ≡ synced d.loans m 0 (load_length d m) after
  ended-loans = sync-loans d e m after last

  still-direct : (loan_of e.loans m).coherent ≡ false
  still-direct =
      sync-coherent d e m after last
      (ap (λ loans. (loan_of loans m).coherent) same-loans ∙ sync-coherent b c m before first loaded-direct)

  -- no map lends a byte of the place to write
  free : (i x : ℕ) → slice_get (place_bytes a place (length vs)) i ≡ Some x → lent to_write x e.loans ≡ false
  free i x at =
      ap (lent to_write x) ended-loans
      ∙ unlent-so b.loans d.loans m after post
      (ap (λ loans. (loan_of loans m).coherent) (sym ended-loans) ∙ still-direct)
      (λ j ne. ap (λ loans. loan_of loans j) (sym ended-loans) ∙ sync-others d e m after last j ne
      ∙ ap (λ loans. loan_of loans j) same-loans ∙ sync-others b c m before first j ne) x
      (byte-alone b.loans m before pre loaded-direct (sync-fine b c m before first)
      (load-unlent a b m flags (Flat place (length vs)) items segments loads) i x
      (ap (λ xs. slice_get xs i) found ∙ at))

  module _ (f : LaneState) (same : DiffersInWork e f) where
    pages : f.pages ≡ a.pages
    pages =
        ap (λ (y : LaneState). y.pages) same
        ∙ (sync-pages d e m after last
        ∙ (ap (λ (y : LaneState). y.pages) (dev_write-is c d m 0 vs writes)
        ∙ (sync-pages b c m before first
        ∙ (load-contents a b m flags (Flat place (length vs)) items segments loads).pages)))

    mems : f.mems ≡ a.mems
    mems =
        ap (λ (y : LaneState). y.mems) same
        ∙ (sync-mems d e m after last
        ∙ (ap (λ (y : LaneState). y.mems) (dev_write-is c d m 0 vs writes)
        ∙ (sync-mems b c m before first
        ∙ (load-contents a b m flags (Flat place (length vs)) items segments loads).mems)))

    reached : first_unreached a (begin_at a place) (length vs) ≡ Fine
    reached = flat-reached a b m (length vs) flags place items segments loads

    -- what the device wrote is in memory
    filled : f.memory ≡ written (place_bytes a place (length vs)) vs c.memory
    filled =
        ap (λ (y : LaneState). y.memory) same
        ∙ ((sync-contents d e m after last (postread-keeps after post (sync-alone d e m after last))).memory
        ∙ (ap (λ (y : LaneState). y.memory) (dev_write-is c d m 0 vs writes)
        ∙ ap (λ ks. written ks vs c.memory)
        (whole-load c m (length vs) (place_bytes a place (length vs)) (sync-mapped b c m before first m ∙ found)
        (place-length a place (length vs)))))

    own : (i x : ℕ) → slice_get (place_bytes a place (length vs)) i ≡ Some x → is_some (c.memory x) ≡ true
    own i x at =
        (λ j. is_some ((sync-forgets b c m before first).1 j x))
        ∙ own-forgotten (sync-forgets b c m before first).0 b.memory x
        ∙ (λ j. is_some ((load-contents a b m flags (Flat place (length vs)) items segments loads).memory j x))
        ∙ bytes-own a (begin_at a place) (length vs) reached laid i x at

    can-read : (i x : ℕ) → slice_get (place_bytes f place (length vs)) i ≡ Some x →
        (lent to_write x f.loans ≡ false) × (is_known f.memory x ≡ true)
    can-read i x at =
        let there : slice_get (place_bytes a place (length vs)) i ≡ Some x =
        ap (λ xs. slice_get xs i) (sym (same-place a f mems pages place (length vs))) ∙ at in (
          ap (λ (y : LaneState). lent to_write x y.loans) same ∙ free i x there,
          ap (λ w. is_known w x) filled
              ∙ written-knows (place_bytes a place (length vs)) vs c.memory (place-length a place (length vs)) i x there
              (own i x there),
        )

    read-done : cpu_read place (length vs) f ≡ gives f (answer.Bytes (values f (place_bytes f place (length vs))))
    read-done =
        cpu_read-done f place (length vs)
        (same-virtual a f mems pages place ∙ flat-there a b m (length vs) flags place items segments loads
        ∙ ap (λ o. Some (unwrap_or o 0)) (sym (same-virtual a f mems pages place)))
        (same-reached a f mems pages place (length vs) ∙ reached) can-read

    read-step : IsStep (cpu_read place (length vs)) e f (answer.Bytes (values f (place_bytes f place (length vs))))
    read-step = record {
      begun = f;
      same = same;
      reply = reply.Nothing;
      left = ap (λ (x : Asking Outcome). worked f (by_reply x reply.Nothing).lane) (sym read-done);
      answer = ap (λ (x : Asking Outcome). (by_reply x reply.Nothing).answer) (sym read-done);
    }

    pub driver-done : cpu_read place (length vs) f ≡ gives f (answer.Bytes vs)
    driver-done =
        read-done
        ∙ ap (λ xs. gives f (answer.Bytes xs))
        (driver-reads a b c d e f place vs (values f (place_bytes f place (length vs))) m flags before after items
        segments
        laid machine apart loads first writes last post read-step)
