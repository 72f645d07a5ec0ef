-- The steps that change bytes or read them leave the wire faithful, and read what the ideal memory has.
use Rattle.std.proofs.Common.{◌≡◌, ℕ, ◌+◌, if◌then◌else◌, Bool, true, false, cond, [], ◌∷◌, ◌==◌, ◌⊎◌, Option, Some}
use Rattle.std.proofs.Common.{None, List, length}
use Rattle.std.proofs.Common.{is_some, refl, sym, ◌∙◌, subst, unwrap_or}
use Rattle.std.specs.FinMap.{get}
use Rattle.std.specs.Prelude.{replicate}
use Rattle.std.specs.Option.{option_map}
use Rattle.busdma_base.specs.declared.journals.answer.Answer.TheVariants as answer
use Rattle.busdma_machine.specs.declared.report.Judged.TheVariants.{Fine}
use Rattle.busdma_base.specs.declared.scenarios.script.Place.{Place}
use Rattle.busdma_machine.specs.Machine.Wire.{Wire, put}
use Rattle.busdma_machine.specs.declared.report.ReportName.TheVariants.{DeviceReadUnlent}
use Rattle.busdma_machine.specs.Judging.{judged as judged_by}
use Rattle.busdma_machine.specs.Runs.{run_of}
use Rattle.busdma_rules.specs.Tags.SyncOps.{is_mixed}
use Rattle.busdma_rules.specs.declared.descriptor.Descriptor.{Descriptor}
use Rattle.busdma_rules.specs.Rings.Descriptors.{descriptor_bytes}
use Rattle.busdma_rules.specs.Lending.Access.{cpu_read_answer, dev_read_answer, dev_read_refusal}
use Rattle.busdma_rules.specs.Lending.SyncEffects.{sync_answer, marked_range, lost}
use Rattle.busdma_rules.specs.Lending.Loans.{loan_of, addresses_of, load_bytes}
use Rattle.busdma_rules.proofs.Lending.Marking.{same_bytes, addresses_of-marked_range}
use Rattle.ideal_lane.specs.Accesses.{cpu_read, dev_read, dev_read_at, raw_bytes, raw_refusal, values}
use Rattle.ideal_lane.specs.Asking.{Asking}
use Rattle.ideal_lane.specs.IdealMemory.{IdealMemory, Content, Known, Unknown, is_known, has_address, forgotten}
use Rattle.ideal_lane.specs.IdealMemory.{written}
use Rattle.ideal_lane.specs.IdealMemory.{written_at}
use Rattle.ideal_lane.specs.Outcomes.{Outcome, gives, unless_refused, unless_past, load_length}
use Rattle.ideal_lane.specs.Places.{virtual_at, first_unreached, bytes_at}
use Rattle.ideal_lane.specs.Rings.{Candidate, head_at, no_ring, posted, retired, ring_of, slot_place, stored, used}
use Rattle.ideal_lane.specs.State.{LaneState, LaneMap, LaneRing}
use Rattle.ideal_lane.specs.Syncs.{bounced_in}
use Rattle.ideal_lane.specs.Unloads.{segments_in}
use Rattle.ideal_lane.proofs.Effects.{DeviceWrites, Fetches, IsSync, IsUndone, Operation, Posts, Range, RangeItem}
use Rattle.ideal_lane.proofs.Effects.{RawWrites}
use Rattle.ideal_lane.proofs.Effects.{Same, Syncs, Touches, Transfer, Whole, WholeItem, Work, Writes, after_sync}
use Rattle.ideal_lane.proofs.Effects.{after_write}
use Rattle.ideal_wire.specs.Apart.{IsApart}
use Rattle.ideal_wire.specs.Centre.{IsFaithful, HasTrueByte}
use Rattle.ideal_wire.specs.Laid.{AreLaid}
use Rattle.ideal_wire.specs.Traces.{stage_at, stage_in, placed_from, traces_of}
use Rattle.ideal_wire.specs.WireStep as wire
use Rattle.ideal_wire.specs.WireStep.{BringsKnown, IsRead, KeepsOwn, KeepsPages, place_bytes, load_buses, if_answered}
use Rattle.ideal_wire.proofs.Faithful.Carried.{AreBused, are-bused, carried, same-carries}
use Rattle.ideal_wire.proofs.Faithful.FaithfulAccess.{cpu_read_of, reached_own, cpu_written, dev_read_of, dev_written}
use Rattle.ideal_wire.proofs.Faithful.FaithfulRanges.{by_map}
use Rattle.ideal_wire.proofs.Faithful.FaithfulRaw.{raw_read, raw_written}
use Rattle.ideal_wire.proofs.Faithful.PlacedWires.{Faithful}
use Rattle.ideal_wire.proofs.Faithful.PlacedLoads.{own, are-placed}
use Rattle.ideal_wire.proofs.Faithful.RawAccess.{AreFound}
use Rattle.ideal_lane.proofs.Refusing.{absent, judged, unloaded, past}
use Rattle.ideal_wire.proofs.Faithful.SyncedPositions.{after}
use Rattle.busdma_base.specs.declared.scenarios.script.Item.TheVariants as item
use Rattle.busdma_base.specs.declared.scenarios.script.Op.TheVariants as op
use Rattle.busdma_base.specs.declared.journals.answer.Answer.{Answer}
use Rattle.busdma_base.specs.Scenarios.Operations.{bytes_of}

-- ---- bytes that are the driver's own stay so

pub own-forgotten : (keys : List ℕ) (memory : IdealMemory) (a : ℕ) → is_some (forgotten keys memory a) ≡ is_some
    (memory a)
own-forgotten keys memory a = by (has_address keys a) (memory a)
  where
    by : (b : Bool) (o : Option Content) → is_some (cond b (option_map (λ c. Unknown) o) o) ≡ is_some o
    by true None = refl
    by true (Some c) = refl
    by false o = refl

pub own-written : (keys vs : List ℕ) (memory : IdealMemory) (a : ℕ) → is_some (written keys vs memory a) ≡ is_some
    (memory a)
own-written [] vs memory a = refl
own-written (k ∷ keys) [] memory a = refl
own-written (k ∷ keys) (v ∷ vs) memory a = own-written keys vs (written_at k v memory) a ∙ by (a == k) (memory a)
  where
    by : (b : Bool) (o : Option Content) → is_some (cond b (option_map (λ c. Known v) o) o) ≡ is_some o
    by true None = refl
    by true (Some c) = refl
    by false o = refl

-- the step of a ring's device, too, leaves which bytes are the driver's own
pub own-fetched : (l : LaneState) (r : LaneRing) (d : Descriptor) (c : Candidate) (a : ℕ) →
    is_some ((retired r (used d c l)).memory a) ≡ is_some (l.memory a)
own-fetched l r d c a = by (d.kind == 1)
  where
    by : (b : Bool) →
        is_some ((retired r (if b then l else stored c.map c.off d.len (replicate d.len d.fill) l)).memory a)
        ≡ is_some (l.memory a)
    by true = own-written (load_bytes l.loans r.mem (head_at r + 14) 2) (0 ∷ 1 ∷ []) l.memory a
    by false =
        own-written (load_bytes l.loans r.mem (head_at r + 14) 2) (0 ∷ 1 ∷ [])
        (written (load_bytes l.loans c.map c.off d.len) (replicate d.len d.fill) l.memory) a
        ∙ own-written (load_bytes l.loans c.map c.off d.len) (replicate d.len d.fill) l.memory a

-- what a step needs besides, to leave the wire faithful: a step that writes at device addresses needs these to be
-- found. The steps of a ring's device also end with an answer other than `Done`, and are in `FaithfulRings`.
abbrev pub Needs : LaneState → Work → Type 0
Needs l (Transfer (item.DevWriteAt t addr bs)) = AreFound l
Needs l (Transfer (item.RingStep k)) = ⊥
Needs l _ = Unit {0}

-- ---- a step that is done, and pages that come and go after it
module _ (l : LaneState) (w : Wire) (apart : IsApart l) (laid : AreLaid l) (f : IsFaithful l w) where
  abbrev pub faithful : Faithful (own l laid apart) l (traces_of l) w
  faithful = record {
    placed = are-placed l laid apart;
    exclusive = f.exclusive;
    agrees = f.agrees;
  }

  -- the wire that an operation or an item makes, if it is done
  abbrev pub now : Work → Wire
  now (Operation (op.Sync m ops)) = wire.wire_synced m 0 (load_length l m) ops l w
  now (Operation (op.SyncRange m off len ops)) = wire.wire_synced m off len ops l w
  now (Operation (op.CpuWrite place bs)) = put (place_bytes l place (length (bytes_of bs))) (bytes_of bs) w
  now (Operation (op.RingPost k slot m off len kind fill)) =
      put (place_bytes l (slot_place (ring_of l k) slot) 16)
      (descriptor_bytes (posted (segments_in (stage_at l m)) off len kind fill)) w
  now (Transfer (item.Sync m ops)) = wire.wire_synced m 0 (load_length l m) ops l w
  now (Transfer (item.SyncRange m off len ops)) = wire.wire_synced m off len ops l w
  now (Transfer (item.DevWrite m off bs)) = put (load_buses l m off (length (bytes_of bs))) (bytes_of bs) w
  now (Transfer (item.DevWriteAt t addr bs)) =
      put (raw_bytes l t (run_of addr (length (bytes_of bs)))) (bytes_of bs) w
  now _ = w

  -- the wire is faithful after it whatever came and went
  abbrev pub Stays : Wire → LaneState → Type 0
  Stays after k = (w' : Wire) → KeepsOwn l.memory k.memory after w' → KeepsPages l.maps k.maps after w' →
      IsFaithful k w'

  -- no byte came to a driver that is the same
  nothing-came : (k : LaneState) (w' : Wire) → BringsKnown k.memory k.memory w'
  nothing-came k w' a v none is = let gone : None ≡ Some (Known v) = sym none ∙ is in absurd (cc)

  pub same-stays : Stays w l
  same-stays w' kept pages =
      carried l l w w' (are-bused l laid) f (same-carries l l f.exclusive refl refl (λ n i p at. refl))
      (record { own = kept; pages = pages; known = nothing-came l w' })

  -- a step leaves the maps as they were, the traces of loads, and which bytes are the driver's own
  pub done : (l' : LaneState) (now w' : Wire) → l'.maps ≡ l.maps → traces_of l' ≡ traces_of l →
      ((b : ℕ) → is_some (l'.memory b) ≡ is_some (l.memory b)) → IsFaithful l' now →
      KeepsOwn l.memory l'.memory now w' → KeepsPages l.maps l'.maps now w' → IsFaithful l' w'
  done l' now w' maps traces mine g kept pages =
      carried l' l' now w' bused g (same-carries l' l' g.exclusive refl refl (λ n i p at. refl)) (record {
        own = λ b x y. kept b (sym (mine b) ∙ x) y;
        pages = λ m b x y. pages m b
            (sym (λ i. Rattle.ideal_wire.specs.Traces.is_in_pages (Rattle.ideal_lane.specs.Unloads.pages_of
            (Rattle.ideal_wire.specs.Traces.stage_in (Rattle.std.specs.FinMap.get (maps i) m))) b) ∙ x) y;
        known = nothing-came l' w';
      })
    where
      bused : AreBused l'
      bused m i t at =
          subst (λ s. (t.bus ≡ t.pa) ⊎ (Rattle.ideal_wire.specs.Traces.is_in_pages
          (Rattle.ideal_lane.specs.Unloads.pages_of (Rattle.ideal_wire.specs.Traces.stage_in
          (Rattle.std.specs.FinMap.get s m))) t.bus ≡ true))
          (sym maps) (are-bused l laid m i t (sym (λ x. Rattle.std.specs.Prelude.slice_get (traces x m) i) ∙ at))

  -- ---- syncs
  module _ (m : ℕ) (off len ops : ℕ) where
    traces-synced : (b : Bool) → (loan_of l.loans m).coherent ≡ b → (n : ℕ) →
        addresses_of (loan_of (cond b l.loans (after l.loans m off len ops)) n).positions
        ≡ addresses_of (loan_of l.loans n).positions
    traces-synced true e n = refl
    traces-synced false e n =
        sym
        (sym
        (same_bytes l.loans m (record {
          coherent = false;
          positions = marked_range ops off len (loan_of l.loans m).positions;
        })
        (addresses_of-marked_range ops off len (loan_of l.loans m).positions) n))

    sync-stays : (o : LaneMap) → is_mixed ops ≡ false → sync_answer l.loans m off len ops ≡ Fine →
        Stays (wire.wire_synced m off len ops l w) (after_sync l m o off len ops)
    sync-stays o alone fine w' kept pages =
        done (after_sync l m o off len ops) (wire.wire_synced m off len ops l w) w' refl traces
        (own-forgotten (lost l.loans m off len ops) l.memory) synced kept pages
      where
        traces : traces_of (after_sync l m o off len ops) ≡ traces_of l
        traces = λ x n. placed_from (bounced_in (stage_at l n)) 0
            (traces-synced (loan_of l.loans m).coherent refl n x)

        synced : IsFaithful (after_sync l m o off len ops) (wire.wire_synced m off len ops l w)
        synced =
            let g = by_map (own l laid apart) l (traces_of l) w faithful m off len ops fine alone
            (loan_of l.loans m).coherent refl in
            record {
              exclusive = g.exclusive;
              agrees =
                  subst (λ ts. HasTrueByte (after_sync l m o off len ops).memory (after_sync l m o off len ops).loans ts
                  (wire.wire_synced m off len ops l w)) (sym traces) g.agrees;
            }

  -- ---- writes
  write-stays : (bytes vs : List ℕ) (after : Wire) →
      Faithful (own l laid apart) (after_write l bytes vs) (traces_of l) after → Stays after (after_write l bytes vs)
  write-stays bytes vs after g w' kept pages =
      done (after_write l bytes vs) after w' refl refl (own-written bytes vs l.memory)
      (record { exclusive = g.exclusive; agrees = g.agrees }) kept pages

  -- ---- what takes no door
  pub undone : (a : Answer) (after : Wire) → IsUndone a → if_answered a after w ≡ w
  undone answer.Done now u = absurd u
  undone _ now u = refl

  sync-is : {d : Work} {m off len ops : ℕ} → IsSync l d m off len ops → now d ≡ wire.wire_synced m off len ops l w
  sync-is (Whole m ops) = refl
  sync-is (Range m off len ops) = refl
  sync-is (WholeItem m ops) = refl
  sync-is (RangeItem m off len ops) = refl

  pub touches-stay : {d : Work} {x : Outcome} → Touches l d x → Needs l d →
      Stays (if_answered x.answer (now d) w) x.lane
  touches-stay {d} (Same a q u) needs = subst (λ v. Stays v l) (sym (undone a (now d) u)) same-stays
  touches-stay (Syncs m off len ops is o there i alone fine) needs =
      subst (λ v. Stays v (after_sync l m o off len ops)) (sym (sync-is is)) (sync-stays m off len ops o alone fine)
  touches-stay (Writes place bs va at reaches fine) needs =
      let bytes = bytes_at l (run_of va (length (bytes_of bs))) in
      subst (λ v. Stays (put (bytes_at l (run_of (unwrap_or v 0) (length (bytes_of bs)))) (bytes_of bs) w)
      (after_write l bytes (bytes_of bs))) (sym at)
      (write-stays bytes (bytes_of bs) (put bytes (bytes_of bs) w)
      (cpu_written (own l laid apart) l (traces_of l) w faithful bytes (bytes_of bs)
      (reached_own (own l laid apart) l (traces_of l) w faithful (run_of va (length (bytes_of bs))) reaches) fine))
  touches-stay (Posts k slot m off len kind fill r ring o there i may va at reaches fine) needs =
      let bytes = bytes_at l (run_of va 16) in
      let vs = descriptor_bytes (posted (segments_in o.stage) off len kind fill) in
      subst (λ q. Stays (put (place_bytes l (slot_place (unwrap_or q no_ring) slot) 16)
      (descriptor_bytes (posted (segments_in (stage_at l m)) off len kind fill)) w) (after_write l bytes vs))
      (sym ring)
      (subst (λ q. Stays (put (bytes_at l (run_of (unwrap_or q 0) 16))
      (descriptor_bytes (posted (segments_in (stage_at l m)) off len kind fill)) w) (after_write l bytes vs)) (sym at)
      (subst (λ q. Stays (put bytes (descriptor_bytes (posted (segments_in (stage_in q)) off len kind fill)) w)
      (after_write l bytes vs)) (sym there)
      (write-stays bytes vs (put bytes vs w)
      (cpu_written (own l laid apart) l (traces_of l) w faithful bytes vs
      (reached_own (own l laid apart) l (traces_of l) w faithful (run_of va 16) reaches) fine))))
  touches-stay (DeviceWrites m off bs o there i fine) needs =
      write-stays (load_bytes l.loans m off (length (bytes_of bs))) (bytes_of bs)
      (put (load_buses l m off (length (bytes_of bs))) (bytes_of bs) w)
      (dev_written (own l laid apart) l (traces_of l) w faithful m off (length (bytes_of bs)) (bytes_of bs) fine)
  touches-stay (RawWrites t addr bs g there fine) all =
      write-stays (raw_bytes l t (run_of addr (length (bytes_of bs)))) (bytes_of bs)
      (put (raw_bytes l t (run_of addr (length (bytes_of bs)))) (bytes_of bs) w)
      (raw_written (own l laid apart) l w faithful all t addr (bytes_of bs) fine)
  touches-stay (Fetches k g) none = absurd none

  -- ---- reads
  pub cpu_read-reads : (place : Place) (len : ℕ) → IsRead (cpu_read place len l) (place_bytes l place len) w
  cpu_read-reads place len = by (virtual_at l place)
    where
      bytes : ℕ → List ℕ
      bytes va = bytes_at l (run_of va len)

      at : (va : ℕ) → IsRead (unless_refused (first_unreached l va len) l
          (unless_refused (cpu_read_answer (is_known l.memory) l.loans (bytes va)) l
          (gives l (answer.Bytes (values l (bytes va)))))) (bytes va) w
      at va =
          judged l (λ s. IsRead s (bytes va) w) (λ x. tt) (first_unreached l va len) _ (λ reaches.
          judged l (λ s. IsRead s (bytes va) w) (λ x. tt) (cpu_read_answer (is_known l.memory) l.loans (bytes va)) _
          (λ fine. cpu_read_of l w (bytes va) f.agrees.kept fine))

      by : (o : Option ℕ) → IsRead (Rattle.ideal_lane.specs.Outcomes.unless_absent o l (λ va.
          unless_refused (first_unreached l va len) l
          (unless_refused (cpu_read_answer (is_known l.memory) l.loans (bytes va)) l
          (gives l (answer.Bytes (values l (bytes va)))))))
          (bytes (Rattle.std.specs.Prelude.unwrap_or o 0)) w
      by None = tt
      by (Some va) = at va

  pub dev_read-reads : (m off len : ℕ) → IsRead (dev_read m off len l) (load_buses l m off len) w
  dev_read-reads m off len =
      unloaded l P (λ x. tt) m (λ o. unless_past m off len l step) (λ o there is.
      past l P (λ x. tt) m off len step
      (judged l P (λ x. tt) (dev_read_answer (is_known l.memory) (loan_of l.loans m) off len) _ (λ allowed.
      dev_read_of (own l laid apart) l (traces_of l) w faithful m off len allowed)))
    where
      P : Asking Outcome → Type 0
      P s = IsRead s (load_buses l m off len) w

      step : Asking Outcome
      step = unless_refused (dev_read_answer (is_known l.memory) (loan_of l.loans m) off len) l
          (gives l (answer.Bytes (values l (load_bytes l.loans m off len))))

  pub dev_read_at-reads : AreFound l → (t addr len : ℕ) →
      IsRead (dev_read_at t addr len l) (raw_bytes l t (run_of addr len)) w
  dev_read_at-reads all t addr len =
      absent l P (λ x. tt) (get l.tags t) _ (λ o there.
      judged l P (λ x. tt)
      (judged_by (raw_refusal DeviceReadUnlent (dev_read_refusal (is_known l.memory) false) l t) 0 (run_of addr len)) _
      (λ fine. raw_read (own l laid apart) l w faithful all t addr len fine))
    where
      P : Asking Outcome → Type 0
      P s = IsRead s (raw_bytes l t (run_of addr len)) w
