-- What an access of an IOMMU tag's address space is, by what is there, and what it reads and makes.
use Rattle.std.proofs.Common.{◌≡◌, ℕ, zero, suc, ◌+◌, ◌^◌, ◌<◌, ◌≤◌, Bool, true, false, ◌||◌, not, cond, List, length}
use Rattle.std.proofs.Common.{map}
use Rattle.std.proofs.Common.{slice_get, Some, None, is_some, nat_le, unwrap_or, refl, sym, ap, ◌∙◌, subst, arith}
use mathlib.Core.Logic.{∥∥₁_elim}
use Rattle.std.proofs.Props.{props}
use Rattle.std.proofs.lemmas.Bool.{leb-false}
use Rattle.std.proofs.lemmas.Option.{slice_get-map}
use Rattle.std.specs.FinMap.{entries, get}
use Rattle.busdma_machine.specs.declared.bounce.hold.HubReply.TheVariants.{Nothing}
use Rattle.busdma_base.specs.declared.journals.answer.Answer.TheVariants as answer
use Rattle.busdma_machine.specs.declared.report.Judged.TheVariants.{Fine, Refused}
use Rattle.busdma_machine.specs.declared.report.Report.{Report}
use Rattle.busdma_machine.specs.declared.report.ReportName.TheVariants.{Absent, Untranslated}
use Rattle.busdma_machine.specs.Judging.{judged}
use Rattle.busdma_machine.specs.Machine.Wire.{put}
use Rattle.busdma_machine.specs.Runs.{run_of}
use Rattle.busdma_rules.specs.Iommu.Space.{translated}
use Rattle.loan_table.specs.Table.{AreIn}
use Rattle.ideal_lane.specs.Accesses.{dev_read_at, dev_write_at, position_in, raw_bytes, unless_unlent, values}
use Rattle.ideal_lane.specs.Asking.{Asking, by_reply}
use Rattle.ideal_lane.specs.Outcomes.{Outcome, gives, unless_absent, unless_refused}
use Rattle.ideal_lane.specs.Standing.{Stands}
use Rattle.ideal_lane.specs.State.{LaneState}
use Rattle.ideal_wire.specs.Centre.{IsFaithful}
use Rattle.ideal_wire.specs.OneProof.{IsFaithful-prop}
use Rattle.ideal_wire.specs.WireStep as wires
use Rattle.ideal_wire.specs.WireStep.{if_done}
use Rattle.ideal_wire.proofs.Faithful.Calls.{dev_write_at-faithful}
use Rattle.ideal_wire.proofs.Faithful.FaithfulRaw.{raw_read}
use Rattle.ideal_wire.proofs.Faithful.PlacedLoads.{own}
use Rattle.ideal_wire.proofs.Laid.Positions.{fine_at}
use Rattle.ideal_wire.proofs.Faithful.Wiring.{faithful}
use Rattle.lane_state.specs.declared.holdings.Holdings.{Holdings}
use Rattle.lane_state.specs.declared.kept.KeptTag.{KeptTag}
use Rattle.lane_access.specs.declared.raw.RawAccess.{RawAccess}
use Rattle.lane_access.specs.declared.raw.RawAccess.TheVariants.{Read, Write}
use Rattle.lane_state.specs.Changes.{with_written}
use Rattle.lane_state.specs.Ideal.{ideal_of}
use Rattle.lane_state.specs.Kept.{tag_of}
use Rattle.lane_access.specs.Raw.{lent_refusal, refusal_of, unlent_of}
use Rattle.lane_state.specs.Wire.{IsWired, wire_of}
use Rattle.lane_state.proofs.Keeping.{told-some}
use Rattle.lane_state.proofs.MapValues.{image-none, image-some}
use Rattle.lane_state.proofs.OwnBytes.{own-inside}
use Rattle.lane_access.proofs.RawJudging.{run-at, run-get}
use Rattle.lane_access.proofs.RawLoads.{found-by, raw-own}
use Rattle.lane_state.proofs.Reading.{passes, refused}

-- an address at which an access is not refused is one that the device reaches
record Reaching (l : LaneState) (t a : ℕ) : Type 0 where
  low : a < 2 ^ 64
  some : is_some (translated (l.spaces t) a) ≡ true

reaching : (l : LaneState) (access : RawAccess) (t a : ℕ) → refusal_of access l t a ≡ None → Reaching l t a
reaching l access t a = by (nat_le (2 ^ 64) a) (is_some (translated (l.spaces t) a)) refl refl
  where
    by : (high there : Bool) → nat_le (2 ^ 64) a ≡ high → is_some (translated (l.spaces t) a) ≡ there →
        cond (high || not there) (Some Untranslated)
        (unless_unlent (unlent_of access) (lent_refusal access l) (position_in l t a (entries l.maps))) ≡ None →
        Reaching l t a
    by true there e k h = absurd (cc)
    by false false e k h = absurd (cc)
    by false true e k h = record { low = leb-false (2 ^ 64) a e; some = k }

module _ (h : Holdings) (t addr : ℕ) where
  abbrev l : LaneState
  l = ideal_of h

  abbrev pas : ℕ → List ℕ
  pas len = raw_bytes l t (run_of addr len)

  -- an access that is not refused
  module _ (access : RawAccess) (len : ℕ) (fine : judged (refusal_of access l t) 0 (run_of addr len) ≡ Fine) where
    each : (i : ℕ) → i < len → refusal_of access l t (addr + i) ≡ None
    each i below = fine_at (refusal_of access l t) 0 (run_of addr len) fine i (addr + i) (run-at addr len i below)

    pub raw-reached : (i : ℕ) → i < len → is_some (translated (l.spaces t) (addr + i)) ≡ true
    raw-reached i below = (reaching l access t (addr + i) (each i below)).some

    pub raw-below : addr < 2 ^ 64 → addr + len ≤ 2 ^ 64
    raw-below low = by len refl
      where
        by : (n : ℕ) → len ≡ n → addr + len ≤ 2 ^ 64
        by zero e = omega (arith, low, e)
        by (suc n) e =
            let last = (reaching l access t (addr + n) (each n (omega (arith, e)))).low in omega (arith, last, e)

    -- is one of bytes of the driver's own
    pub raw-inside : IsWired h → Stands l → AreIn h.loans.bytes (pas len)
    raw-inside wired stands = own-inside h (pas len) (λ i b at.
        let a = told-some (λ x. unwrap_or (translated (l.spaces t) x) 0) (slice_get (run_of addr len) i) b
        (sym (slice_get-map (λ x. unwrap_or (translated (l.spaces t) x) 0) (run_of addr len) i) ∙ at) in
        let r = run-get addr len i a.0 a.1 in
        ap (λ x. is_some (l.memory x)) (sym a.2)
        ∙ raw-own h wired stands (unlent_of access) (lent_refusal access l) t a.0
        (ap (refusal_of access l t) r.1 ∙ each i r.0))

  -- ---- reads
  abbrev read_step : ℕ → Asking Outcome
  read_step len = unless_refused (judged (refusal_of Read l t) 0 (run_of addr len)) l
      (gives l (answer.Bytes (values l (pas len))))

  pub read-absent : (len : ℕ) → get h.tags.map t ≡ None →
      gives l (answer.Report (record { name = Absent; at = 0 })) ≡ dev_read_at t addr len l
  read-absent len none = sym (ap (λ o. unless_absent o l (λ x. read_step len)) (image-none tag_of h.tags.map t none))

  module _ (o : KeptTag) (there : get h.tags.map t ≡ Some o) (len : ℕ) where
    read-there : dev_read_at t addr len l ≡ read_step len
    read-there = ap (λ q. unless_absent q l (λ x. read_step len)) (image-some tag_of h.tags.map t o there)

    pub read-refused : (r : Report) → judged (refusal_of Read l t) 0 (run_of addr len) ≡ Refused r →
        gives l (answer.Report r) ≡ dev_read_at t addr len l
    read-refused r is = sym (read-there ∙ refused _ r l _ is)

    pub read-done : IsWired h → Stands l → judged (refusal_of Read l t) 0 (run_of addr len) ≡ Fine → (out : List ℕ) →
        out ≡ map (wire_of h) (pas len) → gives l (answer.Bytes out) ≡ dev_read_at t addr len l
    read-done wired stands fine out is =
        ap (λ vs. gives l (answer.Bytes vs)) (is ∙ sym same) ∙ sym (read-there ∙ passes _ l _ fine)
      where
        one : IsProp (values l (pas len) ≡ map (wire_of h) (pas len))
        one = hlevel (props)

        same : values l (pas len) ≡ map (wire_of h) (pas len)
        same = ∥∥₁_elim wired.mapped one (λ mapped.
            raw_read (own l wired.laid wired.apart) l (wire_of h)
            (faithful l (wire_of h) wired.apart wired.laid wired.faithful) (found-by h wired stands mapped) t addr len
            fine)

  -- ---- writes
  module _ (vs : List ℕ) where
    abbrev written_at : LaneState
    written_at = with_written (pas (length vs)) vs l

    abbrev write_step : Asking Outcome
    write_step = unless_refused (judged (refusal_of Write l t) 0 (run_of addr (length vs))) l
        (gives written_at answer.Done)

    pub write-absent : get h.tags.map t ≡ None →
        gives l (answer.Report (record { name = Absent; at = 0 })) ≡ dev_write_at t addr vs l
    write-absent none = sym (ap (λ o. unless_absent o l (λ x. write_step)) (image-none tag_of h.tags.map t none))

    module _ (o : KeptTag) (there : get h.tags.map t ≡ Some o) where
      write-there : dev_write_at t addr vs l ≡ write_step
      write-there = ap (λ q. unless_absent q l (λ x. write_step)) (image-some tag_of h.tags.map t o there)

      pub write-refused : (r : Report) → judged (refusal_of Write l t) 0 (run_of addr (length vs)) ≡ Refused r →
          gives l (answer.Report r) ≡ dev_write_at t addr vs l
      write-refused r is = sym (write-there ∙ refused _ r l _ is)

      module _ (fine : judged (refusal_of Write l t) 0 (run_of addr (length vs)) ≡ Fine) where
        pub write-step : dev_write_at t addr vs l ≡ gives written_at answer.Done
        write-step = write-there ∙ passes _ l _ fine

        pub write-wire : wires.wire_dev_write_at t addr vs l (wire_of h) ≡ put (pas (length vs)) vs (wire_of h)
        write-wire = ap (λ s. if_done s (put (pas (length vs)) vs (wire_of h)) (wire_of h)) write-step

        -- a write leaves the wire faithful
        pub write-stays : IsWired h → Stands l → IsFaithful written_at (put (pas (length vs)) vs (wire_of h))
        write-stays wired stands =
            ∥∥₁_elim wired.mapped (IsFaithful-prop written_at (put (pas (length vs)) vs (wire_of h))) (λ mapped.
            subst (IsFaithful written_at) write-wire
            (subst
            (λ (s : Asking Outcome). IsFaithful (by_reply s Nothing).lane
            (wires.wire_dev_write_at t addr vs l (wire_of h)))
            write-step
            (dev_write_at-faithful l (wire_of h) wired.apart wired.laid wired.faithful
            (found-by h wired stands mapped) t addr vs Nothing)))
