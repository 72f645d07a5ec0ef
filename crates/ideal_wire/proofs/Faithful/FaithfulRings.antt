-- A step of a ring's device leaves the wire faithful, and reads what the ideal memory has.
use Rattle.std.proofs.Common.{◌≡◌, ℕ, ◌+◌, ◌%◌, ◌==◌, Bool, true, false, if◌then◌else◌, List, [], ◌∷◌}
use Rattle.std.proofs.Common.{refl, ap, sym, ◌∙◌, subst}
use Rattle.std.specs.Prelude.{replicate}
use Rattle.std.specs.FinMap.{insert}
use Rattle.busdma_base.specs.declared.journals.answer.Answer.{Answer}
use Rattle.busdma_base.specs.declared.journals.answer.Answer.TheVariants as answer
use Rattle.busdma_machine.specs.declared.report.Judged.TheVariants.{Fine}
use Rattle.busdma_machine.specs.Judging.{judged}
use Rattle.busdma_machine.specs.Machine.Wire.{Wire, put, stretch}
use Rattle.busdma_rules.specs.declared.position.Position.{Position}
use Rattle.busdma_rules.specs.Lending.Access.{dev_read_answer, dev_write_answer, dev_write_refusal}
use Rattle.busdma_rules.specs.Lending.Loans.{Loan, loan_of, load_bytes}
use Rattle.busdma_rules.specs.declared.descriptor.Descriptor.{Descriptor}
use Rattle.busdma_rules.specs.Rings.Descriptors.{descriptor_of}
use Rattle.ideal_lane.specs.Accesses.{values}
use Rattle.ideal_lane.specs.Asking.{Asking, Gives, Asks}
use Rattle.ideal_lane.specs.IdealMemory.{is_known}
use Rattle.ideal_lane.specs.Outcomes.{Outcome}
use Rattle.ideal_lane.specs.Rings.{Candidate, head_at, head_of, retired, ring_of, ring_step, stored, told}
use Rattle.ideal_lane.specs.Rings.{used_candidate}
use Rattle.ideal_lane.specs.Standing.{Stands}
use Rattle.ideal_lane.specs.State.{LaneState, LaneRing}
use Rattle.ideal_lane.proofs.Effects.{Fetching, after_fetch}
use Rattle.ideal_wire.specs.Apart.{IsApart}
use Rattle.ideal_wire.specs.Centre.{IsFaithful}
use Rattle.ideal_wire.specs.Laid.{AreLaid}
use Rattle.ideal_wire.specs.RingSteps.{HeadIsRead, NamedAreRead}
use Rattle.ideal_wire.specs.Traces.{traces_of}
use Rattle.ideal_wire.specs.WireStep.{IsRead, Reads, fetched_wire, if_fetched, load_buses, used_wire}
use Rattle.ideal_wire.proofs.Faithful.FaithfulAccess.{dev_read_of, dev_written}
use Rattle.ideal_wire.proofs.Faithful.PlacedWires.{Faithful}
use Rattle.ideal_wire.proofs.Faithful.PlacedLoads.{own}
use Rattle.ideal_wire.proofs.Faithful.RingBytes.{ring-coherent}
use Rattle.ideal_wire.proofs.Faithful.RingCases.{IsUnfetched, allows, by-fetch, candidate-is, ring-is, told-fetched}
use Rattle.ideal_wire.proofs.Faithful.RingCases.{unfetched}
use Rattle.ideal_wire.proofs.Faithful.Wiring.{Stays, done, faithful, own-fetched, same-stays}

-- a coherent map lets its device write every byte
free : (at : ℕ) (ps : List Position) → judged (dev_write_refusal true) at ps ≡ Fine
free at [] = refl
free at (p ∷ ps) = free (at + 1) ps

coherent-fine : (loan : Loan) (off len : ℕ) → loan.coherent ≡ true → dev_write_answer loan off len ≡ Fine
coherent-fine loan off len e =
    ap (λ b. judged (dev_write_refusal b) 0 (stretch off len loan.positions)) e
    ∙ free 0 (stretch off len loan.positions)

module _ (l : LaneState) (w : Wire) (apart : IsApart l) (laid : AreLaid l) (f : IsFaithful l w) where
  first : Faithful (own l laid apart) l (traces_of l) w
  first = faithful l w apart laid f

  -- ---- what is written
  module _ (stands : Stands l) (k : ℕ) where
    module _ (g : Fetching l k) where
      abbrev r : LaneRing
      r = g.r

      abbrev d : Descriptor
      d = head_of g.r l

      abbrev c : Candidate
      c = g.c

      abbrev bytes : List ℕ
      bytes = replicate d.len d.fill

      -- the driver and its wire after the step, by whether the device reads
      abbrev lane-after : Bool → LaneState
      lane-after b = record l {
        memory = (retired r (if b then l else stored c.map c.off d.len bytes l)).memory;
        rings = insert l.rings k (record r { head = (r.head + 1) % r.slots });
      }

      abbrev wire-after : Bool → Wire
      wire-after b =
          put (load_buses l r.mem (head_at r + 14) 2) (0 ∷ 1 ∷ [])
          (if b then w else put (load_buses l c.map c.off d.len) bytes w)

      ring-free : dev_write_answer (loan_of l.loans r.mem) (head_at r + 14) 2 ≡ Fine
      ring-free = coherent-fine (loan_of l.loans r.mem) (head_at r + 14) 2 (ring-coherent l stands laid k g)

      after-step : (b : Bool) →
          (if b then dev_read_answer (is_known l.memory) (loan_of l.loans c.map) c.off d.len
          else dev_write_answer (loan_of l.loans c.map) c.off d.len) ≡ Fine → IsFaithful (lane-after b) (wire-after b)
      after-step true allowed =
          let h = dev_written (own l laid apart) l (traces_of l) w first r.mem (head_at r + 14) 2 (0 ∷ 1 ∷ []) ring-free
          in record { exclusive = h.exclusive; agrees = h.agrees }
      after-step false allowed =
          let u = dev_written (own l laid apart) l (traces_of l) w first c.map c.off d.len bytes allowed in
          let h = dev_written (own l laid apart) (stored c.map c.off d.len bytes l) (traces_of l)
          (put (load_buses l c.map c.off d.len) bytes w) u r.mem (head_at r + 14) 2 (0 ∷ 1 ∷ []) ring-free in
          record { exclusive = h.exclusive; agrees = h.agrees }

      wired : fetched_wire (ring_of l k) l w ≡ wire-after (d.kind == 1)
      wired =
          ap (λ q. fetched_wire q l w) (ring-is l k g)
          ∙ ap (λ q. put (load_buses l r.mem (head_at r + 14) 2) (0 ∷ 1 ∷ []) (used_wire d q l w)) (candidate-is l k g)

      stays : Stays l w apart laid f (wire-after (d.kind == 1)) (after_fetch l k r d c)
      stays w' kept pages =
          done l w apart laid f (after_fetch l k r d c) (wire-after (d.kind == 1)) w' refl refl (own-fetched l r d c)
          (after-step (d.kind == 1) (allows l k g)) kept pages

    -- the wire of the step stays faithful, whatever came and went
    abbrev pub RingStays : Asking Outcome → Type 0
    RingStays (Gives y) = Stays l w apart laid f (if_fetched y.answer (fetched_wire (ring_of l k) l w) w) y.lane
    RingStays (Asks q h) = ⊥

    pub ring-stays : RingStays (ring_step k l)
    ring-stays =
        by-fetch l k RingStays
        (λ a u. subst (λ v. Stays l w apart laid f v l) (sym (unfetched a (fetched_wire (ring_of l k) l w) w u))
        (same-stays l w apart laid f))
        (λ g. subst (λ v. Stays l w apart laid f v (after_fetch l k (r g) (d g) (c g)))
        (sym (told-fetched l k g (fetched_wire (ring_of l k) l w) w ∙ wired g)) (stays g))

  -- ---- what is read

  -- the descriptor at the head
  pub head-reads : (r : LaneRing) → HeadIsRead r l w
  head-reads r fine =
      ap descriptor_of (dev_read_of (own l laid apart) l (traces_of l) w first r.mem (head_at r) 16 fine)

  reads-nothing : (a : Answer) (buses : List ℕ) → IsUnfetched a → Reads a buses w
  reads-nothing (answer.Bytes vs) buses u = absurd u
  reads-nothing _ buses u = tt

  -- the bytes that it names
  pub ring-reads : (k : ℕ) → NamedAreRead k l w
  ring-reads k =
      by-fetch l k (λ x. IsRead x (named (ring_of l k) (used_candidate (ring_of l k) l)) w)
      (λ a u. reads-nothing a (named (ring_of l k) (used_candidate (ring_of l k) l)) u)
      (λ g. subst (λ q. Reads (told (head_of g.r l) g.c l) (named q (used_candidate q l)) w) (sym (ring-is l k g))
      (subst (λ q. Reads (told (head_of g.r l) g.c l) (named g.r q) w) (sym (candidate-is l k g))
      (by g ((head_of g.r l).kind == 1) (allows l k g))))
    where
      named : LaneRing → Candidate → List ℕ
      named r c = load_buses l c.map c.off (head_of r l).len

      by : (g : Fetching l k) (b : Bool) →
          (if b then dev_read_answer (is_known l.memory) (loan_of l.loans g.c.map) g.c.off (head_of g.r l).len
          else dev_write_answer (loan_of l.loans g.c.map) g.c.off (head_of g.r l).len) ≡ Fine →
          Reads (if b then answer.Bytes (values l (load_bytes l.loans g.c.map g.c.off (head_of g.r l).len))
          else answer.Done) (named g.r g.c) w
      by g true fine =
          dev_read_of (own l laid apart) l (traces_of l) w first g.c.map g.c.off (head_of g.r l).len fine
      by g false fine = tt
