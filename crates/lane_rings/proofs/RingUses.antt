-- What the device of a ring does at a candidate that allows it.
use Rattle.std.proofs.Common.{◌≡◌, ◌≢◌, ℕ, ◌+◌, ◌==◌, ◌||◌, Bool, true, false, cond, if◌then◌else◌, List, [], ◌∷◌}
use Rattle.std.proofs.Common.{length}
use Rattle.std.proofs.Common.{Option, Some, None, Result, Ok, Err, IfOk, refl, sym, ap, ◌∙◌, subst, arith}
use Rattle.std.specs.Prelude.{replicate}
use Rattle.std.proofs.lemmas.Bool.{eqb-true}
use Rattle.std.proofs.lemmas.List.{length-replicate}
use mathlib.Core.Logic.{∥∥₁_map}
use Rattle.std.specs.Option.{option_map}
use Rattle.busdma_base.specs.declared.journals.answer.Answer.TheVariants as answer
use Rattle.busdma_base.specs.declared.scenarios.script.Bytes.TheVariants as bytes
use Rattle.busdma_base.specs.declared.scenarios.script.Item.TheVariants as item
use Rattle.busdma_machine.specs.declared.bounce.hold.HubReply.TheVariants.{Nothing}
use Rattle.busdma_machine.specs.declared.machine.bio.Bio.TheVariants.{Vector}
use Rattle.busdma_machine.specs.declared.report.Judged.TheVariants.{Fine}
use Rattle.busdma_machine.specs.declared.report.ReportName.TheVariants.{DeviceReadUnlent, StaleByte}
use Rattle.busdma_machine.specs.Judging.{judged, refused_or}
use Rattle.busdma_machine.specs.Machine.Wire.{Wire, put, stretch}
use Rattle.busdma_rules.specs.declared.position.Position.{Position}
use Rattle.busdma_rules.specs.Lending.Access.{dev_read_answer, dev_read_refusal, dev_write_answer}
use Rattle.busdma_rules.specs.Lending.Loans.{load_bytes, loan_of}
use Rattle.busdma_rules.specs.declared.descriptor.Descriptor.{Descriptor}
use Rattle.ideal_lane.specs.Accesses.{dev_read, dev_write, values}
use Rattle.ideal_lane.specs.Asking.{Asking, Gives, by_reply}
use Rattle.ideal_lane.specs.IdealMemory.{Content, IdealMemory, Known, is_known, known, written, written_at}
use Rattle.ideal_lane.specs.Outcomes.{Outcome, gives, unless_refused}
use Rattle.ideal_lane.specs.Rings as rings
use Rattle.ideal_lane.specs.Rings.{stored, told, used}
use Rattle.ideal_lane.specs.Standing.{Stands}
use Rattle.ideal_lane.specs.State.{LaneState}
use Rattle.ideal_lane.proofs.Effects.{Touches, Transfer}
use Rattle.ideal_lane.proofs.Stepping.{Only, transfer-touches}
use Rattle.ideal_wire.specs.Apart.{IsApart}
use Rattle.ideal_wire.specs.Centre.{IsFaithful}
use Rattle.ideal_wire.specs.Laid.{AreLaid}
use Rattle.ideal_wire.specs.Machine.{IsInMachine}
use Rattle.ideal_wire.specs.Mapped.{AreMapped}
use Rattle.ideal_wire.specs.Spaced.{AreSpaced}
use Rattle.ideal_wire.specs.WireStep as wires
use Rattle.ideal_wire.specs.WireStep.{if_done, load_buses, used_wire}
use Rattle.ideal_wire.proofs.Faithful.Calls.{dev_write-faithful}
use Rattle.ideal_wire.proofs.Devices.KeptSpaces.{touches-spaced}
use Rattle.ideal_wire.proofs.Devices.MappedTurns.{touches-mapped}
use Rattle.ideal_wire.proofs.Laid.SameBytes.{judged-same}
use Rattle.ideal_wire.proofs.Laid.StillLaid.{touches-laid}
use Rattle.ideal_wire.proofs.Faithful.Wiring.{own-written}
use Rattle.lane_state.specs.declared.holdings.Holdings.{Holdings}
use Rattle.lane_state.specs.Ideal.{given, ideal_of}
use Rattle.lane_state.specs.Wire.{IsWired, wire_of}
use Rattle.lane_state.proofs.Reading.{passes}
use Rattle.lane_rings.specs.declared.rings.Candidate.{Candidate}
use Rattle.lane_rings.specs.Ringing.{IsAllowedAt, IsReadable, candidate_of}
use Rattle.lane_access.proofs.DeviceReads.{dev_read-within}
use Rattle.lane_access.proofs.DeviceWrites.{dev_write-within}

-- a test of two numbers that differ
pub differ : (a b : ℕ) → a ≢ b → (a == b) ≡ false
differ a b no-same = by (a == b) refl
  where
    by : (v : Bool) → (a == b) ≡ v → v ≡ false
    by true e = absurd (no-same (eqb-true a b e))
    by false e = refl

-- what follows from two facts of a value if a value was made
pub both-ok : {T E : Type 0} (r : Result T E) (P Q : T → Type 0) (R : Type 0) → ((x : T) → P x → Q x → R) → IfOk r P →
    IfOk r Q → IfOk r (λ x. R)
both-ok (Ok x) P Q R f p q = f x p q
both-ok (Err e) P Q R f p q = tt

-- ---- the access

module _ (l : LaneState) (d : Descriptor) (c : Candidate) (a : IsAllowedAt l d c) where
  abbrev at : rings.Candidate
  at = candidate_of c

  -- the device reads
  pub read-used : (d.kind == 1) ≡ true → dev_read c.map c.off d.len l ≡ gives (used d at l) (told d at l)
  read-used reads =
      let fine : dev_read_answer (is_known l.memory) (loan_of l.loans c.map) c.off d.len ≡ Fine =
      sym (ap (λ b. if b then dev_read_answer (is_known l.memory) (loan_of l.loans c.map) c.off d.len
      else dev_write_answer (loan_of l.loans c.map) c.off d.len) reads) ∙ a.fine in
      dev_read-within l c.map a.map a.there a.loaded c.off d.len a.range
      ∙ passes (dev_read_answer (is_known l.memory) (loan_of l.loans c.map) c.off d.len) l
      (gives l (answer.Bytes (values l (load_bytes l.loans c.map c.off d.len)))) fine
      ∙ sym (ap (λ b. gives (if b then l else stored c.map c.off d.len (replicate d.len d.fill) l)
      (if b then answer.Bytes (values l (load_bytes l.loans c.map c.off d.len)) else answer.Done)) reads)

  pub read-wire : (d.kind == 1) ≡ true → (w : Wire) → w ≡ used_wire d at l w
  read-wire reads w = sym (ap (λ b. if b then w
      else put (load_buses l c.map c.off d.len) (replicate d.len d.fill) w) reads)

  -- the device fills
  module _ (fills : (d.kind == 1) ≡ false) where
    abbrev vs : List ℕ
    vs = replicate d.len d.fill

    size : length vs ≡ d.len
    size = length-replicate d.len d.fill

    pub write-done : dev_write c.map c.off vs l ≡ gives (stored c.map c.off d.len vs l) answer.Done
    write-done =
        let fine : dev_write_answer (loan_of l.loans c.map) c.off d.len ≡ Fine =
        sym (ap (λ b. if b then dev_read_answer (is_known l.memory) (loan_of l.loans c.map) c.off d.len
        else dev_write_answer (loan_of l.loans c.map) c.off d.len) fills) ∙ a.fine in
        dev_write-within l c.map a.map a.there a.loaded c.off vs (let r = a.range in omega (arith, r, size))
        ∙ ap (λ n. unless_refused (dev_write_answer (loan_of l.loans c.map) c.off n) l
        (gives (record l { memory = written (load_bytes l.loans c.map c.off n) vs l.memory }) answer.Done)) size
        ∙ passes (dev_write_answer (loan_of l.loans c.map) c.off d.len) l
        (gives (stored c.map c.off d.len vs l) answer.Done) fine

    pub write-used : dev_write c.map c.off vs l ≡ gives (used d at l) (told d at l)
    write-used =
        write-done
        ∙ sym (ap (λ b. gives (if b then l else stored c.map c.off d.len vs l)
        (if b then answer.Bytes (values l (load_bytes l.loans c.map c.off d.len)) else answer.Done)) fills)

    pub write-wire : (w : Wire) → wires.wire_dev_write c.map c.off vs l w ≡ used_wire d at l w
    write-wire w =
        ap (λ s. if_done s (put (load_buses l c.map c.off (length vs)) vs w) w) write-done
        ∙ ap (λ n. put (load_buses l c.map c.off n) vs w) size
        ∙ sym (ap (λ b. if b then w else put (load_buses l c.map c.off d.len) vs w) fills)

-- the driver of an outcome
pub lane-of : (x y : Outcome) → Gives x ≡ Gives y → x.lane ≡ y.lane
lane-of x y e = ap (λ s. (by_reply {X = Outcome} s Nothing).lane) e

-- ---- the driver after it

-- a driver with the same ideal state and wire is wired too
pub kept-wired : (h k : Holdings) → IsWired h → ideal_of k ≡ ideal_of h → wire_of k ≡ wire_of h → IsWired k
kept-wired h k wired same wire =
    let back = sym same in
    record {
      machine = subst IsInMachine back wired.machine;
      laid = subst AreLaid back wired.laid;
      apart = subst IsApart back wired.apart;
      spaced = subst AreSpaced back wired.spaced;
      mapped = subst (λ n. ∥ AreMapped n ∥₁) back wired.mapped;
      faithful = subst (λ n. IsFaithful n (wire_of k)) back (subst (IsFaithful (ideal_of h)) (sym wire) wired.faithful);
    }

-- a driver is wired after a write of its device
module _ (h k : Holdings) (wired : IsWired h) (stands : Stands (ideal_of h)) (m off : ℕ) (vs : List ℕ)
    (pas : List ℕ) (done : dev_write m off vs (ideal_of h)
    ≡ gives (record (ideal_of h) { memory = written pas vs (ideal_of h).memory }) answer.Done)
    (now : ideal_of k ≡ record (ideal_of h) { memory = written pas vs (ideal_of h).memory })
    (wire : wire_of k ≡ wires.wire_dev_write m off vs (ideal_of h) (wire_of h)) where
  abbrev before : LaneState
  before = ideal_of h

  abbrev after : LaneState
  after = record before { memory = written pas vs before.memory }

  same : after ≡ ideal_of k
  same = sym now

  is : Gives (given k answer.Done) ≡ dev_write m off vs before
  is = ap (λ n. gives n answer.Done) now ∙ sym done

  made : Touches before (Transfer (item.DevWrite m off (bytes.Listed vs))) (given k answer.Done)
  made = subst (Only before (Transfer (item.DevWrite m off (bytes.Listed vs)))) (sym is)
      (transfer-touches before (item.DevWrite m off (bytes.Listed vs)))

  pub written-wired : IsWired k
  written-wired = record {
    machine = subst IsInMachine same (record {
      numbered = wired.machine.numbered;
      pages = wired.machine.pages;
      mems = wired.machine.mems;
      tags = wired.machine.tags;
      bios = wired.machine.bios;
      clusters = wired.machine.clusters;
      unlike = wired.machine.unlike;
      due = λ s e. judged-same before after refl refl s.map (Vector s.chain) ∙ wired.machine.due s e;
    });
    laid = touches-laid before wired.laid made;
    apart = subst IsApart same (record {
      away = λ n i page a holds inside.
          own-written pas vs before.memory a ∙ wired.apart.away n i page a holds inside;
      one = wired.apart.one;
      pages = wired.apart.pages;
      memories = wired.apart.memories;
    });
    spaced = touches-spaced before stands wired.laid wired.machine wired.spaced made;
    mapped = ∥∥₁_map wired.mapped (λ mapped.
        touches-mapped before stands wired.laid wired.machine wired.spaced mapped made);
    faithful = subst (λ (s : Asking Outcome). IsFaithful (by_reply s Nothing).lane (wire_of k)) (sym is)
        (subst (IsFaithful (by_reply (dev_write m off vs before) Nothing).lane) (sym wire)
        (dev_write-faithful before (wire_of h) wired.apart wired.laid wired.faithful m off vs Nothing));
  }

-- ---- what the access leaves

-- what holds of the driver before and after a write holds after the access
pub used-either : (P : LaneState → Type 0) (l : LaneState) (d : Descriptor) (c : rings.Candidate) → P l →
    P (stored c.map c.off d.len (replicate d.len d.fill) l) → P (used d c l)
used-either P l d c before after = by (d.kind == 1)
  where
    by : (b : Bool) → P (if b then l else stored c.map c.off d.len (replicate d.len d.fill) l)
    by true = before
    by false = after

-- bytes that are Known stay so if others are written
known-written : (pas ws : List ℕ) (m : IdealMemory) (a : ℕ) → is_known m a ≡ true → is_known (written pas ws m) a ≡ true
known-written [] ws m a h = h
known-written (p ∷ pas) [] m a h = h
known-written (p ∷ pas) (v ∷ ws) m a h = known-written pas ws (written_at p v m) a (one (a == p) (m a) h)
  where
    one : (b : Bool) (o : Option Content) → known o ≡ true →
        known (if b then option_map (λ c. Known v) o else o) ≡ true
    one true None k = k
    one true (Some c) k = refl
    one false o k = k

-- what the device may read, it may read if more bytes are Known
read-more : (f g : ℕ → Bool) → ((a : ℕ) → f a ≡ true → g a ≡ true) → (c : Bool) (i : ℕ) (ps : List Position) →
    judged (dev_read_refusal f c) i ps ≡ Fine → judged (dev_read_refusal g c) i ps ≡ Fine
read-more f g more c i [] h = refl
read-more f g more c i (p ∷ ps) h =
    by (read-more f g more c (i + 1) ps) (c || p.to_read) (f p.pa) (g p.pa) (more p.pa) h
  where
    by : (judged (dev_read_refusal f c) (i + 1) ps ≡ Fine → judged (dev_read_refusal g c) (i + 1) ps ≡ Fine) →
        (b j k : Bool) → (j ≡ true → k ≡ true) →
        refused_or (cond b (cond j None (Some StaleByte)) (Some DeviceReadUnlent)) i
        (judged (dev_read_refusal f c) (i + 1) ps) ≡ Fine →
        refused_or (cond b (cond k None (Some StaleByte)) (Some DeviceReadUnlent)) i
        (judged (dev_read_refusal g c) (i + 1) ps) ≡ Fine
    by rest true true true m e = rest e
    by rest true true false m e = let no : false ≡ true = m refl in absurd (cc)
    by rest true false k m e = absurd (cc)
    by rest false j k m e = absurd (cc)

pub still-readable : (l : LaneState) (m off len : ℕ) → IsReadable l m off len → (d : Descriptor) (c : rings.Candidate) →
    IsReadable (used d c l) m off len
still-readable l m off len r d c =
    used-either (λ n. IsReadable n m off len) l d c r (record {
      map = r.map;
      there = r.there;
      loaded = r.loaded;
      range = r.range;
      fine = read-more (is_known l.memory)
          (is_known (written (load_bytes l.loans c.map c.off d.len) (replicate d.len d.fill) l.memory))
          (known-written (load_bytes l.loans c.map c.off d.len) (replicate d.len d.fill) l.memory)
          (loan_of l.loans m).coherent 0 (stretch off len (loan_of l.loans m).positions) r.fine;
    })
