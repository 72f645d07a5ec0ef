-- The descriptor at the head of a ring: its bytes are the memory's, and two of them say that it is done after a step.
use Rattle.std.proofs.Common.{◌≡◌, ℕ, zero, suc, ◌+◌, ◌<◌, ◌≤◌, ◌==◌, Bool, true, false, if◌then◌else◌, List, [], ◌∷◌}
use Rattle.std.proofs.Common.{map, length, drop, take, slice_get, Option, Some, None, is_some, refl, ap, sym, ◌∙◌}
use Rattle.std.proofs.Common.{subst, arith, eq-eqb}
use Rattle.std.proofs.lemmas.Bool.{leb-true, ne_eqb, eqb-true}
use Rattle.std.specs.Prelude.{replicate}
use Rattle.std.specs.FinMap.{get}
use Rattle.std.specs.Option.{option_map}
use Rattle.busdma_base.specs.declared.journals.answer.Answer.{Answer}
use Rattle.busdma_base.specs.declared.journals.answer.Answer.TheVariants as answer
use Rattle.busdma_machine.specs.Machine.Wire.{stretch}
use Rattle.busdma_machine.specs.Runs.{run_of}
use Rattle.busdma_rules.specs.declared.position.Position.{Position}
use Rattle.busdma_rules.specs.Lending.Loans.{addresses_of, loan_of, load_bytes}
use Rattle.busdma_rules.specs.declared.descriptor.Descriptor.{Descriptor}
use Rattle.ideal_lane.specs.Accesses.{values}
use Rattle.ideal_lane.specs.IdealMemory.{IdealMemory, Content, Known, value, written}
use Rattle.ideal_lane.specs.Loads.{is_coherent}
use Rattle.ideal_lane.specs.Outcomes.{is_loaded, load_length}
use Rattle.ideal_lane.specs.Rings.{Candidate, head_at, head_of, retired, ring_of, ring_step, stored}
use Rattle.ideal_lane.specs.Standing.{Stands}
use Rattle.ideal_lane.specs.State.{LaneState, LaneMemory, LaneRing, Stage, Idle, Waiting, Loaded, Returning}
use Rattle.ideal_lane.proofs.Effects.{Fetching, after_fetch}
use Rattle.ideal_wire.specs.Laid.{AreLaid, LiesIn, is_loadable}
use Rattle.ideal_wire.specs.RingSteps.{HandsBack, HandsBackIn, IfFetched}
use Rattle.ideal_wire.specs.Traces.{stage_at, stage_in}
use Rattle.ideal_wire.proofs.Faithful.BytesPut.{map_own, same_range}
use Rattle.ideal_wire.proofs.Faithful.PlacedLoads.{Load, loadable-own}
use Rattle.ideal_wire.proofs.Laid.Positions.{twin_of}
use Rattle.ideal_wire.proofs.Faithful.RingCases.{IsUnfetched, by-fetch, ring-is}
use Rattle.ideal_wire.proofs.Faithful.Wiring.{own-written}

-- ---- runs

at-run : (a n i : ℕ) → i < n → slice_get (run_of a n) i ≡ Some (a + i)
at-run a zero i lt = absurd (omega arith)
at-run a (suc n) zero lt = let same : a ≡ a + 0 = omega arith in ap Some same
at-run a (suc n) (suc i) lt =
    let same : a + 1 + i ≡ a + suc i = omega arith in at-run (a + 1) n i (omega arith) ∙ ap Some same

take-run : (a n len : ℕ) → len ≤ n → take len (run_of a n) ≡ run_of a len
take-run a n zero le = refl
take-run a zero (suc len) le = absurd (omega arith)
take-run a (suc n) (suc len) le = ap (λ xs. a ∷ xs) (take-run (a + 1) n len (omega arith))

part-run : (a n off len : ℕ) → off + len ≤ n → take len (drop off (run_of a n)) ≡ run_of (a + off) len
part-run a n zero len le =
    let same : a ≡ a + 0 = omega arith in
    take-run a n len (omega (arith, le)) ∙ ap (λ b. run_of b len) same
part-run a zero (suc off) len le = absurd (omega (arith, le))
part-run a (suc n) (suc off) len le =
    let same : a + 1 + off ≡ a + suc off = omega arith in
    part-run (a + 1) n off len (omega (arith, le)) ∙ ap (λ b. run_of b len) same

length-map : {X : Type 0} (h : X → ℕ) (xs : List X) → length (map h xs) ≡ length xs
length-map h [] = refl
length-map h (x ∷ xs) = ap suc (length-map h xs)

-- ---- two bytes side by side that are written
value-of : (v : ℕ) (o : Option Content) → is_some o ≡ true → value (option_map (λ (c : Content). Known v) o) ≡ v
value-of v None own = absurd (cc)
value-of v (Some c) own = refl

two-written : (a u v : ℕ) (memory : IdealMemory) → is_some (memory a) ≡ true → is_some (memory (a + 1)) ≡ true →
    map (λ x. value (written (a ∷ (a + 1) ∷ []) (u ∷ v ∷ []) memory x)) (a ∷ (a + 1) ∷ []) ≡ u ∷ v ∷ []
two-written a u v memory own next =
    let here : (a == a) ≡ true = eq-eqb a a refl in
    let there : (a + 1 == a + 1) ≡ true = eq-eqb (a + 1) (a + 1) refl in
    let off : (a == a + 1) ≡ false = ne_eqb a (a + 1) (λ e. absurd (omega (arith, e))) in
    let back : (a + 1 == a) ≡ false = ne_eqb (a + 1) a (λ e. absurd (omega (arith, e))) in
    rw (here, there, off, back) (λ i. value-of u (memory a) own i ∷ value-of v (memory (a + 1)) next i ∷ [])

-- ---- the load of a ring's memory
module _ (l : LaneState) (stands : Stands l) (laid : AreLaid l) (k : ℕ) (g : Fetching l k) where
  abbrev r : LaneRing
  r = g.r

  -- the memory exists
  memory : (x : LaneMemory) × (get l.mems r.mem ≡ Some x)
  memory = by (get l.mems r.mem) refl ((stands.ring k r g.ring).there g.o g.there)
    where
      by : (q : Option LaneMemory) → get l.mems r.mem ≡ q → is_some q ≡ true →
          (x : LaneMemory) × (get l.mems r.mem ≡ Some x)
      by None e some = absurd (cc)
      by (Some x) e some = (x, e)

  abbrev x : LaneMemory
  x = memory.0

  load : Load l laid r.mem
  load = by (stage_at l r.mem) refl (ap (λ q. is_loaded (stage_in q)) g.there ∙ g.loaded) (laid.each r.mem)
    where
      by : (s : Stage) → stage_at l r.mem ≡ s → is_loaded s ≡ true → LiesIn l r.mem s → Load l laid r.mem
      by Idle e some h = absurd (cc)
      by (Waiting w) e some h = absurd (cc)
      by (Loaded cs ss ps) e some h = record { bounced = cs; segments = ss; pages = ps; stage = e; load = h }
      by Returning e some h = absurd (cc)

  pub ring-coherent : (loan_of l.loans r.mem).coherent ≡ true
  ring-coherent = load.load.coherent ∙ ap is_coherent memory.1 ∙ (stands.ring k r g.ring).coherent x memory.1

  abbrev bytes : List ℕ
  bytes = addresses_of (loan_of l.loans r.mem).positions

  are : bytes ≡ run_of x.first (length bytes)
  are = load.load.first x memory.1

  room : head_at r + 16 ≤ length bytes
  room =
      let some : head_at r + 16 ≤ load_length l r.mem = leb-true (head_at r + 16) (load_length l r.mem) g.within in
      omega (arith, some, length-map (λ (p : Position). p.pa) (loan_of l.loans r.mem).positions)

  -- a byte of the load is the driver's own
  own-byte : (i : ℕ) → i < length bytes → is_some (l.memory (x.first + i)) ≡ true
  own-byte i lt =
      let t = twin_of (λ (b : ℕ). b) (λ (p : Position). p.pa) bytes (loan_of l.loans r.mem).positions (map_own bytes) i
      (x.first + i) (ap (λ bs. slice_get bs i) are ∙ at-run x.first (length bytes) i lt) in
      laid.owned (x.first + i)
      (loadable-own l laid r.mem (x.first + i)
      (ap (is_loadable (get l.mems r.mem) l) t.same ∙ load.load.bytes i t.twin t.found))

  abbrev at : ℕ
  at = x.first + (head_at r + 14)

  -- owner and status of the descriptor at the head
  two-bytes : load_bytes l.loans r.mem (head_at r + 14) 2 ≡ at ∷ (at + 1) ∷ []
  two-bytes =
      same_range (λ (p : Position). p.pa) (λ (b : ℕ). b) (head_at r + 14) 2 (loan_of l.loans r.mem).positions bytes
      (sym (map_own bytes))
      ∙ map_own (stretch (head_at r + 14) 2 bytes)
      ∙ ap (stretch (head_at r + 14) 2) are
      ∙ part-run x.first (length bytes) (head_at r + 14) 2 (omega (arith, room))

  own-after : (after : IdealMemory) → ((a : ℕ) → is_some (after a) ≡ is_some (l.memory a)) →
      map (λ a. value (written (load_bytes l.loans r.mem (head_at r + 14) 2) (0 ∷ 1 ∷ []) after a))
      (load_bytes l.loans r.mem (head_at r + 14) 2) ≡ 0 ∷ 1 ∷ []
  own-after after same =
      subst (λ bs. map (λ a. value (written bs (0 ∷ 1 ∷ []) after a)) bs ≡ 0 ∷ 1 ∷ []) (sym two-bytes)
      (two-written at 0 1 after (same at ∙ own-byte (head_at r + 14) (omega (arith, room)))
      (same (at + 1) ∙ ap (λ a. is_some (l.memory a)) next ∙ own-byte (head_at r + 15) (omega (arith, room))))
    where
      next : at + 1 ≡ x.first + (head_at r + 15)
      next = omega arith

  -- owner and status say that the descriptor is the driver's and done
  retired-bytes : (b : Bool) (d : Descriptor) (c : Candidate) →
      map (λ a. value ((retired r (if b then l else stored c.map c.off d.len (replicate d.len d.fill) l)).memory a))
      (load_bytes l.loans r.mem (head_at r + 14) 2) ≡ 0 ∷ 1 ∷ []
  retired-bytes true d c = own-after l.memory (λ a. refl)
  retired-bytes false d c =
      own-after (written (load_bytes l.loans c.map c.off d.len) (replicate d.len d.fill) l.memory)
      (own-written (load_bytes l.loans c.map c.off d.len) (replicate d.len d.fill) l.memory)

  hands-back : HandsBack r l (after_fetch l k r (head_of r l) g.c)
  hands-back = record {
    owner = eqb-true (head_of r l).owner 1 g.owned;
    done = retired-bytes ((head_of r l).kind == 1) (head_of r l) g.c;
  }

if-unfetched : (a : Answer) (P : Type 0) → IsUnfetched a → IfFetched a P
if-unfetched answer.Done P u = absurd u
if-unfetched (answer.Bytes vs) P u = absurd u
if-unfetched _ P u = tt

pub ring-hands-back : (l : LaneState) → Stands l → AreLaid l → (k : ℕ) → HandsBackIn (ring_of l k) l (ring_step k l)
ring-hands-back l stands laid k =
    by-fetch l k (HandsBackIn (ring_of l k) l) (λ a u. if-unfetched a (HandsBack (ring_of l k) l l) u)
    (λ g. by g ((head_of g.r l).kind == 1)
    (subst (λ q. HandsBack q l (after_fetch l k g.r (head_of g.r l) g.c)) (sym (ring-is l k g))
    (hands-back l stands laid k g)))
  where
    by : {P : Type 0} (g : Fetching l k) (b : Bool) → P → IfFetched (if b
        then answer.Bytes (values l (load_bytes l.loans g.c.map g.c.off (head_of g.r l).len)) else answer.Done) P
    by g true p = p
    by g false p = p
