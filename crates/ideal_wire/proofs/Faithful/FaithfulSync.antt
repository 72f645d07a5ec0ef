-- Syncs of a faithful wire, before and after the device's work.
use Rattle.std.proofs.Common.{◌≡◌, ◌≢◌, ℕ, ◌+◌, ◌-◌, Bool, true, false, cond, not, ◌&&◌, ◌||◌, ◌==◌, List, slice_get}
use Rattle.std.proofs.Common.{Some, None, ◌⊎◌, inl, inr, refl, sym, ap, ◌∙◌, arith}
use Rattle.std.proofs.lemmas.Bool.{false≢true}
use Rattle.std.specs.List.{filter}
use Rattle.std.proofs.lemmas.Map.Views.{exact_unsigned_eq}
use Rattle.busdma_machine.specs.declared.report.ReportName.TheVariants.{SyncOrder, Overlap}
use Rattle.busdma_machine.specs.declared.report.Judged.TheVariants.{Fine}
use Rattle.busdma_machine.specs.Judging.{judged}
use Rattle.busdma_rules.specs.Tags.SyncOps.{preread, prewrite, postread, postwrite}
use Rattle.busdma_rules.specs.declared.position.Position.{Position}
use Rattle.busdma_rules.specs.Lending.Loans.{Loans, loan_of, to_write, to_read, in_any_way, lent, lent_elsewhere}
use Rattle.busdma_rules.specs.Lending.Loans.{stands_twice}
use Rattle.busdma_rules.specs.Lending.Loans.{addresses_of}
use Rattle.busdma_rules.specs.Lending.SyncEffects.{marked, marked_range, loses, sync_refusal}
use Rattle.busdma_rules.proofs.Lending.Marking.{same_bytes, addresses_of-marked_range}
use Rattle.ideal_wire.specs.Centre.{IsAt, IsPlacedAt, HasTrueByte, IsExclusive}
use Rattle.ideal_wire.proofs.Faithful.PlacedWires.{ArePlaced, Faithful}
use Rattle.ideal_lane.specs.IdealMemory.{IdealMemory, Known, forgotten}
use Rattle.ideal_lane.specs.State.{LaneState}
use Rattle.busdma_machine.specs.Machine.Wire.{Wire, Traces, Placed, is_bounced, stretch, copied_in, copied_out}
use Rattle.ideal_wire.specs.WireStep.{copied_by}
use Rattle.ideal_wire.proofs.Faithful.BytesPut.{Source, copied, stayed, source_of}
use Rattle.ideal_wire.proofs.Faithful.LoadPositions.{written_any, read_any, place_of, position_of, same_pa}
use Rattle.ideal_wire.proofs.Faithful.LoadPositions.{one_position, own_bus}
use Rattle.ideal_wire.proofs.Faithful.LoadPositions.{bus_of_one, same_lender}
use Rattle.ideal_wire.proofs.Faithful.Lent.{Lender, lender_of, lent_by, lent_by_another, standing_twice}
use Rattle.ideal_wire.proofs.Faithful.SyncedPositions.{after, Inside, Before, prewrite_part, preread_part}
use Rattle.ideal_wire.proofs.Faithful.SyncedPositions.{postread_part}
use Rattle.ideal_wire.proofs.Faithful.SyncedPositions.{prewrite_passes, preread_passes, postread_passes, or_left}
use Rattle.ideal_wire.proofs.Faithful.SyncedPositions.{or_right}
use Rattle.ideal_wire.proofs.Faithful.SyncedPositions.{read_before, newly, decided, placed_in, at_inside, at_outside}
use Rattle.ideal_wire.proofs.Faithful.SyncedPositions.{before_of}
use Rattle.ideal_wire.proofs.Faithful.SyncedPositions.{coherent_before, not_lost, known_before}
use Rattle.ideal_wire.proofs.Laid.Positions.{Twin, fine_at, of_range, to_range}

-- ---- a sync that is done, of a map that is not coherent
module _ (own : ℕ → Bool) (l : LaneState) (traces : Traces) (w : Wire)
    (f : Faithful own l traces w) (m off len ops : ℕ)
    (closed : (loan_of l.loans m).coherent ≡ false)
    (fine : judged (sync_refusal l.loans m ops) off (stretch off len (loan_of l.loans m).positions) ≡ Fine) where
  abbrev loans' : Loans
  loans' = after l.loans m off len ops

  abbrev memory' : IdealMemory
  memory' = forgotten (addresses_of (filter (loses ops) (stretch off len (loan_of l.loans m).positions))) l.memory

  abbrev range : List Placed
  range = stretch off len (traces m)

  before : (n i : ℕ) (p : Position) → IsAt loans' n i p → Before l.loans m off len ops n i p
  before = before_of l.loans m off len ops

  known : (a v : ℕ) → memory' a ≡ Some (Known v) → l.memory a ≡ Some (Known v)
  known a v h =
      (known_before (addresses_of (filter (loses ops) (stretch off len (loan_of l.loans m).positions))) l.memory a v
      h).1

  -- a position of the range is in it
  in_range : (n i : ℕ) (p : Position) → IsAt l.loans n i p → Inside l.loans m off len ops n i →
      slice_get (stretch off len (loan_of l.loans m).positions) (i - off) ≡ Some p
  in_range n i p h s = to_range (loan_of l.loans m).positions off len i s.1 s.2
      ∙ (sym (λ x. slice_get (loan_of l.loans (s.0 x)).positions i) ∙ h)

  placed_in_range : (n i : ℕ) (t : Placed) → IsPlacedAt traces n i t →
      Inside l.loans m off len ops n i → slice_get range (i - off) ≡ Some t
  placed_in_range n i t h s = to_range (traces m) off len i s.1 s.2 ∙ (sym (λ x. slice_get (traces (s.0 x)) i) ∙ h)

  passes : (n i : ℕ) (p : Position) → IsAt l.loans n i p →
      Inside l.loans m off len ops n i → sync_refusal l.loans m ops p ≡ None
  passes n i p h s =
      fine_at (sync_refusal l.loans m ops) off
      (stretch off len (loan_of l.loans m).positions) fine (i - off) p (in_range n i p h s)

  not_lost_at : (n i v : ℕ) (p : Position) → IsAt l.loans n i p → Inside l.loans m off len ops n i →
      memory' p.pa ≡ Some (Known v) → loses ops p ≡ false
  not_lost_at n i v p h s is =
      not_lost (loses ops) (stretch off len (loan_of l.loans m).positions)
      (i - off) v p l.memory (in_range n i p h s) is

  placed_after : ArePlaced own (record l { loans = loans'; memory = memory' }) traces
  placed_after = record {
    reached = f.placed.reached;
    known = λ a v h. f.placed.known a v (known a v h);
    buffer =
        λ n. f.placed.buffer n
        ∙ sym
        (same_bytes l.loans m (record {
          coherent = false;
          positions = marked_range ops off len (loan_of l.loans m).positions;
        })
        (addresses_of-marked_range ops off len (loan_of l.loans m).positions) n);
    lies = f.placed.lies;
    unbounced = f.placed.unbounced;
    paged = f.placed.paged;
    coherent = λ n i t c h. f.placed.coherent n i t (coherent_before l.loans m off len ops closed n c) h;
    apart = λ n k i j p q c h g e. let b = before n i p h in let d =
        before k j q g in f.placed.apart n k i j b.before d.before (coherent_before l.loans m off len ops closed n c)
        b.at d.at (sym b.same ∙ e ∙ d.same);
  }

  -- a coherent map lends nothing after it
  unlent_after : (n i : ℕ) (p : Position) → (loan_of loans' n).coherent ≡ true →
      IsAt loans' n i p → in_any_way p ≡ false
  unlent_after n i p c h =
      let b = before n i p h in
      let was : (loan_of l.loans n).coherent ≡ true = coherent_before l.loans m off len ops closed n c in
      elim b.is as (λ _. in_any_way p ≡ false) [
        | inl s ↦ absurd (false≢true (sym closed ∙ (sym (λ x. (loan_of l.loans (s.0.0 x)).coherent) ∙ was)))
        | inr s ↦ ap in_any_way s.1 ∙ f.exclusive.unlent n i b.before was b.at
      ]

  at_map : (n k i : ℕ) (p : Position) → n ≡ k → IsAt l.loans n i p → IsAt l.loans k i p
  at_map n k i p e h = sym (λ x. slice_get (loan_of l.loans (e x)).positions i) ∙ h

  -- a place of the range of the trace: its position
  record Ranged (k : ℕ) (t : Placed) : Type 0 where
    position : Position
    at : IsAt l.loans m (off + k) position
    placed : IsPlacedAt traces m (off + k) t
    same : position.pa ≡ t.pa
    inside : Inside l.loans m off len ops m (off + k)

  ranged : (k : ℕ) (t : Placed) → slice_get range k ≡ Some t → Ranged k t
  ranged k t h =
      let r = of_range (traces m) off len k t h in
      let q = position_of own l traces f.placed m (off + k) t r.whole in
      let lt = r.below in
      record {
        position = q.twin;
        at = q.found;
        placed = r.whole;
        same = sym q.same;
        inside = (refl, omega arith, omega (arith, lt));
      }

  -- ---- before the device's work
  module _ (no_postread : postread ops ≡ false) (no_postwrite : postwrite ops ≡ false) where
    marked_read : (p : Position) → (marked ops p).to_read ≡ (prewrite ops || p.to_read)
    marked_read p = ap (λ b. not b && (prewrite ops || p.to_read)) no_postwrite

    marked_write : (p : Position) → (marked ops p).to_write ≡ (preread ops || p.to_write)
    marked_write p = ap (λ b. not b && (preread ops || p.to_write)) no_postread

    -- a byte that PREWRITE lends is lent to write by nobody
    free_to_write : (n i : ℕ) (p : Position) → IsAt l.loans n i p → Inside l.loans m off len ops n i →
        prewrite ops ≡ true → (b : Bool) → lent to_write p.pa l.loans ≡ b → b ≡ false
    free_to_write n i p h s e false is = refl
    free_to_write n i p h s e true is =
        let t =
        prewrite_passes p.to_write (lent_elsewhere to_write m p.pa l.loans) SyncOrder Overlap
        (prewrite_part l.loans m ops p (passes n i p h s) e) in
        let r = lender_of to_write p.pa l.loans is in
        elim (decided r.by_map m) as (λ _. true ≡ false) [
          | inr ne ↦
              absurd
              (false≢true (sym t.1 ∙ lent_by_another to_write p.pa l.loans m r.by_map r.place
              r.position ne r.at r.same r.lends))
          | inl here ↦
              (let g = at_map n r.by_map i p (s.0 ∙ sym here) h in
              let place = f.exclusive.once r.by_map r.place i r.position p r.at g r.lends r.same in
              absurd
              (false≢true (sym t.0
              ∙ ap to_write
              (sym (one_position own l traces f.placed r.by_map r.by_map r.place i r.position p r.at g refl place))
              ∙ r.lends)))
        ]

    -- a byte that PREREAD newly lends is lent by nobody else, and is there once
    clear : (n i : ℕ) (p : Position) → IsAt l.loans n i p → Inside l.loans m off len ops n i →
        preread ops ≡ true → p.to_write ≡ false
        → (lent_elsewhere in_any_way m p.pa l.loans ≡ false) × (stands_twice p.pa (loan_of l.loans m) ≡ false)
    clear n i p h s e new =
        elim (preread_passes p.to_write (lent_elsewhere in_any_way m p.pa l.loans)
        (stands_twice p.pa (loan_of l.loans m)) Overlap (preread_part l.loans m ops p (passes n i p h s) e))
        as (λ _. (lent_elsewhere in_any_way m p.pa l.loans ≡ false) × (stands_twice p.pa (loan_of l.loans m) ≡ false))
        [ inl old ↦ absurd (false≢true (sym new ∙ old)) | inr c ↦ c ]

    alone_before : (n i k j : ℕ) (p q : Position) → IsAt l.loans n i p → Inside l.loans m off len ops n i →
        preread ops ≡ true → p.to_write ≡ false → IsAt l.loans k j q → in_any_way q ≡ true → q.pa ≡ p.pa → k ≡ m
    alone_before n i k j p q h s e new g any same = elim (decided k m) as (λ _. k ≡ m) [
      | inl here ↦ here
      | inr ne ↦
          absurd (false≢true (sym (clear n i p h s e new).0
          ∙ lent_by_another in_any_way p.pa l.loans m k j q ne g same any))
    ]

    once_before : (n i k j : ℕ) (p q : Position) → IsAt l.loans n i p → Inside l.loans m off len ops n i →
        preread ops ≡ true → p.to_write ≡ false → IsAt l.loans k j q → k ≡ m → q.pa ≡ p.pa → i ≡ j
    once_before n i k j p q h s e new g here same = elim (decided i j) as (λ _. i ≡ j) [
      | inl is ↦ is
      | inr ne ↦
          absurd (false≢true (sym (clear n i p h s e new).1
          ∙ standing_twice p.pa (loan_of l.loans m) i j p q (at_map n m i p s.0 h)
          (at_map k m j q here g) refl same ne))
    ]

    unlent_before : (n i : ℕ) (p : Position) → IsAt l.loans n i p → Inside l.loans m off len ops n i →
        preread ops ≡ true → p.to_write ≡ false → (b : Bool) → lent to_write p.pa l.loans ≡ b → b ≡ false
    unlent_before n i p h s e new false is = refl
    unlent_before n i p h s e new true is =
        let r = lender_of to_write p.pa l.loans is in
        let here =
        alone_before n i r.by_map r.place p r.position h s e new r.at (written_any r.position r.lends) r.same in
        let place = once_before n i r.by_map r.place p r.position h s e new r.at here r.same in
        absurd
        (false≢true (sym new
        ∙ ap to_write (one_position own l traces f.placed n r.by_map i r.place p r.position h r.at
        (s.0 ∙ sym here) place) ∙ r.lends))

    or_written : (p : Position) → p.to_write ≡ true → (marked ops p).to_write ≡ true
    or_written p h = marked_write p ∙ ap (λ b. preread ops || b) h ∙ either (preread ops)
      where
        either : (b : Bool) → (b || true) ≡ true
        either true = refl
        either false = refl

    -- a byte that is lent to write stays so
    grows : (a : ℕ) → lent to_write a loans' ≡ false → (b : Bool) → lent to_write a l.loans ≡ b → b ≡ false
    grows a free false is = refl
    grows a free true is =
        let r = lender_of to_write a l.loans is in
        elim (placed_in l.loans m off len ops r.by_map r.place) as (λ _. true ≡ false) [
          | inl s ↦
              absurd (false≢true (sym free
              ∙ lent_by to_write a loans' r.by_map r.place (marked ops r.position)
              (at_inside l.loans m off len ops r.by_map r.place r.position r.at s) r.same
              (or_written r.position r.lends)))
          | inr out ↦
              absurd (false≢true (sym free
              ∙ lent_by to_write a loans' r.by_map r.place r.position
              (at_outside l.loans m off len ops r.by_map r.place r.position r.at out) r.same r.lends))
        ]

    abbrev w' : Wire
    w' = copied_by ops range w

    copies : prewrite ops ≡ true → (b : ℕ) → w' b ≡ copied_in range w b
    copies e b = ap (λ x. cond x (copied_in range w) (cond (postread ops) (copied_out range w) w) b) e

    rests : prewrite ops ≡ false → (b : ℕ) → w' b ≡ w b
    rests e b = ap (λ x. cond x (copied_in range w) (cond (postread ops) (copied_out range w) w) b) e
        ∙ ap (λ x. cond x (copied_out range w) w b) no_postread

    -- a Known byte of a range that PREWRITE lends is in the buffer
    in_buffer : (k v : ℕ) (t : Placed) → slice_get range k ≡ Some t → prewrite ops ≡ true →
        l.memory t.pa ≡ Some (Known v) → w t.pa ≡ v
    in_buffer k v t h e is =
        let r = ranged k t h in
        ap w (sym r.same) ∙ f.agrees.kept r.position.pa v (refl ∙ free r) (ap l.memory r.same ∙ is)
      where
        free : (r : Ranged k t) → lent to_write r.position.pa l.loans ≡ false
        free r = free_to_write m (off + k) r.position r.at r.inside e (lent to_write r.position.pa l.loans) refl

    -- what was at a bus address is still there
    stays_at : (n j v : ℕ) (q : Position) (u : Placed) → IsAt l.loans n j q → IsPlacedAt traces n j u →
        l.memory q.pa ≡ Some (Known v) → w u.bus ≡ v → (b : Bool) → prewrite ops ≡ b → w' u.bus ≡ v
    stays_at n j v q u h g is here false e = rests e u.bus ∙ here
    stays_at n j v q u h g is here true e = copies e u.bus ∙ by (source_of (λ t. t.bus) (λ t. t.pa) w u.bus range w)
      where
        by : {x : ℕ} → Source (λ t. t.bus) (λ t. t.pa) w w range u.bus x → x ≡ v
        by (stayed none s) = s ∙ here
        by (copied k t at same s) =
            let r = ranged k t at in
            s
            ∙ in_buffer k v t at e (ap l.memory
            (bus_of_one own l traces f.placed m n (off + k) j t u r.placed g same
            ∙ sym (same_pa own l traces f.placed n j q u h g)) ∙ is)

    -- each byte of the range arrives
    arrives : (n i v : ℕ) (p : Position) (t : Placed) → IsAt l.loans n i p → IsPlacedAt traces n i t →
        Inside l.loans m off len ops n i → prewrite ops ≡ true → l.memory p.pa ≡ Some (Known v) → w' t.bus ≡ v
    arrives n i v p t h g s e is = copies e t.bus ∙ by (source_of (λ t. t.bus) (λ t. t.pa) w t.bus range w)
      where
        here : l.memory t.pa ≡ Some (Known v)
        here = ap l.memory (sym (same_pa own l traces f.placed n i p t h g)) ∙ is

        own_place : (b : Bool) → (t.bus == t.pa) ≡ b →
            ((k : ℕ) (u : Placed) → slice_get range k ≡ Some u → is_bounced u ≡ true → u.bus ≡ t.bus → ⊥) → w t.bus ≡ v
        own_place true o none =
            ap w (exact_unsigned_eq t.bus t.pa o) ∙ in_buffer (i - off) v t (placed_in_range n i t g s) e here
        own_place false o none = absurd (none (i - off) t (placed_in_range n i t g s) (ap not o) refl)

        by : {x : ℕ} → Source (λ t. t.bus) (λ t. t.pa) w w range t.bus x → x ≡ v
        by (stayed none s) = s ∙ own_place (t.bus == t.pa) refl none
        by (copied k u at same s) =
            let r = ranged k u at in
            s
            ∙ in_buffer k v u at e (ap l.memory
            (bus_of_one own l traces f.placed m n (off + k) i u t r.placed g same) ∙ here)

    -- each byte of a buffer that is not lent to write stays
    keeps : (a v : ℕ) → lent to_write a l.loans ≡ false → l.memory a ≡ Some (Known v) →
        (b : Bool) → prewrite ops ≡ b → w' a ≡ v
    keeps a v free is false e = rests e a ∙ f.agrees.kept a v free is
    keeps a v free is true e = copies e a ∙ by (source_of (λ t. t.bus) (λ t. t.pa) w a range w)
      where
        by : {x : ℕ} → Source (λ t. t.bus) (λ t. t.pa) w w range a x → x ≡ v
        by (stayed none s) = s ∙ f.agrees.kept a v free is
        by (copied k t at same s) =
            let r = ranged k t at in
            s ∙ ap w (sym (own_bus own l traces f.placed m (off + k) a t r.placed (f.placed.known a v is) (sym same)))
            ∙ f.agrees.kept a v free is

    -- a position that lends its byte to write did so before, or PREREAD newly lends it
    written_or_new : (n i : ℕ) (p : Position) (b : Before l.loans m off len ops n i p) → p.to_write ≡ true
        → (b.before.to_write ≡ true) ⊎ (Inside l.loans m off len ops n i
        × (preread ops ≡ true) × (b.before.to_write ≡ false))
    written_or_new n i p b tw =
        elim b.is as (λ _. (b.before.to_write ≡ true) ⊎ (Inside l.loans m off len ops n i
        × (preread ops ≡ true) × (b.before.to_write ≡ false))) [
          | inr out ↦ inl (ap to_write (sym out.1) ∙ tw)
          | inl s ↦ by (b.before.to_write) refl s.0 (sym (marked_write b.before) ∙ ap to_write (sym s.1) ∙ tw)
        ]
      where
        by : (x : Bool) → b.before.to_write ≡ x → Inside l.loans m off len ops n i →
            (preread ops || b.before.to_write) ≡ true
            → (b.before.to_write ≡ true) ⊎ (Inside l.loans m off len ops n i × (preread ops ≡ true)
            × (b.before.to_write ≡ false))
        by true e s h = inl e
        by false e s h = inr (s, or_left (preread ops) b.before.to_write h e, e)

    -- a position that lends its byte in some way did so before, or the call newly lends it
    lent_or_new : (n i : ℕ) (p : Position) (b : Before l.loans m off len ops n i p) → in_any_way p ≡ true
        → (in_any_way b.before ≡ true) ⊎ (Inside l.loans m off len ops n i
        × ((prewrite ops ≡ true) ⊎ ((preread ops ≡ true) × (b.before.to_write ≡ false))))
    lent_or_new n i p b any =
        elim b.is as (λ _. (in_any_way b.before ≡ true) ⊎ (Inside l.loans m off len ops n i
        × ((prewrite ops ≡ true) ⊎ ((preread ops ≡ true) × (b.before.to_write ≡ false))))) [
          | inr out ↦ inl (ap in_any_way (sym out.1) ∙ any)
          | inl s ↦ by (in_any_way b.before) refl s.0
              (sym (λ i. marked_read b.before i || marked_write b.before i) ∙ ap in_any_way (sym s.1) ∙ any)
        ]
      where
        by : (x : Bool) → in_any_way b.before ≡ x → Inside l.loans m off len ops n i →
            ((prewrite ops || b.before.to_read) || (preread ops || b.before.to_write)) ≡ true
            → (in_any_way b.before ≡ true) ⊎ (Inside l.loans m off len ops n i
            × ((prewrite ops ≡ true) ⊎ ((preread ops ≡ true) × (b.before.to_write ≡ false))))
        by true e s h = inl e
        by false e s h = inr (s, newly (prewrite ops) b.before.to_read (preread ops) b.before.to_write h e)

    once_after : (n i j : ℕ) (p q : Position) → IsAt loans' n i p → IsAt loans' n j q →
        p.to_write ≡ true → p.pa ≡ q.pa → i ≡ j
    once_after n i j p q h g tw e =
        let b = before n i p h in
        let d = before n j q g in
        elim (written_or_new n i p b tw) as (λ _. i ≡ j) [
          | inl old ↦ f.exclusive.once n i j b.before d.before b.at d.at old (sym b.same ∙ e ∙ d.same)
          | inr new ↦ once_before n i n j b.before d.before b.at new.0 new.1 new.2 d.at
              new.0.0 (sym d.same ∙ sym e ∙ b.same)
        ]

    -- a map that lends a byte to write is the one that newly lends it
    newly_by_one : (n k i j : ℕ) (p q : Position) → IsAt l.loans n i p → IsAt l.loans k j q → p.to_write ≡ true →
        p.pa ≡ q.pa → Inside l.loans m off len ops k j
        → (prewrite ops ≡ true) ⊎ ((preread ops ≡ true) × (q.to_write ≡ false)) → n ≢ m → ⊥
    newly_by_one n k i j p q h g tw e s (inl pw) ne =
        let t =
        prewrite_passes q.to_write (lent_elsewhere to_write m q.pa l.loans) SyncOrder Overlap
        (prewrite_part l.loans m ops q (passes k j q g s) pw) in
        false≢true (sym t.1 ∙ lent_by_another to_write q.pa l.loans m n i p ne h e tw)
    newly_by_one n k i j p q h g tw e s (inr pr) ne =
        false≢true (sym (clear k j q g s pr.0 pr.1).0
        ∙ lent_by_another in_any_way q.pa l.loans m n i p ne h e (written_any p tw))

    alone_after : (n k i j : ℕ) (p q : Position) → IsAt loans' n i p → IsAt loans' k j q → p.to_write ≡ true →
        in_any_way q ≡ true → p.pa ≡ q.pa → n ≡ k
    alone_after n k i j p q h g tw any e = by (written_or_new n i p b tw) (lent_or_new k j q d any)
      where
        b : Before l.loans m off len ops n i p
        b = before n i p h

        d : Before l.loans m off len ops k j q
        d = before k j q g

        e' : b.before.pa ≡ d.before.pa
        e' = sym b.same ∙ e ∙ d.same

        by : (b.before.to_write ≡ true) ⊎ (Inside l.loans m off len ops n i
            × (preread ops ≡ true) × (b.before.to_write ≡ false))
            → (in_any_way d.before ≡ true) ⊎ (Inside l.loans m off len ops k j
            × ((prewrite ops ≡ true) ⊎ ((preread ops ≡ true) × (d.before.to_write ≡ false)))) → n ≡ k
        by (inl old) (inl lends) = f.exclusive.alone n k i j b.before d.before b.at d.at old lends e'
        by (inl old) (inr new) = elim (decided n m) as (λ _. n ≡ k) [
          | inl here ↦ here ∙ sym new.0.0
          | inr ne ↦ absurd (newly_by_one n k i j b.before d.before b.at d.at old e' new.0 new.1 ne)
        ]
        by (inr new) (inl lends) =
            new.0.0 ∙ sym (alone_before n i k j b.before d.before b.at new.0 new.1 new.2 d.at lends (sym e'))
        by (inr new) (inr too) = new.0.0 ∙ sym too.0.0

    written_inside : (n i v : ℕ) (p : Position) (t : Placed) → IsAt l.loans n i p → IsPlacedAt traces n i t →
        Inside l.loans m off len ops n i → memory' p.pa ≡ Some (Known v) → preread ops ≡ true → p.to_write ≡ false
        → (b : Bool) → prewrite ops ≡ b → w' t.bus ≡ v
    written_inside n i v p t h g s is pr new true e = arrives n i v p t h g s e (known p.pa v is)
    written_inside n i v p t h g s is pr new false e =
        let tr = read_before (preread ops) p.to_write (prewrite ops) p.to_read (not_lost_at n i v p h s is) pr new e in
        stays_at n i v p t h g (known p.pa v is)
        (f.agrees.read n i p t v h g tr (unlent_before n i p h s pr new (lent to_write p.pa l.loans) refl)
        (known p.pa v is)) (prewrite ops) refl

    read_inside : (n i v : ℕ) (p : Position) (t : Placed) → IsAt l.loans n i p → IsPlacedAt traces n i t →
        Inside l.loans m off len ops n i → l.memory p.pa ≡ Some (Known v) → lent to_write p.pa l.loans ≡ false
        → (prewrite ops || p.to_read) ≡ true → (b : Bool) → prewrite ops ≡ b → w' t.bus ≡ v
    read_inside n i v p t h g s is free lends true e = arrives n i v p t h g s e is
    read_inside n i v p t h g s is free lends false e =
        stays_at n i v p t h g is (f.agrees.read n i p t v h g (or_right (prewrite ops) p.to_read lends e) free is)
        (prewrite ops) refl

    agrees_before_work : HasTrueByte memory' loans' traces w'
    agrees_before_work = record {
      written = λ n i p t v h g tw is.
          let b = before n i p h in
          let was : memory' b.before.pa ≡ Some (Known v) = ap memory' (sym b.same) ∙ is in
          elim (written_or_new n i p b tw) as (λ _. w' t.bus ≡ v) [
            | inl old ↦ stays_at n i v b.before t b.at g (known b.before.pa v was)
                (f.agrees.written n i b.before t v b.at g old (known b.before.pa v was)) (prewrite ops) refl
            | inr new ↦ written_inside n i v b.before t b.at g new.0 was new.1 new.2 (prewrite ops) refl
          ];
      read = λ n i p t v h g tr free is.
          let b = before n i p h in
          let was : l.memory b.before.pa ≡ Some (Known v) = known b.before.pa v (ap memory' (sym b.same) ∙ is) in
          let lone : lent to_write b.before.pa l.loans ≡ false =
          grows b.before.pa (ap (λ a. lent to_write a loans') (sym b.same)
          ∙ free) (lent to_write b.before.pa l.loans) refl in
          elim b.is as (λ _. w' t.bus ≡ v) [
            | inr out ↦ stays_at n i v b.before t b.at g was
                (f.agrees.read n i b.before t v b.at g (ap to_read (sym out.1) ∙ tr) lone was) (prewrite ops) refl
            | inl s ↦ read_inside n i v b.before t b.at g s.0 was lone (sym (marked_read b.before)
                ∙ ap to_read (sym s.1) ∙ tr) (prewrite ops) refl
          ];
      kept = λ a v free is. keeps a v (grows a free (lent to_write a l.loans) refl) (known a v is) (prewrite ops) refl;
    }

    pub faithful_before_work : Faithful own (record l { loans = loans'; memory = memory' }) traces w'
    faithful_before_work = record {
      placed = placed_after;
      exclusive = record { once = once_after; alone = alone_after; unlent = unlent_after };
      agrees = agrees_before_work;
    }

  -- ---- after the device's work
  module _ (no_preread : preread ops ≡ false) (no_prewrite : prewrite ops ≡ false) where
    left_read : (p : Position) → (marked ops p).to_read ≡ (not (postwrite ops) && p.to_read)
    left_read p = ap (λ b. not (postwrite ops) && (b || p.to_read)) no_prewrite

    left_write : (p : Position) → (marked ops p).to_write ≡ (not (postread ops) && p.to_write)
    left_write p = ap (λ b. not (postread ops) && (b || p.to_write)) no_preread

    and_right : (a b : Bool) → (a && b) ≡ true → b ≡ true
    and_right true b h = h
    and_right false b h = absurd (cc)

    -- what is lent after it was lent before
    written_was : (n i : ℕ) (p : Position) (b : Before l.loans m off len ops n i p) →
        p.to_write ≡ true → b.before.to_write ≡ true
    written_was n i p b tw = elim b.is as (λ _. b.before.to_write ≡ true) [
      | inr out ↦ ap to_write (sym out.1) ∙ tw
      | inl s ↦ and_right (not (postread ops)) b.before.to_write
          (sym (left_write b.before) ∙ ap to_write (sym s.1) ∙ tw)
    ]

    read_was : (n i : ℕ) (p : Position) (b : Before l.loans m off len ops n i p) →
        p.to_read ≡ true → b.before.to_read ≡ true
    read_was n i p b tr = elim b.is as (λ _. b.before.to_read ≡ true) [
      | inr out ↦ ap to_read (sym out.1) ∙ tr
      | inl s ↦ and_right (not (postwrite ops)) b.before.to_read (sym (left_read b.before) ∙ ap to_read (sym s.1) ∙ tr)
    ]

    one_way : (p : Position) → (x : Bool) → p.to_read ≡ x → in_any_way p ≡ true →
        (p.to_read ≡ true) ⊎ (p.to_write ≡ true)
    one_way p true e h = inl e
    one_way p false e h = inr (or_right p.to_read p.to_write h e)

    lent_was : (n i : ℕ) (p : Position) (b : Before l.loans m off len ops n i p) →
        in_any_way p ≡ true → in_any_way b.before ≡ true
    lent_was n i p b any = elim (one_way p p.to_read refl any) as (λ _. in_any_way b.before ≡ true) [
      | inl tr ↦ read_any b.before (read_was n i p b tr)
      | inr tw ↦ written_any b.before (written_was n i p b tw)
    ]

    exclusive_left : IsExclusive loans'
    exclusive_left = record {
      once = λ n i j p q h g tw e.
          let b = before n i p h in
          let d = before n j q g in
          f.exclusive.once n i j b.before d.before b.at d.at (written_was n i p b tw) (sym b.same ∙ e ∙ d.same);
      alone = λ n k i j p q h g tw any e.
          let b = before n i p h in
          let d = before k j q g in
          f.exclusive.alone n k i j b.before d.before b.at d.at (written_was n i p b tw)
          (lent_was k j q d any) (sym b.same ∙ e ∙ d.same);
      unlent = unlent_after;
    }

    abbrev left : Wire
    left = copied_by ops range w

    comes_back : postread ops ≡ true → (b : ℕ) → left b ≡ copied_out range w b
    comes_back e b =
        ap (λ x. cond x (copied_in range w) (cond (postread ops) (copied_out range w) w) b) no_prewrite
        ∙ ap (λ x. cond x (copied_out range w) w b) e

    stays_so : postread ops ≡ false → (b : ℕ) → left b ≡ w b
    stays_so e b =
        ap (λ x. cond x (copied_in range w) (cond (postread ops) (copied_out range w) w) b) no_prewrite
        ∙ ap (λ x. cond x (copied_out range w) w b) e

    -- a Known byte of a range that POSTREAD takes back is at its bus address
    in_page : (k v : ℕ) (t : Placed) → slice_get range k ≡ Some t → postread ops ≡ true →
        l.memory t.pa ≡ Some (Known v) → w t.bus ≡ v
    in_page k v t h e is =
        let r = ranged k t h in
        let tw =
        postread_passes r.position.to_write SyncOrder
        (postread_part l.loans m ops r.position (passes m (off + k) r.position r.at r.inside) e) in
        f.agrees.written m (off + k) r.position t v r.at r.placed tw (ap l.memory r.same ∙ is)

    -- what was at an address of the driver's own, or at a bus address of the byte
    holds : (a v : ℕ) → w a ≡ v → ((k : ℕ) (t : Placed) → slice_get range k ≡ Some t → t.pa ≡ a →
        l.memory t.pa ≡ Some (Known v)) → (b : Bool) → postread ops ≡ b → left a ≡ v
    holds a v here back false e = stays_so e a ∙ here
    holds a v here back true e = comes_back e a ∙ by (source_of (λ t. t.pa) (λ t. t.bus) w a range w)
      where
        by : {x : ℕ} → Source (λ t. t.pa) (λ t. t.bus) w w range a x → x ≡ v
        by (stayed none s) = s ∙ here
        by (copied k t at same s) = s ∙ in_page k v t at e (back k t at same)

    holds_at : (n j v : ℕ) (q : Position) (u : Placed) → IsAt l.loans n j q → IsPlacedAt traces n j u →
        l.memory q.pa ≡ Some (Known v) → w u.bus ≡ v → left u.bus ≡ v
    holds_at n j v q u h g is here =
        holds u.bus v here
        (λ k t at same.
        let r = ranged k t at in
        let mine : own u.bus ≡ true = ap own (sym same) ∙ f.placed.lies m (off + k) t r.placed in
        ap l.memory (same ∙ f.placed.unbounced n j u g mine ∙ sym (same_pa own l traces f.placed n j q u h g)) ∙ is)
        (postread ops) refl

    -- a byte whose lending to write ended comes back
    back : (a v : ℕ) (r : Lender to_write a l.loans) → l.memory a ≡ Some (Known v) → lent to_write a loans' ≡ false →
        Inside l.loans m off len ops r.by_map r.place → (b : Bool) → postread ops ≡ b → left a ≡ v
    back a v r is free s false e =
        absurd
        (false≢true (sym free ∙ lent_by to_write a loans' r.by_map r.place (marked ops r.position)
        (at_inside l.loans m off len ops r.by_map r.place r.position r.at s) r.same
        (left_write r.position ∙ (λ x. not (e x) && r.lends x))))
    back a v r is free s true e = comes_back e a ∙ by (source_of (λ t. t.pa) (λ t. t.bus) w a range w)
      where
        u : Twin (λ (p : Position). p.pa) (λ (t : Placed). t.pa) (traces r.by_map) r.place r.position
        u = place_of own l traces f.placed r.by_map r.place r.position r.at

        here : w u.twin.bus ≡ v
        here = f.agrees.written r.by_map r.place r.position u.twin v r.at u.found r.lends (ap l.memory r.same ∙ is)

        own_place : (x : Bool) → (u.twin.bus == u.twin.pa) ≡ x →
            ((k : ℕ) (t : Placed) → slice_get range k ≡ Some t → is_bounced t ≡ true → t.pa ≡ a → ⊥) → w a ≡ v
        own_place true o none = ap w (sym r.same ∙ u.same ∙ sym (exact_unsigned_eq u.twin.bus u.twin.pa o)) ∙ here
        own_place false o none =
            absurd (none (r.place - off) u.twin (placed_in_range r.by_map r.place u.twin u.found s)
            (ap not o) (sym u.same ∙ r.same))

        unmoved : ((k : ℕ) (t : Placed) → slice_get range k ≡ Some t → is_bounced t ≡ true → t.pa ≡ a → ⊥) → w a ≡ v
        unmoved none = own_place (u.twin.bus == u.twin.pa) refl none

        by : {x : ℕ} → Source (λ t. t.pa) (λ t. t.bus) w w range a x → x ≡ v
        by (copied k t at same c) = c ∙ in_page k v t at e (ap l.memory same ∙ is)
        by (stayed none c) = c ∙ unmoved none

    kept_after : (a v : ℕ) → lent to_write a loans' ≡ false → l.memory a ≡ Some (Known v) → (b : Bool) →
        lent to_write a l.loans ≡ b → left a ≡ v
    kept_after a v free is false e =
        holds a v (f.agrees.kept a v e is) (λ k t at same. ap l.memory same ∙ is) (postread ops) refl
    kept_after a v free is true e =
        let r = lender_of to_write a l.loans e in
        elim (placed_in l.loans m off len ops r.by_map r.place) as (λ _. left a ≡ v) [
          | inl s ↦ back a v r is free s (postread ops) refl
          | inr out ↦
              absurd (false≢true (sym free
              ∙ lent_by to_write a loans' r.by_map r.place r.position
              (at_outside l.loans m off len ops r.by_map r.place r.position r.at out) r.same r.lends))
        ]

    read_after : (n i v : ℕ) (p : Position) (t : Placed) → IsAt l.loans n i p → IsPlacedAt traces n i t →
        p.to_read ≡ true → l.memory p.pa ≡ Some (Known v) → (b : Bool) → lent to_write p.pa l.loans ≡ b → w t.bus ≡ v
    read_after n i v p t h g tr is false e = f.agrees.read n i p t v h g tr e is
    read_after n i v p t h g tr is true e =
        let r = lender_of to_write p.pa l.loans e in
        let one =
        same_lender own l traces f.placed f.exclusive r.by_map n r.place i r.position p r.at h
        r.lends (read_any p tr) r.same in
        f.agrees.written n i p t v h g (ap to_write
        (sym (one_position own l traces f.placed r.by_map n r.place i r.position p r.at h one.0 one.1))
        ∙ r.lends) is

    pub faithful_after_work : Faithful own (record l { loans = loans'; memory = memory' }) traces left
    faithful_after_work = record {
      placed = placed_after;
      exclusive = exclusive_left;
      agrees = record {
        written = λ n i p t v h g tw is.
            let b = before n i p h in
            let was : l.memory b.before.pa ≡ Some (Known v) = known b.before.pa v (ap memory' (sym b.same) ∙ is) in
            holds_at n i v b.before t b.at g was
            (f.agrees.written n i b.before t v b.at g (written_was n i p b tw) was);
        read = λ n i p t v h g tr free is.
            let b = before n i p h in
            let was : l.memory b.before.pa ≡ Some (Known v) = known b.before.pa v (ap memory' (sym b.same) ∙ is) in
            holds_at n i v b.before t b.at g was
            (read_after n i v b.before t b.at g (read_was n i p b tr) was
            (lent to_write b.before.pa l.loans) refl);
        kept = λ a v free is. kept_after a v free (known a v is) (lent to_write a l.loans) refl;
      };
    }
