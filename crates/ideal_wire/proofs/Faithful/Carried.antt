-- Pages come with any bytes and leave with theirs, and the wire stays faithful.
use Rattle.std.proofs.Common.{◌≡◌, ◌≢◌, ℕ, zero, suc, ◌+◌, ◌*◌, ◌<◌, ◌≤◌, ◌==◌, Bool, true, false, cond, List, [], ◌∷◌}
use Rattle.std.proofs.Common.{Some, None, slice_get, is_some, ◌⊎◌, inl, inr, refl, ap, sym, ◌∙◌, arith, eq-eqb}
use Rattle.std.proofs.Common.{unwrap_or}
use Rattle.std.proofs.lemmas.Bool.{false≢true, ne_eqb, le-leb, lt-ltb}
use Rattle.std.proofs.lemmas.Option.{slice_get-map}
use Rattle.std.specs.Option.{option_map}
use Rattle.std.specs.FinMap.{get, insert, remove}
use Rattle.busdma_machine.specs.Bounce.MemoryRuns.{in_run}
use Rattle.busdma_machine.specs.Machine.Wire.{Wire, Placed}
use Rattle.busdma_rules.specs.declared.position.Position.{Position}
use Rattle.busdma_rules.specs.Lending.Loans.{Loan, loan_of, no_loan, addresses_of}
use Rattle.busdma_rules.specs.Lending.Loans.{to_write, in_any_way, lent, unlent_positions as unlent}
use Rattle.busdma_rules.specs.Lending.Loans.{new_loan}
use Rattle.busdma_rules.specs.Lending.SyncEffects.{lost_by_forgetting}
use Rattle.ideal_lane.specs.IdealMemory.{Known, forgotten}
use Rattle.ideal_lane.specs.State.{LaneState, LaneMap}
use Rattle.ideal_lane.specs.Syncs.{bounced_in}
use Rattle.ideal_lane.specs.Unloads.{pages_of}
use Rattle.ideal_lane.proofs.Lookups.{get_put, get_cut}
use Rattle.ideal_wire.specs.Centre.{IsAt, IsPlacedAt, IsExclusive, IsFaithful}
use Rattle.ideal_wire.specs.Laid.{AreLaid}
use Rattle.ideal_wire.specs.Traces.{stage_in, stage_at, placed_from, traces_of, is_in_pages}
use Rattle.ideal_wire.specs.WireStep.{Follows}
use Rattle.ideal_wire.proofs.Faithful.Buses.{placed-at}
use Rattle.ideal_wire.proofs.Faithful.LoadPositions.{written_any, read_any}
use Rattle.ideal_wire.proofs.Faithful.Lent.{Lender, lender_of, lent_by, any_at}
use Rattle.ideal_wire.proofs.Faithful.PlacedLoads.{Lies, ItsOwn, InPage, lies-of}
use Rattle.ideal_wire.proofs.Laid.Positions.{found_one}
use Rattle.ideal_wire.proofs.Faithful.SyncedPositions.{decided, known_before, not_lost}

-- a bus address is the byte's own, or lies in a page of the map
abbrev pub AreBused : LaneState → Type 0
AreBused l = (m i : ℕ) (t : Placed) → IsPlacedAt (traces_of l) m i t →
    (t.bus ≡ t.pa) ⊎ (is_in_pages (pages_of (stage_at l m)) t.bus ≡ true)

pub are-bused : (l : LaneState) → AreLaid l → AreBused l
are-bused l laid m i t h = by (lies-of l laid m i t h)
  where
    by : Lies l laid m i t → (t.bus ≡ t.pa) ⊎ (is_in_pages (pages_of (stage_at l m)) t.bus ≡ true)
    by (ItsOwn e) = inl e
    by (InPage x e) =
        let low : e.page ≤ t.bus = e.low in
        let high : t.bus < e.page + 4096 * 1 = omega (arith, e.high) in
        let inside : in_run e.page 1 t.bus ≡ true =
        rw (le-leb e.page t.bus low, lt-ltb t.bus (e.page + 4096 * 1) high) refl in
        inr (ap (λ s. is_in_pages (pages_of s) t.bus) x.stage
        ∙ any_at (λ p. in_run p 1 t.bus) x.pages e.index e.page e.has_page inside)

-- a map that lends after the step has the same loan and the same stage as before; a byte of a load that is Known after
-- the step was Known; any other byte that is Known after it was Known or came with it; and a byte that is Known after
-- it and was lent to write is still lent to write
pub record Carries (l l' : LaneState) : Type 0 where
  pub loan : (n i : ℕ) (p : Position) → IsAt l'.loans n i p → in_any_way p ≡ true →
      (loan_of l'.loans n ≡ loan_of l.loans n) × (stage_at l' n ≡ stage_at l n)
  pub known : (a v : ℕ) → l'.memory a ≡ Some (Known v) → (l.memory a ≡ Some (Known v)) ⊎ (l.memory a ≡ None)
  pub held : (n i v : ℕ) (p : Position) → IsAt l.loans n i p → l'.memory p.pa ≡ Some (Known v) →
      l.memory p.pa ≡ Some (Known v)
  pub lending : (a v : ℕ) → l'.memory a ≡ Some (Known v) → lent to_write a l.loans ≡ true →
      lent to_write a l'.loans ≡ true
  pub idle : (n i : ℕ) (p : Position) → (loan_of l'.loans n).coherent ≡ true → IsAt l'.loans n i p →
      in_any_way p ≡ false

-- the wire stays faithful when pages come and go
module _ (l l' : LaneState) (w w' : Wire) (bused : AreBused l) (f : IsFaithful l w) (c : Carries l l')
    (h : Follows l l' w w') where
  was_at : (n i : ℕ) (p : Position) → loan_of l'.loans n ≡ loan_of l.loans n → IsAt l'.loans n i p → IsAt l.loans n i p
  was_at n i p e at = sym (λ x. slice_get (e x).positions i) ∙ at

  was_placed : (n i : ℕ) (t : Placed) → loan_of l'.loans n ≡ loan_of l.loans n → stage_at l' n ≡ stage_at l n →
      IsPlacedAt (traces_of l') n i t → IsPlacedAt (traces_of l) n i t
  was_placed n i t a b at =
      sym (λ x. slice_get (placed_from (bounced_in (b x)) 0 (addresses_of (a x).positions)) i) ∙ at

  was_free : (a v : ℕ) → l'.memory a ≡ Some (Known v) → lent to_write a l'.loans ≡ false → (b : Bool) →
      lent to_write a l.loans ≡ b → b ≡ false
  was_free a v is free false e = refl
  was_free a v is free true e = absurd (false≢true (sym free ∙ c.lending a v is e))

  -- a byte that is Known before and after stays
  own_stays : (a v : ℕ) → l.memory a ≡ Some (Known v) → l'.memory a ≡ Some (Known v) → w' a ≡ w a
  own_stays a v was is = h.own a (ap is_some was) (ap is_some is)

  -- the byte at the bus address of a Known byte stays
  bus_stays : (n i v : ℕ) (p : Position) (t : Placed) → stage_at l' n ≡ stage_at l n → IsAt l.loans n i p →
      IsPlacedAt (traces_of l) n i t → l'.memory p.pa ≡ Some (Known v) → w' t.bus ≡ w t.bus
  bus_stays n i v p t stage at placed is = by (bused n i t placed)
    where
      same : p.pa ≡ t.pa
      same =
          found_one (option_map (λ (q : Position). q.pa) (slice_get (loan_of l.loans n).positions i)) p.pa t.pa
          (ap (option_map (λ (q : Position). q.pa)) at)
          (sym (slice_get-map (λ (q : Position). q.pa) (loan_of l.loans n).positions i)
          ∙ (placed-at (bounced_in (stage_at l n)) 0 (addresses_of (loan_of l.loans n).positions) i t placed).0)

      by : (t.bus ≡ t.pa) ⊎ (is_in_pages (pages_of (stage_at l n)) t.bus ≡ true) → w' t.bus ≡ w t.bus
      by (inl e) =
          own_stays t.bus v (ap l.memory (e ∙ sym same) ∙ c.held n i v p at is) (ap l'.memory (e ∙ sym same) ∙ is)
      by (inr e) = h.pages n t.bus e (ap (λ s. is_in_pages (pages_of s) t.bus) stage ∙ e)

  -- a byte that is Known and not lent to write has its value there, if it was Known or came
  kept_stays : (a v : ℕ) → lent to_write a l'.loans ≡ false → l'.memory a ≡ Some (Known v) →
      (l.memory a ≡ Some (Known v)) ⊎ (l.memory a ≡ None) → w' a ≡ v
  kept_stays a v free is (inl was) =
      own_stays a v was is ∙ f.agrees.kept a v (was_free a v is free (lent to_write a l.loans) refl) was
  kept_stays a v free is (inr none) = h.known a v none is

  pub carried : IsFaithful l' w'
  carried = record {
    exclusive = record {
      once = λ n i j p q at too tw e.
          let k = c.loan n i p at (written_any p tw) in
          f.exclusive.once n i j p q (was_at n i p k.0 at) (was_at n j q k.0 too) tw e;
      alone = λ n m i j p q at too tw any e.
          let k = c.loan n i p at (written_any p tw) in
          let d = c.loan m j q too any in
          f.exclusive.alone n m i j p q (was_at n i p k.0 at) (was_at m j q d.0 too) tw any e;
      unlent = c.idle;
    };
    agrees = record {
      written = λ n i p t v at placed tw is.
          let k = c.loan n i p at (written_any p tw) in
          let stood = was_placed n i t k.0 k.1 placed in
          let there = was_at n i p k.0 at in
          bus_stays n i v p t k.1 there stood is
          ∙ f.agrees.written n i p t v there stood tw (c.held n i v p there is);
      read = λ n i p t v at placed tr free is.
          let k = c.loan n i p at (read_any p tr) in
          let stood = was_placed n i t k.0 k.1 placed in
          let there = was_at n i p k.0 at in
          bus_stays n i v p t k.1 there stood is
          ∙ f.agrees.read n i p t v there stood tr
          (was_free p.pa v is free (lent to_write p.pa l.loans) refl) (c.held n i v p there is);
      kept = λ a v free is. kept_stays a v free is (c.known a v is);
    };
  }

-- ---- the stage of a map after another map was put or cut
pub put-stage : (l : LaneState) (m n : ℕ) (x : LaneMap) → n ≢ m →
    stage_in (get (insert l.maps m x) n) ≡ stage_in (get l.maps n)
put-stage l m n x off = ap stage_in (get_put l.maps m x n ∙ ap (λ b. cond b (Some x) (get l.maps n)) (ne_eqb n m off))

pub cut-stage : (l : LaneState) (m n : ℕ) → n ≢ m → stage_in (get (remove l.maps m) n) ≡ stage_in (get l.maps n)
cut-stage l m n off = ap stage_in (get_cut l.maps m n ∙ ap (λ b. cond b None (get l.maps n)) (ne_eqb n m off))

-- ---- a step that changes no loan, and at most the stage of a map that is not loaded
pub like-carries : (l l' : LaneState) → IsExclusive l.loans → l'.loans ≡ l.loans →
    ((a v : ℕ) → l'.memory a ≡ Some (Known v) → (l.memory a ≡ Some (Known v)) ⊎ (l.memory a ≡ None)) →
    ((n i v : ℕ) (p : Position) → IsAt l.loans n i p → l'.memory p.pa ≡ Some (Known v) →
    l.memory p.pa ≡ Some (Known v)) →
    ((n i : ℕ) (p : Position) → IsAt l.loans n i p → stage_at l' n ≡ stage_at l n) → Carries l l'
like-carries l l' e loans known held stages = record {
  loan = λ n i p at any. (
    λ x. loan_of (loans x) n,
    stages n i p (sym (λ x. slice_get (loan_of (loans x) n).positions i) ∙ at),
  );
  known = known;
  held = held;
  lending = λ a v is was. (λ x. lent to_write a (loans x)) ∙ was;
  idle = λ n i p c at. e.unlent n i p (sym (λ x. (loan_of (loans x) n).coherent)
      ∙ c) (sym (λ x. slice_get (loan_of (loans x) n).positions i) ∙ at);
}

-- no byte comes to the driver
pub fewer-carries : (l l' : LaneState) → IsExclusive l.loans → l'.loans ≡ l.loans →
    ((a v : ℕ) → l'.memory a ≡ Some (Known v) → l.memory a ≡ Some (Known v)) →
    ((n i : ℕ) (p : Position) → IsAt l.loans n i p → stage_at l' n ≡ stage_at l n) → Carries l l'
fewer-carries l l' e loans known stages =
    like-carries l l' e loans (λ a v is. inl (known a v is)) (λ n i v p at is. known p.pa v is) stages

-- no byte leaves the driver
pub same-carries : (l l' : LaneState) → IsExclusive l.loans → l'.loans ≡ l.loans → l'.memory ≡ l.memory →
    ((n i : ℕ) (p : Position) → IsAt l.loans n i p → stage_at l' n ≡ stage_at l n) → Carries l l'
same-carries l l' e loans memory stages = fewer-carries l l' e loans (λ a v is. sym (λ x. memory x a) ∙ is) stages

pub no-position : {A : Type 0} (l : LaneState) (m n i : ℕ) (p : Position) → loan_of l.loans m ≡ no_loan → n ≡ m →
    IsAt l.loans n i p → A
no-position l m n i p none e at =
    let gone : slice_get [] i ≡ Some p =
    sym (λ x. slice_get (none x).positions i) ∙ ((λ x. slice_get (loan_of l.loans (sym e x)).positions i) ∙ at) in
    absurd (cc)

-- all maps but one that lends nothing have their stage
pub but-one : (l l' : LaneState) (m : ℕ) → loan_of l.loans m ≡ no_loan →
    ((n : ℕ) → n ≢ m → stage_at l' n ≡ stage_at l n) →
    (n i : ℕ) (p : Position) → IsAt l.loans n i p → stage_at l' n ≡ stage_at l n
but-one l l' m none stages n i p at = elim (decided n m) as (λ _. stage_at l' n ≡ stage_at l n)
    [ inl here ↦ no-position l m n i p none here at | inr off ↦ stages n off ]

pub idle-carries : (l l' : LaneState) (m : ℕ) → IsExclusive l.loans → l'.loans ≡ l.loans → l'.memory ≡ l.memory →
    loan_of l.loans m ≡ no_loan → ((n : ℕ) → n ≢ m → stage_at l' n ≡ stage_at l n) → Carries l l'
idle-carries l l' m e loans memory none stages = same-carries l l' e loans memory (but-one l l' m none stages)

-- ---- an unload that is done
module _ (l l' : LaneState) (m : ℕ) (e : IsExclusive l.loans) (loans : l'.loans ≡ remove l.loans m)
    (memory : l'.memory ≡ forgotten (lost_by_forgetting l.loans m) l.memory)
    (stages : (n : ℕ) → n ≢ m → stage_at l' n ≡ stage_at l n) where
  loan_removed : (n : ℕ) (b : Bool) → (n == m) ≡ b → loan_of l'.loans n ≡ cond b no_loan (loan_of l.loans n)
  loan_removed n b t = (λ x. loan_of (loans x) n) ∙ ap (λ o. unwrap_or o no_loan) (get_cut l.loans m n
      ∙ ap (λ b. cond b None (get l.loans n)) t) ∙ chosen b
    where
      chosen : (b : Bool) → unwrap_or (cond b None (get l.loans n)) no_loan ≡ cond b no_loan (loan_of l.loans n)
      chosen true = refl
      chosen false = refl

  -- a map with a position is another one, with the loan that it had
  another : (n i : ℕ) (p : Position) → IsAt l'.loans n i p → (b : Bool) → (n == m) ≡ b →
      (n ≢ m) × (loan_of l'.loans n ≡ loan_of l.loans n)
  another n i p at true t = let gone : slice_get [] i ≡ Some p =
      sym (λ x. slice_get (loan_removed n true t x).positions i) ∙ at in absurd (cc)
  another n i p at false t = ((λ s. false≢true (sym t ∙ eq-eqb n m s)), loan_removed n false t)

  still_at : (n i : ℕ) (p : Position) → n ≢ m → IsAt l.loans n i p → IsAt l'.loans n i p
  still_at n i p ne at = (λ x. slice_get (loan_removed n false (ne_eqb n m ne) x).positions i) ∙ at

  forgot : (a v : ℕ) → l'.memory a ≡ Some (Known v) → forgotten (lost_by_forgetting l.loans m) l.memory a ≡ Some
      (Known v)
  forgot a v is = sym (λ x. memory x a) ∙ is

  pub unload-carries : Carries l l'
  unload-carries = record {
    loan = λ n i p at any. let o = another n i p at (n == m) refl in (o.1, stages n o.0);
    known = λ a v is. inl (known_before (lost_by_forgetting l.loans m) l.memory a v (forgot a v is)).1;
    held = λ n i v p at is. (known_before (lost_by_forgetting l.loans m) l.memory p.pa v (forgot p.pa v is)).1;
    lending = λ a v is was. by a v (forgot a v is) (lender_of to_write a l.loans was);
    idle = λ n i p c at.
        let o = another n i p at (n == m) refl in
        e.unlent n i p (sym (λ x. (o.1 x).coherent) ∙ c) (sym (λ x. slice_get (o.1 x).positions i) ∙ at);
  }
    where
      by : (a v : ℕ) → forgotten (lost_by_forgetting l.loans m) l.memory a ≡ Some (Known v) →
          Lender to_write a l.loans → lent to_write a l'.loans ≡ true
      by a v is r = elim (decided r.by_map m) as (λ _. lent to_write a l'.loans ≡ true) [
        | inr ne ↦ lent_by to_write a l'.loans r.by_map r.place r.position
            (still_at r.by_map r.place r.position ne r.at) r.same r.lends
        | inl here ↦
            absurd
            (false≢true
            (sym (not_lost to_write (loan_of l.loans m).positions r.place v r.position l.memory
            (sym (λ x. slice_get (loan_of l.loans (here x)).positions r.place) ∙ r.at)
            (ap (forgotten (lost_by_forgetting l.loans m) l.memory) r.same ∙ is)) ∙ r.lends))
      ]

-- ---- a load that is done, of a map that was not loaded
module _ (l l' : LaneState) (m : ℕ) (coherent : Bool) (bytes : List ℕ) (e : IsExclusive l.loans)
    (none : loan_of l.loans m ≡ no_loan) (loans : l'.loans ≡ insert l.loans m (new_loan coherent bytes))
    (memory : l'.memory ≡ l.memory) (stages : (n : ℕ) → n ≢ m → stage_at l' n ≡ stage_at l n) where
  abbrev new : Loan
  new = new_loan coherent bytes

  loan_put : (n : ℕ) (b : Bool) → (n == m) ≡ b → loan_of l'.loans n ≡ cond b new (loan_of l.loans n)
  loan_put n b t = (λ x. loan_of (loans x) n) ∙ ap (λ o. unwrap_or o no_loan) (get_put l.loans m new n
      ∙ ap (λ b. cond b (Some new) (get l.loans n)) t) ∙ chosen b
    where
      chosen : (b : Bool) → unwrap_or (cond b (Some new) (get l.loans n)) no_loan ≡ cond b new (loan_of l.loans n)
      chosen true = refl
      chosen false = refl

  nothing_lent : (bytes : List ℕ) (i : ℕ) (p : Position) → slice_get (unlent bytes) i ≡ Some p → in_any_way p ≡ false
  nothing_lent [] i p at = absurd (cc)
  nothing_lent (a ∷ bytes) zero p at = sym (ap in_any_way (found_one _ _ p refl at))
  nothing_lent (a ∷ bytes) (suc i) p at = nothing_lent bytes i p at

  other_map : (n i : ℕ) (p : Position) → IsAt l'.loans n i p → in_any_way p ≡ true → (b : Bool) → (n == m) ≡ b →
      (loan_of l'.loans n ≡ loan_of l.loans n) × (stage_at l' n ≡ stage_at l n)
  other_map n i p at any true t =
      absurd
      (false≢true (sym (nothing_lent bytes i p (sym (λ x. slice_get (loan_put n true t x).positions i) ∙ at)) ∙ any))
  other_map n i p at any false t = (loan_put n false t, stages n (λ s. false≢true (sym t ∙ eq-eqb n m s)))

  lends_nothing : (n i : ℕ) (p : Position) → (loan_of l'.loans n).coherent ≡ true → IsAt l'.loans n i p →
      (b : Bool) → (n == m) ≡ b → in_any_way p ≡ false
  lends_nothing n i p c at true t =
      nothing_lent bytes i p (sym (λ x. slice_get (loan_put n true t x).positions i) ∙ at)
  lends_nothing n i p c at false t = e.unlent n i p (sym (λ x. (loan_put n false t x).coherent)
      ∙ c) (sym (λ x. slice_get (loan_put n false t x).positions i) ∙ at)

  pub load-carries : Carries l l'
  load-carries = record {
    loan = λ n i p at any. other_map n i p at any (n == m) refl;
    known = λ a v is. inl (sym (λ x. memory x a) ∙ is);
    held = λ n i v p at is. sym (λ x. memory x p.pa) ∙ is;
    lending = λ a v is was. by a (lender_of to_write a l.loans was);
    idle = λ n i p c at. lends_nothing n i p c at (n == m) refl;
  }
    where
      by : (a : ℕ) → Lender to_write a l.loans → lent to_write a l'.loans ≡ true
      by a r = elim (decided r.by_map m) as (λ _. lent to_write a l'.loans ≡ true) [
        | inr ne ↦ lent_by to_write a l'.loans r.by_map r.place r.position
            ((λ x. slice_get (loan_put r.by_map false (ne_eqb r.by_map m ne) x).positions r.place)
            ∙ r.at) r.same r.lends
        | inl here ↦ no-position l m r.by_map r.place r.position none here r.at
      ]
