-- Stretches of a memory, through its changes.
use Rattle.std.proofs.Common.{◌≡◌, ◌≢◌, ℕ, zero, suc, ◌+◌, ◌-◌, ◌/◌, ◌^◌, ◌<◌, ◌≤◌, Bool, true, false, cond, List, []}
use Rattle.std.proofs.Common.{◌∷◌, get_or, length, replicate, refl, ap, sym, ◌∙◌, subst, inl, inr, ◌⊎◌, arith}
use Rattle.std.specs.Prelude.{Option, Some, None, is_some, nat_le, slice_get, slice_set, ◌&&◌, if◌then◌else◌}
use Rattle.std.specs.Ordering.{nat_cmp}
use Rattle.std.specs.FinMap.{FinMap, get, insert, remove}
use Rattle.std.proofs.lemmas.Bool.{lt-ltb, lt-leb, le-leb, le-ltb, ne_eqb, cases_lt}
use Rattle.std.proofs.lemmas.Bool.Decides.{eqb_tells, leb_tells}
use Rattle.std.proofs.lemmas.Option.{slice_get-get_or}
use Rattle.phys_memory.specs.declared.reach.Reach.{Reach}
use Rattle.phys_memory.specs.declared.stretch.Stretch.{Stretch}
use Rattle.phys_memory.specs.Memory.{FrameMemory, row_at}
use Rattle.phys_memory.specs.Stretches.{AreStretches, IsKnown, StandsInStretch, cut_at}
use Rattle.phys_memory.specs.Stretches.{follows, frame_in, stretch_goes_on, stretch_grown, longer}
use Rattle.phys_memory.specs.Stretches.{stretch_has_page, no_stretch, slot_of, whole}
use Rattle.phys_memory.proofs.Tables.{get_inserted, get_removed}

abbrev pub Table : Type 0
Table = FinMap nat_cmp Reach

-- ---- what the tests say

follows_tells : (from count next : ℕ) → follows from count next ≡ true → next ≡ from + count
follows_tells from count next h = elim (leb_tells from next) [
  | inl l ↦ elim (eqb_tells (next - from) count) [
    | inl e ↦ let a = l.1 in let b = e.1 in omega (arith, a, b)
    | inr e ↦ absurd (clash (follows from count next) h (rw (l.0, e.0)))
  ]
  | inr l ↦ absurd (clash (follows from count next) h (rw l.0))
]
  where
    clash : (c : Bool) → c ≡ true → c ≡ false → ⊥
    clash c t f = absurd (cc)

both : (a b : Bool) → (a && b) ≡ true → (a ≡ true) × (b ≡ true)
both true b h = (refl, h)
both false b h = absurd (cc)

on_tells : (s : Stretch) (page frame : ℕ) → stretch_goes_on s page frame ≡ true →
    (page ≡ s.page + s.count) × (frame ≡ s.frame + s.count)
on_tells s page frame h =
    let parts = both (follows s.page s.count page) (follows s.frame s.count frame) h in
    (follows_tells s.page s.count page parts.0, follows_tells s.frame s.count frame parts.1)

has_split : (s : Stretch) (page : ℕ) →
    ((stretch_has_page s page ≡ true) × (s.page ≤ page) × (page < s.page + s.count))
    ⊎ ((stretch_has_page s page ≡ false) × ((page < s.page) ⊎ (s.page + s.count ≤ page)))
has_split s page = elim (leb_tells s.page page) [
  | inl l ↦ elim (cases_lt (page - s.page) s.count) [
    | inl c ↦ let a = l.1 in inl (yes a c, a, omega (arith, a, c))
    | inr c ↦ let a = l.1 in inr (no a c, inr (omega (arith, a, c)))
  ]
  | inr l ↦ inr (before l.1, inl l.1)
]
  where
    yes : s.page ≤ page → page - s.page < s.count → stretch_has_page s page ≡ true
    yes a c = rw (le-leb s.page page a, lt-ltb (page - s.page) s.count c)

    no : s.page ≤ page → s.count ≤ page - s.page → stretch_has_page s page ≡ false
    no a c = rw (le-leb s.page page a, le-ltb (page - s.page) s.count c)

    before : page < s.page → stretch_has_page s page ≡ false
    before a = rw (lt-leb s.page page a)

-- ---- one stretch

no_row : (r : Reach) → ◌≡◌ {A = Option Reach} None (Some r) → ⊥
no_row r e = absurd (cc)

-- a page that was not there is none of a stretch
known_inserted : (t : Table) (p : ℕ) (r : Reach) (s : Stretch) → get t p ≡ None → IsKnown t s →
    IsKnown (insert t p r) s
known_inserted t p r s free is = record {
  rows = λ k h. get_inserted t p r (s.page + k) ∙ elim (eqb_tells (s.page + k) p) [
    | inl e ↦ absurd (no_row (whole (s.frame + k)) (sym free ∙ (ap (get t) (sym e.1) ∙ is.rows k h)))
    | inr e ↦ ap (λ b. cond b (Some r) (get t (s.page + k))) e.0 ∙ is.rows k h
  ];
  low = is.low;
  fits = is.fits;
}

known_removed : (t : Table) (p : ℕ) (s : Stretch) → ((k : ℕ) → k < s.count → s.page + k ≢ p) → IsKnown t s →
    IsKnown (remove t p) s
known_removed t p s away is = record {
  rows = λ k h. get_removed t p (s.page + k)
      ∙ ap (λ b. cond b None (get t (s.page + k))) (ne_eqb (s.page + k) p (away k h)) ∙ is.rows k h;
  low = is.low;
  fits = is.fits;
}

-- a stretch with one more page
one_more : (t : Table) (p f : ℕ) (s : Stretch) → get t p ≡ None → p < 2 ^ 52 → f < 2 ^ 30 →
    p ≡ s.page + s.count → f ≡ s.frame + s.count → IsKnown t s →
    IsKnown (insert t p (whole f)) (record s { count = s.count + 1 })
one_more t p f s free low below at at_frame is =
    let old = known_inserted t p (whole f) s free is in
    record {
      rows = λ k h. elim (cases_lt k s.count) [
        | inl c ↦ old.rows k c
        | inr c ↦
            let page : s.page + k ≡ p = omega (arith, h, c, at) in
            let frame : f ≡ s.frame + k = omega (arith, h, c, at_frame) in
            get_inserted t p (whole f) (s.page + k)
            ∙ elim (eqb_tells (s.page + k) p) [
              | inl e ↦ ap (λ b. cond b (Some (whole f)) (get t (s.page + k))) e.0 ∙ ap (λ n. Some (whole n)) frame
              | inr e ↦ absurd (e.1 page)
            ]
      ];
      low = omega (arith, low, at);
      fits = omega (arith, below, at_frame);
    }

alone : (t : Table) (p f : ℕ) → p < 2 ^ 52 → f < 2 ^ 30 →
    IsKnown (insert t p (whole f)) (record { page = p; frame = f; count = 1 })
alone t p f low below = record {
  rows = λ k h.
      let page : p + k ≡ p = omega (arith, h) in
      let frame : f ≡ f + k = omega (arith, h) in
      get_inserted t p (whole f) (p + k) ∙ elim (eqb_tells (p + k) p) [
        | inl e ↦ ap (λ b. cond b (Some (whole f)) (get t (p + k))) e.0 ∙ ap (λ n. Some (whole n)) frame
        | inr e ↦ absurd (e.1 page)
      ];
  low = omega (arith, low);
  fits = omega (arith, below);
}

-- ---- stretches at their places

stands_longer : (t : Table) (p f i : ℕ) (s : Stretch) → get t p ≡ None → p < 2 ^ 52 → f < 2 ^ 30 → slot_of p ≡ i →
    StandsInStretch t i s → StandsInStretch (insert t p (whole f)) i (longer s p f)
stands_longer t p f i s free low below slot is =
    (elim (stretch_goes_on s p f) as (λ b. stretch_goes_on s p f ≡ b → StandsInStretch (insert t p (whole f)) i
    (cond b (record s { count = s.count + 1 })
    (cond (nat_le 16 s.count) s (record { page = p; frame = f; count = 1 })))) [
      | true ↦ λ w. let on = on_tells s p f w in record {
        known = one_more t p f s free low below on.0 on.1 is.known;
        slot = λ k h. elim (cases_lt k s.count) [
          | inl c ↦ is.slot k c
          | inr c ↦ let page : s.page + k ≡ p = let at = on.0 in omega (arith, h, c, at) in ap slot_of page ∙ slot
        ];
      }
      | false ↦ λ w. elim (nat_le 16 s.count) as (λ b. StandsInStretch (insert t p (whole f)) i
          (cond b s (record { page = p; frame = f; count = 1 }))) [
            | true ↦ record { known = known_inserted t p (whole f) s free is.known; slot = is.slot }
            | false ↦ record {
              known = alone t p f low below;
              slot = λ k h. let page : p + k ≡ p = omega (arith, h) in ap slot_of page ∙ slot;
            }
          ]
    ]) refl

stands_cut : (t : Table) (p i : ℕ) (s : Stretch) → StandsInStretch t i s → StandsInStretch (remove t p) i (cut_at s p)
stands_cut t p i s is = elim (has_split s p) [
  | inl h ↦
      let to = h.2 in
      let short : Stretch = record s { count = p - s.page } in
      let low = is.known.low in
      let fits = is.known.fits in
      let less : IsKnown t short = record {
        rows = λ k l. is.known.rows k (omega (arith, l, to));
        low = omega (arith, low, to);
        fits = omega (arith, fits, to);
      } in
      subst (StandsInStretch (remove t p) i) (sym (ap (λ b. cond b short s) h.0)) (record {
        known = known_removed t p short (λ k l e. omega (arith, l, e)) less;
        slot = λ k l. is.slot k (omega (arith, l, to));
      })
  | inr h ↦
      let short : Stretch = record s { count = p - s.page } in
      subst (StandsInStretch (remove t p) i) (sym (ap (λ b. cond b short s) h.0)) (record {
        known = known_removed t p s (λ k l e. outside h.1 k l e) is.known;
        slot = is.slot;
      })
]
  where
    outside : (p < s.page) ⊎ (s.page + s.count ≤ p) → (k : ℕ) → k < s.count → s.page + k ≢ p
    outside (inl a) k l e = omega (arith, a, l, e)
    outside (inr a) k l e = omega (arith, a, l, e)

-- ---- all stretches of a memory

-- what holds of the new element at its place, and of the old ones elsewhere, holds of all after the change
each_set : (P : ℕ → Stretch → Type 0) (ss : List Stretch) (k : ℕ) (m : Stretch) → P k m →
    ((i : ℕ) (s : Stretch) → i ≢ k → slice_get ss i ≡ Some s → P i s) →
    (i : ℕ) (s : Stretch) → slice_get (slice_set ss k m) i ≡ Some s → P i s
each_set P [] k m here others i s h = absurd (cc)
each_set P (x ∷ ss) zero m here others zero s h =
    let same : m ≡ s = cc in subst (P zero) same here
each_set P (x ∷ ss) zero m here others (suc i) s h =
    others (suc i) s (λ e. absurd (omega (arith, e))) h
each_set P (x ∷ ss) (suc k) m here others zero s h =
    others zero s (λ e. absurd (omega (arith, e))) h
each_set P (x ∷ ss) (suc k) m here others (suc i) s h =
    each_set (λ j. P (suc j)) ss k m here (λ j n off e. others (suc j) n (λ q. off (omega (arith, q))) e) i s h

stands_grown : (t : Table) (p i : ℕ) (r : Reach) (s : Stretch) → get t p ≡ None → p < 2 ^ 52 → r.frame < 2 ^ 30 →
    slot_of p ≡ i → StandsInStretch t i s → StandsInStretch (insert t p r) i (stretch_grown s p r)
stands_grown t p i r s free low below slot is = elim (eqb_tells r.reach 4096) [
  | inl e ↦
      let row : whole r.frame ≡ r = let n = sym e.1 in ap (λ k. record { frame = r.frame; reach = k }) n in
      subst (StandsInStretch (insert t p r) i) (sym (ap (λ b. cond b (longer s p r.frame) s) e.0))
      (subst (λ x. StandsInStretch (insert t p x) i (longer s p r.frame)) row
      (stands_longer t p r.frame i s free low below slot is))
  | inr e ↦ subst (StandsInStretch (insert t p r) i) (sym (ap (λ b. cond b (longer s p r.frame) s) e.0))
      (record { known = known_inserted t p r s free is.known; slot = is.slot })
]

pub all_grown : (t : Table) (p : ℕ) (r : Reach) (ss : List Stretch) (s : Stretch) → get t p ≡ None → p < 2 ^ 52 →
    r.frame < 2 ^ 30 → slice_get ss (slot_of p) ≡ Some s → AreStretches t ss →
    AreStretches (insert t p r) (slice_set ss (slot_of p) (stretch_grown s p r))
all_grown t p r ss s free low below here are =
    each_set (StandsInStretch (insert t p r)) ss (slot_of p) (stretch_grown s p r)
    (stands_grown t p (slot_of p) r s free low below refl (are (slot_of p) s here))
    (λ i x off e.
    let is = are i x e in record { known = known_inserted t p r x free is.known; slot = is.slot })

pub all_cut : (t : Table) (p : ℕ) (ss : List Stretch) (s : Stretch) → slice_get ss (slot_of p) ≡ Some s →
    AreStretches t ss → AreStretches (remove t p) (slice_set ss (slot_of p) (cut_at s p))
all_cut t p ss s here are =
    each_set (StandsInStretch (remove t p)) ss (slot_of p) (cut_at s p)
    (stands_cut t p (slot_of p) s (are (slot_of p) s here))
    (λ i x off e.
    let is = are i x e in
    record {
      known = known_removed t p x (λ k l q. off (sym (is.slot k l) ∙ ap slot_of q)) is.known;
      slot = is.slot;
    })

-- the stretches after one was changed at its place
pub length_set : (ss : List Stretch) (k : ℕ) (s : Stretch) → length (slice_set ss k s) ≡ length ss
length_set [] k s = refl
length_set (x ∷ ss) zero s = refl
length_set (x ∷ ss) (suc k) s = ap suc (length_set ss k s)

pub put_grown : (t u : Table) (p : ℕ) (r : Reach) (ss : List Stretch) (k : ℕ) (s : Stretch) → u ≡ insert t p r →
    is_some (get t p) ≡ false → p < 2 ^ 52 → r.frame < 2 ^ 30 → k ≡ slot_of p → k < length ss →
    s ≡ stretch_grown (get_or ss k no_stretch) p r → AreStretches t ss → AreStretches u (slice_set ss k s)
put_grown t u p r ss k s made free low below slot inside is are =
    subst (λ x. AreStretches x (slice_set ss k s)) (sym made)
    (subst (λ j. AreStretches (insert t p r) (slice_set ss j s)) (sym slot)
    (subst (λ x. AreStretches (insert t p r) (slice_set ss (slot_of p) x)) (sym is)
    (all_grown t p r ss (get_or ss k no_stretch) (none (get t p) free) low below
    (ap (slice_get ss) (sym slot) ∙ slice_get-get_or ss k no_stretch inside) are)))
  where
    none : (o : Option Reach) → is_some o ≡ false → o ≡ None
    none None e = refl
    none (Some x) e = absurd (cc)

pub put_cut : (t u : Table) (p : ℕ) (ss : List Stretch) (k : ℕ) (s : Stretch) → u ≡ remove t p → k ≡ slot_of p →
    k < length ss → s ≡ cut_at (get_or ss k no_stretch) p → AreStretches t ss → AreStretches u (slice_set ss k s)
put_cut t u p ss k s made slot inside is are =
    subst (λ x. AreStretches x (slice_set ss k s)) (sym made)
    (subst (λ j. AreStretches (remove t p) (slice_set ss j s)) (sym slot)
    (subst (λ x. AreStretches (remove t p) (slice_set ss (slot_of p) x)) (sym is)
    (all_cut t p ss (get_or ss k no_stretch)
    (ap (slice_get ss) (sym slot) ∙ slice_get-get_or ss k no_stretch inside) are)))

-- stretches of no page
repeated : (n : ℕ) (s : Stretch) (i : ℕ) (x : Stretch) → slice_get (replicate n s) i ≡ Some x → s ≡ x
repeated zero s i x h = absurd (cc)
repeated (suc n) s zero x h = cc
repeated (suc n) s (suc i) x h = repeated n s i x h

pub all_none : (t : Table) (n : ℕ) (s : Stretch) → s ≡ no_stretch → AreStretches t (replicate n s)
all_none t n s e i x h =
    subst (StandsInStretch t i) (sym e ∙ repeated n s i x h) (record {
      known = record { rows = λ k l. absurd (omega (arith, l)); low = omega arith; fits = omega arith };
      slot = λ k l. absurd (omega (arith, l));
    })

-- ---- the row of a page of a stretch

pub got_in : (t : Table) (s : Stretch) (page f : ℕ) → IsKnown t s → frame_in s page ≡ Some f →
    get t page ≡ Some (whole f)
got_in t s page f is h = elim (has_split s page) [
  | inl y ↦
      let from = y.1 in
      let to = y.2 in
      let k = page - s.page in
      let at : s.page + k ≡ page = omega (arith, from) in
      let same : ◌≡◌ {A = Option ℕ} (Some (s.frame + k)) (Some f) =
      sym (ap (λ (b : Bool). if b then Some (s.frame + k) else None) y.0) ∙ h in
      let frame : s.frame + k ≡ f = cc in
      ap (get t) (sym at) ∙ is.rows k (omega (arith, from, to)) ∙ ap (λ n. Some (whole n)) frame
  | inr y ↦ absurd (none (sym (ap (λ (b : Bool). if b then Some (s.frame + (page - s.page)) else None) y.0) ∙ h))
]
  where
    none : ◌≡◌ {A = Option ℕ} None (Some f) → ⊥
    none e = absurd (cc)

pub row_in : (m : FrameMemory) (s : Stretch) (at f : ℕ) → IsKnown m.table s → at < 2 ^ 64 → frame_in s (at / 4096)
    ≡ Some f →
    row_at m at ≡ Some (whole f)
row_in m s at f is low h = ap (λ (b : Bool). if b then get m.table (at / 4096) else None) (lt-ltb at (2 ^ 64) low)
    ∙ got_in m.table s (at / 4096) f is h
