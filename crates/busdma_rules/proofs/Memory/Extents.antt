-- The extents of bytes.
use Rattle.std.proofs.Common.{◌≡◌, ℕ, zero, suc, ◌+◌, ◌%◌, ◌^◌, ◌<◌, ◌≤◌, true, false, List, [], ◌∷◌, ◌++◌, refl, ap}
use Rattle.std.proofs.Common.{sym, ◌∙◌, subst, ◌⊎◌, inl, inr, ◌≢◌, arith}
use Rattle.std.specs.Prelude.{Option, Some, None, nat_eq, if◌then◌else◌}
use Rattle.std.specs.List.{AllByRecursion}
use Rattle.std.proofs.lemmas.Bool.{eq-eqb, ne_eqb}
use Rattle.std.proofs.lemmas.Bool.Decides.{eqb_tells}
use Rattle.busdma_machine.specs.declared.machine.address.Extent.{Extent}
use Rattle.busdma_machine.specs.Machine.Entry.{AreJoined}
use Rattle.busdma_machine.specs.Runs.{run_of, addresses, IsExtent}
use Rattle.busdma_rules.specs.Memory.Translation.{Translation}
use Rattle.busdma_rules.specs.Memory.Extents.{extents_of, reached_addresses, then_reached, with_byte}
use Rattle.busdma_rules.proofs.Memory.Paged.{IsPaged}

-- an extent of n bytes from an address on
abbrev pub extent : ℕ → ℕ → Extent
extent pa n = record { pa = record { 0 = pa }; len = n }

pub with_byte-cut : (pa : ℕ) (e : Extent) (es : List Extent) → e.pa.0 % 4096 ≡ 0 →
    with_byte pa (e ∷ es) ≡ extent pa 1 ∷ e ∷ es
with_byte-cut pa e es h =
    ap (λ b. if b then extent pa 1 ∷ e ∷ es else extent pa (1 + e.len) ∷ es) (eq-eqb (e.pa.0 % 4096) 0 h)

pub with_byte-joined : (pa : ℕ) (e : Extent) (es : List Extent) → e.pa.0 % 4096 ≢ 0 →
    with_byte pa (e ∷ es) ≡ extent pa (1 + e.len) ∷ es
with_byte-joined pa e es h =
    ap (λ b. if b then extent pa 1 ∷ e ∷ es else extent pa (1 + e.len) ∷ es) (ne_eqb (e.pa.0 % 4096) 0 h)

-- the first extent begins at the first byte
pub record Begins (pa : ℕ) (xs : List Extent) : Type 0 where
  pub first : Extent
  pub others : List Extent
  pub are : xs ≡ first ∷ others
  pub at : first.pa.0 ≡ pa

pub begins : (pa : ℕ) (es : List Extent) → Begins pa (with_byte pa es)
begins pa [] = record { first = extent pa 1; others = []; are = refl; at = refl }
begins pa (e ∷ es) =
    elim (nat_eq (e.pa.0 % 4096) 0) as (λ b. Begins pa (if b
    then extent pa 1 ∷ e ∷ es else extent pa (1 + e.len) ∷ es)) [
      | true ↦ record { first = extent pa 1; others = e ∷ es; are = refl; at = refl }
      | false ↦ record { first = extent pa (1 + e.len); others = es; are = refl; at = refl }
    ]

-- a byte leads extents: the first of them begins with the next byte, or the byte ends its frame and the extent begins
-- another one
abbrev Leads : ℕ → List Extent → Type 0
Leads pa [] = Unit {0}
Leads pa (e ∷ es) = (e.pa.0 % 4096 ≡ (pa + 1) % 4096) × ((e.pa.0 % 4096 ≡ 0) ⊎ (e.pa.0 ≡ pa + 1))

-- extents of these bytes, each of which begins at an address with this property
pub record AreExtents (Has : ℕ → Type 0) (pas : List ℕ) (es : List Extent) : Type 0 where
  pub bytes : addresses es ≡ pas
  pub extents : AllByRecursion IsExtent es
  pub joined : AreJoined es
  pub have : AllByRecursion (λ e. Has e.pa.0) es

no_extents : (Has : ℕ → Type 0) → AreExtents Has [] []
no_extents Has = record { bytes = refl; extents = tt; joined = tt; have = tt }

-- one byte is an extent
one_byte : (pa : ℕ) → pa < 2 ^ 42 → IsExtent (extent pa 1)
one_byte pa h = record { some = omega arith; in_frame = omega arith; numbered = h }

joined_after : (pa : ℕ) (e : Extent) (es : List Extent) → (pa + 1) % 4096 ≡ 0 → e.pa.0 % 4096 ≡ 0 →
    AreJoined (e ∷ es) → AreJoined (extent pa 1 ∷ e ∷ es)
joined_after pa e es end start h = (end, start, h)

joined_before : (pa : ℕ) (e : Extent) (es : List Extent) → e.pa.0 ≡ pa + 1 →
    AreJoined (e ∷ es) → AreJoined (extent pa (1 + e.len) ∷ es)
joined_before pa e [] h j = tt
joined_before pa e (f ∷ fs) h j =
    let same : e.pa.0 + e.len ≡ pa + (1 + e.len) = omega arith in
    (ap (λ a. a % 4096) (sym same) ∙ j.0, j.1, j.2)

with_byte_extents : (Has : ℕ → Type 0) (pa : ℕ) (pas : List ℕ) (es : List Extent) → pa < 2 ^ 42 → Has pa →
    Leads pa es → AreExtents Has pas es → AreExtents Has (pa ∷ pas) (with_byte pa es)
with_byte_extents Has pa pas [] low has leads old = record {
  bytes = ap (λ xs. pa ∷ xs) old.bytes;
  extents = (one_byte pa low, tt);
  joined = tt;
  have = (has, tt);
}
with_byte_extents Has pa pas (e ∷ es) low has leads old = elim (eqb_tells (e.pa.0 % 4096) 0) [
  | inl t ↦ subst (AreExtents Has (pa ∷ pas)) (sym (with_byte-cut pa e es t.1)) (record {
    bytes = ap (λ xs. pa ∷ xs) old.bytes;
    extents = (one_byte pa low, old.extents);
    joined = joined_after pa e es (sym leads.0 ∙ t.1) t.1 old.joined;
    have = (has, old.have);
  })
  | inr t ↦ subst (AreExtents Has (pa ∷ pas)) (sym (with_byte-joined pa e es t.1)) (beside t.1 (next t.1 leads.1))
]
  where
    next : e.pa.0 % 4096 ≢ 0 → (e.pa.0 % 4096 ≡ 0) ⊎ (e.pa.0 ≡ pa + 1) → e.pa.0 ≡ pa + 1
    next apart (inl h) = absurd (apart h)
    next apart (inr h) = h

    beside : e.pa.0 % 4096 ≢ 0 → e.pa.0 ≡ pa + 1 → AreExtents Has (pa ∷ pas) (extent pa (1 + e.len) ∷ es)
    beside apart h =
        let some : 0 < e.len = old.extents.0.some in
        let fits : e.pa.0 % 4096 + e.len ≤ 4096 = old.extents.0.in_frame in
        let one : 1 + e.len ≡ suc e.len = omega arith in
        record {
          bytes = ap (λ k. run_of pa k ++ addresses es) one
              ∙ ap (λ xs. pa ∷ xs) (ap (λ a. run_of a e.len ++ addresses es) (sym h) ∙ old.bytes);
          extents = (record { some = omega arith; in_frame = omega arith; numbered = low }, old.extents.1);
          joined = joined_before pa e es h old.joined;
          have = (has, old.have.1);
        }

module _ (Has : ℕ → Type 0) (t : Translation) (is : IsPaged Has t) where
  next_byte : (va p q : ℕ) → t va ≡ Some p → t (va + 1) ≡ Some q →
      (q % 4096 ≡ (p + 1) % 4096) × ((q % 4096 ≡ 0) ⊎ (q ≡ p + 1))
  next_byte va p q h k =
      let here = is.places va p h in
      let there = is.places (va + 1) q k in (
        omega arith,
        elim (eqb_tells ((va + 1) % 4096) 0) [ inl e ↦ inl (there ∙ e.1) | inr e ↦ inr (is.next va p q h k e.1) ],
      )

  leads : (va p n : ℕ) → t va ≡ Some p → Leads p (extents_of (reached_addresses t (va + 1) n))
  leads va p zero h = tt
  leads va p (suc n) h = leads_to (t (va + 1)) (λ q k. next_byte va p q h k)
    where
      leads_to : (o : Option ℕ) → ((q : ℕ) → o ≡ Some q → (q % 4096 ≡ (p + 1) % 4096)
          × ((q % 4096 ≡ 0) ⊎ (q ≡ p + 1))) → Leads p (extents_of (then_reached o (reached_addresses t (va + 1 + 1) n)))
      leads_to None next = tt
      leads_to (Some q) next =
          let b = begins q (extents_of (reached_addresses t (va + 1 + 1) n)) in
          subst (Leads p) (sym b.are) (subst (λ a. (a % 4096 ≡ (p + 1) % 4096)
          × ((a % 4096 ≡ 0) ⊎ (a ≡ p + 1))) (sym b.at) (next q refl))

  pub reached_extents : (va n : ℕ) → AreExtents Has (reached_addresses t va n) (extents_of (reached_addresses t va n))
  reached_extents va zero = no_extents Has
  reached_extents va (suc n) =
      these (t va) (λ p e. (is.low va p e, is.has va p e, leads va p n e)) (reached_extents (va + 1) n)
    where
      these : (o : Option ℕ) → ((p : ℕ) → o ≡ Some p →
          (p < 2 ^ 42) × Has p × Leads p (extents_of (reached_addresses t (va + 1) n))) →
          AreExtents Has (reached_addresses t (va + 1) n) (extents_of (reached_addresses t (va + 1) n)) →
          AreExtents Has (then_reached o (reached_addresses t (va + 1) n))
          (extents_of (then_reached o (reached_addresses t (va + 1) n)))
      these None facts others = no_extents Has
      these (Some p) facts others =
          let f = facts p refl in
          with_byte_extents Has p _ _ f.0 f.1 f.2 others
