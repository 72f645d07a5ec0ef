-- The bytes of a memory that can be reached, page by page.
use Rattle.std.proofs.Common.{◌≡◌, ℕ, ◌+◌, ◌-◌, ◌*◌, ◌/◌, ◌%◌, ◌^◌, ◌<◌, ◌≤◌, min, Bool, true, false, refl, ap, sym}
use Rattle.std.proofs.Common.{◌∙◌, ◌⊎◌, inl, inr, ◌≢◌, arith}
use Rattle.std.specs.Prelude.{Option, Some, None, nat_lt, if◌then◌else◌}
use Rattle.std.specs.FinMap.{get}
use Rattle.std.proofs.lemmas.Bool.{lt-ltb, le-ltb, cases_lt}
use Rattle.phys_memory.specs.declared.reach.Reach.{Reach}
use Rattle.phys_memory.specs.Memory.{FrameMemory, IsMemory, IsReachOf}
use Rattle.phys_memory.specs.Memory.{memory_has_frame, memory_physical, reached_in, row_at}
use Rattle.phys_memory.specs.Extents.{IsNext}
use Rattle.phys_memory.proofs.Kept.{row_is}
use Rattle.phys_memory.proofs.Paged.{HasPage, next_in_page}
use Rattle.busdma_rules.proofs.Memory.Paged.{IsPaged, KeepsPlaces}

-- the row of a byte's page is that of every byte of the page
row_in_page : (m : FrameMemory) (a b : ℕ) → a / 4096 ≡ b / 4096 → row_at m a ≡ row_at m b
row_in_page m a b e = ap (λ v. if nat_lt a (2 ^ 64) then get m.table v else None) e
    ∙ ap (λ (t : Bool). if t then get m.table (b / 4096) else None) (same (cases_lt a (2 ^ 64)))
  where
    same : (a < 2 ^ 64) ⊎ (2 ^ 64 ≤ a) → nat_lt a (2 ^ 64) ≡ nat_lt b (2 ^ 64)
    same (inl h) = lt-ltb a (2 ^ 64) h ∙ sym (lt-ltb b (2 ^ 64) (omega arith))
    same (inr h) = le-ltb a (2 ^ 64) h ∙ sym (le-ltb b (2 ^ 64) (omega arith))

-- a byte of the page of a row
physical_in_row : (m : FrameMemory) (at i : ℕ) (r : Reach) → row_at m at ≡ Some r → i < 4096 →
    memory_physical m (4096 * (at / 4096) + i) ≡ reached_in (Some r) i
physical_in_row m at i r here h =
    let a = 4096 * (at / 4096) + i in
    let number : a / 4096 ≡ at / 4096 = omega arith in
    let place : a % 4096 ≡ i = omega arith in
    ap (λ o. reached_in o (a % 4096)) (row_in_page m a at number ∙ here) ∙ ap (reached_in (Some r)) place

row_page : (m : FrameMemory) (at : ℕ) (r : Reach) → row_at m at ≡ Some r → HasPage (memory_physical m) (at / 4096)
    r.frame r.reach
row_page m at r here = record {
  inside = λ i h k. physical_in_row m at i r here k
      ∙ ap (λ (t : Bool). if t then Some (4096 * r.frame + i) else None) (lt-ltb i r.reach h);
  past = λ i h k. physical_in_row m at i r here k
      ∙ ap (λ (t : Bool). if t then Some (4096 * r.frame + i) else None) (le-ltb i r.reach h);
}

-- a byte is at the same place in its page and in its frame
memory_places : (m : FrameMemory) → KeepsPlaces (memory_physical m)
memory_places m a p h = placed (row_at m a) h
  where
    inside : (f : ℕ) (t : Bool) → ◌≡◌ {A = Option ℕ} (if t then Some (4096 * f + a % 4096) else None) (Some p) →
        p % 4096 ≡ a % 4096
    inside f true e = let q : 4096 * f + a % 4096 ≡ p = cc in omega arith
    inside f false e = absurd (cc)

    placed : (o : Option Reach) → reached_in o (a % 4096) ≡ Some p → p % 4096 ≡ a % 4096
    placed None e = absurd (cc)
    placed (Some r) e = inside r.frame (nat_lt (a % 4096) r.reach) e

-- the extent that a row gives
pub next_is : (m : FrameMemory) (at n left : ℕ) (r : Reach) → row_at m at ≡ Some r → IsReachOf m r → at % 4096
    < r.reach →
    0 < left → n ≡ min (r.reach - at % 4096) left →
    IsNext (memory_physical m) at left (record { pa = record { 0 = r.frame * 4096 + at % 4096 }; len = n })
next_is m at n left r here is inside some e =
    next_in_page (memory_physical m) at n left r.frame r.reach (row_page m at r here) (memory_places m)
    is.reached is.numbered inside some e

-- ---- the bytes of a memory

-- two bytes of a page, one after the other
next_place : (o : Option Reach) (i p q : ℕ) → reached_in o i ≡ Some p → reached_in o (i + 1) ≡ Some q → q ≡ p + 1
next_place None i p q h k = absurd (cc)
next_place (Some r) i p q h k = both (nat_lt i r.reach) (nat_lt (i + 1) r.reach) h k
  where
    both : (s t : Bool) → ◌≡◌ {A = Option ℕ} (if s then Some (4096 * r.frame + i) else None) (Some p) →
        ◌≡◌ {A = Option ℕ} (if t then Some (4096 * r.frame + (i + 1)) else None) (Some q) → q ≡ p + 1
    both true true e f =
        let a : 4096 * r.frame + i ≡ p = cc in
        let b : 4096 * r.frame + (i + 1) ≡ q = cc in
        omega arith
    both true false e f = absurd (cc)
    both false t e f = absurd (cc)

next_byte : (m : FrameMemory) (va p q : ℕ) → memory_physical m va ≡ Some p →
    memory_physical m (va + 1) ≡ Some q → (va + 1) % 4096 ≢ 0 → q ≡ p + 1
next_byte m va p q h k apart =
    let page : (va + 1) / 4096 ≡ va / 4096 = omega arith in
    let place : (va + 1) % 4096 ≡ va % 4096 + 1 = omega arith in
    next_place (row_at m va) (va % 4096) p q h
    (ap (λ o. reached_in o (va % 4096 + 1)) (sym (row_in_page m (va + 1) va page))
    ∙ ap (reached_in (row_at m (va + 1))) (sym place) ∙ k)

-- an address is in a frame of the memory
abbrev pub IsHeld : FrameMemory → ℕ → Type 0
IsHeld m pa = memory_has_frame m (pa / 4096) ≡ true

address_of : (m : FrameMemory) (va p : ℕ) → IsMemory m → memory_physical m va ≡ Some p → (p < 2 ^ 42) × IsHeld m p
address_of m va p is h = in_row (row_at m va) refl h
  where
    inside : (r : Reach) (t : Bool) → IsReachOf m r →
        ◌≡◌ {A = Option ℕ} (if t then Some (4096 * r.frame + va % 4096) else None) (Some p) → (p < 2 ^ 42) × IsHeld m p
    inside r true row e =
        let a : 4096 * r.frame + va % 4096 ≡ p = cc in
        let below : r.frame < 2 ^ 30 = row.numbered in
        let number : p / 4096 ≡ r.frame = omega arith in
        (omega arith, ap (memory_has_frame m) number ∙ row.there)
    inside r false row e = absurd (cc)

    found : (t : Bool) (r : Reach) → ◌≡◌ {A = Option Reach} (if t then get m.table (va / 4096) else None) (Some r) →
        IsReachOf m r
    found true r e = row_is m (va / 4096) (Some r) is e
    found false r e = absurd (cc)

    in_row : (o : Option Reach) → row_at m va ≡ o → reached_in o (va % 4096) ≡ Some p → (p < 2 ^ 42) × IsHeld m p
    in_row None e k = absurd (cc)
    in_row (Some r) e k = inside r (nat_lt (va % 4096) r.reach) (found (nat_lt va (2 ^ 64)) r e) k

pub memory_paged : (m : FrameMemory) → IsMemory m → IsPaged (IsHeld m) (memory_physical m)
memory_paged m is = record {
  places = memory_places m;
  next = next_byte m;
  low = λ va p h. (address_of m va p is h).0;
  has = λ va p h. (address_of m va p is h).1;
}
