-- The pieces by their places are the pieces that are cut one after the other.
use Rattle.std.proofs.Common.{length, ◌≡◌, ℕ, zero, suc, ◌+◌, ◌-◌, ◌*◌, ◌/◌, ◌%◌, ◌<◌, ◌≤◌, min, List, [], ◌∷◌, Bool}
use Rattle.std.proofs.Common.{true, false, cond, ◌&&◌, not, eqb, refl, ap, sym, ◌∙◌, subst, arith, add_assoc, add-zero}
use Rattle.std.specs.Prelude.{slice_index}
use Rattle.std.specs.List.{filter, range_with_len}
use Rattle.std.proofs.Math.Nat.{add-mul, one-mul, zero-mod}
use Rattle.std.proofs.lemmas.Bool.Decides.{nat_tests}
use Rattle.std.proofs.lemmas.Nat.{div-add-mod', mod-mul-add, mod_below}
use Rattle.busdma_machine.specs.declared.machine.address.Segment.{Segment}
use Rattle.busdma_machine.specs.declared.tags.tag.TagLimits.{TagLimits}
use Rattle.busdma_machine.specs.Runs.{run_of}
use Rattle.busdma_rules.specs.Segments.Pieces.{is_at_boundary, greatest, window_place, begins_piece, pieces_at}
use Rattle.busdma_rules.specs.Segments.Pieces.{pieces_of, piece_len}

-- ---- the pieces of a run, one after the other

abbrev pub piece_at : ℕ → ℕ → Segment
piece_at a len = record { addr = record { 0 = a }; len = len }

-- the pieces of `left` bytes from address a on, at most n pieces
abbrev pub pieces_from : ℕ → TagLimits → ℕ → ℕ → List Segment
pieces_from zero t a left = []
pieces_from (suc n) t a zero = []
pieces_from (suc n) t a (suc l) = let k = piece_len t a (suc l) in piece_at a k ∷ pieces_from n t (a + k) (suc l - k)

not_zero : (n : ℕ) → eqb n 0 ≡ false → 0 < n
not_zero n e = grind (arith, nat_tests)

-- a piece has at least one byte, and no more bytes than are left
pub piece_some : (t : TagLimits) (a left : ℕ) → 0 < t.maxsegsz → 0 < left → 0 < piece_len t a left
piece_some t a left m h =
    (elim (eqb t.boundary 0) as (λ b. eqb t.boundary 0 ≡ b →
    0 < cond b (min left t.maxsegsz) (min (min left t.maxsegsz) (t.boundary - a % t.boundary)))
    [ true ↦ λ e. omega arith | false ↦ λ e. (let pos = not_zero t.boundary e in omega arith) ]) refl

pub piece_fits : (t : TagLimits) (a left : ℕ) → piece_len t a left ≤ left
piece_fits t a left =
    elim (eqb t.boundary 0) as (λ b. cond b (min left t.maxsegsz)
    (min (min left t.maxsegsz) (t.boundary - a % t.boundary)) ≤ left)
    [ true ↦ omega arith | false ↦ omega arith ]

pieces_enough : (n k : ℕ) (t : TagLimits) (a left : ℕ) → 0 < t.maxsegsz → left ≤ n → left ≤ k →
    pieces_from n t a left ≡ pieces_from k t a left
pieces_enough zero zero t a zero m h i = refl
pieces_enough zero (suc k) t a zero m h i = refl
pieces_enough (suc n) zero t a zero m h i = refl
pieces_enough (suc n) (suc k) t a zero m h i = refl
pieces_enough zero k t a (suc l) m h i = absurd (omega arith)
pieces_enough (suc n) zero t a (suc l) m h i = absurd (omega arith)
pieces_enough (suc n) (suc k) t a (suc l) m h i =
    let size = piece_len t a (suc l) in
    let some = piece_some t a (suc l) m (omega arith) in
    ap (λ ps. piece_at a size ∷ ps) (pieces_enough n k t (a + size) (suc l - size) m (omega arith) (omega arith))

from_step : (t : TagLimits) (a left : ℕ) → 0 < t.maxsegsz → 0 < left →
    pieces_from left t a left ≡ piece_at a (piece_len t a left)
    ∷ pieces_from (left - piece_len t a left) t (a + piece_len t a left) (left - piece_len t a left)
from_step t a zero m h = absurd (omega arith)
from_step t a (suc l) m h =
    let some = piece_some t a (suc l) m (omega arith) in
    ap (λ ps. piece_at a (piece_len t a (suc l)) ∷ ps)
    (pieces_enough l (suc l - piece_len t a (suc l)) t (a + piece_len t a (suc l))
    (suc l - piece_len t a (suc l)) m (omega arith) (omega arith))

-- ---- remainders

mod_plus : (x j b : ℕ) → x % b + j < b → (x + j) % b ≡ x % b + j
mod_plus x j b h =
    let e : x + j ≡ x / b * b + (x % b + j) = omega (arith, div-add-mod' x b) in
    rw e (mod-mul-add (x / b) b (x % b + j) h)

mod_full : (x j b : ℕ) → 0 < b → x % b + j ≡ b → (x + j) % b ≡ 0
mod_full x j b pos h =
    let m = add-mul (x / b) 1 b in
    let o = one-mul b in
    let e : x + j ≡ (x / b + 1) * b + 0 = omega (arith, div-add-mod' x b, m, o) in
    rw e (mod-mul-add (x / b + 1) b 0 pos)

is_zero : (n : ℕ) → n ≡ 0 → eqb n 0 ≡ true
is_zero n e = grind (arith, nat_tests)

is_not_zero : (n : ℕ) → 0 < n → eqb n 0 ≡ false
is_not_zero n e = grind (arith, nat_tests)

of_zero : (n : ℕ) → eqb n 0 ≡ true → n ≡ 0
of_zero n e = grind (arith, nat_tests)

-- ---- places of bus bytes from a on

abbrev window : TagLimits → ℕ → ℕ → ℕ
window t a p = greatest (λ q. is_at_boundary t (a + q)) p

-- a piece begins at place p
abbrev begins : TagLimits → ℕ → ℕ → Bool
begins t a p = eqb ((p - window t a p) % t.maxsegsz) 0

-- none of the next j - 1 places is at a multiple of the boundary
IsClear : TagLimits → ℕ → ℕ → ℕ → Type 0
IsClear t a p j = (i : ℕ) → 0 < i → i < j → is_at_boundary t (a + (p + i)) ≡ false

window_kept : (t : TagLimits) (a p j i : ℕ) → IsClear t a p j → i < j → window t a (p + i) ≡ window t a p
unfolding IsClear
window_kept t a p j zero h l = rw add-zero refl
window_kept t a p j (suc i) h l =
    let e : p + suc i ≡ suc (p + i) = omega arith in
    let b = subst (λ (q : ℕ). is_at_boundary t (a + q) ≡ false) e (h (suc i) (omega arith) l) in
    rw (e, b) (window_kept t a p j i h (omega arith))

window_below : (t : TagLimits) (a p : ℕ) → window t a p ≤ p
window_below t a zero = omega arith
window_below t a (suc p) =
    let w = window_below t a p in
    elim (is_at_boundary t (a + suc p)) as (λ b. cond b (suc p) (window t a p) ≤ suc p)
    [ true ↦ omega arith | false ↦ omega arith ]

none_begins : (t : TagLimits) (a p j i : ℕ) → begins t a p ≡ true → IsClear t a p j → j ≤ t.maxsegsz →
    0 < i → i < j → begins t a (p + i) ≡ false
none_begins t a p j i b h m pos l =
    let w = window_below t a p in
    let z = of_zero ((p - window t a p) % t.maxsegsz) b in
    let e : p + i - window t a p ≡ (p - window t a p) + i = omega arith in
    let k = mod_plus (p - window t a p) i t.maxsegsz (omega arith) in
    rw (window_kept t a p j i h l, e) (is_not_zero (((p - window t a p) + i) % t.maxsegsz) (omega arith))

window_at : (t : TagLimits) (a p : ℕ) → 0 < p → is_at_boundary t (a + p) ≡ true → window t a p ≡ p
window_at t a zero h b = absurd (omega arith)
window_at t a (suc p) h b = rw b refl

-- the next place at which a piece begins
next_begins : (t : TagLimits) (a p k : ℕ) → begins t a p ≡ true → 0 < t.maxsegsz → IsClear t a p k → 0 < k →
    (is_at_boundary t (a + (p + k)) ≡ false → k ≡ t.maxsegsz) → begins t a (p + k) ≡ true
next_begins t a p k b m h pos why =
    (elim (is_at_boundary t (a + (p + k))) as (λ v. is_at_boundary t (a + (p + k)) ≡ v → begins t a (p + k) ≡ true) [
      | true ↦ λ v.
          let e : p + k - (p + k) ≡ 0 = omega arith in
          rw (window_at t a (p + k) (omega arith) v, e) (is_zero (0 % t.maxsegsz) (zero-mod t.maxsegsz))
      | false ↦ λ v.
          let w = window_below t a p in
          let z = of_zero ((p - window t a p) % t.maxsegsz) b in
          let is = why v in
          let e : p + k - window t a p ≡ (p - window t a p) + k = omega arith in
          let full = mod_full (p - window t a p) k t.maxsegsz m (omega arith) in
          rw (window_same t a p k h v, e) (is_zero (((p - window t a p) + k) % t.maxsegsz) full)
    ]) refl
  where
    window_same : (t : TagLimits) (a p k : ℕ) → IsClear t a p k →
        is_at_boundary t (a + (p + k)) ≡ false → window t a (p + k) ≡ window t a p
    window_same t a p zero h v = rw add-zero refl
    window_same t a p (suc i) h v =
        let e : p + suc i ≡ suc (p + i) = omega arith in
        let b = subst (λ (q : ℕ). is_at_boundary t (a + q) ≡ false) e v in
        rw (e, b) (window_kept t a p (suc i) i h (omega arith))

-- ---- the piece at a place

not_at : (t : TagLimits) (x j : ℕ) → (eqb t.boundary 0 ≡ false → x % t.boundary + j < t.boundary) →
    0 < j → is_at_boundary t (x + j) ≡ false
not_at t x j h pos =
    (elim (eqb t.boundary 0) as (λ v. eqb t.boundary 0 ≡ v → not v && eqb ((x + j) % t.boundary) 0 ≡ false) [
      | true ↦ λ v. refl
      | false ↦ λ v. rw (mod_plus x j t.boundary (h v))
          (is_not_zero (x % t.boundary + j) (omega arith))
    ]) refl

pub len_in_window : (t : TagLimits) (x left : ℕ) → eqb t.boundary 0 ≡ false →
    piece_len t x left ≤ t.boundary - x % t.boundary
len_in_window t x left e = rw e (omega arith)

pub len_in_size : (t : TagLimits) (x left : ℕ) → piece_len t x left ≤ t.maxsegsz
len_in_size t x left =
    elim (eqb t.boundary 0) as (λ v. cond v (min left t.maxsegsz)
    (min (min left t.maxsegsz) (t.boundary - x % t.boundary)) ≤ t.maxsegsz)
    [ true ↦ omega arith | false ↦ omega arith ]

clear_piece : (t : TagLimits) (a p left : ℕ) → IsClear t a p (piece_len t (a + p) left)
unfolding IsClear
clear_piece t a p left i pos l =
    rw (← add_assoc a p i) (not_at t (a + p) i (λ e. (let w = len_in_window t (a + p) left e in omega arith)) pos)

at_full : (t : TagLimits) (x j : ℕ) → eqb t.boundary 0 ≡ false →
    x % t.boundary + j ≡ t.boundary → is_at_boundary t (x + j) ≡ true
at_full t x j e h =
    let pos = not_zero t.boundary e in
    rw (e, mod_full x j t.boundary pos h) refl

-- a piece that is not the last one is full, or reaches to the boundary
why_ends : (t : TagLimits) (x left : ℕ) → piece_len t x left < left →
    is_at_boundary t (x + piece_len t x left) ≡ false → piece_len t x left ≡ t.maxsegsz
why_ends t x left l v =
    (elim (eqb t.boundary 0) as (λ w. eqb t.boundary 0 ≡ w → piece_len t x left ≡ t.maxsegsz) [
      | true ↦ λ w. (let e : piece_len t x left ≡ min left t.maxsegsz = rw w refl in omega arith)
      | false ↦ λ w. (let e : piece_len t x left
          ≡ min (min left t.maxsegsz) (t.boundary - x % t.boundary) = rw w refl in
          let not_full =
          λ (h : x % t.boundary + piece_len t x left ≡ t.boundary). not_both_ways
          (is_at_boundary t (x + piece_len t x left)) (at_full t x (piece_len t x left) w h) v in
          let pos = below_boundary t.boundary x w in
          omega (arith, not_full))
    ]) refl
  where
    not_both_ways : (b : Bool) → b ≡ true → b ≡ false → ⊥
    not_both_ways b e f = cc

    below_boundary : (b x : ℕ) → eqb b 0 ≡ false → x % b < b
    below_boundary b x e = mod_below x b (grind (arith, nat_tests))

-- ---- the places at which pieces begin

abbrev places : TagLimits → ℕ → ℕ → ℕ → List ℕ
places t a p n = filter (begins t a) (range_with_len p n)

places_skip : (t : TagLimits) (a p n m : ℕ) → ((i : ℕ) → i < m → begins t a (p + i) ≡ false) → m ≤ n →
    places t a p n ≡ places t a (p + m) (n - m)
places_skip t a p n zero h l =
    let e : p + 0 ≡ p = omega arith in
    let f : n - 0 ≡ n = omega arith in
    rw (e, f) refl
places_skip t a p zero (suc m) h l = absurd (omega arith)
places_skip t a p (suc n) (suc m) h l =
    let e : p + suc m ≡ p + 1 + m = omega arith in
    let f : suc n - suc m ≡ n - m = omega arith in
    let z : p + 0 ≡ p = omega arith in
    let b = subst (λ (q : ℕ). begins t a q ≡ false) z (h 0 (omega arith)) in
    rw (e, f, b) (places_skip t a (p + 1) n m
    (λ i k. (let o : p + suc i ≡ p + 1 + i = omega arith in
    subst (λ (q : ℕ). begins t a q ≡ false) o (h (suc i) (omega arith)))) (omega arith))

-- if a piece begins at p, the next piece begins at its end
places_step : (t : TagLimits) (a p n : ℕ) → 0 < t.maxsegsz → begins t a p ≡ true → 0 < n →
    places t a p n ≡ p ∷ places t a (p + piece_len t (a + p) n) (n - piece_len t (a + p) n)
unfolding IsClear
places_step t a p zero m b h = absurd (omega arith)
places_step t a p (suc n) m b h =
    let k = piece_len t (a + p) (suc n) in
    let some = piece_some t (a + p) (suc n) m (omega arith) in
    let fits = piece_fits t (a + p) (suc n) in
    let clear = clear_piece t a p (suc n) in
    let size = len_in_size t (a + p) (suc n) in
    let e : p + 1 + (k - 1) ≡ p + k = omega arith in
    let f : n - (k - 1) ≡ suc n - k = omega arith in
    let skip =
    places_skip t a (p + 1) n (k - 1) (λ i l. (let o : p + (i + 1) ≡ p + 1 + i = omega arith in
    subst (λ (q : ℕ). begins t a q ≡ false) o
    (none_begins t a p k (i + 1) b clear size (omega arith) (omega arith)))) (omega arith) in
    rw b (ap (λ ps. p ∷ ps) (skip ∙ rw (e, f) refl))

step_begins : (t : TagLimits) (a p n : ℕ) → 0 < t.maxsegsz → begins t a p ≡ true → piece_len t (a + p) n < n →
    begins t a (p + piece_len t (a + p) n) ≡ true
unfolding IsClear
step_begins t a p n m b l =
    let some = piece_some t (a + p) n m (omega arith) in
    next_begins t a p (piece_len t (a + p) n) b m (clear_piece t a p n) some
    (λ v. why_ends t (a + p) n l (subst (λ (q : ℕ). is_at_boundary t q ≡ false)
    (sym (add_assoc a p (piece_len t (a + p) n))) v))

-- the bus addresses rise by one from a on
IsRising : ℕ → List ℕ → Type 0
IsRising a bus = (q : ℕ) → q < length bus → slice_index bus q ≡ a + q

same_piece : (x y m n : ℕ) → x ≡ y → m ≡ n → piece_at x m ≡ piece_at y n
same_piece x y m n e f = rw (e, f) refl

-- a piece of k bytes at p, followed by r more bytes
after_place : (t : TagLimits) (a p k r : ℕ) (bus : List ℕ) → IsRising a bus → length bus ≡ p + (k + r) → 0 < k →
    (0 < r → begins t a (p + k) ≡ true) → (begins t a (p + k) ≡ true →
    pieces_at bus (places t a (p + k) r) ≡ pieces_from r t (a + (p + k)) r) →
    pieces_at bus (p ∷ places t a (p + k) r) ≡ piece_at (a + p) k ∷ pieces_from r t (a + p + k) r
unfolding IsRising
after_place t a p k zero bus rising len pos b ih =
    ap (λ s. s ∷ []) (same_piece (slice_index bus p) (a + p) (length bus - p) k (rising p (omega arith)) (omega arith))
after_place t a p k (suc r) bus rising len pos b ih =
    let q = b (omega arith) in
    let i = rw q at (ih q) in
    let e : a + (p + k) ≡ a + p + k = omega arith in
    rw q (ap (λ s. s ∷ pieces_at bus ((p + k) ∷ places t a (p + k + 1) r))
    (same_piece (slice_index bus p) (a + p) (p + k - p) k (rising p (omega arith)) (omega arith))
    ∙ ap (λ ps. piece_at (a + p) k ∷ ps) (i ∙ ap (λ x. pieces_from (suc r) t x (suc r)) e))

-- the pieces from place p on, if a piece begins at p
by_place : (f : ℕ) (t : TagLimits) (a p n : ℕ) (bus : List ℕ) → 0 < t.maxsegsz → IsRising a bus → length bus ≡ p + n →
    begins t a p ≡ true → n ≤ f → pieces_at bus (places t a p n) ≡ pieces_from n t (a + p) n
by_place f t a p zero bus m rising len b l = refl
by_place zero t a p (suc n) bus m rising len b l = absurd (omega arith)
by_place (suc f) t a p (suc n) bus m rising len b l =
    let k = piece_len t (a + p) (suc n) in
    let some = piece_some t (a + p) (suc n) m (omega arith) in
    let fits = piece_fits t (a + p) (suc n) in
    ap (λ ps. pieces_at bus ps) (places_step t a p (suc n) m b (omega arith))
    ∙ (after_place t a p k (suc n - k) bus rising (omega arith) some (λ h. step_begins t a p (suc n) m b (omega arith))
    (λ c. by_place f t a (p + k) (suc n - k) bus m rising (omega arith) c (omega arith))
    ∙ sym (from_step t (a + p) (suc n) m (omega arith)))

-- ---- by the bus addresses of the list

run_rises : (a n q : ℕ) → q < n → slice_index (run_of a n) q ≡ a + q
run_rises a zero q h = absurd (omega arith)
run_rises a (suc n) zero h = omega arith
run_rises a (suc n) (suc q) h = let e : a + 1 + q ≡ a + suc q = omega arith in run_rises (a + 1) n q (omega arith) ∙ e

pub run_length : (a n : ℕ) → length (run_of a n) ≡ n
run_length a zero = refl
run_length a (suc n) = omega (arith, run_length (a + 1) n)

greatest_agree : (f g : ℕ → Bool) (p : ℕ) → ((q : ℕ) → q ≤ p → f q ≡ g q) → greatest f p ≡ greatest g p
greatest_agree f g zero h = refl
greatest_agree f g (suc p) h = rw (h (suc p) (omega arith), greatest_agree f g p (λ q l. h q (omega arith))) refl

window_agrees : (t : TagLimits) (a n p : ℕ) → p < n → window_place t (run_of a n) p ≡ window t a p
window_agrees t a n p h =
    greatest_agree (λ q. is_at_boundary t (slice_index (run_of a n) q)) (λ q. is_at_boundary t (a + q)) p
    (λ q l. ap (λ x. is_at_boundary t x) (run_rises a n q (omega arith)))

begins_agrees : (t : TagLimits) (a n p : ℕ) → p < n → begins_piece t (run_of a n) p ≡ begins t a p
begins_agrees t a n p h = ap (λ w. eqb ((p - w) % t.maxsegsz) 0) (window_agrees t a n p h)

places_agree : (f g : ℕ → Bool) (p n : ℕ) → ((q : ℕ) → q < p + n → f q ≡ g q) →
    filter f (range_with_len p n) ≡ filter g (range_with_len p n)
places_agree f g p zero h = refl
places_agree f g p (suc n) h = rw (h p (omega arith), places_agree f g (p + 1) n (λ q l. h q (omega arith))) refl

-- the pieces of a run of addresses are the pieces that are cut one after the other
pub pieces_are_from : (t : TagLimits) (a n : ℕ) → 0 < t.maxsegsz → pieces_of t (run_of a n) ≡ pieces_from n t a n
unfolding IsRising
pieces_are_from t a n m =
    let len = run_length a n in
    let z : a + 0 ≡ a = omega arith in
    ap (λ k. pieces_at (run_of a n) (filter (begins_piece t (run_of a n)) (range_with_len 0 k))) len
    ∙ (ap (λ ps. pieces_at (run_of a n) ps)
    (places_agree (begins_piece t (run_of a n)) (begins t a) 0 n (λ q l. begins_agrees t a n q (omega arith)))
    ∙ (by_place n t a 0 n (run_of a n) m (λ q l. run_rises a n q (omega arith)) (omega arith)
    (is_zero (0 % t.maxsegsz) (zero-mod t.maxsegsz)) (omega arith)
    ∙ ap (λ x. pieces_from n t x n) z))

pub no_pieces : (t : TagLimits) (a : ℕ) → pieces_of t (run_of a 0) ≡ []
no_pieces t a = refl

-- the first piece of a run of addresses, and the pieces after it
pub pieces_step : (t : TagLimits) (a left size : ℕ) → 0 < t.maxsegsz → 0 < left → size ≡ piece_len t a left →
    pieces_of t (run_of a left) ≡ piece_at a size ∷ pieces_of t (run_of (a + size) (left - size))
pieces_step t a left size m h e =
    rw (e, pieces_are_from t a left m, pieces_are_from t (a + piece_len t a left) (left - piece_len t a left) m)
    (from_step t a left m h)
