-- Where segments begin, with sizes that are multiples of the alignment.
use Rattle.std.proofs.Common.{◌≡◌, ℕ, zero, suc, ◌+◌, ◌-◌, ◌*◌, ◌/◌, ◌%◌, ◌<◌, ◌≤◌, min, List, [], ◌∷◌, map, true}
use Rattle.std.proofs.Common.{false, eqb, leb, refl, ap, sym, ◌∙◌, subst, arith, mul_comm}
use Rattle.std.specs.List.{AllByRecursion, flat_map}
use Rattle.std.proofs.Math.Nat.{add-mul, add-mul-mod_self_left, mul_assoc, zero-mod}
use Rattle.std.proofs.lemmas.Bool.Decides.{nat_tests}
use Rattle.std.proofs.lemmas.Nat.{div-add-mod'}
use Rattle.busdma_machine.specs.declared.machine.address.Pa.{Pa}
use Rattle.busdma_machine.specs.declared.machine.address.Segment.{Segment}
use Rattle.busdma_machine.specs.declared.tags.tag.TagLimits.{TagLimits}
use Rattle.busdma_machine.specs.Runs.{run_of}
use Rattle.busdma_rules.specs.Segments.Obeying.{HasAlignedSizes}
use Rattle.busdma_rules.specs.Segments.Pieces.{piece_len, pieces_of}
use Rattle.busdma_rules.specs.Segments.Segmentation.{IsSegmentation, PieceRun, pieces_grown}
use Rattle.busdma_rules.specs.Segments.Segmentation.{joint, run_pieces, segment_of}
use Rattle.busdma_rules.proofs.Segments.Places.{piece_fits, piece_some, pieces_step}
use Rattle.busdma_rules.proofs.Segments.Numbers.{above, most}
use Rattle.busdma_rules.proofs.Segments.OneWindow.{all_second}

abbrev pub IsAligned : TagLimits → Segment → Type 0
IsAligned t s = s.addr.0 % t.alignment ≡ 0

grown_begins : (s : Segment) (ps : List Segment) → (pieces_grown s ps).addr ≡ s.addr
grown_begins s [] = refl
grown_begins s (p ∷ ps) = grown_begins (joint s p) ps

runs_aligned : (t : TagLimits) (rs : List PieceRun) → AllByRecursion (IsAligned t) (flat_map run_pieces rs) →
    AllByRecursion (IsAligned t) (map segment_of rs)
runs_aligned t [] h = tt
runs_aligned t (r ∷ rs) h = (
  ap (λ (a : Pa). a.0 % t.alignment) (grown_begins r.first r.others)
      ∙ h.0,
  runs_aligned t rs (all_second (IsAligned t) (run_pieces r) (flat_map run_pieces rs) h),
)

pub segments_aligned : (t : TagLimits) (segs ps : List Segment) → IsSegmentation t segs ps →
    AllByRecursion (IsAligned t) ps → AllByRecursion (IsAligned t) segs
segments_aligned t segs ps s h =
    subst (AllByRecursion (IsAligned t)) s.segments_are
    (runs_aligned t s.runs (subst (AllByRecursion (IsAligned t)) (sym s.pieces_are) h))

pub multiple : (x al y : ℕ) → x ≡ al * y → x % al ≡ 0
multiple x al y e = ap (λ (n : ℕ). n % al) (e ∙ (omega arith)) ∙ (add-mul-mod_self_left 0 al y ∙ zero-mod al)

quotient : (x al : ℕ) → x % al ≡ 0 → x ≡ al * (x / al)
quotient x al h = omega (arith, div-add-mod' x al, mul_comm (x / al) al)

sum_multiple : (x y al : ℕ) → x % al ≡ 0 → y % al ≡ 0 → (x + y) % al ≡ 0
sum_multiple x y al h i =
    let d = mul_comm al (x / al + y / al) in
    let e = add-mul (x / al) (y / al) al in
    let f = quotient x al h in
    let g = quotient y al i in
    multiple (x + y) al (x / al + y / al) (omega (arith, mul_comm al (x / al), mul_comm al (y / al)))

times_multiple : (x y al : ℕ) → y % al ≡ 0 → (x * y) % al ≡ 0
times_multiple x y al h =
    multiple (x * y) al (x * (y / al)) (ap (λ (n : ℕ). x * n) (quotient y al h)
    ∙ (sym (mul_assoc x al (y / al)) ∙ (ap (λ (n : ℕ). n * (y / al)) (mul_comm x al) ∙ mul_assoc al x (y / al))))

next_aligned : (t : TagLimits) (a left : ℕ) → HasAlignedSizes t → a % t.alignment ≡ 0 → piece_len t a left < left →
    (a + piece_len t a left) % t.alignment ≡ 0
next_aligned t a left sizes h l =
    (elim (eqb t.boundary 0) as (λ b. eqb t.boundary 0 ≡ b → (a + piece_len t a left) % t.alignment ≡ 0) [
      | true ↦ λ w.
          let is : piece_len t a left ≡ min left t.maxsegsz = rw w refl in
          let full : piece_len t a left ≡ t.maxsegsz = omega arith in
          ap (λ (k : ℕ). (a + k) % t.alignment) full ∙ sum_multiple a t.maxsegsz t.alignment h sizes.0
      | false ↦ λ w.
          let is : piece_len t a left ≡ min (min left t.maxsegsz) (t.boundary - a % t.boundary) = rw w refl in
          (elim (leb t.maxsegsz (t.boundary - a % t.boundary))
          as (λ c. leb t.maxsegsz (t.boundary - a % t.boundary) ≡ c → (a + piece_len t a left) % t.alignment ≡ 0) [
            | true ↦ λ v. (
                let le = most t.maxsegsz (t.boundary - a % t.boundary) v in
                let full : piece_len t a left ≡ t.maxsegsz = omega arith in
                ap (λ (k : ℕ). (a + k) % t.alignment) full ∙ sum_multiple a t.maxsegsz t.alignment h sizes.0)
            | false ↦ λ v. (
                let gt = above t.maxsegsz (t.boundary - a % t.boundary) v in
                let whole = div-add-mod' a t.boundary in
                let inside = boundary_inside t.boundary a w in
                let e : a + piece_len t a left ≡ a / t.boundary * t.boundary + t.boundary = omega arith in
                ap (λ (k : ℕ). k % t.alignment) e
                ∙ sum_multiple (a / t.boundary * t.boundary) t.boundary t.alignment
                (times_multiple (a / t.boundary) t.boundary t.alignment sizes.1) sizes.1)
          ]) refl
    ]) refl
  where
    boundary_inside : (b a : ℕ) → eqb b 0 ≡ false → a % b < b
    boundary_inside b a w = let n : 0 < b = grind (arith, nat_tests) in omega arith

pub run_aligned : (n : ℕ) (t : TagLimits) (a left : ℕ) → 0 < t.maxsegsz → HasAlignedSizes t → a % t.alignment ≡ 0 →
    left ≤ n → AllByRecursion (IsAligned t) (pieces_of t (run_of a left))
run_aligned n t a zero m sizes h l = tt
run_aligned zero t a (suc r) m sizes h l = absurd (omega arith)
run_aligned (suc n) t a (suc r) m sizes h l =
    let k = piece_len t a (suc r) in
    let some = piece_some t a (suc r) m (omega arith) in
    let fits = piece_fits t a (suc r) in
    subst (AllByRecursion (IsAligned t)) (sym (pieces_step t a (suc r) k m (omega arith) refl)) (
      h,
      (elim (leb (suc r) k) as (λ b. leb (suc r) k ≡ b →
          AllByRecursion (IsAligned t) (pieces_of t (run_of (a + k) (suc r - k)))) [
            | true ↦ λ w. (let le = most (suc r) k w in let none : suc r - k ≡ 0 = omega arith in
                subst (λ (z : ℕ). AllByRecursion (IsAligned t) (pieces_of t (run_of (a + k) z))) (sym none) tt)
            | false ↦ λ w. (let gt = above (suc r) k w in
                run_aligned n t (a + k) (suc r - k) m sizes (next_aligned t a (suc r) sizes h gt) (omega arith))
          ]) refl,
    )
