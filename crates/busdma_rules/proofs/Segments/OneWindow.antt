-- Segments are short, and lie in one window.
use Rattle.std.proofs.Common.{◌≡◌, ℕ, zero, suc, ◌+◌, ◌-◌, ◌*◌, ◌/◌, ◌%◌, ◌<◌, ◌≤◌, List, [], ◌∷◌, ◌++◌, map, Bool}
use Rattle.std.proofs.Common.{true, false, eqb, leb, ◌&&◌, ◌||◌, refl, ap, sym, ◌∙◌, subst, arith, ◌≢◌}
use Rattle.std.specs.List.{AllByRecursion, flat_map}
use Rattle.std.proofs.lemmas.Nat.{div-add-mod', div-mul-add}
use Rattle.busdma_machine.specs.declared.machine.address.Segment.{Segment}
use Rattle.busdma_machine.specs.declared.machine.chunk.Chunk.{Chunk}
use Rattle.busdma_machine.specs.declared.tags.tag.TagLimits.{TagLimits}
use Rattle.busdma_machine.specs.Runs.{run_of}
use Rattle.busdma_rules.specs.Segments.Obeying.{LiesInWindow}
use Rattle.busdma_rules.specs.Segments.Pieces.{chunk_pieces, piece_len, pieces_of}
use Rattle.busdma_rules.specs.Segments.Segmentation.{AreRuns, EachJoins, IsSegmentation}
use Rattle.busdma_rules.specs.Segments.Segmentation.{PieceRun, pieces_grown, joint, may_join}
use Rattle.busdma_rules.specs.Segments.Segmentation.{run_pieces, same_window, segment_of}
use Rattle.busdma_rules.specs.Segments.Trace.{RisesByOne, bus_addresses, chunk_len}
use Rattle.busdma_rules.proofs.Segments.Bytes.{begins_at_end}
use Rattle.busdma_rules.proofs.Segments.Places.{len_in_size, len_in_window, piece_some, pieces_step}
use Rattle.busdma_rules.proofs.Segments.Sound.{all_append}
use Rattle.busdma_rules.proofs.Segments.Numbers.{most, not_zero, number_is}

pub record IsGood (t : TagLimits) (s : Segment) : Type 0 where
  pub some : 1 ≤ s.len
  pub short : s.len ≤ t.maxsegsz
  pub window : LiesInWindow t s

in_window : (a k b : ℕ) → 0 < b → 1 ≤ k → k ≤ b - a % b → a / b ≡ (a + k - 1) / b
in_window a k b pos some h =
    let whole = div-add-mod' a b in
    let e : a + k - 1 ≡ a / b * b + (a % b + k - 1) = omega arith in
    sym (ap (λ (x : ℕ). x / b) e ∙ div-mul-add (a / b) b (a % b + k - 1) (omega arith))

piece_good : (t : TagLimits) (a left : ℕ) → 0 < t.maxsegsz → 0 < left →
    IsGood t (record { addr = record { 0 = a }; len = piece_len t a left })
piece_good t a left m h = record {
  some = piece_some t a left m h;
  short = len_in_size t a left;
  window = λ b. in_window a (piece_len t a left) t.boundary (let n : t.boundary ≢ 0 = b in
      omega arith) (piece_some t a left m h) (len_in_window t a left (not_zero t.boundary b));
}

run_good : (n : ℕ) (t : TagLimits) (a left : ℕ) → 0 < t.maxsegsz → left ≤ n →
    AllByRecursion (IsGood t) (pieces_of t (run_of a left))
run_good n t a zero m h = tt
run_good zero t a (suc l) m h = absurd (omega arith)
run_good (suc n) t a (suc l) m h =
    let k = piece_len t a (suc l) in
    let some = piece_some t a (suc l) m (omega arith) in
    subst (AllByRecursion (IsGood t)) (sym (pieces_step t a (suc l) k m (omega arith) refl))
    (piece_good t a (suc l) m (omega arith), run_good n t (a + k) (suc l - k) m (omega arith))

pub pieces_good : (t : TagLimits) (cs : List Chunk) → 0 < t.maxsegsz → AllByRecursion RisesByOne cs →
    AllByRecursion (IsGood t) (chunk_pieces t cs)
pieces_good t [] m h = tt
pieces_good t (c ∷ cs) m h =
    all_append (IsGood t) (pieces_of t (bus_addresses c)) (chunk_pieces t cs)
    (subst (λ bs. AllByRecursion (IsGood t) (pieces_of t bs)) (sym h.0.1)
    (run_good (chunk_len c) t h.0.0 (chunk_len c) m (omega arith))) (pieces_good t cs m h.1)

second_true : (a b c : Bool) → (a && b && c) ≡ true → b ≡ true
second_true true true c h = refl
second_true true false c h = absurd cc
second_true false b c h = absurd cc

third_true : (a b c : Bool) → (a && b && c) ≡ true → c ≡ true
third_true true true c h = h
third_true true false c h = absurd cc
third_true false b c h = absurd cc

or_true : (a b : Bool) → (a || b) ≡ true → a ≡ false → b ≡ true
or_true true b h e = absurd cc
or_true false b h e = h

joint_good : (t : TagLimits) (s p : Segment) → IsGood t s → IsGood t p → may_join t s p ≡ true → IsGood t (joint s p)
joint_good t s p x y j =
    let at_end = begins_at_end t s p j in
    let some = x.some in
    let more = y.some in
    record {
      some = omega arith;
      short =
          most (s.len + p.len) t.maxsegsz (second_true (eqb p.addr.0 (s.addr.0 + s.len))
          (leb (s.len + p.len) t.maxsegsz) (same_window t s p) j);
      window = λ b. (
          let same =
          number_is (s.addr.0 / t.boundary) (p.addr.0 / t.boundary)
          (or_true (eqb t.boundary 0) (eqb (s.addr.0 / t.boundary) (p.addr.0 / t.boundary))
          (third_true (eqb p.addr.0 (s.addr.0 + s.len)) (leb (s.len + p.len) t.maxsegsz) (same_window t s p) j)
          (not_zero t.boundary b)) in
          let ends : p.addr.0 + p.len - 1 ≡ s.addr.0 + (s.len + p.len) - 1 = omega arith in
          same ∙ (y.window b ∙ ap (λ (x : ℕ). x / t.boundary) ends));
    }

grown_good : (t : TagLimits) (s : Segment) (ps : List Segment) → IsGood t s → AllByRecursion (IsGood t) ps →
    EachJoins t s ps → IsGood t (pieces_grown s ps)
grown_good t s [] x y j = x
grown_good t s (p ∷ ps) x y j = grown_good t (joint s p) ps (joint_good t s p x y.0 j.0) y.1 j.1

pub all_first : {X : Type 0} (P : X → Type 0) (xs ys : List X) → AllByRecursion P (xs ++ ys) → AllByRecursion P xs
all_first P [] ys h = tt
all_first P (x ∷ xs) ys h = (h.0, all_first P xs ys h.1)

pub all_second : {X : Type 0} (P : X → Type 0) (xs ys : List X) → AllByRecursion P (xs ++ ys) → AllByRecursion P ys
all_second P [] ys h = h
all_second P (x ∷ xs) ys h = all_second P xs ys h.1

runs_good : (t : TagLimits) (rs : List PieceRun) → AreRuns t rs → AllByRecursion (IsGood t) (flat_map run_pieces rs) →
    AllByRecursion (IsGood t) (map segment_of rs)
runs_good t [] j h = tt
runs_good t (r ∷ rs) j h =
    let here = all_first (IsGood t) (run_pieces r) (flat_map run_pieces rs) h in (
      grown_good t r.first r.others here.0 here.1 j.0,
      runs_good t rs j.2 (all_second (IsGood t) (run_pieces r) (flat_map run_pieces rs) h),
    )

pub segments_good : (t : TagLimits) (segs ps : List Segment) → IsSegmentation t segs ps →
    AllByRecursion (IsGood t) ps → AllByRecursion (IsGood t) segs
segments_good t segs ps s h =
    subst (AllByRecursion (IsGood t)) s.segments_are
    (runs_good t s.runs s.joined (subst (AllByRecursion (IsGood t)) (sym s.pieces_are) h))
