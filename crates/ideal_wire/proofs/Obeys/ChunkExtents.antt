-- Each extent of a chunk is in one frame.
use Rattle.std.proofs.Common.{◌≡◌, ◌≢◌, ℕ, zero, suc, ◌+◌, ◌-◌, ◌%◌, ◌^◌, ◌<◌, ◌≤◌, min, Bool, true, false, cond, List}
use Rattle.std.proofs.Common.{[], ◌∷◌, ◌++◌, length, take, drop, Option, Some, None, refl, ap, sym, ◌∙◌, subst, arith}
use Rattle.std.proofs.Common.{inl, inr}
use Rattle.std.proofs.lemmas.Bool.{cases_lt}
use Rattle.std.proofs.lemmas.List.{drop_all}
use Rattle.std.specs.List.{AllByRecursion}
use Rattle.std.specs.Option.{option_to_list}
use Rattle.busdma_machine.specs.declared.machine.address.Extent.{Extent}
use Rattle.busdma_machine.specs.declared.machine.address.Pa.{Pa}
use Rattle.busdma_machine.specs.declared.machine.chunk.Chunk.{Chunk}
use Rattle.busdma_machine.specs.declared.machine.chunk.Entry.{Entry}
use Rattle.busdma_machine.specs.declared.tags.tag.TagLimits.{TagLimits}
use Rattle.busdma_machine.specs.Machine.Entry.{AreJoined, IsEntry, entry_addresses}
use Rattle.busdma_machine.specs.Runs.{IsExtent, addresses, byte_count, run_of}
use Rattle.busdma_machine.specs.Tags.Tag.{IsEffective}
use Rattle.busdma_rules.specs.Segments.Building.{IsPlaceable}
use Rattle.busdma_rules.specs.Segments.Chunks.{bounced_of, chunk_limit, chunk_of, chunks_from, chunks_of}
use Rattle.busdma_rules.specs.Segments.Chunks.{chunks_of_bytes}
use Rattle.busdma_rules.specs.Segments.Chunks.{chunks_within, extent_from, to_frame_end}
use Rattle.busdma_rules.specs.Segments.Trace.{chunk_len, first_page, in_page, chunks_in_pages}
use Rattle.busdma_rules.proofs.Segments.ChunkLaws.{limit_reaches}
use Rattle.busdma_rules.proofs.Segments.Sound.{all_append, chunks_sound}
use Rattle.ideal_wire.specs.Laid.{IsOfExtents}
use Rattle.ideal_wire.proofs.Laid.Positions.{found_one}

-- ---- addresses of bytes that follow one another in frames

-- the address after the last one of a frame begins a frame, and any other is the next address
abbrev Step : ℕ → ℕ → Type 0
Step a b = ((a + 1) % 4096 ≡ 0 → b % 4096 ≡ 0) × ((a + 1) % 4096 ≢ 0 → b ≡ a + 1)

abbrev Steps : List ℕ → Type 0
Steps [] = Unit {0}
Steps (a ∷ []) = a < 2 ^ 42
Steps (a ∷ b ∷ bs) = (a < 2 ^ 42) × Step a b × Steps (b ∷ bs)

head-low : (a : ℕ) (bs : List ℕ) → Steps (a ∷ bs) → a < 2 ^ 42
head-low a [] h = h
head-low a (b ∷ bs) h = h.0

steps-tail : (a : ℕ) (bs : List ℕ) → Steps (a ∷ bs) → Steps bs
steps-tail a [] h = tt
steps-tail a (b ∷ bs) h = h.2

steps-drop : (k : ℕ) (bs : List ℕ) → Steps bs → Steps (drop k bs)
steps-drop zero bs h = h
steps-drop (suc k) [] h = tt
steps-drop (suc k) (b ∷ bs) h = steps-drop k bs (steps-tail b bs h)

steps-take : (k : ℕ) (a : ℕ) (bs : List ℕ) → Steps (a ∷ bs) → Steps (a ∷ take k bs)
steps-take zero a bs h = head-low a bs h
steps-take (suc k) a [] h = h
steps-take (suc k) a (b ∷ bs) h = (h.0, h.1, steps-take k b bs h.2)

-- where bytes end, a frame ends and the next begin one
abbrev Begin : ℕ → List ℕ → Type 0
Begin end [] = Unit {0}
Begin end (y ∷ ys) = (end % 4096 ≡ 0) × (y % 4096 ≡ 0)

begin-run : (end a n : ℕ) (zs : List ℕ) → 0 < n → end % 4096 ≡ 0 → a % 4096 ≡ 0 → Begin end (run_of a n ++ zs)
begin-run end a zero zs some e f = absurd (omega (arith, some))
begin-run end a (suc n) zs some e f = (e, f)

run-steps : (a n : ℕ) (ys : List ℕ) → 0 < n → a % 4096 + n ≤ 4096 → a < 2 ^ 42 → Steps ys → Begin (a + n) ys →
    Steps (run_of a n ++ ys)
run-steps a zero ys some inside low h b = absurd (omega (arith, some))
run-steps a (suc zero) [] some inside low h b = low
run-steps a (suc zero) (y ∷ ys) some inside low h b = (low, (λ e. b.1, λ ne. absurd (ne (omega (arith, b.0)))), h)
run-steps a (suc (suc n)) ys some inside low h b = (
  low,
  (λ e. absurd (omega (arith, inside, e)), λ ne. refl),
  run-steps (a + 1) (suc n) ys (omega arith) (omega (arith, inside)) (omega (arith, inside, low)) h (next b),
)
  where
    next : Begin (a + suc (suc n)) ys → Begin (a + 1 + suc n) ys
    next = let e : a + suc (suc n) ≡ a + 1 + suc n = omega arith in subst (λ k. Begin k ys) e

parts-steps : (es : List Extent) → AllByRecursion IsExtent es → AreJoined es → Steps (addresses es)
parts-steps [] all j = tt
parts-steps (e ∷ []) all j = run-steps e.pa.0 e.len [] all.0.some all.0.in_frame all.0.numbered tt tt
parts-steps (e ∷ f ∷ es) all j =
    run-steps e.pa.0 e.len (addresses (f ∷ es)) all.0.some all.0.in_frame all.0.numbered
    (parts-steps (f ∷ es) all.1 j.2) (begin-run (e.pa.0 + e.len) f.pa.0 f.len (addresses es) all.1.0.some j.0 j.1)

-- the first of these begins a frame
abbrev First : List ℕ → Type 0
First [] = Unit {0}
First (y ∷ ys) = (y % 4096 ≡ 0) × (y < 2 ^ 42)

after-frame : (k a : ℕ) (bs : List ℕ) → Steps (a ∷ bs) → k ≡ to_frame_end a → First (drop k (a ∷ bs))
after-frame zero a bs h e = absurd (omega (arith, e))
after-frame (suc zero) a [] h e = tt
after-frame (suc zero) a (b ∷ bs) h e = (h.1.0 (omega (arith, e)), head-low b bs h.2)
after-frame (suc (suc k)) a [] h e = tt
after-frame (suc (suc k)) a (b ∷ bs) h e =
    let next : b ≡ a + 1 = h.1.1 (λ (z : (a + 1) % 4096 ≡ 0). absurd (omega (arith, e, z))) in
    after-frame (suc k) b bs h.2 (omega (arith, e, next))

-- ---- chunks as they are cut

-- a chunk's first extent lies in one frame, and its other begins one
record IsCut (c : Chunk) : Type 0 where
  first : IsExtent c.first
  rest : (e : Extent) → c.rest ≡ Some e → (0 < e.len) × (e.pa.0 % 4096 ≡ 0) × (e.pa.0 < 2 ^ 42)

rest-begins : (zs : List ℕ) (e : Extent) → First zs → extent_from zs ≡ Some e →
    (0 < e.len) × (e.pa.0 % 4096 ≡ 0) × (e.pa.0 < 2 ^ 42)
rest-begins [] e h is = absurd (cc)
rest-begins (y ∷ ys) e h is =
    let same : record { pa = record { 0 = y }; len = length (y ∷ ys) } ≡ e =
    found_one (extent_from (y ∷ ys)) _ e refl is in
    let pa : y ≡ e.pa.0 = ap (λ (x : Extent). x.pa.0) same in
    let len : length (y ∷ ys) ≡ e.len = ap (λ (x : Extent). x.len) same in
    (omega (arith, len), omega (arith, h.0, pa), omega (arith, h.1, pa))

chunk-cut : (t : TagLimits) (m at a : ℕ) (bs : List ℕ) → Steps (a ∷ bs) → IsCut (chunk_of t m at (a ∷ bs))
chunk-cut t m at a bs h = record {
  first = record { some = omega arith; in_frame = omega arith; numbered = head-low a bs h };
  rest = λ e is. rest-begins (drop n (a ∷ bs)) e begins is;
}
  where
    n : ℕ
    n = min (length (a ∷ bs)) (to_frame_end a)

    begins : First (drop n (a ∷ bs))
    begins = elim (cases_lt (to_frame_end a) (length (a ∷ bs))) as (λ _. First (drop n (a ∷ bs))) [
      | inl lt ↦ let is : n ≡ to_frame_end a = omega (arith, lt) in after-frame n a bs h is
      | inr le ↦ let all : length (a ∷ bs) ≤ n = omega (arith, le) in
          subst First (sym (drop_all n (a ∷ bs) all)) tt
    ]

within-cut : (n : ℕ) (t : TagLimits) (m : ℕ) (r : Bool) (at : ℕ) (bs : List ℕ) → IsEffective t → Steps bs →
    AllByRecursion IsCut (chunks_within n t m r at bs)
within-cut zero t m r at bs eff h = tt
within-cut (suc n) t m r at [] eff h = tt
within-cut (suc n) t m r at (a ∷ bs) eff h = (
  subst (λ k. IsCut (chunk_of t m at (take k (a ∷ bs)))) (sym is)
      (chunk-cut t m at a (take (most - 1) bs) (steps-take (most - 1) a bs h)),
  within-cut n t m r (at + most) (drop most (a ∷ bs)) eff (steps-drop most (a ∷ bs) h),
)
  where
    most : ℕ
    most = chunk_limit t m r a

    is : most ≡ suc (most - 1)
    is = omega (arith, limit_reaches t m r a eff)

from-cut : (t : TagLimits) (m at : ℕ) (es : List Entry) → IsEffective t → AllByRecursion IsEntry es →
    AllByRecursion IsCut (chunks_from t m at es)
from-cut t m at [] eff h = tt
from-cut t m at (x ∷ xs) eff h =
    all_append IsCut (chunks_of_bytes t m x.rounded at (entry_addresses x))
    (chunks_from t m (at + byte_count x.parts) xs)
    (within-cut (length (entry_addresses x)) t m x.rounded at (entry_addresses x) eff
    (parts-steps x.parts h.0.extents h.0.joined)) (from-cut t m (at + byte_count x.parts) xs eff h.1)

-- a sound chunk that is cut so has its extents in frames
chunk-extents : (t : TagLimits) (c : Chunk) → IsPlaceable t c → IsCut c → IsOfExtents c
chunk-extents t c sound cut = by c.rest refl
  where
    two : (e : Extent) → byte_count (c.first ∷ e ∷ []) ≡ c.first.len + e.len
    two e = omega arith

    small : (e : Extent) → c.rest ≡ Some e → (b : Bool) → c.bounced ≡ b → e.len ≤ 4096
    small e is true bounced =
        let len : chunk_len c ≡ c.first.len + e.len =
        ap (λ r. byte_count (c.first ∷ option_to_list r)) is ∙ two e in
        omega (arith, sound.fits bounced, len)
    small e is false own = let none : c.rest ≡ None = (sound.own own).single own in absurd (cc)

    by : (r : Option Extent) → c.rest ≡ r → AllByRecursion IsExtent (c.first ∷ option_to_list r)
    by None is = (cut.first, tt)
    by (Some e) is =
        let b = cut.rest e is in (
          cut.first,
          (record { some = b.0; in_frame = omega (arith, b.1, small e is c.bounced refl); numbered = b.2 }, tt),
        )

all-extents : (t : TagLimits) (cs : List Chunk) → AllByRecursion (IsPlaceable t) cs → AllByRecursion IsCut cs →
    AllByRecursion IsOfExtents cs
all-extents t [] sound cut = tt
all-extents t (c ∷ cs) sound cut = (chunk-extents t c sound.0 cut.0, all-extents t cs sound.1 cut.1)

pub chunks-extents : (t : TagLimits) (m : ℕ) (es : List Entry) → IsEffective t → AllByRecursion IsEntry es →
    AllByRecursion IsOfExtents (chunks_of t m es)
chunks-extents t m es eff h = all-extents t (chunks_of t m es) (chunks_sound t m es eff h) (from-cut t m 0 es eff h)

-- a page changes no extent
pub placed-extents : (keep : Bool) (cs : List Chunk) (pages : List Pa) → AllByRecursion IsOfExtents cs →
    AllByRecursion IsOfExtents (bounced_of (chunks_in_pages keep cs pages))
placed-extents keep [] pages h = tt
placed-extents keep (c ∷ cs) pages h =
    by c.bounced refl (placed-extents keep cs (drop 1 pages) h.1) (placed-extents keep cs pages h.1)
  where
    by : (b : Bool) → c.bounced ≡ b → AllByRecursion IsOfExtents (bounced_of (chunks_in_pages keep cs (drop 1 pages))) →
        AllByRecursion IsOfExtents (bounced_of (chunks_in_pages keep cs pages)) →
        AllByRecursion IsOfExtents (bounced_of
        (cond b (in_page keep (first_page pages) c ∷ chunks_in_pages keep cs (drop 1 pages))
        (c ∷ chunks_in_pages keep cs pages)))
    by true e one all =
        subst (λ b. AllByRecursion IsOfExtents (cond b (in_page keep (first_page pages) c
        ∷ bounced_of (chunks_in_pages keep cs (drop 1 pages))) (bounced_of (chunks_in_pages keep cs (drop 1 pages)))))
        (sym e) (h.0, one)
    by false e one all =
        subst (λ b. AllByRecursion IsOfExtents (cond b (c ∷ bounced_of (chunks_in_pages keep cs pages))
        (bounced_of (chunks_in_pages keep cs pages)))) (sym e) all
