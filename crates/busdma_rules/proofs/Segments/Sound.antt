-- Each chunk of a load fits into a page.
use Rattle.std.proofs.Common.{◌≡◌, ℕ, zero, suc, ◌+◌, ◌-◌, ◌*◌, ◌/◌, ◌<◌, ◌≤◌, ◌^◌, min, List, [], ◌∷◌, ◌++◌, length}
use Rattle.std.proofs.Common.{take, drop, Bool, true, false, cond, ◌&&◌, not, refl, ap, sym, ◌∙◌, subst, arith}
use Rattle.std.proofs.Common.{mul_comm, length-take, length-drop, inl, inr}
use Rattle.std.specs.List.{AllByRecursion}
use Rattle.std.specs.Option.{option_to_list}
use Rattle.std.proofs.Math.Nat.{add-mul}
use Rattle.std.proofs.lemmas.Bool.{cases_lt}
use Rattle.std.proofs.lemmas.Nat.{pow-add, pow_below, div_below, mul-le}
use Rattle.std.proofs.lemmas.List.{drop_all}
use Rattle.busdma_machine.specs.declared.machine.address.Extent.{Extent}
use Rattle.busdma_machine.specs.declared.machine.address.Pa.{Pa}
use Rattle.busdma_machine.specs.declared.machine.chunk.Chunk.{Chunk}
use Rattle.busdma_machine.specs.declared.machine.chunk.Entry.{Entry}
use Rattle.busdma_machine.specs.declared.tags.tag.TagLimits.{TagLimits}
use Rattle.busdma_machine.specs.Runs.{IsExtent, run_of, addresses, byte_count}
use Rattle.busdma_machine.specs.Machine.Entry.{IsEntry, entry_addresses}
use Rattle.busdma_machine.specs.Tags.Tag.{IsEffective, needs_bounce}
use Rattle.busdma_machine.specs.Tags.TagFlags.{keep_pg_offset}
use Rattle.busdma_rules.specs.Segments.Building.{IsPlaceable, tag_placed}
use Rattle.busdma_rules.specs.Segments.Chunks.{rounded_up, to_frame_end, chunk_limit, first_extent, extent_from}
use Rattle.busdma_rules.specs.Segments.Chunks.{chunk_of, chunks_within, chunks_of_bytes, chunks_from, chunks_of}
use Rattle.busdma_rules.specs.Segments.Trace.{IsPage, IsPlaced, chunk_len}
use Rattle.busdma_rules.specs.Segments.Trace.{first_page, in_page, page_offset, chunks_in_pages}
use Rattle.busdma_rules.proofs.Segments.ChunkLaws.{limit_reaches}

-- ---- alignments divide a frame

power_small : (k : ℕ) → 2 ^ k ≤ 4096 → k ≤ 12
power_small k h =
    elim (cases_lt 12 k) [ inl l ↦ (let p = pow_below 12 k l in absurd (omega arith)) | inr g ↦ omega arith ]

-- a power of two up to 4096 divides 4096
pub divides_frame : (t : TagLimits) → IsEffective t → (d : ℕ) × (4096 ≡ t.alignment * d)
divides_frame t e =
    let k = e.alignment_power.0 in
    let is = e.alignment_power.1 in
    let high = e.alignment_high in
    let small = power_small k (omega arith) in
    let whole : k + (12 - k) ≡ 12 = omega arith in (
      2 ^ (12 - k),
      ap (λ (n : ℕ). 2 ^ n) (sym whole)
          ∙ (pow-add 2 k (12 - k) ∙ ap (λ (n : ℕ). n * 2 ^ (12 - k)) (sym is)),
    )

rounded_in_frame : (n al d : ℕ) → n ≤ 4096 → 0 < al → 4096 ≡ al * d → rounded_up n al ≤ 4096
rounded_in_frame n al d h pos e =
    let turned = mul_comm al d in
    let more = add-mul d 1 al in
    let top = div_below (n + al - 1) al (d + 1) pos (omega arith) in
    let low = mul-le ((n + al - 1) / al) al d al (omega arith) (omega arith) in
    omega arith

-- ---- the limit of a chunk

no_growth : (n r k : Bool) → k ≡ true → (n && r && not k) ≡ false
no_growth true true k h = rw h refl
no_growth true false k h = refl
no_growth false r k h = refl

kept_limit : (t : TagLimits) (m : ℕ) (r : Bool) (a : ℕ) →
    keep_pg_offset t.flags ≡ true → chunk_limit t m r a ≡ to_frame_end a
kept_limit t m r a h = rw (no_growth (needs_bounce t m a) r (keep_pg_offset t.flags) h) refl

own_limit : (t : TagLimits) (m : ℕ) (r : Bool) (a : ℕ) →
    needs_bounce t m a ≡ false → chunk_limit t m r a ≡ to_frame_end a
own_limit t m r a h = rw h refl

limit_in_frame : (t : TagLimits) (m : ℕ) (r : Bool) (a : ℕ) → IsEffective t → chunk_limit t m r a ≤ 4096
limit_in_frame t m r a e =
    let d = divides_frame t e in
    elim (needs_bounce t m a && r && not (keep_pg_offset t.flags))
    as (λ b. cond b (rounded_up (to_frame_end a) t.alignment) (to_frame_end a) ≤ 4096) [
      | true ↦ rounded_in_frame (to_frame_end a) t.alignment d.0 (omega arith) e.alignment_low d.1
      | false ↦
          omega arith
    ]

-- ---- one chunk

abbrev pub IsLow : ℕ → Type 0
IsLow a = a < 2 ^ 42

two_extents : (f : Extent) (ys : List ℕ) → byte_count (f ∷ option_to_list (extent_from ys)) ≡ f.len + length ys
two_extents f [] = omega arith
two_extents f (y ∷ ys) = omega arith

-- a chunk has the bytes of which it is made
pub made_len : (t : TagLimits) (m at a : ℕ) (bs : List ℕ) → chunk_len (chunk_of t m at (a ∷ bs)) ≡ length (a ∷ bs)
made_len t m at a bs =
    let n = min (length (a ∷ bs)) (to_frame_end a) in
    omega (arith, two_extents (first_extent (a ∷ bs)) (drop n (a ∷ bs)), length-drop n (a ∷ bs))

made_sound : (t : TagLimits) (m : ℕ) (r : Bool) (at a : ℕ) (bs : List ℕ) → IsEffective t → IsLow a →
    length (a ∷ bs) ≤ chunk_limit t m r a → IsPlaceable t (chunk_of t m at (a ∷ bs))
made_sound t m r at a bs e low h =
    let len = made_len t m at a bs in
    record {
      own = λ (not_bounced : needs_bounce t m a ≡ false). (
          let limit = own_limit t m r a not_bounced in
          let all : min (length (a ∷ bs)) (to_frame_end a) ≡ length (a ∷ bs) = omega arith in
          record {
            paged = sym not_bounced;
            single = λ _. ap (λ k. extent_from (drop k (a ∷ bs))) all
                ∙ ap extent_from (drop_all (length (a ∷ bs)) (a ∷ bs) (omega arith));
            inside = record { some = omega arith; in_frame = omega arith; numbered = low };
          });
      some = omega arith;
      fits =
          λ bounced. (elim (keep_pg_offset t.flags) as (λ k. keep_pg_offset t.flags ≡ k →
          page_offset k a + chunk_len (chunk_of t m at (a ∷ bs)) ≤ 4096) [
            | true ↦ λ w. (let limit = kept_limit t m r a w in omega arith)
            | false ↦ λ w. (let limit = limit_in_frame t m r a e in omega arith)
          ]) refl;
    }

-- ---- all chunks

all_take : (k : ℕ) (bs : List ℕ) → AllByRecursion IsLow bs → AllByRecursion IsLow (take k bs)
all_take zero bs h = tt
all_take (suc k) [] h = tt
all_take (suc k) (b ∷ bs) h = (h.0, all_take k bs h.1)

all_drop : (k : ℕ) (bs : List ℕ) → AllByRecursion IsLow bs → AllByRecursion IsLow (drop k bs)
all_drop zero bs h = h
all_drop (suc k) [] h = tt
all_drop (suc k) (b ∷ bs) h = all_drop k bs h.1

pub all_append : {X : Type 0} (P : X → Type 0) (xs ys : List X) → AllByRecursion P xs →
    AllByRecursion P ys → AllByRecursion P (xs ++ ys)
all_append P [] ys h i = i
all_append P (x ∷ xs) ys h i = (h.0, all_append P xs ys h.1 i)

first_sound : (t : TagLimits) (m : ℕ) (r : Bool) (at a : ℕ) (bs : List ℕ) → IsEffective t → IsLow a →
    IsPlaceable t (chunk_of t m at (take (chunk_limit t m r a) (a ∷ bs)))
first_sound t m r at a bs e low =
    let most = chunk_limit t m r a in
    let reaches = limit_reaches t m r a e in
    let is : most ≡ suc (most - 1) = omega arith in
    subst (λ (k : ℕ). IsPlaceable t (chunk_of t m at (take k (a ∷ bs)))) (sym is)
    (made_sound t m r at a (take (most - 1) bs) e low (omega (arith, length-take (most - 1) bs)))

within_sound : (n : ℕ) (t : TagLimits) (m : ℕ) (r : Bool) (at : ℕ) (bs : List ℕ) → IsEffective t →
    AllByRecursion IsLow bs → AllByRecursion (IsPlaceable t) (chunks_within n t m r at bs)
within_sound zero t m r at bs e h = tt
within_sound (suc n) t m r at [] e h = tt
within_sound (suc n) t m r at (a ∷ bs) e h = (
  first_sound t m r at a bs e h.0,
  within_sound n t m r (at + chunk_limit t m r a)
      (drop (chunk_limit t m r a) (a ∷ bs)) e (all_drop (chunk_limit t m r a) (a ∷ bs) h),
)

run_low : (a n : ℕ) → a + n ≤ 2 ^ 42 → AllByRecursion IsLow (run_of a n)
run_low a zero h = tt
run_low a (suc n) h = (omega arith, run_low (a + 1) n (omega arith))

addresses_low : (es : List Extent) → AllByRecursion IsExtent es → AllByRecursion IsLow (addresses es)
addresses_low [] h = tt
addresses_low (e ∷ es) h =
    let inside = h.0.in_frame in
    let low = h.0.numbered in
    all_append IsLow (run_of e.pa.0 e.len) (addresses es) (run_low e.pa.0 e.len (omega arith)) (addresses_low es h.1)

from_sound : (t : TagLimits) (m at : ℕ) (es : List Entry) → IsEffective t → AllByRecursion IsEntry es →
    AllByRecursion (IsPlaceable t) (chunks_from t m at es)
from_sound t m at [] e h = tt
from_sound t m at (x ∷ xs) e h =
    all_append (IsPlaceable t) (chunks_of_bytes t m x.rounded at (entry_addresses x))
    (chunks_from t m (at + byte_count x.parts) xs)
    (within_sound (length (entry_addresses x)) t m x.rounded at (entry_addresses x) e
    (addresses_low x.parts h.0.extents)) (from_sound t m (at + byte_count x.parts) xs e h.1)

pub chunks_sound : (t : TagLimits) (m : ℕ) (es : List Entry) → IsEffective t → AllByRecursion IsEntry es →
    AllByRecursion (IsPlaceable t) (chunks_of t m es)
chunks_sound t m es e h = from_sound t m 0 es e h

-- ---- chunks in their pages

page_first : (pages : List Pa) → AllByRecursion IsPage pages → IsPage (first_page pages)
page_first [] h = (omega arith, omega arith)
page_first (p ∷ ps) h = h.0

pages_later : (pages : List Pa) → AllByRecursion IsPage pages → AllByRecursion IsPage (drop 1 pages)
pages_later [] h = tt
pages_later (p ∷ ps) h = h.1

in_page_placed : (t : TagLimits) (c : Chunk) (page : Pa) → IsPlaceable t c → c.bounced ≡ true → IsPage page →
    IsPlaced (in_page (keep_pg_offset t.flags) page c)
in_page_placed t c page sound b p =
    let fits = sound.fits b in
    let some = sound.some in
    let frame = p.0 in
    let small = p.1 in
    record {
      paged = sym b;
      single = λ e. absurd cc;
      inside = record { some = some; in_frame = omega arith; numbered = omega arith };
    }

-- chunks in their pages are in their places
pub placed_are : (t : TagLimits) (cs : List Chunk) (pages : List Pa) → AllByRecursion (IsPlaceable t) cs →
    AllByRecursion IsPage pages → AllByRecursion IsPlaced (tag_placed t cs pages)
placed_are t [] pages h p = tt
placed_are t (c ∷ cs) pages h p =
    let keep = keep_pg_offset t.flags in
    (elim c.bounced as (λ b. c.bounced ≡ b →
    AllByRecursion IsPlaced
    (cond b (in_page keep (first_page pages) c ∷ chunks_in_pages keep cs (drop 1 pages))
    (c ∷ chunks_in_pages keep cs pages))) [
      | true ↦ λ w. (
        in_page_placed t c (first_page pages) h.0 w (page_first pages p),
        placed_are t cs (drop 1 pages) h.1 (pages_later pages p),
      )
      | false ↦ λ w. (h.0.own w, placed_are t cs pages h.1 p)
    ]) refl
