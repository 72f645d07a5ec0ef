-- The bytes of frames keep pages: each page of their bytes is a frame.
use Rattle.std.proofs.Common.{◌≡◌, ℕ, zero, suc, ◌+◌, ◌-◌, ◌*◌, ◌/◌, ◌%◌, ◌^◌, ◌<◌, min, Bool, false, List, ◌∷◌, refl}
use Rattle.std.proofs.Common.{ap, sym, ◌∙◌, inl, inr, arith}
use Rattle.std.specs.Prelude.{Some, slice_get}
use Rattle.std.proofs.lemmas.Bool.{cases_lt}
use Rattle.busdma_machine.specs.declared.machine.address.Extent.{Extent}
use Rattle.busdma_machine.specs.declared.machine.chunk.Part.TheVariants as part
use Rattle.busdma_rules.specs.Memory.Extents.{reached_addresses, then_reached}
use Rattle.phys_memory.specs.Walk.{run_stream}
use Rattle.phys_memory.proofs.Paged.{HasPage, next_in_page}
use Rattle.phys_memory.proofs.Streams.{stream_next}
use Rattle.busdma_rules.specs.Memory.BioFrames.{byte_of, in_frames}
use Rattle.busdma_rules.proofs.Memory.InFrames.{frames_places}

-- ---- the first frame, and the others

first_page : (f : ℕ) (fs : List ℕ) (page : ℕ) → page ≡ 0 → HasPage (in_frames (f ∷ fs)) page f 4096
first_page f fs page none = record {
  inside = λ i h k.
      let number : (4096 * page + i) / 4096 ≡ 0 = omega arith in
      let place : (4096 * page + i) % 4096 ≡ i = omega arith in
      ap (λ n. byte_of (slice_get (f ∷ fs) n) ((4096 * page + i) % 4096)) number ∙ ap (byte_of (Some f)) place;
  past = λ i h k. absurd (omega arith);
}

-- the bytes after the first frame are those of the others
behind_first : (f : ℕ) (fs : List ℕ) (k : ℕ) → in_frames (f ∷ fs) (4096 + k) ≡ in_frames fs k
behind_first f fs k =
    let number : (4096 + k) / 4096 ≡ suc (k / 4096) = omega arith in
    let place : (4096 + k) % 4096 ≡ k % 4096 = omega arith in
    ap (λ n. byte_of (slice_get (f ∷ fs) n) ((4096 + k) % 4096)) number ∙ ap (byte_of (slice_get fs (k / 4096))) place

reached_behind : (f : ℕ) (fs : List ℕ) (k n : ℕ) →
    reached_addresses (in_frames (f ∷ fs)) (4096 + k) n ≡ reached_addresses (in_frames fs) k n
reached_behind f fs k zero = refl
reached_behind f fs k (suc n) =
    let next : 4096 + k + 1 ≡ 4096 + (k + 1) = omega arith in
    ap (λ o. then_reached o (reached_addresses (in_frames (f ∷ fs)) (4096 + k + 1) n)) (behind_first f fs k)
    ∙ ap (then_reached (in_frames fs k)) (ap (λ a. reached_addresses (in_frames (f ∷ fs)) a n) next
    ∙ reached_behind f fs (k + 1) n)

-- what is left after the bytes that the first frame gave
reached_next : (f : ℕ) (fs : List ℕ) (off n left : ℕ) → off < 4096 → n ≡ min (4096 - off) left →
    reached_addresses (in_frames (f ∷ fs)) (off + n) (left - n) ≡ reached_addresses (in_frames fs) 0 (left - n)
reached_next f fs off n left inside e = elim (cases_lt (4096 - off) left) [
  | inl h ↦
      let end : off + n ≡ 4096 + 0 = omega arith in
      ap (λ a. reached_addresses (in_frames (f ∷ fs)) a (left - n)) end ∙ reached_behind f fs 0 (left - n)
  | inr h ↦
      let none : left - n ≡ 0 = omega arith in
      ap (reached_addresses (in_frames (f ∷ fs)) (off + n)) none ∙ ap (reached_addresses (in_frames fs) 0) (sym none)
]

-- the first part of a stream of frames, and what is left
pub frames_stream : (f : ℕ) (fs : List ℕ) (off n left offset : ℕ) (opens : Bool) → f < 2 ^ 30 → off < 4096 → 0 < left →
    n ≡ min (4096 - off) left → run_stream (reached_addresses (in_frames (f ∷ fs)) off left) left offset opens false
    ≡ part.Of (record { pa = record { 0 = f * 4096 + off }; len = n }) opens false
    ∷ run_stream (reached_addresses (in_frames fs) 0 (left - n)) (left - n) (offset + n) false false
frames_stream f fs off n left offset opens below inside some e =
    let t = in_frames (f ∷ fs) in
    let page : off / 4096 ≡ 0 = omega arith in
    let place : off % 4096 ≡ off = omega arith in
    let first : Extent = record { pa = record { 0 = f * 4096 + off }; len = n } in
    let is =
    next_in_page t off n left f 4096 (first_page f fs (off / 4096) page) (frames_places (f ∷ fs)) (omega arith)
    below (omega arith) some (omega arith) in
    stream_next t off left offset opens false (record { pa = record { 0 = f * 4096 + off % 4096 }; len = n }) is
    ∙ ap (λ a. part.Of (record { pa = record { 0 = f * 4096 + a }; len = n }) opens false
    ∷ run_stream (reached_addresses t (off + n) (left - n)) (left - n) (offset + n) false false) place
    ∙ ap (λ pas. part.Of first opens false ∷ run_stream pas (left - n) (offset + n) false false)
    (reached_next f fs off n left inside e)
