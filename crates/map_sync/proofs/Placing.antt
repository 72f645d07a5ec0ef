-- The positions of a chunk: which of them are bounced, and where.
use Rattle.std.proofs.Common.{◌≡◌, ◌≢◌, ℕ, zero, suc, ◌+◌, ◌-◌, ◌*◌, ◌/◌, ◌%◌, ◌≤◌, ◌==◌, Bool, true, false, List, []}
use Rattle.std.proofs.Common.{◌∷◌, ◌++◌, length, map, take, drop, refl, ap, sym, ◌∙◌, arith, length-append}
use Rattle.std.proofs.Common.{subst}
use Rattle.std.specs.Prelude.{not, Option, Some, None, unwrap_or}
use Rattle.std.specs.List.{AllByRecursion, filter}
use Rattle.std.proofs.lemmas.Bool.{eq-eqb, ne_eqb, false≢true}
use Rattle.busdma_machine.specs.declared.machine.address.Extent.{Extent}
use Rattle.busdma_machine.specs.declared.machine.address.Pa.{Pa}
use Rattle.busdma_machine.specs.declared.machine.chunk.Chunk.{Chunk}
use Rattle.busdma_machine.specs.Machine.Wire.{Placed, Wire, buffers, buses, is_bounced, stretch}
use Rattle.busdma_machine.specs.Runs.{IsExtent, addresses, byte_count, run_of}
use Rattle.phys_memory.specs.Extents.{LiesInFrames}
use Rattle.phys_memory.specs.Frames.{Lie}
use Rattle.phys_memory.specs.Memory.{FrameMemory, memory_has_frame}
use Rattle.busdma_rules.specs.Segments.Trace.{bus_addresses, bus_extent, bus_from, chunk_extents, chunk_len}
use Rattle.map_sync.specs.Copying.{part}
use Rattle.map_sync.specs.Held.{IsPageHeld}
use Rattle.map_sync.specs.Ranges.{chunk_range}
use Rattle.busdma_rules.specs.Syncs.Positions.{placed_at, positions_of}
use Rattle.busdma_rules.proofs.Segments.Counting.{addresses_length}
use Rattle.busdma_rules.proofs.Segments.Places.{run_length}
use Rattle.phys_memory.proofs.RunParts.{all_append, all_drop, all_imply, all_take, run_in_frame}

-- what holds of each address, or position, holds of each of a part
pub all_part : (P : ℕ → Type 0) (from to : ℕ) (xs : List ℕ) → AllByRecursion P xs → AllByRecursion P (part from to xs)
all_part P from to xs h = all_take P (to - from) (drop from xs) (all_drop P from xs h)

all_stretch : (P : Placed → Type 0) (off n : ℕ) (ps : List Placed) →
    AllByRecursion P ps → AllByRecursion P (stretch off n ps)
all_stretch P off n ps h = all_take P n (drop off ps) (all_drop P off ps h)

-- ---- a filter that all or none pass
pub filter_all : (ps : List Placed) → AllByRecursion (λ p. is_bounced p ≡ true) ps → filter is_bounced ps ≡ ps
filter_all [] h = refl
filter_all (p ∷ ps) h = rw h.0 (ap (λ xs. p ∷ xs) (filter_all ps h.1))

pub filter_none : (ps : List Placed) → AllByRecursion (λ p. is_bounced p ≡ false) ps → filter is_bounced ps ≡ []
filter_none [] h = refl
filter_none (p ∷ ps) h = rw h.0 (filter_none ps h.1)

-- ---- places and their addresses
buffers_of : (xs ys : List ℕ) → length xs ≡ length ys → buffers (placed_at xs ys) ≡ xs
buffers_of [] ys h = refl
buffers_of (x ∷ xs) [] h = absurd (omega arith)
buffers_of (x ∷ xs) (y ∷ ys) h = ap (λ zs. x ∷ zs) (buffers_of xs ys (omega arith))

buses_of : (xs ys : List ℕ) → length xs ≡ length ys → buses (placed_at xs ys) ≡ ys
buses_of [] [] h = refl
buses_of [] (y ∷ ys) h = absurd (omega arith)
buses_of (x ∷ xs) [] h = absurd (omega arith)
buses_of (x ∷ xs) (y ∷ ys) h = ap (λ zs. y ∷ zs) (buses_of xs ys (omega arith))

map_drop : (f : Placed → ℕ) (n : ℕ) (ps : List Placed) → map f (drop n ps) ≡ drop n (map f ps)
map_drop f zero ps = refl
map_drop f (suc n) [] = refl
map_drop f (suc n) (p ∷ ps) = map_drop f n ps

map_take : (f : Placed → ℕ) (n : ℕ) (ps : List Placed) → map f (take n ps) ≡ take n (map f ps)
map_take f zero ps = refl
map_take f (suc n) [] = refl
map_take f (suc n) (p ∷ ps) = ap (λ xs. f p ∷ xs) (map_take f n ps)

map_stretch : (f : Placed → ℕ) (from to : ℕ) (ps : List Placed) →
    map f (stretch from (to - from) ps) ≡ part from to (map f ps)
map_stretch f from to ps = map_take f (to - from) (drop from ps) ∙ ap (take (to - from)) (map_drop f from ps)

-- as many bus addresses as bytes
as_many : (c : Chunk) (o : Option Pa) → length (addresses (chunk_extents c)) ≡ length (bus_from o c)
as_many c None = refl
as_many c (Some bus) = addresses_length (chunk_extents c) ∙ sym (run_length bus.0 (chunk_len c))

-- the addresses of a chunk in a range
pub range_buffers : (off len : ℕ) (c : Chunk) →
    buffers (chunk_range off len c) ≡ part (off - c.at) (off + len - c.at) (addresses (chunk_extents c))
range_buffers off len c =
    map_stretch (λ p. p.pa) (off - c.at) (off + len - c.at) (positions_of c)
    ∙ ap (part (off - c.at) (off + len - c.at)) (buffers_of _ _ (as_many c c.page))

pub range_buses : (off len : ℕ) (c : Chunk) →
    buses (chunk_range off len c) ≡ part (off - c.at) (off + len - c.at) (bus_addresses c)
range_buses off len c =
    map_stretch (λ p. p.bus) (off - c.at) (off + len - c.at) (positions_of c)
    ∙ ap (part (off - c.at) (off + len - c.at)) (buses_of _ _ (as_many c c.page))

-- ---- which positions are bounced
all_bounced : (m : FrameMemory) (f : ℕ) → memory_has_frame m f ≡ false → (xs ys : List ℕ) →
    AllByRecursion (λ a. memory_has_frame m (a / 4096) ≡ true) xs → AllByRecursion (λ b. b / 4096 ≡ f) ys →
    AllByRecursion (λ p. is_bounced p ≡ true) (placed_at xs ys)
all_bounced m f away [] ys h k = tt
all_bounced m f away (x ∷ xs) [] h k = tt
all_bounced m f away (x ∷ xs) (y ∷ ys) h k = (
  ap not (ne_eqb y x (λ e. false≢true (sym away ∙ (ap (memory_has_frame m) (sym k.0 ∙ ap (λ b. b / 4096) e) ∙ h.0)))),
  all_bounced m f away xs ys h.1 k.1,
)

none_bounced : (xs : List ℕ) → AllByRecursion (λ p. is_bounced p ≡ false) (placed_at xs xs)
none_bounced [] = tt
none_bounced (x ∷ xs) = (ap not (eq-eqb x x refl), none_bounced xs)

-- the bytes of extents lie in frames of the memory
pub in_frames : (m : FrameMemory) (es : List Extent) → AllByRecursion IsExtent es → AllByRecursion (LiesInFrames m) es →
    AllByRecursion (λ a. memory_has_frame m (a / 4096) ≡ true) (addresses es)
in_frames m [] h k = tt
in_frames m (e ∷ es) h k =
    let here = run_in_frame e.len e.pa.0 (e.pa.0 / 4096) (omega arith) (omega (arith, h.0.in_frame)) in
    all_append _ (run_of e.pa.0 e.len) (addresses es)
    (all_imply _ _ (λ b q. ap (memory_has_frame m) q ∙ k.0) (run_of e.pa.0 e.len) here) (in_frames m es h.1 k.1)

-- the bus bytes of a chunk lie in the frame of its page
pub bus_frame : (m : FrameMemory) (c : Chunk) (bus : Pa) (f : ℕ) → c.page ≡ Some bus → IsPageHeld m c f →
    AllByRecursion (λ b. b / 4096 ≡ f) (bus_addresses c)
bus_frame m c bus f e h =
    subst (λ (o : Option Pa). AllByRecursion (λ b. b / 4096 ≡ f) (bus_from o c)) (sym e)
    (by (ap (λ (o : Option Pa). unwrap_or o c.first.pa) e) h.bus.in_frame h.page)
  where
    by : (bus_extent c).pa ≡ bus → (bus_extent c).pa.0 % 4096 + chunk_len c ≤ 4096 → (bus_extent c).pa.0 / 4096 ≡ f →
        AllByRecursion (λ b. b / 4096 ≡ f) (run_of bus.0 (chunk_len c))
    by q fits at =
        let same : (bus_extent c).pa.0 ≡ bus.0 = ap (λ (p : Pa). p.0) q in
        run_in_frame (chunk_len c) bus.0 f (omega (arith, same)) (omega (arith, same))

-- each position of a chunk that has a page is bounced, and none of another chunk
pub bounced_range : (m : FrameMemory) (off len : ℕ) (c : Chunk) (bus : Pa) (f : ℕ) → c.page ≡ Some bus →
    IsPageHeld m c f →
    memory_has_frame m f ≡ false → filter is_bounced (chunk_range off len c) ≡ chunk_range off len c
bounced_range m off len c bus f e h away =
    filter_all (chunk_range off len c) (all_stretch _ (off - c.at) _ (positions_of c)
    (all_bounced m f away _ _ (in_frames m (chunk_extents c) h.buffer.extents h.buffer.frames)
    (bus_frame m c bus f e h)))

pub unbounced_range : (off len : ℕ) (c : Chunk) → c.page ≡ None → filter is_bounced (chunk_range off len c) ≡ []
unbounced_range off len c e =
    filter_none (chunk_range off len c) (all_stretch _ (off - c.at) _ (positions_of c)
    (subst (λ (o : Option Pa). AllByRecursion (λ p. is_bounced p ≡ false)
    (placed_at (addresses (chunk_extents c)) (bus_from o c))) (sym e)
    (none_bounced (addresses (chunk_extents c)))))
