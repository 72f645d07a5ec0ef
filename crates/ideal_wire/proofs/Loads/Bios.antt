-- Where the bytes of a load lie: in the driver's own memory, page by page.
use Rattle.std.proofs.Common.{◌≡◌, ℕ, ◌+◌, ◌*◌, ◌/◌, ◌%◌, ◌^◌, ◌<◌, ◌≤◌, ◌&&◌, ◌||◌, Bool, true, false, List, [], ◌∷◌}
use Rattle.std.proofs.Common.{Option, Some, None, slice_get, refl, ap, subst, arith, nat_le, nat_lt}
use Rattle.std.proofs.lemmas.Bool.{and_parts, leb-true, ltb-true, le-leb, lt-ltb}
use Rattle.std.specs.List.{AllByRecursion}
use Rattle.busdma_machine.specs.declared.machine.bio.Bio.{Bio}
use Rattle.busdma_machine.specs.declared.machine.bio.Bio.TheVariants.{Mapped, Vector, Unmapped}
use Rattle.busdma_base.specs.declared.scenarios.scenario.PageRun.{PageRun}
use Rattle.busdma_base.specs.Scenarios.PageRuns.{has_frame, is_own, physical_in}
use Rattle.busdma_machine.specs.Machine.Spans.{bio_spans, span_addresses}
use Rattle.busdma_base.specs.Scenarios.Buffers.{IsBioOf}
use Rattle.busdma_rules.specs.Memory.Bios.{bio_translation}
use Rattle.busdma_rules.specs.Memory.BioFrames.{AreFrames, byte_of, in_frames}
use Rattle.busdma_rules.proofs.Memory.InFrames.{frames_paged}
use Rattle.busdma_rules.specs.Memory.Translation.{Translation}
use Rattle.busdma_rules.proofs.Memory.Paged.{IsPaged}
use Rattle.ideal_lane.specs.Loads.{load_translation}
use Rattle.ideal_lane.specs.Places.{or_in_memory}
use Rattle.ideal_lane.specs.State.{LaneState}
use Rattle.ideal_wire.specs.Laid.{IsOwnByte, OfPages, AreLaid}
use Rattle.ideal_wire.specs.Machine.{IsOfMachine, IsInMachine}
use Rattle.ideal_wire.proofs.Loads.Buffers.{all-at}
use Rattle.ideal_wire.proofs.Faithful.PlacedLoads.{reached-own, reaches}
use Rattle.ideal_wire.proofs.Laid.Positions.{found_one}
use Rattle.ideal_wire.proofs.Loads.Reaching.{paged}

-- ---- frames of pages

or-right : (b c : Bool) → c ≡ true → (b || c) ≡ true
or-right true c h = refl
or-right false c h = h

-- each byte of a frame of pages is a byte of these pages
frame-own : (runs : List PageRun) (f i : ℕ) → i < 4096 → has_frame runs f ≡ true → is_own runs (4096 * f + i) ≡ true
frame-own [] f i small h = absurd (cc)
frame-own (r ∷ runs) f i small h = by within refl (frame-own runs f i small) h
  where
    a : ℕ
    a = 4096 * f + i

    within : Bool
    within = nat_le r.frame f && nat_lt f (r.frame + r.count)

    here : Bool
    here = nat_le (4096 * r.frame) a && nat_lt a (4096 * (r.frame + r.count))

    by : (b : Bool) → within ≡ b → (has_frame runs f ≡ true → is_own runs a ≡ true) →
        (b || has_frame runs f) ≡ true → (here || is_own runs a) ≡ true
    by true e rest g =
        let parts = and_parts (nat_le r.frame f) (nat_lt f (r.frame + r.count)) e in
        let low : r.frame ≤ f = leb-true r.frame f parts.0 in
        let high : f < r.frame + r.count = ltb-true f (r.frame + r.count) parts.1 in
        let begin : nat_le (4096 * r.frame) a ≡ true = le-leb (4096 * r.frame) a (omega (arith, low)) in
        let end : nat_lt a (4096 * (r.frame + r.count)) ≡ true =
        lt-ltb a (4096 * (r.frame + r.count)) (omega (arith, high, small)) in
        λ i. (begin i && end i) || is_own runs a
    by false e rest g = or-right here (is_own runs a) (rest g)

-- a frame of pages is below the end of memory
frame-below : (maxmem : ℕ) (runs : List PageRun) (f : ℕ) → AllByRecursion (IsOfMachine maxmem) runs →
    has_frame runs f ≡ true → f < maxmem
frame-below maxmem [] f all h = absurd (cc)
frame-below maxmem (r ∷ runs) f all h = by within refl (frame-below maxmem runs f all.1) h
  where
    within : Bool
    within = nat_le r.frame f && nat_lt f (r.frame + r.count)

    by : (b : Bool) → within ≡ b → (has_frame runs f ≡ true → f < maxmem) →
        (b || has_frame runs f) ≡ true → f < maxmem
    by true e rest g =
        let high : f < r.frame + r.count =
        ltb-true f (r.frame + r.count) (and_parts (nat_le r.frame f) (nat_lt f (r.frame + r.count)) e).1 in
        let below : r.frame + r.count ≤ maxmem = all.0.below in
        omega (arith, high, below)
    by false e rest g = rest g

are-frames : (maxmem : ℕ) (runs : List PageRun) (frames : List ℕ) → maxmem ≤ 2 ^ 30 →
    AllByRecursion (IsOfMachine maxmem) runs → AllByRecursion (λ f. has_frame runs f ≡ true) frames → AreFrames frames
are-frames maxmem runs [] low all h = tt
are-frames maxmem runs (f ∷ frames) low all h =
    (omega (arith, low, frame-below maxmem runs f all h.0), are-frames maxmem runs frames low all h.1)

frames-own : (runs : List PageRun) (frames : List ℕ) (k p : ℕ) → AllByRecursion (λ f. has_frame runs f ≡ true) frames →
    in_frames frames k ≡ Some p → is_own runs p ≡ true
frames-own runs frames k p all h = by (slice_get frames (k / 4096)) refl h
  where
    by : (o : Option ℕ) → slice_get frames (k / 4096) ≡ o → byte_of o (k % 4096) ≡ Some p → is_own runs p ≡ true
    by None e g = absurd (cc)
    by (Some f) e g =
        subst (λ a. is_own runs a ≡ true)
        (found_one (Some (4096 * f + k % 4096)) (4096 * f + k % 4096) p refl g)
        (frame-own runs f (k % 4096) (omega arith)
        (all-at (λ x. has_frame runs x ≡ true) frames (k / 4096) f all e))

-- ---- bios

-- the bytes of a bio by their virtual addresses, or by their places in its frames
abbrev pub bio_places : Bio → List ℕ
bio_places b = span_addresses (bio_spans b)

-- each byte of a bio is the driver's own
pub bio-own : (l : LaneState) → AreLaid l → (b : Bio) → IsBioOf l.pages b → (va p : ℕ) →
    load_translation l b va ≡ Some p → IsOwnByte l p
bio-own l laid (Mapped span) named va p h = reaches l laid va p h
bio-own l laid (Vector spans) named va p h = reaches l laid va p h
bio-own l laid (Unmapped frames off len) named va p h = OfPages (frames-own l.pages frames va p named.1 h)

-- the bytes of a bio keep pages
pub bio-paged : (l : LaneState) → AreLaid l → IsInMachine l → (b : Bio) → IsBioOf l.pages b →
    IsPaged (λ p. Unit {0}) (load_translation l b)
bio-paged l laid machine (Mapped span) named = paged l laid machine
bio-paged l laid machine (Vector spans) named = paged l laid machine
bio-paged l laid machine (Unmapped frames off len) named =
    let is = frames_paged frames (are-frames l.maxmem l.pages frames machine.numbered machine.pages named.1) in
    record { places = is.places; next = is.next; low = is.low; has = λ va p h. tt }

-- ---- bytes of the driver's pages

-- the addresses of the bytes of a bio, by the driver's pages only
abbrev pub pages_translation : LaneState → Bio → Translation
pages_translation l b = bio_translation (physical_in l.pages) b

-- a byte is one of the driver's pages
abbrev pub IsOfPages : LaneState → Bio → ℕ → Type 0
IsOfPages l b va = (p : ℕ) × (pages_translation l b va ≡ Some p)

-- each byte of a bio is of the driver's pages
abbrev pub AreOfPages : LaneState → Bio → Type 0
AreOfPages l b = AllByRecursion (IsOfPages l b) (bio_places b)

-- what the driver reaches of its pages, it reaches with and without its memories
pub with-pages : (l : LaneState) (b : Bio) (va p : ℕ) → pages_translation l b va ≡ Some p →
    load_translation l b va ≡ Some p
with-pages l (Mapped span) va p e = ap (or_in_memory l va) e
with-pages l (Vector spans) va p e = ap (or_in_memory l va) e
with-pages l (Unmapped frames off len) va p e = e

pub pages-own : (l : LaneState) (b : Bio) → IsBioOf l.pages b → (va p : ℕ) → pages_translation l b va ≡ Some p →
    is_own l.pages p ≡ true
pages-own l (Mapped span) named va p e = reached-own l.pages va p e
pages-own l (Vector spans) named va p e = reached-own l.pages va p e
pages-own l (Unmapped frames off len) named va p e = frames-own l.pages frames va p named.1 e
