-- What is known of the bio of a load of the script.
use Rattle.std.proofs.Common.{◌≡◌, ℕ, zero, suc, ◌+◌, ◌<◌, ◌≤◌, ◌^◌, Bool, true, false, ◌&&◌, ◌||◌, nat_le, nat_lt}
use Rattle.std.proofs.Common.{List, [], ◌∷◌, Option, Some, None, slice_get, unwrap_or, refl, sym, ap, ◌∙◌, subst, arith}
use Rattle.std.proofs.lemmas.Bool.Decides.{nat_tests}
use Rattle.std.specs.List.{AllByRecursion}
use Rattle.std.specs.Option.{option_map}
use Rattle.busdma_machine.specs.declared.machine.bio.Bio.{Bio}
use Rattle.busdma_machine.specs.declared.machine.bio.Bio.TheVariants.{Mapped, Unmapped, Vector}
use Rattle.busdma_base.specs.declared.scenarios.buffer.Buffer.{Buffer}
use Rattle.busdma_base.specs.declared.scenarios.buffer.Buffer.TheVariants as buffer
use Rattle.busdma_base.specs.declared.scenarios.scenario.PageRun.{PageRun}
use Rattle.busdma_base.specs.declared.scenarios.script.Item.{Item}
use Rattle.busdma_base.specs.declared.scenarios.script.Op.TheVariants.{Load}
use Rattle.busdma_base.specs.Scenarios.PageRuns.{has_frame}
use Rattle.busdma_base.specs.Scenarios.Buffers.{IsBioOf, IsBufferOf, buffer_bytes}
use Rattle.busdma_base.specs.Scenarios.Limits.{buffer_limit}
use Rattle.busdma_base.specs.Scenarios.Valid.{LoadsFrom}
use Rattle.load_bio.specs.Bio.{IsBio}
use Rattle.busdma_rules.specs.Memory.BioFrames.{AreFrames}
use Rattle.phys_memory.proofs.Loads.{one_bytes}
use Rattle.ideal_lane.specs.Places.{virtual_at}
use Rattle.ideal_lane.specs.State.{LaneState}
use Rattle.ideal_lane.specs.Turns.{bio_at, flat_bio}
use Rattle.ideal_wire.specs.Machine.{IsInMachine, IsOfMachine}
use Rattle.lane_state.specs.declared.holdings.Holdings.{Holdings}
use Rattle.lane_state.specs.SmallLoads.{HasSmallLoads, loaded_once}
use Rattle.lane_state.specs.Ideal.{ideal_of}
use Rattle.lane_state.specs.Loading.{IsLoadable, bio_bytes}

-- the bio of an option, or one of no byte
bio_in : Option Bio → Bio
bio_in o = unwrap_or o (Vector [])

-- a bio has the bytes of its buffer
pub bytes-is : (l : LaneState) (x : Buffer) (b : Bio) → bio_at l x ≡ Some b → bio_bytes b ≡ buffer_bytes x
unfolding bio_in
bytes-is l (buffer.Flat place len) b e = by (virtual_at l place) e
  where
    by : (o : Option ℕ) → option_map (flat_bio len) o ≡ Some b → bio_bytes b ≡ len
    by None f = absurd (cc)
    by (Some va) f = sym (ap (λ q. bio_bytes (bio_in q)) f) ∙ one_bytes va len
bytes-is l (buffer.Vector spans) b e = sym (ap (λ o. bio_bytes (bio_in o)) e)
bytes-is l (buffer.Mbuf chain) b e = sym (ap (λ o. bio_bytes (bio_in o)) e)
bytes-is l (buffer.Bio c) b e = sym (ap (λ o. bio_bytes (bio_in o)) e)
bytes-is l (buffer.Send chain clusters) b e = sym (ap (λ o. bio_bytes (bio_in o)) e)

-- a bio has the frames of its buffer
own-is : (pages : List PageRun) (l : LaneState) (x : Buffer) (b : Bio) → bio_at l x ≡ Some b →
    IsBufferOf pages x → IsBioOf pages b
unfolding bio_in
own-is pages l (buffer.Flat place len) b e h = by (virtual_at l place) e
  where
    by : (o : Option ℕ) → option_map (flat_bio len) o ≡ Some b → IsBioOf pages b
    by None f = absurd (cc)
    by (Some va) f = subst (IsBioOf pages) (ap bio_in f) tt
own-is pages l (buffer.Vector spans) b e h = subst (IsBioOf pages) (ap bio_in e) tt
own-is pages l (buffer.Mbuf chain) b e h = subst (IsBioOf pages) (ap bio_in e) tt
own-is pages l (buffer.Bio c) b e h = subst (IsBioOf pages) (ap bio_in e) h
own-is pages l (buffer.Send chain clusters) b e h = subst (IsBioOf pages) (ap bio_in e) tt

-- what is true of all is true of each
all-at : {X : Type 0} (P : X → Type 0) (xs : List X) (p : ℕ) (x : X) → AllByRecursion P xs →
    slice_get xs p ≡ Some x → P x
all-at P [] p x all e = absurd (cc)
all-at P (y ∷ ys) zero x all e = let same : y ≡ x = cc in subst P same all.0
all-at P (y ∷ ys) (suc p) x all e = all-at P ys p x all.1 e

-- the frames of pages have numbers below 2^30
frame-number : (maxmem : ℕ) (runs : List PageRun) (f : ℕ) → maxmem ≤ 2 ^ 30 →
    AllByRecursion (IsOfMachine maxmem) runs → has_frame runs f ≡ true → f < 2 ^ 30
frame-number maxmem [] f low are h = absurd (cc)
frame-number maxmem (run ∷ runs) f low are h =
    by (nat_le run.frame f && nat_lt f (run.frame + run.count)) refl (λ k. frame-number maxmem runs f low are.1 k) h
  where
    by : (b : Bool) → (nat_le run.frame f && nat_lt f (run.frame + run.count)) ≡ b →
        (has_frame runs f ≡ true → f < 2 ^ 30) → (b || has_frame runs f) ≡ true → f < 2 ^ 30
    by true e others k =
        let below = are.0.below in
        let inside : f < run.frame + run.count = grind (arith, nat_tests, e) in
        omega (arith, below, inside, low)
    by false e others k = others k

frames-numbered : (maxmem : ℕ) (runs : List PageRun) (fs : List ℕ) → maxmem ≤ 2 ^ 30 →
    AllByRecursion (IsOfMachine maxmem) runs → AllByRecursion (λ frame. has_frame runs frame ≡ true) fs → AreFrames fs
frames-numbered maxmem runs [] low are own = tt
frames-numbered maxmem runs (f ∷ fs) low are own =
    (frame-number maxmem runs f low are own.0, frames-numbered maxmem runs fs low are own.1)

is-bio : (maxmem : ℕ) (runs : List PageRun) (b : Bio) → maxmem ≤ 2 ^ 30 → AllByRecursion (IsOfMachine maxmem) runs →
    IsBioOf runs b → IsBio b
is-bio maxmem runs (Mapped span) low are own = tt
is-bio maxmem runs (Vector spans) low are own = tt
is-bio maxmem runs (Unmapped frames off len) low are own = (own.0, frames-numbered maxmem runs frames low are own.1)

-- a load of the script can be loaded
pub loadable-at : (h : Holdings) (p m : ℕ) (x : Buffer) (flags : ℕ) (items : List Item) (b : Bio) →
    slice_get h.script p ≡ Some (Load m x flags items) → bio_at (ideal_of h) x ≡ Some b →
    IsInMachine (ideal_of h) → HasSmallLoads h → IsLoadable h.pages.now b
loadable-at h p m x flags items b here named machine small =
    let few : loaded_once (Load m x flags items) ≤ buffer_limit = small.each p _ here in
    let bytes = bytes-is (ideal_of h) x b named in
    let from : LoadsFrom h.pages.now (Load m x flags items) =
    all-at (LoadsFrom h.pages.now) h.script p (Load m x flags items) machine.bios here in
    let own = own-is h.pages.now (ideal_of h) x b named from in
    record {
      small = omega (arith, few, bytes);
      bio = is-bio h.maxmem h.pages.now b machine.numbered machine.pages own;
      own = own;
    }
