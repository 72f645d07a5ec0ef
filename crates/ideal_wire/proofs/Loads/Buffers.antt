-- The bio of a buffer, and what an operation asks that loads one.
use Rattle.std.proofs.Common.{◌≡◌, ℕ, zero, suc, List, [], ◌∷◌, Option, Some, None, slice_get, refl, subst}
use Rattle.std.specs.List.{AllByRecursion}
use Rattle.std.specs.Option.{option_map}
use Rattle.busdma_machine.specs.declared.machine.bio.Bio.{Bio}
use Rattle.busdma_machine.specs.declared.machine.bio.Bio.TheVariants as bio
use Rattle.busdma_base.specs.declared.scenarios.buffer.Buffer.{Buffer}
use Rattle.busdma_base.specs.declared.scenarios.buffer.Buffer.TheVariants as buffer
use Rattle.busdma_base.specs.declared.scenarios.scenario.PageRun.{PageRun}
use Rattle.busdma_base.specs.declared.scenarios.script.Item.{Item}
use Rattle.busdma_base.specs.declared.scenarios.script.Op.{Op}
use Rattle.busdma_base.specs.declared.scenarios.script.Op.TheVariants as op
use Rattle.busdma_base.specs.declared.scenarios.script.Place.TheVariants.{At, In}
use Rattle.busdma_base.specs.Scenarios.Buffers.{IsBioOf, IsBufferOf}
use Rattle.busdma_base.specs.Scenarios.Valid.{LoadsFrom}
use Rattle.ideal_lane.specs.Places.{virtual_at}
use Rattle.ideal_lane.specs.State.{LaneState}
use Rattle.ideal_lane.specs.Turns.{bio_at, flat_bio}
use Rattle.ideal_wire.proofs.Laid.Positions.{found_one}

-- what holds of each thing holds of that at a place
pub all-at : {X : Type 0} (P : X → Type 0) (xs : List X) (k : ℕ) (x : X) → AllByRecursion P xs →
    slice_get xs k ≡ Some x → P x
all-at P [] k x h e = absurd (cc)
all-at P (y ∷ xs) zero x h e = subst P (found_one (Some y) y x refl e) h.0
all-at P (y ∷ xs) (suc k) x h e = all-at P xs k x h.1 e

-- the bio of a buffer is of frames of the pages of which the buffer is
pub bio-named : (pages : List PageRun) (l : LaneState) (x : Buffer) (b : Bio) → bio_at l x ≡ Some b →
    IsBufferOf pages x → IsBioOf pages b
bio-named pages l (buffer.Flat place len) b e h = by (virtual_at l place) e
  where
    by : (o : Option ℕ) → option_map (flat_bio len) o ≡ Some b → IsBioOf pages b
    by None g = absurd (cc)
    by (Some va) g = subst (IsBioOf pages) (found_one (Some (flat_bio len va)) (flat_bio len va) b refl g) tt
bio-named pages l (buffer.Vector spans) b e h =
    subst (IsBioOf pages) (found_one (Some (bio.Vector spans)) (bio.Vector spans) b refl e) tt
bio-named pages l (buffer.Mbuf chain) b e h =
    subst (IsBioOf pages) (found_one (Some (bio.Vector chain)) (bio.Vector chain) b refl e) tt
bio-named pages l (buffer.Send chain clusters) b e h =
    subst (IsBioOf pages) (found_one (Some (bio.Vector chain)) (bio.Vector chain) b refl e) tt
bio-named pages l (buffer.Bio c) b e h = subst (IsBioOf pages) (found_one (Some c) c b refl e) h

-- a buffer is a range of a memory, or has the same bio in each state of the driver
pub data Told (x : Buffer) : Type 0 where
  Within : (mem off len : ℕ) → x ≡ buffer.Flat (In mem off) len → Told x
  Alone : (b : Bio) → ((l : LaneState) → bio_at l x ≡ Some b) → Told x

pub told : (x : Buffer) → Told x
told (buffer.Flat (At va) len) = Alone (flat_bio len va.0) (λ l. refl)
told (buffer.Flat (In mem off) len) = Within mem off len refl
told (buffer.Vector spans) = Alone (bio.Vector spans) (λ l. refl)
told (buffer.Mbuf chain) = Alone (bio.Vector chain) (λ l. refl)
told (buffer.Bio b) = Alone b (λ l. refl)
told (buffer.Send chain clusters) = Alone (bio.Vector chain) (λ l. refl)

-- the load at a place of the script has a bio of frames of these pages
pub loads-from : (pages : List PageRun) (script : List Op) (k m : ℕ) (x : Buffer) (flags : ℕ) (items : List Item)
    (l : LaneState) (b : Bio) → AllByRecursion (LoadsFrom pages) script →
    slice_get script k ≡ Some (op.Load m x flags items) → bio_at l x ≡ Some b → IsBioOf pages b
loads-from pages script k m x flags items l b all e is =
    bio-named pages l x b is (all-at (LoadsFrom pages) script k (op.Load m x flags items) all e)
