-- The bytes of frames, one frame after the other.
use Rattle.std.specs.Prelude.{ℕ, ◌+◌, ◌*◌, ◌/◌, ◌%◌, ◌^◌, ◌<◌, List, Option, Some, None, slice_get}
use Rattle.std.specs.List.{AllByRecursion}
use Rattle.busdma_rules.specs.Memory.Translation.{Translation}

-- the physical address of a byte of a frame, if there is a frame
abbrev pub byte_of : Option ℕ → ℕ → Option ℕ
byte_of None at = None
byte_of (Some frame) at = Some (4096 * frame + at)

-- the physical address of each byte of a list of frames, by the byte's place in them; there is none past the last frame
abbrev pub in_frames : List ℕ → Translation
in_frames frames k = byte_of (slice_get frames (k / 4096)) (k % 4096)

-- all frames have numbers below 2^30
abbrev pub AreFrames : List ℕ → Type 0
AreFrames frames = AllByRecursion (λ frame. frame < 2 ^ 30) frames
