-- The physical addresses of the bytes of bios.
use Rattle.std.specs.Prelude.{Bool, true, false}
use Rattle.busdma_machine.specs.declared.machine.bio.Bio.{Bio}
use Rattle.busdma_machine.specs.declared.machine.bio.Bio.TheVariants.{Mapped, Vector, Unmapped}
use Rattle.busdma_rules.specs.Memory.Translation.{Translation}
use Rattle.busdma_rules.specs.Memory.BioFrames.{in_frames}

-- the translation for the spans of a bio: the driver's, or the places in its own frames if the bio is not mapped
abbrev pub bio_translation : Translation → Bio → Translation
bio_translation t (Mapped span) = t
bio_translation t (Vector spans) = t
bio_translation t (Unmapped frames off len) = in_frames frames

-- the entries of a bio are rounded, unless the bio is unmapped
abbrev pub is_rounded : Bio → Bool
is_rounded (Mapped span) = true
is_rounded (Vector spans) = true
is_rounded (Unmapped frames off len) = false
