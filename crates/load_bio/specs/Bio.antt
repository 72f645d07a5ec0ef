-- The bytes of bios, and the walks over them.
use Rattle.std.specs.Prelude.{◌<◌, List}
use Rattle.busdma_machine.specs.declared.machine.address.Extent.{Extent}
use Rattle.busdma_machine.specs.declared.machine.bio.Bio.{Bio}
use Rattle.busdma_machine.specs.declared.machine.bio.Bio.TheVariants.{Mapped, Vector, Unmapped}
use Rattle.busdma_machine.specs.declared.machine.chunk.Part.{Part}
use Rattle.phys_memory.specs.declared.entries.Entries.{Entries}
use Rattle.phys_memory.specs.Extents.{LiesInFrames}
use Rattle.phys_memory.specs.Memory.{FrameMemory}
use Rattle.busdma_rules.specs.Memory.Translation.{Translation}
use Rattle.busdma_machine.specs.Machine.Spans.{bio_spans}
use Rattle.phys_memory.specs.VectorStreams.{spans_stream, spans_walk}
use Rattle.busdma_rules.specs.Memory.BioFrames.{AreFrames}
use Rattle.load_bio.specs.Frames.{LiesInOneOf}
use Rattle.busdma_rules.specs.Memory.Bios.{bio_translation, is_rounded}

-- a bio that is not mapped begins in its first frame, and its frames have numbers below 2^30
abbrev pub IsBio : Bio → Type 0
IsBio (Mapped span) = Unit {0}
IsBio (Vector spans) = Unit {0}
IsBio (Unmapped frames off len) = (off < 4096) × AreFrames frames

-- an extent lies in a frame of the driver's memory, or for an unmapped bio in one of the bio's frames
abbrev pub LiesInBio : FrameMemory → Bio → Extent → Type 0
LiesInBio m (Mapped span) e = LiesInFrames m e
LiesInBio m (Vector spans) e = LiesInFrames m e
LiesInBio m (Unmapped frames off len) e = LiesInOneOf frames e

-- the walk over a driver's bio with this translation
abbrev pub bio_walk : Translation → Bio → Entries
bio_walk t bio = spans_walk (is_rounded bio) (bio_translation t bio) (bio_spans bio)

-- the stream of a driver's bio with this translation
abbrev pub bio_stream : Translation → Bio → List Part
bio_stream t bio = spans_stream (is_rounded bio) (bio_translation t bio) (bio_spans bio)
