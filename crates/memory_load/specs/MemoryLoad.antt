-- The load of a memory: its bytes are one run of physical addresses, in frames that follow one another.
use Rattle.std.specs.Prelude.{ℕ, Bool, true, List, []}
use Rattle.busdma_machine.specs.declared.machine.address.Segment.{Segment}
use Rattle.busdma_machine.specs.declared.machine.chunk.Chunk.{Chunk}
use Rattle.busdma_machine.specs.declared.machine.chunk.Entry.{Entry}
use Rattle.busdma_machine.specs.declared.machine.chunk.Part.{Part}
use Rattle.busdma_machine.specs.declared.tags.tag.TagLimits.{TagLimits}
use Rattle.busdma_machine.specs.Machine.Entry.{extent_parts}
use Rattle.busdma_machine.specs.Runs.{run_of}
use Rattle.busdma_rules.specs.Memory.Extents.{extents_of}
use Rattle.busdma_rules.specs.Memory.Vectors.{with_entry}
use Rattle.busdma_rules.specs.Segments.Building.{placed_pieces}
use Rattle.busdma_rules.specs.Segments.Chunks.{chunks_of}
use Rattle.busdma_rules.specs.Segments.Segmentation.{segmentation}

-- the entries of the `len` bytes from a physical address on: one that is rounded, or none if there is no byte
abbrev pub run_entries : ℕ → ℕ → List Entry
run_entries first len = with_entry true (run_of first len) []

-- the same limits without an alignment
abbrev pub unaligned : TagLimits → TagLimits
unaligned t = record t { alignment = 1 }

-- the chunks of a memory's load, of which none bounces: they are cut by limits without alignment, on a machine without
-- frames above lowaddr
abbrev pub run_chunks : TagLimits → ℕ → ℕ → List Chunk
run_chunks t first len = chunks_of (unaligned t) 0 (run_entries first len)

-- the pieces of a memory's load, by the tag's own limits
abbrev pub memory_pieces : TagLimits → ℕ → ℕ → List Segment
memory_pieces t first len = placed_pieces t (run_chunks t first len) []

-- the segments of a memory's load
abbrev pub run_segments : TagLimits → ℕ → ℕ → List Segment
run_segments t first len = segmentation t (memory_pieces t first len)

-- What the private steps of the code do; no public clause cites it: the parts of the `len` bytes from a physical
-- address on, of which the first opens an entry or does not
abbrev pub run_parts : Bool → ℕ → ℕ → List Part
run_parts opens first len = extent_parts opens true (extents_of (run_of first len))
