-- A chunk with one extent, which the laws of chunks cite.
use Rattle.std.specs.Prelude.{ℕ, None}
use Rattle.busdma_machine.specs.declared.machine.chunk.Chunk.{Chunk}
use Rattle.busdma_machine.specs.declared.tags.tag.TagLimits.{TagLimits}
use Rattle.busdma_machine.specs.Tags.Tag.{needs_bounce}

-- the chunk of the n bytes from a physical address on, in one extent
abbrev pub begun_chunk : TagLimits → ℕ → ℕ → ℕ → ℕ → Chunk
begun_chunk t maxmem at a n = record {
  at = at;
  first = record { pa = record { 0 = a }; len = n };
  rest = None;
  bounced = needs_bounce t maxmem a;
  page = None;
}
