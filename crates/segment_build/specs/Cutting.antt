-- How extents are cut into chunks one after the other: what the next extent may add to a chunk, step by step.
-- Only the private steps of the code use this, and no public clause cites it.
use Rattle.std.specs.Prelude.{ℕ, ◌+◌, ◌-◌, ◌==◌, Bool, false, nat_le, if◌then◌else◌, List, [], ◌∷◌, ◌++◌, Option, Some}
use Rattle.std.specs.Prelude.{None}
use Rattle.std.specs.Option.{option_to_list}
use Rattle.busdma_machine.specs.declared.machine.address.Extent.{Extent}
use Rattle.busdma_machine.specs.declared.machine.chunk.Chunk.{Chunk}
use Rattle.busdma_machine.specs.declared.machine.chunk.Part.{Part}
use Rattle.busdma_machine.specs.declared.machine.chunk.Part.TheVariants.{Of, Unmapped}
use Rattle.busdma_machine.specs.declared.tags.tag.TagLimits.{TagLimits}
use Rattle.segment_build.specs.declared.cutter.Cutter.{Cutter}
use Rattle.busdma_rules.specs.Segments.Chunks.{chunk_limit}
use Rattle.busdma_rules.specs.Segments.Begun.{begun_chunk}

-- the last chunk, if there is one, with n more bytes from an address on
abbrev pub with_rest : Option Chunk → ℕ → ℕ → Option Chunk
with_rest None a n = None
with_rest (Some c) a n =
    Some (if n == 0 then c else record c { rest = Some (record { pa = record { 0 = a }; len = n }) })

-- the cutter before the first extent
abbrev pub uncut : Cutter
uncut = record { last = None; owed = 0; rounded = false; at = 0 }

-- the cutter before an extent that may open an entry
abbrev pub opened : Bool → Bool → Cutter → Cutter
opened opens rounded s = if opens then record s { owed = 0; rounded = rounded } else s

-- the cutter after an extent all of whose bytes belong to the last chunk
abbrev pub continued : Cutter → Extent → Cutter
continued s e = record s { last = with_rest s.last e.pa.0 e.len; owed = s.owed - e.len; at = s.at + e.len }

-- the cutter after an extent of which the bytes after those of the last chunk begin a new chunk
abbrev pub begun : TagLimits → ℕ → Cutter → Extent → Cutter
begun t maxmem s e = record s {
  last = Some (begun_chunk t maxmem (s.at + s.owed) (e.pa.0 + s.owed) (e.len - s.owed));
  owed = chunk_limit t maxmem s.rounded (e.pa.0 + s.owed) - (e.len - s.owed);
  at = s.at + e.len;
}

-- the cutter after an extent
abbrev pub cut_by : TagLimits → ℕ → Cutter → Extent → Cutter
cut_by t maxmem s e = if nat_le e.len s.owed then continued s e else begun t maxmem s e

-- the chunk that an extent closes, if it closes one
abbrev pub closed_by : Cutter → Extent → Option Chunk
closed_by s e = if nat_le e.len s.owed then None else with_rest s.last e.pa.0 s.owed

-- the cutter after a part of a stream
abbrev pub after_part : TagLimits → ℕ → Cutter → Part → Cutter
after_part t maxmem s (Of e opens rounded) = cut_by t maxmem (opened opens rounded s) e
after_part t maxmem s (Unmapped n) = s

-- the chunk that a part of a stream closes, if it closes one
abbrev pub closed_part : Cutter → Part → Option Chunk
closed_part s (Of e opens rounded) = closed_by (opened opens rounded s) e
closed_part s (Unmapped n) = None

-- the cutter after parts of a stream
abbrev pub cut_after : TagLimits → ℕ → Cutter → List Part → Cutter
cut_after t maxmem s [] = s
cut_after t maxmem s (p ∷ ps) = cut_after t maxmem (after_part t maxmem s p) ps

-- the chunks that parts of a stream close, in order
abbrev pub closed : TagLimits → ℕ → Cutter → List Part → List Chunk
closed t maxmem s [] = []
closed t maxmem s (p ∷ ps) = option_to_list (closed_part s p) ++ closed t maxmem (after_part t maxmem s p) ps
