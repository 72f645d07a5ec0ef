-- How the trace of a load agrees with its chunks.
use Rattle.std.specs.Prelude.{◌≡◌, ℕ, ◌+◌, ◌-◌, ◌≤◌, false, List, [], ◌∷◌, length, drop}
use Rattle.std.specs.List.{AllByRecursion}
use Rattle.busdma_machine.specs.declared.machine.chunk.Chunk.{Chunk}
use Rattle.busdma_machine.specs.Machine.Wire.{Placed, is_bounced, stretch}
use Rattle.busdma_rules.specs.Segments.Trace.{chunk_len}
use Rattle.busdma_rules.specs.Syncs.Positions.{positions_of}

-- the positions of a load from a place on agree with a chunk: the chunk's positions are at the chunk's place, and no
-- position before them is bounced
pub record HasChunk (place : ℕ) (ps : List Placed) (c : Chunk) : Type 0 where
  pub behind : place ≤ c.at
  pub inside : c.at + chunk_len c ≤ place + length ps
  pub before : AllByRecursion (λ p. is_bounced p ≡ false) (stretch 0 (c.at - place) ps)
  pub here : stretch (c.at - place) (chunk_len c) ps ≡ positions_of c

-- the positions of a load from a place on agree with these chunks, one after the other, and no position between or
-- after the chunks is bounced
abbrev pub HasChunks : ℕ → List Placed → List Chunk → Type 0
HasChunks place ps [] = AllByRecursion (λ p. is_bounced p ≡ false) ps
HasChunks place ps (c ∷ cs) =
    HasChunk place ps c × HasChunks (c.at + chunk_len c) (drop (c.at + chunk_len c - place) ps) cs
