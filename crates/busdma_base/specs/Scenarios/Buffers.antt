-- The buffers of loads.
use Rattle.std.specs.Prelude.{◌≡◌, ℕ, ◌*◌, ◌%◌, ◌<◌, ◌≤◌, ◌==◌, true, false, List, [], length, IfSome}
use Rattle.std.specs.List.{AllByRecursion, list_any}
use Rattle.busdma_machine.specs.declared.machine.bio.Bio.{Bio}
use Rattle.busdma_machine.specs.declared.machine.address.Span.{Span}
use Rattle.busdma_machine.specs.declared.machine.bio.Bio.TheVariants as bio
use Rattle.busdma_base.specs.declared.scenarios.buffer.Buffer.{Buffer}
use Rattle.busdma_base.specs.declared.scenarios.buffer.Buffer.TheVariants as buffer
use Rattle.busdma_base.specs.declared.scenarios.scenario.PageRun.{PageRun}
use Rattle.busdma_base.specs.declared.scenarios.script.Place.{Place}
use Rattle.busdma_base.specs.declared.scenarios.script.Place.TheVariants as place
use Rattle.busdma_base.specs.declared.scenarios.words.OpWord.{OpWord}
use Rattle.busdma_base.specs.declared.scenarios.words.OpWord.TheVariants as op_word
use Rattle.busdma_base.specs.Scenarios.Limits.{entries_limit}
use Rattle.busdma_base.specs.Scenarios.PageRuns.{has_frame}
use Rattle.busdma_machine.specs.Each.{EachAfter}
use Rattle.busdma_machine.specs.Machine.Spans.{bio_spans, span_addresses, span_bytes}

-- the word of the operation that loads a buffer
abbrev pub buffer_word : Buffer → OpWord
buffer_word (buffer.Flat at len) = op_word.Load
buffer_word (buffer.Vector spans) = op_word.LoadVector
buffer_word (buffer.Mbuf chain) = op_word.LoadMbuf
buffer_word (buffer.Bio b) = op_word.LoadBio
buffer_word (buffer.Send chain clusters) = op_word.Send

-- how many bytes a buffer has
abbrev pub buffer_bytes : Buffer → ℕ
buffer_bytes (buffer.Flat at len) = len
buffer_bytes (buffer.Vector spans) = span_bytes spans
buffer_bytes (buffer.Mbuf chain) = span_bytes chain
buffer_bytes (buffer.Bio b) = span_bytes (bio_spans b)
buffer_bytes (buffer.Send chain clusters) = span_bytes chain

-- how many bytes a buffer counts for the limit on all loads; a send counts twice, because it can be loaded twice
abbrev pub counted_bytes : Buffer → ℕ
counted_bytes (buffer.Flat at len) = len
counted_bytes (buffer.Vector spans) = span_bytes spans
counted_bytes (buffer.Mbuf chain) = span_bytes chain
counted_bytes (buffer.Bio b) = span_bytes (bio_spans b)
counted_bytes (buffer.Send chain clusters) = 2 * span_bytes chain

-- how many spans or frames a bio lists
abbrev pub bio_entries : Bio → ℕ
bio_entries (bio.Mapped span) = 1
bio_entries (bio.Vector spans) = length spans
bio_entries (bio.Unmapped frames off len) = length frames

-- how many spans or frames a buffer lists
abbrev pub buffer_entries : Buffer → ℕ
buffer_entries (buffer.Flat at len) = 1
buffer_entries (buffer.Vector spans) = length spans
buffer_entries (buffer.Mbuf chain) = length chain
buffer_entries (buffer.Bio b) = bio_entries b
buffer_entries (buffer.Send chain clusters) = length chain

-- a place in a memory is the memory's first byte; a place at a virtual address can be any
abbrev pub IsBegin : Place → Type 0
IsBegin (place.At va) = Unit {0}
IsBegin (place.In mem off) = off ≡ 0

-- a buffer in a memory begins at the memory's first byte
abbrev pub IsFromBegin : Buffer → Type 0
IsFromBegin (buffer.Flat at len) = IsBegin at
IsFromBegin (buffer.Vector spans) = Unit {0}
IsFromBegin (buffer.Mbuf chain) = Unit {0}
IsFromBegin (buffer.Bio b) = Unit {0}
IsFromBegin (buffer.Send chain clusters) = Unit {0}

-- a bio that is not mapped has only frames of these pages, and begins in its first frame
abbrev pub IsBioOf : List PageRun → Bio → Type 0
IsBioOf pages (bio.Mapped span) = Unit {0}
IsBioOf pages (bio.Vector spans) = Unit {0}
IsBioOf pages (bio.Unmapped frames off len) =
    (off < 4096) × AllByRecursion (λ frame. has_frame pages frame ≡ true) frames

-- a buffer that is a bio, if it is not mapped, has only frames of these pages and begins in its first frame
abbrev pub IsBufferOf : List PageRun → Buffer → Type 0
IsBufferOf pages (buffer.Flat at len) = Unit {0}
IsBufferOf pages (buffer.Vector spans) = Unit {0}
IsBufferOf pages (buffer.Mbuf chain) = Unit {0}
IsBufferOf pages (buffer.Bio b) = IsBioOf pages b
IsBufferOf pages (buffer.Send chain clusters) = Unit {0}

-- an address is none of the addresses of a list
abbrev pub IsNoneOf : List ℕ → ℕ → Type 0
IsNoneOf others a = list_any (λ b. a == b) others ≡ false

-- a span of clusters begins at a page boundary, and has at most 4096 bytes
pub record IsCluster (span : Span) : Type 0 where
  pub whole : span.va.0 % 4096 ≡ 0
  pub short : span.len ≤ 4096

-- the clusters of a send have as many bytes as its chain, in at most `entries_limit` spans, and no virtual address is
-- in two clusters, or in a cluster and in the chain
pub record AreClustersFor (chain spans : List Span) : Type 0 where
  pub each : AllByRecursion IsCluster spans
  pub alike : span_bytes spans ≡ span_bytes chain
  pub few : length spans ≤ entries_limit
  pub unlike : EachAfter IsNoneOf [] (span_addresses spans)
  pub apart : AllByRecursion (IsNoneOf (span_addresses spans)) (span_addresses chain)

-- if a buffer is a send that has clusters, they are clusters for its chain
abbrev pub HasClusters : Buffer → Type 0
HasClusters (buffer.Flat at len) = Unit {0}
HasClusters (buffer.Vector spans) = Unit {0}
HasClusters (buffer.Mbuf chain) = Unit {0}
HasClusters (buffer.Bio b) = Unit {0}
HasClusters (buffer.Send chain clusters) = IfSome clusters (AreClustersFor chain)
