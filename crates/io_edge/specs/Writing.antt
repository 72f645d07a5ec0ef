-- What writing adds to a sink. If the contract of a sink does not say what the sink holds, nothing is said of the
-- bytes.
use Rattle.std.specs.Prelude.{ℕ, ◌<◌, List, length, take, Option}
use Rattle.std.specs.Io.KnownBytes.{Appends}
use Rattle.io_edge.specs.declared.sink.Put.{Put}
use Rattle.io_edge.specs.declared.sink.Put.TheVariants.{Took, Failed}

-- how many bytes an answer says it took
abbrev pub taken_count : Put → ℕ
taken_count (Took n) = n
taken_count Failed = 0

-- a front of the text, but not all of it, was added to what the sink held
abbrev pub WritesPart : List ℕ → Option (List ℕ) → Option (List ℕ) → Type 0
WritesPart text before after =
    (count : ℕ) × (count < length text) × Appends before after (take count text)
