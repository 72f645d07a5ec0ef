-- A source in memory, as its callers see it.
use Rattle.std.specs.Prelude.{ℕ, min, List, length, drop, if◌then◌else◌}
use Rattle.io_edge.specs.Calls.{Calls, next_fails, one_more, one_fault}
use Rattle.io_edge.specs.declared.source.Got.{Got}
use Rattle.io_edge.specs.declared.source.Got.TheVariants.{Bytes, End, Failed}

-- a source in memory: the bytes that are left, the most bytes that one call gives, and its calls
pub record SourceState : Type 0 where
  pub left : List ℕ
  pub piece : ℕ
  pub calls : Calls

-- the answer of the source's next call to a caller with this much room
abbrev pub read_answer : SourceState → ℕ → Got
read_answer source room =
    if next_fails source.calls then Failed
    else Bytes (min source.piece (min room (length source.left)))

-- the source after a call that gave this answer
abbrev pub after_read : SourceState → Got → SourceState
after_read source (Bytes count) =
    record source { left = drop count source.left; calls = one_more source.calls }
after_read source End = record source { calls = one_more source.calls }
after_read source Failed = record source { calls = one_fault (one_more source.calls) }
