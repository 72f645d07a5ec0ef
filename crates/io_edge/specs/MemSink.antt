-- A sink in memory, as its callers see it.
use Rattle.std.specs.Prelude.{ℕ, min, List, ◌++◌, take, if◌then◌else◌}
use Rattle.io_edge.specs.Calls.{Calls, next_fails, one_more, one_fault}
use Rattle.io_edge.specs.declared.sink.Put.{Put}
use Rattle.io_edge.specs.declared.sink.Put.TheVariants.{Took, Failed}

-- a sink in memory: the bytes that it holds, the most bytes that one call takes, and its calls
pub record SinkState : Type 0 where
  pub held : List ℕ
  pub piece : ℕ
  pub calls : Calls

-- the answer of the sink's next call to a piece of this length, if memory suffices
abbrev pub write_answer : SinkState → ℕ → Put
write_answer sink size = if next_fails sink.calls then Failed else Took (min sink.piece size)

-- the sink after a call that was given these bytes and gave this answer
abbrev pub after_write : SinkState → List ℕ → Put → SinkState
after_write sink bytes (Took count) =
    record sink { held = sink.held ++ take count bytes; calls = one_more sink.calls }
after_write sink bytes Failed = record sink { calls = one_fault (one_more sink.calls) }
