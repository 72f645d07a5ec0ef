use Rattle.std.proofs.Common.{◌≡◌, ◌≤◌, ◌-◌, length, take}
use Rattle.std.specs.Io.KnownBytes.{Appends}
use Rattle.io_edge.proofs.sink.write_all.Given as goal

abbrev pub invariant-loop-done : goal.invariant-loop-done
invariant-loop-done g l = record {
  within : l.done ≤ length l.text;
  held : Appends (g.K.Sink.held l.initial.sink) (g.K.Sink.held l.sink) (take l.done l.text);
  unfailed : g.K.Sink.faults l.sink ≡ g.K.Sink.faults l.initial.sink;
  untouched : l.done ≡ 0 → l.sink ≡ l.initial.sink;
}

-- each turn writes at least one byte
abbrev pub decreases-loop-done : goal.decreases-loop-done
decreases-loop-done g l = length l.text - l.done
