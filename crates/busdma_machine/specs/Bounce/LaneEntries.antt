-- The entries of one lane in a history of the bounce lock.
use Rattle.std.specs.Prelude.{ℕ, ◌==◌, List}
use Rattle.std.specs.List.{filter}
use Rattle.busdma_machine.specs.declared.bounce.hold.HoldEntry.{HoldEntry}

-- the entries of a lane, in their order
abbrev pub of_lane : ℕ → List HoldEntry → List HoldEntry
of_lane lane es = filter (λ e. e.lane.0 == lane) es
