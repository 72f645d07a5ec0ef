-- The ideal state of a world of the program, and of its run.
use Rattle.std.specs.Prelude.{ℕ, ◌==◌, Bool, true, not, List, Option, Some, None, slice_get}
use Rattle.busdma_machine.specs.declared.bounce.zone.Waiter.{Waiter}
use Rattle.busdma_machine.specs.declared.bounce.hold.HoldEntry.{HoldEntry}
use Rattle.ideal_world.specs.Legal.{Run}
use Rattle.ideal_world.specs.World.{WorldState}
use Rattle.world_core.specs.declared.run.Progress.{Progress}
use Rattle.world_core.specs.declared.world.World.{World}
use Rattle.world_core.specs.Kept.{kept_world}

-- the lanes' ideal states, and the account that the hub's history leads to
abbrev pub ideal_world : World → WorldState
ideal_world w = kept_world w.lanes.items w.hub

-- the history of a world's hub: the holds of the bounce lock so far
abbrev pub world_holds : World → List HoldEntry
world_holds w = w.hub.history

-- the run that a replay has come to
abbrev pub ideal_run : Progress → Run
ideal_run p = record { world = ideal_world p.world; entries = p.entries.items }

-- a callback list is empty, or its head is not of the driver of this number
abbrev pub is_others_head : ℕ → Option Waiter → Bool
is_others_head lane None = true
is_others_head lane (Some w) = not (w.map.lane.0 == lane)

-- the driver of this number has no callback to take in a world
abbrev pub has_no_callback : WorldState → ℕ → Bool
has_no_callback w lane = is_others_head lane (slice_get w.account.ready 0)
