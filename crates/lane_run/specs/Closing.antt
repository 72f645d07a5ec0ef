-- How far a run has come, and the journal that it ends with.
use Rattle.std.specs.Prelude.{◌≡◌, ◌<◌, Bool, true, false, List, map, All, None}
use Rattle.busdma_base.specs.declared.journals.journal.Actor.{Actor}
use Rattle.busdma_base.specs.declared.scenarios.scenario.Scenario.{Scenario}
use Rattle.busdma_base.specs.Scenarios.Opening.{opening}
use Rattle.ideal_world.specs.Left.{left_of}
use Rattle.ideal_world.specs.World.{WorldState, step_entry}
use Rattle.ideal_runs.specs.FromLogs.{RunsTo}
use Rattle.world_core.specs.Ideal.{world_holds, ideal_world}
use Rattle.lane_run.specs.declared.closing.Closing.{Closing}

-- by a run's logs and the holds so far, the scenario's opening leads to the run's world
abbrev pub HasCome : Scenario → Closing → Type 0
HasCome s c = RunsTo s (map (λ l. l.items) c.logs.items) (world_holds c.world) (ideal_world c.world)

-- the turns of actors lead from one world to another: if no turn was a step, the world is the same and no actor can
-- step in it; otherwise there is less left to do
abbrev pub HaveTurned : List Actor → WorldState → WorldState → Bool → Type 0
HaveTurned actors w v false = (v ≡ w) × All (λ a. step_entry v a ≡ None) actors
HaveTurned actors w v true = left_of v < left_of w
