-- A world, and a scenario, whose drivers have further operations after their scripts.
use Rattle.std.specs.Prelude.{◌≡◌, ℕ, ◌+◌, true, List, [], ◌∷◌, ◌++◌, length, Some, slice_get}
use Rattle.std.specs.List.{AllByRecursion}
use Rattle.busdma_base.specs.declared.journals.journal.JournalEntry.{JournalEntry}
use Rattle.busdma_base.specs.declared.scenarios.scenario.Driver.{Driver}
use Rattle.busdma_base.specs.declared.scenarios.scenario.Scenario.{Scenario}
use Rattle.busdma_base.specs.declared.scenarios.script.Op.{Op}
use Rattle.ideal_lane.specs.Scripts.{is_below, with_script}
use Rattle.ideal_lane.specs.State.{LaneState}
use Rattle.ideal_world.specs.World.{WorldState}

-- further operations of each driver, by its number
abbrev pub More : Type 0
More = ℕ → List Op

-- these drivers with their further operations after their scripts; the first has the number i
abbrev pub drivers_with : ℕ → More → List Driver → List Driver
drivers_with i more [] = []
drivers_with i more (d ∷ ds) = record d { script = d.script ++ more i } ∷ drivers_with (i + 1) more ds

-- the scenario whose drivers have further operations after their scripts
abbrev pub scenario_with : More → Scenario → Scenario
scenario_with more s = record s { drivers = drivers_with 0 more s.drivers }

-- the state of a driver with further operations after its script
abbrev pub lane_with : List Op → LaneState → LaneState
lane_with more l = with_script (l.script ++ more) l

-- the states of drivers with their further operations; the first has the number i
abbrev pub lanes_with : ℕ → More → List LaneState → List LaneState
lanes_with i more [] = []
lanes_with i more (l ∷ ls) = lane_with (more i) l ∷ lanes_with (i + 1) more ls

-- the world whose drivers have further operations after their scripts
abbrev pub world_with : More → WorldState → WorldState
world_with more w = record w { lanes = lanes_with 0 more w.lanes }

-- an entry is of the scenario's own scripts: the operation or resend that it did, if any, is at a place of its driver's
-- script
abbrev pub IsOfScript : Scenario → JournalEntry → Type 0
IsOfScript s e =
    (d : Driver) → slice_get s.drivers e.actor.lane.0 ≡ Some d → is_below (length d.script) e.did ≡ true

-- each of these entries is of the scenario's own scripts
abbrev pub AreOfScripts : Scenario → List JournalEntry → Type 0
AreOfScripts s entries = AllByRecursion (IsOfScript s) entries
