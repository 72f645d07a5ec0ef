use Rattle.std.proofs.Common.{◌≡◌, List, map, subst, sym}
use Rattle.busdma_machine.specs.declared.bounce.hold.HoldEntry.{HoldEntry}
use Rattle.ideal_world.specs.World.{WorldState}
use Rattle.ideal_runs.specs.Runs.{Log}
use Rattle.ideal_runs.specs.FromLogs.{RunsTo}
use Rattle.ideal_runs.proofs.FromLogs.{run-well}
use Rattle.world_core.specs.Kept.{kept_world}
use Rattle.lane_run.proofs.run.closing_of.Goals as goal

pub from_parts-requires : goal.from_parts-requires
from_parts-requires c =
    let s = c.args.scenario.now in
    let lanes = c.args.parked.lanes.items in
    let logs : List Log = map (λ l. l.items) c.args.parked.logs.items in
    let hub = c.args.hub in
    record {
      well = run-well s logs hub.history (kept_world lanes hub) c.requires.ran.run c.requires.valid;
      opening = c.requires.ran.begins;
    }

pub returns : goal.returns
returns c =
    let s = c.args.scenario.now in
    let logs : List Log = map (λ l. l.items) c.args.parked.logs.items in
    subst (λ (x : List HoldEntry × WorldState). RunsTo s logs x.0 x.1)
    (λ j. (sym c.from_parts.ensures.holds j, sym c.from_parts.ensures.world j)) c.requires.ran.run
