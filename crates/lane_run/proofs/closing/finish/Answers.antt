use Rattle.std.proofs.Common.{◌≡◌, ◌<◌, ◌∙◌, List, All, None, ap, length, map, subst, sym}
use Rattle.busdma_machine.specs.declared.bounce.hold.HoldEntry.{HoldEntry}
use Rattle.ideal_world.specs.Legal.{round_from, round_of}
use Rattle.ideal_world.specs.World.{step_entry}
use Rattle.ideal_runs.specs.Merged.{merged}
use Rattle.ideal_runs.specs.Runs.{Log}
use Rattle.world_core.specs.Ideal.{world_holds, ideal_world}
use Rattle.ideal_runs.proofs.FromLogs.{few-logged, run-well}
use Rattle.lane_run.proofs.ClosingLaws.{at-rest}
use Rattle.lane_run.proofs.closing.finish.Goals as goal

pub merge_owned-requires : goal.merge_owned-requires
merge_owned-requires g c =
    let k = c.rounds.new.self in
    subst (All (λ (h : HoldEntry). h.lane.0 < length k.logs.items))
    (sym (c.history.ensures.items ∙ c.into_parts-lanes.ensures.holds))
    (few-logged c.args.scenario.now (λ l. l.items) k.logs.items (world_holds k.world) (ideal_world k.world)
    c.in_ok-rounds.ensures.come)

pub returns : goal.returns
returns g c =
    let s = c.args.scenario.now in
    let k = c.rounds.new.self in
    let logs : List Log = map (λ l. l.items) k.logs.items in
    let run = c.in_ok-rounds.ensures.come in
    let order : c.deref.result.now ≡ round_of s =
    c.deref.ensures.value ∙ c.in_ok-round.ensures ∙ ap (round_from 0) c.len.ensures in
    record {
      logs = logs;
      history = world_holds k.world;
      last = ideal_world k.world;
      run = run;
      rest = at-rest s (ideal_world k.world) (run-well s logs (world_holds k.world) (ideal_world k.world) run
          c.requires.valid)
          (subst (All (λ a. step_entry (ideal_world k.world) a ≡ None)) order c.in_ok-rounds.ensures.rest);
      entries = c.new-entries.ensures ∙ c.in_ok-merge_owned.ensures
          ∙ ap (λ hs. merged hs logs) (c.history.ensures.items ∙ c.into_parts-lanes.ensures.holds);
      zones = c.in_ok-zones.ensures;
      end = c.end-end.ensures;
    }
