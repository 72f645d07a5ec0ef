use Rattle.std.proofs.Common.{sym, ap}
use Rattle.ideal_lane.specs.Loads.{is_coherent}
use Rattle.lane_state.specs.Kept.{memory_of}
use Rattle.lane_state.proofs.MapValues.{image-none, image-some}
use Rattle.lane_loads.proofs.loads.is_coherent.Goals as goal

pub returns-in-Some : goal.returns-in-Some
returns-in-Some c =
    sym (ap is_coherent (image-some memory_of c.args.holdings.now.memories.map c.args.map c.in-Some.own.now
    (sym c.in-Some.ensures)))

pub returns-in-None : goal.returns-in-None
returns-in-None c =
    sym (ap is_coherent (image-none memory_of c.args.holdings.now.memories.map c.args.map (sym c.in-None.ensures)))
