use Rattle.std.proofs.Common.{◌∙◌, ap}
use Rattle.busdma_base.specs.Scenarios.Opening.{maxmem_of}
use Rattle.frame_bank.specs.FrameBank.{free_frames}
use Rattle.world_core.proofs.OpeningWorld.{opened-lanes, opened-hub}
use Rattle.world_core.proofs.opening.opening_parts.Goals as goal

pub returns-clause-lanes : goal.returns-clause-lanes
returns-clause-lanes c =
    opened-lanes c.args.scenario.now c.in_ok-lanes.lanes.items c.memory_end-maxmem.result
    (c.memory_end-maxmem.ensures ∙ ap maxmem_of c.as_slice.ensures) c.in_ok-lanes.ensures

pub returns-clause-hub : goal.returns-clause-hub
returns-clause-hub c =
    opened-hub c.args.scenario.now c.new.result (free_frames c.in_ok-bank.bank) c.memory_end-maxmem.result
    (c.memory_end-maxmem.ensures ∙ ap maxmem_of c.as_slice.ensures) c.in_ok-bank.ensures.free c.new.ensures.made
