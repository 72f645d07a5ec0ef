use Rattle.busdma_machine.specs.Machine.Wire.{page_byte}
use Rattle.phys_memory.specs.Memory.{wire}
use Rattle.map_sync.proofs.Extents.{two_copied}
use Rattle.map_sync.proofs.out_of_pages.copy_chunk_out.Goals as goal

pub returns-in-Some-clause-wire : goal.returns-in-Some-clause-wire
returns-in-Some-clause-wire c =
    let chunk = c.args.chunk.now in
    two_copied (page_byte c.args.page.now) (wire c.args.memory.now.memory) (wire c.copy_extent_out.new.memory.memory)
    (wire c.copy_extent_out-in-Some.new.memory.memory)
    c.args.from c.args.to c.saturating_sub-from.result c.saturating_sub-to.result c.args.bus.0
    chunk.first c.in-Some.rest chunk.rest
    c.in-Some.is c.saturating_sub-from.ensures c.saturating_sub-to.ensures c.copy_extent_out.ensures.wire
    c.copy_extent_out-in-Some.ensures.wire
