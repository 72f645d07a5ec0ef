use Rattle.phys_memory.specs.Memory.{wire}
use Rattle.map_sync.proofs.Extents.{two_written}
use Rattle.map_sync.proofs.into_pages.copy_chunk_in.Goals as goal

pub returns-in-Some-clause-bytes : goal.returns-in-Some-clause-bytes
returns-in-Some-clause-bytes c =
    let chunk = c.args.chunk.now in
    two_written (wire c.args.memory.now.memory) c.args.from c.args.to c.saturating_sub-from.result
    c.saturating_sub-to.result c.args.bus.0
    chunk.first c.in-Some.rest chunk.rest c.args.page.now c.copy_extent_in.new.page c.copy_extent_in-in-Some.new.page
    c.in-Some.is c.saturating_sub-from.ensures c.saturating_sub-to.ensures c.copy_extent_in.ensures.bytes
    c.copy_extent_in-in-Some.ensures.bytes
