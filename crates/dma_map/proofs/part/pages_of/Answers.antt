use Rattle.dma_map.proofs.Pages.{every-page}
use Rattle.dma_map.proofs.part.pages_of.Goals as goal

pub returns-else-segment : goal.returns-else-segment
returns-else-segment c = every-page c.args.segment.now
