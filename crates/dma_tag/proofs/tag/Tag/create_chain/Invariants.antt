use Rattle.std.proofs.Common.{take}
use Rattle.dma_tag.proofs.Chain.{IsChainEnd}
use Rattle.dma_tag.proofs.tag.Tag.create_chain.Given as goal

abbrev pub invariant-loop-spec : goal.invariant-loop-spec
invariant-loop-spec l = IsChainEnd l.first (take l.spec-index l.rest) l.tag
