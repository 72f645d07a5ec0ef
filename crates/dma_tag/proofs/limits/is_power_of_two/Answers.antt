use Rattle.std.proofs.Common.{◌∙◌, arith}
use Rattle.busdma_rules.proofs.Tags.Powers.{one_bit-is_power_of_two}
use Rattle.dma_tag.proofs.limits.is_power_of_two.Goals as goal

pub returns : goal.returns
returns c = c.is_power_of_two.ensures ∙ one_bit-is_power_of_two c.args.bytes (omega arith)
