use Rattle.bounce_hub.specs.Seen.{door}
use Rattle.bus_dma_tests.proofs.tests.calls.dev_write.Goals as goal

pub returns : goal.returns
returns c = c.dev_write.ensures.served (door c.args.hub.now) c.requires
