use Rattle.busdma_base.specs.declared.scenarios.buffer.Buffer.TheVariants.{Flat}
use Rattle.ideal_wire.proofs.Loads.Bios.{bio-paged}
use Rattle.ideal_wire.proofs.Loads.Reaching.{paged}
use Rattle.driver_laws.proofs.Loading.{called-contents, called-mapped, flat-mapped, load-contents, load-mapped}
use Rattle.driver_laws.proofs.step_laws.loads_map_the_buffer.Goals as goal

pub returns-clause-any : goal.returns-clause-any
returns-clause-any c = λ l n m flags x b items segments laid machine there named s. (
  load-contents l n m flags x items segments s,
  load-mapped l n m flags x items segments s b there (bio-paged l laid machine b named),
)

pub returns-clause-flat : goal.returns-clause-flat
returns-clause-flat c = λ l n m len flags place items segments laid machine s. (
  load-contents l n m flags (Flat place len) items segments s,
  flat-mapped l n m len flags place items segments s (paged l laid machine),
)

pub returns-clause-called : goal.returns-clause-called
returns-clause-called c = λ l n m pages o w segments laid machine there stage s. (
  called-contents l n m pages o w segments there stage s,
  called-mapped l n m pages o w segments there stage s laid machine,
)
