use Rattle.script_read.proofs.Loading.{loads_from_any}
use Rattle.script_read.proofs.load.load.Goals as goal

pub returns-clause-frameless : goal.returns-clause-frameless
returns-clause-frameless c =
    loads_from_any c.load_of.result c.in_ok-buffer.buffer c.in_ok-buffer.ensures.own c.load_of.ensures.loads
