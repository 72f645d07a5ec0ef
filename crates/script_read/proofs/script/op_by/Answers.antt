use Rattle.script_read.proofs.Loading.{loads_from_these}
use Rattle.script_read.proofs.script.op_by.Goals as goal

pub returns-in-Load-clause-own : goal.returns-in-Load-clause-own
returns-in-Load-clause-own c = loads_from_these c.load.result c.args.pages.now c.load.ensures.frameless

pub returns-in-LoadVector-clause-own : goal.returns-in-LoadVector-clause-own
returns-in-LoadVector-clause-own c =
    loads_from_these c.load_vector.result c.args.pages.now c.load_vector.ensures.frameless

pub returns-in-LoadMbuf-clause-own : goal.returns-in-LoadMbuf-clause-own
returns-in-LoadMbuf-clause-own c =
    loads_from_these c.load_mbuf.result c.args.pages.now c.load_mbuf.ensures.frameless

pub returns-in-Send-clause-own : goal.returns-in-Send-clause-own
returns-in-Send-clause-own c = loads_from_these c.send.result c.args.pages.now c.send.ensures.frameless
