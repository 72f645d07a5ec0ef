use Rattle.std.proofs.Common.{rules}
use Rattle.program_rules.specs.Commands.Edges.{StreamEdges as Edges, edges}
use Rattle.busdma_cmd.proofs.CheckLaws.{check_ran_out}
use Rattle.busdma_cmd.proofs.check_call.check_input.Goals as goal

pub returns-in_err-line-clause-ends : goal.returns-in_err-line-clause-ends
returns-in_err-line-clause-ends g c =
    let e : Edges = edges g.S.Source.left g.S.Source.faults g.K.Sink.held g.K.Sink.faults
    c.args.source.now c.read_verdict.new.source c.args.sink.now c.args.sink.now in
    check_ran_out e c.in_ok-verdict.verdict _ c.from_residual-in_err-line.ensures.1 c.in_ok-verdict.ensures.reads
    (search rules)
