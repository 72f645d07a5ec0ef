use Rattle.std.proofs.Common.{rules, refl}
use Rattle.program_rules.specs.Commands.Edges.{StreamEdges as Edges, edges}
use Rattle.program_rules.specs.declared.command.Command.TheVariants.{Run}
use Rattle.busdma_cmd.proofs.Taking.{ran_out, ran_out_after, runs_input, sink_failed}
use Rattle.busdma_cmd.proofs.run_call.run_input.Goals as goal

pub returns-in_err-journal-clause-ends : goal.returns-in_err-journal-clause-ends
returns-in_err-journal-clause-ends g c =
    let e : Edges = edges g.S.Source.left g.S.Source.faults g.K.Sink.held g.K.Sink.faults
    c.args.source.now c.read_scenario.new.source c.args.sink.now c.args.sink.now in
    ran_out Run e c.in_ok-scenario.scenario _ tt c.from_residual-in_err-journal.ensures.1
    c.in_ok-scenario.ensures.reads (search rules)

pub returns-in_err-journal-clause-faults : goal.returns-in_err-journal-clause-faults
returns-in_err-journal-clause-faults g c =
    ran_out_after _ _ _ c.from_residual-in_err-journal.ensures.1 c.in_ok-scenario.ensures.faults

pub returns-clause-ends : goal.returns-clause-ends
returns-clause-ends g c =
    let failed = c.in-Err.ensures in
    let read = c.in_ok-scenario.ensures in
    let e : Edges = edges g.S.Source.left g.S.Source.faults g.K.Sink.held g.K.Sink.faults
    c.args.source.now c.read_scenario.new.source c.args.sink.now c.write_report.new.sink in
    sink_failed Run e c.in_ok-scenario.scenario c.in_ok-journal.journal _
    (runs_input Run e c.in_ok-scenario.scenario tt read.reads) read.valid c.in_ok-journal.ensures.merged refl
    failed.unwritten failed.failed
