use Rattle.std.proofs.Common.{refl, sym, subst}
use Rattle.command_words.specs.Command.{run_words}
use Rattle.program_rules.specs.declared.command.Command.TheVariants.{Run}
use Rattle.program_rules.specs.Commands.Edges.{StreamEdges as Edges, edges}
use Rattle.program_rules.specs.Commands.Keeps.{Keeps}
use Rattle.busdma_cmd.proofs.EndLaws.{reader_keeps}
use Rattle.busdma_cmd.proofs.run_call.run_command.Goals as goal

pub returns : goal.returns
returns g c =
    let e : Edges = edges g.S.Source.left g.S.Source.faults g.K.Sink.held g.K.Sink.faults
    c.args.source.now c.run_input.new.source c.args.sink.now c.run_input.new.sink in
    let ran = c.run_input.ensures in
    subst (Keeps run_words _) (sym c.outcome_of.ensures)
    (reader_keeps run_words Run e c.run_input.result refl tt ran.ends ran.faults)
