use Rattle.std.proofs.Common.{◌≡◌, sym, Some, subst, map, string_bytes}
use Rattle.program_rules.specs.declared.command.Command.TheVariants.{Replay, Storm, Check}
use Rattle.program_rules.specs.Commands.Words.{command}
use Rattle.program_rules.specs.Commands.Edges.{StreamEdges as Edges, edges}
use Rattle.program_rules.specs.Commands.Keeps.{Keeps}
use Rattle.busdma_cmd.proofs.CheckLaws.{check_keeps}
use Rattle.busdma_cmd.proofs.EndLaws.{reader_keeps, storm_keeps}
use Rattle.busdma_cmd.proofs.command.plain_command.Goals as goal

pub returns-in-Ok-Some-Replay : goal.returns-in-Ok-Some-Replay
returns-in-Ok-Some-Replay g c =
    let words = map string_bytes c.args.words.now in
    let met = c.in-Ok-Some-Replay in
    let asked : command words ≡ Some Replay = cc (met.ensures, met.field-0-is, met.field-0-0-is) in
    let e : Edges = edges g.S.Source.left g.S.Source.faults g.K.Sink.held g.K.Sink.faults
    c.args.source.now c.replay_input.new.source c.args.sink.now c.replay_input.new.sink in
    let ran = c.replay_input.ensures in
    subst (Keeps words _) (sym c.outcome_of.ensures)
    (reader_keeps words Replay e c.replay_input.result asked tt ran.ends ran.faults)

pub returns-in-Ok-Some-Storm : goal.returns-in-Ok-Some-Storm
returns-in-Ok-Some-Storm g c =
    let words = map string_bytes c.args.words.now in
    let met = c.in-Ok-Some-Storm in
    let asked : command words ≡ Some (Storm met.n met.seed) =
    cc (met.ensures, met.field-0-is, met.field-0-0-is, met.n-is, met.seed-is) in
    let e : Edges = edges g.S.Source.left g.S.Source.faults g.K.Sink.held g.K.Sink.faults
    c.args.source.now c.args.source.now c.args.sink.now c.run_storm.new.sink in
    subst (Keeps words _) (sym c.outcome_of-in-Ok-Some-Storm.ensures)
    (storm_keeps words met.n met.seed e c.run_storm.result asked
    (c.run_storm.ensures (g.S.Source.left c.args.source.now) (g.S.Source.faults c.args.source.now)))

pub returns-in-Ok-Some-Check : goal.returns-in-Ok-Some-Check
returns-in-Ok-Some-Check g c =
    let words = map string_bytes c.args.words.now in
    let met = c.in-Ok-Some-Check in
    let asked : command words ≡ Some Check = cc (met.ensures, met.field-0-is, met.field-0-0-is) in
    let e : Edges = edges g.S.Source.left g.S.Source.faults g.K.Sink.held g.K.Sink.faults
    c.args.source.now c.check_input.new.source c.args.sink.now c.check_input.new.sink in
    let ran = c.check_input.ensures in
    subst (Keeps words _) (sym c.outcome_of_check.ensures)
    (check_keeps words e c.check_input.result asked ran.ends ran.faults)
