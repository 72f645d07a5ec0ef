use Rattle.std.proofs.Common.{ℕ, List, Option, refl, sym, subst, ◌∙◌}
use Rattle.busdma_base.specs.Scenarios.Valid.{IsValid}
use Rattle.program_rules.specs.declared.command.Command.TheVariants.{Storm}
use Rattle.program_rules.specs.Commands.Edges.{StreamEdges as Edges, edges}
use Rattle.busdma_cmd.proofs.Taking.{sink_failed}
use Rattle.busdma_cmd.proofs.command.run_storm.Goals as goal

pub returns : goal.returns
returns g c = λ left faults.
    let e : Edges = edges (λ (l : Option (List ℕ)). l) (λ _. faults) g.K.Sink.held g.K.Sink.faults
    left left c.args.sink.now c.write_all.new.sink in
    let valid : IsValid c.in_ok-scenario.scenario = subst IsValid (sym c.in_ok-scenario.ensures)
    (c.storms_are_valid.ensures c.args.n c.args.seed c.requires.few) in
    sink_failed (Storm c.args.n c.args.seed) e c.in_ok-scenario.scenario c.in_ok-journal.journal
    c.as_slice.result.now
    (record { read = record { bytes = refl; faults = refl }; made = c.in_ok-scenario.ensures })
    valid c.in_ok-journal.ensures (c.as_slice.ensures ∙ c.in_ok-text.ensures)
    c.in-Err.ensures.unwritten c.in-Err.ensures.failed
