use Rattle.std.proofs.Common.{◌≡◌, ◌++◌, ◌*◌, ◌-◌}
use Rattle.std.specs.List.{flat_map}
use Rattle.busdma_machine.specs.Runs.{run_of}
use Rattle.program_rules.specs.Storms.Generator.{drawn}
use Rattle.program_rules.specs.Storms.Scenario.{round_at, storm_rounds}
use Rattle.storm.proofs.scenario.push_rounds.Given as goal

abbrev pub invariant-loop-number : goal.invariant-loop-number
invariant-loop-number l = record {
  script : l.script.items ++ flat_map (round_at l.initial.generator.last) (run_of l._number (l.n - l._number))
      ≡ l.initial.script.items ++ storm_rounds l.n l.initial.generator.last;
  drawn : l.generator.last ≡ drawn (2 * l._number) l.initial.generator.last;
}
