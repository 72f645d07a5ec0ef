use Rattle.std.proofs.Common.{◌≡◌, ◌++◌, ◌*◌, ◌-◌, map}
use Rattle.busdma_machine.specs.Runs.{run_of}
use Rattle.program_rules.specs.Storms.Generator.{drawn}
use Rattle.program_rules.specs.Storms.Scenario.{driver, storm_scenario}
use Rattle.storm.proofs.scenario.drivers.Given as goal

abbrev pub invariant-loop-number : goal.invariant-loop-number
invariant-loop-number l = record {
  drivers : l.drivers.items ++ map (driver l.n l.seed) (run_of l.number (4 - l.number))
      ≡ (storm_scenario l.n l.seed).drivers;
  drawn : l.generator.last ≡ drawn (2 * l.n * l.number) l.seed;
}
