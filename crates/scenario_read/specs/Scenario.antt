-- A scenario that was read.
use Rattle.busdma_base.specs.Scenarios.Valid.{IsValid}
use Rattle.scenario_format.specs.declared.reading.Reading.{Reading}
use Rattle.scenario_format.specs.declared.reading.Reading.TheVariants.{Good, Bad}

-- a scenario that was read without a refusal is valid
abbrev pub IsValidIfGood : Reading → Type 0
IsValidIfGood (Good s) = IsValid s
IsValidIfGood (Bad r) = Unit {0}
