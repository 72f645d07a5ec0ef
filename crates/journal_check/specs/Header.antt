-- An input that is cut at its header.
use Rattle.std.specs.Prelude.{◌≡◌, ℕ, ◌<◌, List, ◌++◌, length}
use Rattle.program_rules.specs.Verdicts.Header.{Cut, header}

-- an input is a header, the scenario and the report; the header is the length of the scenario in at most 8
-- digits
pub record IsCut (input : List ℕ) (cut : Cut) : Type 0 where
  pub short : length cut.scenario < 100000000
  pub bytes : input ≡ header (length cut.scenario) ++ (cut.scenario ++ cut.report)
