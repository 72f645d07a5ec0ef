-- What a check judges, and how it ends.
use Rattle.std.specs.Prelude.{◌≡◌, ℕ, List, ◌++◌, codes, Option, Some, None}
use Rattle.std.specs.Fmt.{decimal}
use Rattle.busdma_base.specs.declared.journals.journal.Journal.{Journal}
use Rattle.busdma_base.specs.declared.scenarios.scenario.Scenario.{Scenario}
use Rattle.busdma_base.specs.Scenarios.Valid.{IsValid}
use Rattle.scenario_format.specs.declared.reading.Reading.TheVariants.{Good}
use Rattle.scenario_format.specs.Scenarios.Scenario.{scenario_of}
use Rattle.program_rules.specs.declared.verdict.Verdict.{Verdict}
use Rattle.program_rules.specs.declared.verdict.Verdict.TheVariants.{Yes, No}
use Rattle.program_rules.specs.Verdicts.Header.{Cut, cut_of}
use Rattle.program_rules.specs.Verdicts.Verdict.{IsVerdict}
use Rattle.program_rules.specs.declared.program_end.ProgramEnd.{ProgramEnd}
use Rattle.program_rules.specs.Commands.Edges.{StreamEdges, ReadAll, WriteFailed, WroteAll, WrotePart}

-- the verdict on an input: it has a header, then a scenario, and this is the verdict on the text that follows
pub record HasVerdict (input : List ℕ) (v : Verdict) : Type 0 where
  pub cut : Cut
  pub is_cut : cut_of input ≡ Some cut
  pub scenario : Scenario
  pub good : scenario_of cut.scenario ≡ Good scenario
  pub valid : IsValid scenario
  pub verdict : IsVerdict scenario cut.report v

-- the line of a verdict
abbrev pub verdict_line : Verdict → List ℕ
verdict_line (Yes journal) = codes "yes\n"
verdict_line (No number) = codes "no " ++ (decimal number ++ codes "\n")

-- the status of a verdict: 0 for yes, 1 for no
abbrev pub verdict_status : Verdict → ℕ
verdict_status (Yes journal) = 0
verdict_status (No number) = 1

-- the journal of a verdict, if it is yes
abbrev pub verdict_journal : Verdict → Option Journal
verdict_journal (Yes journal) = Some journal
verdict_journal (No number) = None

-- a check judged its input: all the bytes were read, and this is the verdict on them
pub record Checked (e : StreamEdges) (v : Verdict) : Type 0 where
  pub bytes : List ℕ
  pub read : ReadAll bytes e
  pub judged : HasVerdict bytes v

-- a check wrote its verdict: the complete line was written, and the status and the journal are the verdict's
pub record CheckedAndWrote (e : StreamEdges) (o : ProgramEnd) : Type 0 where
  pub verdict : Verdict
  pub checked : Checked e verdict
  pub wrote : WroteAll (verdict_line verdict) e
  pub status : o.status ≡ verdict_status verdict
  pub journal : o.journal ≡ verdict_journal verdict

-- a check could not write its verdict: the sink failed after only a front of the line
pub record CheckedUnwritten (e : StreamEdges) (o : ProgramEnd) : Type 0 where
  pub verdict : Verdict
  pub checked : Checked e verdict
  pub wrote : WrotePart (verdict_line verdict) e
  pub cause : WriteFailed e
