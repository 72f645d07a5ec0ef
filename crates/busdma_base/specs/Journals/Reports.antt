-- Which answers are reports.
use Rattle.std.specs.Prelude.{Bool, true, false}
use Rattle.busdma_base.specs.declared.journals.answer.Answer.{Answer}
use Rattle.busdma_base.specs.declared.journals.answer.Answer.TheVariants as answer

-- an answer is a report
abbrev pub is_report : Answer → Bool
is_report (answer.Report r) = true
is_report _ = false
