-- The first of a list of things that is refused.
use Rattle.std.specs.Prelude.{ℕ, ◌+◌, Option, Some, None, List, [], ◌∷◌}
use Rattle.busdma_machine.specs.declared.report.ReportName.{ReportName}
use Rattle.busdma_machine.specs.declared.report.Judged.{Judged}
use Rattle.busdma_machine.specs.declared.report.Judged.TheVariants.{Fine, Refused}

-- a refusal at a place, if there is one, or else the judgement of what comes next
abbrev pub refused_or : Option ReportName → ℕ → Judged → Judged
refused_or None at next = next
refused_or (Some name) at next = Refused (record { name = name; at = at })

-- things are judged in order, at rising places from the given one on; the first that is refused is reported with its
-- place
abbrev pub judged : {X : Type 0} → (X → Option ReportName) → ℕ → List X → Judged
judged refusal at [] = Fine
judged refusal at (x ∷ xs) = refused_or (refusal x) at (judged refusal (at + 1) xs)
