-- What is printed of an outcome.
use Rattle.std.proofs.Common.{◌≡◌, ℕ, ◌+◌, ◌==◌, ◌<◌, ◌≤◌, ◌↔◌, ◌⊎◌, ◌++◌, List, Option, Some, None}
use Rattle.std.proofs.Common.{Result, Ok, Err, inl, inr, sym, ◌∙◌, subst, arith, length, take, length-append}
use Rattle.std.specs.Prelude.{OnOk, OnErr, IsSome}
use Rattle.std.proofs.Math.Seq.{take-append-add}
use Rattle.std.proofs.lemmas.List.{take-append-le}
use Rattle.std.specs.Io.KnownBytes.{Appends}
use Rattle.io_edge.specs.Faults.{Rose}
use Rattle.io_edge.specs.Writing.{WritesPart}
use Rattle.io_edge.proofs.Giving.{appends_both}
use Rattle.program_rules.specs.declared.program_end.ProgramEnd.{ProgramEnd}
use Rattle.program_rules.specs.Commands.Edges.{StreamEdges as Edges}
use Rattle.program_rules.specs.Commands.ProgramCall.{AnswersWords as Answers}
use Rattle.program_rules.specs.Commands.ErrorLine.{Writes}

-- a text was written completely or in part, as the result of the writing says
pub writes : {A B : Type 0} (ran : Result A B) (text : List ℕ) (before after : Option (List ℕ))
    (faults now : ℕ) → OnOk ran (Appends before after text) → OnOk ran (now ≡ faults)
    → OnErr ran (WritesPart text before after) → OnErr ran (Rose faults now)
    → Writes text before after faults now
writes (Ok done) text before after faults now written well unwritten failed = inl (written, well)
writes (Err why) text before after faults now written well unwritten failed =
    inr (unwritten, failed)

-- a text that was written goes on with what is written after it
pub writes_then : (first second : List ℕ) (before between after : Option (List ℕ)) (faults more now : ℕ)
    → Appends before between first → more ≡ faults → Writes second between after more now
    → Writes (first ++ second) before after faults now
writes_then first second before between after faults more now written well (inl (next, still)) =
    inl (appends_both before between after first second written next, still ∙ well)
writes_then first second before between after faults more now written well (inr ((n, less, part), rose)) =
    inr (
      (
        length first + n,
        omega (arith, less, length-append first second),
        subst (Appends before after) (sym (take-append-add first second n))
            (appends_both before between after first (take n second) written part),
      ),
      subst (λ f. Rose f now) well rose,
    )

-- after a failed write, a front of the text is a front of any longer text
pub writes_before : (first second : List ℕ) (before after : Option (List ℕ)) (faults now : ℕ)
    → WritesPart first before after → Rose faults now → Writes (first ++ second) before after faults now
writes_before first second before after faults now (n, less, part) rose =
    inr (
      (
        n,
        omega (arith, less, length-append first second),
        subst (Appends before after) (sym (take-append-le n first second (omega (arith, less)))) part,
      ),
      rose,
    )

-- an outcome of a call has a refusal only at status 65
pub refused_at : (words : Option (List (List ℕ))) (e : Edges) (o : ProgramEnd) → Answers words e o
    → IsSome o.fault ↔ (o.status ≡ 65)
refused_at (Some words) e o answers = answers.fault
refused_at None e o answers =
    subst (λ (x : ProgramEnd). IsSome x.fault ↔ (x.status ≡ 65)) (sym answers.0)
    (λ is. absurd (cc), λ is. absurd (omega arith))
