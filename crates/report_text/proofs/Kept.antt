-- Texts in memory.
use Rattle.std.proofs.Common.{◌≡◌, List, [], ◌++◌, ℕ, Some, Result, Ok, Err, IfOk, OnOk, IsOk, refl, ap, ◌∙◌}
use Rattle.std.specs.declared.alloc.AllocError.{AllocError}
use Rattle.std.specs.Io.KnownBytes.{Appends}
use Rattle.io_edge.specs.declared.sink.Unwritten.{Unwritten}

-- an empty sink holds a text after the text was written completely
pub kept : (before after text : List ℕ) (written : Result (Unit {0}) Unwritten) (result : Result (List ℕ) AllocError)
    → before ≡ [] → OnOk written (Appends (Some before) (Some after) text)
    → IfOk result (λ t. t ≡ after) → (IsOk result → IsOk written) → IfOk result (λ t. t ≡ text)
kept before after text written (Err e) empty wrote whole ended = tt
kept before after text (Err why) (Ok t) empty wrote whole ended = absurd (cc (ended refl))
kept before after text (Ok done) (Ok t) empty wrote whole ended = whole ∙ wrote ∙ ap (λ h. h ++ text) empty
