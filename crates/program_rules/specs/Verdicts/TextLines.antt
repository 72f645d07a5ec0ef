-- A text cut into lines.
use Rattle.std.specs.Prelude.{ℕ, ◌==◌, List, [], ◌∷◌, if◌then◌else◌}
use Rattle.std.specs.List.{common_prefix_len, onto_first}
use Rattle.std.specs.Str.{bytes_eq}

-- the lines of a text, each with its line feed; a last piece without a line feed is a line as well
abbrev pub lines : List ℕ → List (List ℕ)
lines [] = []
lines (b ∷ bs) = if b == 10 then (b ∷ []) ∷ lines bs else onto_first b (lines bs)

-- how many lines two lists have in common from their first on
abbrev pub alike_lines : List (List ℕ) → List (List ℕ) → ℕ
alike_lines xs ys = common_prefix_len bytes_eq xs ys
