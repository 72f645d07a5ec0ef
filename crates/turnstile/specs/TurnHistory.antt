-- A turn history lists, in the order of the turns, each entry that was added, beside the name of the pass that added
-- it.
use Rattle.std.specs.Prelude.{◌≢◌, All, ◌==◌, if◌then◌else◌, ℕ, List, [], ◌∷◌, map, length, nat_lt}

module _ {E : Type 0} where
  -- the entries, without the names
  abbrev pub entries : List (ℕ × E) → List E
  entries turns = map (λ turn. turn.1) turns

  -- the entries under this name
  abbrev pub calls_of : ℕ → List (ℕ × E) → List E
  calls_of name [] = []
  calls_of name (turn ∷ turns) = if turn.0 == name then turn.1 ∷ calls_of name turns else calls_of name turns

  -- these entries, each under this name
  abbrev pub turns_of : ℕ → List E → List (ℕ × E)
  turns_of name added = map (λ entry. (name, entry)) added

  -- no turn is of this name
  abbrev pub IsOfOthers : ℕ → List (ℕ × E) → Type 0
  IsOfOthers name turns = All (λ turn. turn.0 ≢ name) turns

  -- the longer of two turn histories
  abbrev pub longer : List (ℕ × E) → List (ℕ × E) → List (ℕ × E)
  longer first second = if nat_lt (length first) (length second) then second else first
