-- What is known from the start: how many names there are, the history that the object came with, and its fixed part.
use Rattle.std.specs.Prelude.{ℕ, ◌<◌, List, ◌++◌, All}
use mathlib.Core.List.{IsPrefix}
use Rattle.turnstile.specs.TurnHistory.{entries}
use Rattle.turnstile.specs.declared.view.Start.{Start}

module _ {E F : Type 0} where
  abbrev pub start_of : ℕ → List E → F → Start E F
  start_of names opening fixed = record { names = names; opening = opening; fixed = fixed }

  -- the object's history after these turns
  abbrev pub history_after : Start E F → List (ℕ × E) → List E
  history_after start turns = start.opening ++ entries turns

-- a turn history that an object can have had: each name is below the number of names, each entry fits its name, and
-- the object's history was legal after each turn
pub record IsLawful {E F : Type 0} (legal : F → List E → Type 0) (fits : ℕ → E →
    Type 0) (start : Start E F) (turns : List (ℕ × E)) : Type 0 where
  pub pairs : All (λ turn. (turn.0 < start.names) × fits turn.0 turn.1) turns
  pub lawful : (first : List (ℕ × E)) → IsPrefix first turns → legal start.fixed (history_after start first)
