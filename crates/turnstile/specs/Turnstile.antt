-- What contracts see of a turnstile.
use Rattle.std.specs.Prelude.{ℕ}
use Rattle.atomic_table.specs.Seated.{TableId}

-- which one it is, and how many names it has
pub record TurnstileView : Type 0 where
  pub id : TableId
  pub names : ℕ

-- a turnstile with this table and so many names
abbrev pub turnstile_view : TableId → ℕ → TurnstileView
turnstile_view id names = record { id = id; names = names }
