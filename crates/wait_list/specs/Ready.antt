-- What contracts see of the callback list.
use Rattle.std.specs.Prelude.{ℕ, Bool, false, ◌==◌, List, [], ◌∷◌}
use Rattle.busdma_machine.specs.declared.bounce.zone.Waiter.{Waiter}

-- a callback list: its maps in order, and how many more there is room for
pub record Ready : Type 0 where
  pub items : List Waiter
  pub spare : ℕ

-- the first map of a list is one of the lane's
abbrev pub is_of : ℕ → List Waiter → Bool
is_of lane [] = false
is_of lane (w ∷ ws) = w.map.lane.0 == lane
