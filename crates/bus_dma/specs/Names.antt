-- The places of names.
use Rattle.std.specs.Prelude.{ℕ, Option}
use Rattle.std.specs.Option.{option_map}
use Rattle.busdma_machine.specs.declared.name.MapId.{MapId}

-- the place of what has a name, if it has one
abbrev pub made_at : Option MapId → Option ℕ
made_at on = option_map (λ (m : MapId). m.made_at) on
