-- What a table of values by script place becomes when a `&mut` to one of its values is lent.
use Rattle.std.specs.Prelude.{ℕ, Option}
use Rattle.std.specs.Borrow.{LendsIf, Fml, RattleType, MutBor}
use Rattle.std.specs.FinMap as map
use Rattle.lane_tables.specs.Places.{Places}
use Rattle.lane_tables.specs.contracts.place_table.PlaceTable.{the_row}

-- a table with another value at a place
abbrev pub with_value : {T : Type 0} → Places T → ℕ → T → Places T
with_value t place value = record t { map = map.insert t.map place value }

-- once the borrow ends, the place has the last value written through it; at `None` the table is unchanged
abbrev pub lends_get : (T : RattleType) → MutBor (Places T.Denot) → ℕ → Option (MutBor T.Denot) → Fml
lends_get T s place r = LendsIf (the_row T) T s r (with_value s.now place) s.now
