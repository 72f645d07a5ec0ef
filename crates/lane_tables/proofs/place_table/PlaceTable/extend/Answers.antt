use Rattle.std.proofs.Common.{◌≡◌, ◌+◌, ap, arith, ◌∷◌, ◌++◌, [], None, refl, length, length-append}
use Rattle.lane_tables.proofs.SlotLemmas.{by_place-more}
use Rattle.lane_tables.proofs.place_table.PlaceTable.extend.Goals as goal

pub returns-clause-ok : goal.returns-clause-ok
returns-clause-ok g c =
    let keys = c.in_ok-push.ensures.items in
    let long : length (c.self.inside.keys.items ++ None ∷ []) ≡ length c.self.inside.keys.items + 1 =
    omega (arith, length-append c.self.inside.keys.items (None ∷ [])) in
    rw (← c.self.view_is, keys, by_place-more, long) refl
