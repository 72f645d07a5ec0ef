use Rattle.std.proofs.Common.{ap, sym, ◌∙◌, None, get_or}
use Rattle.lane_tables.proofs.SlotLemmas.{found_at}
use Rattle.lane_tables.proofs.place_table.PlaceTable.get.Goals as goal

pub returns : goal.returns
returns g c =
    let stands = c.key_at.ensures ∙ ap (λ keys. get_or keys c.args.place None) c.deref.ensures.value in
    let found = found_at c.self.inside.keys.items c.self.inside.values c.args.self.now.map c.args.place c.key_at.result
    (ap (λ t. t.map) c.self.view_is) stands in
    c.value_under.ensures ∙ sym found
