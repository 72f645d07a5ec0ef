use Rattle.std.proofs.Common.{◌≡◌, ◌-◌, ◌<◌, ap, Some, length, arith}
use Rattle.std.proofs.lemmas.List.{length-set}
use Rattle.slab.specs.Slab.{slab_len}
use Rattle.lane_tables.proofs.SlotLemmas.{by_place-put, IsKept-put}
use Rattle.lane_tables.proofs.place_table.PlaceTable.put.Goals as goal

pub invariant_of-self : goal.invariant_of-self
invariant_of-self g c =
    let within : c.args.place < length c.self.inside.keys.items =
    omega (arith, ap (λ t. t.places) c.self.view_is, c.requires.in_script) in
    IsKept-put c.self.inside.keys.items c.self.inside.values c.insert_reserved.new.self c.args.place
    c.insert_reserved.result c.args.value within c.self.invariant
    c.insert_reserved.ensures.was_vacant c.insert_reserved.ensures.updates

pub returns : goal.returns
returns g c =
    let within : c.args.place < length c.self.inside.keys.items =
    omega (arith, ap (λ t. t.places) c.self.view_is, c.requires.in_script) in
    let put = by_place-put c.self.inside.keys.items c.self.inside.values c.insert_reserved.new.self c.args.place
    c.insert_reserved.result c.args.value within c.self.invariant c.insert_reserved.ensures.was_vacant
    c.insert_reserved.ensures.updates in
    let spare : c.insert_reserved.new.self.capacity - slab_len c.insert_reserved.new.self
    ≡ c.self.inside.values.capacity - slab_len c.self.inside.values - 1 =
    omega (arith, c.insert_reserved.ensures.len, c.insert_reserved.ensures.capacity) in
    let long = length-set c.self.inside.keys.items c.args.place (Some c.insert_reserved.result) in
    rw (← c.self.view_is) (cc (put, spare, long))
