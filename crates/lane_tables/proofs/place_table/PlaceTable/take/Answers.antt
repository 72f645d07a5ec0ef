use Rattle.std.proofs.Common.{◌≡◌, ◌+◌, ◌-◌, ap, sym, ◌∙◌, None, Some, get_or, arith}
use Rattle.std.proofs.lemmas.List.{length-set}
use Rattle.slab.specs.Slab.{slab_len}
use Rattle.lane_tables.proofs.SlotLemmas.{found_at, by_place-take, IsKept-take}
use Rattle.lane_tables.proofs.place_table.PlaceTable.take.Goals as goal

pub returns-in_err-key-clause-value : goal.returns-in_err-key-clause-value
returns-in_err-key-clause-value g c =
    let none = c.in_err-key.ensures ∙ ap (λ keys. get_or keys c.args.place None) c.deref.ensures.value in
    c.from_residual.ensures
    ∙ sym (found_at c.self.inside.keys.items c.self.inside.values c.args.self.now.map c.args.place None
    (ap (λ t. t.map) c.self.view_is) none)

pub remove-requires : goal.remove-requires
remove-requires g c =
    let stands = sym (c.in_ok-key.ensures ∙ ap (λ keys. get_or keys c.args.place None) c.deref.ensures.value) in
    c.self.invariant.present c.args.place c.in_ok-key.key stands

pub invariant_of-self : goal.invariant_of-self
invariant_of-self g c =
    let stands = sym (c.in_ok-key.ensures ∙ ap (λ keys. get_or keys c.args.place None) c.deref.ensures.value) in
    IsKept-take c.self.inside.keys.items c.self.inside.values c.remove.new.self c.args.place c.in_ok-key.key stands
    c.self.invariant c.remove.ensures.updates

pub returns-clause-value : goal.returns-clause-value
returns-clause-value g c =
    let stands = c.in_ok-key.ensures ∙ ap (λ keys. get_or keys c.args.place None) c.deref.ensures.value in
    let found =
    found_at c.self.inside.keys.items c.self.inside.values c.args.self.now.map c.args.place (Some c.in_ok-key.key)
    (ap (λ t. t.map) c.self.view_is) stands in
    sym (found ∙ c.remove.ensures.value)

pub returns-clause-taken : goal.returns-clause-taken
returns-clause-taken g c =
    let stands = sym (c.in_ok-key.ensures ∙ ap (λ keys. get_or keys c.args.place None) c.deref.ensures.value) in
    let taken =
    by_place-take c.self.inside.keys.items c.self.inside.values c.remove.new.self c.args.place c.in_ok-key.key
    stands c.self.invariant c.remove.ensures.updates in
    let spare : c.remove.new.self.capacity - slab_len c.remove.new.self
    ≡ c.self.inside.values.capacity - slab_len c.self.inside.values + 1 =
    omega (arith, c.remove.ensures.len, c.remove.ensures.room, c.remove.ensures.capacity) in
    let long = length-set c.self.inside.keys.items c.args.place None in
    rw (← c.self.view_is) (cc (taken, spare, long))
