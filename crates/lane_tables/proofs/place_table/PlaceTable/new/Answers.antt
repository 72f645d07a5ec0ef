use Rattle.std.proofs.Common.{◌≡◌, ◌-◌, replicate, None, Some, refl, arith}
use Rattle.std.proofs.lemmas.List.{length-replicate}
use Rattle.slab.specs.Slab.{slab_len}
use Rattle.lane_tables.proofs.SlotLemmas.{by_place-none}
use Rattle.lane_tables.proofs.place_table.PlaceTable.new.Goals as goal

pub returns : goal.returns
returns g c =
    let keys : c.in_ok-vec.field-0.items ≡ replicate c.args.places None =
    c.in_ok-vec.ensures.items_if_clones_equal (elim [ None ↦ λ h. refl | Some v ↦ λ h. absurd h ]) in
    let spare : c.new.result.capacity - slab_len c.new.result ≡ 0 = omega (arith, c.new.ensures.capacity) in
    rw (keys, by_place-none, spare, length-replicate) refl
