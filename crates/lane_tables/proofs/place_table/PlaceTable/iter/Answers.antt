use Rattle.std.proofs.Common.{◌≡◌, ◌∙◌, ap, eqb-true, length, sym}
use Rattle.slab.specs.Slab.{slab_len}
use Rattle.std.proofs.iter.runs.Sources.{from_front}
use Rattle.std.specs.FinMap as map
use Rattle.std.specs.Ordering.{nat_cmp}
use Rattle.std.specs.Map.Iter.{TakesFirst}
use Rattle.lane_tables.specs.Places.{shown}
use Rattle.lane_tables.specs.Slots.{slots}
use Rattle.lane_tables.proofs.SlotLemmas.{no_entries, sorted_entries}
use Rattle.lane_tables.proofs.place_table.PlaceTable.iter.Goals as goal

pub returns-clause-rest : goal.returns-clause-rest
returns-clause-rest g c =
    rw (
      c.as_slice.ensures.value,
      ← c.self.view_is,
      map.entries-from_sorted nat_cmp _ (sorted_entries 0 (slots c.self.inside.keys.items c.self.inside.values)),
    )

pub returns-clause-runs : goal.returns-clause-runs
returns-clause-runs g c = from_front (TakesFirst shown) shown (λ s. s) (λ s t h. ap length h.0) (λ s x t h. h)

pub returns-then-is_empty-clause-rest : goal.returns-then-is_empty-clause-rest
returns-then-is_empty-clause-rest g c =
    let empty : slab_len c.self.inside.values ≡ 0 = eqb-true _ _ (sym c.is_empty.ensures ∙ c.if-is_empty.true) in
    rw (
      ← c.self.view_is,
      map.entries-from_sorted nat_cmp _ (sorted_entries 0 (slots c.self.inside.keys.items c.self.inside.values)),
    )
    (sym (no_entries 0 c.self.inside.keys.items c.self.inside.values empty))

pub returns-then-is_empty-clause-runs : goal.returns-then-is_empty-clause-runs
returns-then-is_empty-clause-runs g c = from_front (TakesFirst shown) shown (λ s. s) (λ s t h. ap length h.0)
    (λ s x t h. h)
