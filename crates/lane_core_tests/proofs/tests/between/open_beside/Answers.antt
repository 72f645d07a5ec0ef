use Rattle.std.proofs.Common.{◌≡◌, ◌<◌, ◌∷◌, ◌++◌, [], ap, sym, ◌∙◌, length, slice_get, subst, arith}
use Rattle.bounce_hub.specs.Seen.{door}
use Rattle.lane_core.specs.declared.lane.Lane.{Lane}
use Rattle.lane_core.specs.LaneIdeal.{ideal}
use Rattle.lane_state.specs.Served.{IsServed}
use Rattle.lane_core_tests.specs.Beside.{Beside, seen}
use Rattle.lane_core_tests.specs.Serving.{Serves}
use Rattle.lane_core_tests.proofs.Coming.{served-there}
use Rattle.lane_core_tests.proofs.Popping.{last-there, before-last, some-there}
use Rattle.lane_core_tests.proofs.tests.between.open_beside.Goals as goal

pub new-requires-clause-apart : goal.new-requires-clause-apart
new-requires-clause-apart g c = λ none.
    some-there c.pop-2.new.self.items c.in-Some-pop.first
    (sym (ap (λ ls. length ls) c.in-Some-pop.ensures.items)
    ∙ (sym (c.into_parts-lanes.ensures.numbered (length c.pop.new.self.items) c.in-Some.second
    (ap (λ ls. slice_get ls (length c.pop.new.self.items)) c.in-Some.ensures.items
    ∙ last-there c.pop.new.self.items c.in-Some.second))
    ∙ (sym (ap (λ (l : Lane). (ideal l).id) c.new-other.ensures) ∙ none)))

pub new-requires-clause-served : goal.new-requires-clause-served
new-requires-clause-served g c =
    subst (λ (l : Lane). IsServed (ideal l) (door c.into_parts-lanes.result.1)) (sym c.new-other.ensures)
    (c.into_parts-lanes.ensures.served (length c.pop.new.self.items) c.in-Some.second
    (ap (λ ls. slice_get ls (length c.pop.new.self.items)) c.in-Some.ensures.items
    ∙ last-there c.pop.new.self.items c.in-Some.second))

pub returns : goal.returns
unfolding Serves
returns g c =
    let xs = c.pop-2.new.self.items in
    let size : length xs ≡ length c.as_slice.result.now = ap length (sym c.as_slice.ensures.value) in
    let below : length c.as_slice.result.now < 1 = c.in-empty.len_below in
    let none : length xs ≡ 0 = omega (arith, size, below) in
    let there = ap (λ ls. slice_get (ls ++ c.in-Some.second ∷ []) (length xs)) c.in-Some-pop.ensures.items
    ∙ before-last xs c.in-Some-pop.first c.in-Some.second in
    let at = ap (λ ls. slice_get ls (length xs)) c.in-Some.ensures.items ∙ there in
    subst (λ (b : Beside). IsServed (ideal c.in-Some-pop.first) (seen b)) (sym c.new.ensures)
    (served-there (ideal c.in-Some-pop.first) 0 c.into_parts-lanes.result.1
    (c.into_parts-lanes.ensures.numbered (length xs) c.in-Some-pop.first at ∙ none)
    (c.into_parts-lanes.ensures.served (length xs) c.in-Some-pop.first at))
