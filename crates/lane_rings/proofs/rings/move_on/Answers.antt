use Rattle.std.proofs.Common.{◌≡◌, ◌+◌, ◌%◌, Some, refl, ap, ◌∙◌}
use Rattle.std.specs.FinMap.{insert}
use Rattle.lane_state.specs.declared.kept.KeptRing.{KeptRing}
use Rattle.lane_state.specs.Ideal.{ideal_of}
use Rattle.lane_state.specs.Kept.{kept_ring}
use Rattle.lane_state.proofs.MapValues.{map_values-insert}
use Rattle.lane_rings.proofs.rings.move_on.Goals as goal

pub returns : goal.returns
returns c =
    let h = c.args.holdings.now in
    let kept = c.args.kept in
    let now : KeptRing = c.in-Some.now.now in
    let there : Some now ≡ Some kept = c.in-Some.ensures.value ∙ c.requires.there in
    let same : now ≡ kept = cc in
    record {
      done = λ i. record (ideal_of h) {
        rings = (map_values-insert kept_ring h.rings.map c.args.ring
            (record now { head = (kept.head + 1) % kept.slots })
            ∙ ap (λ (r : KeptRing). insert (ideal_of h).rings c.args.ring
            (kept_ring (record r { head = (kept.head + 1) % kept.slots }))) same) i;
      };
      wire = refl;
      script = refl;
      memories = refl;
      agenda = refl;
    }
