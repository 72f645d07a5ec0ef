use Rattle.std.proofs.Common.{ap, ◌∙◌}
use Rattle.std.specs.FinMap.{insert}
use Rattle.lane_state.specs.Ideal.{ideal_of}
use Rattle.lane_state.specs.Kept.{kept_ring}
use Rattle.lane_state.specs.MapValues.{map_values}
use Rattle.lane_state.proofs.MapValues.{map_values-insert}
use Rattle.lane_objects.proofs.rings.put_ring.Goals as goal

pub returns-clause-done : goal.returns-clause-done
returns-clause-done c =
    let h = c.args.holdings.now in
    let l = ideal_of h in
    λ i. record l {
      rings = (ap (λ rs. map_values kept_ring rs.map) c.put.ensures
          ∙ map_values-insert kept_ring h.rings.map c.place-place.result c.args.ring
          ∙ ap (λ p. insert l.rings p (kept_ring c.args.ring)) c.place-place.ensures) i;
    }
