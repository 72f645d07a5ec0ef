use Rattle.std.proofs.Common.{◌≡◌, ◌==◌}
use Rattle.std.specs.List.{list_any}
use Rattle.ideal_lane.specs.Tags.{has_maps}
use Rattle.lane_state.specs.Ideal.{ideal_of}
use Rattle.lane_objects.proofs.tags.has_maps.Given as goal

abbrev pub invariant-loop-kept : goal.invariant-loop-kept
invariant-loop-kept l = list_any (λ e. e.1.tag == l.tag) l.kept-iterator ≡ has_maps (ideal_of l.holdings) l.tag
