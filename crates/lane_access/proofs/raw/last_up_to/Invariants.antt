use Rattle.std.proofs.Common.{◌≡◌, None}
use Rattle.std.specs.FinMap.{entries}
use Rattle.lane_access.specs.Raw.{last_of}
use Rattle.lane_access.proofs.raw.last_up_to.Given as goal

abbrev pub invariant-loop-map : goal.invariant-loop-map
invariant-loop-map l = record {
  left : last_of l.tag l.page l.last l.map-iterator ≡ last_of l.tag l.page None (entries l.holdings.maps.map);
}
