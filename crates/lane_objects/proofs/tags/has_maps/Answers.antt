use Rattle.std.proofs.Common.{◌≡◌, ◌==◌, ap, sym, ◌∙◌}
use Rattle.std.specs.FinMap.{entries}
use Rattle.std.specs.List.{list_any}
use Rattle.lane_state.specs.Kept.{map_of}
use Rattle.lane_state.proofs.MapValues.{any-map_values}
use Rattle.lane_objects.proofs.tags.has_maps.Goals as goal

pub loop-kept-init : goal.loop-kept-init
loop-kept-init c =
    let same : c.into_iter-kept-iterator.result ≡ entries c.args.holdings.now.maps.map = cc in
    ap (list_any (λ e. e.1.tag == c.args.tag)) same
    ∙ sym (any-map_values map_of (λ e. e.1.tag == c.args.tag) c.args.holdings.now.maps.map)
