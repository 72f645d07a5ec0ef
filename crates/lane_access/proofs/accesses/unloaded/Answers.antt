use Rattle.std.proofs.Common.{sym, ◌∙◌}
use Rattle.lane_state.specs.Ideal.{ideal_of}
use Rattle.lane_state.specs.Kept.{map_of}
use Rattle.lane_access.proofs.DeviceReads.{none-loaded, not-there}
use Rattle.lane_state.proofs.Keeping.{state-unloaded}
use Rattle.lane_state.proofs.MapValues.{image-none, image-some}
use Rattle.lane_access.proofs.accesses.unloaded.Goals as goal

pub returns-in_default-clause-refused : goal.returns-in_default-clause-refused
returns-in_default-clause-refused c =
    not-there (ideal_of c.args.holdings.now) c.args.map
    (image-none map_of c.args.holdings.now.maps.map c.args.map (sym c.in_default.ensures))

pub returns-in_default-state : goal.returns-in_default-state
returns-in_default-state c =
    let o = c.in-Some.kept.now in
    record {
      refused = none-loaded (ideal_of c.args.holdings.now) c.args.map (map_of o)
          (image-some map_of c.args.holdings.now.maps.map c.args.map o (sym c.in-Some.ensures))
          (state-unloaded o.map.stage (λ e. c.in_default-state.not-Loaded (c.state.ensures ∙ e)));
      loaded = tt;
    }
