use Rattle.std.proofs.Common.{◌+◌, ◌∙◌, Some, ap, sym}
use Rattle.std.specs.Option.{option_map}
use Rattle.ideal_lane.specs.Places.{begin_of, virtual_at}
use Rattle.ideal_lane.specs.State.{LaneMemory}
use Rattle.lane_state.specs.Ideal.{ideal_of}
use Rattle.lane_state.specs.Kept.{memory_of}
use Rattle.lane_state.proofs.MapValues.{image-none, image-some}
use Rattle.lane_state.proofs.holdings.Holdings.virtual_at.Goals as goal

pub returns-in_err-kept-in-In : goal.returns-in_err-kept-in-In
returns-in_err-kept-in-In c =
    let h = c.args.self.now in
    c.from_residual.ensures
    ∙ sym (ap (virtual_at (ideal_of h)) c.in-In.is
    ∙ ap (option_map (λ (x : LaneMemory). begin_of x + c.in-In.off))
    (image-none memory_of h.memories.map c.in-In.mem (sym c.in_err-kept-in-In.ensures)))

pub returns-in_ok-kept-in-In : goal.returns-in_ok-kept-in-In
returns-in_ok-kept-in-In c =
    let h = c.args.self.now in
    ap (λ b. Some (b + c.in-In.off)) c.begin_of.ensures.is
    ∙ sym (ap (virtual_at (ideal_of h)) c.in-In.is
    ∙ ap (option_map (λ (x : LaneMemory). begin_of x + c.in-In.off))
    (image-some memory_of h.memories.map c.in-In.mem c.in_ok-kept-in-In.kept.now (sym c.in_ok-kept-in-In.ensures)))
