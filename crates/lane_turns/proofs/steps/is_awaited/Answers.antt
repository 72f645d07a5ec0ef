use Rattle.std.proofs.Common.{ap, sym, ◌∙◌, ◌||◌}
use Rattle.busdma_base.specs.Scenarios.Queues.{queue_names}
use Rattle.lane_state.specs.Ideal.{ideal_of}
use Rattle.lane_state.specs.Kept.{map_of}
use Rattle.lane_turns.proofs.AwaitedMaps.{awaits-none, awaits-some, state-goes, state-waits}
use Rattle.lane_state.proofs.MapValues.{image-none, image-some}
use Rattle.lane_turns.proofs.steps.is_awaited.Goals as goal

pub returns-in_default : goal.returns-in_default
returns-in_default c =
    let h = c.args.holdings.now in
    sym (awaits-none (ideal_of h) c.args.map (image-none map_of h.maps.map c.args.map (sym c.in_default.ensures)))

pub returns-in_default-state : goal.returns-in_default-state
returns-in_default-state c =
    let h = c.args.holdings.now in
    let o = c.in-Some.kept.now in
    c.names.ensures
    ∙ sym (ap (λ b. b || queue_names c.args.map h.agenda.queue)
    (state-goes o.map.stage (λ e. c.in_default-state.not-Waiting (c.state.ensures ∙ e))))
    ∙ sym (awaits-some (ideal_of h) c.args.map (map_of o)
    (image-some map_of h.maps.map c.args.map o (sym c.in-Some.ensures)))

pub returns : goal.returns
returns c =
    let h = c.args.holdings.now in
    let o = c.in-Some.kept.now in
    sym (ap (λ b. b || queue_names c.args.map h.agenda.queue)
    (state-waits o.map.stage (sym c.state.ensures ∙ c.in-Waiting.is)))
    ∙ sym (awaits-some (ideal_of h) c.args.map (map_of o)
    (image-some map_of h.maps.map c.args.map o (sym c.in-Some.ensures)))
