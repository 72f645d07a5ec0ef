use Rattle.std.proofs.Common.{◌∙◌, ◌+◌, Some, ap, arith}
use Rattle.bounce_hub.specs.Seen.{HubSeen}
use Rattle.lane_run.proofs.SeatedLaws.{few-lanes, fresh}
use Rattle.lane_threads.specs.Closing.{LanePass}
use Rattle.turnstile.specs.Start.{start_of}
use Rattle.drivers_on_threads.proofs.run_machine.Goals as goal

pub overflow_cast-names : goal.overflow_cast-names
overflow_cast-names g c =
    let lanes = c.in_ok-lanes.lanes in
    omega (
      arith,
      c.len.ensures,
      lanes.ok.0,
      few-lanes c.args.machine.now lanes.items c.requires c.in_ok-lanes.ensures.lanes,
    )

pub overflow_add-names : goal.overflow_add-names
overflow_add-names g c =
    let lanes = c.in_ok-lanes.lanes in
    omega (
      arith,
      c.len.ensures,
      lanes.ok.0,
      few-lanes c.args.machine.now lanes.items c.requires c.in_ok-lanes.ensures.lanes,
    )

pub take_seat-requires : goal.take_seat-requires
take_seat-requires g c =
    let s = c.args.machine.now in
    let lanes = c.in_ok-lanes.lanes in
    let names = c.len.result + 1 in
    let first = c.in_ok-turnstile.ensures.first in
    let few = few-lanes s lanes.items c.requires c.in_ok-lanes.ensures.lanes in
    let hub = c.new.ensures.hub ∙ c.in_ok-lanes.ensures.hub in
    record {
      turnstile = ap (λ (p : LanePass). p.turnstile) first;
      names = omega (arith, c.len.ensures, lanes.ok.0, c.in_ok-turnstile.ensures.names);
      few = omega (arith, few, c.len.ensures, lanes.ok.0, c.in_ok-turnstile.ensures.names);
      fresh =
          fresh s c.requires names c.in_ok-turnstile.root
          (ap (λ (p : LanePass). p.start) first
          ∙ ap (λ (h : HubSeen). Some (start_of names h.history h.opening)) hub)
          (ap (λ (p : LanePass). p.front) first) lanes.items c.in_ok-lanes.ensures.lanes;
    }
