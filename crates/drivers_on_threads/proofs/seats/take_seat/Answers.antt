use Rattle.std.proofs.Common.{◌≡◌, ◌+◌, [], ◌∷◌, length, ap, sym, subst, arith, length-append}
use Rattle.lane_core.specs.LaneIdeal.{ideal}
use Rattle.lane_run.specs.Seated.{AreFresh}
use Rattle.lane_run.proofs.SeatedLaws.{seat-served}
use Rattle.lane_state.specs.Served.{IsServed}
use Rattle.lane_threads.specs.PassDoor.{seen}
use Rattle.drivers_on_threads.specs.Seats.{MayBeSeated}
use Rattle.drivers_on_threads.proofs.SeatLaws.{last-fresh, rest-fresh}
use Rattle.drivers_on_threads.proofs.seats.take_seat.Goals as goal

pub returns-clause-served : goal.returns-clause-served
returns-clause-served g c =
    let root = c.args.root.now in
    let rest = c.pop.new.self.items in
    let lane = c.in_ok-lane.lane in
    let fresh = subst (AreFresh root 0) c.in_ok-lane.ensures.items c.requires.fresh in
    let number : c.len-number.result + 1 ≡ (0 + length rest) + 1 = omega (arith, c.len-number.ensures, c.pop.new.self.ok.0) in
    subst (λ p. IsServed (ideal lane) (seen p)) (sym c.new-door.ensures)
    (seat-served root c.in_ok-pass.pass _ (0 + length rest) (ideal lane) c.in_ok-pass.ensures.new number
    (last-fresh root 0 rest lane fresh))

pub returns-clause-others : goal.returns-clause-others
returns-clause-others g c =
    let root = c.args.root.now in
    let rest = c.pop.new.self.items in
    let lane = c.in_ok-lane.lane in
    let last = c.in_ok-lane.ensures.items in
    let fresh = subst (AreFresh root 0) last c.requires.fresh in
    subst (λ r. MayBeSeated c.args.turnstile.now r rest) (sym c.in_ok-pass.ensures.one) (record {
      turnstile = c.requires.turnstile;
      names = omega (arith, ap length last, length-append rest (lane ∷ []), c.requires.names);
      few = c.requires.few;
      fresh = rest-fresh root 0 rest lane fresh;
    })
