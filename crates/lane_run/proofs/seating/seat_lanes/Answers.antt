use Rattle.std.proofs.Common.{◌≡◌, ℕ, ◌+◌, ◌++◌, [], ◌∷◌, length, sym, ap, ◌∙◌, subst, append_assoc, length-append}
use Rattle.std.proofs.Common.{arith}
use Rattle.lane_threads.specs.PassDoor as pass
use Rattle.lane_threads.specs.Closing.{LanePass}
use Rattle.lane_rounds.specs.AtWork.{Place}
use Rattle.lane_run.specs.Seated.{AreFresh, AreSeated, IsSeated, Seat}
use Rattle.lane_run.proofs.SeatedLaws.{seated-more}
use Rattle.lane_run.proofs.seating.seat_lanes.Goals as goal

pub loop-lane-preserved : goal.loop-lane-preserved
loop-lane-preserved g c =
    let l = c.in-Some.lane in
    let w : Seat = c.new.result in
    let inv = c.loop-lane.invariant in
    let done = inv.2.0 in
    let rest = c.next.new.self.rest.items in
    let step = c.in-Some.ensures.steps.0 in
    let first : LanePass = c.args.first.now in
    let split = c.in-Some-split.ensures.new.is in
    let one_more = c.in-Some-split.ensures.one in
    let place = c.new.ensures.place in
    let cut = c.new-door.ensures ∙ split in
    let one : IsSeated first l w = record {
      works = c.new.ensures.works;
      began = ap (λ (p : Place pass.Place). p.first) place;
      turnstile =
          ap (λ (p : Place pass.Place). p.fixed.turnstile) place
          ∙ (ap (λ (p : LanePass). p.turnstile) cut ∙ ap (λ (p : LanePass). p.turnstile) inv.3);
      start =
          ap (λ (p : Place pass.Place). p.fixed.start) place
          ∙ (ap (λ (p : LanePass). p.start) cut ∙ ap (λ (p : LanePass). p.start) inv.3);
    } in
    let more = seated-more first done c.loop-lane.workers.items l w inv.2.2 one in
    let count : length c.push.new.self.items ≡ length c.loop-lane.workers.items + 1 =
    ap length c.in_ok-push.ensures.items ∙ length-append c.loop-lane.workers.items (w ∷ []) in
    let fresh = subst (AreFresh first (length c.loop-lane.workers.items)) step inv.5 in (
      tt,
      tt,
      (
        done ++ l ∷ [],
        append_assoc done (l ∷ []) rest ∙ (ap (λ ls. done ++ ls) (sym step) ∙ inv.2.1),
        subst (AreSeated first (done ++ l ∷ [])) (sym c.in_ok-push.ensures.items) more,
      ),
      one_more
          ∙ (ap (λ (p : LanePass). record p { splits = c.loop-lane.first.splits + 1 }) inv.3
          ∙ ap (λ (n : ℕ). record first { splits = n }) (sym (ap (λ (p : LanePass). p.splits) one_more))),
      omega (arith, count, inv.4, ap length step),
      subst (λ n. AreFresh first n rest) (sym count) fresh.1,
      omega (arith, count, inv.6, ap (λ (p : LanePass). p.splits) one_more),
      ap (λ (p : LanePass). p.turnstile) one_more ∙ inv.7,
    )
