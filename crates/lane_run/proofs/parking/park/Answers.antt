use Rattle.std.proofs.Common.{◌≡◌, ◌++◌, [], ◌∷◌, List, All, ap, sym, ◌∙◌, subst, map, append_assoc}
use Rattle.std.proofs.lemmas.List.Elements.{All-tail}
use Rattle.lane_core.specs.declared.lane.Lane.{Lane}
use Rattle.lane_core.specs.LaneIdeal.{ideal}
use Rattle.ideal_runs.specs.Runs.{Log}
use Rattle.lane_threads.specs.Closing.{LanePass}
use Rattle.lane_threads.specs.PassDoor.{door_place, seen}
use Rattle.lane_rounds.specs.AtWork.{IsAtWork, Works}
use Rattle.lane_run.specs.Parked.{ArePassed}
use Rattle.lane_run.specs.Seated.{Seat, seat_of}
use Rattle.lane_run.proofs.Passing.{map-snoc, passed-more}
use Rattle.lane_run.proofs.parking.park.Goals as goal

pub loop-worker-preserved : goal.loop-worker-preserved
loop-worker-preserved g c =
    let w : Seat = c.in-Some.worker in
    let inv = c.loop-worker.invariant in
    let done = inv.2.0 in
    let rest = c.next.new.self.rest.items in
    let step = c.in-Some.ensures.steps.0 in
    let f = c.finish-lane in
    let q : LanePass = c.into_pass.result in
    let work : IsAtWork (seat_of w).first (ideal f.result.lane) f.result.log.items (seen q) =
    subst (λ (x : LanePass). IsAtWork (seat_of w).first (ideal f.result.lane) f.result.log.items (seen x))
    (sym c.into_pass.ensures) f.ensures.work in
    let same : door_place q ≡ (seat_of w).fixed = ap door_place c.into_pass.ensures ∙ f.ensures.fixed in
    let logs = c.loop-worker.parked.logs.items in
    let more =
    passed-more done c.loop-worker.parked.lanes.items (map (λ x. x.items) logs) c.loop-worker.passes.items
    w f.result.lane f.result.log.items q inv.2.2 work same in
    let logged = ap (map (λ x. x.items)) c.in_ok-push-2.ensures.items ∙ map-snoc (λ x. x.items) logs f.result.log in (
      tt,
      tt,
      (
        done ++ w ∷ [],
        append_assoc done (w ∷ []) rest ∙ (ap (λ ws. done ++ ws) (sym step) ∙ inv.2.1),
        subst (λ (x : List Lane × List Log × List LanePass). ArePassed (done ++ w ∷ []) x.0 x.1 x.2)
            (λ i. (sym c.in_ok-push.ensures.items i, sym logged i, sym c.in_ok-push-4.ensures.items i)) more,
      ),
      All-tail (Works seen) w rest (subst (All (Works seen)) step inv.3),
    )
