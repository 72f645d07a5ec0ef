use Rattle.std.proofs.Common.{◌≡◌, ◌+◌, ◌++◌, List, All, length, drop, take, map, sym, ap, ◌∙◌, subst, arith, Some}
use Rattle.bounce_hub.specs.Seen.{HubSeen}
use Rattle.turnstile.specs.Start.{start_of}
use Rattle.ideal_runs.specs.Runs.{Log}
use Rattle.lane_threads.specs.Closing.{LanePass}
use Rattle.lane_threads.proofs.ClosingLaws.{closed_same}
use Rattle.lane_threads.specs.PassDoor.{seen}
use Rattle.lane_rounds.specs.AtWork.{Works}
use Rattle.lane_run.specs.Seated.{AreSeated}
use Rattle.lane_run.proofs.Passing.{back, has-run, seated-back, tables}
use Rattle.lane_run.proofs.SeatedLaws.{few-lanes, fresh, seated-work, started}
use Rattle.lane_run.proofs.threads.run_on_threads.Goals as goal

pub overflow_cast-names : goal.overflow_cast-names
overflow_cast-names g c =
    omega (
      arith,
      c.len.ensures,
      c.in_ok-lanes.lanes.ok.0,
      few-lanes c.args.scenario.now c.in_ok-lanes.lanes.items c.requires c.in_ok-lanes.ensures.lanes,
    )

pub overflow_add-names : goal.overflow_add-names
overflow_add-names g c =
    omega (
      arith,
      c.len.ensures,
      c.in_ok-lanes.lanes.ok.0,
      few-lanes c.args.scenario.now c.in_ok-lanes.lanes.items c.requires c.in_ok-lanes.ensures.lanes,
    )

pub seat_lanes-requires-clause-fresh : goal.seat_lanes-requires-clause-fresh
seat_lanes-requires-clause-fresh g c =
    let s = c.args.scenario.now in
    let hub = c.new.ensures.hub ∙ c.in_ok-lanes.ensures.hub in
    fresh s c.requires (c.len.result + 1) c.in_ok-turnstile.first
    (ap (λ (p : LanePass). p.start) c.in_ok-turnstile.ensures.first
    ∙ ap (λ (h : HubSeen). Some (start_of (c.len.result + 1) h.history h.opening)) hub)
    (ap (λ (p : LanePass). p.front) c.in_ok-turnstile.ensures.first)
    c.in_ok-lanes.lanes.items c.in_ok-lanes.ensures.lanes

pub all_rounds-requires-after_bounds : goal.all_rounds-requires-after_bounds
all_rounds-requires-after_bounds g c κs within =
    subst (All (Works seen)) (sym c.as_mut_slice.ensures.value)
    (seated-work c.in_ok-turnstile.first c.in_ok-lanes.lanes.items c.in-Some.workers.items
    (rw c.in-Some.is at c.in_ok-workers.ensures.seated))

pub park-requires : goal.park-requires
park-requires g c =
    let first = c.in_ok-turnstile.first in
    let ls = c.in_ok-lanes.lanes.items in
    let ws = c.in-Some.workers.items in
    let vs = c.all_rounds.new.workers in
    let seated : AreSeated first ls (take c.in-Some.workers.len (vs ++ drop (length vs) ws)) =
    seated-back first ls ws c.as_mut_slice.result.now vs c.in-Some.workers.len
    (rw c.in-Some.is at c.in_ok-workers.ensures.seated) (omega (arith, c.in-Some.workers.ok.0))
    c.as_mut_slice.ensures.value c.all_rounds.ensures.len c.all_rounds.ensures.each in
    seated-work first ls (take c.in-Some.workers.len (vs ++ drop (length vs) ws)) seated

pub close_after-requires-clause-first : goal.close_after-requires-clause-first
close_after-requires-clause-first g c =
    ap (λ (p : LanePass). p.turnstile) (rw c.in-Some.is at c.in_ok-workers.ensures.same)
    ∙ ap (λ (p : LanePass). p.turnstile) c.in_ok-turnstile.ensures.first

pub close_after-requires-clause-passes : goal.close_after-requires-clause-passes
close_after-requires-clause-passes g c =
    let first = c.in_ok-turnstile.first in
    let ls = c.in_ok-lanes.lanes.items in
    let ws = c.in-Some.workers.items in
    let vs = c.all_rounds.new.workers in
    let ms = c.in_ok-parked.parked.lanes.items in
    let logs : List Log = map (λ l. l.items) c.in_ok-parked.parked.logs.items in
    let qs : List LanePass = c.in_ok-parked.passes.items in
    let seated : AreSeated first ls (take c.in-Some.workers.len (vs ++ drop (length vs) ws)) =
    seated-back first ls ws c.as_mut_slice.result.now vs c.in-Some.workers.len
    (rw c.in-Some.is at c.in_ok-workers.ensures.seated) (omega (arith, c.in-Some.workers.ok.0))
    c.as_mut_slice.ensures.value c.all_rounds.ensures.len c.all_rounds.ensures.each in
    tables first c.in_ok-turnstile.turnstile.id ls ms logs qs
    (ap (λ (p : LanePass). p.turnstile) c.in_ok-turnstile.ensures.first)
    (back first ls (take c.in-Some.workers.len (vs ++ drop (length vs) ws)) ms logs qs seated c.in_ok-parked.ensures)

pub returns : goal.returns
returns g c =
    let s = c.args.scenario.now in
    let names = c.len.result + 1 in
    let first = c.in_ok-turnstile.first in
    let ls = c.in_ok-lanes.lanes.items in
    let ws = c.in-Some.workers.items in
    let vs = c.all_rounds.new.workers in
    let ms = c.in_ok-parked.parked.lanes.items in
    let logs : List Log = map (λ l. l.items) c.in_ok-parked.parked.logs.items in
    let qs : List LanePass = c.in_ok-parked.passes.items in
    let hub : HubSeen = c.close_after.result in
    let seated : AreSeated first ls (take c.in-Some.workers.len (vs ++ drop (length vs) ws)) =
    seated-back first ls ws c.as_mut_slice.result.now vs c.in-Some.workers.len
    (rw c.in-Some.is at c.in_ok-workers.ensures.seated) (omega (arith, c.in-Some.workers.ok.0))
    c.as_mut_slice.ensures.value c.all_rounds.ensures.len c.all_rounds.ensures.each in
    let start : first.start ≡ started names s =
    ap (λ (p : LanePass). p.start) c.in_ok-turnstile.ensures.first
    ∙ ap (λ (h : HubSeen). Some (start_of names h.history h.opening))
    (c.new.ensures.hub ∙ c.in_ok-lanes.ensures.hub) in
    has-run s names first ls ms logs qs hub start (omega (arith, c.len.ensures, c.in_ok-lanes.lanes.ok.0))
    c.in_ok-lanes.ensures.lanes
    (fresh s c.requires names first start (ap (λ (p : LanePass). p.front) c.in_ok-turnstile.ensures.first) ls
    c.in_ok-lanes.ensures.lanes)
    (back first ls (take c.in-Some.workers.len (vs ++ drop (length vs) ws)) ms logs qs seated c.in_ok-parked.ensures)
    (closed_same first _ qs hub (rw c.in-Some.is at c.in_ok-workers.ensures.same) c.close_after.ensures)
