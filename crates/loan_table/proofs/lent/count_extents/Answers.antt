use Rattle.std.proofs.Common.{ℕ, ◌+◌, drop, get_or, ◌∙◌, ap, cond, arith}
use Rattle.std.proofs.lemmas.List.{at_drop_more}
use Rattle.busdma_machine.specs.Runs.{addresses}
use Rattle.run_set.specs.Counts.{changed, count}
use Rattle.run_set.specs.Edges.{is_inside_run}
use Rattle.loan_table.specs.Rows.{stands}
use Rattle.loan_table.proofs.Addresses.{no_extent}
use Rattle.loan_table.proofs.Places.{counted_on, held_on, stands_ahead, stands_here}
use Rattle.loan_table.proofs.lent.count_extents.Goals as goal

pub count_extent-requires-clause-held : goal.count_extent-requires-clause-held
count_extent-requires-clause-held c down a from to =
    let run = get_or c.args.extents.now c.loop-extent.extent-index no_extent in
    let more = at_drop_more addresses c.args.extents.now c.loop-extent.extent-index no_extent c.loop-extent-test.true in
    let ahead = stands_ahead a run.pa.0 run.len _ _ more in
    omega (arith, ahead, stands_here a run.pa.0 run.len from to, c.loop-extent.invariant.held down a)

pub loop-extent-preserved : goal.loop-extent-preserved
loop-extent-preserved c =
    let xs = c.args.extents.now in
    let i = c.loop-extent.extent-index in
    let run = get_or xs i no_extent in
    let more = at_drop_more addresses xs i no_extent c.loop-extent-test.true in
    record {
      counted = λ a.
          let here = is_inside_run run.pa.0 (run.pa.0 + run.len) a in
          let ahead = stands_ahead a run.pa.0 run.len _ _ more in
          counted_on c.args.up here (count c.loop-extent.counts a) (count c.count_extent.new.counts a)
          (stands a (addresses xs)) (stands a (addresses (drop i xs))) (stands a (addresses (drop (i + 1) xs)))
          (count c.args.counts.now a) (c.count_extent.ensures.counts a)
          (λ down is. omega (arith, ahead, ap {B = ℕ} (λ b. cond b 1 0) is, c.loop-extent.invariant.held down a)) ahead
          (c.loop-extent.invariant.counted a);
      held = λ down a.
          let here = is_inside_run run.pa.0 (run.pa.0 + run.len) a in
          let ahead = stands_ahead a run.pa.0 run.len _ _ more in
          held_on here (count c.loop-extent.counts a) (count c.count_extent.new.counts a)
          (stands a (addresses (drop i xs))) (stands a (addresses (drop (i + 1) xs)))
          (c.count_extent.ensures.counts a ∙ ap (λ u. changed u here (count c.loop-extent.counts a)) down) ahead
          (c.loop-extent.invariant.held down a);
      in_room = omega (arith, c.count_extent.ensures.room, c.loop-extent.invariant.in_room);
    }
