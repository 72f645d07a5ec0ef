use Rattle.std.proofs.Common.{ℕ, ◌+◌, ◌-◌, ◌∙◌, ap, cond, arith}
use Rattle.busdma_machine.specs.Machine.Wire.{stretch}
use Rattle.run_set.specs.Counts.{changed, count}
use Rattle.run_set.specs.Edges.{is_inside_run}
use Rattle.busdma_rules.specs.Lending.Loans.{addresses_of}
use Rattle.loan_table.specs.Rows.{stands}
use Rattle.loan_table.proofs.Places.{counted_on, held_on, stands_ahead, stands_here}
use Rattle.loan_table.proofs.lent.count_range.Goals as goal

pub change-requires-clause-held : goal.change-requires-clause-held
change-requires-clause-held c down a from to =
    let run = c.stretch-run.result in
    let ahead = stands_ahead a run.pa.0 run.len _ _ c.stretch-run.ensures.is in
    omega (arith, ahead, stands_here a run.pa.0 run.len from to, c.loop-at.invariant.held down a)

pub loop-at-preserved : goal.loop-at-preserved
loop-at-preserved c =
    let run = c.stretch-run.result in
    let ps = c.args.row.now.positions in
    let at = c.loop-at.at in
    let end = c.end_of-end.result in
    record {
      counted = λ a.
          let here = is_inside_run run.pa.0 (run.pa.0 + run.len) a in
          let ahead = stands_ahead a run.pa.0 run.len _ _ c.stretch-run.ensures.is in
          counted_on c.args.up here (count c.loop-at.counts a) (count c.change.new.self a)
          (stands a (addresses_of (stretch c.args.off c.args.len ps)))
          (stands a (addresses_of (stretch at (end - at) ps)))
          (stands a (addresses_of (stretch (at + run.len) (end - (at + run.len)) ps)))
          (count c.args.counts.now a) (c.change.ensures.counts a)
          (λ down is. omega (arith, ahead, ap {B = ℕ} (λ b. cond b 1 0) is, c.loop-at.invariant.held down a)) ahead
          (c.loop-at.invariant.counted a);
      held = λ down a.
          let here = is_inside_run run.pa.0 (run.pa.0 + run.len) a in
          let ahead = stands_ahead a run.pa.0 run.len _ _ c.stretch-run.ensures.is in
          held_on here (count c.loop-at.counts a) (count c.change.new.self a)
          (stands a (addresses_of (stretch at (end - at) ps)))
          (stands a (addresses_of (stretch (at + run.len) (end - (at + run.len)) ps)))
          (c.change.ensures.counts a ∙ ap (λ u. changed u here (count c.loop-at.counts a)) down) ahead
          (c.loop-at.invariant.held down a);
      in_room = omega (arith, c.change.ensures.room, c.loop-at.invariant.in_room);
      from = omega arith;
      to = omega arith;
    }
