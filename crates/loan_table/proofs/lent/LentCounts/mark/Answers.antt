use Rattle.std.proofs.Common.{map, ap, arith}
use Rattle.loan_table.specs.Counted.{counted_places}
use Rattle.loan_table.specs.Kinds.{test_of}
use Rattle.busdma_rules.specs.Lending.SyncEffects.{marked}
use Rattle.loan_table.proofs.Pieces.{nothing, span_marked, span_places, whole}
use Rattle.loan_table.proofs.lent.LentCounts.mark.Goals as goal

pub loop-at-init : goal.loop-at-init
loop-at-init c =
    let ps = c.args.row.now.positions in
    let all = whole c.args.off c.args.len c.end_of-end.result ps c.end_of-end.ensures in
    record {
      counted = λ way a. rw all (omega arith);
      held = λ way a. rw all (c.requires.held way a);
      in_room = λ way. omega arith;
      from = omega arith;
      to = omega arith;
    }

pub recount-requires-clause-held : goal.recount-requires-clause-held
recount-requires-clause-held c way a =
    let ahead = span_places way a c.loop-at.at c.end_of-end.result c.span-span.result.len c.args.row.now.positions
    c.span-span.ensures.within in
    omega (arith, ahead, c.loop-at.invariant.held way a)

pub recount-requires-clause-room : goal.recount-requires-clause-room
recount-requires-clause-room c way =
    omega (arith, c.requires.room way, c.loop-at.invariant.in_room way)

pub loop-at-preserved : goal.loop-at-preserved
loop-at-preserved c =
    let len = c.span-span.result.len in
    let within = c.span-span.ensures.within in
    let ps = c.args.row.now.positions in
    let end = c.end_of-end.result in
    record {
      counted = λ way a.
          let ahead = span_places way a c.loop-at.at end len ps within in
          let later = span_marked way a c.loop-at.at end len ps within c.args.ops.0 in
          omega (arith, ahead, later, c.loop-at.invariant.counted way a, c.recount.ensures.counts way a);
      held = λ way a.
          let ahead = span_places way a c.loop-at.at end len ps within in
          omega (arith, ahead, c.loop-at.invariant.held way a, c.recount.ensures.counts way a);
      in_room = λ way. omega (arith, c.recount.ensures.room way, c.loop-at.invariant.in_room way);
      from = omega arith;
      to = omega arith;
    }

pub returns-clause-counts : goal.returns-clause-counts
returns-clause-counts c way a =
    let none = nothing c.loop-at.at c.end_of-end.result c.args.row.now.positions (omega arith) in
    let left = ap (counted_places (test_of way) a) none in
    let after = ap (λ xs. counted_places (test_of way) a (map (marked c.args.ops.0) xs)) none in
    omega (arith, left, after, c.loop-at.invariant.counted way a)

pub returns-clause-room : goal.returns-clause-room
returns-clause-room c way = omega (arith, c.loop-at.invariant.in_room way)
