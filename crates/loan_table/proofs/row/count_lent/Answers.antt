use Rattle.std.proofs.Common.{arith}
use Rattle.loan_table.proofs.Pieces.{places_ahead}
use Rattle.loan_table.proofs.row.count_lent.Goals as goal

pub loop-at-preserved : goal.loop-at-preserved
loop-at-preserved c =
    let piece = c.piece-piece.result in
    let ahead = places_ahead c.args.way c.args.pa c.loop-at.at c.len-end.result piece.len piece.first
    c.args.row.now.positions c.piece-piece.ensures.is in
    record {
      counted = omega (arith, ahead, c.loop-at.invariant.counted, c.lent_in-count.ensures.is);
      small = omega arith;
      to = omega arith;
    }
