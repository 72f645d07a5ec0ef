use Rattle.std.proofs.Common.{◌≡◌, ◌+◌, ◌-◌, length, ap, arith}
use Rattle.busdma_machine.specs.Runs.{run_of}
use Rattle.busdma_rules.specs.Segments.Pieces.{pieces_of}
use Rattle.busdma_rules.proofs.Segments.Places.{pieces_step}
use Rattle.segment_build.proofs.pieces.piece_count.Goals as goal

pub loop-left-preserved : goal.loop-left-preserved
loop-left-preserved c =
    let t = c.args.limits.now in
    let l = c.loop-left in
    let k = c.piece_len-left.result in
    let at = c.args.run.addr.0 + (c.args.run.len - l.left) in
    let place = l.invariant.place in
    let fits = c.piece_len-left.ensures.fits in
    let some = c.piece_len-left.ensures.some in
    let next : c.args.run.addr.0 + (c.args.run.len - (l.left - k)) ≡ at + k = omega arith in
    record {
      is =
          omega (
            arith,
            ap (λ a. length (pieces_of t (run_of a (l.left - k)))) next,
            ap length (pieces_step t at l.left k c.requires.size c.loop-left-test.true c.piece_len-left.ensures.is),
            l.invariant.is,
          );
      few = omega (arith, l.invariant.few);
      place = omega arith;
    }
