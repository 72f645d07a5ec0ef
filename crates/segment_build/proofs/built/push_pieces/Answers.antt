use Rattle.std.proofs.Common.{◌+◌, ◌-◌, [], ◌∷◌, ◌++◌, ap, sym, ◌∙◌, append_assoc, arith}
use Rattle.busdma_machine.specs.Runs.{run_of}
use Rattle.busdma_rules.specs.Segments.Pieces.{pieces_of}
use Rattle.busdma_rules.proofs.Segments.Places.{piece_at, pieces_step}
use Rattle.segment_build.proofs.built.push_pieces.Goals as goal

pub loop-left-preserved : goal.loop-left-preserved
loop-left-preserved c =
    let t = c.args.limits.now in
    let l = c.loop-left in
    let k = c.piece_len-len.result in
    let rest = pieces_of t (run_of (l.at + k) (l.left - k)) in
    record {
      is = ap (λ ps. ps ++ rest) c.in_ok-push.ensures.items
          ∙ (append_assoc l.pieces.items (piece_at l.at k ∷ []) rest
          ∙ (ap (λ ps. l.pieces.items ++ ps)
          (sym (pieces_step t l.at l.left k c.requires.size c.loop-left-test.true c.piece_len-len.ensures.is))
          ∙ l.invariant.is));
      place = omega arith;
    }
