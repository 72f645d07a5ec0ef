use Rattle.std.proofs.Common.{◌≡◌, ◌+◌, ◌-◌, length, true, false, Ok, ap, sym, ◌∙◌, arith}
use Rattle.busdma_machine.specs.Runs.{run_of}
use Rattle.busdma_rules.specs.Segments.Pieces.{pieces_of}
use Rattle.segment_build.specs.Joining.{extent_added as added, added_all}
use Rattle.segment_build.proofs.Cuts.{added_all_longer}
use Rattle.segment_build.proofs.JoinLaws.{not_refused}
use Rattle.busdma_rules.proofs.Segments.Places.{piece_at, pieces_step}
use Rattle.segment_build.proofs.pieces.add_run.Goals as goal

pub returns-in_err-add_piece-clause-within : goal.returns-in_err-add_piece-clause-within
returns-in_err-add_piece-clause-within c =
    let t = c.args.limits.now in
    let l = c.loop-left in
    let k = c.piece_len-len.result in
    let at = c.args.run.addr.0 + (c.args.run.len - l.left) in
    let p = piece_at at k in
    let step =
    ap (λ ps. added_all t l.list.items ps)
    (pieces_step t at l.left k c.requires.size c.loop-left-test.true c.piece_len-len.ensures.is) in
    let longer = added_all_longer t (added t l.list.items p) (pieces_of t (run_of (at + k) (l.left - k))) in
    λ h. absurd (not_refused c.add_piece.result c.in_err-add_piece.field-0.0 c.in_err-add_piece.was
    (c.add_piece.ensures.within (omega
    (arith, h, longer, ap length (sym l.invariant.is ∙ step), l.invariant.room))))

pub returns-then-not-branch-clause-many : goal.returns-then-not-branch-clause-many
returns-then-not-branch-clause-many c =
    let t = c.args.limits.now in
    let l = c.loop-left in
    let k = c.piece_len-len.result in
    let at = c.args.run.addr.0 + (c.args.run.len - l.left) in
    let p = piece_at at k in
    let step =
    ap (λ ps. added_all t l.list.items ps)
    (pieces_step t at l.left k c.requires.size c.loop-left-test.true c.piece_len-len.ensures.is) in
    let longer = added_all_longer t (added t l.list.items p) (pieces_of t (run_of (at + k) (l.left - k))) in
    let refused : c.add_piece.result ≡ Ok false = cc in
    λ _. omega (arith, c.add_piece.ensures.many refused, longer, ap length (sym l.invariant.is ∙ step))

pub loop-left-preserved : goal.loop-left-preserved
loop-left-preserved c =
    let t = c.args.limits.now in
    let l = c.loop-left in
    let k = c.piece_len-len.result in
    let at = c.args.run.addr.0 + (c.args.run.len - l.left) in
    let place = l.invariant.place in
    let few = c.piece_len-len.ensures.fits in
    let next : c.args.run.addr.0 + (c.args.run.len - (l.left - k)) ≡ at + k = omega arith in
    let added : c.add_piece.result ≡ Ok true = cc in
    record {
      is = ap (λ a. added_all t c.add_piece.new.list.items (pieces_of t (run_of a (l.left - k)))) next
          ∙ (ap (λ segs. added_all t segs (pieces_of t (run_of (at + k) (l.left - k))))
          (c.add_piece.ensures.added added)
          ∙ (ap (λ ps. added_all t l.list.items ps)
          (sym (pieces_step t at l.left k c.requires.size c.loop-left-test.true c.piece_len-len.ensures.is))
          ∙ l.invariant.is));
      few = c.add_piece.ensures.few added;
      room = omega (arith, c.add_piece.ensures.room, l.invariant.room);
      place = omega arith;
    }
