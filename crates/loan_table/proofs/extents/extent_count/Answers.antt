use Rattle.std.proofs.Common.{◌≡◌, ◌+◌, ◌-◌, ◌++◌, ap, sym, ◌∙◌, arith}
use Rattle.busdma_machine.specs.Machine.Wire.{stretch}
use Rattle.loan_table.specs.Table.{extent_count, more_extents}
use Rattle.loan_table.proofs.Frames.{count_from, more_behind}
use Rattle.loan_table.proofs.Pieces.{nothing, two_parts, whole}
use Rattle.loan_table.proofs.extents.extent_count.Goals as goal

pub loop-at-init : goal.loop-at-init
loop-at-init c =
    let bytes = c.stretch-last.result in
    let xs = c.args.buffer.now in
    let end = c.min-end.result in
    let is_end : end ≡ c.args.off + c.args.len = omega arith in
    let rest = stretch (c.args.off + bytes.len) (end - (c.args.off + bytes.len)) xs in
    let ahead = two_parts c.args.off bytes.len end xs c.stretch-last.ensures.within
    ∙ ap (λ ys. ys ++ rest) c.stretch-last.ensures.bytes in
    let first = ap (more_extents bytes.pa.0) ahead
    ∙ count_from bytes.pa.0 bytes.len rest c.stretch-last.ensures.some ∙ sym (ap extent_count ahead)
    ∙ ap extent_count (whole c.args.off c.args.len end xs is_end) in
    record {
      counted = omega (arith, first);
      small = omega arith;
      to = omega arith;
    }

pub loop-at-preserved : goal.loop-at-preserved
loop-at-preserved c =
    let bytes = c.stretch-bytes.result in
    let xs = c.args.buffer.now in
    let at = c.loop-at.at in
    let end = c.min-end.result in
    let rest = stretch (at + bytes.len) (end - (at + bytes.len)) xs in
    let ahead = ap (more_extents c.loop-at.last)
    (two_parts at bytes.len end xs c.stretch-bytes.ensures.within ∙ ap (λ ys. ys ++ rest) c.stretch-bytes.ensures.bytes)
    ∙ more_behind c.loop-at.last bytes.pa.0 bytes.len rest c.stretch-bytes.ensures.some in
    record {
      counted = omega (arith, ahead, c.loop-at.invariant.counted, c.more_extents-count.ensures.is);
      small = omega (arith, c.more_extents-count.ensures.small);
      to = omega arith;
    }

pub returns : goal.returns
returns c =
    let none = ap (more_extents c.loop-at.last)
    (nothing c.loop-at.at c.min-end.result c.args.buffer.now (omega arith)) in
    omega (arith, none, c.loop-at.invariant.counted)
