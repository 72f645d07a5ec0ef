use Rattle.std.proofs.Common.{◌≡◌, ◌+◌, ◌∙◌, map, ap, arith, length, get_or}
use Rattle.std.proofs.lemmas.List.{length-map}
use Rattle.std.proofs.lemmas.Slice.{take-put_mid}
use borrow.Rule.Slice.PartMut.{same_len_mid}
use Rattle.phys_memory.specs.Memory.{wire}
use Rattle.busdma_machine.specs.Runs.{run_of}
use Rattle.loan_table.proofs.Judgement.{length-run_of}
use Rattle.loan_table.proofs.Addresses.{no_extent}
use Rattle.lane_state.proofs.WireBytes.{part_size, part_read, extents_more, count_more, lie_more}
use Rattle.lane_access.proofs.accesses.fill.Goals as goal

pub slice_bounds-here-end : goal.slice_bounds-here-end
slice_bounds-here-end c =
    omega (
      arith,
      c.loop-part.invariant.count,
      count_more c.args.parts.now c.loop-part.part-index c.loop-part-test.true,
    )

pub loop-part-preserved : goal.loop-part-preserved
loop-part-preserved c =
    let parts = c.args.parts.now in
    let i = c.loop-part.part-index in
    let inside = c.loop-part-test.true in
    let before = c.loop-part.invariant in
    let part = get_or parts i no_extent in
    let count = count_more parts i inside in
    let read : c.read.new.out ≡ map (wire c.args.memory.now.memory) (run_of part.pa.0 part.len) =
    c.read.ensures ∙ ap (λ n. map (wire c.args.memory.now.memory) (run_of part.pa.0 n))
    (part_size part.len c.loop-part.done _ c.loop-part.out (omega arith) (omega (arith, before.count, count))) in
    let size : length c.read.new.out ≡ part.len =
    ap length read ∙ length-map (run_of part.pa.0 part.len) (wire c.args.memory.now.memory)
    ∙ length-run_of part.pa.0 part.len in
    record {
      left =
          part_read _ _ part.pa.0 part.len c.loop-part.done c.loop-part.out c.read.new.out _ _
          (extents_more parts i inside) (take-put_mid _ _ c.loop-part.out c.read.new.out (c.loop-part.done + part.len)
          (omega (arith, size)) (omega (arith, before.count))) read ∙ before.left;
      count =
          omega (
            arith,
            before.count,
            count,
            same_len_mid c.loop-part.done _ c.loop-part.out c.read.new.out c.read.auto.out,
          );
      lie = lie_more _ parts i inside before.lie;
    }
