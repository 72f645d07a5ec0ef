use Rattle.std.proofs.Common.{◌≡◌, ◌+◌, ◌-◌, ◌++◌, length, map, take, ap, sym, subst, ◌∙◌, arith, length-drop}
use borrow.Rule.Slice.PartMut.{put_mid, same_len_mid}
use Rattle.std.specs.List.{AllByRecursion}
use Rattle.std.proofs.lemmas.Slice.{take-put_mid}
use Rattle.busdma_machine.specs.Machine.PageList.{page_frames}
use Rattle.busdma_machine.specs.Machine.Wire.{with_bytes_of}
use Rattle.busdma_machine.specs.Runs.{run_of}
use Rattle.phys_memory.specs.Memory.{wire}
use Rattle.phys_memory.proofs.Writing.{part_read}
use Rattle.busdma_rules.specs.Segments.Segmentation.{segment_bytes}
use Rattle.device_model.specs.Access.{IsThere}
use Rattle.device_model.specs.AccessSteps.{rest_of}
use Rattle.device_model.proofs.Accessing.{all_behind, first_of_run, rest_length, slice_size, split_run}
use Rattle.device_model.proofs.Walk.{bytes_length}
use Rattle.device_model.proofs.reading.bus_read.Goals as goal

pub loop-done-init : goal.loop-done-init
loop-done-init c =
    let n = length c.args.out.now in
    let e : n - 0 ≡ n = omega arith in
    let begins = c.new-cursor.ensures in
    let range = ap (λ k. take k (rest_of c.new-cursor.result)) e ∙ ap (take n) begins in
    record {
      left = ap (map (with_bytes_of c.args.pages.now (wire c.args.memory.now.memory))) range;
      enough =
          omega (
            arith,
            ap length begins,
            length-drop c.args.off (segment_bytes c.args.segments.now),
            bytes_length c.args.segments.now,
            c.requires.range,
          );
      there =
          subst (AllByRecursion (IsThere c.args.memory.now.memory (page_frames c.args.pages.now))) (sym range)
          c.requires.there;
      inside = omega arith;
    }

pub read_in_frame-near-requires-clause-there : goal.read_in_frame-near-requires-clause-there
read_in_frame-near-requires-clause-there c =
    let left = length c.loop-done.out - c.loop-done.done in
    let run = c.next-run.result in
    let there = IsThere c.args.memory.now.memory (page_frames c.args.pages.now) in
    let split = ap (take left) c.next-run.ensures.run
    ∙ split_run run.pa.0 run.len left (rest_of c.next-run.new.self) c.next-run.ensures.most in
    first_of_run there run.pa.0 run.len _ c.next-run.ensures.extent.some
    (subst (AllByRecursion there) split c.loop-done.invariant.there)

pub loop-done-preserved : goal.loop-done-preserved
loop-done-preserved c =
    let w = with_bytes_of c.args.pages.now (wire c.args.memory.now.memory) in
    let there = IsThere c.args.memory.now.memory (page_frames c.args.pages.now) in
    let out = c.loop-done.out in
    let done = c.loop-done.done in
    let left = length out - done in
    let before = c.loop-done.invariant in
    let pa = c.next-run.result.pa.0 in
    let n = c.next-run.result.len in
    let rest = rest_of c.next-run.new.self in
    let new = c.read_in_frame-near.new.out in
    let most = c.next-run.ensures.most in
    let split = ap (take left) c.next-run.ensures.run ∙ split_run pa n left rest most in
    let count = rest_length pa n (rest_of c.loop-done.cursor) rest c.next-run.ensures.run in
    let size = slice_size n done (done + n - done) out (omega arith) (omega (arith, before.inside, most)) in
    let same = same_len_mid done (done + n - done) out new c.read_in_frame-near.auto.out in
    let all = put_mid done (done + n - done) out new in
    let fewer : length all - (done + n) ≡ left - n = omega (arith, same) in
    let read : new ≡ map w (run_of pa n) = c.read_in_frame-near.ensures ∙ ap (λ k. map w (run_of pa k)) size in
    record {
      left = ap (λ k. take (done + n) all ++ map w (take k rest)) fewer
          ∙ part_read (take left (rest_of c.loop-done.cursor)) (take (left - n) rest) pa n done out
          new (take (done + n) all) w split
          (take-put_mid done (done + n - done) out new (done + n) (omega (arith, size, c.read_in_frame-near.auto.out))
          (omega (arith, before.inside))) read
          ∙ before.left;
      enough = omega (arith, fewer, count, before.enough, most);
      there =
          subst (λ k. AllByRecursion there (take k rest)) (sym fewer)
          (all_behind there (run_of pa n) (take (left - n) rest) (subst (AllByRecursion there) split before.there));
      inside = omega (arith, same, before.inside, most);
    }
