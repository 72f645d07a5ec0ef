use Rattle.std.proofs.Common.{◌≡◌, ◌+◌, ◌-◌, length, take, drop, ap, sym, subst, ◌∙◌, arith, length-drop, refl}
use Rattle.std.specs.List.{AllByRecursion}
use Rattle.busdma_machine.specs.Machine.PageList.{page_frames}
use Rattle.busdma_machine.specs.Machine.Wire.{put, with_bytes_of}
use Rattle.busdma_machine.specs.Runs.{run_of}
use Rattle.phys_memory.specs.Memory.{wire}
use Rattle.phys_memory.proofs.SameFrames.{same_refl, same_trans}
use Rattle.phys_memory.proofs.Writing.{part_written, written_run}
use Rattle.busdma_rules.specs.Segments.Segmentation.{segment_bytes}
use Rattle.device_model.specs.Access.{IsThere}
use Rattle.device_model.specs.AccessSteps.{rest_of}
use Rattle.device_model.proofs.Accessing.{all_behind, first_of_run, rest_length, split_run, there_now}
use Rattle.device_model.proofs.Walk.{bytes_length}
use Rattle.device_model.proofs.writing.bus_write.Goals as goal

pub loop-done-init : goal.loop-done-init
loop-done-init c =
    let n = length c.args.bytes.now in
    let e : n - 0 ≡ n = omega arith in
    let begins = c.new-cursor.ensures in
    let range = ap (λ k. take k (rest_of c.new-cursor.result)) e ∙ ap (take n) begins in
    record {
      left =
          ap (λ keys. put keys c.args.bytes.now (with_bytes_of c.args.pages.now (wire c.args.memory.now.memory)))
          range;
      enough =
          omega (
            arith,
            ap length begins,
            length-drop c.args.off (segment_bytes c.args.segments.now),
            bytes_length c.args.segments.now,
            c.requires.range,
          );
      there =
          subst (AllByRecursion (IsThere c.args.memory.now.memory (page_frames c.args.pages.now))) (sym range)
          c.requires.there;
      inside = omega arith;
      frames = refl;
      same = same_refl c.args.memory.now.memory;
      spare = refl;
    }

pub write_in_frame-near-requires-clause-there : goal.write_in_frame-near-requires-clause-there
write_in_frame-near-requires-clause-there c =
    let left = length c.args.bytes.now - c.loop-done.done in
    let run = c.next-run.result in
    let before = c.loop-done.invariant in
    let there = IsThere c.args.memory.now.memory (page_frames c.args.pages.now) in
    let split = ap (take left) c.next-run.ensures.run
    ∙ split_run run.pa.0 run.len left (rest_of c.next-run.new.self) c.next-run.ensures.most in
    there_now _ _ _ _ _ before.same before.frames
    (first_of_run there run.pa.0 run.len _ c.next-run.ensures.extent.some
    (subst (AllByRecursion there) split before.there))

pub loop-done-preserved : goal.loop-done-preserved
loop-done-preserved c =
    let there = IsThere c.args.memory.now.memory (page_frames c.args.pages.now) in
    let bytes = c.args.bytes.now in
    let done = c.loop-done.done in
    let left = length bytes - done in
    let before = c.loop-done.invariant in
    let pa = c.next-run.result.pa.0 in
    let n = c.next-run.result.len in
    let rest = rest_of c.next-run.new.self in
    let most = c.next-run.ensures.most in
    let w = with_bytes_of c.loop-done.pages (wire c.loop-done.memory.memory) in
    let now = with_bytes_of c.write_in_frame-near.new.pages (wire c.write_in_frame-near.new.memory.memory) in
    let split = ap (take left) c.next-run.ensures.run ∙ split_run pa n left rest most in
    let count = rest_length pa n (rest_of c.loop-done.cursor) rest c.next-run.ensures.run in
    let fewer : length bytes - (done + n) ≡ left - n = omega arith in
    record {
      left = ap (λ k. put (take k rest) (drop (done + n) bytes) now) fewer
          ∙ part_written (take left (rest_of c.loop-done.cursor)) (take (left - n) rest) bytes pa n done
          (done + n - done) w now split (omega arith) (omega (arith, before.inside, most))
          (c.write_in_frame-near.ensures.wire ∙ sym (written_run pa (take (done + n - done) (drop done bytes)) w))
          ∙ before.left;
      enough = omega (arith, fewer, count, before.enough, most);
      there =
          subst (λ k. AllByRecursion there (take k rest)) (sym fewer)
          (all_behind there (run_of pa n) (take (left - n) rest) (subst (AllByRecursion there) split before.there));
      inside = omega (arith, before.inside, most);
      frames = c.write_in_frame-near.ensures.frames ∙ before.frames;
      same = same_trans _ _ _ before.same c.write_in_frame-near.ensures.same;
      spare = c.write_in_frame-near.ensures.spare ∙ before.spare;
    }
