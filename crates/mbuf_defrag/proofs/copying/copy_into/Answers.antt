use Rattle.std.proofs.Common.{◌≡◌, ℕ, ◌+◌, ◌-◌, ◌/◌, ◌≤◌, ◌++◌, List, length, map, take, drop, ap, sym, subst, ◌∙◌}
use Rattle.std.proofs.Common.{arith}
use Rattle.std.proofs.Common.{length-append, true}
use Rattle.std.proofs.lemmas.List.{drop-drop, length-map}
use Rattle.std.specs.List.{AllByRecursion}
use Rattle.busdma_machine.specs.Machine.Wire.{Wire, put}
use Rattle.busdma_machine.specs.Runs.{run_of}
use Rattle.phys_memory.specs.Frames.{SamePages}
use Rattle.phys_memory.specs.Memory.{FrameMemory as Memory, wire, memory_has_frame}
use Rattle.phys_memory.proofs.Extents.{length-run_of}
use Rattle.phys_memory.proofs.RunParts.{all_take, run_append}
use Rattle.phys_memory.proofs.SameFrames.{same_trans, same_rewritten}
use Rattle.phys_memory.proofs.Writing.{written_run}
use Rattle.mbuf_defrag.specs.Copying.{IsAway}
use Rattle.mbuf_defrag.specs.CopySteps.{IsThere, rest_of}
use Rattle.mbuf_defrag.proofs.Copies.{all_back, all_behind, all_front, drop_past, put_on, split_run, take_size}
use Rattle.mbuf_defrag.proofs.copying.copy_into.Goals as goal

pub loop-done-preserved : goal.loop-done-preserved
loop-done-preserved c =
    let pa : ℕ = c.args.target.pa.0 in
    let done : ℕ = c.loop-done.done in
    let left : ℕ = c.args.target.len - done in
    let from : ℕ = c.next-run.result.pa.0 in
    let n : ℕ = c.next-run.result.len in
    let before = c.loop-done.invariant in
    let most : n ≤ left = c.next-run.ensures.most in
    let inside : done ≤ c.args.target.len = before.inside in
    let w : Wire = wire c.loop-done.memory.memory in
    let now : Wire = wire c.write.new.self.memory in
    let source : List ℕ = rest_of c.loop-done.source in
    let rest : List ℕ = rest_of c.next-run.new.self in
    let run : source ≡ run_of from n ++ rest = c.next-run.ensures.run in
    let here : List ℕ = run_of (pa + done) n in
    let more : List ℕ = run_of (pa + (done + n)) (left - n) in
    let long : length c.loop-done.piece ≡ 4096 = c.next-run.array_long in
    let frame = c.next-run.ensures.extent.in_frame in
    let size : length (take n c.loop-done.piece) ≡ n = take_size n c.loop-done.piece (omega (arith, long, frame)) in
    let read : c.read.new.out ≡ map w (run_of from n) = c.read.ensures ∙ ap (λ k. map w (run_of from k)) size in
    let count : length (map w (run_of from n)) ≡ n = length-map (run_of from n) w ∙ length-run_of from n in
    let is : now ≡ put here (map w (run_of from n)) w =
    c.write.ensures.wire ∙ written_run (pa + done) c.read.new.out w
    ∙ ap (λ bs. put (run_of (pa + done) (length bs)) bs w) read
    ∙ ap (λ k. put (run_of (pa + done) k) (map w (run_of from n)) w) count in
    let all : left ≡ n + (left - n) = omega (arith, most) in
    let next : pa + done + n ≡ pa + (done + n) = omega arith in
    let keys : run_of (pa + done) left ≡ here ++ more =
    ap (run_of (pa + done)) all ∙ run_append (pa + done) n (left - n) ∙ ap (λ a. here ++ run_of a (left - n)) next in
    let taken : take left source ≡ run_of from n ++ take (left - n) rest =
    ap (take left) run ∙ split_run from n left rest most in
    let fewer : c.args.target.len - (done + n) ≡ left - n = omega (arith, most, inside) in
    let even : length (run_of from n) ≡ length here = length-run_of from n ∙ sym (length-run_of (pa + done) n) in
    let away : AllByRecursion (IsAway (here ++ more)) source =
    subst (λ xs. AllByRecursion (IsAway xs) source) keys before.apart in
    let away_here : AllByRecursion (IsAway here) rest =
    all_behind (IsAway here) (run_of from n) rest
    (subst (AllByRecursion (IsAway here)) run (all_front here more source away)) in
    let away_more : AllByRecursion (IsAway more) rest =
    all_behind (IsAway more) (run_of from n) rest
    (subst (AllByRecursion (IsAway more)) run (all_back here more source away)) in
    let bytes : length source ≡ n + length rest =
    ap length run ∙ length-append (run_of from n) rest ∙ ap (λ k. k + length rest) (length-run_of from n) in
    let frames = c.requires.target.in_frame in
    let some = c.next-run.ensures.extent.some in
    let one : (pa + done) / 4096 ≡ pa / 4096 = omega (arith, frames, most, some, inside) in
    let there : memory_has_frame c.loop-done.memory.memory ((pa + done) / 4096) ≡ true =
    before.same.frames ((pa + done) / 4096) ∙ ap (memory_has_frame c.args.memory.now.memory) one ∙ c.requires.lies in
    record {
      left = ap (λ k. put (run_of (pa + (done + n)) k) (map now (take k rest)) now) fewer
          ∙ sym (put_on here more (run_of from n) (take (left - n) rest) w now even
          (all_take (IsAway here) (left - n) rest away_here) is)
          ∙ sym (λ i. put (keys i) (map w (taken i)) w) ∙ before.left;
      rest = sym (drop_past n from rest) ∙ ap (drop n) (sym run ∙ before.rest)
          ∙ drop-drop n done (rest_of c.args.source.now);
      apart = subst (λ k. AllByRecursion (IsAway (run_of (pa + (done + n)) k)) rest) (sym fewer) away_more;
      there = all_behind (IsThere c.args.memory.now.memory) (run_of from n) rest
          (subst (AllByRecursion (IsThere c.args.memory.now.memory)) run before.there);
      enough = let e = before.enough in omega (arith, e, bytes, fewer, most);
      inside = omega (arith, most, inside);
      same = same_trans _ _ _ before.same
          (subst (λ (m : Memory). SamePages c.loop-done.memory.memory m) (sym c.write.ensures.memory)
          (same_rewritten c.loop-done.memory.memory (pa + done) c.read.new.out there));
      spare = c.write.ensures.spare ∙ before.spare;
    }
