use Rattle.std.proofs.Common.{rules, ◌<◌, ◌^◌, ◌++◌, append-nil, ap, sym, ◌∙◌, subst}
use Rattle.std.specs.List.{AllByRecursion}
use Rattle.std.proofs.lemmas.List.Elements.{All-from_recursion}
use Rattle.busdma_machine.specs.declared.machine.chunk.Part.TheVariants as part
use Rattle.busdma_machine.specs.Machine.Entry.{IsStream, stream_entries}
use Rattle.segment_build.proofs.Iterating.{holds_seen, holds_so_far}
use Rattle.iommu_load.specs.DeviceStreams.{stream_frames}
use Rattle.iommu_load.proofs.NextPart.{frames_numbered, next_frames, part_frames}
use Rattle.iommu_load.proofs.frames.frames_of.Goals as goal

pub loop-part-preserved-in-Continue-1 : goal.loop-part-preserved-in-Continue-1
loop-part-preserved-in-Continue-1 g c =
    let ps = c.loop-part.yielded in
    let so_far = holds_seen g.I.Iterator.next_gives IsStream c.into_iter-part-iterator.result ps
    c.loop-part.part-iterator c.into_iter-part-iterator.ensures.into_iter_gives c.requires.stream
    c.loop-part.yielded_by in
    let stream = holds_so_far g.I.Iterator.next_gives IsStream c.into_iter-part-iterator.result ps
    c.loop-part.part-iterator c.in-Some.part c.next.new.self c.into_iter-part-iterator.ensures.into_iter_gives
    c.requires.stream c.loop-part.yielded_by c.in-Some.ensures.steps in
    record {
      can = search rules;
      finite = search rules;
      frames = c.in_ok-push.ensures.items
          ∙ (ap (λ fs. fs ++ part_frames (part.Of c.in-Of.extent c.in-Of.opens c.in-Of.rounded))
          c.loop-part.invariant.frames
          ∙ (ap (λ p. stream_frames ps ++ part_frames p) (sym c.in-Of.is)
          ∙ sym (next_frames ps c.in-Some.part so_far stream)));
    }

pub loop-part-preserved : goal.loop-part-preserved
loop-part-preserved g c =
    let ps = c.loop-part.yielded in
    let so_far = holds_seen g.I.Iterator.next_gives IsStream c.into_iter-part-iterator.result ps
    c.loop-part.part-iterator c.into_iter-part-iterator.ensures.into_iter_gives c.requires.stream
    c.loop-part.yielded_by in
    let stream = holds_so_far g.I.Iterator.next_gives IsStream c.into_iter-part-iterator.result ps
    c.loop-part.part-iterator c.in-Some.part c.next.new.self c.into_iter-part-iterator.ensures.into_iter_gives
    c.requires.stream c.loop-part.yielded_by c.in-Some.ensures.steps in
    record {
      can = search rules;
      finite = search rules;
      frames = c.loop-part.invariant.frames
          ∙ (sym (append-nil (stream_frames ps))
          ∙ (ap (λ p. stream_frames ps ++ part_frames p) (sym c.in_default.is)
          ∙ sym (next_frames ps c.in-Some.part so_far stream)));
    }

pub returns-clause-numbered : goal.returns-clause-numbered
returns-clause-numbered g c =
    let ps = c.loop-part.yielded in
    let stream = holds_seen g.I.Iterator.next_gives IsStream c.into_iter-part-iterator.result ps
    c.loop-part.part-iterator c.into_iter-part-iterator.ensures.into_iter_gives c.requires.stream
    c.loop-part.yielded_by in
    All-from_recursion (λ f. f < 2 ^ 30) c.loop-part.frames.items
    (subst (AllByRecursion (λ f. f < 2 ^ 30)) (sym c.loop-part.invariant.frames)
    (frames_numbered (stream_entries ps) stream.entries))
