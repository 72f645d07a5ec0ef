use Rattle.std.proofs.Common.{rules, ◌+◌, ◌≤◌, ◌^◌, length, ap, sym, ◌∙◌, subst, arith, length-append}
use Rattle.std.specs.Prelude.{Option, IfSome}
use Rattle.std.specs.Option.{option_to_list}
use Rattle.std.proofs.lemmas.List.Sums.{sum_by-append}
use Rattle.busdma_machine.specs.declared.machine.address.Segment.{Segment}
use Rattle.segment_build.proofs.Iterating.{drained, holds_seen}
use Rattle.iommu_load.specs.declared.gatherer.Gatherer.{Gatherer}
use Rattle.iommu_load.specs.DeviceStreams.{IsInDevicePages}
use Rattle.iommu_load.specs.Gathering.{gathered_after, after_part, gathering_ended}
use Rattle.iommu_load.specs.Gathering.{ended_run, pieces_of_runs, ungathered}
use Rattle.iommu_load.proofs.Gathering.{gathered, run_bytes, run_pieces, runs_append, stream_pieces}
use Rattle.iommu_load.proofs.NextPart.{next_along}
use Rattle.iommu_load.proofs.measured.measure_device.Goals as goal

pub take-requires-clause-part : goal.take-requires-clause-part
take-requires-clause-part g c =
    (next_along g.I.Iterator.next_gives c.args.first c.into_iter-part-iterator.result c.loop-part.yielded
    c.loop-part.part-iterator c.in-Some.part c.next.new.self c.into_iter-part-iterator.ensures.into_iter_gives
    c.requires.paged c.loop-part.yielded_by c.in-Some.ensures.steps).part

pub take-requires-clause-paged : goal.take-requires-clause-paged
take-requires-clause-paged g c =
    let at = next_along g.I.Iterator.next_gives c.args.first c.into_iter-part-iterator.result c.loop-part.yielded
    c.loop-part.part-iterator c.in-Some.part c.next.new.self c.into_iter-part-iterator.ensures.into_iter_gives
    c.requires.paged c.loop-part.yielded_by c.in-Some.ensures.steps in
    subst (λ (s : Gatherer). (after_part s c.in-Some.part).page ≤ 2 ^ 52) (sym c.loop-part.invariant.gatherer) at.paged

pub take-requires-clause-fits : goal.take-requires-clause-fits
take-requires-clause-fits g c =
    let at = next_along g.I.Iterator.next_gives c.args.first c.into_iter-part-iterator.result c.loop-part.yielded
    c.loop-part.part-iterator c.in-Some.part c.next.new.self c.into_iter-part-iterator.ensures.into_iter_gives
    c.requires.paged c.loop-part.yielded_by c.in-Some.ensures.steps in
    omega (arith, at.fits, ap (λ (s : Gatherer). s.run.len) c.loop-part.invariant.gatherer)

pub pieces_of_next-pieces-requires : goal.pieces_of_next-pieces-requires
pieces_of_next-pieces-requires g c =
    let at = next_along g.I.Iterator.next_gives c.args.first c.into_iter-part-iterator.result c.loop-part.yielded
    c.loop-part.part-iterator c.in-Some.part c.next.new.self c.into_iter-part-iterator.ensures.into_iter_gives
    c.requires.paged c.loop-part.yielded_by c.in-Some.ensures.steps in
    let one = c.take.ensures.ended ∙ ap (λ (s : Gatherer). ended_run s c.in-Some.part) c.loop-part.invariant.gatherer in
    record {
      fits =
          subst (λ (o : Option Segment). IfSome o (λ run. run.addr.0 + run.len ≤ 2 ^ 64)) (sym one) at.ended_fits;
    }

pub overflow_add-pieces : goal.overflow_add-pieces
overflow_add-pieces g c =
    let at = next_along g.I.Iterator.next_gives c.args.first c.into_iter-part-iterator.result c.loop-part.yielded
    c.loop-part.part-iterator c.in-Some.part c.next.new.self c.into_iter-part-iterator.ensures.into_iter_gives
    c.requires.paged c.loop-part.yielded_by c.in-Some.ensures.steps in
    let one = c.take.ensures.ended ∙ ap (λ (s : Gatherer). ended_run s c.in-Some.part) c.loop-part.invariant.gatherer in
    omega (
      arith,
      at.bytes,
      c.loop-part.invariant.few,
      c.pieces_of_next-pieces.ensures.few,
      ap (λ (o : Option Segment). run_bytes (option_to_list o)) one,
    )

pub loop-part-preserved : goal.loop-part-preserved
loop-part-preserved g c =
    let t = c.args.tag.now in
    let u = ungathered c.args.first in
    let ps = c.loop-part.yielded in
    let p = c.in-Some.part in
    let inv = c.loop-part.invariant in
    let at = next_along g.I.Iterator.next_gives c.args.first c.into_iter-part-iterator.result ps
    c.loop-part.part-iterator p c.next.new.self c.into_iter-part-iterator.ensures.into_iter_gives
    c.requires.paged c.loop-part.yielded_by c.in-Some.ensures.steps in
    let one = c.take.ensures.ended ∙ ap (λ (s : Gatherer). ended_run s p) inv.gatherer in
    let ran = option_to_list (ended_run (gathered_after u ps) p) in
    record {
      can = search rules;
      finite = search rules;
      gatherer = c.take.ensures.after ∙ (ap (λ (s : Gatherer). after_part s p) inv.gatherer ∙ sym at.after_is);
      pieces =
          omega (
            arith,
            c.pieces_of_next-pieces.ensures.count,
            inv.pieces,
            ap (λ (o : Option Segment). length (pieces_of_runs t (option_to_list o))) one,
            ap (λ rs. length (pieces_of_runs t rs)) at.ended_are,
            ap length (runs_append t (gathering_ended u ps) ran),
            length-append (pieces_of_runs t (gathering_ended u ps)) (pieces_of_runs t ran),
          );
      few =
          omega (
            arith,
            c.pieces_of_next-pieces.ensures.few,
            inv.few,
            ap (λ (o : Option Segment). run_bytes (option_to_list o)) one,
            ap run_bytes at.ended_are,
            sum_by-append (λ (r : Segment). r.len) (gathering_ended u ps) ran,
          );
    }

pub count_pieces-requires : goal.count_pieces-requires
count_pieces-requires g c =
    let paged = holds_seen g.I.Iterator.next_gives (IsInDevicePages c.args.first) c.into_iter-part-iterator.result
    c.loop-part.yielded c.loop-part.part-iterator c.into_iter-part-iterator.ensures.into_iter_gives
    c.requires.paged c.loop-part.yielded_by in
    let all = gathered c.args.first c.loop-part.yielded paged in
    record {
      fits = omega (arith, all.fits, ap (λ (s : Gatherer). s.run.addr.0 + s.run.len) c.loop-part.invariant.gatherer);
    }

pub overflow_add-result : goal.overflow_add-result
overflow_add-result g c =
    let paged = holds_seen g.I.Iterator.next_gives (IsInDevicePages c.args.first) c.into_iter-part-iterator.result
    c.loop-part.yielded c.loop-part.part-iterator c.into_iter-part-iterator.ensures.into_iter_gives
    c.requires.paged c.loop-part.yielded_by in
    let all = gathered c.args.first c.loop-part.yielded paged in
    omega (
      arith,
      all.bytes,
      c.loop-part.invariant.few,
      c.count_pieces.ensures.few,
      ap (λ (s : Gatherer). s.run.len) c.loop-part.invariant.gatherer,
    )

pub returns : goal.returns
returns g c =
    let t = c.args.tag.now in
    let u = ungathered c.args.first in
    let ps = c.loop-part.yielded in
    let inv = c.loop-part.invariant in
    let paged = holds_seen g.I.Iterator.next_gives (IsInDevicePages c.args.first) c.into_iter-part-iterator.result
    ps c.loop-part.part-iterator c.into_iter-part-iterator.ensures.into_iter_gives
    c.requires.paged c.loop-part.yielded_by in (
      ps,
      drained g.I.Iterator.next_gives c.into_iter-part-iterator.result ps c.loop-part.part-iterator c.next.new.self
          c.into_iter-part-iterator.ensures.into_iter_gives c.loop-part.yielded_by c.in-None.ensures.steps,
      omega (
        arith,
        c.count_pieces.ensures.count,
        inv.pieces,
        ap (λ (s : Gatherer). length (run_pieces t s.run)) inv.gatherer,
        ap length (stream_pieces t c.args.first ps paged.stream),
        length-append (pieces_of_runs t (gathering_ended u ps)) (run_pieces t (gathered_after u ps).run),
      ),
    )
