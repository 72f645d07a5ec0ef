use Rattle.std.proofs.Common.{rules, ◌≡◌, ◌+◌, ◌≤◌, ◌^◌, List, [], ◌∷◌, ◌++◌, Bool, length, ap, sym, ◌∙◌, subst, arith}
use Rattle.std.specs.Prelude.{Option, IfSome, MatchBool}
use Rattle.busdma_machine.specs.declared.machine.address.Segment.{Segment}
use Rattle.segment_build.proofs.Iterating.{drained, holds_seen, holds_so_far}
use Rattle.iommu_load.specs.declared.gatherer.Gatherer.{Gatherer}
use Rattle.iommu_load.specs.DeviceStreams.{DeviceOverflows, HasDeviceRoom, IsDeviceBuilt}
use Rattle.iommu_load.specs.Gathering.{AreSoFar, after_part, gathering_ended}
use Rattle.iommu_load.specs.Gathering.{ended_run, pieces_of_runs, ungathered}
use Rattle.iommu_load.proofs.Gathering.{gathered}
use Rattle.iommu_load.proofs.NextPart.{next_is}
use Rattle.iommu_load.proofs.SoFar.{last_pieces, next_few, next_pieces}
use Rattle.iommu_load.proofs.built.build_device.Goals as goal

pub take-ended-requires-clause-part : goal.take-ended-requires-clause-part
take-ended-requires-clause-part g c =
    let room = holds_so_far g.I.Iterator.next_gives (HasDeviceRoom c.args.tag.now c.args.first c.args.list.now.spare)
    c.into_iter-part-iterator.result c.loop-part.yielded c.loop-part.part-iterator c.in-Some.part c.next.new.self
    c.into_iter-part-iterator.ensures.into_iter_gives c.requires.room.fronts c.loop-part.yielded_by
    c.in-Some.ensures.steps in
    (next_is c.args.first c.loop-part.yielded c.in-Some.part room.paged).part

pub take-ended-requires-clause-paged : goal.take-ended-requires-clause-paged
take-ended-requires-clause-paged g c =
    let room = holds_so_far g.I.Iterator.next_gives (HasDeviceRoom c.args.tag.now c.args.first c.args.list.now.spare)
    c.into_iter-part-iterator.result c.loop-part.yielded c.loop-part.part-iterator c.in-Some.part c.next.new.self
    c.into_iter-part-iterator.ensures.into_iter_gives c.requires.room.fronts c.loop-part.yielded_by
    c.in-Some.ensures.steps in
    let at = next_is c.args.first c.loop-part.yielded c.in-Some.part room.paged in
    subst (λ (s : Gatherer). (after_part s c.in-Some.part).page ≤ 2 ^ 52) (sym c.loop-part.invariant.gatherer) at.paged

pub take-ended-requires-clause-fits : goal.take-ended-requires-clause-fits
take-ended-requires-clause-fits g c =
    let room = holds_so_far g.I.Iterator.next_gives (HasDeviceRoom c.args.tag.now c.args.first c.args.list.now.spare)
    c.into_iter-part-iterator.result c.loop-part.yielded c.loop-part.part-iterator c.in-Some.part c.next.new.self
    c.into_iter-part-iterator.ensures.into_iter_gives c.requires.room.fronts c.loop-part.yielded_by
    c.in-Some.ensures.steps in
    let at = next_is c.args.first c.loop-part.yielded c.in-Some.part room.paged in
    omega (arith, at.fits, ap (λ (s : Gatherer). s.run.len) c.loop-part.invariant.gatherer)

pub add_next-few-requires-clause-fits : goal.add_next-few-requires-clause-fits
add_next-few-requires-clause-fits g c =
    let room = holds_so_far g.I.Iterator.next_gives (HasDeviceRoom c.args.tag.now c.args.first c.args.list.now.spare)
    c.into_iter-part-iterator.result c.loop-part.yielded c.loop-part.part-iterator c.in-Some.part c.next.new.self
    c.into_iter-part-iterator.ensures.into_iter_gives c.requires.room.fronts c.loop-part.yielded_by
    c.in-Some.ensures.steps in
    let at = next_is c.args.first c.loop-part.yielded c.in-Some.part room.paged in
    let one =
    c.take-ended.ensures.ended ∙ ap (λ (s : Gatherer). ended_run s c.in-Some.part) c.loop-part.invariant.gatherer in
    subst (λ (o : Option Segment). IfSome o (λ run. run.addr.0 + run.len ≤ 2 ^ 64)) (sym one) at.ended_fits

pub add_next-few-requires-clause-so_far : goal.add_next-few-requires-clause-so_far
add_next-few-requires-clause-so_far g c =
    let t = c.args.tag.now in
    let first = c.args.first in
    let ps = c.loop-part.yielded in
    let p = c.in-Some.part in
    let inv = c.loop-part.invariant in
    let room = holds_so_far g.I.Iterator.next_gives (HasDeviceRoom t first c.args.list.now.spare)
    c.into_iter-part-iterator.result ps c.loop-part.part-iterator p c.next.new.self
    c.into_iter-part-iterator.ensures.into_iter_gives c.requires.room.fronts c.loop-part.yielded_by
    c.in-Some.ensures.steps in
    let at = next_is first ps p room.paged in (
      pieces_of_runs t (gathering_ended (ungathered first) ps),
      inv.so_far,
      omega (
        arith,
        ap length
            (next_pieces t first ps p c.loop-part.gatherer c.take-ended.result at inv.gatherer
            c.take-ended.ensures.ended),
        next_few t first (ps ++ p ∷ []) room.paged.stream,
        room.fits,
        inv.room,
      ),
    )

pub loop-part-preserved : goal.loop-part-preserved
loop-part-preserved g c =
    let t = c.args.tag.now in
    let first = c.args.first in
    let ps = c.loop-part.yielded in
    let p = c.in-Some.part in
    let inv = c.loop-part.invariant in
    let room = holds_so_far g.I.Iterator.next_gives (HasDeviceRoom t first c.args.list.now.spare)
    c.into_iter-part-iterator.result ps c.loop-part.part-iterator p c.next.new.self
    c.into_iter-part-iterator.ensures.into_iter_gives c.requires.room.fronts c.loop-part.yielded_by
    c.in-Some.ensures.steps in
    let at = next_is first ps p room.paged in
    record {
      can = search rules;
      finite = search rules;
      gatherer = c.take-ended.ensures.after ∙ (ap (λ (s : Gatherer). after_part s p) inv.gatherer ∙ sym at.after_is);
      so_far =
          subst (λ (pieces : List Segment). AreSoFar t pieces c.add_next-few.new.list.items c.add_next-few.result)
          (next_pieces t first ps p c.loop-part.gatherer c.take-ended.result at inv.gatherer
          c.take-ended.ensures.ended)
          (c.add_next-few.ensures.so_far (pieces_of_runs t (gathering_ended (ungathered first) ps)) inv.so_far);
      room = omega (arith, c.add_next-few.ensures.room, inv.room);
    }

pub add_next-few-requires-2-clause-fits : goal.add_next-few-requires-2-clause-fits
add_next-few-requires-2-clause-fits g c =
    let room = holds_seen g.I.Iterator.next_gives (HasDeviceRoom c.args.tag.now c.args.first c.args.list.now.spare)
    c.into_iter-part-iterator.result c.loop-part.yielded c.loop-part.part-iterator
    c.into_iter-part-iterator.ensures.into_iter_gives c.requires.room.fronts c.loop-part.yielded_by in
    let all = gathered c.args.first c.loop-part.yielded room.paged in
    omega (arith, all.fits, ap (λ (s : Gatherer). s.run.addr.0 + s.run.len) c.loop-part.invariant.gatherer)

pub add_next-few-requires-2-clause-so_far : goal.add_next-few-requires-2-clause-so_far
add_next-few-requires-2-clause-so_far g c =
    let t = c.args.tag.now in
    let first = c.args.first in
    let ps = c.loop-part.yielded in
    let inv = c.loop-part.invariant in
    let room = holds_seen g.I.Iterator.next_gives (HasDeviceRoom t first c.args.list.now.spare)
    c.into_iter-part-iterator.result ps c.loop-part.part-iterator
    c.into_iter-part-iterator.ensures.into_iter_gives c.requires.room.fronts c.loop-part.yielded_by in (
      pieces_of_runs t (gathering_ended (ungathered first) ps),
      inv.so_far,
      omega (
        arith,
        ap length (last_pieces t first ps c.loop-part.gatherer room.paged.stream inv.gatherer),
        room.fits,
        inv.room,
      ),
    )

pub returns-then-not-few-clause-built : goal.returns-then-not-few-clause-built
returns-then-not-few-clause-built g c =
    let t = c.args.tag.now in
    let first = c.args.first in
    let ps = c.loop-part.yielded in
    let inv = c.loop-part.invariant in
    let room = holds_seen g.I.Iterator.next_gives (HasDeviceRoom t first c.args.list.now.spare)
    c.into_iter-part-iterator.result ps c.loop-part.part-iterator
    c.into_iter-part-iterator.ensures.into_iter_gives c.requires.room.fronts c.loop-part.yielded_by in
    let done =
    subst (λ (pieces : List Segment). AreSoFar t pieces c.add_next-few-2.new.list.items c.add_next-few-2.result)
    (last_pieces t first ps c.loop-part.gatherer room.paged.stream inv.gatherer)
    (c.add_next-few-2.ensures.so_far (pieces_of_runs t (gathering_ended (ungathered first) ps)) inv.so_far) in
    let over = c.if-not-few.true in (
      ps,
      drained g.I.Iterator.next_gives c.into_iter-part-iterator.result ps c.loop-part.part-iterator c.next.new.self
          c.into_iter-part-iterator.ensures.into_iter_gives c.loop-part.yielded_by c.in-None.ensures.steps,
      subst
          (λ (b : Bool). MatchBool b (IsDeviceBuilt t first ps c.clear.new.self.items)
          (DeviceOverflows t first ps × (c.clear.new.self.items ≡ []))) (sym over) (
            done.too_many over,
            c.clear.ensures.items,
          ),
    )

pub returns-else-not-few-clause-built : goal.returns-else-not-few-clause-built
returns-else-not-few-clause-built g c =
    let t = c.args.tag.now in
    let first = c.args.first in
    let ps = c.loop-part.yielded in
    let inv = c.loop-part.invariant in
    let room = holds_seen g.I.Iterator.next_gives (HasDeviceRoom t first c.args.list.now.spare)
    c.into_iter-part-iterator.result ps c.loop-part.part-iterator
    c.into_iter-part-iterator.ensures.into_iter_gives c.requires.room.fronts c.loop-part.yielded_by in
    let list = c.add_next-few-2.new.list.items in
    let done =
    subst (λ (pieces : List Segment). AreSoFar t pieces list c.add_next-few-2.result)
    (last_pieces t first ps c.loop-part.gatherer room.paged.stream inv.gatherer)
    (c.add_next-few-2.ensures.so_far (pieces_of_runs t (gathering_ended (ungathered first) ps)) inv.so_far) in
    let few = c.if-not-few.false in (
      ps,
      drained g.I.Iterator.next_gives c.into_iter-part-iterator.result ps c.loop-part.part-iterator c.next.new.self
          c.into_iter-part-iterator.ensures.into_iter_gives c.loop-part.yielded_by c.in-None.ensures.steps,
      subst (λ (b : Bool). MatchBool b (IsDeviceBuilt t first ps list) (DeviceOverflows t first ps × (list ≡ [])))
          (sym few) (done.segments_are few),
    )
