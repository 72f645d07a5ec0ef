use Rattle.iommu_load.specs.Gathering.{pieces_of_runs}
use Rattle.std.specs.Option.{option_to_list}
use Rattle.iommu_load.proofs.SoFar.{run_fits, stays_many}
use Rattle.iommu_load.proofs.built.add_next.Goals as goal

pub add_pieces-requires-clause-room : goal.add_pieces-requires-clause-room
add_pieces-requires-clause-room c =
    let so_far = c.requires.so_far in
    let t = c.args.tag.now in
    run_fits t so_far.0 c.args.list.now.items c.args.next c.in-Some.run' t.nsegments _
    (so_far.1.segments_are c.if-few.true) c.in-Some.is so_far.2

pub returns-in_default-clause-so_far : goal.returns-in_default-clause-so_far
returns-in_default-clause-so_far c = λ pieces h.
    stays_many c.args.tag.now pieces (pieces_of_runs c.args.tag.now (option_to_list c.args.next))
    c.args.list.now.items c.args.few c.if-few.false h
