use Rattle.std.proofs.Common.{◌≡◌, List, true, sym, subst}
use Rattle.busdma_machine.specs.declared.machine.chunk.Part.{Part}
use Rattle.busdma_machine.specs.Machine.Entry.{IsStream, parts_of}
use Rattle.phys_memory.specs.Memory.{memory_physical}
use Rattle.phys_memory.specs.VectorStreams.{IfAll, then_parts, vector, vector_walk}
use Rattle.phys_memory.proofs.Loads.{along_loads, spans_load}
use Rattle.phys_memory.proofs.Reached.{IsHeld, memory_paged}
use Rattle.phys_memory.proofs.VectorLaws.{walk_stream}
use Rattle.phys_memory.proofs.pages.LanePages.parts_vector.Goals as goal

pub returns-clause-walk : goal.returns-clause-walk
returns-clause-walk c =
    let m = c.args.self.now.memory in
    let t = memory_physical m in
    let spans = c.args.spans.now in
    subst (λ (ps : List Part). IfAll (vector_walk t spans) (λ es. then_parts ps (vector t spans) ≡ parts_of es))
    (sym c.parts_flat.ensures.parts) (walk_stream true t spans)

pub returns-clause-stream : goal.returns-clause-stream
returns-clause-stream c = λ small.
    let m = c.args.self.now.memory in
    let t = memory_physical m in
    let spans = c.args.spans.now in
    subst (λ (ps : List Part). IsStream (then_parts ps (vector t spans))) (sym c.parts_flat.ensures.parts)
    (spans_load (IsHeld m) true t (memory_paged m c.parts_flat.ensures.sound) spans small)

pub returns-clause-along : goal.returns-clause-along
returns-clause-along c = λ small.
    let m = c.args.self.now.memory in
    let t = memory_physical m in
    let spans = c.args.spans.now in
    let whole = subst (λ (ps : List Part). IsStream (then_parts ps (vector t spans))) (sym c.parts_flat.ensures.parts)
    (spans_load (IsHeld m) true t (memory_paged m c.parts_flat.ensures.sound) spans small) in
    along_loads (then_parts c.parts_flat.result (vector t spans)) whole
