use Rattle.std.proofs.Common.{◌≡◌, List, true, sym, ◌∙◌, subst, arith}
use Rattle.busdma_machine.specs.declared.machine.chunk.Part.{Part}
use Rattle.busdma_machine.specs.Machine.Entry.{IsStream, parts_of}
use Rattle.phys_memory.specs.Memory.{memory_physical}
use Rattle.busdma_machine.specs.Machine.Spans.{one_span}
use Rattle.phys_memory.specs.VectorStreams.{IfAll, vector_walk}
use Rattle.phys_memory.proofs.Loads.{along_loads, one_bytes, spans_load}
use Rattle.phys_memory.proofs.Reached.{IsHeld, memory_paged}
use Rattle.phys_memory.proofs.VectorLaws.{spans_one, walk_stream}
use Rattle.phys_memory.proofs.pages.LanePages.parts_flat.Goals as goal

pub returns-clause-vector : goal.returns-clause-vector
returns-clause-vector c =
    c.parts_at.ensures.parts ∙ sym (spans_one true (memory_physical c.args.self.now.memory) c.args.va.0 c.args.len)

pub returns-clause-walk : goal.returns-clause-walk
returns-clause-walk c =
    let m = c.args.self.now.memory in
    let t = memory_physical m in
    let spans = one_span c.args.va.0 c.args.len in
    let is = c.parts_at.ensures.parts ∙ sym (spans_one true t c.args.va.0 c.args.len) in
    subst (λ (ps : List Part). IfAll (vector_walk t spans) (λ es. ps ≡ parts_of es)) (sym is)
    (walk_stream true t spans)

pub returns-clause-stream : goal.returns-clause-stream
returns-clause-stream c = λ small.
    let m = c.args.self.now.memory in
    let t = memory_physical m in
    let is = c.parts_at.ensures.parts ∙ sym (spans_one true t c.args.va.0 c.args.len) in
    subst IsStream (sym is) (spans_load (IsHeld m) true t (memory_paged m c.parts_at.ensures.sound)
    (one_span c.args.va.0 c.args.len) (omega (arith, small, one_bytes c.args.va.0 c.args.len)))

pub returns-clause-along : goal.returns-clause-along
returns-clause-along c = λ small.
    let m = c.args.self.now.memory in
    let t = memory_physical m in
    let is = c.parts_at.ensures.parts ∙ sym (spans_one true t c.args.va.0 c.args.len) in
    let whole =
    subst IsStream (sym is) (spans_load (IsHeld m) true t (memory_paged m c.parts_at.ensures.sound)
    (one_span c.args.va.0 c.args.len) (omega (arith, small, one_bytes c.args.va.0 c.args.len))) in
    along_loads c.parts_at.result whole
