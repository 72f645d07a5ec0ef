use Rattle.std.proofs.Common.{◌≡◌, List, ap, sym, ◌∙◌, subst}
use Rattle.busdma_machine.specs.declared.machine.bio.Bio.{Bio}
use Rattle.busdma_machine.specs.Machine.Entry.{parts_of}
use Rattle.busdma_machine.specs.Machine.Spans.{span_bytes}
use Rattle.phys_memory.specs.Memory.{memory_physical}
use Rattle.phys_memory.specs.VectorStreams.{IfAll}
use Rattle.load_bio.specs.Bio.{bio_stream, bio_walk}
use Rattle.load_bio.proofs.bio.parts.Goals as goal

pub returns-in-Mapped-clause-walk : goal.returns-in-Mapped-clause-walk
returns-in-Mapped-clause-walk c =
    let t = memory_physical c.args.memory.now.memory in
    subst (λ (bio : Bio). IfAll (bio_walk t bio) (λ es. c.parts_of_span.result ≡ parts_of es)) (sym c.in-Mapped.is)
    c.parts_of_span.ensures.walk

pub returns-in-Vector-clause-walk : goal.returns-in-Vector-clause-walk
returns-in-Vector-clause-walk c =
    let t = memory_physical c.args.memory.now.memory in
    subst (λ (bio : Bio). IfAll (bio_walk t bio) (λ es. c.parts_of_spans.result ≡ parts_of es)) (sym c.in-Vector.is)
    (rw c.as_slice.ensures at c.parts_of_spans.ensures.walk)

pub returns-in-Vector-clause-along : goal.returns-in-Vector-clause-along
returns-in-Vector-clause-along c = λ small.
    let along = rw c.as_slice.ensures at c.parts_of_spans.ensures.along in
    along (rw c.in-Vector.is at small)

pub returns-in-Unmapped-clause-parts : goal.returns-in-Unmapped-clause-parts
returns-in-Unmapped-clause-parts c =
    let t = memory_physical c.args.memory.now.memory in
    (rw c.as_slice-in-Unmapped.ensures at c.parts_of_frames.ensures.parts) t ∙ ap (bio_stream t) (sym c.in-Unmapped.is)

pub returns-in-Unmapped-clause-walk : goal.returns-in-Unmapped-clause-walk
returns-in-Unmapped-clause-walk c =
    let t = memory_physical c.args.memory.now.memory in
    subst (λ (bio : Bio). IfAll (bio_walk t bio) (λ es. c.parts_of_frames.result ≡ parts_of es)) (sym c.in-Unmapped.is)
    ((rw c.as_slice-in-Unmapped.ensures at c.parts_of_frames.ensures.walk) t)
