use Rattle.std.proofs.Common.{◌≡◌, List, ◌≤◌, ◌^◌, sym, ap, ◌∙◌, subst, arith}
use Rattle.busdma_machine.specs.declared.machine.bio.Bio.TheVariants.{Unmapped}
use Rattle.busdma_machine.specs.declared.machine.chunk.Part.{Part}
use Rattle.busdma_machine.specs.Machine.Spans.{one_span}
use Rattle.busdma_machine.specs.Runs.{addresses, byte_count}
use Rattle.busdma_base.specs.Scenarios.Buffers.{IsBioOf}
use Rattle.load_bio.specs.Bio.{IsBio, bio_stream}
use Rattle.loan_table.specs.Table.{AreIn}
use Rattle.phys_memory.proofs.Loads.{one_bytes}
use Rattle.ideal_lane.specs.Places.{physical}
use Rattle.lane_state.specs.Ideal.{ideal_of}
use Rattle.lane_state.specs.declared.buffers.LoadBytes.{LoadBytes}
use Rattle.lane_state.specs.Loading.{bio_bytes, bio_of, load_stream, stream_extents}
use Rattle.lane_state.proofs.LoadStreams.{frames-inside, mapped-inside, stream-total}
use Rattle.lane_state.proofs.Reading.{physical-same}
use Rattle.lane_state.proofs.holdings.Holdings.parts.Goals as goal

pub parts_from-requires : goal.parts_from-requires
parts_from-requires c =
    let is = ap (λ (b : LoadBytes). bio_bytes (bio_of b)) c.in-Span.is in
    let small = c.requires.small in
    omega (arith, is, one_bytes c.in-Span.va c.in-Span.len, small)

pub returns-in-Span-clause-parts : goal.returns-in-Span-clause-parts
returns-in-Span-clause-parts c =
    let l = ideal_of c.args.self.now in
    c.parts_from.ensures.parts ∙ ap (λ (b : LoadBytes). load_stream l (bio_of b)) (sym c.in-Span.is)

pub returns-in-Span-clause-total : goal.returns-in-Span-clause-total
returns-in-Span-clause-total c =
    let l = ideal_of c.args.self.now in
    subst (λ (ps : List Part). byte_count (stream_extents ps) ≤ 2 ^ 20) (sym (returns-in-Span-clause-parts c))
    (stream-total l (bio_of c.args.bytes) c.requires.small)

pub returns-in-Spans-clause-parts : goal.returns-in-Spans-clause-parts
returns-in-Spans-clause-parts c =
    let h = c.args.self.now in
    c.parts_of_spans.ensures.parts
    ∙ (λ i. bio_stream (sym (physical-same h) i) (bio_of (sym c.in-Spans.is i)))

pub returns-in-Spans-clause-there : goal.returns-in-Spans-clause-there
returns-in-Spans-clause-there c =
    let h = c.args.self.now in
    subst (λ (ps : List Part). AreIn h.loans.bytes (addresses (stream_extents ps)))
    (sym c.parts_of_spans.ensures.parts)
    (mapped-inside h.memory.memory h.loans.bytes c.in-Spans.spans.now c.parts_of_spans.ensures.sound h.covered)

pub returns-in-Spans-clause-total : goal.returns-in-Spans-clause-total
returns-in-Spans-clause-total c =
    let l = ideal_of c.args.self.now in
    subst (λ (ps : List Part). byte_count (stream_extents ps) ≤ 2 ^ 20) (sym (returns-in-Spans-clause-parts c))
    (stream-total l (bio_of c.args.bytes) c.requires.small)

pub returns-in-Frames-clause-parts : goal.returns-in-Frames-clause-parts
returns-in-Frames-clause-parts c =
    let t = physical (ideal_of c.args.self.now) in
    c.parts_of_frames.ensures.parts t ∙ ap (λ b. bio_stream t (bio_of b)) (sym c.in-Frames.is)

pub returns-in-Frames-clause-there : goal.returns-in-Frames-clause-there
returns-in-Frames-clause-there c =
    let h = c.args.self.now in
    let fs = c.in-Frames.frames.now in
    let is : bio_of c.args.bytes ≡ Unmapped fs c.in-Frames.off c.in-Frames.len = ap bio_of c.in-Frames.is in
    let bio = subst IsBio is c.requires.bio in
    let own = subst (IsBioOf h.pages.now) is c.requires.own in
    subst (λ (ps : List Part). AreIn h.loans.bytes (addresses (stream_extents ps)))
    (sym (c.parts_of_frames.ensures.parts (physical (ideal_of h))))
    (frames-inside h.pages.now h.memory.memory h.loans.bytes fs (one_span c.in-Frames.off c.in-Frames.len) bio.1 own.1
    h.framed h.covered)

pub returns-in-Frames-clause-total : goal.returns-in-Frames-clause-total
returns-in-Frames-clause-total c =
    let l = ideal_of c.args.self.now in
    subst (λ (ps : List Part). byte_count (stream_extents ps) ≤ 2 ^ 20) (sym (returns-in-Frames-clause-parts c))
    (stream-total l (bio_of c.args.bytes) c.requires.small)
