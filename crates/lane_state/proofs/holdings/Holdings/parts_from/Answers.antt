use Rattle.std.proofs.Common.{[], ◌∷◌, List, sym, ap, ◌∙◌, subst, arith}
use Rattle.busdma_machine.specs.declared.machine.bio.Bio.TheVariants.{Mapped}
use Rattle.busdma_machine.specs.declared.machine.chunk.Part.{Part}
use Rattle.busdma_machine.specs.Machine.Spans.{one_span}
use Rattle.busdma_machine.specs.Runs.{addresses}
use Rattle.load_bio.specs.Bio.{bio_stream}
use Rattle.loan_table.specs.Table.{AreIn}
use Rattle.ideal_lane.specs.Places.{physical}
use Rattle.lane_state.specs.Ideal.{ideal_of}
use Rattle.lane_state.specs.Loading.{stream_extents}
use Rattle.lane_state.proofs.LoadStreams.{frames-inside, mapped-inside}
use Rattle.lane_state.proofs.Nowhere.{nowhere, nowhere-stream}
use Rattle.lane_state.proofs.Reading.{physical-same}
use Rattle.lane_state.proofs.holdings.Holdings.parts_from.Goals as goal

pub returns-then-va-lt-END-clause-parts : goal.returns-then-va-lt-END-clause-parts
returns-then-va-lt-END-clause-parts c =
    let h = c.args.self.now in
    c.parts_of_span.ensures.parts
    ∙ (λ i. bio_stream (sym (physical-same h) i) (Mapped (record { va = record { 0 = c.args.va }; len = c.args.len })))

pub returns-then-va-lt-END-clause-there : goal.returns-then-va-lt-END-clause-there
returns-then-va-lt-END-clause-there c =
    let h = c.args.self.now in
    subst (λ (ps : List Part). AreIn h.loans.bytes (addresses (stream_extents ps))) (sym c.parts_of_span.ensures.parts)
    (mapped-inside h.memory.memory h.loans.bytes (record { va = record { 0 = c.args.va }; len = c.args.len } ∷ [])
    c.parts_of_span.ensures.sound h.covered)

pub returns-else-va-lt-END-clause-parts : goal.returns-else-va-lt-END-clause-parts
returns-else-va-lt-END-clause-parts c =
    let h = c.args.self.now in
    let t = physical (ideal_of h) in
    c.parts_of_frames.ensures.parts t
    ∙ nowhere-stream t c.args.va c.args.len
    (ap (λ f. f c.args.va) (physical-same h) ∙ nowhere h.memory.memory c.args.va (omega arith))

pub returns-else-va-lt-END-clause-there : goal.returns-else-va-lt-END-clause-there
returns-else-va-lt-END-clause-there c =
    let h = c.args.self.now in
    subst (λ (ps : List Part). AreIn h.loans.bytes (addresses (stream_extents ps)))
    (sym (c.parts_of_frames.ensures.parts (physical (ideal_of h))))
    (frames-inside h.pages.now h.memory.memory h.loans.bytes [] (one_span 0 c.args.len) tt tt h.framed h.covered)
