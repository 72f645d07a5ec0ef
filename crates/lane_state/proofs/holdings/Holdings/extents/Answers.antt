use Rattle.std.proofs.Common.{◌≡◌, List, ◌≤◌, ◌^◌, sym, ap, ◌∙◌, subst}
use Rattle.busdma_machine.specs.declared.machine.address.Extent.{Extent}
use Rattle.busdma_machine.specs.declared.machine.bio.Bio.TheVariants.{Vector}
use Rattle.busdma_machine.specs.Runs.{addresses, byte_count}
use Rattle.load_bio.specs.Bio.{bio_stream}
use Rattle.loan_table.specs.Table.{AreIn}
use Rattle.phys_memory.specs.Frames.{Lie}
use Rattle.lane_state.specs.Ideal.{ideal_of}
use Rattle.lane_state.specs.Loading.{stream_extents}
use Rattle.lane_state.proofs.Doors.{ok-map}
use Rattle.lane_state.proofs.LoadStreams.{mapped-inside, mapped-lie, stream-bytes, stream-total}
use Rattle.lane_state.proofs.Reading.{physical-same}
use Rattle.lane_state.proofs.holdings.Holdings.extents.Goals as goal

pub returns-clause-bytes : goal.returns-clause-bytes
returns-clause-bytes c =
    let h = c.args.self.now in
    let b = Vector c.args.spans.now in
    ok-map c.extents_of.result (λ es. es.items ≡ stream_extents c.parts_of_spans.result) _ (λ es is.
    ap addresses (is ∙ ap stream_extents (c.parts_of_spans.ensures.parts
    ∙ (λ i. bio_stream (sym (physical-same h) i) b)))
    ∙ stream-bytes (ideal_of h) b) c.extents_of.ensures

pub returns-clause-lie : goal.returns-clause-lie
returns-clause-lie c =
    let m = c.args.self.now.memory.memory in
    ok-map c.extents_of.result (λ es. es.items ≡ stream_extents c.parts_of_spans.result) _ (λ es is.
    subst (Lie m) (sym (is ∙ ap stream_extents c.parts_of_spans.ensures.parts))
    (mapped-lie m c.args.spans.now c.parts_of_spans.ensures.sound)) c.extents_of.ensures

pub returns-clause-there : goal.returns-clause-there
returns-clause-there c =
    let h = c.args.self.now in
    ok-map c.extents_of.result (λ es. es.items ≡ stream_extents c.parts_of_spans.result) _ (λ es is.
    subst (λ (es : List Extent). AreIn h.loans.bytes (addresses es))
    (sym (is ∙ ap stream_extents c.parts_of_spans.ensures.parts))
    (mapped-inside h.memory.memory h.loans.bytes c.args.spans.now c.parts_of_spans.ensures.sound h.covered))
    c.extents_of.ensures

pub returns-clause-total : goal.returns-clause-total
returns-clause-total c =
    let h = c.args.self.now in
    let b = Vector c.args.spans.now in
    ok-map c.extents_of.result (λ es. es.items ≡ stream_extents c.parts_of_spans.result) _ (λ es is.
    subst (λ (es : List Extent). byte_count es ≤ 2 ^ 20)
    (sym (is ∙ ap stream_extents (c.parts_of_spans.ensures.parts ∙ (λ i. bio_stream (sym (physical-same h) i) b))))
    (stream-total (ideal_of h) b c.requires)) c.extents_of.ensures
