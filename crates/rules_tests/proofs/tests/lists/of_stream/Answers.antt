use Rattle.std.proofs.Common.{List, length, sym, ◌∙◌, subst, arith}
use Rattle.busdma_machine.specs.declared.machine.chunk.Part.{Part}
use Rattle.segment_build.specs.Conditions.{HasRooms}
use Rattle.segment_build.specs.Streams.{IsMeasure}
use Rattle.segment_build.proofs.FrontsAsk.{HasRooms-front}
use Rattle.segment_build.proofs.Iterating.{along_first, drained_first}
use Rattle.rules_tests.proofs.tests.lists.of_stream.Goals as goal

pub build_from-requires-clause-need : goal.build_from-requires-clause-need
build_from-requires-clause-need c xs s y =
    let t = c.args.tag.now in
    let pages = c.args.pages.now in
    let parts = c.parts_of_span-2.result in
    let ran = c.in-Fits.ensures in
    let same = sym (drained_first (λ (ps : List Part). ps) c.parts_of_span.result ran.0 ran.1)
    ∙ (c.parts_of_span.ensures.parts ∙ sym c.parts_of_span-2.ensures.parts) in
    let fits =
    subst (λ (ps : List Part). IsMeasure t 0x1010 ps c.in-Fits.need c.in-Fits.pieces c.in-Fits.bytes) same ran.2 in
    let rooms = HasRooms t 0x1010 pages t.nsegments (length pages) in
    let whole : rooms parts =
    record {
      stream = c.parts_of_span-2.ensures.stream (omega (arith, c.requires.few, c.span-bytes.ensures));
      need = omega (arith, fits.need, c.if-need-pages.false);
      fits = omega arith;
      bounced_fit = omega (arith, fits.need, c.if-need-pages.false);
    } in
    (along_first (λ (ps : List Part). ps) rooms
    (HasRooms-front t 0x1010 pages t.nsegments (length pages) c.fronts_ask_no_more.ensures) parts whole xs s y).need
