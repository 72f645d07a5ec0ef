use Rattle.std.proofs.Common.{◌≡◌, true, List, [], length, ap, sym, ◌∙◌, subst}
use Rattle.std.specs.Prelude.{None}
use Rattle.busdma_machine.specs.declared.machine.chunk.Part.{Part}
use Rattle.busdma_machine.specs.declared.tags.tag.TagLimits.{TagLimits}
use Rattle.busdma_machine.specs.Machine.Entry.{IsStream, unmapped_of}
use Rattle.phys_memory.proofs.Loads.{along_loads}
use Rattle.segment_build.specs.Streams.{IsMeasure}
use Rattle.segment_build.proofs.Iterating.{drained_first}
use Rattle.memory_load.specs.MemoryLoad.{run_parts, unaligned}
use Rattle.memory_load.proofs.Parts.{run_mapped}
use Rattle.memory_load.proofs.Segments.{pieces_are}
use Rattle.memory_load.proofs.building.memory_pieces.Goals as goal

pub measure-requires-clause-stream : goal.measure-requires-clause-stream
measure-requires-clause-stream c = along_loads c.run_parts.result (c.run_parts.ensures.stream c.requires.small)

pub returns-in-Fits : goal.returns-in-Fits
returns-in-Fits c =
    let ran = c.in-Fits.ensures in
    let fits = c.in-Fits in
    let seen =
    sym (drained_first (λ (ps : List Part). ps) c.run_parts.result ran.0 ran.1) ∙ c.run_parts.ensures.parts in
    let is : IsMeasure (unaligned c.args.tag.now) 0 (run_parts true c.args.first.0 c.args.len) fits.need fits.pieces
    fits.bytes =
    subst (λ (t : TagLimits). IsMeasure t 0 (run_parts true c.args.first.0 c.args.len) fits.need fits.pieces fits.bytes)
    c.unaligned.ensures
    (subst (λ (ps : List Part). IsMeasure c.unaligned.result 0 ps fits.need fits.pieces fits.bytes) seen ran.2) in
    is.pieces [] tt ∙ ap length (pieces_are c.args.tag.now c.args.first.0 c.args.len)

pub returns-in-Unmapped : goal.returns-in-Unmapped
returns-in-Unmapped c =
    let ran = c.in-Unmapped.ensures in
    let seen =
    sym (drained_first (λ (ps : List Part). ps) c.run_parts.result ran.0 ran.1) ∙ c.run_parts.ensures.parts in
    let none = sym (ap unmapped_of seen) ∙ ran.2 in
    let mapped = run_mapped c.args.first.0 c.args.len in
    absurd (cc)
