use Rattle.std.proofs.Common.{◌≡◌, ℕ, false, List, ap, sym, subst, map, append-nil}
use Rattle.std.specs.Prelude.{IfOk}
use Rattle.std.specs.List.{AllByRecursion}
use Rattle.std.proofs.lemmas.Result.{IfOk-weaker}
use Rattle.busdma_machine.specs.declared.machine.bio.Bio.{Bio}
use Rattle.busdma_machine.specs.Machine.Entry.{IsEntry, entries_addresses}
use Rattle.busdma_machine.specs.Machine.Spans.{bio_spans, one_span, span_addresses}
use Rattle.busdma_machine.specs.Runs.{run_of}
use Rattle.phys_memory.specs.declared.entries.Entries.{Entries}
use Rattle.phys_memory.specs.Memory.{memory_physical}
use Rattle.busdma_rules.specs.Memory.Translation.{physical_or_0}
use Rattle.phys_memory.specs.VectorStreams.{IfAll, spans_walk}
use Rattle.load_bio.specs.Bio.{IsBio, LiesInBio, bio_walk}
use Rattle.busdma_rules.specs.Memory.Bios.{bio_translation}
use Rattle.load_bio.specs.Frames.{LiesInOneOf}
use Rattle.busdma_rules.specs.Memory.BioFrames.{in_frames}
use Rattle.load_bio.proofs.FrameWalks.{frame_bytes, frame_entries, frame_lie}
use Rattle.load_bio.proofs.bio.walk.Goals as goal

pub returns-in-Mapped-clause-walk : goal.returns-in-Mapped-clause-walk
returns-in-Mapped-clause-walk c =
    let t = memory_physical c.args.memory.now.memory in
    subst (λ (bio : Bio). IfOk c.walk_flat.result (λ (w : Entries). w ≡ bio_walk t bio))
    (sym c.in-Mapped.is) c.walk_flat.ensures.walk

pub returns-in-Mapped-clause-addresses : goal.returns-in-Mapped-clause-addresses
returns-in-Mapped-clause-addresses c =
    let t = memory_physical c.args.memory.now.memory in
    let s = c.in-Mapped.span in
    let one = ap (map (physical_or_0 t)) (sym (append-nil (run_of s.va.0 s.len))) in
    subst (λ (bio : Bio). IfOk c.walk_flat.result
    (λ (w : Entries). IfAll w (λ es. entries_addresses es
    ≡ map (physical_or_0 (bio_translation t bio)) (span_addresses (bio_spans bio))))) (sym c.in-Mapped.is)
    (subst (λ (pas : List ℕ). IfOk c.walk_flat.result (λ (w : Entries). IfAll w (λ es. entries_addresses es ≡ pas)))
    one c.walk_flat.ensures.addresses)

pub returns-in-Vector-clause-walk : goal.returns-in-Vector-clause-walk
returns-in-Vector-clause-walk c =
    let t = memory_physical c.args.memory.now.memory in
    subst (λ (bio : Bio). IfOk c.walk_vector.result (λ (w : Entries). w ≡ bio_walk t bio)) (sym c.in-Vector.is)
    (rw c.as_slice.ensures at c.walk_vector.ensures.walk)

pub returns-in-Vector-clause-addresses : goal.returns-in-Vector-clause-addresses
returns-in-Vector-clause-addresses c =
    let t = memory_physical c.args.memory.now.memory in
    subst (λ (bio : Bio). IfOk c.walk_vector.result
    (λ (w : Entries). IfAll w (λ es. entries_addresses es
    ≡ map (physical_or_0 (bio_translation t bio)) (span_addresses (bio_spans bio))))) (sym c.in-Vector.is)
    (rw c.as_slice.ensures at c.walk_vector.ensures.addresses)

pub returns-in-Unmapped-clause-addresses : goal.returns-in-Unmapped-clause-addresses
returns-in-Unmapped-clause-addresses c =
    let t = memory_physical c.args.memory.now.memory in
    let fs = c.in-Unmapped.frames in
    let off = c.in-Unmapped.off in
    let len = c.in-Unmapped.len in
    let are = subst IsBio c.in-Unmapped.is c.requires.bio in
    let frames = rw c.as_slice-in-Unmapped.ensures at c.walk_frames.ensures in
    subst (λ (bio : Bio). IfOk c.walk_frames.result
    (λ (w : Entries). IfAll w (λ es. entries_addresses es
    ≡ map (physical_or_0 (bio_translation t bio)) (span_addresses (bio_spans bio))))) (sym c.in-Unmapped.is)
    (IfOk-weaker c.walk_frames.result (λ (w : Entries). w ≡ spans_walk false (in_frames fs) (one_span off len))
    (λ (w : Entries). IfAll w (λ es. entries_addresses es
    ≡ map (physical_or_0 (in_frames fs)) (span_addresses (one_span off len))))
    (λ w h. frame_bytes fs off len are.1 w h) frames)

pub returns-in-Unmapped-clause-entries : goal.returns-in-Unmapped-clause-entries
returns-in-Unmapped-clause-entries c =
    let fs = c.in-Unmapped.frames in
    let off = c.in-Unmapped.off in
    let len = c.in-Unmapped.len in
    let are = subst IsBio c.in-Unmapped.is c.requires.bio in
    let frames = rw c.as_slice-in-Unmapped.ensures at c.walk_frames.ensures in
    IfOk-weaker c.walk_frames.result (λ (w : Entries). w ≡ spans_walk false (in_frames fs) (one_span off len))
    (λ (w : Entries). IfAll w (AllByRecursion IsEntry)) (λ w h. frame_entries fs off len are.1 w h) frames

pub returns-in-Mapped-clause-frames : goal.returns-in-Mapped-clause-frames
returns-in-Mapped-clause-frames c =
    let m = c.args.memory.now.memory in
    subst (λ (bio : Bio). IfOk c.walk_flat.result
    (λ (w : Entries). IfAll w (AllByRecursion (λ e. AllByRecursion (LiesInBio m bio) e.parts))))
    (sym c.in-Mapped.is) c.walk_flat.ensures.frames

pub returns-in-Vector-clause-frames : goal.returns-in-Vector-clause-frames
returns-in-Vector-clause-frames c =
    let m = c.args.memory.now.memory in
    subst (λ (bio : Bio). IfOk c.walk_vector.result
    (λ (w : Entries). IfAll w (AllByRecursion (λ e. AllByRecursion (LiesInBio m bio) e.parts))))
    (sym c.in-Vector.is) c.walk_vector.ensures.frames

pub returns-in-Unmapped-clause-frames : goal.returns-in-Unmapped-clause-frames
returns-in-Unmapped-clause-frames c =
    let m = c.args.memory.now.memory in
    let fs = c.in-Unmapped.frames in
    let off = c.in-Unmapped.off in
    let len = c.in-Unmapped.len in
    let are = subst IsBio c.in-Unmapped.is c.requires.bio in
    let frames = rw c.as_slice-in-Unmapped.ensures at c.walk_frames.ensures in
    subst (λ (bio : Bio). IfOk c.walk_frames.result
    (λ (w : Entries). IfAll w (AllByRecursion (λ e. AllByRecursion (LiesInBio m bio) e.parts))))
    (sym c.in-Unmapped.is)
    (IfOk-weaker c.walk_frames.result (λ (w : Entries). w ≡ spans_walk false (in_frames fs) (one_span off len))
    (λ (w : Entries). IfAll w (AllByRecursion (λ e. AllByRecursion (LiesInOneOf fs) e.parts)))
    (λ w h. frame_lie fs off len are.1 w h) frames)
