use Rattle.std.proofs.Common.{◌≡◌, ℕ, ◌≤◌, List, length, ap, sym, ◌∙◌, subst, arith}
use Rattle.std.specs.Prelude.{map}
use Rattle.std.specs.List.{AllByRecursion}
use Rattle.std.proofs.lemmas.List.{length-map}
use Rattle.busdma_machine.specs.Machine.Entry.{IsEntry, entries_addresses, entries_bytes}
use Rattle.busdma_machine.specs.Runs.{run_of}
use Rattle.phys_memory.specs.declared.entries.Entries.{Entries}
use Rattle.phys_memory.specs.Memory.{memory_physical}
use Rattle.busdma_rules.specs.Memory.Translation.{physical_or_0}
use Rattle.phys_memory.specs.VectorStreams.{IfAll}
use Rattle.phys_memory.proofs.Extents.{length-run_of}
use Rattle.busdma_rules.specs.Segments.Building.{IsPlaceable}
use Rattle.busdma_rules.specs.Segments.Chunks.{chunks_of}
use Rattle.busdma_rules.proofs.Segments.Counting.{chunks_bytes, chunks_few}
use Rattle.busdma_rules.proofs.Segments.Sound.{chunks_sound}
use Rattle.rules_tests.proofs.Entries.{entries_length}
use Rattle.rules_tests.proofs.tests.lists.of_walk.Goals as goal

pub chunks-requires-clause-bytes : goal.chunks-requires-clause-bytes
chunks-requires-clause-bytes c =
    let t = memory_physical c.args.memory.now.memory in
    let pas = map (physical_or_0 t) (run_of 0x1000 c.args.len) in
    let walked =
    subst (λ (w : Entries). IfAll w (λ es. entries_addresses es ≡ pas)) c.in-All.is c.in_ok-entries.ensures.addresses in
    omega (
      arith,
      c.requires.few,
      ap entries_bytes c.as_slice.ensures,
      entries_length c.in-All.entries,
      ap length walked,
      length-map (run_of 0x1000 c.args.len) (physical_or_0 t),
      length-run_of 0x1000 c.args.len,
    )

pub of_chunks-requires-clause-sound : goal.of_chunks-requires-clause-sound
of_chunks-requires-clause-sound c =
    let t = c.args.tag.now in
    let es = c.in-All.entries in
    let sound =
    subst (λ (w : Entries). IfAll w (AllByRecursion IsEntry)) c.in-All.is c.in_ok-entries.ensures.entries in
    let is = c.deref_mut.ensures.value ∙ (c.into_vec-chunks.ensures
    ∙ (c.in_ok-chunks.ensures ∙ ap (chunks_of t 0x1010) c.as_slice.ensures)) in
    subst (AllByRecursion (IsPlaceable t)) (sym is) (chunks_sound t 0x1010 es c.limits.ensures.effective sound)

pub of_chunks-requires-clause-few : goal.of_chunks-requires-clause-few
of_chunks-requires-clause-few c =
    let t = c.args.tag.now in
    let es = c.in-All.entries in
    let sound =
    subst (λ (w : Entries). IfAll w (AllByRecursion IsEntry)) c.in-All.is c.in_ok-entries.ensures.entries in
    let is = c.deref_mut.ensures.value ∙ (c.into_vec-chunks.ensures
    ∙ (c.in_ok-chunks.ensures ∙ ap (chunks_of t 0x1010) c.as_slice.ensures)) in
    let pas = map (physical_or_0 (memory_physical c.args.memory.now.memory)) (run_of 0x1000 c.args.len) in
    let walked =
    subst (λ (w : Entries). IfAll w (λ es. entries_addresses es ≡ pas)) c.in-All.is c.in_ok-entries.ensures.addresses in
    omega (
      arith,
      ap length is,
      chunks_few t (chunks_of t 0x1010 es) (chunks_sound t 0x1010 es c.limits.ensures.effective sound),
      chunks_bytes t 0x1010 es c.limits.ensures.effective,
      c.requires.few,
      entries_length es,
      ap length walked,
      length-map (run_of 0x1000 c.args.len) (physical_or_0 (memory_physical c.args.memory.now.memory)),
      length-run_of 0x1000 c.args.len,
    )
