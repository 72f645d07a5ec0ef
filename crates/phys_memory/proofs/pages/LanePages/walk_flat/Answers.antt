use Rattle.std.proofs.Common.{◌≡◌, ℕ, ap, map, subst, append-nil}
use Rattle.std.specs.Prelude.{List, IfOk}
use Rattle.busdma_machine.specs.Machine.Entry.{entries_addresses}
use Rattle.busdma_machine.specs.Runs.{run_of}
use Rattle.phys_memory.specs.declared.entries.Entries.{Entries}
use Rattle.phys_memory.specs.Memory.{memory_physical}
use Rattle.busdma_rules.specs.Memory.Translation.{physical_or_0}
use Rattle.phys_memory.specs.VectorStreams.{IfAll}
use Rattle.phys_memory.proofs.pages.LanePages.walk_flat.Goals as goal

pub returns-clause-addresses : goal.returns-clause-addresses
returns-clause-addresses c =
    let one =
    ap (map (physical_or_0 (memory_physical c.args.self.now.memory))) (append-nil (run_of c.args.va.0 c.args.len)) in
    subst (λ (pas : List ℕ). IfOk c.walk_vector.result (λ (w : Entries). IfAll w (λ es. entries_addresses es ≡ pas)))
    one c.walk_vector.ensures.addresses
