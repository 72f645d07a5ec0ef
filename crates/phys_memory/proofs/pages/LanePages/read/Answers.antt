use Rattle.std.proofs.Common.{length, ap, sym, ◌∙◌}
use Rattle.std.proofs.lemmas.List.{length-map}
use Rattle.busdma_machine.specs.Runs.{run_of}
use Rattle.phys_memory.specs.Memory.{wire}
use Rattle.phys_memory.proofs.Extents.{length-run_of}
use Rattle.phys_memory.proofs.pages.LanePages.read.Goals as goal

pub copy_from_slice-requires : goal.copy_from_slice-requires
copy_from_slice-requires c =
    let n = length c.args.out.now in
    sym (ap length c.bytes_at.ensures ∙ length-map (run_of c.args.pa.0 n) (wire c.args.self.now.memory)
    ∙ length-run_of c.args.pa.0 n)
