use Rattle.busdma_cmd.proofs.Printing.{writes}
use Rattle.busdma_cmd.proofs.program_call.print_refusal.Goals as goal

pub returns : goal.returns
returns g c =
    let line = c.write_refusal-written.ensures in
    writes _ _ _ _ _ _ line.written line.unfailed line.unwritten line.failed
