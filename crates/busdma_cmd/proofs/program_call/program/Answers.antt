use Rattle.busdma_cmd.proofs.Printing.{refused_at}
use Rattle.busdma_cmd.proofs.program_call.program.Goals as goal

pub print_fault-requires : goal.print_fault-requires
print_fault-requires g c = refused_at _ _ _ c.run_words-outcome.ensures
