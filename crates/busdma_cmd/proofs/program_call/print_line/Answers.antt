use Rattle.busdma_cmd.proofs.Printing.{writes, writes_then}
use Rattle.busdma_cmd.proofs.program_call.print_line.Goals as goal

pub returns-in-Ok : goal.returns-in-Ok
returns-in-Ok g c =
    let line = c.in-Ok.ensures in
    let feed = c.write_all-written.ensures in
    writes_then _ _ _ _ _ _ _ _ line.written line.unfailed
    (writes _ _ _ _ _ _ feed.written feed.unfailed feed.unwritten feed.failed)
