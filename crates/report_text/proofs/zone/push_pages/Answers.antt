use Rattle.io_edge.proofs.Giving.{gives_then}
use Rattle.report_text.proofs.zone.push_pages.Goals as goal

pub returns : goal.returns
returns g c = gives_then (rw c.from.ensures at c.push_count.ensures)
    (gives_then (rw c.from-2.ensures at c.push_count-2.ensures)
    (gives_then (rw c.from-3.ensures at c.push_count-3.ensures) (rw c.from-4.ensures at c.push_count-4.ensures)))
