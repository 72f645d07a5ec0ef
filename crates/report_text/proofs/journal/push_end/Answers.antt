use Rattle.std.proofs.Common.{rules, ◌≡◌, length}
use Rattle.program_rules.specs.Reports.Report.{report_count}
use Rattle.io_edge.proofs.Giving.{gives_then}
use Rattle.report_text.proofs.journal.push_end.Goals as goal

pub returns : goal.returns
returns g c =
    let entries : c.len.result ≡ length c.args.journal.now.entries = search rules in
    let reports : c.report_count.result ≡ report_count c.args.journal.now.entries = search rules in
    gives_then c.push_str.ensures (gives_then (rw c.end_word.ensures at c.push_str-2.ensures)
    (gives_then c.push_str-3.ensures
    (gives_then (rw entries at c.push_decimal.ensures)
    (gives_then c.push_str-4.ensures (gives_then (rw reports at c.push_decimal-2.ensures) c.push_str-5.ensures)))))
