use Rattle.io_edge.proofs.Giving.{gives_then, gives_nothing, gives_as}
use Rattle.program_rules.specs.Reports.Report.{entry_line}
use Rattle.report_text.proofs.Rest.{numbered_next, numbered_end}
use Rattle.report_text.proofs.entry.push_entries.Goals as goal

pub loop-number-preserved : goal.loop-number-preserved
loop-number-preserved g c = λ ended rest.
    c.loop-number.invariant ended
    (gives_as (numbered_next (entry_line c.args.scenario.now) c.args.entries.now c.loop-number.number
    c.index-entries-number.result _ c.loop-number-test.true c.index-entries-number.is)
    (gives_then c.push_entry.ensures rest))

pub returns : goal.returns
returns g c =
    c.loop-number.invariant c.loop-number.out
    (gives_as (numbered_end (entry_line c.args.scenario.now) c.args.entries.now c.loop-number.number
    c.loop-number-test.false)
    (gives_nothing c.loop-number.out))
