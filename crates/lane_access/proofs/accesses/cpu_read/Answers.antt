use Rattle.std.proofs.Common.{sym, ◌∙◌, ap}
use Rattle.busdma_machine.specs.Runs.{addresses}
use Rattle.ideal_lane.specs.Outcomes.{gives}
use Rattle.lane_state.specs.Ideal.{ideal_of}
use Rattle.lane_state.proofs.Reading.{cpu_read-absent, cpu_read-done, cpu_read-refused, cpu_read-unmapped}
use Rattle.lane_access.proofs.accesses.cpu_read.Goals as goal

pub returns-in_default : goal.returns-in_default
returns-in_default c =
    ap (gives (ideal_of c.args.holdings.now)) c.report.ensures
    ∙ cpu_read-absent c.args.holdings.now c.args.place c.args.len (sym c.virtual_at.ensures ∙ c.in_default.is)

pub returns-in-Unmapped : goal.returns-in-Unmapped
returns-in-Unmapped c =
    ap (gives (ideal_of c.args.holdings.now)) c.report-in-Unmapped.ensures
    ∙ cpu_read-unmapped c.args.holdings.now c.args.place c.in-Some.va c.args.len
    (sym c.virtual_at.ensures ∙ c.in-Some.is) _
    (rw c.in-Unmapped.is at c.in_ok-at.ensures.verdict)

pub returns-in-Refused : goal.returns-in-Refused
returns-in-Refused c =
    cpu_read-refused c.args.holdings.now c.args.place c.in-Some.va c.args.len (sym c.virtual_at.ensures ∙ c.in-Some.is)
    c.in-Refused.refusal (addresses c.in-Parts.bytes)
    (rw c.in-Parts.is at c.in_ok-at.ensures.verdict) (rw c.in-Parts.is at c.in_ok-at.ensures.addresses)
    (rw c.as_slice.ensures at (sym c.in-Refused.is ∙ c.may_cpu_read.ensures))

pub returns : goal.returns
returns c =
    cpu_read-done c.args.holdings.now c.args.place c.in-Some.va c.args.len (sym c.virtual_at.ensures ∙ c.in-Some.is)
    (addresses c.in-Parts.bytes) c.in_ok-read_parts.field-0
    (rw c.in-Parts.is at c.in_ok-at.ensures.verdict) (rw c.in-Parts.is at c.in_ok-at.ensures.addresses)
    (rw c.as_slice.ensures at (sym c.in_default-may_cpu_read.is ∙ c.may_cpu_read.ensures))
    (rw c.as_slice-2.ensures at c.in_ok-read_parts.ensures)
