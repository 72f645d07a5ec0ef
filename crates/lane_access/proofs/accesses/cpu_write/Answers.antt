use Rattle.std.proofs.Common.{refl, sym, ◌∙◌}
use Rattle.busdma_machine.specs.Machine.Wire.{put}
use Rattle.busdma_machine.specs.Runs.{addresses}
use Rattle.ideal_lane.specs.Accesses.{cpu_write}
use Rattle.ideal_wire.specs.WireStep as wires
use Rattle.lane_access.specs.Steps.{own_write}
use Rattle.lane_access.proofs.CpuWrites.{cpu_write-absent, cpu_write-refused, cpu_write-stays, cpu_write-step}
use Rattle.lane_access.proofs.CpuWrites.{cpu_write-unmapped, cpu_write-wire}
use Rattle.lane_access.proofs.Steps.{refused-step, same-step}
use Rattle.lane_access.proofs.accesses.cpu_write.Goals as goal

pub returns-in_default : goal.returns-in_default
returns-in_default c =
    refused-step (cpu_write c.args.place c.args.bytes.now) _ c.args.holdings.now c.report.result _ c.report.ensures
    (cpu_write-absent c.args.holdings.now c.args.place c.args.bytes.now (sym c.virtual_at.ensures ∙ c.in_default.is))

pub returns-in-Unmapped : goal.returns-in-Unmapped
returns-in-Unmapped c =
    refused-step (cpu_write c.args.place c.args.bytes.now) _ c.args.holdings.now c.report-in-Unmapped.result _
    c.report-in-Unmapped.ensures
    (cpu_write-unmapped c.args.holdings.now c.args.place c.in-Some.va (sym c.virtual_at.ensures ∙ c.in-Some.is)
    c.args.bytes.now _
    (rw c.in-Unmapped.is at c.in_ok-at.ensures.verdict))

pub returns-in-Refused : goal.returns-in-Refused
returns-in-Refused c =
    refused-step (cpu_write c.args.place c.args.bytes.now) _ c.args.holdings.now _ c.in-Refused.refusal refl
    (cpu_write-refused c.args.holdings.now c.args.place c.in-Some.va (sym c.virtual_at.ensures ∙ c.in-Some.is)
    c.args.bytes.now (addresses c.in-Parts.parts) c.in-Refused.refusal
    (rw c.in-Parts.is at c.in_ok-at.ensures.verdict) (rw c.in-Parts.is at c.in_ok-at.ensures.addresses)
    (rw c.as_slice.ensures at (sym c.in-Refused.is ∙ c.may_cpu_write.ensures)))

pub write_own-requires-clause-lie : goal.write_own-requires-clause-lie
write_own-requires-clause-lie c = rw c.as_slice-2.ensures (rw c.in-Parts.is at c.in_ok-at.ensures.lie)

pub write_own-requires-clause-inside : goal.write_own-requires-clause-inside
write_own-requires-clause-inside c = rw c.as_slice-2.ensures (rw c.in-Parts.is at c.in_ok-at.ensures.inside)

pub write_own-requires-clause-len : goal.write_own-requires-clause-len
write_own-requires-clause-len c = rw c.as_slice-2.ensures (rw c.in-Parts.is at c.in_ok-at.ensures.len)

pub write_own-requires-clause-faithful : goal.write_own-requires-clause-faithful
write_own-requires-clause-faithful c =
    rw c.as_slice-2.ensures
    (cpu_write-stays c.args.holdings.now c.requires c.args.place c.in-Some.va (sym c.virtual_at.ensures ∙ c.in-Some.is)
    c.args.bytes.now (addresses c.in-Parts.parts)
    (rw c.in-Parts.is at c.in_ok-at.ensures.verdict) (rw c.in-Parts.is at c.in_ok-at.ensures.addresses)
    (rw c.as_slice.ensures at (sym c.in_default-may_cpu_write.is ∙ c.may_cpu_write.ensures)))

pub returns : goal.returns
returns c =
    let h = c.args.holdings.now in
    let place = c.args.place in
    let vs = c.args.bytes.now in
    let pas = addresses c.in-Parts.parts in
    let at = sym c.virtual_at.ensures ∙ c.in-Some.is in
    let reaches = rw c.in-Parts.is at c.in_ok-at.ensures.verdict in
    let here = rw c.in-Parts.is at c.in_ok-at.ensures.addresses in
    let fine = rw c.as_slice.ensures at (sym c.in_default-may_cpu_write.is ∙ c.may_cpu_write.ensures) in
    same-step (own_write pas vs) (cpu_write place vs) (λ l w. put pas vs w) (wires.wire_cpu_write place vs) h
    c.write_own.new.holdings c.write_own.result
    (sym (cpu_write-step h c.requires place c.in-Some.va at vs pas reaches here fine))
    (sym (cpu_write-wire h c.requires place c.in-Some.va at vs pas reaches here fine))
    (rw c.as_slice-2.ensures at c.write_own.ensures)
