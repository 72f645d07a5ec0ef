use Rattle.std.proofs.Common.{◌≡◌, length, unwrap_or, refl, sym, ap, ◌∙◌, subst, arith}
use Rattle.std.proofs.lemmas.List.{length-map}
use Rattle.busdma_machine.specs.Machine.Wire.{put}
use Rattle.busdma_machine.specs.Runs.{addresses, run_of}
use Rattle.busdma_rules.specs.Iommu.Space.{translated}
use Rattle.loan_table.specs.Table.{AreIn}
use Rattle.loan_table.proofs.Judgement.{length-run_of}
use Rattle.phys_memory.specs.Frames.{Lie}
use Rattle.ideal_lane.specs.Accesses.{dev_write_at, raw_bytes}
use Rattle.ideal_wire.specs.Centre.{IsFaithful}
use Rattle.ideal_wire.specs.WireStep as wires
use Rattle.lane_access.specs.declared.raw.RawAccess.TheVariants.{Write}
use Rattle.lane_state.specs.Changes.{with_written}
use Rattle.lane_state.specs.Ideal.{ideal_of}
use Rattle.lane_state.specs.Wire.{wire_of}
use Rattle.lane_access.specs.Steps.{own_write}
use Rattle.lane_access.proofs.OwnExtents.{lie-inside}
use Rattle.lane_access.proofs.RawAccesses.{raw-below, raw-inside, raw-reached, write-absent, write-refused, write-stays}
use Rattle.lane_access.proofs.RawAccesses.{write-step, write-wire}
use Rattle.lane_access.proofs.Steps.{refused-step, same-step}
use Rattle.lane_access.proofs.raw.dev_write_at.Goals as goal

pub returns-in_default : goal.returns-in_default
returns-in_default c =
    refused-step (dev_write_at c.args.tag c.args.addr c.args.bytes.now) _ c.args.holdings.now c.report.result _
    c.report.ensures
    (write-absent c.args.holdings.now c.args.tag c.args.addr c.args.bytes.now (sym c.in_default.ensures))

pub returns-in-Refused : goal.returns-in-Refused
returns-in-Refused c =
    refused-step (dev_write_at c.args.tag c.args.addr c.args.bytes.now) _ c.args.holdings.now _ c.in-Refused.refusal
    refl (write-refused c.args.holdings.now c.args.tag c.args.addr c.args.bytes.now c.in-Some.field-0.now
    (sym c.in-Some.ensures) c.in-Refused.refusal (sym c.judge_raw.ensures ∙ c.in-Refused.is))

pub raw_extents-requires-clause-below : goal.raw_extents-requires-clause-below
raw_extents-requires-clause-below c =
    raw-below c.args.holdings.now c.args.tag c.args.addr Write (length c.args.bytes.now)
    (sym c.judge_raw.ensures ∙ c.in_default-judge_raw.is) (omega arith)

pub raw_extents-requires-clause-reached : goal.raw_extents-requires-clause-reached
raw_extents-requires-clause-reached c =
    raw-reached c.args.holdings.now c.args.tag c.args.addr Write (length c.args.bytes.now)
    (sym c.judge_raw.ensures ∙ c.in_default-judge_raw.is)

pub write_own-requires-clause-inside : goal.write_own-requires-clause-inside
write_own-requires-clause-inside c =
    let h = c.args.holdings.now in
    subst (λ es. AreIn h.loans.bytes (addresses es)) (sym c.as_slice.ensures.value)
    (subst (AreIn h.loans.bytes) (sym c.in_ok-parts.ensures.bytes)
    (raw-inside h c.args.tag c.args.addr Write (length c.args.bytes.now)
    (sym c.judge_raw.ensures ∙ c.in_default-judge_raw.is) c.requires.wired c.requires.stands))

pub write_own-requires-clause-lie : goal.write_own-requires-clause-lie
write_own-requires-clause-lie c =
    let h = c.args.holdings.now in
    let inside : AreIn h.loans.bytes (addresses c.in_ok-parts.parts.items) =
    subst (AreIn h.loans.bytes) (sym c.in_ok-parts.ensures.bytes)
    (raw-inside h c.args.tag c.args.addr Write (length c.args.bytes.now)
    (sym c.judge_raw.ensures ∙ c.in_default-judge_raw.is) c.requires.wired c.requires.stands) in
    subst (Lie h.memory.memory) (sym c.as_slice.ensures.value)
    (lie-inside h c.requires.wired c.in_ok-parts.parts.items c.in_ok-parts.ensures.in_frames inside)

pub write_own-requires-clause-len : goal.write_own-requires-clause-len
write_own-requires-clause-len c =
    let s = (ideal_of c.args.holdings.now).spaces c.args.tag in
    let len = length c.args.bytes.now in
    ap (λ es. length (addresses es)) c.as_slice.ensures.value ∙ ap length c.in_ok-parts.ensures.bytes
    ∙ length-map (run_of c.args.addr len) (λ a. unwrap_or (translated s a) 0) ∙ length-run_of c.args.addr len

pub write_own-requires-clause-faithful : goal.write_own-requires-clause-faithful
write_own-requires-clause-faithful c =
    let h = c.args.holdings.now in
    let vs = c.args.bytes.now in
    let bytes = ap addresses c.as_slice.ensures.value ∙ c.in_ok-parts.ensures.bytes in
    subst (λ pas. IsFaithful (with_written pas vs (ideal_of h)) (put pas vs (wire_of h))) (sym bytes)
    (write-stays h c.args.tag c.args.addr vs c.in-Some.field-0.now (sym c.in-Some.ensures)
    (sym c.judge_raw.ensures ∙ c.in_default-judge_raw.is) c.requires.wired c.requires.stands)

pub returns : goal.returns
returns c =
    let h = c.args.holdings.now in
    let vs = c.args.bytes.now in
    let there = sym c.in-Some.ensures in
    let fine = sym c.judge_raw.ensures ∙ c.in_default-judge_raw.is in
    let pas = addresses c.as_slice.result.now in
    let bytes : pas ≡ raw_bytes (ideal_of h) c.args.tag (run_of c.args.addr (length vs)) =
    ap addresses c.as_slice.ensures.value ∙ c.in_ok-parts.ensures.bytes in
    same-step (own_write pas vs) (dev_write_at c.args.tag c.args.addr vs) (λ l w. put pas vs w)
    (wires.wire_dev_write_at c.args.tag c.args.addr vs) h c.write_own.new.holdings c.write_own.result
    (ap (λ xs. own_write xs vs (ideal_of h)) bytes
    ∙ sym (write-step h c.args.tag c.args.addr vs c.in-Some.field-0.now there fine))
    (ap (λ xs. put xs vs (wire_of h)) bytes
    ∙ sym (write-wire h c.args.tag c.args.addr vs c.in-Some.field-0.now there fine))
    c.write_own.ensures
