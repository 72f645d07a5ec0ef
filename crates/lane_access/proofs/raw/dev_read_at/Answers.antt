use Rattle.std.proofs.Common.{◌≡◌, length, map, unwrap_or, refl, sym, ap, ◌∙◌, subst, arith}
use Rattle.std.proofs.lemmas.List.{length-map}
use Rattle.busdma_machine.specs.declared.report.Judged.TheVariants.{Fine}
use Rattle.busdma_machine.specs.Judging.{judged}
use Rattle.busdma_machine.specs.Runs.{addresses, run_of}
use Rattle.busdma_rules.specs.Iommu.Space.{translated}
use Rattle.loan_table.specs.Table.{AreIn}
use Rattle.loan_table.proofs.Judgement.{length-run_of}
use Rattle.phys_memory.specs.Frames.{Lie}
use Rattle.phys_memory.specs.Memory.{wire}
use Rattle.ideal_lane.specs.Accesses.{dev_read_at, raw_bytes}
use Rattle.lane_access.specs.declared.raw.RawAccess.TheVariants.{Read}
use Rattle.lane_state.specs.Ideal.{ideal_of}
use Rattle.lane_state.specs.Wire.{wire_of}
use Rattle.lane_access.specs.Raw.{refusal_of}
use Rattle.lane_access.proofs.OwnExtents.{lie-inside}
use Rattle.lane_state.proofs.OwnBytes.{own-reads}
use Rattle.lane_access.proofs.RawAccesses.{raw-below, raw-inside, raw-reached, read-absent, read-done, read-refused}
use Rattle.lane_access.proofs.Steps.{done-reading, refused-reading, same-state}
use Rattle.lane_access.proofs.raw.dev_read_at.Goals as goal

pub returns-in_default : goal.returns-in_default
returns-in_default c =
    refused-reading (dev_read_at c.args.tag c.args.addr c.args.len) _ c.args.holdings.now c.report.result _
    c.report.ensures (read-absent c.args.holdings.now c.args.tag c.args.addr c.args.len (sym c.in_default.ensures))

pub returns-in-Refused : goal.returns-in-Refused
returns-in-Refused c =
    refused-reading (dev_read_at c.args.tag c.args.addr c.args.len) _ c.args.holdings.now _ c.in-Refused.refusal refl
    (read-refused c.args.holdings.now c.args.tag c.args.addr c.in-Some.field-0.now (sym c.in-Some.ensures) c.args.len
    c.in-Refused.refusal (sym c.judge_raw.ensures ∙ c.in-Refused.is))

pub raw_extents-requires-clause-below : goal.raw_extents-requires-clause-below
raw_extents-requires-clause-below c =
    raw-below c.args.holdings.now c.args.tag c.args.addr Read c.args.len
    (sym c.judge_raw.ensures ∙ c.in_default-judge_raw.is) (omega arith)

pub raw_extents-requires-clause-reached : goal.raw_extents-requires-clause-reached
raw_extents-requires-clause-reached c =
    raw-reached c.args.holdings.now c.args.tag c.args.addr Read c.args.len
    (sym c.judge_raw.ensures ∙ c.in_default-judge_raw.is)

pub read_parts-requires-clause-lie : goal.read_parts-requires-clause-lie
read_parts-requires-clause-lie c =
    let h = c.args.holdings.now in
    let inside : AreIn h.loans.bytes (addresses c.in_ok-parts.parts.items) =
    subst (AreIn h.loans.bytes) (sym c.in_ok-parts.ensures.bytes)
    (raw-inside h c.args.tag c.args.addr Read c.args.len (sym c.judge_raw.ensures ∙ c.in_default-judge_raw.is)
    c.requires.wired c.requires.stands) in
    subst (Lie h.memory.memory) (sym c.as_slice.ensures.value)
    (lie-inside h c.requires.wired c.in_ok-parts.parts.items c.in_ok-parts.ensures.in_frames inside)

pub read_parts-requires-clause-len : goal.read_parts-requires-clause-len
read_parts-requires-clause-len c =
    let s = (ideal_of c.args.holdings.now).spaces c.args.tag in
    ap (λ es. length (addresses es)) c.as_slice.ensures.value ∙ ap length c.in_ok-parts.ensures.bytes
    ∙ length-map (run_of c.args.addr c.args.len) (λ a. unwrap_or (translated s a) 0)
    ∙ length-run_of c.args.addr c.args.len

pub returns : goal.returns
returns c =
    let h = c.args.holdings.now in
    let bytes = raw_bytes (ideal_of h) c.args.tag (run_of c.args.addr c.args.len) in
    let fine : judged (refusal_of Read (ideal_of h) c.args.tag) 0 (run_of c.args.addr c.args.len) ≡ Fine =
    sym c.judge_raw.ensures ∙ c.in_default-judge_raw.is in
    let read : c.in_ok-read_parts.field-0 ≡ map (wire_of h) bytes =
    c.in_ok-read_parts.ensures
    ∙ ap (λ es. map (wire h.memory.memory) (addresses es)) c.as_slice.ensures.value
    ∙ ap (map (wire h.memory.memory)) c.in_ok-parts.ensures.bytes
    ∙ own-reads h c.requires.wired bytes
    (raw-inside h c.args.tag c.args.addr Read c.args.len fine c.requires.wired c.requires.stands) in
    done-reading
    (read-done h c.args.tag c.args.addr c.in-Some.field-0.now (sym c.in-Some.ensures) c.args.len
    c.requires.wired c.requires.stands fine c.in_ok-read_parts.field-0 read) read refl (same-state h) refl refl refl
