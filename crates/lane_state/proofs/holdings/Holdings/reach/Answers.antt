use Rattle.std.proofs.Common.{◌≡◌, ◌<◌, ◌^◌, length, map, sym, ap, ◌∙◌, subst, arith}
use Rattle.busdma_machine.specs.Runs.{addresses, byte_count, run_of}
use Rattle.loan_table.specs.Table.{AreIn}
use Rattle.phys_memory.specs.declared.walk.Walked.{Walked}
use Rattle.phys_memory.specs.Frames.{Lie}
use Rattle.phys_memory.specs.Memory.{memory_physical}
use Rattle.busdma_rules.specs.Memory.Translation.{physical_or_0}
use Rattle.phys_memory.specs.Walk.{IfParts, verdict}
use Rattle.lane_state.proofs.Nowhere.{nowhere-bytes, nowhere-len, nowhere-parts, nowhere-verdict}
use Rattle.lane_state.proofs.Reaching.{reach_inside, reach_len, reach_total}
use Rattle.lane_state.proofs.holdings.Holdings.reach.Goals as goal

pub returns-then-va-lt-END-clause-inside : goal.returns-then-va-lt-END-clause-inside
returns-then-va-lt-END-clause-inside c =
    reach_inside c.args.self.now.memory.memory c.args.self.now.loans.bytes c.translate.result c.args.self.now.covered
    c.translate.ensures.extents c.translate.ensures.frames

pub returns-then-va-lt-END-clause-len : goal.returns-then-va-lt-END-clause-len
returns-then-va-lt-END-clause-len c = reach_len _ _ c.args.len c.translate.result c.translate.ensures.addresses

pub returns-then-va-lt-END-clause-total : goal.returns-then-va-lt-END-clause-total
returns-then-va-lt-END-clause-total c =
    reach_total c.args.len c.translate.result c.ranges.len.fits
    (reach_len _ _ c.args.len c.translate.result c.translate.ensures.addresses)

pub returns-else-va-lt-END-clause-verdict : goal.returns-else-va-lt-END-clause-verdict
returns-else-va-lt-END-clause-verdict c =
    ap verdict c.unreached.ensures
    ∙ nowhere-verdict c.args.self.now.memory.memory c.args.va c.args.len (omega arith)

pub returns-else-va-lt-END-clause-addresses : goal.returns-else-va-lt-END-clause-addresses
returns-else-va-lt-END-clause-addresses c =
    let f = physical_or_0 (memory_physical c.args.self.now.memory.memory) in
    subst (λ (w : Walked). IfParts w (λ es. addresses es ≡ map f (run_of c.args.va c.args.len)))
    (sym c.unreached.ensures) (nowhere-bytes f c.args.va c.args.len)

pub returns-else-va-lt-END-clause-lie : goal.returns-else-va-lt-END-clause-lie
returns-else-va-lt-END-clause-lie c =
    subst (λ (w : Walked). IfParts w (Lie c.args.self.now.memory.memory)) (sym c.unreached.ensures)
    (nowhere-parts (Lie c.args.self.now.memory.memory) c.args.len (record { extents = tt; frames = tt }))

pub returns-else-va-lt-END-clause-inside : goal.returns-else-va-lt-END-clause-inside
returns-else-va-lt-END-clause-inside c =
    subst (λ (w : Walked). IfParts w (λ es. AreIn c.args.self.now.loans.bytes (addresses es))) (sym c.unreached.ensures)
    (nowhere-parts (λ es. AreIn c.args.self.now.loans.bytes (addresses es)) c.args.len tt)

pub returns-else-va-lt-END-clause-len : goal.returns-else-va-lt-END-clause-len
returns-else-va-lt-END-clause-len c =
    subst (λ (w : Walked). IfParts w (λ es. length (addresses es) ≡ c.args.len)) (sym c.unreached.ensures)
    (nowhere-len c.args.len)

pub returns-else-va-lt-END-clause-total : goal.returns-else-va-lt-END-clause-total
returns-else-va-lt-END-clause-total c =
    subst (λ (w : Walked). IfParts w (λ es. byte_count es < 2 ^ 64)) (sym c.unreached.ensures)
    (nowhere-parts (λ es. byte_count es < 2 ^ 64) c.args.len (omega arith))
