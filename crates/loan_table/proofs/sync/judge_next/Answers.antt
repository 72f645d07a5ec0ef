use Rattle.std.proofs.Common.{◌≡◌, leb, ◌+◌, ◌-◌, ◌<◌, ◌≤◌, ℕ, true, false, refl, ap, sym, ◌∙◌, None, arith}
use Rattle.std.proofs.lemmas.Bool.{leb-true, leb-false}
use Rattle.busdma_machine.specs.Judging.{judged}
use Rattle.busdma_machine.specs.Machine.Wire.{stretch}
use Rattle.loan_table.specs.Counted.{IsCountPlaced}
use Rattle.busdma_rules.specs.Lending.SyncEffects.{sync_refusal}
use Rattle.loan_table.proofs.MarkLaws.{no_position}
use Rattle.loan_table.proofs.Pieces.{first_refused, in_piece, lent_as, none_refused, shorter}
use Rattle.loan_table.proofs.Recounting.{all_placed}
use Rattle.loan_table.proofs.SameRefusals.{same_refusal}
use Rattle.loan_table.proofs.Unlent.{passed_run}
use Rattle.loan_table.proofs.sync.judge_next.Goals as goal

pub returns-then-passes-clause-passed : goal.returns-then-passes-clause-passed
returns-then-passes-clause-passed c lender of =
    passed_run (sync_refusal lender.loans lender.map c.args.ops.0) c.args.at c.args.end c.stretch-run.result.len
    c.stretch-run.result.pa.0 c.args.row.now.positions c.stretch-run.ensures.within c.requires.range
    c.stretch-run.ensures.is (c.if-passes.ensures.passes refl lender of)

pub sync_refusal-requires : goal.sync_refusal-requires
sync_refusal-requires c =
    let row = c.args.row.now in
    let first = c.piece-piece.result.first in
    record {
      placed = in_piece (IsCountPlaced row) no_position c.args.at c.args.end c.piece-piece.result.len
          first row.positions c.piece-piece.ensures.is c.piece-piece.ensures.within
          c.requires.range (all_placed row) first.pa (omega arith) (omega (arith, c.piece-piece.ensures.some));
    }

pub returns-in-Some-clause-refused : goal.returns-in-Some-clause-refused
returns-in-Some-clause-refused c lender of =
    let refusal = sync_refusal lender.loans lender.map c.args.ops.0 in
    let piece = c.piece-piece.result in
    let rest = stretch (c.args.at + piece.len) (c.args.end - (c.args.at + piece.len)) c.args.row.now.positions in
    ap (judged refusal c.args.at) c.piece-piece.ensures.is
    ∙ first_refused refusal (lent_as piece.first) c.args.at piece.first.pa piece.len rest c.in-Some.name
    c.piece-piece.ensures.some (sym (c.sync_refusal.ensures lender of) ∙ c.in-Some.is)

pub returns-in-None-clause-passed : goal.returns-in-None-clause-passed
returns-in-None-clause-passed c lender of =
    let row = c.args.row.now in
    let piece = c.piece-piece.result in
    let first = piece.first in
    let m = c.same_len.result in
    let end = c.args.end in
    let rest = stretch (c.args.at + m) (end - (c.args.at + m)) row.positions in
    let here : (a : ℕ) → first.pa ≤ a → a < first.pa + piece.len → IsCountPlaced row (lent_as first a) =
    in_piece (IsCountPlaced row) no_position c.args.at end piece.len first row.positions c.piece-piece.ensures.is
    c.piece-piece.ensures.within c.requires.range (all_placed row) in
    let refusal = sync_refusal lender.loans lender.map c.args.ops.0 in
    let passed : refusal (lent_as first first.pa) ≡ None = sym (c.sync_refusal.ensures lender of) ∙ c.in-None.is in
    let each : (a : ℕ) → first.pa ≤ a → a < first.pa + m → refusal (lent_as first a) ≡ None =
    λ a from to. elim (leb m 1) as (λ b. leb m 1 ≡ b → refusal (lent_as first a) ≡ None) [
      | true ↦ λ e.
          let few : m ≤ 1 = leb-true m 1 e in
          let same : a ≡ first.pa = omega (arith, few) in
          ap (λ k. refusal (lent_as first k)) same ∙ passed
      | false ↦ λ e.
          let more : 1 < m = leb-false m 1 e in
          same_refusal c.args.lent.now row lender of first a
          (here first.pa (omega arith) (omega (arith, c.piece-piece.ensures.some)))
          (here a from (omega (arith, c.same_len.ensures.within)))
          (c.same_len.ensures.alone more)
          (c.same_len.ensures.stands a from to) (λ way. c.same_len.ensures.counts way a from to)
          c.args.ops.0 ∙ passed
    ] refl in
    ap (judged refusal c.args.at) (shorter c.args.at end piece.len m first row.positions
    c.piece-piece.ensures.is c.same_len.ensures.within c.piece-piece.ensures.within)
    ∙ none_refused refusal (lent_as first) c.args.at first.pa m rest each
