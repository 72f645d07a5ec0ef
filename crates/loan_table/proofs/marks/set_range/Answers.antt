use Rattle.std.proofs.Common.{ap, sym, refl, ◌∙◌, arith}
use Rattle.busdma_machine.specs.Runs.{run_of}
use Rattle.busdma_rules.specs.Lending.Loans.{addresses_of}
use Rattle.loan_table.specs.Table.{set_all}
use Rattle.loan_table.proofs.Addresses.{AreIn-set_all}
use Rattle.loan_table.proofs.Pieces.{marked_front, nothing, there_back, there_front, whole}
use Rattle.loan_table.proofs.marks.set_range.Goals as goal

pub loop-at-init : goal.loop-at-init
loop-at-init c =
    let ps = c.args.row.now.positions in
    let all = whole c.args.off c.args.len c.end_of-end.result ps c.end_of-end.ensures in
    record {
      marked = ap (λ xs. set_all c.args.bytes.now.bytes (addresses_of xs) c.args.known) all;
      there = rw all c.requires.there;
      in_room = omega arith;
      same_room = refl;
      from = omega arith;
      to = omega arith;
    }

pub set_run-requires-clause-there : goal.set_run-requires-clause-there
set_run-requires-clause-there c =
    let run = c.stretch-run.result in
    there_front _ _ (run_of run.pa.0 run.len) _ c.stretch-run.ensures.is c.loop-at.invariant.there

pub loop-at-preserved : goal.loop-at-preserved
loop-at-preserved c =
    let run = run_of c.stretch-run.result.pa.0 c.stretch-run.result.len in
    let ahead = c.stretch-run.ensures.is in
    record {
      marked = marked_front c.loop-at.bytes.bytes c.set_run.new.self.bytes _ c.args.known _ run _ ahead
          c.set_run.ensures.bytes c.loop-at.invariant.marked;
      there = rw c.set_run.ensures.bytes (AreIn-set_all _ run c.args.known _
          (there_back _ _ run _ ahead c.loop-at.invariant.there));
      in_room = omega (arith, c.set_run.ensures.room, c.loop-at.invariant.in_room);
      same_room = c.set_run.ensures.there_room ∙ c.loop-at.invariant.same_room;
      from = omega arith;
      to = omega arith;
    }

pub returns-clause-bytes : goal.returns-clause-bytes
returns-clause-bytes c =
    sym (ap (λ xs. set_all c.loop-at.bytes.bytes (addresses_of xs) c.args.known)
    (nothing c.loop-at.at c.end_of-end.result c.args.row.now.positions (omega arith)))
    ∙ c.loop-at.invariant.marked
