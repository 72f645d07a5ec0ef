use Rattle.std.proofs.Common.{take, get_or, ap, ◌∙◌, subst, arith}
use Rattle.std.proofs.lemmas.List.{take_all}
use Rattle.std.specs.Ordering.{nat_cmp}
use Rattle.std.specs.FinMap.{get, get-empty}
use Rattle.lane_state.proofs.OwnRuns.{AreKnown, no_run, own_at, run_is_new, run_is_known}
use Rattle.lane_core.proofs.opening.opening_loans.Goals as goal

pub loop-run-init : goal.loop-run-init
loop-run-init c = record {
  loans = c.new-loans.ensures.loans;
  prepared = c.new-loans.ensures.prepared;
  bytes = λ a. ap (λ m. get m a) c.new-loans.ensures.bytes ∙ get-empty nat_cmp a;
}

pub overflow_mul-run : goal.overflow_mul-run
overflow_mul-run c = let is =
    own_at c.args.pages.now c.loop-run.run-index c.requires c.loop-run-test.true in omega (arith, is.numbered)

pub overflow_mul-run-in-loop-run : goal.overflow_mul-run-in-loop-run
overflow_mul-run-in-loop-run c = let is =
    own_at c.args.pages.now c.loop-run.run-index c.requires c.loop-run-test.true in omega (arith, is.numbered)

pub add_bytes-requires-clause-below : goal.add_bytes-requires-clause-below
add_bytes-requires-clause-below c = let is =
    own_at c.args.pages.now c.loop-run.run-index c.requires c.loop-run-test.true in omega (arith, is.numbered)

pub add_bytes-requires-clause-fresh : goal.add_bytes-requires-clause-fresh
add_bytes-requires-clause-fresh c =
    run_is_new (take c.loop-run.run-index c.args.pages.now)
    (get_or c.args.pages.now c.loop-run.run-index no_run) c.loop-run.loans.bytes
    (own_at c.args.pages.now c.loop-run.run-index c.requires c.loop-run-test.true) c.loop-run.invariant.bytes

pub loop-run-preserved : goal.loop-run-preserved
loop-run-preserved c = record {
  loans = c.in_ok-add_bytes.ensures.loans ∙ c.loop-run.invariant.loans;
  prepared = c.in_ok-add_bytes.ensures.prepared ∙ c.loop-run.invariant.prepared;
  bytes = λ a. ap (λ m. get m a) c.in_ok-add_bytes.ensures.bytes
      ∙ run_is_known c.args.pages.now c.loop-run.run-index c.loop-run.loans.bytes
      c.loop-run-test.true c.loop-run.invariant.bytes a;
}

pub returns-clause-bytes : goal.returns-clause-bytes
returns-clause-bytes c =
    subst (λ ps. AreKnown ps c.loop-run.loans.bytes)
    (take_all c.loop-run.run-index c.args.pages.now c.loop-run-test.false) c.loop-run.invariant.bytes
