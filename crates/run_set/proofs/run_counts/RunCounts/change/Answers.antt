use Rattle.std.proofs.Common.{arith}
use Rattle.std.proofs.lemmas.Grind.{common_steps}
use Rattle.run_set.proofs.Apart.{apart_swapped, few_starts}
use Rattle.run_set.proofs.run_counts.RunCounts.change.Goals as goal

pub returns-then-end-start-clause-few : goal.returns-then-end-start-clause-few
returns-then-end-start-clause-few c = few_starts _ _ c.self.invariant

pub invariant_of-self-2 : goal.invariant_of-self-2
invariant_of-self-2 c = record {
  starts_climb = c.add_one-2.ensures.less;
  ends_climb = c.add_one-2.ensures.more;
  enough = grind (arith, common_steps);
  apart = apart_swapped _ _
      (c.add_one-2.ensures.apart (apart_swapped _ _ (c.add_one.ensures.apart c.self.invariant.apart)));
}

pub returns-clause-kept : goal.returns-clause-kept
returns-clause-kept c = invariant_of-self-2 c

pub returns-clause-few : goal.returns-clause-few
returns-clause-few c = few_starts _ _ (invariant_of-self-2 c)
