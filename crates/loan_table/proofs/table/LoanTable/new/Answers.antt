use Rattle.std.proofs.Common.{ap, true, false, is_some, sym, subst, refl, ◌≡◌, arith, ◌∙◌}
use Rattle.run_set.specs.Counts.{count}
use Rattle.loan_table.specs.Kinds.{test_of}
use Rattle.loan_table.specs.Counted.{counts_of, lent_places}
use Rattle.loan_table.proofs.Recounting.{none_counted}
use Rattle.std.specs.Map.{lookup}
use Rattle.std.specs.BTreeMap.{is_at}
use Rattle.std.specs.Ordering.{nat_cmp}
use Rattle.std.specs.FinMap.{get, get-empty}
use Rattle.std.proofs.lemmas.Bool.{false≢true}
use Rattle.loan_table.specs.Kept.{position_count}
use Rattle.loan_table.specs.Trees.{loans_in}
use Rattle.loan_table.proofs.LoansInTree.{loan_missing}
use Rattle.loan_table.proofs.table.LoanTable.new.Goals as goal

pub invariant_of-result : goal.invariant_of-result
invariant_of-result c = record {
  ordered = c.new-2.ensures.ordered;
  inside =
      λ m. rw (loan_missing true c.new-2.result.entries m (ap (lookup (is_at (nat_cmp m))) c.new-2.ensures.empty)) tt;
  prepared =
      λ m. rw (loan_missing false c.new-2.result.entries m (ap (lookup (is_at (nat_cmp m))) c.new-2.ensures.empty)) tt;
  low =
      λ a there. absurd
      (false≢true (sym (ap is_some (ap (λ m. get m a) c.new.ensures.bytes ∙ get-empty nat_cmp a)) ∙ there));
  counted = ap position_count c.new-2.ensures.empty;
  room = record { forgets = omega arith; changes = λ q. absurd (omega arith); drops = λ q. absurd (omega arith) };
  lent_counted = λ way a. subst (λ es. count (counts_of c.new-3.result way) a ≡ lent_places (test_of way) a
      (loans_in true es))
      (sym c.new-2.ensures.empty) (none_counted c.new-3.result way a c.new-3.ensures.to_write c.new-3.ensures.to_read);
  idle =
      λ m. rw (loan_missing false c.new-2.result.entries m (ap (lookup (is_at (nat_cmp m))) c.new-2.ensures.empty))
      (λ way a. refl);
  count_room = record { forgets = λ way. omega arith; changes = λ q. absurd (omega arith) };
}

pub returns-clause-loans : goal.returns-clause-loans
returns-clause-loans c = ap (loans_in true) c.new-2.ensures.empty

pub returns-clause-prepared : goal.returns-clause-prepared
returns-clause-prepared c = ap (loans_in false) c.new-2.ensures.empty
