use Rattle.std.proofs.Common.{ℕ, leb, sym, arith, rules}
use Rattle.std.proofs.lemmas.Bool.{leb-true, leb-false}
use Rattle.std.proofs.lemmas.List.Sorted.{IsPartitionPoint-from_clause, IsPartitionedBy-leb}
use Rattle.run_set.proofs.Counting.{climbs_nondecreasing, count_is}
use Rattle.run_set.proofs.numbers.count_at.Goals as goal

pub returns-clause-below : goal.returns-clause-below
returns-clause-below c k d p =
    let parted = IsPartitionedBy-leb (λ (x : ℕ). x) c.args.list.now c.args.n (climbs_nondecreasing 0 _ c.requires) in
    let point =
    IsPartitionPoint-from_clause (λ x. leb x c.args.n) _ _
    c.partition_point.ensures.partitioned parted (λ a r q k. search rules) in
    leb-true _ _ (point.0 k d (omega arith) p)

pub returns-clause-above : goal.returns-clause-above
returns-clause-above c k d p q =
    let parted = IsPartitionedBy-leb (λ (x : ℕ). x) c.args.list.now c.args.n (climbs_nondecreasing 0 _ c.requires) in
    let point =
    IsPartitionPoint-from_clause (λ x. leb x c.args.n) _ _
    c.partition_point.ensures.partitioned parted (λ a r q k. search rules) in
    leb-false _ _ (point.1 k d p q)

pub returns-clause-is : goal.returns-clause-is
returns-clause-is c =
    let parted = IsPartitionedBy-leb (λ (x : ℕ). x) c.args.list.now c.args.n (climbs_nondecreasing 0 _ c.requires) in
    let point =
    IsPartitionPoint-from_clause (λ x. leb x c.args.n) _ _
    c.partition_point.ensures.partitioned parted (λ a r q k. search rules) in
    sym (count_is c.args.list.now c.partition_point.result c.args.n 0 c.partition_point.ensures.bound
    (λ k a b. leb-true _ _ (point.0 k 0 (omega arith) a)) (λ k a b. leb-false _ _ (point.1 k 0 a b)))
