use Rattle.std.proofs.Common.{rules, not, get_or, sym, arith}
use Rattle.std.proofs.lemmas.List.Sorted.{IsPartitionPoint-from_clause}
use Rattle.bounce_hub.specs.Growing.{serves}
use Rattle.bounce_hub.proofs.Placing.{fails, passes, first-is}
use Rattle.bounce_hub.proofs.place.place_in_nested.Goals as goal

pub returns-clause-is : goal.returns-clause-is
returns-clause-is c = λ nested.
    let point = IsPartitionPoint-from_clause (λ s. not (serves c.args.tag.now s)) c.args.zones.now
    c.partition_point.result c.partition_point.ensures.partitioned nested (λ a r f k. search rules) in
    sym
    (first-is (serves c.args.tag.now) c.args.zones.now c.partition_point.result (omega arith)
    (λ k d h. fails (serves c.args.tag.now (get_or c.args.zones.now k d)) (point.0 k d (omega arith) h))
    (λ d h. passes (serves c.args.tag.now (get_or c.args.zones.now _ d)) (point.1 _ d (omega arith) h)))
