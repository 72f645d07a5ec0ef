use Rattle.std.proofs.Common.{◌<◌, get_or, ◌∙◌, arith}
use Rattle.run_set.specs.Numbers.{count_le}
use Rattle.run_set.proofs.Counting.{count_past, count_until, is_inside, next_is_above}
use Rattle.run_set.proofs.edges.count_and_turn.Goals as goal

pub returns-clause-from : goal.returns-clause-from
returns-clause-from c =
    let next : c.args.start < get_or c.args.line.now.items c.count_near-count.result c.args.end =
    next_is_above c.args.line.now.items c.count_near-count.result c.args.start c.args.end c.requires.some
    (λ q. c.count_near-count.ensures.above c.count_near-count.result c.args.end (omega arith) q) in
    omega arith

pub returns-clause-none : goal.returns-clause-none
returns-clause-none c n p q =
    let until : n < get_or c.args.line.now.items c.count_near-count.result c.args.end = omega arith in
    count_until 0 c.args.line.now.items c.count_near-count.result c.args.start n c.args.end c.requires.climbs
    c.count_near-count.ensures.small c.count_near-count.ensures.below p until ∙ c.count_near-count.ensures.is

pub returns-clause-fewer : goal.returns-clause-fewer
returns-clause-fewer c p =
    let before : get_or c.args.line.now.items c.count_near-count.result c.args.end < c.args.end = omega arith in
    let past : c.count_near-count.result < count_le c.args.line.now.items c.min.result =
    count_past 0 c.args.line.now.items c.count_near-count.result c.min.result c.args.end c.requires.climbs
    (is_inside c.args.line.now.items c.count_near-count.result c.args.end before) (omega arith) in
    omega arith
