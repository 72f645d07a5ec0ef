use Rattle.std.proofs.Common.{sym, subst, IsSome}
use Rattle.std.specs.FinMap.{get}
use Rattle.rules_tests.proofs.AllMemory.{all-judged, all-same, map-judged, map-same}
use Rattle.rules_tests.proofs.tests.loans.lend.Goals as goal

pub returns-clause-map : goal.returns-clause-map
returns-clause-map g c =
    let t = c.reserve.new.self in
    let u = c.lend.new.self in
    let there = subst (λ m. IsSome (get t.loans m)) (sym c.lent-3.ensures)
    (map-same c.args.table.now t 1 c.reserve.ensures.same c.requires.map) in
    subst (λ m. IsSome (get u.loans m)) c.lent-3.ensures
    (map-judged c.lend.result t u c.lent-3.result.made_at 0 c.len_of-len.result 1 c.lend.ensures.done
    c.lend.ensures.refused there)

pub returns-clause-all : goal.returns-clause-all
returns-clause-all g c =
    let t = c.reserve.new.self in
    all-judged 4398046511104 c.lend.result t c.lend.new.self c.lent-3.result.made_at 0 c.len_of-len.result 1
    c.lend.ensures.done c.lend.ensures.refused
    (all-same 4398046511104 c.args.table.now t c.reserve.ensures.same c.requires.all)
