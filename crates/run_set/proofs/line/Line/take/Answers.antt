use Rattle.std.proofs.Common.{◌≡◌, ◌-◌, length, ◌∙◌, arith}
use Rattle.run_set.specs.Numbers.{count_le, stacked}
use Rattle.run_set.proofs.Lines.{climbs_popped, count_popped, is_absent, number_before, poured}
use Rattle.run_set.proofs.line.Line.take.Goals as goal

pub returns-then-pop_if-clause-climbs : goal.returns-then-pop_if-clause-climbs
returns-then-pop_if-clause-climbs c =
    let climbs = rw (← c.self.view_is, c.pop_if.ensures.popped c.if-pop_if.true) at c.requires in
    climbs_popped c.self.inside.before.items c.pop_if.new.stack.items c.args.n climbs

pub returns-then-pop_if-clause-taken : goal.returns-then-pop_if-clause-taken
returns-then-pop_if-clause-taken c e m =
    rw (← c.self.view_is, c.pop_if.ensures.popped c.if-pop_if.true)
    (count_popped c.self.inside.before.items c.pop_if.new.stack.items c.args.n m)

pub returns-then-pop_if-2-clause-climbs : goal.returns-then-pop_if-2-clause-climbs
returns-then-pop_if-2-clause-climbs c =
    let b = c.self.inside.behind.items in
    let climbs = rw (
      ← c.self.view_is,
      c.pop_if-2.ensures.popped c.if-pop_if-2.true,
      poured c.pop_if-2.new.stack.items b c.args.n,
    ) at c.requires in
    rw (c.pop_if.ensures.left c.if-pop_if.false) (climbs_popped c.pop_if-2.new.stack.items b c.args.n climbs)

pub returns-then-pop_if-2-clause-taken : goal.returns-then-pop_if-2-clause-taken
returns-then-pop_if-2-clause-taken c e m =
    let b = c.self.inside.behind.items in
    rw (
      ← c.self.view_is,
      c.pop_if.ensures.left c.if-pop_if.false,
      c.pop_if-2.ensures.popped c.if-pop_if-2.true,
      poured c.pop_if-2.new.stack.items b c.args.n,
    ) (count_popped c.pop_if-2.new.stack.items b c.args.n m)

pub returns-then-lies_between-clause-absent : goal.returns-then-lies_between-clause-absent
returns-then-lies_between-clause-absent c e =
    let a = c.self.inside.before.items in
    let b = c.self.inside.behind.items in
    let one : c.deref.result.now ≡ a = c.deref.ensures.value ∙ c.pop_if-2.ensures.left c.if-pop_if-2.false in
    let two : c.deref-2.result.now ≡ b = c.deref-2.ensures.value ∙ c.pop_if.ensures.left c.if-pop_if.false in
    let counted : count_le (stacked a b) c.args.n ≡ length a = rw (one, two) at c.lies_between.ensures
    c.if-lies_between.true in
    rw (← c.self.view_is) (is_absent (stacked a b) c.args.n (length a) (rw (← c.self.view_is) at c.requires) counted
    (λ p q. c.pop_if-2.ensures.other c.if-pop_if-2.false p (number_before a b (length a - 1) 0 (omega arith) ∙ q)))
