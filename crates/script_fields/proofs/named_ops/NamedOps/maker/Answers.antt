use Rattle.std.proofs.Common.{sym, ◌∙◌}
use Rattle.script_fields.proofs.Makers.{unknown, other, maker, is_used}
use Rattle.script_fields.proofs.named_ops.NamedOps.maker.Goals as goal

pub returns-then-makes_at-clause-value : goal.returns-then-makes_at-clause-value
returns-then-makes_at-clause-value c =
    rw (← c.self.view_is)
    (sym (maker c.self.inside.places c.self.inside.ops.items c.self.invariant c.args.name.now c.args.used_as
    c.in-Some.place.now (sym c.in-Some.ensures.value)
    (rw c.deref.ensures.value at (sym c.makes_at.ensures ∙ c.if-makes_at.true))))

pub returns-then-makes_at-clause-made : goal.returns-then-makes_at-clause-made
returns-then-makes_at-clause-made c =
    rw (← c.self.view_is)
    (is_used c.args.used_as c.args.name.now c.self.inside.ops.items c.in-Some.place.now
    (rw c.deref.ensures.value at (sym c.makes_at.ensures ∙ c.if-makes_at.true)))

pub returns-else-makes_at-clause-value : goal.returns-else-makes_at-clause-value
returns-else-makes_at-clause-value c =
    rw (← c.self.view_is)
    (sym (other c.self.inside.places c.self.inside.ops.items c.self.invariant c.args.name.now c.args.used_as
    c.in-Some.place.now (sym c.in-Some.ensures.value)
    (rw c.deref.ensures.value at (sym c.makes_at.ensures ∙ c.if-makes_at.false))))

pub returns-in-None-clause-value : goal.returns-in-None-clause-value
returns-in-None-clause-value c =
    rw (← c.self.view_is)
    (sym (unknown c.self.inside.places c.self.inside.ops.items c.self.invariant c.args.name.now c.args.used_as
    (sym c.in-None.ensures.value)))
