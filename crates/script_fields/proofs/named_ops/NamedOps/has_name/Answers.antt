use Rattle.std.proofs.Common.{◌∙◌}
use Rattle.script_fields.proofs.Makers.{known}
use Rattle.script_fields.proofs.named_ops.NamedOps.has_name.Goals as goal

pub returns : goal.returns
returns c =
    rw (← c.self.view_is)
    (c.contains_key.ensures ∙ known c.self.inside.places c.self.inside.ops.items c.self.invariant c.args.name.now)
