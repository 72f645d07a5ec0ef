use Rattle.script_fields.proofs.Makers.{index_more}
use Rattle.script_fields.proofs.named_ops.NamedOps.with.Goals as goal

pub invariant_of-result : goal.invariant_of-result
invariant_of-result c =
    rw c.in_ok-push.ensures.items
    (index_more c.self.inside.places c.put_name.new.places c.self.inside.ops.items c.args.op c.self.invariant
    (rw c.self.view_is c.requires.new) (rw (c.len-place.ensures, ← c.self.view_is) at c.in_ok-put_name.ensures))
