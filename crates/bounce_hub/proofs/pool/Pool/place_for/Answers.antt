use Rattle.std.proofs.Common.{sym, ◌∙◌, arith}
use Rattle.bounce_hub.proofs.Nested.{place-early, place-late}
use Rattle.bounce_hub.proofs.pool.Pool.place_for.Goals as goal

pub returns-then-place-self-clause-is : goal.returns-then-place-self-clause-is
returns-then-place-self-clause-is c =
    place-early c.args.self.now c.requires.account c.args.tag.now c.split_at.result.0.now c.split_at.result.1.now
    c.place_in_nested-place.result c.requires.agrees (sym c.deref.ensures.value ∙ c.split_at.ensures.by_index.0)
    c.split_at.ensures.front_len c.place_in_nested-place.ensures.is (omega arith)

pub returns-clause-is : goal.returns-clause-is
returns-clause-is c =
    place-late c.args.self.now c.requires.account c.args.tag.now c.split_at.result.0.now c.split_at.result.1.now
    c.place_in_nested-place.result c.requires.agrees (sym c.deref.ensures.value ∙ c.split_at.ensures.by_index.0)
    c.split_at.ensures.front_len c.place_in_nested-place.ensures.is (omega arith) c.place_in.result
    c.place_in.ensures.is
