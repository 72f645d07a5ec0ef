use Rattle.std.proofs.Common.{sym, ap, ◌∙◌, cond}
use Rattle.std.proofs.lemmas.List.Folds.{list_all-map}
use Rattle.busdma_base.specs.declared.journals.journal.End.TheVariants.{Finished, Stuck}
use Rattle.lane_core.specs.LaneIdeal.{ideal}
use Rattle.ideal_world.specs.World.{has_ended}
use Rattle.world_core.proofs.world.World.end.Goals as goal

pub returns-then-all_ended : goal.returns-then-all_ended
returns-then-all_ended c =
    sym (ap (λ b. cond b Finished Stuck) (list_all-map has_ended ideal c.args.self.now.lanes.items
    ∙ (sym c.all_ended.ensures ∙ c.if-all_ended.true)))

pub returns-else-all_ended : goal.returns-else-all_ended
returns-else-all_ended c =
    sym (ap (λ b. cond b Finished Stuck) (list_all-map has_ended ideal c.args.self.now.lanes.items
    ∙ (sym c.all_ended.ensures ∙ c.if-all_ended.false)))
