use Rattle.std.proofs.Common.{sym, ◌∙◌}
use Rattle.lane_turns.specs.TakenTurns.{answered}
use Rattle.world_core.specs.Ideal.{ideal_run, ideal_world}
use Rattle.world_core.proofs.Resting.{idle-none, passed-over}
use Rattle.world_core.proofs.Taking.{skips, no_entry}
use Rattle.world_core.proofs.run.Progress.turn.Goals as goal

pub returns-in_default : goal.returns-in_default
returns-in_default c =
    skips (ideal_run c.args.self.now) c.args.actor (ideal_world c.step.new.self) (answered c.in_ok-entry.field-0)
    c.in_ok-entry.ensures.done (no_entry _ c.in_default.not-Stepped)

pub returns-then-is_idle : goal.returns-then-is_idle
returns-then-is_idle c =
    passed-over (ideal_run c.args.self.now) c.args.actor
    (idle-none _ (sym c.if-is_idle.true ∙ c.is_idle.ensures))
