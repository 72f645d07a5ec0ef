use Rattle.std.proofs.Common.{subst}
use Rattle.lane_run.specs.Closing.{HaveTurned}
use Rattle.world_core.specs.Ideal.{ideal_world}
use Rattle.lane_run.proofs.closing.Closing.rounds.Goals as goal

pub returns-then-not-stepped-clause-rest : goal.returns-then-not-stepped-clause-rest
returns-then-not-stepped-clause-rest g c =
    (subst (HaveTurned c.args.round.now (ideal_world c.rounds.self.world) (ideal_world c.turns.new.self.world))
    c.if-not-stepped.true c.in_ok-stepped.ensures.goes).1

pub rounds-smaller : goal.rounds-smaller
rounds-smaller g c =
    subst (HaveTurned c.args.round.now (ideal_world c.rounds.self.world) (ideal_world c.turns.new.self.world))
    c.if-not-stepped.false c.in_ok-stepped.ensures.goes
