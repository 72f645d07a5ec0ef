use Rattle.std.proofs.Common.{◌+◌, refl, sym, ◌∙◌}
use Rattle.world_core.specs.Ideal.{ideal_run}
use Rattle.world_core.proofs.TurnsInOrder.{next_round, rests, falls}
use Rattle.world_core.proofs.run.Progress.rounds.Goals as goal

pub rounds-init : goal.rounds-init
rounds-init c = (0, refl)

pub returns-then-len-before : goal.returns-then-len-before
returns-then-len-before c = record {
  count = c.rounds.invariant.0 + 1;
  reaches =
      next_round c.rounds.invariant.0 c.args.round.now _ (ideal_run c.rounds.self) _
      c.rounds.invariant.1 c.in_ok-turns.ensures;
  rests = rests c.args.round.now (ideal_run c.rounds.self) (ideal_run c.turns.new.self) c.in_ok-turns.ensures
      (sym (c.len.ensures ∙ c.turns.new.self.entries.ok.0)
      ∙ (c.if-len-before.true ∙ (c.len-before.ensures ∙ c.rounds.self.entries.ok.0)));
}

pub rounds-smaller : goal.rounds-smaller
rounds-smaller c = falls c.args.round.now c.rounds.self (ideal_run c.turns.new.self) c.in_ok-turns.ensures
    (λ h. c.if-len-before.false (c.len.ensures
    ∙ (c.turns.new.self.entries.ok.0 ∙ (h ∙ sym (c.len-before.ensures ∙ c.rounds.self.entries.ok.0)))))

pub rounds-preserved : goal.rounds-preserved
rounds-preserved c = (
  c.rounds.invariant.0 + 1,
  next_round c.rounds.invariant.0 c.args.round.now _ (ideal_run c.rounds.self) _
      c.rounds.invariant.1 c.in_ok-turns.ensures,
)
