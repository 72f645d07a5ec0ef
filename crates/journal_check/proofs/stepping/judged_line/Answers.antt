use Rattle.std.proofs.Common.{rules, ◌≡◌, ◌∙◌, sym, ap}
use Rattle.ideal_world.specs.World.{WorldTurned, entry_of}
use Rattle.lane_turns.specs.TakenTurns.{answered}
use Rattle.program_rules.specs.Reports.Report.{entry_line}
use Rattle.world_core.specs.Ideal.{ideal_world}
use Rattle.world_core.proofs.Taking.{no_entry}
use Rattle.journal_check.proofs.NextLine.{nobody-named, nobody-steps, right-line, wrong-line}
use Rattle.journal_check.proofs.stepping.judged_line.Goals as goal

pub returns-in_default : goal.returns-in_default
returns-in_default c =
    nobody-named c.args.scenario.now c.args.number (ideal_world c.args.world.now) c.args.line.now
    c.named_actor.result c.requires c.named_actor.ensures c.in_default.is

pub returns-in_default-2 : goal.returns-in_default-2
returns-in_default-2 c =
    let done = c.in_ok-entry.ensures.done in
    nobody-steps c.args.scenario.now c.args.number (ideal_world c.args.world.now) c.args.line.now
    c.named_actor.result c.requires c.named_actor.ensures c.in-Some.actor c.in-Some.is (ideal_world c.step.new.self)
    (ap (λ (t : WorldTurned). t.world) done)
    (sym (no_entry _ c.in_default-2.not-Stepped) ∙ ap (λ (t : WorldTurned). entry_of t.turn) done)

pub returns-then-eq : goal.returns-then-eq
returns-then-eq c =
    let done = c.in_ok-entry.ensures.done in
    let same : c.args.line.now ≡ entry_line c.args.scenario.now c.args.number c.in-Stepped.entry = search rules in
    right-line c.args.scenario.now c.args.number (ideal_world c.args.world.now) c.args.line.now
    c.named_actor.result c.requires c.named_actor.ensures c.in-Some.actor c.in-Some.is (ideal_world c.step.new.self)
    (ap (λ (t : WorldTurned). t.world) done) c.in-Stepped.entry
    (ap (λ t. entry_of (answered t)) (sym c.in-Stepped.is) ∙ ap (λ (t : WorldTurned). entry_of t.turn) done) same

pub returns-else-eq : goal.returns-else-eq
returns-else-eq c =
    let done = c.in_ok-entry.ensures.done in
    let off : c.args.line.now ≡ entry_line c.args.scenario.now c.args.number c.in-Stepped.entry → ⊥ =
    λ h. search rules in
    wrong-line c.args.scenario.now c.args.number (ideal_world c.args.world.now) c.args.line.now
    c.named_actor.result c.requires c.named_actor.ensures c.in-Some.actor c.in-Some.is (ideal_world c.step.new.self)
    (ap (λ (t : WorldTurned). t.world) done) c.in-Stepped.entry
    (ap (λ t. entry_of (answered t)) (sym c.in-Stepped.is) ∙ ap (λ (t : WorldTurned). entry_of t.turn) done) off
