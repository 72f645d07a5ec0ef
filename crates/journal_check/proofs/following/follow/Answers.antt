use Rattle.std.proofs.Common.{rules, ◌≡◌, ◌+◌, ◌-◌, ◌<◌, ◌≤◌, refl, sym, arith, ap, ◌∙◌, subst, ℕ, List, take, drop}
use Rattle.std.proofs.Common.{length, length-drop, ◌++◌, ◌∷◌, []}
use Rattle.busdma_base.specs.declared.scenarios.scenario.Scenario.{Scenario}
use Rattle.ideal_world.specs.World.{opening_world}
use Rattle.ideal_world.proofs.Opens.{opens-well}
use Rattle.world_core.specs.Ideal.{ideal_world}
use Rattle.journal_check.proofs.Verdicts.{leads-keep}
use Rattle.journal_check.specs.Following.{IsJudged}
use Rattle.journal_check.proofs.Steps.{begins, goes-on, breaks, stops, ends}
use Rattle.journal_check.proofs.following.follow.Goals as goal

pub loop-at-init : goal.loop-at-init
loop-at-init c = record {
  within = omega arith;
  followed = begins _ _ _ _ c.new-entries.ensures.items c.requires.opens;
}

pub judged_line-requires : goal.judged_line-requires
judged_line-requires c =
    let s : Scenario = c.args.scenario.now in
    leads-keep s (opening_world s) c.loop-at.entries.items (ideal_world c.loop-at.world)
    (opens-well s c.requires.valid) c.loop-at.invariant.followed.leads

pub returns-in-Wrong : goal.returns-in-Wrong
returns-in-Wrong c =
    let s = c.args.scenario.now in
    let count : c.len-number.result ≡ length c.loop-at.entries.items = search rules in
    let own = subst (λ x. IsJudged s c.len-number.result (ideal_world c.loop-at.world)
    c.split_at-in-loop-at.result.0.now x (ideal_world c.judged_line.new.world)) c.in-Wrong.is
    c.in_ok-entry.ensures in
    breaks s c.args.text.now c.loop-at.entries.items c.loop-at.at c.len-number.result c.line_end-end.result
    (ideal_world c.loop-at.world) (ideal_world c.judged_line.new.world) c.split_at-in-loop-at.result.0.now
    c.split_at.result.1.now c.loop-at.invariant.followed count c.split_at.ensures.back c.line_end-end.ensures.line
    c.split_at-in-loop-at.ensures.front own

pub returns-in-Nobody : goal.returns-in-Nobody
returns-in-Nobody c =
    let s = c.args.scenario.now in
    let count : c.len-number.result ≡ length c.loop-at.entries.items = search rules in
    let own = subst (λ x. IsJudged s c.len-number.result (ideal_world c.loop-at.world)
    c.split_at-in-loop-at.result.0.now x (ideal_world c.judged_line.new.world)) c.in-Nobody.is
    c.in_ok-entry.ensures in
    stops s c.args.text.now c.loop-at.entries.items c.loop-at.at c.len-number.result c.line_end-end.result
    (ideal_world c.loop-at.world) (ideal_world c.judged_line.new.world) c.split_at-in-loop-at.result.0.now
    c.split_at.result.1.now c.loop-at.invariant.followed count c.split_at.ensures.back c.line_end-end.ensures.line
    c.split_at-in-loop-at.ensures.front c.loop-at.invariant.within own

pub loop-at-preserved : goal.loop-at-preserved
loop-at-preserved c =
    let s = c.args.scenario.now in
    let count : c.len-number.result ≡ length c.loop-at.entries.items = search rules in
    let own = subst (λ x. IsJudged s c.len-number.result (ideal_world c.loop-at.world)
    c.split_at-in-loop-at.result.0.now x (ideal_world c.judged_line.new.world)) c.in-Right.is
    c.in_ok-entry.ensures in
    let pushed : c.push.new.self.items ≡ c.loop-at.entries.items ++ c.in-Right.entry ∷ [] =
    c.in_ok-push-in-Right.ensures.items in
    record {
      within = omega (arith, c.line_end-end.ensures.within, c.split_at.ensures.back_len);
      followed = goes-on s c.args.text.now c.loop-at.entries.items c.loop-at.at c.len-number.result
          c.line_end-end.result
          (ideal_world c.loop-at.world) (ideal_world c.judged_line.new.world) c.split_at-in-loop-at.result.0.now
          c.split_at.result.1.now c.loop-at.invariant.followed count c.split_at.ensures.back c.line_end-end.ensures.line
          c.split_at-in-loop-at.ensures.front c.in-Right.entry c.push.new.self.items pushed own;
    }

pub returns : goal.returns
returns c =
    let over : length c.args.text.now ≤ c.loop-at.at = omega (arith, c.loop-at-test.false) in
    ends c.args.scenario.now c.args.text.now c.loop-at.entries.items c.loop-at.at (ideal_world c.loop-at.world)
    c.loop-at.invariant.followed c.loop-at.invariant.within over
