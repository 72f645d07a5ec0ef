use Rattle.std.proofs.Common.{rules, ◌≡◌, ◌∙◌, ◌+◌, inl, inr, ℕ, List, true, false, length, refl, subst, ap, sym}
use Rattle.busdma_base.specs.declared.journals.journal.End.{End}
use Rattle.busdma_base.specs.declared.journals.journal.Journal.{Journal}
use Rattle.busdma_base.specs.declared.journals.journal.JournalEntry.{JournalEntry}
use Rattle.busdma_base.specs.declared.scenarios.scenario.Scenario.{Scenario}
use Rattle.busdma_machine.specs.declared.bounce.zone.ZoneCounts.{ZoneCounts}
use Rattle.ideal_world.specs.Ends.{IsAtRest, world_end}
use Rattle.ideal_world.specs.World.{WorldState, opening_world, zone_counts}
use Rattle.ideal_world.proofs.Opens.{opens-well}
use Rattle.world_core.specs.Ideal.{ideal_world}
use Rattle.journal_check.specs.Following.{IsTried}
use Rattle.program_rules.specs.Verdicts.Verdict.{journal_at}
use Rattle.journal_check.proofs.Finding.{stops-within, is-whole, stops-at-end}
use Rattle.journal_check.proofs.Verdicts.{leads-keep}
use Rattle.journal_check.proofs.check.verdict_at.Goals as goal

-- the journal of entries and of a world that stayed
own : (w after : WorldState) (es entries : List JournalEntry) (zones : List ZoneCounts) (end : End) → after ≡ w →
    entries ≡ es → zones ≡ zone_counts after → end ≡ world_end after →
    record { entries = entries; zones = zones; end = end } ≡ journal_at w es
own w after es entries zones end same is counted ended =
    ap (λ x. record { entries = x; zones = zones; end = end }) is
    ∙ (ap (λ z. record { entries = es; zones = z; end = end }) (counted ∙ ap zone_counts same)
    ∙ ap (λ (e : End). record { entries = es; zones = zone_counts w; end = e }) (ended ∙ ap world_end same))

pub goes_on-requires : goal.goes_on-requires
goes_on-requires c =
    let s : Scenario = c.args.scenario.now in
    leads-keep s (opening_world s) c.args.entries.items (ideal_world c.args.world) (opens-well s c.requires.valid)
    c.requires.followed.followed.leads

pub returns-then-branch : goal.returns-then-branch
returns-then-branch c =
    let w : WorldState = ideal_world c.args.world in
    let goes = subst (λ b. IsTried w b (ideal_world c.goes_on.new.world)) c.if-branch.true c.in_ok-goes_on.ensures in
    let count : c.len-followed.result ≡ length c.args.entries.items = search rules in
    inl (stops-within c.args.scenario.now c.args.text.now c.args.entries.items c.args.at w c.requires.followed
    c.len-followed.result (c.len-followed.result + 1) goes count refl)

pub returns-then-eq : goal.returns-then-eq
returns-then-eq c =
    let w : WorldState = ideal_world c.args.world in
    let after : WorldState = ideal_world c.goes_on.new.world in
    let still = subst (λ b. IsTried w b after) c.if-branch.false c.in_ok-goes_on.ensures in
    let same : c.split_at.result.1.now ≡ c.in_ok-closing.closing.items = search rules in
    is-whole c.args.scenario.now c.args.text.now c.args.entries.items c.args.at w c.requires.followed still.0
    (record { entries = c.new.result; zones = c.in_ok-zones.field-0; end = c.end.result })
    (own w after c.args.entries.items c.new.result c.in_ok-zones.field-0 c.end.result still.1 c.new.ensures
    c.in_ok-zones.ensures c.end.ensures)
    c.split_at.result.1.now c.split_at.ensures.back c.in_ok-closing.closing.items c.in_ok-closing.ensures same

pub returns : goal.returns
returns c =
    let w : WorldState = ideal_world c.args.world in
    let after : WorldState = ideal_world c.goes_on.new.world in
    let still = subst (λ b. IsTried w b after) c.if-branch.false c.in_ok-goes_on.ensures in
    let count : c.len-followed.result ≡ length c.args.entries.items = search rules in
    let other : c.split_at.result.1.now ≡ c.in_ok-closing.closing.items → ⊥ = λ h. search rules in
    inr (stops-at-end c.args.scenario.now c.args.text.now c.args.entries.items c.args.at w c.requires.followed still.0
    (record { entries = c.new.result; zones = c.in_ok-zones.field-0; end = c.end.result })
    (own w after c.args.entries.items c.new.result c.in_ok-zones.field-0 c.end.result still.1 c.new.ensures
    c.in_ok-zones.ensures c.end.ensures)
    c.split_at.result.1.now c.split_at.ensures.back c.in_ok-closing.closing.items c.len-followed.result
    c.lines_alike.result (c.len-followed.result + c.lines_alike.result + 1) c.in_ok-closing.ensures other count
    (search rules)
    refl)
