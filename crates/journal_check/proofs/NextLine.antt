-- The judgement of a line.
use Rattle.std.proofs.Common.{◌≡◌, ℕ, ◌<◌, ◌^◌, List, Option, Some, None, refl, sym, ap, ◌∙◌, subst, arith, length}
use Rattle.std.proofs.lemmas.Option.{same_Some}
use Rattle.busdma_base.specs.declared.journals.journal.Actor.{Actor}
use Rattle.busdma_base.specs.declared.journals.journal.JournalEntry.{JournalEntry}
use Rattle.busdma_base.specs.declared.scenarios.scenario.Scenario.{Scenario}
use Rattle.program_rules.specs.Reports.Report.{entry_line}
use Rattle.ideal_world.specs.WellFormed.{IsWellFormed}
use Rattle.ideal_world.specs.World.{WorldState, step, step_entry}
use Rattle.ideal_world.proofs.Falling.{step-rests}
use Rattle.ideal_world.proofs.Keeping.{step-named}
use Rattle.program_rules.specs.Verdicts.Verdict.{CanGoOn, IsNextLine as IsNext}
use Rattle.journal_check.proofs.Verdicts.{steps-within}
use Rattle.journal_check.specs.declared.stepping.Line.{Line}
use Rattle.journal_check.specs.declared.stepping.Line.TheVariants.{Right, Wrong, Nobody}
use Rattle.journal_check.specs.Following.{IsJudged}

module _ (s : Scenario) (n : ℕ) (w : WorldState) (line : List ℕ) (named : Option Actor) (well : IsWellFormed s w)
    (tells : (s : Scenario) (n : ℕ) (e : JournalEntry) → e.actor.lane.0 < 2 ^ 32 → line ≡ entry_line s n e → named
    ≡ Some e.actor) where
  -- the actor of a right line is named
  told : (f : JournalEntry) → step_entry w f.actor ≡ Some f → line ≡ entry_line s n f → named ≡ Some f.actor
  told f is h =
      let few = well.valid.few_drivers in
      let count = well.count in
      let within = steps-within w f.actor f is in
      tells s n f (omega (arith, few, count, within)) h

  pub nobody-named : named ≡ None → IsJudged s n w line Nobody w
  nobody-named none = (
    refl,
    λ f.
        let clash : None ≡ Some f.0.actor = sym none ∙ told f.0 f.1 f.2 in absurd (cc),
  )

  module _ (actor : Actor) (is : named ≡ Some actor) (after : WorldState) (then : after ≡ (step w actor).world) where
    own : (f : JournalEntry) → step_entry w f.actor ≡ Some f → line ≡ entry_line s n f → step_entry w actor ≡ Some f
    own f steps h =
        let same : actor ≡ f.actor = same_Some actor f.actor (sym is ∙ told f steps h) in
        ap (step_entry w) same ∙ steps

    pub nobody-steps : None ≡ step_entry w actor → IsJudged s n w line Nobody after
    nobody-steps none = (
      then ∙ step-rests w actor (sym none),
      λ f.
          let clash : None ≡ Some f.0 = none ∙ own f.0 f.1 f.2 in absurd (cc),
    )

    module _ (e : JournalEntry) (steps : Some e ≡ step_entry w actor) where
      its-own : e.actor ≡ actor
      its-own = step-named s w well actor e (sym steps)

      pub right-line : line ≡ entry_line s n e → IsJudged s n w line (Right e) after
      right-line h =
          (ap (step_entry w) its-own ∙ sym steps, then ∙ ap (λ a. (step w a).world) (sym its-own), h)

      pub wrong-line : (line ≡ entry_line s n e → ⊥) → IsJudged s n w line Wrong after
      wrong-line off = (
        (e, ap (step_entry w) its-own ∙ sym steps),
        λ f.
            let same : e ≡ f.0 = same_Some e f.0 (steps ∙ own f.0 f.1 f.2) in
            off (f.2 ∙ ap (entry_line s n) (sym same)),
      )
