-- Turns that are tried, until one is a step.
use Rattle.std.proofs.Common.{◌≡◌, ℕ, ◌+◌, ◌<◌, ◌≤◌, Bool, true, false, List, [], ◌∷◌, ◌++◌, length, take, get_or}
use Rattle.std.proofs.Common.{Option, Some, None}
use Rattle.std.proofs.Common.{refl, sym, ap, ◌∙◌, subst, add-one}
use Rattle.std.proofs.Math.Seq.{take-suc}
use Rattle.std.proofs.lemmas.List.{take_all}
use Rattle.busdma_base.specs.declared.journals.journal.Actor.{Actor}
use Rattle.busdma_base.specs.declared.journals.journal.JournalEntry.{JournalEntry}
use Rattle.busdma_base.specs.declared.scenarios.scenario.Scenario.{Scenario}
use Rattle.ideal_lane.specs.Turns.{Turn, Stepped}
use Rattle.ideal_world.specs.Ends.{IsAtRest}
use Rattle.ideal_world.specs.Legal.{round_from}
use Rattle.ideal_world.specs.WellFormed.{IsWellFormed}
use Rattle.ideal_world.specs.World.{WorldState, WorldTurned, entry_of, step, step_entry}
use Rattle.ideal_world.proofs.Falling.{step-rests}
use Rattle.ideal_world.proofs.Keeping.{step-named}
use Rattle.ideal_world.proofs.RestRounds.{NoneSteps}
use Rattle.program_rules.specs.Verdicts.Verdict.{CanGoOn}
use Rattle.journal_check.proofs.Verdicts.{at-rest}

none-push : (w : WorldState) (actors : List Actor) (a : Actor) → NoneSteps w actors → step_entry w a ≡ None →
    NoneSteps w (actors ++ a ∷ [])
none-push w [] a h none = (none, tt)
none-push w (b ∷ actors) a h none = (h.0, none-push w actors a h.1 none)

-- none of the first actors that were tried can step, and the world is unchanged
pub record IsQuiet (w : WorldState) (actors : List Actor) (tried : ℕ) (now : WorldState) : Type 0 where
  pub none : NoneSteps w (take tried actors)
  pub same : now ≡ w

module _ (w now after : WorldState) (actors : List Actor) (i : ℕ) (d : Actor) (turn : Turn) (less : i < length actors)
    (quiet : IsQuiet w actors i now) (done : record { world = after; turn = turn } ≡ step now (get_or actors i d)) where
  entry : step_entry w (get_or actors i d) ≡ entry_of turn
  entry =
      ap (λ x. step_entry x (get_or actors i d)) (sym quiet.same) ∙ sym (ap (λ (t : WorldTurned). entry_of t.turn) done)

  pub stays-quiet : entry_of turn ≡ None → IsQuiet w actors (i + 1) after
  stays-quiet none =
      let rests : step_entry w (get_or actors i d) ≡ None = entry ∙ none in
      record {
        none = subst (NoneSteps w) (sym (ap (λ j. take j actors) (add-one i) ∙ take-suc actors i d less))
            (none-push w (take i actors) (get_or actors i d) quiet.none rests);
        same = ap (λ (t : WorldTurned). t.world) done ∙ (ap (λ x. (step x (get_or actors i d)).world) quiet.same
            ∙ step-rests w (get_or actors i d) rests);
      }

  pub goes-on : (s : Scenario) (e : JournalEntry) → IsWellFormed s w → turn ≡ Stepped e → CanGoOn w
  goes-on s e well is =
      let steps : step_entry w (get_or actors i d) ≡ Some e = entry ∙ ap entry_of is in
      (e, ap (step_entry w) (step-named s w well (get_or actors i d) e steps) ∙ steps)

-- if the complete round is quiet, no actor can step
pub all-quiet : (s : Scenario) (w now : WorldState) (actors : List Actor) (n i : ℕ) → IsWellFormed s w →
    IsQuiet w actors i now → length actors ≤ i → actors ≡ round_from 0 n → n ≡ length s.drivers →
    IsAtRest w × (now ≡ w)
all-quiet s w now actors n i well quiet over round count = (
  at-rest s w well (subst (NoneSteps w) (take_all i actors over ∙ (round ∙ ap (round_from 0) count)) quiet.none),
  quiet.same,
)
