-- What turns make of a run in a well-formed world: they keep it so, and they leave it as it is or note an entry.
use Rattle.std.proofs.Common.{◌≡◌, ◌<◌, ◌≤◌, List, [], ◌∷◌, Option, Some, None, refl, arith}
use Rattle.std.proofs.Common.{◌⊎◌, inl, inr}
use Rattle.busdma_base.specs.declared.journals.journal.Actor.{Actor}
use Rattle.busdma_base.specs.declared.journals.journal.JournalEntry.{JournalEntry}
use Rattle.busdma_base.specs.declared.scenarios.scenario.Scenario.{Scenario}
use Rattle.ideal_world.specs.Left.{left_of}
use Rattle.ideal_world.specs.Legal.{Run, noted, turn, turns}
use Rattle.ideal_world.specs.WellFormed.{IsWellFormed}
use Rattle.ideal_world.specs.World.{step, step_entry}
use Rattle.ideal_world.proofs.Falling.{step-falls}
use Rattle.ideal_world.proofs.Keeping.{step-keeps}

module _ (s : Scenario) where
  -- a turn keeps the world well formed
  noted-keeps : (r : Run) (a : Actor) (o : Option JournalEntry) → IsWellFormed s r.world →
      IsWellFormed s (noted r (step r.world a).world o).world
  noted-keeps r a None well = well
  noted-keeps r a (Some e) well = step-keeps s r.world well a

  pub turns-keep : (actors : List Actor) (r : Run) → IsWellFormed s r.world → IsWellFormed s (turns r actors).world
  turns-keep [] r well = well
  turns-keep (a ∷ actors) r well =
      turns-keep actors (turn r a) (noted-keeps r a (step_entry r.world a) well)

  -- a turn leaves no more to do
  noted-falls : (r : Run) (a : Actor) (o : Option JournalEntry) → IsWellFormed s r.world → step_entry r.world a ≡ o →
      left_of (noted r (step r.world a).world o).world ≤ left_of r.world
  noted-falls r a None well is = omega arith
  noted-falls r a (Some e) well is = let f = step-falls s r.world a e well is in omega (arith, f)

  turns-fall : (actors : List Actor) (r : Run) → IsWellFormed s r.world →
      left_of (turns r actors).world ≤ left_of r.world
  turns-fall [] r well = omega arith
  turns-fall (a ∷ actors) r well =
      omega (
        arith,
        turns-fall actors (turn r a) (noted-keeps r a (step_entry r.world a) well),
        noted-falls r a (step_entry r.world a) well refl,
      )

  -- turns leave the run as it is, or leave less to do
  pub rests-or-falls : (actors : List Actor) (r : Run) → IsWellFormed s r.world →
      (turns r actors ≡ r) ⊎ (left_of (turns r actors).world < left_of r.world)
  rests-or-falls [] r well = inl refl
  rests-or-falls (a ∷ actors) r well = first (step_entry r.world a) refl (rests-or-falls actors r well)
    where
      first : (o : Option JournalEntry) → step_entry r.world a ≡ o →
          (turns r actors ≡ r) ⊎ (left_of (turns r actors).world < left_of r.world) →
          (turns (noted r (step r.world a).world o) actors ≡ r)
          ⊎ (left_of (turns (noted r (step r.world a).world o) actors).world < left_of r.world)
      first None is others = others
      first (Some e) is others =
          let next : Run = noted r (step r.world a).world (Some e) in
          inr (omega (
            arith,
            step-falls s r.world a e well is,
            turns-fall actors next (step-keeps s r.world well a),
          ))
