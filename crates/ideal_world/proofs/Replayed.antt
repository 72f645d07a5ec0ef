-- Every valid scenario has a replayed journal.
use Rattle.std.proofs.Common.{◌≡◌, ℕ, zero, suc, ◌<◌, ◌≤◌, List, ◌⊎◌, inl, inr, refl, arith}
use Rattle.busdma_base.specs.declared.journals.journal.Actor.{Actor}
use Rattle.busdma_base.specs.declared.journals.journal.Journal.{Journal}
use Rattle.busdma_base.specs.declared.scenarios.scenario.Scenario.{Scenario}
use Rattle.busdma_base.specs.Scenarios.Valid.{IsValid}
use Rattle.ideal_world.specs.Left.{left_of}
use Rattle.ideal_world.specs.Legal.{Run, ComesToRest, turns, round_of, opening_run, journal_of, IsReplayed}
use Rattle.ideal_world.specs.WellFormed.{IsWellFormed}
use Rattle.ideal_world.proofs.RunTurns.{turns-keep, rests-or-falls}
use Rattle.ideal_world.proofs.Opens.{opens-well}

-- some rounds lead from a run to one at rest
abbrev Rests : List Actor → Run → Type 0
Rests round r = (end : Run) × ComesToRest round r end

module _ (s : Scenario) (round : List Actor) where
  -- a run comes to rest if a round leaves it as it is, or leaves less to do and comes to rest from there
  rests-by : (r : Run) → IsWellFormed s r.world →
      (left_of (turns r round).world < left_of r.world → Rests round (turns r round)) → Rests round r
  rests-by r well next = by (rests-or-falls s round r well)
    where
      by : (turns r round ≡ r) ⊎ (left_of (turns r round).world < left_of r.world) → Rests round r
      by (inl same) = (r, record { count = 0; reaches = refl; rests = same })
      by (inr less) =
          let h = next less in (h.0, record { count = suc h.1.count; reaches = h.1.reaches; rests = h.1.rests })

  come-to-rest : (most : ℕ) (r : Run) → IsWellFormed s r.world → left_of r.world ≤ most → Rests round r
  come-to-rest zero r well few = rests-by r well (λ less. absurd (omega (arith, less, few)))
  come-to-rest (suc most) r well few =
      rests-by r well (λ less. come-to-rest most (turns r round) (turns-keep s round r well)
      (omega (arith, less, few)))

pub each-replayed : (s : Scenario) → IsValid s → (j : Journal) × IsReplayed s j
each-replayed s valid =
    let before : Run = turns (opening_run s) s.order in
    let well = turns-keep s s.order (opening_run s) (opens-well s valid) in
    let rest = come-to-rest s (round_of s) (left_of before.world) before well (omega arith) in
    (journal_of rest.0, record { run = rest.0; replay = rest.1; journal = refl })
