-- What is replayed is legal, and the world in which a legal journal ends is well formed.
use Rattle.std.proofs.Common.{◌≡◌, ℕ, zero, suc, ◌+◌, ◌≤◌, Bool, true, false, List, [], ◌∷◌, ◌++◌, length, Option}
use Rattle.std.proofs.Common.{Some, None, refl, sym, ap, ◌∙◌, arith, subst, nat_lt}
use Rattle.std.proofs.lemmas.Bool.Decides.{nat_tests}
use Rattle.std.proofs.lemmas.Option.{slice_get_past}
use Rattle.busdma_base.specs.declared.journals.journal.Actor.{Actor}
use Rattle.busdma_base.specs.declared.journals.journal.JournalEntry.{JournalEntry}
use Rattle.busdma_base.specs.declared.journals.journal.Journal.{Journal}
use Rattle.busdma_base.specs.declared.scenarios.scenario.Scenario.{Scenario}
use Rattle.busdma_base.specs.Scenarios.Valid.{IsValid}
use Rattle.ideal_world.specs.Ends.{IsAtRest}
use Rattle.ideal_world.specs.Legal.{Run, Leads, noted, turn, turns, rounds, round_of, opening_run, IsReplay}
use Rattle.ideal_world.specs.Legal.{IsReplayed}
use Rattle.ideal_world.specs.Legal.{IsLegal}
use Rattle.ideal_world.specs.Waiting.{OnlyAwaits}
use Rattle.ideal_world.specs.WellFormed.{IsWellFormed}
use Rattle.ideal_world.specs.World.{WorldState, step, step_of, entry_of, step_entry, opening_world}
use Rattle.ideal_world.proofs.Keeping.{step-keeps, step-named}
use Rattle.ideal_world.proofs.Opens.{opens-well}
use Rattle.ideal_world.proofs.RestRounds.{round_rests, in_round}
use Rattle.ideal_world.proofs.Rounds.{Leads-push}
use Rattle.ideal_world.proofs.Stuck.{only-awaits}

-- entries lead from a well-formed world to a well-formed one
leads-keep : (s : Scenario) (w : WorldState) (es : List JournalEntry) (end : WorldState) → IsWellFormed s w →
    Leads w es end → IsWellFormed s end
leads-keep s w [] end well h = subst (IsWellFormed s) h well
leads-keep s w (e ∷ es) end well h =
    leads-keep s (step w e.actor).world es end (step-keeps s w well e.actor) h.1

pub legal-waits : (s : Scenario) (j : Journal) (h : IsLegal s j) → IsValid s →
    IsWellFormed s h.last × OnlyAwaits h.last
legal-waits s j h valid =
    let well = leads-keep s (opening_world s) j.entries h.last (opens-well s valid) h.leads in
    (well, only-awaits s h.last well h.rest)

-- a run from a valid scenario's opening: its entries are legal so far, and its world is well formed
record IsRunOf (s : Scenario) (r : Run) : Type 0 where
  leads : Leads (opening_world s) r.entries r.world
  well : IsWellFormed s r.world

noted-runs : (s : Scenario) (r : Run) (a : Actor) (o : Option JournalEntry) → step_entry r.world a ≡ o → IsRunOf s r →
    IsRunOf s (noted r (step r.world a).world o)
noted-runs s r a None is h = h
noted-runs s r a (Some e) is h =
    let own : e.actor ≡ a = step-named s r.world h.well a e is in
    let leads = Leads-push (opening_world s) r.world r.entries e h.leads (ap (step_entry r.world) own ∙ is) in
    record {
      leads = subst (λ x. Leads (opening_world s) (r.entries ++ e ∷ []) (step r.world x).world) own leads;
      well = step-keeps s r.world h.well a;
    }

turns-run : (s : Scenario) (actors : List Actor) (r : Run) → IsRunOf s r → IsRunOf s (turns r actors)
turns-run s [] r h = h
turns-run s (a ∷ actors) r h = turns-run s actors (turn r a) (noted-runs s r a (step_entry r.world a) refl h)

rounds-run : (s : Scenario) (n : ℕ) (round : List Actor) (r : Run) → IsRunOf s r → IsRunOf s (rounds n round r)
rounds-run s zero round r h = h
rounds-run s (suc n) round r h = rounds-run s n round (turns r round) (turns-run s round r h)

replay-runs : (s : Scenario) (r : Run) → IsValid s → IsReplay s r → IsRunOf s r
replay-runs s r valid h =
    subst (IsRunOf s) h.reaches (rounds-run s h.count (round_of s) (turns (opening_run s) s.order)
    (turns-run s s.order (opening_run s) (record { leads = refl; well = opens-well s valid })))

-- past the last driver no actor can step
past-rests : (w : WorldState) (a : Actor) → length w.lanes ≤ a.lane.0 → step_entry w a ≡ None
past-rests w a h = ap (λ o. entry_of (step_of w a o).turn) (slice_get_past w.lanes a.lane.0 h)

at-rest : (s : Scenario) (r : Run) → IsRunOf s r → turns r (round_of s) ≡ r → IsAtRest r.world
at-rest s r h e a = by_place (nat_lt a.lane.0 (length s.drivers)) refl
  where
    by_place : (b : Bool) → nat_lt a.lane.0 (length s.drivers) ≡ b → step_entry r.world a ≡ None
    by_place true t =
        let z : 0 + a.lane.0 ≡ a.lane.0 = omega arith in
        subst (λ n. step_entry r.world (record { lane = record { 0 = n }; side = a.side }) ≡ None) z
        (in_round r.world (length s.drivers) 0 a.lane.0 a.side
        (round_rests (round_of s) r e) (grind (arith, nat_tests)))
    by_place false t = past-rests r.world a (let c = h.well.count in grind (arith, nat_tests))

pub replay-legal : (s : Scenario) (j : Journal) → IsValid s → IsReplayed s j → IsLegal s j
replay-legal s j valid h =
    let run = replay-runs s h.run valid h.replay in
    record {
      last = h.run.world;
      leads = subst (λ (x : Journal). Leads (opening_world s) x.entries h.run.world) (sym h.journal) run.leads;
      rest = at-rest s h.run run h.replay.rests;
      zones = ap (λ (x : Journal). x.zones) h.journal;
      end = ap (λ (x : Journal). x.end) h.journal;
    }
