-- Runs by logs: the merged journal leads to their world, is legal and keeps their order.
use Rattle.std.proofs.Common.{◌<◌, List, [], ◌∷◌, length, All, sym, subst, arith, map}
use Rattle.std.proofs.lemmas.List.Elements.{All-weaker}
use Rattle.std.proofs.lemmas.List.{length-map}
use Rattle.busdma_machine.specs.declared.bounce.hold.HoldEntry.{HoldEntry}
use Rattle.busdma_base.specs.declared.journals.journal.Journal.{Journal}
use Rattle.busdma_base.specs.declared.journals.journal.JournalEntry.{JournalEntry}
use Rattle.busdma_base.specs.declared.scenarios.scenario.Scenario.{Scenario}
use Rattle.busdma_base.specs.Scenarios.Opening.{opening}
use Rattle.busdma_base.specs.Scenarios.Valid.{IsValid}
use Rattle.ideal_world.specs.Legal.{IsLegal, Leads}
use Rattle.ideal_world.specs.WellFormed.{IsWellFormed}
use Rattle.ideal_world.specs.World.{WorldState, opening_world, step}
use Rattle.ideal_world.proofs.Keeping.{step-keeps}
use Rattle.ideal_world.proofs.Opens.{opens-well}
use Rattle.ideal_runs.specs.FromLogs.{IsFromLogs, RunsTo}
use Rattle.ideal_runs.specs.Merged.{merged, world_of}
use Rattle.ideal_runs.specs.Order.{AreOrdered}
use Rattle.ideal_runs.specs.Runs.{Log}
use Rattle.ideal_runs.proofs.Leading.{merged-leads, opening-numbered}
use Rattle.ideal_runs.proofs.Ordering.{merged-ordered}

-- entries lead from a well-formed world to a well-formed one
leads-keep : (s : Scenario) (w : WorldState) (es : List JournalEntry) (end : WorldState) → IsWellFormed s w →
    Leads w es end → IsWellFormed s end
leads-keep s w [] end well h = subst (IsWellFormed s) h well
leads-keep s w (e ∷ es) end well h =
    leads-keep s (step w e.actor).world es end (step-keeps s w well e.actor) h.1

module _ (s : Scenario) (logs : List Log) (history : List HoldEntry) (w : WorldState) (run : RunsTo s logs history w)
  where
    -- the merged journal leads to the world that they ran to
    pub run-leads : Leads (opening_world s) (merged history logs) w
    run-leads =
        subst (λ a. Leads (opening_world s) (merged history logs) (world_of w.lanes a)) run.account
        (merged-leads (opening s) history logs (opening_world s).lanes w.lanes (opening-numbered s) run.sound
        run.drivers)

    -- that world is well formed
    pub run-well : IsValid s → IsWellFormed s w
    run-well valid = leads-keep s (opening_world s) (merged history logs) w (opens-well s valid) run-leads

-- each hold is of a driver that has a log
pub few-logged : {Q : Type 0} (s : Scenario) (items : Q → Log) (qs : List Q) (history : List HoldEntry)
    (w : WorldState) →
    RunsTo s (map items qs) history w → All (λ h. h.lane.0 < length qs) history
few-logged s items qs history w run =
    All-weaker (λ (h : HoldEntry). h.lane.0 < length (opening_world s).lanes) (λ (h : HoldEntry). h.lane.0 < length qs)
    (λ h below. omega (arith, below, run.drivers.logged, length-map qs items)) history run.drivers.own

pub from-logs-legal : (s : Scenario) (j : Journal) → IsFromLogs s j → IsLegal s j
from-logs-legal s j h = record {
  last = h.last;
  leads =
      subst (λ es. Leads (opening_world s) es h.last) (sym h.entries)
      (run-leads s h.logs h.history h.last h.run);
  rest = h.rest;
  zones = h.zones;
  end = h.end;
}

pub from-logs-ordered : (s : Scenario) (j : Journal) (h : IsFromLogs s j) → AreOrdered h.history h.logs j.entries
from-logs-ordered s j h =
    subst (AreOrdered h.history h.logs) (sym h.entries)
    (merged-ordered h.history h.logs (opening_world s).lanes h.last.lanes (opening-numbered s) h.run.drivers)
