-- The loads of a driver that opens are small.
use Rattle.std.proofs.Common.{◌≡◌, ℕ, zero, suc, ◌≤◌, false, List, [], ◌∷◌, Some, None, if◌then◌else◌, slice_get, sym}
use Rattle.std.proofs.Common.{subst, arith}
use Rattle.std.specs.List.{sum_by}
use Rattle.busdma_base.specs.declared.scenarios.scenario.Driver.{Driver}
use Rattle.busdma_base.specs.declared.scenarios.script.Op.{Op}
use Rattle.busdma_machine.specs.Each.{EachAfter}
use Rattle.busdma_base.specs.Scenarios.Limits.{buffer_limit, loaded_limit}
use Rattle.busdma_base.specs.Scenarios.Operations.{loaded_by}
use Rattle.busdma_base.specs.Scenarios.Script.{IsOp, IsScript}
use Rattle.ideal_lane.specs.Sends.{due_send, send_at}
use Rattle.lane_state.specs.declared.holdings.Holdings.{Holdings}
use Rattle.lane_state.specs.Covered.{pages_due}
use Rattle.lane_state.specs.Ideal.{ideal_of}
use Rattle.lane_state.specs.SmallLoads.{HasSmallLoads, bytes_ahead, loaded_once}

-- each load of a script is small
small-each : (before script : List Op) → EachAfter IsOp before script → (p : ℕ) (o : Op) →
    slice_get script p ≡ Some o → loaded_once o ≤ buffer_limit
small-each before [] each p o h = absurd (cc)
small-each before (q ∷ script) (here, each) zero o h =
    let same : q ≡ o = cc in subst (λ x. loaded_once x ≤ buffer_limit) same here.loaded
small-each before (q ∷ script) (here, each) (suc p) o h = small-each _ script each p o h

module _ (driver : Driver) (h : Holdings) (valid : IsScript driver.script)
    (small : sum_by loaded_by driver.script ≤ loaded_limit) (script : h.script ≡ driver.script)
    (place : h.agenda.place ≡ 0) (resend : h.due ≡ false) (promised : h.agenda.promised ≡ 0)
    (none : pages_due h.maps.map ≡ 0) where
  pub opens-small : HasSmallLoads h
  opens-small =
      let ahead : bytes_ahead (due_send (ideal_of h)) h.agenda.place h.script ≡ sum_by loaded_by driver.script =
      (λ i. bytes_ahead (if resend i then send_at (script i) (place i) else None) (place i) (script i)) in
      record {
        each = subst (λ (os : List Op). (p : ℕ) (q : Op) → slice_get os p ≡ Some q → loaded_once q ≤ buffer_limit)
            (sym script) (small-each [] driver.script valid.each);
        due = omega (arith, promised, none);
        few = omega (arith, ahead, promised, small);
      }
