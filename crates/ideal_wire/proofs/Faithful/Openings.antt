-- A driver opens with a faithful wire and with no load.
use Rattle.std.proofs.Common.{◌≡◌, ℕ, Bool, true, false, cond, [], Option, Some, None, is_some, slice_get, refl, ap}
use Rattle.std.proofs.Common.{sym}
use Rattle.std.proofs.Common.{◌∙◌}
use Rattle.std.specs.Option.{unwrap_or}
use Rattle.std.specs.Ordering.{nat_cmp}
use Rattle.std.specs.FinMap.{empty, get, get-empty}
use Rattle.busdma_base.specs.declared.scenarios.scenario.Driver.{Driver}
use Rattle.busdma_base.specs.Scenarios.PageRuns.{is_own}
use Rattle.busdma_machine.specs.Machine.Wire.{Wire}
use Rattle.busdma_rules.specs.declared.position.Position.{Position}
use Rattle.busdma_rules.specs.Lending.Loans.{Loan, loan_of, no_loan}
use Rattle.ideal_lane.specs.IdealMemory.{Known, value}
use Rattle.ideal_lane.specs.Opening.{opening_lane, zeros}
use Rattle.ideal_lane.specs.State.{LaneMap, LaneMemory}
use Rattle.ideal_wire.specs.Centre.{IsAt, IsFaithful}
use Rattle.ideal_wire.specs.Laid.{LiesIn, IsOwnByte, OfPages, OfMemory, AreLaid}
use Rattle.ideal_wire.specs.Traces.{stage_in}

none_loaded : (m : ℕ) → loan_of empty m ≡ no_loan
none_loaded m = ap (λ (o : Option Loan). unwrap_or o no_loan) (get-empty nat_cmp m)

none_at : {A : Type 0} (m i : ℕ) (p : Position) → IsAt empty m i p → A
none_at m i p h =
    let gone : slice_get [] i ≡ Some p =
    sym (λ x. slice_get (none_loaded m x).positions i) ∙ h in absurd (cc)

is_zero : (b : Bool) (v : ℕ) → cond b (Some (Known 0)) None ≡ Some (Known v) → (b ≡ true) × (v ≡ 0)
is_zero true v h = (refl, sym (ap value h))
is_zero false v h = absurd (cc)

pub opens-faithful : (id maxmem : ℕ) (driver : Driver) (w : Wire) →
    ((a : ℕ) → is_own driver.pages a ≡ true → w a ≡ 0) → IsFaithful (opening_lane id maxmem driver) w
opens-faithful id maxmem driver w zeros = record {
  exclusive = record {
    once = λ m i j p q h k tw e. none_at m i p h;
    alone = λ m n i j p q h k tw any e. none_at m i p h;
    unlent = λ m i p c h. none_at m i p h;
  };
  agrees = record {
    written = λ m i p t v h k tw is. none_at m i p h;
    read = λ m i p t v h k tr free is. none_at m i p h;
    kept = λ a v free is. let z = is_zero (is_own driver.pages a) v is in zeros a z.0 ∙ sym z.1;
  };
}

no_memory : {A : Type 0} (k : ℕ) (x : LaneMemory) → get (empty {X = LaneMemory} {R = nat_cmp}) k ≡ Some x → A
no_memory k x e = let none : get (empty {X = LaneMemory} {R = nat_cmp}) k ≡ None = get-empty nat_cmp k in absurd (cc)

pub opens-laid : (id maxmem : ℕ) (driver : Driver) → AreLaid (opening_lane id maxmem driver)
opens-laid id maxmem driver = record {
  owned = λ a own. there a own;
  only = λ a there. ∣ OfPages (own (is_own driver.pages a) there) ∣₁;
  runs = λ k x e. no_memory k x e;
  reached = λ k x o e f. no_memory k x e;
  each = λ m. by m (get (empty {X = LaneMap} {R = nat_cmp}) m) (get-empty nat_cmp m);
}
  where
    is_there : (b : Bool) → b ≡ true → is_some (cond b (Some (Known 0)) None) ≡ true
    is_there true e = refl
    is_there false e = absurd (cc)

    own : (b : Bool) → is_some (cond b (Some (Known 0)) None) ≡ true → b ≡ true
    own true e = refl
    own false e = absurd (cc)

    there : (a : ℕ) → IsOwnByte (opening_lane id maxmem driver) a → is_some (zeros driver.pages a) ≡ true
    there a (OfPages e) = is_there (is_own driver.pages a) e
    there a (OfMemory k x e r) = no_memory k x e

    by : (m : ℕ) (o : Option LaneMap) → o ≡ None → LiesIn (opening_lane id maxmem driver) m (stage_in o)
    by m None e = none_loaded m
    by m (Some o) e = absurd (cc)
