-- A valid scenario opens in a well-formed world.
use Rattle.std.proofs.Common.{◌≡◌, ℕ, ◌+◌, ◌<◌, [], length, refl, sym, subst, arith}
use Rattle.std.proofs.Common.{Some, None}
use Rattle.std.proofs.lemmas.List.Elements.{All-nil}
use Rattle.std.specs.FinMap.{empty, get, get-empty}
use Rattle.std.specs.Ordering.{nat_cmp}
use Rattle.busdma_machine.specs.declared.bounce.hold.HoldEntry.{HoldEntry}
use Rattle.busdma_base.specs.declared.scenarios.scenario.Scenario.{Scenario}
use Rattle.busdma_base.specs.Scenarios.Opening.{maxmem_of, opening}
use Rattle.busdma_base.specs.Scenarios.Valid.{IsValid}
use Rattle.busdma_base.proofs.OpeningLaws.{opening-may_begin}
use Rattle.ideal_lane.specs.Opening.{opening_lane}
use Rattle.ideal_lane.specs.State.{LaneState, LaneMap}
use Rattle.ideal_lane.proofs.OpeningLaws.{opens-standing, opens-agreeing}
use Rattle.ideal_wire.proofs.Tags.MachineOpens.{opens-in-machine}
use Rattle.ideal_wire.proofs.Devices.KeptSpaces.{opens-spaced}
use Rattle.ideal_wire.proofs.Devices.MappedTurns.{opens-mapped}
use Rattle.ideal_wire.proofs.Faithful.Openings.{opens-laid}
use Rattle.ideal_world.specs.WellFormed.{IsDriverOf, IsWellFormed}
use Rattle.ideal_world.specs.World.{opening_world}
use Rattle.ideal_world.proofs.Lanes.{OpensAt, opening_at, length-opening_lanes, none-bounced}

-- there is no map at an opening
nothing : (m : ℕ) (o : LaneMap) → get (empty {X = LaneMap} {R = nat_cmp}) m ≡ Some o → ⊥
nothing m o e = let none : get (empty {X = LaneMap} {R = nat_cmp}) m ≡ None = get-empty nat_cmp m in absurd (cc)

module _ (s : Scenario) (valid : IsValid s) where
  driver : (i : ℕ) (l : LaneState) → OpensAt 0 (maxmem_of s.frames) s.drivers i l → IsDriverOf s (opening s) i l
  driver i l o =
      let at : 0 + i ≡ i = omega arith in
      subst (IsDriverOf s (opening s) i) (sym o.opens)
      (subst (λ k. IsDriverOf s (opening s) i (opening_lane k (maxmem_of s.frames) o.driver)) (sym at) (record {
        driver = o.driver;
        there = o.there;
        number = refl;
        script = refl;
        pages = refl;
        stands = opens-standing i (maxmem_of s.frames) o.driver;
        machine = opens-in-machine s i o.driver valid o.there;
        laid = opens-laid i (maxmem_of s.frames) o.driver;
        spaced = opens-spaced i (maxmem_of s.frames) o.driver;
        mapped = opens-mapped i (maxmem_of s.frames) o.driver;
        served = λ m z map e zone. absurd (nothing m map e);
        agrees = opens-agreeing s i o.driver (opening-may_begin s valid) o.there;
      }))

  pub opens-well : IsWellFormed s (opening_world s)
  opens-well = record {
    valid = valid;
    count = length-opening_lanes 0 (maxmem_of s.frames) s.drivers;
    each = λ i l h. driver i l (opening_at 0 (maxmem_of s.frames) s.drivers i l h);
    few = λ z. let e = none-bounced 0 (maxmem_of s.frames) s.drivers z in omega (arith, e);
    reached = record {
      history = [];
      sound = tt;
      own = All-nil (λ (e : HoldEntry). e.lane.0 < length s.drivers);
      leads = refl;
    };
  }
