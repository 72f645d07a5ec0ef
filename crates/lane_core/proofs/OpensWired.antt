-- A driver opens wired.
use Rattle.std.proofs.Common.{◌≡◌, ℕ, ◌^◌, ◌≤◌, true, [], Some, None, slice_get, ap, sym, ◌∙◌, subst}
use Rattle.std.specs.FinMap.{empty, get, get-empty}
use Rattle.std.specs.List.{AllByRecursion, flat_map}
use Rattle.std.specs.Ordering.{nat_cmp}
use Rattle.busdma_base.specs.declared.scenarios.scenario.Driver.{Driver}
use Rattle.busdma_base.specs.Scenarios.PageRuns.{is_own}
use Rattle.busdma_machine.specs.Machine.Wire.{with_bytes_of}
use Rattle.busdma_base.specs.Scenarios.Script.{IsScript}
use Rattle.busdma_base.specs.Scenarios.Valid.{LoadsFrom}
use Rattle.phys_memory.specs.Memory.{wire}
use Rattle.ideal_lane.specs.Opening.{opening_lane}
use Rattle.ideal_lane.specs.Sends.{Send, due_send}
use Rattle.ideal_lane.specs.State.{LaneMemory}
use Rattle.ideal_lane.specs.Unloads.{pages_of}
use Rattle.ideal_wire.specs.Apart.{HoldsPage, IsApart}
use Rattle.ideal_wire.specs.Centre.{IsFaithful}
use Rattle.ideal_wire.specs.Laid.{AreLaid}
use Rattle.ideal_wire.specs.Machine.{IsInMachine, IsOfMachine}
use Rattle.ideal_wire.specs.Mapped.{AreMapped}
use Rattle.ideal_wire.specs.Spaced.{AreSpaced}
use Rattle.ideal_wire.specs.Traces.{stage_in}
use Rattle.ideal_wire.proofs.Devices.KeptSpaces.{opens-spaced}
use Rattle.ideal_wire.proofs.Devices.MappedTurns.{opens-mapped}
use Rattle.ideal_wire.proofs.Faithful.Openings.{opens-faithful, opens-laid}
use Rattle.lane_state.specs.declared.holdings.Holdings.{Holdings}
use Rattle.lane_state.specs.declared.kept.KeptMap.{KeptMap}
use Rattle.lane_state.specs.Ideal.{ideal_of}
use Rattle.lane_state.specs.Kept.{device_of}
use Rattle.lane_state.specs.OpeningMemory.{ArePages}
use Rattle.lane_state.specs.Wire.{IsWired, held_pages, wire_of}
use Rattle.lane_core.proofs.OneByte.{have-clusters, page-once}
use Rattle.lane_state.proofs.MapValues.{entries-empty}

module _ (id maxmem : ℕ) (driver : Driver) where
  no-page : {A : Type 0} (m i page : ℕ) → HoldsPage (opening_lane id maxmem driver) m i page → A
  no-page m i page h =
      let gone : slice_get [] i ≡ Some page =
      sym (ap (λ o. slice_get (pages_of (stage_in o)) i) (get-empty nat_cmp m)) ∙ h in absurd (cc)

  no-memory : {A : Type 0} (k : ℕ) (x : LaneMemory) → get (opening_lane id maxmem driver).mems k ≡ Some x → A
  no-memory k x h = let none : None ≡ Some x = sym (get-empty nat_cmp k) ∙ h in absurd (cc)

  opens-apart : IsApart (opening_lane id maxmem driver)
  opens-apart = record {
    away = λ m i page a h inside. no-page m i page h;
    one = λ m n i j page h k. no-page m i page h;
    pages = λ k a x there inside. no-memory k x there;
    memories = λ j k a x y there too h g. no-memory j x there;
  }

  no-send : {A : Type 0} (s : Send) → due_send (opening_lane id maxmem driver) ≡ Some s → A
  no-send s e = absurd (cc)

  opens-in-machine : IsScript driver.script → ArePages driver.pages → maxmem ≤ 2 ^ 30 →
      AllByRecursion (IsOfMachine maxmem) driver.pages → AllByRecursion (LoadsFrom driver.pages) driver.script →
      IsInMachine (opening_lane id maxmem driver)
  opens-in-machine script pages numbered inside bios = record {
    numbered = numbered;
    pages = inside;
    mems = λ k x h. no-memory k x h;
    tags = λ k t h. (let none : None ≡ Some t = sym (get-empty nat_cmp k) ∙ h in absurd (cc));
    bios = bios;
    clusters = have-clusters [] driver.script script.each;
    unlike = page-once [] driver.pages pages;
    due = λ s e. no-send s e;
  }

  pub opens-wired : (h : Holdings) → ideal_of h ≡ opening_lane id maxmem driver → h.maps.map ≡ empty →
      ((a : ℕ) → is_own driver.pages a ≡ true → wire h.memory.memory a ≡ 0) → IsScript driver.script →
      ArePages driver.pages → maxmem ≤ 2 ^ 30 → AllByRecursion (IsOfMachine maxmem) driver.pages →
      AllByRecursion (LoadsFrom driver.pages) driver.script → IsWired h
  opens-wired h is mapless zeros script pages numbered inside bios =
      let none : held_pages h.maps.map ≡ [] =
      ap held_pages mapless ∙ ap (flat_map (λ (e : ℕ × KeptMap). (device_of (Some e.1)).pages)) entries-empty in
      let back : opening_lane id maxmem driver ≡ ideal_of h = sym is in
      record {
        machine = subst IsInMachine back (opens-in-machine script pages numbered inside bios);
        laid = subst AreLaid back (opens-laid id maxmem driver);
        apart = subst IsApart back opens-apart;
        spaced = subst AreSpaced back (opens-spaced id maxmem driver);
        mapped = ∣ subst AreMapped back (opens-mapped id maxmem driver) ∣₁;
        faithful = subst (λ l. IsFaithful l (wire_of h)) back
            (opens-faithful id maxmem driver (wire_of h)
            (λ a own. ap (λ ps. with_bytes_of ps (wire h.memory.memory) a) none ∙ zeros a own));
      }
