-- Holdings of which a map is written over with what it was.
use Rattle.std.proofs.Common.{◌≡◌, ℕ, Some, sym, ap, ◌∙◌, subst}
use Rattle.std.specs.Ordering.{nat_cmp}
use Rattle.std.specs.FinMap.{FinMap, get, insert}
use Rattle.busdma_machine.specs.Machine.Wire.{with_bytes_of}
use Rattle.lane_state.specs.declared.kept.KeptLoad.{KeptLoad}
use Rattle.dma_map.specs.MapView as held
use Rattle.phys_memory.specs.Memory.{wire}
use Rattle.lane_state.specs.declared.holdings.Holdings.{Holdings}
use Rattle.lane_state.specs.declared.kept.KeptMap.{KeptMap}
use Rattle.lane_state.specs.Held.{devices_of}
use Rattle.lane_state.specs.Held as bytes
use Rattle.lane_state.specs.Ideal.{ideal_of}
use Rattle.lane_state.specs.Kept.{map_of}
use Rattle.lane_state.specs.MapValues.{map_values}
use Rattle.lane_state.specs.Wire.{held_pages, wire_of}
use Rattle.lane_state.proofs.MapTables.{AreMaps, maps-of}
use Rattle.lane_state.proofs.Places.{put-back}

-- a map with what it had
pub put-same : (maps : FinMap nat_cmp KeptMap) (k : ℕ) (o : KeptMap) (v : held.MapView KeptLoad) →
    get maps k ≡ Some o → v ≡ o.map → insert maps k (record o { map = v }) ≡ maps
put-same maps k o v there same = ap (λ x. insert maps k (record o { map = x })) same ∙ put-back maps k o there

module _ (h : Holdings) (maps : FinMap nat_cmp KeptMap) (same : maps ≡ h.maps.map) where
  -- the maps hold as they held
  pub are-back : AreMaps maps h.loans.loans h.agenda.returns h.agenda.promised
  are-back = subst (λ ms. AreMaps ms h.loans.loans h.agenda.returns h.agenda.promised) (sym same) (maps-of h)

  pub ideal-back :
      record (ideal_of h) {
        maps = map_values map_of maps;
        memory = bytes.held h.loans.bytes h.loans.loans (devices_of maps) h.memory.memory;
      }
      ≡ ideal_of h
  ideal-back = λ i. record (ideal_of h) {
    maps = map_values map_of (same i);
    memory = bytes.held h.loans.bytes h.loans.loans (devices_of (same i)) h.memory.memory;
  }

  pub wire-back : with_bytes_of (held_pages maps) (wire h.memory.memory) ≡ wire_of h
  wire-back = ap (λ ms. with_bytes_of (held_pages ms) (wire h.memory.memory)) same

  pub pages-back : (m : ℕ) → (devices_of maps m).pages ≡ (devices_of h.maps.map m).pages
  pages-back m = ap (λ ms. (devices_of ms m).pages) same
