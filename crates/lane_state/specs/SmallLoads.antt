-- How few pages the loads to come may need.
use Rattle.std.specs.Prelude.{◌≡◌, ℕ, ◌+◌, ◌≤◌, List, Option, Some, None, slice_get, drop}
use Rattle.std.specs.List.{sum_by}
use Rattle.std.specs.Option.{option_map_or}
use Rattle.busdma_base.specs.declared.scenarios.script.Op.{Op}
use Rattle.busdma_base.specs.Scenarios.Buffers.{buffer_bytes}
use Rattle.busdma_base.specs.Scenarios.Limits.{buffer_limit, loaded_limit}
use Rattle.busdma_base.specs.Scenarios.Operations.{about, loaded_by}
use Rattle.busdma_machine.specs.Machine.Spans.{span_bytes}
use Rattle.ideal_lane.specs.Sends.{Send, due_send}
use Rattle.lane_state.specs.declared.holdings.Holdings.{Holdings}
use Rattle.lane_state.specs.Covered.{pages_due}
use Rattle.lane_state.specs.Ideal.{ideal_of}

-- how many bytes one load of an operation has
abbrev pub loaded_once : Op → ℕ
loaded_once o = option_map_or buffer_bytes (about o).loads 0

-- how many bytes the operations from this place on still load; an operation whose resend is due still loads its chain
-- once
abbrev pub bytes_ahead : Option Send → ℕ → List Op → ℕ
bytes_ahead None place script = sum_by loaded_by (drop place script)
bytes_ahead (Some s) place script = span_bytes s.chain + sum_by loaded_by (drop (place + 1) script)

-- the loads of a driver are small: each load is; a place in the return queue is promised exactly for each page that is
-- due to join it; and these places, with the bytes that are still to be loaded, are within the limit of a scenario
pub record HasSmallLoads (h : Holdings) : Type 0 where
  pub each : (p : ℕ) (o : Op) → slice_get h.script p ≡ Some o → loaded_once o ≤ buffer_limit
  pub due : h.agenda.promised ≡ pages_due h.maps.map
  pub few : h.agenda.promised + bytes_ahead (due_send (ideal_of h)) h.agenda.place h.script ≤ loaded_limit
