-- The ideal state of what a driver holds.
use Rattle.std.specs.Prelude.{map}
use Rattle.busdma_base.specs.declared.journals.answer.Answer.{Answer}
use Rattle.ideal_lane.specs.Outcomes.{Outcome}
use Rattle.ideal_lane.specs.State.{LaneState}
use Rattle.lane_state.specs.declared.holdings.Holdings.{Holdings}
use Rattle.lane_state.specs.Held.{devices_of, held}
use Rattle.lane_state.specs.Kept.{tag_of, map_of, memory_of, kept_ring, return_of, kept_share, spaces_of}
use Rattle.lane_state.specs.MapValues.{map_values}

-- the ideal driver of what a driver holds
abbrev pub ideal_of : Holdings → LaneState
ideal_of h = record {
  id = h.id.0;
  maxmem = h.maxmem;
  script = h.script;
  place = h.agenda.place;
  due = h.due;
  pages = h.pages.now;
  tags = map_values tag_of h.tags.map;
  maps = map_values map_of h.maps.map;
  mems = map_values memory_of h.memories.map;
  rings = map_values kept_ring h.rings.map;
  memory = held h.loans.bytes h.loans.loans (devices_of h.maps.map) h.memory.memory;
  loans = h.loans.loans;
  queue = h.agenda.queue;
  returns = map return_of h.agenda.returns;
  shares = kept_share h.shares.items;
  spaces = spaces_of h.tags.map;
}

-- the outcome of an operation with this answer that leaves these holdings
abbrev pub given : Holdings → Answer → Outcome
given h a = record { lane = ideal_of h; answer = a }
