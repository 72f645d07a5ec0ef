-- A driver after room was taken for a memory.
use Rattle.std.proofs.Common.{◌≡◌, ℕ, Option, is_some, refl, sym, ap, ◌∙◌}
use Rattle.phys_memory.specs.Memory.{wire}
use Rattle.lane_state.specs.declared.holdings.Holdings.{Holdings}
use Rattle.lane_state.specs.Changes.{KeepsBesideMemory, KeepsBytes, KeepsState}
use Rattle.lane_state.specs.Held.{devices_of, held}
use Rattle.lane_state.specs.Ideal.{ideal_of}
use Rattle.lane_state.specs.Kept.{map_of, memory_of, return_of}
use Rattle.lane_state.specs.Kept.{kept_ring, kept_share, spaces_of, tag_of}
use Rattle.lane_state.specs.MapValues.{map_values}
use Rattle.lane_objects.specs.Making.{KeepsButRoom}

module _ (h k : Holdings) (s : KeepsButRoom h k) where
  pub room-ideal : ideal_of k ≡ ideal_of h
  room-ideal = λ i. record {
    id = (s.id i).0;
    maxmem = s.maxmem i;
    script = s.script i;
    place = (s.agenda i).place;
    due = s.due i;
    pages = (s.pages i).now;
    tags = map_values tag_of (s.tags i).map;
    maps = map_values map_of (s.maps i);
    mems = map_values memory_of (s.memories i);
    rings = map_values kept_ring (s.rings i).map;
    memory = held (s.loans.bytes i) (s.loans.loans i) (devices_of (s.maps i)) (s.memory i);
    loans = s.loans.loans i;
    queue = (s.agenda i).queue;
    returns = Rattle.std.proofs.Common.map return_of (s.agenda i).returns;
    shares = kept_share (s.shares i).items;
    spaces = spaces_of (s.tags i).map;
  }

  pub room-bytes : KeepsBytes h k
  room-bytes = record { own = ap wire s.memory; pages = λ m. ap (λ ms. (devices_of ms m).pages) s.maps }

  pub room-state : KeepsState h k
  room-state = record { ideal = room-ideal; bytes = room-bytes }

-- bytes beside a memory are kept, and then all bytes are
pub beside-then : (h k n : Holdings) → KeepsBesideMemory h k → KeepsBytes k n →
    (ideal_of n).memory ≡ (ideal_of k).memory → KeepsBesideMemory h n
beside-then h k n s t same = record {
  own = λ a before after. ap (λ w. w a) t.own ∙ s.own a before (ap (λ f. is_some (f a)) (sym same) ∙ after);
  known = λ a v none is. ap (λ w. w a) t.own ∙ s.known a v none (ap (λ f. f a) (sym same) ∙ is);
  pages = λ m. t.pages m ∙ s.pages m;
}

-- all bytes are kept, and then bytes beside a memory are
pub beside-after : (h k n : Holdings) → KeepsState h k → KeepsBesideMemory k n → KeepsBesideMemory h n
beside-after h k n s t = record {
  own = λ a before after. t.own a (ap (λ l. is_some (l.memory a)) s.ideal ∙ before) after ∙ ap (λ w. w a) s.bytes.own;
  known = λ a v none is. t.known a v (ap (λ l. l.memory a) s.ideal ∙ none) is;
  pages = λ m. t.pages m ∙ s.bytes.pages m;
}
