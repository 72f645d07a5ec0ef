-- What a lane knows of the account at its door.
use Rattle.std.specs.Prelude.{◌≡◌, ℕ, List, [], Option, Some, None, IsTrue}
use Rattle.busdma_machine.specs.Bounce.Door.{Seen, account}
use Rattle.busdma_machine.specs.Bounce.History.{IsSound}
use Rattle.lane_agreement.specs.Agreement.{Agrees}
use Rattle.lane_agreement.specs.View.{View, OwnMap, Return, SeenStage, Idle}

-- the door serves the lane, its history is sound, and its account agrees with a view of the lane of which this holds
pub record Knows (lane : ℕ) (Has : View → Type 0) (d : Seen) : Type 0 where
  pub view : View
  pub id : view.id ≡ lane
  pub has : Has view
  pub served : IsTrue (d.serves lane)
  pub sound : IsSound d.opening d.history
  pub agrees : Agrees view (account d)

-- a map of this zone in this stage
abbrev pub is_known_in_zone : ℕ → SeenStage → Option OwnMap
is_known_in_zone zone stage = Some (record { zone = zone; stage = stage })

-- a view has these maps of the operations 1 and 2, no memory of the operations 3 and 4, and these pages to give back
pub record HasMaps (first second : Option OwnMap) (back : List Return) (l : View) : Type 0 where
  pub maxmem : l.maxmem ≡ 0x1010
  pub one : l.map_at 1 ≡ first
  pub two : l.map_at 2 ≡ second
  pub three : l.mem_at 3 ≡ None
  pub four : l.mem_at 4 ≡ None
  pub returns : l.returns ≡ back

-- a view has no map, and no page to give back
pub record HasNone (l : View) : Type 0 where
  pub maxmem : l.maxmem ≡ 0x1010
  pub maps : (k : ℕ) → l.map_at k ≡ None
  pub returns : l.returns ≡ []

-- a view has a map of zone 0 that no load uses, and no page to give back
pub record HasIdle (made_at : ℕ) (l : View) : Type 0 where
  pub map : l.map_at made_at ≡ is_known_in_zone 0 Idle
  pub returns : l.returns ≡ []
