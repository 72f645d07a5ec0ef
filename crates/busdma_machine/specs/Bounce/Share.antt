-- What an account has of one map or one memory, by its name.
use Rattle.std.specs.Prelude.{◌≡◌, ℕ, ◌+◌, Bool, ◌&&◌, List, ◌==◌}
use Rattle.std.specs.List.{count_by, sum_by}
use Rattle.busdma_machine.specs.declared.name.MapId.{MapId}
use Rattle.busdma_machine.specs.declared.bounce.zone.Waiter.{Waiter}
use Rattle.busdma_machine.specs.Bounce.Account.{Account, Zone, same_map}
use Rattle.busdma_machine.specs.Bounce.Conditions.{times_made, times_in_zones, pages_held, times_held, times_listed}
use Rattle.busdma_machine.specs.Bounce.Conditions.{memories}
use Rattle.busdma_machine.specs.Bounce.MemoryRuns.{frames_of}

-- what an account has of a name: how often it is among the maps of a zone, and among all maps; how many pages it holds,
-- and how often it holds a page of a zone; how often it waits for a number of pages of a zone or has them promised in
-- the callback list, and how often it does so at all; how many memories have it, and their frames
pub record Share : Type 0 where
  pub made : ℕ → ℕ
  pub in_zones : ℕ
  pub holds : ℕ
  pub holds_page : ℕ → ℕ → ℕ
  pub waits : ℕ → ℕ → ℕ
  pub listed : ℕ
  pub mems : ℕ
  pub frames : List ℕ

-- what two accounts have of a name is the same
pub record Same (s t : Share) : Type 0 where
  pub made : (z : ℕ) → t.made z ≡ s.made z
  pub in_zones : t.in_zones ≡ s.in_zones
  pub holds : t.holds ≡ s.holds
  pub holds_page : (z page : ℕ) → t.holds_page z page ≡ s.holds_page z page
  pub waits : (z need : ℕ) → t.waits z need ≡ s.waits z need
  pub listed : t.listed ≡ s.listed
  pub mems : t.mems ≡ s.mems
  pub frames : t.frames ≡ s.frames

-- a waiter is this map, and needs `need` pages of this zone
abbrev pub is_waiter : MapId → ℕ → ℕ → Waiter → Bool
is_waiter m z need w = (w.need == need) && ((w.zone.0 == z) && same_map m w.map)

-- how many waiters pass a test, in the zones' waiting lists and the callback list together
abbrev pub waiters : (Waiter → Bool) → Account → ℕ
waiters test a = sum_by (λ (z : Zone). count_by test z.wait) a.zones + count_by test a.ready

-- what an account has of the map or memory with this name
abbrev pub share : MapId → Account → Share
share m a = record {
  made = λ z. times_made m z a;
  in_zones = times_in_zones m a.zones;
  holds = pages_held m a;
  holds_page = λ z page. times_held m z page a;
  waits = λ z need. waiters (is_waiter m z need) a;
  listed = times_listed m a;
  mems = memories m a;
  frames = frames_of m a.mems;
}
