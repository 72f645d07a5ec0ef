-- What contracts see of a driver's agenda.
use Rattle.std.specs.Prelude.{ℕ, List}
use Rattle.busdma_base.specs.declared.scenarios.queued.QueuedItem.{QueuedItem}
use Rattle.lane_tables.specs.declared.queued.QueuedPage.{QueuedPage}

-- an agenda: the place of the next operation, the length of the script, the transfer queue and the return queue, how
-- many items can still be pushed, and how many pages are promised a place
pub record Schedule : Type 0 where
  pub place : ℕ
  pub length : ℕ
  pub queue : List QueuedItem
  pub returns : List QueuedPage
  pub room : ℕ
  pub promised : ℕ
