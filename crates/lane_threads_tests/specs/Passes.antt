-- The pass of a lane that has made no call.
use Rattle.std.specs.Prelude.{◌≡◌, [], Some}
use Rattle.busdma_machine.specs.declared.bounce.hold.HoldEntry.{HoldEntry}
use Rattle.busdma_machine.specs.Bounce.Account.{Account}
use Rattle.busdma_machine.specs.Bounce.History.{IsOpening}
use Rattle.atomic_table.specs.Seated.{TableId}
use Rattle.turnstile.specs.declared.view.Start.{Start}
use Rattle.lane_threads.specs.Closing.{LanePass}

-- a pass is of this turnstile, which began with an empty history and a hub whose frames end below number 0x1010, and it
-- knows no turn
pub record StartsAt (turnstile : TableId) (pass : LanePass) : Type 0 where
  pub here : pass.turnstile ≡ turnstile
  pub start : Start HoldEntry Account
  pub started : pass.start ≡ Some start
  pub empty : start.opening ≡ []
  pub form : IsOpening start.fixed
  pub maxmem : start.fixed.maxmem ≡ 0x1010
  pub front : pass.front ≡ []
