-- When the zones of a driver's maps serve the tags of these maps.
use Rattle.std.specs.Prelude.{◌≡◌, ℕ, true, Some}
use Rattle.std.specs.FinMap.{get}
use Rattle.busdma_machine.specs.Bounce.Account.{Account, zone_at}
use Rattle.busdma_machine.specs.Bounce.AccountStep.{AccountReply, account_step}
use Rattle.busdma_machine.specs.Bounce.Growth.{serves_tag}
use Rattle.ideal_lane.specs.Asking.{Asking, Gives, Asks}
use Rattle.ideal_lane.specs.Loads.{limits_of}
use Rattle.ideal_lane.specs.State.{LaneState, LaneMap}
use Rattle.ideal_lane.specs.Turns.{Turned}

-- the zone of each map that has a zone serves the map's tag
abbrev pub AreServed : LaneState → Account → Type 0
AreServed l a = (m z : ℕ) (o : LaneMap) → get l.maps m ≡ Some o → o.zone ≡ Some z →
    serves_tag (limits_of l o) (zone_at a z) ≡ true

-- after a step, by the account's reply, the zones of the driver's maps serve the maps' tags in the account that the
-- step's call leaves
abbrev pub KeepsServed : ℕ → Account → Asking Turned → Type 0
KeepsServed lane a (Gives t) = AreServed t.lane a
KeepsServed lane a (Asks c k) =
    let o : AccountReply = account_step lane c a in AreServed (k o.reply).lane o.account
