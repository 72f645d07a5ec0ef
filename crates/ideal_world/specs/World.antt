-- The world: all drivers and the account that they share, and its steps.
use Rattle.std.specs.Prelude.{ℕ, ◌+◌, Bool, List, [], ◌∷◌, length, Option, Some, None, slice_get, slice_set}
use Rattle.std.specs.Prelude.{nat_le}
use Rattle.std.specs.List.{sum_by}
use Rattle.busdma_base.specs.declared.journals.journal.Actor.{Actor}
use Rattle.busdma_base.specs.declared.journals.journal.JournalEntry.{JournalEntry}
use Rattle.busdma_base.specs.declared.scenarios.scenario.Driver.{Driver}
use Rattle.busdma_base.specs.declared.scenarios.scenario.Scenario.{Scenario}
use Rattle.busdma_machine.specs.declared.bounce.zone.ZoneCounts.{ZoneCounts}
use Rattle.busdma_machine.specs.Bounce.Account.{Account, Zone, counts}
use Rattle.busdma_machine.specs.Bounce.AccountStep.{AccountReply, account_step}
use Rattle.busdma_base.specs.Scenarios.Opening.{maxmem_of, opening}
use Rattle.ideal_lane.specs.Asking.{Asking, Gives, Asks}
use Rattle.ideal_lane.specs.Opening.{opening_lane}
use Rattle.ideal_lane.specs.State.{LaneState}
use Rattle.ideal_lane.specs.Turns.{Turn, Turned, Stepped, Blocked, Ended, lane_step}

-- the drivers, in the order of their numbers, and the one account
pub record WorldState : Type 0 where
  pub lanes : List LaneState
  pub account : Account

-- the opening states of drivers, the first of which has the number `id`; `maxmem` is the end of the machine's memory,
-- in frames
abbrev pub opening_lanes : ℕ → ℕ → List Driver → List LaneState
opening_lanes id maxmem [] = []
opening_lanes id maxmem (d ∷ ds) = opening_lane id maxmem d ∷ opening_lanes (id + 1) maxmem ds

-- the world in which a scenario opens
abbrev pub opening_world : Scenario → WorldState
opening_world s = record { lanes = opening_lanes 0 (maxmem_of s.frames) s.drivers; account = opening s }

-- the world after an actor's turn, and what the turn answers
pub record WorldTurned : Type 0 where
  pub world : WorldState
  pub turn : Turn

-- the world after a turn of the driver of this number, with this account, and what the turn answers
abbrev pub turned : WorldState → ℕ → Account → Turned → WorldTurned
turned w i a t = record { world = record { lanes = slice_set w.lanes i t.lane; account = a }; turn = t.turn }

-- the turn of a driver by its step: with the account's reply to the step's call, if it makes one, and with the account
-- after the call
abbrev pub replied : WorldState → ℕ → LaneState → Asking Turned → WorldTurned
replied w i l (Gives t) = turned w i w.account t
replied w i l (Asks c k) = let o : AccountReply = account_step l.id c w.account in turned w i o.account (k o.reply)

-- the turn of an actor, if this is its driver; an actor without a driver is Blocked
abbrev pub step_of : WorldState → Actor → Option LaneState → WorldTurned
step_of w actor None = record { world = w; turn = Blocked }
step_of w actor (Some l) = replied w actor.lane.0 l (lane_step l actor.side)

-- the turn of an actor
abbrev pub step : WorldState → Actor → WorldTurned
step w actor = step_of w actor (slice_get w.lanes actor.lane.0)

-- the entry of a turn, or None if the turn is no step
abbrev pub entry_of : Turn → Option JournalEntry
entry_of (Stepped entry) = Some entry
entry_of Blocked = None
entry_of Ended = None

-- the entry of an actor's step, or None if the actor cannot step
abbrev pub step_entry : WorldState → Actor → Option JournalEntry
step_entry w actor = entry_of (step w actor).turn

-- how many syncs copied bytes of a zone's maps: the sum of all drivers' shares of its total_bounced
abbrev pub bounced : WorldState → ℕ → ℕ
bounced w z = sum_by (λ l. l.shares z) w.lanes

-- the counts of these zones, the first of which has the number z
abbrev pub counts_from : WorldState → ℕ → List Zone → List ZoneCounts
counts_from w z [] = []
counts_from w z (zone ∷ zones) = counts w.account (bounced w z) z ∷ counts_from w (z + 1) zones

-- the counts of every zone in this world
abbrev pub zone_counts : WorldState → List ZoneCounts
zone_counts w = counts_from w 0 w.account.zones

-- the script of a driver has ended
abbrev pub has_ended : LaneState → Bool
has_ended l = nat_le (length l.script) l.place
