-- How a driver and the account of all drivers agree, and what a step makes of their agreement.
use Rattle.std.specs.Prelude.{ℕ}
use Rattle.busdma_machine.specs.Bounce.Account.{Account}
use Rattle.busdma_machine.specs.Bounce.AccountStep.{AccountReply, account_step}
use Rattle.busdma_machine.specs.Bounce.Conditions.{MayCall}
use Rattle.lane_agreement.specs.Agreement.{Agrees}
use Rattle.ideal_lane.specs.State.{LaneState}
use Rattle.ideal_lane.specs.Asking.{Asking, Gives, Asks}
use Rattle.ideal_lane.specs.Turns.{Turned}
use Rattle.ideal_lane.specs.View.{view_of}

-- the driver and the account agree: the account has of each name of the driver what the driver has of it
abbrev pub AgreesWith : LaneState → Account → Type 0
AgreesWith l a = Agrees (view_of l) a

-- the account allows the call that a step of a driver makes, if any
abbrev pub IsAllowed : ℕ → Account → Asking Turned → Type 0
IsAllowed lane a (Gives t) = Unit {0}
IsAllowed lane a (Asks c k) = MayCall lane c a

-- after a step with the account's reply, the driver agrees with the account that the step's call leaves
abbrev pub KeepsAgreement : ℕ → Account → Asking Turned → Type 0
KeepsAgreement lane a (Gives t) = AgreesWith t.lane a
KeepsAgreement lane a (Asks c k) =
    let o : AccountReply = account_step lane c a in AgreesWith (k o.reply).lane o.account
