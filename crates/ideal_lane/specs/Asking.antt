-- A step as a value: it gives its result at once, or it makes one call under the bounce lock and goes on with the
-- reply. So a step without a call neither reads nor changes what all drivers share.
use Rattle.std.specs.Prelude.{Option, Some, None}
use Rattle.busdma_machine.specs.declared.bounce.hold.HubCall.{HubCall}
use Rattle.busdma_machine.specs.declared.bounce.hold.HubReply.{HubReply}

-- a step whose result is an X: it gives the result, or it asks one call and makes the result of the reply
pub data Asking (X : Type 0) : Type 0 where
  Gives : X → Asking X
  Asks : HubCall → (HubReply → X) → Asking X

module _ {X : Type 0} where
  -- the call that a step makes, if any
  abbrev pub call_of : Asking X → Option HubCall
  call_of (Gives x) = None
  call_of (Asks c k) = Some c

  -- the result of a step, if this is the reply to its call
  abbrev pub by_reply : Asking X → HubReply → X
  by_reply (Gives x) r = x
  by_reply (Asks c k) r = k r

-- the step whose result is made of this step's result
abbrev pub goes_on : {X Y : Type 0} → (X → Y) → Asking X → Asking Y
goes_on f (Gives x) = Gives (f x)
goes_on f (Asks c k) = Asks c (λ r. f (k r))
