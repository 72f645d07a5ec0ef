-- What a step makes at a door to the bounce lock.
use Rattle.std.specs.Prelude.{◌≡◌, ℕ, ◌⊎◌, Bool, true, false}
use Rattle.busdma_machine.specs.declared.bounce.hold.HubCall.{HubCall}
use Rattle.busdma_machine.specs.declared.bounce.hold.HubReply.{HubReply}
use Rattle.busdma_machine.specs.Bounce.Door.{Seen, Allows, HoldsAtDoor, FailsAtDoor}
use Rattle.ideal_lane.specs.Asking.{Asking, Gives, Asks}

module _ {X : Type 0} where
  -- a driver may make the call that a step asks for, if it asks for one
  abbrev pub IsAllowedBy : Seen → ℕ → Asking X → Type 0
  IsAllowedBy d lane (Gives x) = Unit {0}
  IsAllowedBy d lane (Asks c k) = Allows d lane c

  -- a call was made between what the door had seen and what it has seen now, and the step continued with its reply
  pub record IsCalled (d : Seen) (lane : ℕ) (c : HubCall) (k : HubReply → X) (x : X) (e : Seen) : Type 0 where
    pub reply : HubReply
    pub holds : HoldsAtDoor d lane c reply e
    pub is : x ≡ k reply

  -- a step is done and has this outcome: after its call, or without a call, and then the door has seen nothing new
  abbrev pub IsDone : Seen → ℕ → Asking X → X → Seen → Type 0
  IsDone d lane (Gives y) x e = (x ≡ y) × (e ≡ d)
  IsDone d lane (Asks c k) x e = IsCalled d lane c k x e

-- a step makes a call
abbrev pub asks : {X : Type 0} → Asking X → Bool
asks {X} (Gives x) = false
asks {X} (Asks c k) = true

-- memory ran out: the door has seen nothing new, or its call failed
abbrev pub IsUndone : Seen → Seen → Type 0
IsUndone d e = (e ≡ d) ⊎ FailsAtDoor d e
