-- Which bytes a resend and a step of a ring leave Known.
use Rattle.std.specs.Prelude.{◌≡◌, ℕ, ◌+◌, List, [], ◌∷◌, map, Some}
use Rattle.busdma_rules.specs.Lending.Loans.{load_bytes}
use Rattle.ideal_lane.specs.Accesses.{values}
use Rattle.ideal_lane.specs.Asking.{Asking, Gives, Asks}
use Rattle.ideal_lane.specs.IdealMemory.{IdealMemory, Known}
use Rattle.ideal_lane.specs.Outcomes.{Outcome}
use Rattle.ideal_lane.specs.Rings.{head_at}
use Rattle.ideal_lane.specs.Sends.{Send, chain_bytes, cluster_bytes}
use Rattle.ideal_lane.specs.State.{LaneRing, LaneState}
use Rattle.ideal_wire.specs.RingSteps.{IfFetched}

-- the bytes at these addresses are Known, with these values in order
abbrev pub AreKnown : IdealMemory → List ℕ → List ℕ → Type 0
AreKnown memory addresses vs = map memory addresses ≡ map (λ v. Some (Known v)) vs

-- the bytes of a send's chain are Known before its resend, and after it the bytes of its clusters are Known with the
-- same values
pub record IsCopied (s : Send) (before after : LaneState) : Type 0 where
  pub chain : AreKnown before.memory (chain_bytes s before) (values before (chain_bytes s before))
  pub clusters : AreKnown after.memory (cluster_bytes s before) (values before (chain_bytes s before))

-- a step of a ring that was done leaves owner 0 and status 1 in the descriptor that was at the head, and both are Known
abbrev pub LeavesDone : LaneRing → Asking Outcome → Type 0
LeavesDone r (Gives o) =
    IfFetched o.answer (AreKnown o.lane.memory (load_bytes o.lane.loans r.mem (head_at r + 14) 2) (0 ∷ 1 ∷ []))
LeavesDone r (Asks c k) = Unit {0}
