-- What a step of a ring's device reads, and what a step that was done found at the head and left there.
use Rattle.std.specs.Prelude.{◌≡◌, ℕ, ◌+◌, [], ◌∷◌, map}
use Rattle.busdma_base.specs.declared.journals.answer.Answer.{Answer}
use Rattle.busdma_base.specs.declared.journals.answer.Answer.TheVariants as answer
use Rattle.busdma_machine.specs.declared.report.Judged.TheVariants.{Fine}
use Rattle.busdma_machine.specs.Machine.Wire.{Wire}
use Rattle.busdma_rules.specs.Lending.Access.{dev_read_answer}
use Rattle.busdma_rules.specs.Lending.Loans.{load_bytes, loan_of}
use Rattle.busdma_rules.specs.Rings.Descriptors.{descriptor_of}
use Rattle.ideal_lane.specs.Accesses.{values}
use Rattle.ideal_lane.specs.Asking.{Asking, Gives, Asks}
use Rattle.ideal_lane.specs.IdealMemory.{is_known}
use Rattle.ideal_lane.specs.Outcomes.{Outcome}
use Rattle.ideal_lane.specs.Rings.{head_at, head_of, ring_of, ring_step, used_candidate}
use Rattle.ideal_lane.specs.State.{LaneState, LaneRing}
use Rattle.ideal_wire.specs.WireStep.{IsRead, load_buses}

-- if the device may read the descriptor at the head of a ring, the bytes that are really there are the descriptor in
-- the ideal memory
abbrev pub HeadIsRead : LaneRing → LaneState → Wire → Type 0
HeadIsRead r l w =
    dev_read_answer (is_known l.memory) (loan_of l.loans r.mem) (head_at r) 16 ≡ Fine →
    head_of r l ≡ descriptor_of (map w (load_buses l r.mem (head_at r) 16))

-- if a step of a ring answers bytes, they are the bytes that are really at the range which the descriptor at the head
-- names, in the load of the map that is used
abbrev pub NamedAreRead : ℕ → LaneState → Wire → Type 0
NamedAreRead k l w =
    let r = ring_of l k in
    let c = used_candidate r l in IsRead (ring_step k l) (load_buses l c.map c.off (head_of r l).len) w

-- the descriptor at the head of a ring was the device's, and now is the driver's and done
pub record HandsBack (r : LaneRing) (before after : LaneState) : Type 0 where
  pub owner : (head_of r before).owner ≡ 1
  pub done : values after (load_bytes after.loans r.mem (head_at r + 14) 2) ≡ 0 ∷ 1 ∷ []

-- P holds if a step of a ring with this answer was done
abbrev pub IfFetched : Answer → Type 0 → Type 0
IfFetched answer.Done P = P
IfFetched (answer.Bytes vs) P = P
IfFetched _ P = Unit {0}

-- a step of a ring that was done hands its descriptor back to the driver
abbrev pub HandsBackIn : LaneRing → LaneState → Asking Outcome → Type 0
HandsBackIn r l (Gives o) = IfFetched o.answer (HandsBack r l o.lane)
HandsBackIn r l (Asks c k) = Unit {0}
