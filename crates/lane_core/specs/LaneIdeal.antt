-- The ideal state of a lane, and its wire.
use Rattle.busdma_base.specs.declared.journals.answer.Answer.{Answer}
use Rattle.busdma_machine.specs.Machine.Wire.{Wire}
use Rattle.ideal_lane.specs.Outcomes.{Outcome}
use Rattle.ideal_lane.specs.State.{LaneState}
use Rattle.ideal_lane.specs.Turns.{Turned}
use Rattle.lane_core.specs.declared.lane.Lane.{Lane}
use Rattle.lane_turns.specs.declared.turn.Turn.{Turn}
use Rattle.lane_state.specs.Ideal.{ideal_of}
use Rattle.lane_turns.specs.TakenTurns.{answered}
use Rattle.lane_state.specs.Wire.{wire_of}

-- the ideal state of a lane
abbrev pub ideal : Lane → LaneState
ideal l = ideal_of l.holdings

-- the bytes that a lane really holds, by their bus addresses
abbrev pub wire : Lane → Wire
wire l = wire_of l.holdings

-- the ideal state of a lane after a call, with the call's answer
abbrev pub given : Lane → Answer → Outcome
given l a = record { lane = ideal l; answer = a }

-- the ideal state of a lane after a turn, with the turn's answer
abbrev pub lane_turned : Lane → Turn → Turned
lane_turned l t = record { lane = ideal l; turn = answered t }
