-- The segments that the entries of a journal answer are the segments of loads.
use Rattle.std.specs.Prelude.{◌≡◌, List, [], ◌∷◌, Some, slice_get}
use Rattle.busdma_base.specs.declared.journals.journal.JournalEntry.{JournalEntry}
use Rattle.ideal_lane.specs.State.{LaneState}
use Rattle.ideal_wire.specs.Accepted.{IfSegments}
use Rattle.ideal_wire.specs.Answered.{AreOf}
use Rattle.ideal_world.specs.World.{WorldState, step}

-- the segments that an entry answers, if any, are the segments of the load that its driver's step ends: they are the
-- load's bytes, in order, and obey the map's tag
abbrev pub AnswersLoad : WorldState → JournalEntry → Type 0
AnswersLoad w e =
    (l m : LaneState) → slice_get w.lanes e.actor.lane.0 ≡ Some l →
    slice_get (step w e.actor).world.lanes e.actor.lane.0 ≡ Some m → IfSegments e.answer (AreOf l m e.did)

-- each of these entries, which lead on from a world, answers the segments of the load that it ends, if it answers any
abbrev pub AnswerLoads : WorldState → List JournalEntry → Type 0
AnswerLoads w [] = Unit {0}
AnswerLoads w (e ∷ es) = AnswersLoad w e × AnswerLoads (step w e.actor).world es
