-- How a tag is to be made.
use Rattle.std.specs.Prelude.{◌≡◌, false}
use Rattle.busdma_machine.specs.declared.bounce.hold.HubCall.TheVariants.{AttachTag}
use Rattle.busdma_base.specs.declared.journals.answer.Answer.TheVariants.{Done}
use Rattle.ideal_lane.specs.Asking.{Asking, Asks}
use Rattle.ideal_lane.specs.Outcomes.{Outcome, gives}
use Rattle.ideal_lane.specs.State.{LaneState}
use Rattle.ideal_lane.specs.Tags.{tag_by_reply, with_tag}
use Rattle.lane_objects.specs.declared.tags.TagPlan.{TagPlan}
use Rattle.lane_objects.specs.declared.tags.TagPlan.TheVariants.{Refused, Made, Grown}

-- a step does what a plan says: it gives the refusal, keeps the tag at once, or keeps the tag as the reply to a call
-- says
abbrev pub IsPlan : LaneState → Asking Outcome → TagPlan → Type 0
IsPlan l step (Refused answer) = step ≡ gives l answer
IsPlan l step (Made t) = step ≡ gives (with_tag l.place t false l) Done
IsPlan l step (Grown t) = step ≡ Asks (AttachTag t) (tag_by_reply t l)
