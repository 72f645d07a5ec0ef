-- The step of a tag, by what is there.
use Rattle.std.proofs.Common.{◌≡◌, ℕ, true, false, ◌&&◌, Some, None, refl, Option}
use Rattle.std.specs.FinMap.{get, remove}
use Rattle.busdma_machine.specs.declared.bounce.hold.HubCall.TheVariants.{AttachTag}
use Rattle.busdma_base.specs.declared.journals.answer.Answer.TheVariants as answer
use Rattle.busdma_machine.specs.declared.report.Errno.TheVariants.{EINVAL, EBUSY}
use Rattle.busdma_machine.specs.declared.report.ReportName.TheVariants.{Absent}
use Rattle.busdma_machine.specs.declared.tags.tag.TagLimits.{TagLimits}
use Rattle.busdma_machine.specs.Tags.Tag.{effective, could_bounce}
use Rattle.busdma_machine.specs.Tags.TagFlags.{allocnow}
use Rattle.ideal_lane.specs.Asking.{Asks}
use Rattle.ideal_lane.specs.Outcomes.{gives}
use Rattle.ideal_lane.specs.State.{LaneState, LaneTag, no_space}
use Rattle.ideal_lane.specs.Tags.{tag, tag_or_invalid, tag_by_reply}
use Rattle.ideal_lane.specs.Tags.{with_space, with_tag, tag_destroy, has_maps}

module _ (l : LaneState) where
  -- the parent does not exist
  pub tag-absent : (parent : ℕ) (limits : TagLimits) → get l.tags parent ≡ None →
      tag (Some parent) limits l ≡ gives l (answer.Report (record { name = Absent; at = 0 }))
  tag-absent parent limits none = rw none refl

  -- the parent exists
  pub tag-below : (parent : ℕ) (limits : TagLimits) (t : LaneTag) → get l.tags parent ≡ Some t →
      tag (Some parent) limits l ≡ tag_or_invalid (effective (Some t.limits) limits) l
  tag-below parent limits t there = rw there refl

  -- there is no effective tag
  pub tag-invalid : (o : Option TagLimits) → o ≡ None → tag_or_invalid o l ≡ gives l (answer.Refused EINVAL)
  tag-invalid o none = rw none refl

  -- the tag makes a first allocation, or it does not
  pub tag-grown : (o : Option TagLimits) (t : TagLimits) → o ≡ Some t →
      (could_bounce t l.maxmem && allocnow t.flags) ≡ true →
      tag_or_invalid o l ≡ Asks (AttachTag t) (tag_by_reply t l)
  tag-grown o t made asks = rw (made, asks) refl

  pub tag-made : (o : Option TagLimits) (t : TagLimits) → o ≡ Some t →
      (could_bounce t l.maxmem && allocnow t.flags) ≡ false →
      tag_or_invalid o l ≡ gives (with_tag l.place t false l) answer.Done
  tag-made o t made asks = rw (made, asks) refl

  -- destroying a tag that does not exist, that has a map, or that has none
  pub destroy-absent : (t : ℕ) → get l.tags t ≡ None →
      tag_destroy t l ≡ gives l (answer.Report (record { name = Absent; at = 0 }))
  destroy-absent t none = rw none refl

  pub destroy-busy : (t : ℕ) (o : LaneTag) → get l.tags t ≡ Some o → has_maps l t ≡ true →
      tag_destroy t l ≡ gives l (answer.Refused EBUSY)
  destroy-busy t o there busy = rw (there, busy) refl

  pub destroy-done : (t : ℕ) (o : LaneTag) → get l.tags t ≡ Some o → has_maps l t ≡ false → tag_destroy t l
      ≡ gives (record l { tags = remove l.tags t; spaces = with_space t no_space l.spaces }) answer.Done
  destroy-done t o there free = rw (there, free) refl
