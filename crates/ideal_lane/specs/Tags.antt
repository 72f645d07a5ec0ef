-- Operations on tags.
use Rattle.std.specs.Prelude.{ℕ, ◌+◌, ◌/◌, ◌==◌, [], Bool, true, false, ◌&&◌, Option, Some, None, if◌then◌else◌}
use Rattle.std.specs.FinMap.{get, insert, remove, entries}
use Rattle.std.specs.List.{list_any}
use Rattle.busdma_machine.specs.declared.bounce.hold.HubCall.TheVariants.{AttachTag}
use Rattle.busdma_machine.specs.declared.bounce.hold.HubReply.{HubReply}
use Rattle.busdma_machine.specs.declared.bounce.hold.HubReply.TheVariants as reply
use Rattle.busdma_base.specs.declared.journals.answer.Answer.TheVariants.{Done, Grown, Refused}
use Rattle.busdma_machine.specs.declared.report.Errno.TheVariants.{EINVAL, EBUSY, ENOMEM}
use Rattle.busdma_machine.specs.declared.tags.tag.SpaceLimits.{SpaceLimits}
use Rattle.busdma_machine.specs.declared.tags.tag.TagLimits.{TagLimits}
use Rattle.busdma_machine.specs.Tags.Tag.{effective, could_bounce, space_limits}
use Rattle.busdma_machine.specs.Tags.TagFlags.{allocnow}
use Rattle.busdma_rules.specs.Iommu.Space.{Space}
use Rattle.ideal_lane.specs.State.{LaneState, no_space}
use Rattle.ideal_lane.specs.Asking.{Asking, Asks}
use Rattle.ideal_lane.specs.Outcomes.{Outcome, gives, unless_absent}

-- the driver with a tag at a place
abbrev pub with_tag : ℕ → TagLimits → Bool → LaneState → LaneState
with_tag k t first_done l =
    record l { tags = insert l.tags k (record { limits = t; first_done = first_done; device = false }) }

-- the driver after the call to grow a new tag's zone: there is no tag if too few pages came
abbrev pub tag_by_reply : TagLimits → LaneState → HubReply → Outcome
tag_by_reply t l (reply.Grown g) = record { lane = if g.made then with_tag l.place t true l else l; answer = Grown g }
tag_by_reply t l _ = record { lane = l; answer = Refused ENOMEM }

-- the driver with a new tag of these effective limits, named by this place, or EINVAL without limits; ALLOCNOW grows
-- its zone at once
abbrev pub tag_or_invalid : Option TagLimits → LaneState → Asking Outcome
tag_or_invalid None l = gives l (Refused EINVAL)
tag_or_invalid (Some t) l =
    if could_bounce t l.maxmem && allocnow t.flags then Asks (AttachTag t) (tag_by_reply t l)
    else gives (with_tag l.place t false l) Done

-- tag: a new tag, named by this place of the script, perhaps below a parent
abbrev pub tag : Option ℕ → TagLimits → LaneState → Asking Outcome
tag None limits l = tag_or_invalid (effective None limits) l
tag (Some parent) limits l =
    unless_absent (get l.tags parent) l (λ p. tag_or_invalid (effective (Some p.limits) limits) l)

-- the address spaces, with this one for a tag
abbrev pub with_space : ℕ → Space → (ℕ → Space) → ℕ → Space
with_space t s spaces k = if k == t then s else spaces k

-- the driver with an IOMMU tag at this place, whose device reaches the addresses up to lowaddr
abbrev pub with_device_tag : TagLimits → LaneState → LaneState
with_device_tag t l = record l {
  tags = insert l.tags l.place (record { limits = t; first_done = false; device = true });
  spaces = with_space l.place (record { pages = (t.lowaddr.0 + 1) / 4096; runs = [] }) l.spaces;
}

-- the driver with a new IOMMU tag of these effective limits, or EINVAL without limits
abbrev pub device_tag : Option TagLimits → LaneState → Asking Outcome
device_tag None l = gives l (Refused EINVAL)
device_tag (Some t) l = gives (with_device_tag t l) Done

-- iommu_tag: a new IOMMU tag, named by this place of the script, below no parent
abbrev pub iommu_tag : SpaceLimits → LaneState → Asking Outcome
iommu_tag limits l = device_tag (effective None (space_limits limits)) l

-- a tag has a map; a memory counts, because it has a map of its own
abbrev pub has_maps : LaneState → ℕ → Bool
has_maps l t = list_any (λ e. e.1.tag == t) (entries l.maps)

-- tag_destroy: a tag without maps is ended; one with maps gives EBUSY
abbrev pub tag_destroy : ℕ → LaneState → Asking Outcome
tag_destroy t l =
    unless_absent (get l.tags t) l (λ o.
    if has_maps l t then gives l (Refused EBUSY)
    else gives (record l { tags = remove l.tags t; spaces = with_space t no_space l.spaces }) Done)
