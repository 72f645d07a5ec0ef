-- Making and ending maps, and waiting for them.
use Rattle.std.specs.Prelude.{ℕ, Bool, true, false, not, ◌&&◌, Option, Some, None, if◌then◌else◌}
use Rattle.std.specs.FinMap.{get, insert, remove}
use Rattle.busdma_machine.specs.declared.bounce.hold.HubCall.TheVariants.{CreateMap, DestroyMap}
use Rattle.busdma_machine.specs.declared.bounce.hold.HubReply.{HubReply}
use Rattle.busdma_machine.specs.declared.bounce.hold.HubReply.TheVariants as reply
use Rattle.busdma_base.specs.declared.journals.answer.Answer.TheVariants.{Done, Grown, Refused}
use Rattle.busdma_machine.specs.declared.report.Errno.TheVariants.{EBUSY, ENOMEM}
use Rattle.busdma_machine.specs.declared.report.ReportName.TheVariants.{NotDeferred}
use Rattle.busdma_machine.specs.Tags.Tag.{could_bounce}
use Rattle.ideal_lane.specs.State.{LaneState, LaneTag, Idle, named}
use Rattle.ideal_lane.specs.Asking.{Asking, Asks}
use Rattle.ideal_lane.specs.Outcomes.{Outcome, gives, refused, unless_absent, is_idle}
use Rattle.ideal_lane.specs.Tags.{with_tag}

-- the driver with a new map of a tag at this place
abbrev pub with_map : ℕ → Option ℕ → LaneState → LaneState
with_map t zone l =
    record l { maps = insert l.maps l.place (record { tag = t; zone = zone; tried = false; stage = Idle }) }

-- the driver after the call to make a map of a tag that could bounce: no map is made if the first allocation of the tag
-- got too few pages
abbrev pub map_by_reply : ℕ → LaneTag → LaneState → HubReply → Outcome
map_by_reply t o l (reply.Grown g) = record {
  lane = if g.made then with_tag t o.limits true (with_map t (Some g.zone.0) l) else l;
  answer = Grown g;
}
map_by_reply t o l _ = record { lane = l; answer = Refused ENOMEM }

-- the loads of a tag's maps could bounce; the loads of an IOMMU tag's maps never do
abbrev pub bounces : ℕ → LaneTag → Bool
bounces maxmem t = not t.device && could_bounce t.limits maxmem

-- map: a new idle map of a tag, named by this place of the script
abbrev pub map : ℕ → LaneState → Asking Outcome
map t l =
    unless_absent (get l.tags t) l (λ o.
    if bounces l.maxmem o then Asks (CreateMap (named l l.place) o.limits o.first_done) (map_by_reply t o l)
    else gives (with_map t None l) Done)

-- the driver without a map
abbrev pub without_map : ℕ → LaneState → LaneState
without_map m l = record l { maps = remove l.maps m }

-- an idle map is ended, at its zone if it has one
abbrev pub end_map : ℕ → Option ℕ → LaneState → Asking Outcome
end_map m None l = gives (without_map m l) Done
end_map m (Some z) l =
    Asks (DestroyMap (named l m) (record { 0 = z })) (λ r. record { lane = without_map m l; answer = Done })

-- map_destroy: an idle map is ended; any other gives EBUSY
abbrev pub map_destroy : ℕ → LaneState → Asking Outcome
map_destroy m l =
    unless_absent (get l.maps m) l (λ o.
    if is_idle o.stage then end_map m o.zone l else gives l (Refused EBUSY))

-- await: the driver has waited for the callback of a load of the map. At least one load must have called or stored its
-- callback.
abbrev pub await : ℕ → LaneState → Asking Outcome
await m l =
    unless_absent (get l.maps m) l (λ o. if o.tried then gives l Done else refused NotDeferred 0 l)
