-- The steps of maps that are not loaded, by what is there.
use Rattle.std.proofs.Common.{◌≡◌, ℕ, true, false, Some, None, refl}
use Rattle.std.specs.FinMap.{get}
use Rattle.busdma_machine.specs.declared.bounce.hold.HubCall.TheVariants.{CreateMap, DestroyMap}
use Rattle.busdma_base.specs.declared.journals.answer.Answer.TheVariants as answer
use Rattle.busdma_machine.specs.declared.report.Errno.TheVariants.{EBUSY}
use Rattle.busdma_machine.specs.declared.report.ReportName.TheVariants.{Absent, NotDeferred}
use Rattle.ideal_lane.specs.Asking.{Asks}
use Rattle.ideal_lane.specs.Maps.{bounces, map, map_destroy, await, with_map, without_map, map_by_reply}
use Rattle.ideal_lane.specs.Outcomes.{gives, is_idle}
use Rattle.ideal_lane.specs.State.{LaneState, LaneTag, LaneMap, named}

module _ (l : LaneState) (t : ℕ) where
  -- the tag does not exist
  pub map-absent : get l.tags t ≡ None → map t l ≡ gives l (answer.Report (record { name = Absent; at = 0 }))
  map-absent none = rw none refl

  -- the tag exists, and its loads do not bounce, or could
  pub map-plain : (o : LaneTag) → get l.tags t ≡ Some o → bounces l.maxmem o ≡ false →
      map t l ≡ gives (with_map t None l) answer.Done
  map-plain o there off = rw (there, off) refl

  pub map-created : (o : LaneTag) → get l.tags t ≡ Some o → bounces l.maxmem o ≡ true →
      map t l ≡ Asks (CreateMap (named l l.place) o.limits o.first_done) (map_by_reply t o l)
  map-created o there on = rw (there, on) refl

module _ (l : LaneState) (m : ℕ) where
  -- the map does not exist
  pub destroy-absent : get l.maps m ≡ None →
      map_destroy m l ≡ gives l (answer.Report (record { name = Absent; at = 0 }))
  destroy-absent none = rw none refl

  -- the map is not idle
  pub destroy-busy : (o : LaneMap) → get l.maps m ≡ Some o → is_idle o.stage ≡ false →
      map_destroy m l ≡ gives l (answer.Refused EBUSY)
  destroy-busy o there busy = rw (there, busy) refl

  -- the map is idle, and has no zone, or has one
  pub destroy-plain : (o : LaneMap) → get l.maps m ≡ Some o → is_idle o.stage ≡ true → o.zone ≡ None →
      map_destroy m l ≡ gives (without_map m l) answer.Done
  destroy-plain o there idle none = rw (there, idle, none) refl

  pub destroy-zoned : (o : LaneMap) (z : ℕ) → get l.maps m ≡ Some o → is_idle o.stage ≡ true → o.zone ≡ Some z →
      map_destroy m l ≡ Asks (DestroyMap (named l m) (record { 0 = z }))
      (λ r. record { lane = without_map m l; answer = answer.Done })
  destroy-zoned o z there idle zone = rw (there, idle, zone) refl

  -- a wait for a map that does not exist, that was tried, or that was not
  pub await-absent : get l.maps m ≡ None → await m l ≡ gives l (answer.Report (record { name = Absent; at = 0 }))
  await-absent none = rw none refl

  pub await-tried : (o : LaneMap) → get l.maps m ≡ Some o → o.tried ≡ true → await m l ≡ gives l answer.Done
  await-tried o there tried = rw (there, tried) refl

  pub await-untried : (o : LaneMap) → get l.maps m ≡ Some o → o.tried ≡ false →
      await m l ≡ gives l (answer.Report (record { name = NotDeferred; at = 0 }))
  await-untried o there untried = rw (there, untried) refl
