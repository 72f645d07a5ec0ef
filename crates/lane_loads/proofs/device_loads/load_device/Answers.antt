use Rattle.std.proofs.Common.{◌≡◌, ℕ, ◌<◌, List, [], length, Option, Some, None, IfNone, IfSome, refl, sym, ap, ◌∙◌}
use Rattle.std.proofs.Common.{subst, arith, unwrap_or}
use Rattle.std.specs.FinMap.{get}
use Rattle.std.specs.Option.{option_map}
use Rattle.busdma_base.specs.declared.journals.answer.Answer.TheVariants.{Refused, Segments}
use Rattle.busdma_machine.specs.declared.report.Errno.TheVariants.{EFBIG, ENOMEM}
use Rattle.busdma_machine.specs.declared.machine.chunk.Entry.{Entry}
use Rattle.busdma_machine.specs.declared.machine.chunk.Part.{Part}
use Rattle.busdma_machine.specs.declared.tags.tag.TagLimits.{TagLimits}
use Rattle.busdma_machine.specs.Machine.Entry.{stream_entries}
use Rattle.busdma_rules.specs.Iommu.Device.{load_frames}
use Rattle.iommu_load.specs.DeviceStreams.{stream_frames}
use Rattle.ideal_lane.specs.Loads.{limits_of, load_entries, loaded, no_limits}
use Rattle.ideal_lane.specs.Standing.{Stands}
use Rattle.ideal_lane.specs.State.{LaneMap, LaneState, LaneTag}
use Rattle.ideal_lane.specs.Tags.{with_space}
use Rattle.busdma_machine.specs.declared.machine.bio.Bio.{Bio}
use Rattle.lane_loads.specs.DevicePages.{AreInDevicePages, device_segments, page_for, with_frames}
use Rattle.lane_state.specs.Ideal.{ideal_of}
use Rattle.lane_state.specs.Loading.{bio_of, load_stream}
use Rattle.lane_loads.proofs.DevicePages.{device-few, device-many, device-none}
use Rattle.lane_loads.proofs.DeviceStreams.{stream-entries}
use Rattle.lane_state.proofs.Doors.{ok-map}
use Rattle.lane_loads.proofs.device_loads.load_device.Goals as goal

-- the frames of a load's stream are those of its entries
same-frames : (l : LaneState) (b : Bio) (es : List Entry) (parts : List Part) (frames : List ℕ) →
    es ≡ load_entries l b → frames ≡ stream_frames parts → parts ≡ load_stream l b → frames ≡ load_frames es
same-frames l b es parts frames entries are is =
    are ∙ ap load_frames (ap stream_entries is ∙ stream-entries l b ∙ sym entries)

-- the page that is found for the frames is the page for the load's frames
same-page : (l : LaneState) (o : LaneMap) (tag : ℕ) (asked frames : List ℕ) (page : Option ℕ) → tag ≡ o.tag →
    asked ≡ frames → page ≡ page_for (l.spaces tag) (length asked) → page_for (l.spaces o.tag) (length frames) ≡ page
same-page l o tag asked frames page is same found =
    sym (found ∙ (λ i. page_for (l.spaces (is i)) (length (same i))))

if-none : {A : Type 0} (P : Type 0) (x : Option A) → x ≡ None → IfNone x P → P
if-none P None e h = h
if-none P (Some y) e h = absurd (cc)

if-some : {A : Type 0} (P : A → Type 0) (x : Option A) (y : A) → x ≡ Some y → IfSome x P → P y
if-some P None y e h = absurd (cc)
if-some P (Some z) y e h = let same : z ≡ y = cc in subst P same h

-- what holds by the limits of the tag of a map, and of its entries, holds by those of the map
module _ (l : LaneState) (stands : Stands l) (m : ℕ) (o : LaneMap) (found : get l.maps m ≡ Some o) (tag : ℕ)
    (is : tag ≡ o.tag) (P : TagLimits → Type 0) where
  by-limits : ((t : LaneTag) → get l.tags tag ≡ Some t → P t.limits) → P (limits_of l o)
  by-limits told =
      let s = stands.each m o found in
      let same : limits_of l o ≡ s.tag.limits =
      ap (λ y. unwrap_or (option_map (λ (t : LaneTag). t.limits) y) no_limits) s.there in
      subst P (sym same) (told s.tag (ap (get l.tags) is ∙ s.there))

pub returns-in_default-clause-done : goal.returns-in_default-clause-done
returns-in_default-clause-done c o x found entries items =
    let l = ideal_of c.args.holdings.now in
    let tag = c.tag_of-tag.ensures o found in
    let frames =
    same-frames l (bio_of c.args.bytes) x.entries c.parts.result c.in_ok-frames.frames.items entries
    c.in_ok-frames.ensures.frames c.parts.ensures.parts in
    let page =
    same-page l o c.tag_of-tag.result c.deref.result.now (load_frames x.entries) c.first_page.result tag
    (c.deref.ensures.value ∙ frames) c.first_page.ensures.is in
    ap (λ k. record { lane = k; answer = Refused ENOMEM }) (c.note_tried.ensures.done o found)
    ∙ sym (device-none c.args.map o x l (page ∙ c.in_default.is))

pub segments_from-requires-clause-reached : goal.segments_from-requires-clause-reached
segments_from-requires-clause-reached c =
    let l = ideal_of c.args.holdings.now in
    let es = load_entries l (bio_of c.args.bytes) in
    let frames =
    same-frames l (bio_of c.args.bytes) es c.parts.result c.in_ok-frames.frames.items refl
    c.in_ok-frames.ensures.frames c.parts.ensures.parts in
    let count : length c.deref.result.now ≡ length (load_frames es) = ap length (c.deref.ensures.value ∙ frames) in
    let reached = c.in-Some.ensures.reached in
    omega (arith, reached, count)

pub returns-in_default-2-clause-done : goal.returns-in_default-2-clause-done
returns-in_default-2-clause-done c o x found entries items =
    let l = ideal_of c.args.holdings.now in
    let tag = c.tag_of-tag.ensures o found in
    let first = c.in-Some.first in
    let frames =
    same-frames l (bio_of c.args.bytes) x.entries c.parts.result c.in_ok-frames.frames.items entries
    c.in_ok-frames.ensures.frames c.parts.ensures.parts in
    let page =
    same-page l o c.tag_of-tag.result c.deref.result.now (load_frames x.entries) c.first_page.result tag
    (c.deref.ensures.value ∙ frames) c.first_page.ensures.is in
    let many : (limits_of l o).nsegments < length (device_segments (limits_of l o) first x.entries) =
    subst (λ (es : List Entry). (limits_of l o).nsegments < length (device_segments (limits_of l o) first es))
    (sym entries)
    (by-limits l c.requires.stands c.args.map o found c.tag_of-tag.result tag
    (λ t. t.nsegments < length (device_segments t first (load_entries l (bio_of c.args.bytes))))
    (if-none _ c.in_ok-segments.field-0 c.in_default-2.is c.in_ok-segments.ensures.many)) in
    ap (λ k. record { lane = k; answer = Refused EFBIG }) (c.note_tried-in_default-2.ensures.done o found)
    ∙ sym (device-many c.args.map o x l first (page ∙ c.in-Some.is) many)

pub returns-clause-done : goal.returns-clause-done
returns-clause-done c = ok-map c.keep_segments.result _ _ (λ answer kept o x found entries items.
    let l = ideal_of c.args.holdings.now in
    let m = c.args.map in
    let tag = c.tag_of-tag.ensures o found in
    let first = c.in-Some.first in
    let t = limits_of l o in
    let frames =
    same-frames l (bio_of c.args.bytes) x.entries c.parts.result c.in_ok-frames.frames.items entries
    c.in_ok-frames.ensures.frames c.parts.ensures.parts in
    let page =
    same-page l o c.tag_of-tag.result c.deref.result.now (load_frames x.entries) c.first_page.result tag
    (c.deref.ensures.value ∙ frames) c.first_page.ensures.is in
    let lie : AreInDevicePages t first x.entries c.in-Some-2.segments =
    subst (λ (es : List Entry). AreInDevicePages t first es c.in-Some-2.segments) (sym entries)
    (by-limits l c.requires.stands m o found c.tag_of-tag.result tag
    (λ t. AreInDevicePages t first (load_entries l (bio_of c.args.bytes)) c.in-Some-2.segments)
    (if-some _ c.in_ok-segments.field-0 c.in-Some-2.segments c.in-Some-2.is c.in_ok-segments.ensures.few)) in
    let run : c.deref-2.result.now ≡ load_frames x.entries = c.deref-2.ensures.value ∙ frames in
    let count_few = lie.few in
    kept o x found entries items
    ∙ (λ i. record {
      lane = record (loaded m o l.place x [] (lie.are i) [] l) {
        spaces = with_space o.tag (with_frames (run i) (l.spaces o.tag)) l.spaces;
      };
      answer = Segments (lie.are i);
    })
    ∙ sym (device-few m o x l first (page ∙ c.in-Some.is) (omega (arith, count_few, ap length lie.are))))
    c.keep_segments.ensures.done
