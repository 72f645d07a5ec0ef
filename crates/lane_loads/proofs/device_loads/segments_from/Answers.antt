use Rattle.std.proofs.Common.{◌≡◌, ◌+◌, ◌^◌, ◌<◌, ◌≤◌, List, length, sym, ap, ◌∙◌, subst, arith}
use Rattle.busdma_machine.specs.declared.machine.address.Segment.{Segment}
use Rattle.busdma_machine.specs.declared.machine.chunk.Entry.{Entry}
use Rattle.busdma_machine.specs.declared.tags.tag.TagLimits.{TagLimits}
use Rattle.busdma_machine.specs.Machine.Entry.{stream_entries}
use Rattle.busdma_rules.specs.Iommu.Device.{load_frames}
use Rattle.iommu_load.specs.DeviceStreams.{device_pieces}
use Rattle.segment_build.proofs.Cuts.{one_segmentation}
use Rattle.ideal_lane.specs.Loads.{load_entries}
use Rattle.ideal_lane.specs.State.{LaneTag}
use Rattle.lane_loads.specs.DevicePages.{AreInDevicePages, device_segments}
use Rattle.lane_state.specs.Ideal.{ideal_of}
use Rattle.lane_state.specs.Kept.{tag_of}
use Rattle.lane_state.specs.Loading.{bio_of}
use Rattle.lane_loads.proofs.DeviceStreams.{stream-entries}
use Rattle.lane_state.proofs.MapValues.{image-none, image-some}
use Rattle.lane_loads.proofs.device_loads.segments_from.Goals as goal

pub returns-in_default-clause-many : goal.returns-in_default-clause-many
returns-in_default-clause-many c t found =
    let none = image-none tag_of c.args.holdings.now.tags.map c.args.tag (sym c.in_default.ensures) in absurd (cc)

pub measure_in_pages-pieces-requires : goal.measure_in_pages-pieces-requires
measure_in_pages-pieces-requires c =
    let l = ideal_of c.args.holdings.now in
    let entries : stream_entries c.parts.result ≡ load_entries l (bio_of c.args.bytes) =
    ap stream_entries c.parts.ensures.parts ∙ stream-entries l (bio_of c.args.bytes) in
    record {
      stream = c.parts.ensures.stream;
      pages = subst (λ (es : List Entry). c.args.first + length (load_frames es) ≤ 2 ^ 52) (sym entries)
          c.requires.reached;
    }

pub build_in_pages-requires-clause-room : goal.build_in_pages-requires-clause-room
build_in_pages-requires-clause-room c =
    let l = ideal_of c.args.holdings.now in
    let made = c.in-Some.made.now in
    let entries : stream_entries c.parts-2.result ≡ load_entries l (bio_of c.args.bytes) =
    ap stream_entries c.parts-2.ensures.parts ∙ stream-entries l (bio_of c.args.bytes) in
    let room = c.in_ok-list.ensures.room in
    let pieces : c.measure_in_pages-pieces.result ≡ length (device_pieces made.tag c.args.first c.parts-2.result) =
    c.measure_in_pages-pieces.ensures
    ∙ ap (λ ps. length (device_pieces made.tag c.args.first ps)) (c.parts.ensures.parts ∙ sym c.parts-2.ensures.parts)
    in
    record {
      paged = record {
        stream = c.parts-2.ensures.stream;
        pages = subst (λ (es : List Entry). c.args.first + length (load_frames es) ≤ 2 ^ 52) (sym entries)
            c.requires.reached;
      };
      fits = omega (
        arith,
        room,
        c.min.ensures,
        pieces,
        ap (λ (u : TagLimits). u.nsegments) c.limits.ensures.limits,
      );
    }

pub returns-then-not-build_in_pages-clause-many : goal.returns-then-not-build_in_pages-clause-many
returns-then-not-build_in_pages-clause-many c t found =
    let h = c.args.holdings.now in
    let l = ideal_of h in
    let es = load_entries l (bio_of c.args.bytes) in
    let made = c.in-Some.made.now in
    let is = image-some tag_of h.tags.map c.args.tag made (sym c.in-Some.ensures) in
    let same : tag_of made ≡ t = cc in
    let entries : stream_entries c.parts-2.result ≡ es =
    ap stream_entries c.parts-2.ensures.parts ∙ stream-entries l (bio_of c.args.bytes) in
    let over = c.build_in_pages.ensures.many c.if-not-build_in_pages.true in
    let are : over.segments ≡ device_segments made.tag c.args.first es =
    one_segmentation made.tag over.segments (device_pieces made.tag c.args.first c.parts-2.result) over.are
    ∙ ap (device_segments made.tag c.args.first) entries in
    subst (λ (x : LaneTag). x.limits.nsegments < length (device_segments x.limits c.args.first es)) same
    (subst (λ (ss : List Segment). made.tag.nsegments < length ss) are over.many)

pub returns-clause-few : goal.returns-clause-few
returns-clause-few c t found =
    let h = c.args.holdings.now in
    let l = ideal_of h in
    let es = load_entries l (bio_of c.args.bytes) in
    let made = c.in-Some.made.now in
    let is = image-some tag_of h.tags.map c.args.tag made (sym c.in-Some.ensures) in
    let same : tag_of made ≡ t = cc in
    let entries : stream_entries c.parts-2.result ≡ es =
    ap stream_entries c.parts-2.ensures.parts ∙ stream-entries l (bio_of c.args.bytes) in
    let list = c.build_in_pages.new.list.items in
    let built = c.build_in_pages.ensures.few c.if-not-build_in_pages.false in
    let base : AreInDevicePages made.tag c.args.first es c.into_list.result =
    record {
      are = c.into_list.ensures
          ∙ one_segmentation made.tag list (device_pieces made.tag c.args.first c.parts-2.result) built.0
          ∙ ap (device_segments made.tag c.args.first) entries;
      few = subst (λ (ss : List Segment). length ss ≤ made.tag.nsegments) (sym c.into_list.ensures) built.1;
    } in
    subst (λ (x : LaneTag). AreInDevicePages x.limits c.args.first es c.into_list.result) same base
