-- How the load of an IOMMU tag's map ends, by its first page and its segments.
use Rattle.std.proofs.Common.{◌≡◌, ℕ, ◌+◌, ◌<◌, ◌≤◌, ◌==◌, Bool, true, false, List, [], ◌∷◌, ◌++◌, length}
use Rattle.std.proofs.Common.{Some, None, refl, sym, ap, ◌∙◌, append-nil, arith, if◌then◌else◌}
use Rattle.std.proofs.lemmas.Bool.Decides.{nat_tests}
use Rattle.std.proofs.lemmas.Map.Views.{exact_unsigned_eq}
use Rattle.std.specs.FinMap.{get, insert}
use Rattle.busdma_base.specs.declared.journals.answer.Answer.{Answer}
use Rattle.busdma_base.specs.declared.journals.answer.Answer.TheVariants.{Segments, Refused}
use Rattle.busdma_machine.specs.declared.report.Errno.TheVariants.{EFBIG, ENOMEM}
use Rattle.busdma_machine.specs.declared.machine.address.Pa.{Pa}
use Rattle.busdma_machine.specs.declared.machine.address.Segment.{Segment}
use Rattle.busdma_machine.specs.declared.machine.chunk.Chunk.{Chunk}
use Rattle.busdma_machine.specs.declared.machine.chunk.Entry.{Entry}
use Rattle.busdma_machine.specs.declared.tags.tag.TagLimits.{TagLimits}
use Rattle.busdma_machine.specs.Bounce.AccountStep.{as_pages}
use Rattle.busdma_machine.specs.Machine.Entry.{entries_addresses}
use Rattle.busdma_machine.specs.Runs.{byte_count}
use Rattle.busdma_machine.specs.Tags.TagFlags.{keep_pg_offset}
use Rattle.busdma_base.specs.Scenarios.Queues.{queued_items}
use Rattle.busdma_rules.specs.Lending.Loans.{new_loan}
use Rattle.busdma_rules.specs.Iommu.Device.{device_chunk, device_chunks, load_frames}
use Rattle.busdma_rules.specs.Iommu.Space.{Space, entered, first_free}
use Rattle.busdma_rules.specs.Segments.Building.{placed_pieces, tag_placed}
use Rattle.busdma_rules.specs.Segments.Chunks.{bounced_of}
use Rattle.busdma_rules.specs.Segments.Pieces.{chunk_pieces}
use Rattle.busdma_rules.specs.Segments.Segmentation.{segmentation}
use Rattle.busdma_rules.specs.Segments.Trace.{chunks_in_pages}
use Rattle.ideal_lane.specs.Loads.{Asked, are_few, device_load, finished, is_coherent, limits_of, loaded, staged}
use Rattle.ideal_lane.specs.Loads.{taken, with_run, with_spaces}
use Rattle.ideal_lane.specs.State.{Idle, LaneMap, LaneState, Loaded}
use Rattle.ideal_lane.specs.Tags.{with_space}
use Rattle.ideal_wire.proofs.Laid.LoadLaid.{device-direct}
use Rattle.lane_loads.specs.DevicePages.{device_segments, page_for, with_frames}
use Rattle.lane_loads.proofs.LoadSteps.{finished-few, finished-many}
use Rattle.lane_state.proofs.Spaces.{spaces-same}

-- no page changes a chunk of device addresses
same-placed : (keep : Bool) (page at : ℕ) (es : List Entry) (pages : List Pa) →
    chunks_in_pages keep (device_chunks page at es) pages ≡ device_chunks page at es
same-placed keep page at [] pages = refl
same-placed keep page at (e ∷ es) pages =
    ap (λ cs. device_chunk page at e ∷ cs)
    (same-placed keep (page + length e.parts) (at + byte_count e.parts) es pages)

-- the run of frames is entered in the space of a tag
run-entered : (spaces : ℕ → Space) (k first : ℕ) (frames : List ℕ) → (length frames == 0) ≡ false →
    first_free (spaces k) (length frames) ≡ Some first →
    with_run true k first frames spaces ≡ with_space k (with_frames frames (spaces k)) spaces
run-entered spaces k first frames some free =
    λ i q. (by q (q == k) refl
    ∙ ap (λ b. if q == k then (if b then spaces k else entered (first_free (spaces k) (length frames)) frames
    (spaces k))
    else spaces q) (sym some)) i
  where
    by : (q : ℕ) (b : Bool) → (q == k) ≡ b →
        (if b then entered (Some first) frames (spaces q) else spaces q)
        ≡ (if b then entered (first_free (spaces k) (length frames)) frames (spaces k) else spaces q)
    by q true e =
        ap (λ p. entered (Some first) frames (spaces p)) (exact_unsigned_eq q k e)
        ∙ ap (λ f. entered f frames (spaces k)) (sym free)
    by q false e = refl

module _ (m : ℕ) (o : LaneMap) (x : Asked) (l : LaneState) where
  abbrev frames : List ℕ
  frames = load_frames x.entries

  abbrev t : TagLimits
  t = limits_of l o

  abbrev chunks : ℕ → List Chunk
  chunks first = device_chunks first 0 x.entries

  -- no run is free
  pub device-none : page_for (l.spaces o.tag) (length frames) ≡ None →
      device_load m o x l ≡ record { lane = staged m o Idle l; answer = Refused ENOMEM }
  device-none none = by (length frames == 0) none
    where
      by : (b : Bool) → (if b then Some 0 else first_free (l.spaces o.tag) (length frames)) ≡ None →
          (if b then finished m o l.place x (chunks 0) [] l
          else taken m o x (first_free (l.spaces o.tag) (length frames)) l)
          ≡ record { lane = staged m o Idle l; answer = Refused ENOMEM }
      by true e = absurd (cc)
      by false e = ap (λ f. taken m o x f l) e

  module _ (first : ℕ) (page : page_for (l.spaces o.tag) (length frames) ≡ Some first) where
    abbrev segments : List Segment
    segments = device_segments t first x.entries

    abbrev spaces : ℕ → Space
    spaces = with_space o.tag (with_frames frames (l.spaces o.tag)) l.spaces

    either : (b : Bool) → l.spaces ≡ spaces → l.spaces ≡ (if b then spaces else l.spaces)
    either true e = e
    either false e = refl

    entered-if : (b : Bool) → (length frames == 0) ≡ false →
        first_free (l.spaces o.tag) (length frames) ≡ Some first →
        with_run b o.tag first frames l.spaces ≡ (if b then spaces else l.spaces)
    entered-if true e p = run-entered l.spaces o.tag first frames e p
    entered-if false e p = refl

    -- the load ends as a load of its chunks does, except for its run
    ends : (few : Bool) (lane : LaneState) (a : Answer) → are_few t (chunks first) ≡ few → lane.spaces ≡ l.spaces →
        finished m o l.place x (chunks first) [] l ≡ record { lane = lane; answer = a } →
        device_load m o x l
        ≡ record { lane = record lane { spaces = if few then spaces else l.spaces }; answer = a }
    ends few lane a are same is = by (length frames == 0) refl page
      where
        by : (b : Bool) → (length frames == 0) ≡ b →
            (if b then Some 0 else first_free (l.spaces o.tag) (length frames)) ≡ Some first →
            (if b then finished m o l.place x (chunks 0) [] l
            else taken m o x (first_free (l.spaces o.tag) (length frames)) l)
            ≡ record { lane = record lane { spaces = if few then spaces else l.spaces }; answer = a }
        by true e p =
            let zero : 0 ≡ first = cc in
            let here : l.spaces o.tag ≡ with_frames frames (l.spaces o.tag) =
            sym (ap (λ b. if b then l.spaces o.tag
            else entered (first_free (l.spaces o.tag) (length frames)) frames (l.spaces o.tag)) e) in
            let all : l.spaces ≡ spaces = sym (spaces-same l.spaces o.tag _ here) in
            ap (λ f. finished m o l.place x (chunks f) [] l) zero ∙ is
            ∙ ap (λ (s : ℕ → Space). record { lane = record lane { spaces = s }; answer = a }) (same ∙ either few all)
        by false e p =
            ap (λ f. taken m o x f l) p
            ∙ ap (with_spaces (with_run (are_few t (chunks first)) o.tag first frames l.spaces)) is
            ∙ ap (λ (s : ℕ → Space). record { lane = record lane { spaces = s }; answer = a })
            (ap (λ b. with_run b o.tag first frames l.spaces) are ∙ entered-if few e p)

    unpaged-chunks : tag_placed t (chunks first) (as_pages []) ≡ chunks first
    unpaged-chunks = same-placed (keep_pg_offset t.flags) first 0 x.entries (as_pages [])

    built : segmentation t (placed_pieces t (chunks first) (as_pages [])) ≡ segments
    built = ap (λ cs. segmentation t (chunk_pieces t cs)) unpaged-chunks

    -- the segments of the load are few enough
    pub device-few : length segments ≤ t.nsegments →
        device_load m o x l ≡ record {
          lane = record (loaded m o l.place x [] segments [] l) { spaces = spaces };
          answer = Segments segments;
        }
    device-few few =
        let count = ap length built in
        let test : are_few t (chunks first) ≡ true = grind (arith, nat_tests, count, few) in
        let bounced : bounced_of (tag_placed t (chunks first) (as_pages [])) ≡ [] =
        ap bounced_of unpaged-chunks ∙ device-direct first 0 x.entries in
        ends true (loaded m o l.place x [] segments [] l) (Segments segments) test refl
        (finished-few m o l.place x (chunks first) [] l (omega (arith, count, few))
        ∙ (λ i. record {
          lane = record (staged m o (Loaded (bounced i) (built i) []) l) {
            loans = insert l.loans m (new_loan (is_coherent (get l.mems m)) (entries_addresses x.entries));
            queue = l.queue ++ queued_items l.place x.items;
          };
          answer = Segments (built i);
        }))

    -- the segments of the load are too many
    pub device-many : t.nsegments < length segments →
        device_load m o x l ≡ record { lane = staged m o Idle l; answer = Refused EFBIG }
    device-many many =
        let count = ap length built in
        let test : are_few t (chunks first) ≡ false = grind (arith, nat_tests, count, many) in
        ends false (staged m o Idle l) (Refused EFBIG) test refl
        (finished-many m o l.place x (chunks first) [] l (omega (arith, count, many))
        ∙ (λ i. record {
          lane = record (staged m o Idle l) { returns = append-nil l.returns i };
          answer = Refused EFBIG;
        }))
