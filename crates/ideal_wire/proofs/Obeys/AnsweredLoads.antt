-- The segments that the end of a load answers are its bytes, in order, and obey its tag.
use Rattle.std.proofs.Common.{◌≡◌, ℕ, ◌==◌, Bool, true, false, if◌then◌else◌, List, [], ◌∷◌, length}
use Rattle.std.proofs.Common.{Some, None, is_some, refl, ap, sym, ◌∙◌, subst, arith, nat_le, take}
use Rattle.std.proofs.lemmas.Bool.{eqb-true}
use Rattle.std.specs.FinMap.{get, contains_key}
use Rattle.std.specs.List.{AllByRecursion}
use Rattle.busdma_machine.specs.declared.bounce.hold.HubReply.TheVariants.{Called, Nothing}
use Rattle.busdma_machine.specs.declared.bounce.zone.Waiter.{Waiter}
use Rattle.busdma_base.specs.declared.journals.answer.Answer.{Answer}
use Rattle.busdma_base.specs.declared.journals.answer.Answer.TheVariants as answer
use Rattle.busdma_machine.specs.declared.report.Errno.TheVariants.{EFBIG}
use Rattle.busdma_machine.specs.declared.report.Judged.TheVariants.{Fine}
use Rattle.busdma_machine.specs.declared.machine.address.Pa.{Pa}
use Rattle.busdma_machine.specs.declared.machine.address.Segment.{Segment}
use Rattle.busdma_machine.specs.declared.machine.bio.Bio.{Bio}
use Rattle.busdma_machine.specs.declared.machine.chunk.Chunk.{Chunk}
use Rattle.busdma_machine.specs.declared.name.MapId.{MapId}
use Rattle.busdma_base.specs.declared.scenarios.script.Item.{Item}
use Rattle.busdma_machine.specs.declared.tags.tag.TagLimits.{TagLimits}
use Rattle.busdma_machine.specs.Bounce.Account.{Account, zone_at}
use Rattle.busdma_machine.specs.Bounce.AccountStep.{AccountReply as CallOutcome, as_pages, called_from}
use Rattle.busdma_machine.specs.Bounce.EachFrame.{EachFrame}
use Rattle.busdma_machine.specs.Bounce.Growth.{serves_tag}
use Rattle.busdma_machine.specs.Bounce.History.{IsFrame}
use Rattle.busdma_machine.specs.Bounce.LowPages.{PagesLieLow}
use Rattle.busdma_machine.specs.Bounce.Serving.{handed}
use Rattle.busdma_base.specs.Scenarios.PageRuns.{physical_in}
use Rattle.busdma_machine.specs.Machine.Spans.{bio_spans, span_bytes}
use Rattle.busdma_machine.specs.Machine.Wire.{buffers, buses}
use Rattle.busdma_machine.specs.Runs.{run_of}
use Rattle.busdma_base.specs.Scenarios.Buffers.{IsBioOf}
use Rattle.lane_agreement.specs.View as view
use Rattle.lane_agreement.proofs.Places.{head-waits, waits-tells}
use Rattle.busdma_rules.specs.Segments.Obeying.{IsReachable}
use Rattle.std.proofs.Common.{map as mapped, Option}
use Rattle.std.specs.Option.{option_map_or}
use Rattle.busdma_machine.specs.declared.machine.chunk.Entry.{Entry}
use Rattle.busdma_rules.specs.Iommu.Device.{device_chunks}
use Rattle.busdma_rules.specs.Iommu.Space.{translated}
use Rattle.ideal_lane.specs.Loads.{is_device}
use Rattle.ideal_lane.specs.State.{LaneTag}
use Rattle.ideal_wire.specs.Answered.{chunks_of_load, first_device_page, found_at}
use Rattle.ideal_lane.specs.Agreement.{AgreesWith}
use Rattle.ideal_lane.specs.Loads.{Asked, asked, chunks_for, finished, limits_of, load_addresses, load_entries}
use Rattle.ideal_lane.specs.Loads.{load_judged, unpaged}
use Rattle.ideal_lane.specs.Outcomes.{Outcome}
use Rattle.ideal_lane.specs.Places.{is_memory_byte}
use Rattle.ideal_lane.specs.Standing.{Stands}
use Rattle.ideal_lane.specs.State.{LaneState, LaneMap, LaneMemory}
use Rattle.ideal_lane.specs.Unloads.{pages_of}
use Rattle.ideal_lane.specs.View.{view_of}
use Rattle.ideal_wire.specs.Accepted.{ArePagesFor, IfSegments, IsAcceptedLoad}
use Rattle.ideal_wire.specs.Answered.{AreLoaded}
use Rattle.ideal_wire.specs.Laid.{AreLaid}
use Rattle.ideal_wire.specs.Machine.{IsInMachine}
use Rattle.ideal_wire.specs.Traces.{stage_at, traces_of}
use Rattle.ideal_wire.proofs.Obeys.AcceptedLaws.{accepted, fits, segments, stage-is}
use Rattle.ideal_wire.proofs.Loads.Asked.{pages-fine}
use Rattle.ideal_wire.proofs.Loads.Bios.{AreOfPages}
use Rattle.ideal_wire.proofs.Loads.MemoryLoads.{memory-addresses, no-page}
use Rattle.ideal_wire.proofs.Obeys.MemoryObeys.{memory-accepted}
use Rattle.ideal_wire.proofs.Apart.Pages.{called-reachable}
use Rattle.ideal_wire.proofs.Loads.Reaching.{memory-low}

-- ---- answers

-- what holds of all segments holds of those of an answer
pub if-all : (a : Answer) (P : List Segment → Type 0) → ((ss : List Segment) → P ss) → IfSegments a P
if-all answer.Done P h = tt
if-all (answer.Grown g) P h = tt
if-all (answer.Placed p) P h = tt
if-all (answer.Segments ss) P h = h ss
if-all (answer.InProgress have need) P h = tt
if-all (answer.Served n) P h = tt
if-all (answer.Bytes bytes) P h = tt
if-all answer.Idle P h = tt
if-all (answer.Refused e) P h = tt
if-all (answer.Report r) P h = tt

pub if-so : (a : Answer) (P Q : List Segment → Type 0) → ((ss : List Segment) → P ss → Q ss) → IfSegments a P →
    IfSegments a Q
if-so answer.Done P Q h p = tt
if-so (answer.Grown g) P Q h p = tt
if-so (answer.Placed x) P Q h p = tt
if-so (answer.Segments ss) P Q h p = h ss p
if-so (answer.InProgress have need) P Q h p = tt
if-so (answer.Served n) P Q h p = tt
if-so (answer.Bytes bytes) P Q h p = tt
if-so answer.Idle P Q h p = tt
if-so (answer.Refused e) P Q h p = tt
if-so (answer.Report r) P Q h p = tt

-- ---- bytes of the driver's pages are judged fine, of a map that is not a memory's
module _ (l : LaneState) (laid : AreLaid l) (machine : IsInMachine l) where
  outside : (va p : ℕ) → physical_in l.pages va ≡ Some p → is_memory_byte l va ≡ false
  outside va p at = by (is_memory_byte l va) refl
    where
      by : (b : Bool) → is_memory_byte l va ≡ b → is_memory_byte l va ≡ false
      by false e = e
      by true e =
          let none : physical_in l.pages va ≡ None =
          no-page l.maxmem l.pages va machine.pages (memory-low l laid machine va e) in
          let gone : None ≡ Some p = sym none ∙ at in
          absurd (cc)

  pub own-fine : (m : ℕ) (b : Bio) → get l.mems m ≡ None → AreOfPages l b → load_judged l m b ≡ Fine
  own-fine m b none own = pages-fine l outside m b none own

-- ---- the end of a load that has its pages, of these bytes
module _ (l : LaneState) (m : ℕ) (o : LaneMap) (there : get l.maps m ≡ Some o) (b : Bio) (now : Bool)
    (items : List Item) (ending-chunks : List Chunk)
    (of-load : ending-chunks ≡ chunks_of_load l o (contains_key l.mems m) (load_entries l b)) (find : ℕ → Option ℕ)
    (at : ℕ) (bytes : List ℕ) (pages : List ℕ) where
  abbrev x : Asked
  x = asked m b now items l

  abbrev t : TagLimits
  t = limits_of l o

  abbrev ss : List Segment
  ss = segments l m o at x ending-chunks pages

  abbrev with-load : LaneState
  with-load = fits l m o at x ending-chunks pages

  -- `after` is the driver that the step leaves of the one with the load
  pub ends-so : (nat_le (length ss) t.nsegments ≡ true → IsAcceptedLoad with-load m find t bytes ending-chunks pages
      ss) →
      (after : LaneState → LaneState) → ((k : LaneState) → traces_of (after k) m ≡ traces_of k m) →
      ((k : LaneState) → stage_at (after k) m ≡ stage_at k m) →
      (nat_le (length ss) t.nsegments ≡ true → find ≡ found_at (after with-load) o) →
      load_addresses l b ≡ bytes →
      IfSegments (finished m o at x ending-chunks pages l).answer
      (AreLoaded l (after (finished m o at x ending-chunks pages l).lane) m b)
  ends-so accepted after traces stages finds named =
      by (nat_le (length ss) t.nsegments) refl
    where
      held : pages ≡ pages_of (stage_at (after with-load) m)
      held = sym (ap pages_of (stages with-load ∙ stage-is l m o at x ending-chunks pages))

      moved : (bs : List ℕ) (cs : List Chunk) (ps : List ℕ) → IsAcceptedLoad with-load m find t bs cs ps ss →
          IsAcceptedLoad (after with-load) m find t bs cs ps ss
      moved bs cs ps h = record {
        buffer = ap (λ ts. buffers ts) (traces with-load) ∙ h.buffer;
        trace = h.trace ∙ sym (ap (λ ts. mapped (λ a. Some a) (buses ts)) (traces with-load));
        obeys = h.obeys;
      }

      load-is : find ≡ found_at (after with-load) o →
          IsAcceptedLoad with-load m find t bytes ending-chunks pages ss → AreLoaded l (after with-load) m b ss
      load-is finds h = record {
        map = o;
        there = there;
        accepted =
            subst (λ f. IsAcceptedLoad (after with-load) m f t (load_addresses l b)
            (chunks_of_load l o (contains_key l.mems m) (load_entries l b))
            (pages_of (stage_at (after with-load) m)) ss) finds
            (subst (λ bs. IsAcceptedLoad (after with-load) m find t bs
            (chunks_of_load l o (contains_key l.mems m) (load_entries l b))
            (pages_of (stage_at (after with-load) m)) ss)
            (sym named)
            (subst (λ cs. IsAcceptedLoad (after with-load) m find t bytes cs
            (pages_of (stage_at (after with-load) m)) ss) of-load
            (subst (λ ps. IsAcceptedLoad (after with-load) m find t bytes ending-chunks ps ss) held
            (moved bytes ending-chunks pages h))));
      }

      by : (q : Bool) → nat_le (length ss) t.nsegments ≡ q →
          IfSegments (Outcome.answer (if q then record { lane = with-load; answer = answer.Segments ss }
          else record { lane = unpaged m o pages l; answer = answer.Refused EFBIG }))
          (AreLoaded l (after (Outcome.lane (if q then record { lane = with-load; answer = answer.Segments ss }
          else record { lane = unpaged m o pages l; answer = answer.Refused EFBIG }))) m b)
      by true few = load-is (finds few) (accepted few)
      by false many = tt

-- a map with a zone is not an IOMMU tag's
pub zoned-plain : (l : LaneState) → Stands l → (m z : ℕ) (o : LaneMap) → get l.maps m ≡ Some o → o.zone ≡ Some z →
    is_device l o ≡ false
zoned-plain l stands m z o there zone =
    let st = stands.each m o there in
    ap (λ q. option_map_or (λ (t : LaneTag). t.device) q false) st.there ∙ by st.tag.device st.device
  where
    by : (d : Bool) → (d ≡ true → o.zone ≡ None) → d ≡ false
    by false h = refl
    by true h = let none : o.zone ≡ None = h refl in absurd (cc)

-- the chunks of a map that is not an IOMMU tag's
plain-chunks : (l : LaneState) (m : ℕ) (o : LaneMap) (es : List Entry) → is_device l o ≡ false → (c : Bool) →
    contains_key l.mems m ≡ c → chunks_for l o c es ≡ chunks_of_load l o (contains_key l.mems m) es
plain-chunks l m o es plain c of-memory =
    ap (λ d. chunks_for l o d es) (sym of-memory)
    ∙ sym (ap (λ d. if d then device_chunks (first_device_page l o es) 0 es else chunks_for l o (contains_key l.mems m)
    es) plain)

plain-finds : (l : LaneState) (o : LaneMap) → is_device l o ≡ false → (l' : LaneState) → l'.tags ≡ l.tags →
    (λ a. Some a) ≡ found_at l' o
plain-finds l o plain l' tags =
    let off : is_device l' o ≡ false =
    ap (λ ts. option_map_or (λ (t : LaneTag). t.device) (get ts o.tag) false) tags ∙ plain in
    λ i a. if sym off i then translated (l'.spaces o.tag) a else Some a

-- the segments of a load of the driver's pages
pub ends-answered : (l : LaneState) → AreLaid l → IsInMachine l → Stands l → (m : ℕ) (o : LaneMap)
    (there : get l.maps m ≡ Some o) (plain : is_device l o ≡ false) (direct : contains_key l.mems m ≡ false)
    (b : Bio) → IsBioOf l.pages b →
    (at : ℕ) (now : Bool) (items : List Item) → load_judged l m b ≡ Fine → (pages : List ℕ) →
    (after : LaneState → LaneState) → ((k : LaneState) → traces_of (after k) m ≡ traces_of k m) →
    ((k : LaneState) → stage_at (after k) m ≡ stage_at k m) → ((k : LaneState) → (after k).tags ≡ k.tags) →
    ArePagesFor (limits_of l o) (chunks_for l o false (load_entries l b)) pages →
    IfSegments (finished m o at (asked m b now items l) (chunks_for l o false (load_entries l b)) pages l).answer
    (AreLoaded l
    (after (finished m o at (asked m b now items l) (chunks_for l o false (load_entries l b)) pages l).lane) m b)
ends-answered l laid machine stands m o there plain direct b named at now items fine pages after traces stages tags
    has =
    ends-so l m o there b now items _ (plain-chunks l m o (load_entries l b) plain false direct)
    (λ a. Some a) at (load_addresses l b) pages
    (accepted l laid machine stands m o there direct b named at now items fine pages has) after traces stages
    (λ few. plain-finds l o plain
    (after (fits l m o at (asked m b now items l) (chunks_for l o false (load_entries l b)) pages))
    (tags (fits l m o at (asked m b now items l) (chunks_for l o false (load_entries l b)) pages)))
    refl

-- the segments of a load of a memory's own map, of which no byte bounces
pub ends-memory : (l : LaneState) → AreLaid l → IsInMachine l → Stands l → (m : ℕ) (o : LaneMap)
    (there : get l.maps m ≡ Some o) (plain : is_device l o ≡ false) (y : LaneMemory)
    (memory : get l.mems m ≡ Some y) (b : Bio) (at : ℕ) (now : Bool)
    (items : List Item) → load_judged l m b ≡ Fine →
    (after : LaneState → LaneState) → ((k : LaneState) → traces_of (after k) m ≡ traces_of k m) →
    ((k : LaneState) → stage_at (after k) m ≡ stage_at k m) → ((k : LaneState) → (after k).tags ≡ k.tags) →
    IfSegments (finished m o at (asked m b now items l) (chunks_for l o true (load_entries l b)) [] l).answer
    (AreLoaded l (after (finished m o at (asked m b now items l) (chunks_for l o true (load_entries l b)) [] l).lane)
    m b)
ends-memory l laid machine stands m o there plain y memory b at now items fine after traces stages tags =
    ends-so l m o there b now items _
    (plain-chunks l m o (load_entries l b) plain true (ap is_some memory)) (λ a. Some a) at
    (run_of y.first (span_bytes (bio_spans b))) []
    (memory-accepted l laid machine stands m o there y memory b at now items fine) after traces stages
    (λ few. plain-finds l o plain
    (after (fits l m o at (asked m b now items l) (chunks_for l o true (load_entries l b)) []))
    (tags (fits l m o at (asked m b now items l) (chunks_for l o true (load_entries l b)) [])))
    (memory-addresses l laid machine stands m o there y memory b fine)

-- ---- the pages that a callback brings
module _ (l : LaneState) (a : Account) (agrees : AgreesWith l a) (low : PagesLieLow a) (each : EachFrame IsFrame a)
    (t : TagLimits) (m : MapId) (pages : List Pa)
    (serves : (z need : ℕ) → (view_of l).map_at m.made_at ≡ Some (record { zone = z; stage = view.Waiting need }) →
    serves_tag t (zone_at a z) ≡ true) where
  abbrev taken : Waiter → List Waiter → Bool → CallOutcome
  taken w ws b =
      if b then record {
        account = handed (record a { ready = ws }) w.map w.zone.0 w.need;
        reply = Called w.map (as_pages (take w.need (zone_at a w.zone.0).avail));
      }
      else record { account = a; reply = Nothing }

  by-head : (ws : List Waiter) → a.ready ≡ ws → (called_from ws l.id a).reply ≡ Called m pages →
      AllByRecursion (IsReachable t) pages
  by-head [] is e = absurd (cc)
  by-head (w ∷ ws) is e = by (w.map.lane.0 == l.id) refl e
    where
      by : (b : Bool) → (w.map.lane.0 == l.id) ≡ b → (taken w ws b).reply ≡ Called m pages →
          AllByRecursion (IsReachable t) pages
      by false f g = absurd (cc)
      by true f g =
          let own : w.map.lane.0 ≡ l.id = eqb-true w.map.lane.0 l.id f in
          let here : (view_of l).map_at w.map.made_at
          ≡ Some (record { zone = w.zone.0; stage = view.Waiting w.need }) =
          waits-tells ((view_of l).map_at w.map.made_at) w.zone.0 w.need
          (omega (arith, head-waits w ws a is, (agrees.names w.map own).waits w.zone.0 w.need)) in
          let map-is : w.map ≡ m = cc in
          let named : (view_of l).map_at m.made_at ≡ Some (record { zone = w.zone.0; stage = view.Waiting w.need }) =
          subst (λ (n : MapId). (view_of l).map_at n.made_at ≡ Some
          (record { zone = w.zone.0; stage = view.Waiting w.need }))
          map-is here in
          called-reachable t a l.id w ws m pages low each (serves w.zone.0 w.need named) e

  pub callback-reachable : (called_from a.ready l.id a).reply ≡ Called m pages → AllByRecursion (IsReachable t) pages
  callback-reachable = by-head a.ready refl
