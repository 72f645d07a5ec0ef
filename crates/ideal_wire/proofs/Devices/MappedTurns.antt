-- Any turn leaves the loads of IOMMU tags' maps in their runs, where the device finds their bytes, whatever the reply.
use Rattle.std.proofs.Common.{◌≡◌, ◌≢◌, ℕ, zero, suc, ◌+◌, ◌*◌, ◌/◌, ◌≤◌, ◌==◌, ◌&&◌, not, Bool, true, false}
use Rattle.std.proofs.Common.{if◌then◌else◌, List, [], ◌∷◌, ◌++◌, length, map, Option, Some, None, refl, ap, sym, ◌∙◌}
use Rattle.std.proofs.Common.{subst, arith, nat_le, slice_get, unwrap_or, eq-eqb}
use Rattle.std.proofs.lemmas.Bool.{and_parts, false≢true, eqb-true, le-leb, lt-ltb}
use Rattle.std.specs.FinMap.{get, get-empty, get-entries, entries, empty, insert, remove}
use Rattle.std.specs.List.{AllByRecursion, Contains}
use Rattle.std.specs.Option.{option_map, option_map_or}
use Rattle.std.specs.Ordering.{nat_cmp}
use Rattle.busdma_machine.specs.declared.bounce.hold.HubCall.{HubCall}
use Rattle.busdma_machine.specs.declared.bounce.hold.HubReply.{HubReply}
use Rattle.busdma_machine.specs.declared.machine.address.Segment.{Segment}
use Rattle.busdma_machine.specs.declared.machine.chunk.Chunk.{Chunk}
use Rattle.busdma_machine.specs.declared.machine.chunk.Entry.{Entry}
use Rattle.busdma_machine.specs.declared.tags.tag.TagLimits.{TagLimits}
use Rattle.busdma_machine.specs.Each.{EachAfter}
use Rattle.busdma_machine.specs.Runs.{run_of}
use Rattle.busdma_base.specs.declared.journals.journal.Side.{Side}
use Rattle.busdma_base.specs.declared.scenarios.scenario.Driver.{Driver}
use Rattle.busdma_base.specs.Scenarios.Buffers.{IsBioOf}
use Rattle.busdma_rules.specs.Iommu.Device.{device_chunks, load_frames}
use Rattle.busdma_rules.proofs.Iommu.Carrying.{Carries, device-first, device-none, device-within}
use Rattle.busdma_rules.proofs.Iommu.SpaceLaws.{entered-carries}
use Rattle.busdma_rules.specs.Iommu.Space.{DeviceRun, Space, run_end}
use Rattle.busdma_rules.specs.Iommu.Space.{entered, has_page, run_unmapped, translated}
use Rattle.busdma_rules.proofs.Iommu.Members.{gap-new, live-is, put-in}
use Rattle.busdma_rules.proofs.Iommu.Runs.{taken-fits, taken-gap}
use Rattle.busdma_rules.specs.Lending.Loans.{Loan, addresses_of, loan_of, new_loan, no_loan}
use Rattle.busdma_rules.proofs.Lending.Marking.{addresses_of-synced}
use Rattle.busdma_rules.specs.Segments.Obeying.{IsObeying}
use Rattle.busdma_rules.specs.Segments.Segmentation.{segment_bytes}
use Rattle.busdma_rules.specs.Segments.Trace.{bus_trace}
use Rattle.busdma_machine.specs.Machine.Wire.{buses}
use Rattle.ideal_wire.specs.Traces.{stage_in, traces_of}
use Rattle.ideal_lane.specs.Asking.{by_reply}
use Rattle.ideal_lane.specs.Loads.{are_few, emptied, is_coherent, is_device, limits_of, load_entries, no_limits}
use Rattle.ideal_lane.specs.Loads.{with_run}
use Rattle.ideal_lane.specs.Maps.{with_map}
use Rattle.busdma_machine.specs.Machine.Entry.{entries_addresses}
use Rattle.lane_agreement.specs.View.{returning}
use Rattle.busdma_base.specs.declared.scenarios.queued.QueuedItem.{QueuedItem}
use Rattle.ideal_wire.proofs.Laid.LaidTurns.{plain-tag}
use Rattle.ideal_lane.specs.Opening.{opening_lane}
use Rattle.ideal_lane.specs.Outcomes.{Outcome, is_loaded}
use Rattle.ideal_lane.specs.Standing.{IsPageless, Stands}
use Rattle.ideal_lane.specs.State.{LaneState, LaneMap, LaneTag, Idle, Waiting, Loaded, Returning, WaitingLoad, no_space}
use Rattle.ideal_lane.specs.Tags.{has_maps, with_space, with_tag, with_device_tag}
use Rattle.ideal_lane.specs.Turns.{Turned, lane_step, never_waits}
use Rattle.ideal_lane.specs.Unloads.{after_return, first_of, pages_of, segments_in, loan_forgotten, unmapped}
use Rattle.ideal_lane.specs.Loads.{unpaged}
use Rattle.ideal_lane.proofs.Effects.{Advances, AtOnce, Attaches, Begins, Called, Calls, Creates, Device, Ends, Frees}
use Rattle.ideal_lane.proofs.Effects.{Spaces}
use Rattle.ideal_lane.proofs.Effects.{Granted, IsTaken, Leaves, Loads, Makes, Maps, NoFrame, Overflows, Places}
use Rattle.ideal_lane.proofs.Effects.{Refuses, Releases, Run, Same, Stays, Steps, Syncs, Tags, Touched, Touches}
use Rattle.ideal_lane.proofs.Effects.{Unloads}
use Rattle.ideal_lane.proofs.Effects.{Unmaps, Untags, Waits, Work, asked_in, asks, chunks_in, frames, map_in}
use Rattle.ideal_lane.proofs.Effects.{pages_in, place_in, spaces_in, waits_for, was_in}
use Rattle.ideal_lane.proofs.Endings.{fits}
use Rattle.ideal_lane.proofs.Stepping.{turn-steps}
use Rattle.ideal_wire.specs.Answered.{found_at}
use Rattle.ideal_wire.specs.Laid.{AreLaid, IsLaid, LiesIn}
use Rattle.ideal_wire.specs.Machine.{IsInMachine}
use Rattle.ideal_wire.specs.Mapped.{AreMapped, HasRun}
use Rattle.ideal_wire.specs.Spaced.{AreSpaced, IsSpaced}
use Rattle.ideal_wire.proofs.Obeys.AcceptedLaws as accepting
use Rattle.ideal_lane.specs.Sends.{copied}
use Rattle.ideal_lane.proofs.Effects.{Declines, Keeps, Resends}
use Rattle.ideal_wire.proofs.Loads.Begun.{Again, IsDone, Next, begun-bio}
use Rattle.ideal_wire.proofs.Faithful.CopiedClusters.{copied-laid, copied-machine, copied-mapped, copied-spaced}
use Rattle.ideal_wire.proofs.Obeys.DeviceLoads.{are-entries, device-accepted, device-bytes}
use Rattle.ideal_wire.proofs.Devices.KeptMapped.{IsDeviceLoad, IsHere, KeepsLoad, entered-keeps, left-keeps, left-none}
use Rattle.ideal_wire.proofs.Devices.KeptMapped.{one-mapped}
use Rattle.ideal_wire.proofs.Devices.KeptMapped.{same-space}
use Rattle.ideal_wire.proofs.Tags.KeptTags.{KeepsTags, cut-off, cut-there, keeps-put, new-tag, put-off, put-there}
use Rattle.ideal_wire.proofs.Tags.KeptTags.{says-in}
use Rattle.ideal_wire.proofs.Tags.KeptTags.{untagged}
use Rattle.ideal_wire.proofs.Faithful.Lent.{find_any}
use Rattle.ideal_wire.proofs.Laid.Positions.{found_one}

-- ---- segments

run-begins : (x n : ℕ) (bs : List ℕ) (a : ℕ) (rest : List ℕ) → 1 ≤ n → run_of x n ++ bs ≡ a ∷ rest → x ≡ a
run-begins x zero bs a rest some e = absurd (omega arith)
run-begins x (suc n) bs a rest some e = cc

run-some : (x n : ℕ) (bs : List ℕ) → 1 ≤ n → run_of x n ++ bs ≡ [] → ⊥
run-some x zero bs some e = absurd (omega arith)
run-some x (suc n) bs some e = cc

-- the first segment begins with the first byte
first-is : (t : TagLimits) (cs : List Chunk) (ss : List Segment) → EachAfter (IsObeying t cs) [] ss → 1 ≤ length ss →
    (a : ℕ) (rest : List ℕ) → segment_bytes ss ≡ a ∷ rest → first_of ss ≡ a / 4096
first-is t cs [] each some a rest e = absurd (omega (arith, some))
first-is t cs (s ∷ ss) each some a rest e =
    ap (λ x. x / 4096) (run-begins s.addr.0 s.len (segment_bytes ss) a rest each.0.some e)

-- segments have bytes
bytes-some : (t : TagLimits) (cs : List Chunk) (ss : List Segment) → EachAfter (IsObeying t cs) [] ss →
    1 ≤ length ss → segment_bytes ss ≡ [] → ⊥
bytes-some t cs [] each some e = absurd (omega (arith, some))
bytes-some t cs (s ∷ ss) each some e = run-some s.addr.0 s.len (segment_bytes ss) each.0.some e

no-frames : (fs : List ℕ) → length fs ≡ 0 → fs ≡ []
no-frames [] h = refl
no-frames (f ∷ fs) h = absurd (omega (arith, h))

none-carried : (find : ℕ → Option ℕ) (fs : List ℕ) → length fs ≡ 0 → Carries find 0 fs
none-carried find fs h i f a e it = absurd (let g = sym (ap (λ xs. slice_get xs i) (no-frames fs h)) ∙ e in cc)

emptied-off : (pages : List ℕ) → is_loaded (emptied pages) ≡ false
emptied-off [] = refl
emptied-off (p ∷ ps) = refl

returned-off : (b : Bool) → is_loaded (if b then Idle else Returning) ≡ false
returned-off true = refl
returned-off false = refl

some-frames : (n : ℕ) → (n == 0) ≡ false → 1 ≤ n
some-frames zero e = absurd (cc)
some-frames (suc n) e = omega arith

module _ (l : LaneState) (stands : Stands l) (laid : AreLaid l) (machine : IsInMachine l) (spaced : AreSpaced l)
    (mapped : AreMapped l) where
  abbrev at : ℕ → LaneState → List ℕ
  at n k = addresses_of (loan_of k.loans n).positions

  -- the tag of a map is an IOMMU tag, whose space is in order
  tagged : (m : ℕ) (o : LaneMap) → get l.maps m ≡ Some o → is_device l o ≡ true →
      IsSpaced (limits_of l o) (l.spaces o.tag)
  tagged m o there device =
      let st = stands.each m o there in
      subst (λ q. IsSpaced q (l.spaces o.tag))
      (sym (ap (λ q. unwrap_or (option_map (λ (g : LaneTag). g.limits) q) no_limits) st.there))
      (spaced.each o.tag st.tag st.there
      (sym (ap (λ q. option_map_or (λ (g : LaneTag). g.device) q false) st.there) ∙ device))

  -- the run of another load
  had-run : (n : ℕ) (q : LaneMap) → get l.maps n ≡ Some q → IsDeviceLoad l q → 1 ≤ length (segments_in q.stage) →
      HasRun (l.spaces q.tag) (segments_in q.stage)
  had-run n q there load = (mapped.each n q there load.0 load.1).run

  abbrev SameSpaces : LaneState → ℕ → Type 0
  SameSpaces k m = (n : ℕ) (o : LaneMap) → n ≢ m → get l.maps n ≡ Some o → IsDeviceLoad l o →
      KeepsLoad (l.spaces o.tag) (k.spaces o.tag) (segments_in o.stage)

  stay : (k : LaneState) (m : ℕ) → k.spaces ≡ l.spaces → SameSpaces k m
  stay k m same n o off there load =
      same-space (l.spaces o.tag) (k.spaces o.tag) (segments_in o.stage) (had-run n o there load) (λ i. same i o.tag)

  -- ---- what no load of an IOMMU tag's map begins or ends with

  none-changed : (k : LaneState) → KeepsTags l k → k.maps ≡ l.maps → ((n : ℕ) → at n k ≡ at n l) →
      SameSpaces k l.place → AreMapped k
  none-changed k tags maps bytes spaces =
      one-mapped l k mapped l.place tags (λ n off i. get (maps i) n) (λ n off. bytes n) spaces (λ o there load.
      let none : get l.maps l.place ≡ None = stands.no_map l.place (omega arith) in
      let some : get l.maps l.place ≡ Some o = sym (λ i. get (maps i) l.place) ∙ there in
      absurd (cc))

  alike : (k : LaneState) → k.tags ≡ l.tags → k.maps ≡ l.maps → k.loans ≡ l.loans → k.spaces ≡ l.spaces → AreMapped k
  alike k tags maps loans same =
      none-changed k (λ n o e i. says-in (get (tags i) o.tag)) maps
      (λ n i. addresses_of (loan_of (loans i) n).positions) (stay k l.place same)

  put : (k : LaneState) → KeepsTags l k → (m : ℕ) (x : LaneMap) → k.maps ≡ insert l.maps m x →
      ((n : ℕ) → n ≢ m → at n k ≡ at n l) → SameSpaces k m → (IsDeviceLoad k x → ⊥) → AreMapped k
  put k tags m x maps bytes spaces none =
      one-mapped l k mapped m tags (λ n off. (λ i. get (maps i) n) ∙ put-off l.maps m n x off) bytes spaces
      (λ o there load.
      let same : x ≡ o = found_one (get k.maps m) x o ((λ i. get (maps i) m) ∙ put-there l.maps m x) there in
      absurd (none (subst (IsDeviceLoad k) (sym same) load)))

  unloaded : (k : LaneState) (x : LaneMap) → is_loaded x.stage ≡ false → IsDeviceLoad k x → ⊥
  unloaded k x off load = false≢true (sym off ∙ load.1)

  cut : (k : LaneState) → k.tags ≡ l.tags → (m : ℕ) → k.maps ≡ remove l.maps m → k.loans ≡ l.loans →
      k.spaces ≡ l.spaces → AreMapped k
  cut k tags m maps loans same =
      one-mapped l k mapped m (λ n o e i. says-in (get (tags i) o.tag))
      (λ n off. (λ i. get (maps i) n) ∙ cut-off l.maps m n off)
      (λ n off i. addresses_of (loan_of (loans i) n).positions) (stay k m same) (λ o there load.
      let none : None ≡ Some o = sym ((λ i. get (maps i) m) ∙ cut-there l.maps m) ∙ there in absurd (cc))

  -- a tag without maps goes
  untag : (t : ℕ) → has_maps l t ≡ false →
      AreMapped (record l { tags = remove l.tags t; spaces = with_space t no_space l.spaces })
  untag t none =
      none-changed _ (untagged l t none) refl (λ n. refl) (λ n o off there load.
      same-space (l.spaces o.tag) (with_space t no_space l.spaces o.tag) (segments_in o.stage) (had-run n o there load)
      (by n o there (o.tag == t) refl))
    where
      by : (n : ℕ) (o : LaneMap) → get l.maps n ≡ Some o → (b : Bool) → (o.tag == t) ≡ b →
          (if b then no_space else l.spaces o.tag) ≡ l.spaces o.tag
      by n o there true e =
          absurd
          (false≢true
          (sym none ∙ find_any (λ y. y.1.tag == t) (entries l.maps) n o (sym (get-entries l.maps n) ∙ there) e))
      by n o there false e = refl

  -- ---- the end of a load
  unload : (m : ℕ) (o : LaneMap) → get l.maps m ≡ Some o → is_loaded o.stage ≡ true →
      AreMapped (unmapped o (unpaged m o (pages_of o.stage) (loan_forgotten m l)))
  unload m o there on =
      put after (λ n x e. refl) m (record o { tried = true; stage = emptied (pages_of o.stage) }) refl
      (λ n off. ap (λ y. addresses_of (unwrap_or y no_loan).positions) (cut-off l.loans m n off)) spaces
      (unloaded after (record o { tried = true; stage = emptied (pages_of o.stage) }) (emptied-off (pages_of o.stage)))
    where
      after : LaneState
      after = unmapped o (unpaged m o (pages_of o.stage) (loan_forgotten m l))

      first : ℕ
      first = first_of (segments_in o.stage)

      -- the run of another load of the tag stays
      others : (n : ℕ) (q : LaneMap) → n ≢ m → get l.maps n ≡ Some q → IsDeviceLoad l q → q.tag ≡ o.tag →
          (ss : List Segment) → segments_in o.stage ≡ ss →
          KeepsLoad (l.spaces o.tag) (run_unmapped (first_of ss) (l.spaces o.tag)) (segments_in q.stage)
      others n q off at load same [] e =
          same-space (l.spaces o.tag) (run_unmapped 0 (l.spaces o.tag)) (segments_in q.stage)
          (subst (λ t. 1 ≤ length (segments_in q.stage) → HasRun (l.spaces t) (segments_in q.stage)) same
          (had-run n q at load))
          (left-none (l.spaces o.tag) (tagged m o there device).runs)
        where
          device : is_device l o ≡ true
          device = ap (λ t. option_map_or (λ (x : LaneTag). x.device) (get l.tags t) false) (sym same) ∙ load.0
      others n q off at load same (x ∷ xs) e =
          left-keeps (l.spaces o.tag) (first_of (x ∷ xs)) (tagged m o there device).runs run.run run.live
          (sym run.first ∙ ap first_of e) (segments_in q.stage)
          (subst (λ t. 1 ≤ length (segments_in q.stage) → HasRun (l.spaces t) (segments_in q.stage)) same
          (had-run n q at load))
          (λ some equal. off (mapped.alone n m q o at there load.0 same some has (equal ∙ sym (ap first_of e))))
        where
          device : is_device l o ≡ true
          device = ap (λ t. option_map_or (λ (x : LaneTag). x.device) (get l.tags t) false) (sym same) ∙ load.0

          has : 1 ≤ length (segments_in o.stage)
          has = subst (λ ss. 1 ≤ length ss) (sym e) (omega arith)

          run : HasRun (l.spaces o.tag) (segments_in o.stage)
          run = had-run m o there (device, on) has

      by : (n : ℕ) (q : LaneMap) → n ≢ m → get l.maps n ≡ Some q → IsDeviceLoad l q → (b : Bool) →
          (q.tag == o.tag) ≡ b → KeepsLoad (l.spaces q.tag)
          (if b then run_unmapped first (l.spaces o.tag) else l.spaces q.tag) (segments_in q.stage)
      by n q off at load true e =
          let same : q.tag ≡ o.tag = eqb-true q.tag o.tag e in
          subst (λ t. KeepsLoad (l.spaces t) (run_unmapped first (l.spaces o.tag)) (segments_in q.stage)) (sym same)
          (others n q off at load same (segments_in o.stage) refl)
      by n q off at load false e =
          same-space (l.spaces q.tag) (l.spaces q.tag) (segments_in q.stage) (had-run n q at load) refl

      spaces : SameSpaces after m
      spaces n q off at load = by n q off at load (q.tag == o.tag) refl

  -- ---- a load of an IOMMU tag's map
  module _ {d : Work} (b : Begins l d) (next : IsDone l d) (device : is_device l b.o ≡ true) where
    abbrev es : List Entry
    es = load_entries l b.bio

    is-bio : IsBioOf l.pages b.bio
    is-bio = begun-bio l machine b next

    abbrev t : TagLimits
    t = limits_of l b.o

    abbrev s : Space
    s = l.spaces b.o.tag

    tag-spaced : IsSpaced t s
    tag-spaced = tagged b.m b.o b.there device

    module _ (first : ℕ) (find : ℕ → Option ℕ) (carries : Carries find first (load_frames es))
        (low : 4096 * (first + length (load_frames es)) ≤ t.lowaddr.0 + 1)
        (few : nat_le (length (accepting.segments l b.m b.o l.place (asks b) (device_chunks first 0 es) [])) t.nsegments
        ≡ true) where
      abbrev cs : List Chunk
      cs = device_chunks first 0 es

      abbrev ss : List Segment
      ss = accepting.segments l b.m b.o l.place (asks b) cs []

      accepted : Rattle.ideal_wire.specs.Accepted.IsAcceptedLoad
          (accepting.fits l b.m b.o l.place (asks b) cs []) b.m find t
          (Rattle.ideal_lane.specs.Loads.load_addresses l b.bio) cs [] ss
      accepted =
          device-accepted l laid machine stands b.m b.o b.there b.bio is-bio l.place (never_waits b.buffer b.flags)
          b.items b.fine tag-spaced.alignment tag-spaced.flags first find carries low few

      are-bytes : segment_bytes ss ≡ bus_trace cs
      are-bytes =
          device-bytes l laid machine stands b.m b.o b.there b.bio is-bio l.place (never_waits b.buffer b.flags)
          b.items b.fine tag-spaced.alignment tag-spaced.flags first find carries low

      entries-are : AllByRecursion Rattle.busdma_machine.specs.Machine.Entry.IsEntry es
      entries-are =
          are-entries l laid machine stands b.m b.o b.there b.bio is-bio l.place (never_waits b.buffer b.flags)
          b.items b.fine tag-spaced.alignment tag-spaced.flags first find carries low

      -- a load that touches no frame has no segment
      no-segment : length (load_frames es) ≡ 0 → 1 ≤ length ss → ⊥
      no-segment none some =
          bytes-some t _ ss accepted.obeys.each some (are-bytes ∙ device-none first 0 es none)

      -- the run of one that touches frames
      abbrev new : DeviceRun
      new = record { first = first; frames = load_frames es }

      begins-there : 1 ≤ length (load_frames es) → 1 ≤ length ss → first_of ss ≡ first
      begins-there any some =
          let begins = device-first first 0 es entries-are any in
          first-is t _ ss accepted.obeys.each some begins.first begins.rest (are-bytes ∙ begins.are) ∙ begins.lies

      run-of-load : (space : Space) → Contains space.runs new → 1 ≤ length (load_frames es) → 1 ≤ length ss →
          HasRun space ss
      run-of-load space live any some =
          record {
            run = new;
            live = live;
            first = begins-there any some;
            within =
                subst (AllByRecursion (λ a. has_page (a / 4096) new ≡ true)) (sym are-bytes)
                (device-within (λ a. has_page (a / 4096) new ≡ true) first 0
                (4096 * (first + length (load_frames es))) es entries-are (omega arith) (λ a g h.
                rw (le-leb first (a / 4096) (omega (arith, g))) (lt-ltb (a / 4096) (run_end new) (omega (arith, h)))));
          }

      -- the map with its load
      abbrev with-load : LaneMap
      with-load = record b.o {
        tried = true;
        stage = Loaded
            (Rattle.busdma_rules.specs.Segments.Chunks.bounced_of
            (Rattle.busdma_rules.specs.Segments.Building.tag_placed t cs
            (Rattle.busdma_machine.specs.Bounce.AccountStep.as_pages [])))
            ss [];
      }

      begun : (k : LaneState) → k.tags ≡ l.tags → k.maps ≡ insert l.maps b.m with-load →
          ((n : ℕ) → n ≢ b.m → at n k ≡ at n l) → (spaces : SameSpaces k b.m) →
          map find (segment_bytes ss) ≡ map (translated (k.spaces b.o.tag)) (segment_bytes ss) →
          traces_of k b.m ≡ traces_of (accepting.fits l b.m b.o l.place (asks b) cs []) b.m →
          (1 ≤ length ss → HasRun (k.spaces b.o.tag) ss) →
          ((n : ℕ) (q : LaneMap) → n ≢ b.m → get l.maps n ≡ Some q → IsDeviceLoad l q → q.tag ≡ b.o.tag →
          1 ≤ length ss → 1 ≤ length (segments_in q.stage) → first_of ss ≢ first_of (segments_in q.stage)) →
          AreMapped k
      begun k tags maps bytes spaces finds traces run alone =
          one-mapped l k mapped b.m (λ n o e i. says-in (get (tags i) o.tag))
          (λ n off. (λ i. get (maps i) n) ∙ put-off l.maps b.m n with-load off) bytes spaces (λ o there load.
          let same : with-load ≡ o =
          found_one (get k.maps b.m) with-load o ((λ i. get (maps i) b.m) ∙ put-there l.maps b.m with-load) there in
          subst (IsHere l k mapped b.m (λ n o e i. says-in (get (tags i) o.tag))
          (λ n off. (λ i. get (maps i) n) ∙ put-off l.maps b.m n with-load off) bytes spaces) same (record {
            mapped = record {
              run = run;
              found = sym finds ∙ accepted.trace ∙ ap (λ ts. map (λ a. Some a) (buses ts)) (sym traces);
            };
            alone = alone;
          }))

    -- what it lends is another loan
    abbrev loan : Loan
    loan = new_loan (is_coherent (get l.mems b.m)) (entries_addresses (asks b).entries)

    lent-off : (n : ℕ) → n ≢ b.m →
        addresses_of (loan_of (insert l.loans b.m loan) n).positions ≡ addresses_of (loan_of l.loans n).positions
    lent-off n off = ap (λ y. addresses_of (unwrap_or y no_loan).positions) (put-off l.loans b.m n loan off)

    abbrev fitted : ℕ → LaneState
    fitted first = accepting.fits l b.m b.o l.place (asks b) (device_chunks first 0 es) []

    abbrev are-few : ℕ → Bool
    are-few first =
        nat_le (length (accepting.segments l b.m b.o l.place (asks b) (device_chunks first 0 es) [])) t.nsegments

    device-mapped : (first : ℕ) (spaces : ℕ → Space) → IsTaken b first spaces → are-few first ≡ true →
        AreMapped (record (fitted first) { spaces = spaces })
    device-mapped _ _ (NoFrame none) few =
        let zero : length (load_frames es) ≡ 0 = eqb-true (length (load_frames es)) 0 none in
        let find : ℕ → Option ℕ = translated s in
        let carries : Carries find 0 (load_frames es) = none-carried find (load_frames es) zero in
        begun 0 find carries (omega (arith, zero)) few (record (fitted 0) { spaces = l.spaces }) refl refl lent-off
        (stay (record (fitted 0) { spaces = l.spaces }) b.m refl) refl refl
        (λ some. absurd (no-segment 0 find carries (omega (arith, zero)) few zero some))
        (λ n q off at load same some any e. no-segment 0 find carries (omega (arith, zero)) few zero some)
    device-mapped _ _ (Run any first e) few =
        begun first find carries low few after refl refl lent-off spaces-stay
        (ap (λ x. map (translated x) (segment_bytes (ss first find carries low few))) (sym own-space)) refl
        (λ has. run-of-load first find carries low few (after.spaces b.o.tag)
        (subst (λ x. Contains x.runs run) (sym own-space) (put-in run s.runs)) some has) alone
      where
        fs : List ℕ
        fs = load_frames es

        some : 1 ≤ length fs
        some = some-frames (length fs) any

        run : DeviceRun
        run = record { first = first; frames = fs }

        find : ℕ → Option ℕ
        find = translated (entered (Some first) fs s)

        carries : Carries find first fs
        carries = entered-carries s fs first tag-spaced.runs some e

        low : 4096 * (first + length fs) ≤ t.lowaddr.0 + 1
        low = omega (arith, tag-spaced.reached, taken-fits s (length fs) first tag-spaced.runs some e)

        after : LaneState
        after = record (fitted first) {
          spaces = with_run (are_few t (device_chunks first 0 es)) b.o.tag first fs l.spaces;
        }

        own-space : after.spaces b.o.tag ≡ entered (Some first) fs s
        own-space =
            ap (λ v. if v && b.o.tag == b.o.tag then entered (Some first) fs s else s) few
            ∙ ap (λ v. if true && v then entered (Some first) fs s else s) (eq-eqb b.o.tag b.o.tag refl)

        spaces-stay : SameSpaces after b.m
        spaces-stay n q off at load =
            subst (λ x. KeepsLoad (l.spaces q.tag) x (segments_in q.stage))
            (sym (ap (λ v. if v && q.tag == b.o.tag then entered (Some first) fs (l.spaces q.tag) else l.spaces q.tag)
            few)) (by (q.tag == b.o.tag) refl)
          where
            by : (v : Bool) → (q.tag == b.o.tag) ≡ v → KeepsLoad (l.spaces q.tag)
                (if v then entered (Some first) fs (l.spaces q.tag) else l.spaces q.tag) (segments_in q.stage)
            by false g =
                same-space (l.spaces q.tag) (l.spaces q.tag) (segments_in q.stage) (had-run n q at load) refl
            by true g =
                let same : q.tag ≡ b.o.tag = eqb-true q.tag b.o.tag g in
                subst (λ k. KeepsLoad (l.spaces k) (entered (Some first) fs (l.spaces k)) (segments_in q.stage))
                (sym same)
                (entered-keeps s fs first tag-spaced.runs some e (segments_in q.stage)
                (subst (λ k. 1 ≤ length (segments_in q.stage) → HasRun (l.spaces k) (segments_in q.stage)) same
                (had-run n q at load)))

        -- a live run that began there would have its page
        alone : (n : ℕ) (q : LaneMap) → n ≢ b.m → get l.maps n ≡ Some q → IsDeviceLoad l q → q.tag ≡ b.o.tag →
            1 ≤ length (ss first find carries low few) → 1 ≤ length (segments_in q.stage) →
            first_of (ss first find carries low few) ≢ first_of (segments_in q.stage)
        alone n q off there load same has more equal =
            let old : HasRun s (segments_in q.stage) =
            subst (λ k. HasRun (l.spaces k) (segments_in q.stage)) same (had-run n q there load more) in
            let begins : old.run.first ≡ first =
            sym old.first ∙ sym equal ∙ begins-there first find carries low few some has in
            let long : 1 ≤ length old.run.frames = (live-is 1 s.pages s.runs old.run tag-spaced.runs old.live).1 in
            let off-new : has_page first old.run ≡ false =
            gap-new 1 s.pages (length fs) first run old.run s.runs tag-spaced.runs some
            (taken-gap s (length fs) first tag-spaced.runs some e) refl old.live
            (rw (le-leb first first (omega arith)) (lt-ltb first (run_end run) (omega (arith, some)))) in
            let on-old : has_page first old.run ≡ true =
            rw (le-leb old.run.first first (omega (arith, begins)))
            (lt-ltb first (run_end old.run) (omega (arith, begins, long))) in
            false≢true (sym off-new ∙ on-old)

  -- ---- each effect
  abbrev old-limits : (k : LaneState) → k.tags ≡ l.tags → KeepsTags l k
  old-limits k tags n o e = λ i. says-in (get (tags i) o.tag)

  pub touches-mapped : {d : Work} {x : Outcome} → Touches l d x → AreMapped x.lane
  touches-mapped (Same a q u) = mapped
  touches-mapped {x = x} (Syncs m off len ops is o there i alone fine) =
      none-changed x.lane (λ n o e. refl) refl (addresses_of-synced l.loans m off len ops) (stay x.lane l.place refl)
  touches-mapped {x = x} _ = alike x.lane refl refl refl refl

  -- a map that waits has a zone, and so is none of an IOMMU tag
  waits-plain : (m : ℕ) (o : LaneMap) → get l.maps m ≡ Some o → (v : WaitingLoad) → o.stage ≡ Waiting v →
      is_device l o ≡ false
  waits-plain m o there v is =
      let st = stands.each m o there in
      ap (λ q. option_map_or (λ (g : LaneTag). g.device) q false) st.there ∙ by st.tag.device st.device st.pageless
    where
      by : (b : Bool) → (b ≡ true → o.zone ≡ None) → (o.zone ≡ None → IsPageless o.stage) → b ≡ false
      by false h p = refl
      by true h p = absurd (subst IsPageless is (p (h refl)))

  -- a load of another map
  plain-loads : {d : Work} {c : Option HubCall} {r : HubReply} (k : Ends l d c r) → is_device l (was_in k) ≡ false →
      (spaces : ℕ → Space) → spaces ≡ l.spaces →
      AreMapped (record (accepting.fits l (map_in k) (was_in k) (place_in k) (asked_in k) (chunks_in k) (pages_in k)) {
        spaces = spaces;
      })
  plain-loads k plain spaces same =
      put (record after { spaces = spaces }) (λ n o e. refl) (map_in k) _ refl
      (λ n off. ap (λ y. addresses_of (unwrap_or y no_loan).positions) (put-off l.loans (map_in k) n _ off))
      (stay (record after { spaces = spaces }) (map_in k) same) (λ load. false≢true (sym plain ∙ load.0))
    where
      after : LaneState
      after = accepting.fits l (map_in k) (was_in k) (place_in k) (asked_in k) (chunks_in k) (pages_in k)

  loads-mapped : {d : Work} {c : Option HubCall} {r : HubReply} → IsDone l d → (k : Ends l d c r) →
      fits l (map_in k) (was_in k) (place_in k) (asked_in k) (chunks_in k) (pages_in k) ≡ true →
      AreMapped (record (accepting.fits l (map_in k) (was_in k) (place_in k) (asked_in k) (chunks_in k) (pages_in k)) {
        spaces = spaces_in k;
      })
  loads-mapped {r = r} next (AtOnce b plain none) f = plain-loads {r = r} (AtOnce b plain none) plain l.spaces refl
  loads-mapped next (Granted b plain some pages) f = plain-loads (Granted b plain some pages) plain l.spaces refl
  loads-mapped next (Called m pages o v there waits) f =
      plain-loads (Called m pages o v there waits) (waits-plain m.made_at o there v waits) l.spaces refl
  loads-mapped next (Device b device first spaces taken) f = device-mapped b next device first spaces taken f

  -- a load that has too many segments leaves each space
  many-spaces : {d : Work} {c : Option HubCall} {r : HubReply} (k : Ends l d c r) →
      fits l (map_in k) (was_in k) (place_in k) (asked_in k) (chunks_in k) (pages_in k) ≡ false →
      spaces_in k ≡ l.spaces
  many-spaces (AtOnce b plain none) f = refl
  many-spaces (Granted b plain some pages) f = refl
  many-spaces (Called m pages o v there waits) f = refl
  many-spaces (Device b device _ _ (NoFrame none)) f = refl
  many-spaces (Device b device _ _ (Run any first e)) f =
      λ i k. if f i && k == b.o.tag then entered (Some first) (frames b) (l.spaces k) else l.spaces k

  abbrev idle-map : ℕ → Option ℕ → LaneMap
  idle-map t zone = record { tag = t; zone = zone; tried = false; stage = Idle }

  with-tag : (t : TagLimits) (done : Bool) → AreMapped (with_tag l.place t done l)
  with-tag t done =
      none-changed (with_tag l.place t done l)
      (keeps-put l stands (with_tag l.place t done l) l.place (record { limits = t; first_done = done; device = false })
      refl
      (λ g e. new-tag l stands g e)) refl (λ n. refl) (stay (with_tag l.place t done l) l.place refl)

  -- no load is in the space of a new tag
  iommu-tag : (t : TagLimits) → AreMapped (with_device_tag t l)
  iommu-tag t =
      none-changed (with_device_tag t l)
      (keeps-put l stands (with_device_tag t l) l.place (record { limits = t; first_done = false; device = true }) refl
      (λ g e. new-tag l stands g e)) refl (λ n. refl) (λ n o off there load.
      same-space (l.spaces o.tag) ((with_device_tag t l).spaces o.tag) (segments_in o.stage) (had-run n o there load)
      (by n o there (o.tag == l.place) refl))
    where
      by : (n : ℕ) (o : LaneMap) → get l.maps n ≡ Some o → (b : Bool) → (o.tag == l.place) ≡ b →
          (if b then record { pages = (t.lowaddr.0 + 1) / 4096; runs = [] } else l.spaces o.tag) ≡ l.spaces o.tag
      by n o there true e =
          let st = stands.each n o there in
          new-tag l stands st.tag (ap (get l.tags) (sym (eqb-true o.tag l.place e)) ∙ st.there)
      by n o there false e = refl

  created : (t : ℕ) (g : LaneTag) → get l.tags t ≡ Some g → g.device ≡ false → (z : ℕ) →
      AreMapped (with_tag t g.limits true (with_map t (Some z) l))
  created t g there plain z =
      put made
      (keeps-put l stands made t (record { limits = g.limits; first_done = true; device = false }) refl
      (λ x e. ap (λ (y : LaneTag). says-in (Some y)) (found_one (get l.tags t) x g e there)
      ∙ (λ i. (g.limits, plain i)))) l.place (idle-map t (Some z)) refl (λ n off. refl) (stay made l.place refl)
      (unloaded made (idle-map t (Some z)) refl)
    where
      made : LaneState
      made = with_tag t g.limits true (with_map t (Some z) l)

  makes-mapped : {d : Work} {c : Option HubCall} {r : HubReply} {x : Outcome} → IsDone l d → Makes l d c r x →
      AreMapped x.lane
  makes-mapped next (Touched t) = touches-mapped t
  makes-mapped next (Tags name parent limits t n) = with-tag t false
  makes-mapped next (Attaches name parent limits t n b g e) = with-tag t true
  makes-mapped next (Spaces name limits t e) = iommu-tag t
  makes-mapped next (Untags t none) = untag t none
  makes-mapped {x = x} next (Maps name t g there b) =
      put x.lane (λ n o e. refl) l.place (idle-map t None) refl (λ n off. refl) (stay x.lane l.place refl)
      (unloaded x.lane (idle-map t None) refl)
  makes-mapped next (Creates name t g there b n e) =
      created t g there (plain-tag g.device (and_parts (not g.device) _ b).0) n.zone.0
  makes-mapped {x = x} next (Unmaps m o e i) = cut x.lane refl m refl refl refl
  makes-mapped {x = x} next (Places name t flags g there first count) =
      put x.lane (λ n o e. refl) l.place (idle-map t None) refl (λ n off. refl) (stay x.lane l.place refl)
      (unloaded x.lane (idle-map t None) refl)
  makes-mapped {x = x} next (Frees m y there o found i) = cut x.lane refl m refl refl refl
  makes-mapped {x = x} next (Refuses b over e) =
      put x.lane (λ n o e. refl) b.m (record b.o { tried = true; stage = Idle }) refl (λ n off. refl)
      (stay x.lane b.m refl) (unloaded x.lane (record b.o { tried = true; stage = Idle }) refl)
  makes-mapped {x = x} next (Waits b plain some have) =
      put x.lane (λ n o e. refl) b.m (record b.o { tried = true; stage = Waiting (waits_for b) }) refl (λ n off. refl)
      (stay x.lane b.m refl) (unloaded x.lane (record b.o { tried = true; stage = Waiting (waits_for b) }) refl)
  makes-mapped next (Loads k f) = loads-mapped next k f
  makes-mapped {x = x} next (Overflows k f) =
      put x.lane (λ n o e. refl) (map_in k) (record (was_in k) { tried = true; stage = emptied (pages_in k) }) refl
      (λ n off. refl) (stay x.lane (map_in k) (many-spaces k f))
      (unloaded x.lane (record (was_in k) { tried = true; stage = emptied (pages_in k) }) (emptied-off (pages_in k)))
  makes-mapped next (Unloads m o there i) = unload m o there i
  makes-mapped {x = x} next _ = alike x.lane refl refl refl refl

-- ---- the turn
module _ (l : LaneState) (stands : Stands l) (laid : AreLaid l) (machine : IsInMachine l) (spaced : AreSpaced l)
    (mapped : AreMapped l) where
  moved : (k : LaneState) (place : ℕ) (due : Bool) → AreMapped k → AreMapped (record k { place = place; due = due })
  moved k place due h = record {
    each = λ m o e d g. let y = h.each m o e d g in record { run = y.run; found = y.found };
    alone = h.alone;
  }

  left-queue : (k : LaneState) (queue : List QueuedItem) → AreMapped k → AreMapped (record k { queue = queue })
  left-queue k queue h = record {
    each = λ m o e d g. let y = h.each m o e d g in record { run = y.run; found = y.found };
    alone = h.alone;
  }

  steps-mapped : {s : Side} {c : Option HubCall} {r : HubReply} {t : Turned} → Steps l s c r t → AreMapped t.lane
  steps-mapped (Stays t is) = mapped
  steps-mapped (Advances {x = x} o at free m) =
      moved x.lane (l.place + 1) false (makes-mapped l stands laid machine spaced mapped (Next at) m)
  steps-mapped (Keeps {x = x} o at free s is big held m) =
      moved x.lane x.lane.place true (makes-mapped l stands laid machine spaced mapped (Next at) m)
  steps-mapped {t = t} (Declines s now x why) = moved l (l.place + 1) false mapped
  steps-mapped (Resends {x = x} s now c told m) =
      moved x.lane (l.place + 1) false
      (makes-mapped (copied s l) stands (copied-laid l s laid) (copied-machine l s machine) (copied-spaced l s spaced)
      (copied-mapped l s mapped) (Again s) m)
  steps-mapped (Leaves {x = x} q rest is t) =
      left-queue x.lane rest (touches-mapped l stands laid machine spaced mapped t)
  steps-mapped {t = t} (Releases q rest is None there) =
      alike l stands laid machine spaced mapped t.lane refl refl refl refl
  steps-mapped {t = t} (Releases q rest is (Some o) there) =
      put l stands laid machine spaced mapped t.lane (λ n y e. refl) q.map
      (record o { stage = after_return q.map rest })
      refl (λ n off. refl)
      (stay l stands laid machine spaced mapped t.lane q.map refl)
      (unloaded l stands laid machine spaced mapped t.lane (record o { stage = after_return q.map rest })
      (returned-off (returning q.map rest == 0)))
  steps-mapped (Calls m pages k) = makes-mapped l stands laid machine spaced mapped (Next tt) k

  pub turn-mapped : (s : Side) (r : HubReply) → AreMapped (by_reply (lane_step l s) r).lane
  turn-mapped s r = steps-mapped (turn-steps l s r)

-- at the opening there is no map
pub opens-mapped : (id maxmem : ℕ) (driver : Driver) → AreMapped (opening_lane id maxmem driver)
opens-mapped id maxmem driver = record {
  each = λ m o e d g. nothing m o e;
  alone = λ m n o q e f d same some any first. nothing m o e;
}
  where
    nothing : {A : Type 0} (m : ℕ) (o : LaneMap) → get (opening_lane id maxmem driver).maps m ≡ Some o → A
    nothing m o e =
        let none : get (empty {X = LaneMap} {R = nat_cmp}) m ≡ None = get-empty nat_cmp m in absurd (cc)

-- the device of a loaded map finds under the bytes of the segments, in order, the bytes of the load
pub loads-found : (l : LaneState) → AreLaid l → AreMapped l → (m : ℕ) (o : LaneMap) → get l.maps m ≡ Some o →
    (bounced : List Chunk) (segments : List Segment) (pages : List ℕ) → o.stage ≡ Loaded bounced segments pages →
    map (found_at l o) (segment_bytes segments) ≡ map (λ a. Some a) (buses (traces_of l m))
loads-found l laid mapped m o there bounced segments pages is = by (is_device l o) refl
  where
    by : (b : Bool) → is_device l o ≡ b →
        map (found_at l o) (segment_bytes segments) ≡ map (λ a. Some a) (buses (traces_of l m))
    by true device =
        let h = mapped.each m o there device (ap is_loaded is) in
        (λ i. map (λ a. if device i then translated (l.spaces o.tag) a else Some a) (segment_bytes segments))
        ∙ ap (λ s. map (translated (l.spaces o.tag)) (segment_bytes (segments_in s))) (sym is) ∙ h.found
    by false plain =
        let h : IsLaid l m bounced segments pages = subst (LiesIn l m) (ap stage_in there ∙ is) (laid.each m) in
        (λ i. map (λ a. if plain i then translated (l.spaces o.tag) a else Some a) (segment_bytes segments))
        ∙ ap (map (λ a. Some a))
        (h.trace (ap (λ y. option_map_or (is_device l) y false) there ∙ plain))
