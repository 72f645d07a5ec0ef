-- After each turn each live run belongs to a load.
use Rattle.std.proofs.Common.{◌≡◌, ◌≢◌, ◌⊎◌, inl, inr, ℕ, zero, suc, ◌+◌, ◌<◌, ◌≤◌, ◌/◌, ◌==◌, ◌&&◌, Bool, true, false}
use Rattle.std.proofs.Common.{if◌then◌else◌, List, [], ◌∷◌, ◌++◌, length, map, Option, Some, None, slice_get, unwrap_or}
use Rattle.std.proofs.Common.{refl, sym, ap, ◌∙◌}
use Rattle.std.proofs.Common.{subst, arith, nat_le}
use Rattle.std.proofs.lemmas.Bool.{eq-eqb, eqb-true, false≢true}
use Rattle.std.specs.FinMap.{get, insert, remove}
use Rattle.std.specs.List.{AllByRecursion, Contains}
use Rattle.std.specs.Option.{option_map_or}
use Rattle.busdma_machine.specs.declared.bounce.hold.HubCall.{HubCall}
use Rattle.busdma_machine.specs.declared.bounce.hold.HubReply.{HubReply}
use Rattle.busdma_machine.specs.declared.machine.address.Extent.{Extent}
use Rattle.busdma_machine.specs.declared.machine.address.Segment.{Segment}
use Rattle.busdma_machine.specs.declared.machine.chunk.Chunk.{Chunk}
use Rattle.busdma_machine.specs.declared.machine.chunk.Entry.{Entry}
use Rattle.busdma_machine.specs.Machine.Entry.{IsEntry, entries_addresses, entry_addresses}
use Rattle.busdma_machine.specs.Machine.Spans.{bio_spans}
use Rattle.busdma_machine.specs.Machine.Wire.{buses}
use Rattle.busdma_machine.specs.Runs.{IsExtent, addresses, run_of}
use Rattle.busdma_rules.specs.Iommu.Device.{device_chunks, load_frames}
use Rattle.busdma_rules.specs.Iommu.Space.{DeviceRun, entered, run_unmapped, translated}
use Rattle.busdma_rules.specs.Lending.Loans.{addresses_of, loan_of, no_loan, new_loan, unlent_positions}
use Rattle.busdma_rules.specs.Memory.Bios.{is_rounded}
use Rattle.busdma_rules.specs.Segments.Segmentation.{segment_bytes}
use Rattle.busdma_rules.proofs.Iommu.Members.{live-is}
use Rattle.busdma_rules.proofs.Lending.Marking.{addresses_of-synced}
use Rattle.busdma_rules.proofs.Memory.Vectors.{entries_are}
use Rattle.ideal_lane.specs.Loads.{are_few, emptied, is_coherent, is_device, limits_of, load_translation, unpaged}
use Rattle.ideal_lane.specs.Loads.{with_run}
use Rattle.ideal_lane.specs.Loads.{with_spaces}
use Rattle.ideal_lane.specs.Outcomes.{Outcome, is_idle, is_loaded}
use Rattle.ideal_lane.specs.Standing.{Stands}
use Rattle.ideal_lane.specs.State.{LaneState, LaneMap, LaneTag, Stage, Idle, Waiting, Loaded, Returning}
use Rattle.ideal_lane.specs.Syncs.{bounced_in}
use Rattle.ideal_lane.specs.Unloads.{first_of, loan_forgotten, pages_of, segments_in, unmapped}
use Rattle.ideal_lane.proofs.Effects.{AtOnce, Begins, Called, Creates, Device, Ends, Frees, Granted, Loads, Makes, Maps}
use Rattle.ideal_lane.proofs.Effects.{NoFrame}
use Rattle.ideal_lane.proofs.Effects.{Overflows, Places, Refuses, Run, Same, Spaces, Syncs, Touched, Touches, Unloads}
use Rattle.ideal_lane.proofs.Effects.{Unmaps, Untags}
use Rattle.ideal_lane.proofs.Effects.{Waits, Work, asked_in, asks, chunks_in, frames, map_in, pages_in, place_in}
use Rattle.ideal_lane.proofs.Effects.{spaces_in, was_in}
use Rattle.ideal_lane.proofs.Endings.{fits, fitting, segments_of}
use Rattle.ideal_lane.proofs.Endings.{bounced_in as bounced_by}
use Rattle.ideal_wire.specs.Laid.{AreLaid}
use Rattle.ideal_wire.specs.Machine.{IsInMachine}
use Rattle.ideal_wire.specs.Mapped.{AreMapped, HasRun, IsMapped}
use Rattle.ideal_wire.specs.Spaced.{AreSpaced}
use Rattle.ideal_wire.specs.Traces.{placed_from, stage_at}
use Rattle.ideal_wire.proofs.Loads.Begun.{IsDone}
use Rattle.ideal_wire.proofs.Loads.Begun.{begun-bio}
use Rattle.ideal_wire.proofs.Loads.Bios.{bio-paged}
use Rattle.ideal_wire.proofs.Apart.PageTwins.{in-front}
use Rattle.ideal_wire.proofs.Tags.KeptTags.{cut-off, put-off, put-there}
use Rattle.ideal_wire.proofs.Laid.Positions.{found_one}
use Rattle.ideal_laws.specs.LoadRuns.{AreLoadRuns, IsFrameOf, IsLoadRun}
use Rattle.ideal_laws.proofs.LiveRuns.{in-none, put-cases, left-cases}

-- ---- the frames of a load

-- a frame has one of these bytes
record HasFrame (bytes : List ℕ) (f : ℕ) : Type 0 where
  place : ℕ
  byte : ℕ
  at : slice_get bytes place ≡ Some byte
  frame : byte / 4096 ≡ f

behind-all : (xs ys : List ℕ) (k : ℕ) → slice_get (xs ++ ys) (length xs + k) ≡ slice_get ys k
behind-all [] ys k = let e : 0 + k ≡ k = omega arith in ap (slice_get ys) e
behind-all (x ∷ xs) ys k =
    let e : suc (length xs) + k ≡ suc (length xs + k) = omega arith in
    ap (slice_get (x ∷ (xs ++ ys))) e ∙ behind-all xs ys k

frame-front : (xs ys : List ℕ) (f : ℕ) → HasFrame xs f → HasFrame (xs ++ ys) f
frame-front xs ys f h =
    record { place = h.place; byte = h.byte; at = in-front xs ys h.place h.byte h.at; frame = h.frame }

frame-behind : (xs ys : List ℕ) (f : ℕ) → HasFrame ys f → HasFrame (xs ++ ys) f
frame-behind xs ys f h =
    record { place = length xs + h.place; byte = h.byte; at = behind-all xs ys h.place ∙ h.at; frame = h.frame }

run-begins : (a n : ℕ) → 0 < n → slice_get (run_of a n) 0 ≡ Some a
run-begins a zero some = absurd (omega (arith, some))
run-begins a (suc n) some = refl

extents-frame : (xs : List Extent) (n f : ℕ) → AllByRecursion IsExtent xs →
    slice_get (map (λ (x : Extent). x.pa.0 / 4096) xs) n ≡ Some f → HasFrame (addresses xs) f
extents-frame [] n f all e = absurd (cc)
extents-frame (x ∷ xs) zero f all e =
    frame-front (run_of x.pa.0 x.len) (addresses xs) f (record {
      place = 0;
      byte = x.pa.0;
      at = run-begins x.pa.0 x.len all.0.some;
      frame = found_one (Some (x.pa.0 / 4096)) (x.pa.0 / 4096) f refl e;
    })
extents-frame (x ∷ xs) (suc n) f all e =
    frame-behind (run_of x.pa.0 x.len) (addresses xs) f (extents-frame xs n f all.1 e)

two-parts : (xs ys : List ℕ) (n f : ℕ) → slice_get (xs ++ ys) n ≡ Some f →
    (slice_get xs n ≡ Some f) ⊎ ((k : ℕ) × (slice_get ys k ≡ Some f))
two-parts [] ys n f e = inr (n, e)
two-parts (x ∷ xs) ys zero f e = inl e
two-parts (x ∷ xs) ys (suc n) f e = two-parts xs ys n f e

entries-frame : (es : List Entry) (n f : ℕ) → AllByRecursion IsEntry es → slice_get (load_frames es) n ≡ Some f →
    HasFrame (entries_addresses es) f
entries-frame [] n f all e = absurd (cc)
entries-frame (x ∷ es) n f all e =
    by (two-parts (map (λ (y : Extent). y.pa.0 / 4096) x.parts) (load_frames es) n f e)
    (λ k h. entries-frame es k f all.1 h)
  where
    by : (slice_get (map (λ (y : Extent). y.pa.0 / 4096) x.parts) n ≡ Some f)
        ⊎ ((k : ℕ) × (slice_get (load_frames es) k ≡ Some f)) →
        ((k : ℕ) → slice_get (load_frames es) k ≡ Some f → HasFrame (entries_addresses es) f) →
        HasFrame (entries_addresses (x ∷ es)) f
    by (inl h) rest =
        frame-front (entry_addresses x) (entries_addresses es) f (extents-frame x.parts n f all.0.extents h)
    by (inr h) rest = frame-behind (entry_addresses x) (entries_addresses es) f (rest h.0 h.1)

unlent-same : (bs : List ℕ) → addresses_of (unlent_positions bs) ≡ bs
unlent-same [] = refl
unlent-same (b ∷ bs) = ap (λ xs. b ∷ xs) (unlent-same bs)

-- ---- loads that stay

abbrev pub at : ℕ → LaneState → List ℕ
at n k = addresses_of (loan_of k.loans n).positions

module _ (l l' : LaneState) (m : ℕ)
    (maps : (n : ℕ) (o : LaneMap) → n ≢ m → get l.maps n ≡ Some o → get l'.maps n ≡ Some o)
    (bytes : (n : ℕ) → n ≢ m → at n l' ≡ at n l) where
  -- the run of another map's load still belongs to it
  stays-load : (t : ℕ) (run : DeviceRun) (u : IsLoadRun l t run) → u.map ≢ m → IsLoadRun l' t run
  stays-load t run u off = record {
    map = u.map;
    own = u.own;
    there = maps u.map u.own off u.there;
    tag = u.tag;
    loaded = u.loaded;
    first = u.first;
    frames = λ k f e. let h = u.frames k f e in record {
      place = h.place;
      byte = h.byte;
      at = ap (λ bs. slice_get bs h.place) (bytes u.map off) ∙ h.at;
      frame = h.frame;
    };
  }

-- a driver with the same maps, loans and spaces has the same
pub same-loads : (l l' : LaneState) → l'.maps ≡ l.maps → l'.loans ≡ l.loans → l'.spaces ≡ l.spaces → AreLoadRuns l →
    AreLoadRuns l'
same-loads l l' maps loans spaces used t run live =
    let u = used t run (subst (λ s. Contains (s t).runs run) spaces live) in record {
      map = u.map;
      own = u.own;
      there = ap (λ ms. get ms u.map) maps ∙ u.there;
      tag = u.tag;
      loaded = u.loaded;
      first = u.first;
      frames = λ k f e. let h = u.frames k f e in record {
        place = h.place;
        byte = h.byte;
        at = ap (λ loans. slice_get (addresses_of (loan_of loans u.map).positions) h.place) loans ∙ h.at;
        frame = h.frame;
      };
    }

idle-off : (s : Stage) → is_idle s ≡ true → is_loaded s ≡ false
idle-off Idle i = refl
idle-off (Waiting w) i = refl
idle-off (Loaded bounced segments pages) i = absurd (cc)
idle-off Returning i = refl

module _ (l : LaneState) (stands : Stands l) (used : AreLoadRuns l) where
  -- no load of a map that is not loaded has a run
  abbrev pub IsUnloaded : ℕ → Type 0
  IsUnloaded m = (o : LaneMap) → get l.maps m ≡ Some o → is_loaded o.stage ≡ false

  not-here : (m : ℕ) → IsUnloaded m → (t : ℕ) (run : DeviceRun) (u : IsLoadRun l t run) → u.map ≢ m
  not-here m off t run u e = false≢true (sym (off u.own (ap (get l.maps) (sym e) ∙ u.there)) ∙ u.loaded)

  pub unloaded-there : (m : ℕ) (o : LaneMap) → get l.maps m ≡ Some o → is_loaded o.stage ≡ false → IsUnloaded m
  unloaded-there m o there off q e =
      ap (λ (x : LaneMap). is_loaded x.stage) (found_one (get l.maps m) q o e there) ∙ off

  none-new : IsUnloaded l.place
  none-new o e = let none : None ≡ Some o = sym (stands.no_map l.place (omega arith)) ∙ e in absurd (cc)

  -- a map that was not loaded changes, and no run comes
  abbrev pub NoneComes : LaneState → Type 0
  NoneComes l' = (t : ℕ) (run : DeviceRun) → Contains (l'.spaces t).runs run → Contains (l.spaces t).runs run

  pub same-runs : (l' : LaneState) → l'.spaces ≡ l.spaces → NoneComes l'
  same-runs l' same t run live = subst (λ s. Contains (s t).runs run) same live

  changes : (l' : LaneState) (m : ℕ) →
      ((n : ℕ) (o : LaneMap) → n ≢ m → get l.maps n ≡ Some o → get l'.maps n ≡ Some o) →
      ((n : ℕ) → n ≢ m → at n l' ≡ at n l) → IsUnloaded m → NoneComes l' → AreLoadRuns l'
  changes l' m maps bytes off runs t run live =
      let u = used t run (runs t run live) in
      stays-load l l' m maps bytes t run u (not-here m off t run u)

  pub puts : (l' : LaneState) (m : ℕ) (x : LaneMap) → l'.maps ≡ insert l.maps m x →
      ((n : ℕ) → n ≢ m → at n l' ≡ at n l) →
      IsUnloaded m → NoneComes l' → AreLoadRuns l'
  puts l' m x maps bytes off runs =
      changes l' m (λ n o ne e. ap (λ ms. get ms n) maps ∙ put-off l.maps m n x ne ∙ e) bytes off runs

  cuts : (l' : LaneState) (m : ℕ) → l'.maps ≡ remove l.maps m → l'.loans ≡ l.loans → l'.spaces ≡ l.spaces →
      IsUnloaded m → AreLoadRuns l'
  cuts l' m maps loans spaces off =
      changes l' m (λ n o ne e. ap (λ ms. get ms n) maps ∙ cut-off l.maps m n ne ∙ e)
      (λ n ne. ap (λ loans. addresses_of (loan_of loans n).positions) loans) off (same-runs l' spaces)

  -- the maps stay
  alike : (l' : LaneState) → l'.maps ≡ l.maps → ((n : ℕ) → at n l' ≡ at n l) → NoneComes l' → AreLoadRuns l'
  alike l' maps bytes runs =
      changes l' l.place (λ n o ne e. ap (λ ms. get ms n) maps ∙ e) (λ n ne. bytes n) none-new runs

  -- ---- the end of a load
  module _ (m : ℕ) (o : LaneMap) (there : get l.maps m ≡ Some o) where
    abbrev ended : LaneState
    ended = unmapped o (unpaged m o (pages_of o.stage) (loan_forgotten m l))

    abbrev first : ℕ
    first = first_of (segments_in o.stage)

    -- another load's run stays
    of-another : (t : ℕ) (run : DeviceRun) (u : IsLoadRun l t run) → u.map ≢ m → IsLoadRun ended t run
    of-another t run u off =
        stays-load l ended m
        (λ n q ne e. put-off l.maps m n (record o { tried = true; stage = emptied (pages_of o.stage) }) ne ∙ e)
        (λ n ne. ap (λ y. addresses_of (unwrap_or y no_loan).positions) (cut-off l.loans m n ne)) t run u off

    same-map : (q : LaneMap) → get l.maps m ≡ Some q → q ≡ o
    same-map q e = found_one (get l.maps m) q o e there

    unload-used : AreLoadRuns ended
    unload-used t run live = by (t == o.tag) refl live
      where
        by : (b : Bool) → (t == o.tag) ≡ b →
            Contains (if b then run_unmapped first (l.spaces o.tag) else l.spaces t).runs run → IsLoadRun ended t run
        by true e live =
            let rest = left-cases first run (l.spaces o.tag).runs live in
            let u = used t run (subst (λ k. Contains (l.spaces k).runs run) (sym (eqb-true t o.tag e)) rest.0) in
            of-another t run u (λ is. rest.1 (sym u.first
            ∙ ap (λ (q : LaneMap). first_of (segments_in q.stage))
            (same-map u.own (ap (get l.maps) (sym is) ∙ u.there))))
        by false e live =
            let u = used t run live in
            of-another t run u (λ is. false≢true (sym e ∙ eq-eqb t o.tag (sym u.tag
            ∙ ap (λ (q : LaneMap). q.tag) (same-map u.own (ap (get l.maps) (sym is) ∙ u.there)))))

  -- ---- a load of an IOMMU tag's map
  module _ {d : Work} (laid : AreLaid l) (machine : IsInMachine l) (spaced : AreSpaced l) (b : Begins l d)
      (next : IsDone l d) (device : is_device l b.o ≡ true) (first : ℕ)
      (any : (length (frames b) == 0) ≡ false)
      (few : nat_le (length (segments_of l b.m b.o l.place (asks b) (device_chunks first 0 (asks b).entries) []))
      (limits_of l b.o).nsegments ≡ true) where
    abbrev cs : List Chunk
    cs = device_chunks first 0 (asks b).entries

    abbrev ss : List Segment
    ss = segments_of l b.m b.o l.place (asks b) cs []

    abbrev taking : LaneState
    taking =
        (with_spaces (with_run (are_few (limits_of l b.o) cs) b.o.tag first (frames b) l.spaces)
        (fitting l b.m b.o l.place (asks b) cs [])).lane

    abbrev with_load : LaneMap
    with_load = record b.o { tried = true; stage = Loaded (bounced_by l b.m b.o l.place (asks b) cs []) ss [] }

    abbrev new : DeviceRun
    new = record { first = first; frames = frames b }

    is-there : get taking.maps b.m ≡ Some with_load
    is-there = put-there l.maps b.m with_load

    are-bytes : at b.m taking ≡ entries_addresses (asks b).entries
    are-bytes =
        ap (λ y. addresses_of (unwrap_or y no_loan).positions)
        (put-there l.loans b.m (new_loan (is_coherent (get l.mems b.m)) (entries_addresses (asks b).entries)))
        ∙ unlent-same (entries_addresses (asks b).entries)

    are-entries : AllByRecursion IsEntry (asks b).entries
    are-entries =
        entries_are (λ p. Unit {0}) (is_rounded b.bio) (load_translation l b.bio)
        (bio-paged l laid machine b.bio (begun-bio l machine b next)) (bio_spans b.bio)

    new-frames : (k f : ℕ) → slice_get (frames b) k ≡ Some f → IsFrameOf taking b.m f
    new-frames k f e =
        let h = entries-frame (asks b).entries k f are-entries e in record {
          place = h.place;
          byte = h.byte;
          at = ap (λ bs. slice_get bs h.place) are-bytes ∙ h.at;
          frame = h.frame;
        }

    -- another load's run stays
    other-load : (t : ℕ) (run : DeviceRun) (u : IsLoadRun l t run) → IsLoadRun taking t run
    other-load t run u =
        stays-load l taking b.m (λ n q ne e. put-off l.maps b.m n with_load ne ∙ e)
        (λ n ne. ap (λ y. addresses_of (unwrap_or y no_loan).positions) (put-off l.loans b.m n _ ne)) t run u
        (not-here b.m (unloaded-there b.m b.o b.there (idle-off b.o.stage b.idle)) t run u)

    -- what is live in the tag's space
    live-cases : (t : ℕ) (run : DeviceRun) → Contains (taking.spaces t).runs run →
        ((t ≡ b.o.tag) × (new ≡ run)) ⊎ Contains (l.spaces t).runs run
    live-cases t run live =
        by (t == b.o.tag) refl
        (subst (λ v. Contains (if v && t == b.o.tag then entered (Some first) (frames b) (l.spaces t)
        else l.spaces t).runs run)
        few live)
      where
        by : (v : Bool) → (t == b.o.tag) ≡ v →
            Contains (if true && v then entered (Some first) (frames b) (l.spaces t) else l.spaces t).runs run →
            ((t ≡ b.o.tag) × (new ≡ run)) ⊎ Contains (l.spaces t).runs run
        by false e live = inr live
        by true e live = elim (put-cases new run (l.spaces t).runs live)
            as (λ _. ((t ≡ b.o.tag) × (new ≡ run)) ⊎ Contains (l.spaces t).runs run) [
              | inl same ↦ inl (eqb-true t b.o.tag e, same)
              | inr old ↦ inr old
            ]

    module _ (mapped : AreMapped taking) where
      is-mapped : IsMapped taking b.m with_load
      is-mapped = mapped.each b.m with_load is-there device refl

      -- it has segments, because it has a frame
      has-first : (fs : List ℕ) → (length fs == 0) ≡ false → (f : ℕ) × (slice_get fs 0 ≡ Some f)
      has-first [] e = absurd (cc)
      has-first (f ∷ fs) e = (f, refl)

      some-segment : (zs : List Segment) (find : ℕ → Option ℕ) (bounced : List Chunk) (pas : List ℕ) (k byte : ℕ) →
          slice_get pas k ≡ Some byte →
          map find (segment_bytes zs) ≡ map (λ a. Some a) (buses (placed_from bounced 0 pas)) → 1 ≤ length zs
      some-segment [] find bounced [] k byte e same = absurd (cc)
      some-segment [] find bounced (x ∷ pas) k byte e same = absurd (cc)
      some-segment (z ∷ zs) find bounced pas k byte e same = omega arith

      some : 1 ≤ length ss
      some =
          let f = has-first (frames b) any in
          let h = new-frames 0 f.0 f.1 in
          some-segment ss (translated (taking.spaces b.o.tag)) (bounced_in (stage_at taking b.m)) (at b.m taking)
          h.place
          h.byte h.at is-mapped.found

      -- a live run of the tag does not begin at page 0
      no-zero : (run : DeviceRun) → Contains (l.spaces b.o.tag).runs run → 1 ≤ run.first
      no-zero run live =
          let st = stands.each b.m b.o b.there in
          let on : st.tag.device ≡ true =
          sym (ap (λ q. option_map_or (λ (g : LaneTag). g.device) q false) st.there) ∙ device in
          (live-is 1 (l.spaces b.o.tag).pages (l.spaces b.o.tag).runs run
          (spaced.each b.o.tag st.tag st.there on).runs live).0

      begins-some : (zs : List Segment) (n : ℕ) → 1 ≤ n → first_of zs ≡ n → 1 ≤ length zs
      begins-some [] n low e = absurd (omega (arith, low, e))
      begins-some (z ∷ zs) n low e = omega arith

      begins-there : first_of ss ≡ first
      begins-there = by (live-cases b.o.tag r.run r.live)
        where
          r : HasRun (taking.spaces b.o.tag) ss
          r = is-mapped.run some

          by : ((b.o.tag ≡ b.o.tag) × (new ≡ r.run)) ⊎ Contains (l.spaces b.o.tag).runs r.run → first_of ss ≡ first
          by (inl e) = r.first ∙ sym (ap (λ (q : DeviceRun). q.first) e.1)
          by (inr old) =
              let u = used b.o.tag r.run old in
              let off = not-here b.m (unloaded-there b.m b.o b.there (idle-off b.o.stage b.idle)) b.o.tag r.run u in
              let same : b.m ≡ u.map =
              mapped.alone b.m u.map with_load u.own is-there (put-off l.maps b.m u.map with_load off ∙ u.there) device
              (sym u.tag) some
              (begins-some (segments_in u.own.stage) r.run.first (no-zero r.run old) u.first) (r.first ∙ sym u.first) in
              absurd (off (sym same))

      taking-used : AreLoadRuns taking
      taking-used t run live = elim (live-cases t run live) as (λ _. IsLoadRun taking t run) [
        | inl e ↦ subst (IsLoadRun taking t) e.1 (record {
          map = b.m;
          own = with_load;
          there = is-there;
          tag = sym e.0;
          loaded = refl;
          first = begins-there;
          frames = new-frames;
        })
        | inr old ↦ other-load t run (used t run old)
      ]

  -- ---- each effect

  pub touches-used : {d : Work} {x : Outcome} → Touches l d x → AreLoadRuns x.lane
  touches-used (Same a q u) = used
  touches-used {x = x} (Syncs m off len ops is o there i alone fine) =
      alike x.lane refl (addresses_of-synced l.loans m off len ops) (same-runs x.lane refl)
  touches-used {x = x} _ = alike x.lane refl (λ n. refl) (same-runs x.lane refl)

  -- a space that is emptied has no run
  emptied-space : (k p t : ℕ) (run : DeviceRun) →
      Contains (if t == k then record { pages = p; runs = [] } else l.spaces t).runs run →
      Contains (l.spaces t).runs run
  emptied-space k p t run live = by (t == k) live
    where
      by : (b : Bool) → Contains (if b then record { pages = p; runs = [] } else l.spaces t).runs run →
          Contains (l.spaces t).runs run
      by true live = absurd (in-none run live)
      by false live = live

  many-spaces : {d : Work} {c : Option HubCall} {r : HubReply} (k : Ends l d c r) →
      fits l (map_in k) (was_in k) (place_in k) (asked_in k) (chunks_in k) (pages_in k) ≡ false →
      spaces_in k ≡ l.spaces
  many-spaces (AtOnce b plain none) f = refl
  many-spaces (Granted b plain pends pages) f = refl
  many-spaces (Called m pages o v there waits) f = refl
  many-spaces (Device b device _ _ (NoFrame none)) f = refl
  many-spaces (Device b device _ _ (Run any first e)) f =
      λ i k. if f i && k == b.o.tag then entered (Some first) (frames b) (l.spaces k) else l.spaces k

  -- the map of a load that ends was not loaded
  was-off : {d : Work} {c : Option HubCall} {r : HubReply} (k : Ends l d c r) → IsUnloaded (map_in k)
  was-off (AtOnce b plain none) = unloaded-there b.m b.o b.there (idle-off b.o.stage b.idle)
  was-off (Granted b plain pends pages) = unloaded-there b.m b.o b.there (idle-off b.o.stage b.idle)
  was-off (Called m pages o v there waits) = unloaded-there m.made_at o there (ap is_loaded waits)
  was-off (Device b device free spaces taken) = unloaded-there b.m b.o b.there (idle-off b.o.stage b.idle)

  -- a load that brings no run
  loads-used : {d : Work} {c : Option HubCall} {r : HubReply} (k : Ends l d c r) → spaces_in k ≡ l.spaces →
      AreLoadRuns (with_spaces (spaces_in k)
      (fitting l (map_in k) (was_in k) (place_in k) (asked_in k) (chunks_in k) (pages_in k))).lane
  loads-used k same =
      let after = (with_spaces (spaces_in k)
      (fitting l (map_in k) (was_in k) (place_in k) (asked_in k) (chunks_in k) (pages_in k))).lane in
      puts after (map_in k) _ refl
      (λ n ne. ap (λ y. addresses_of (unwrap_or y no_loan).positions) (put-off l.loans (map_in k) n _ ne)) (was-off k)
      (same-runs after same)

  module _ (laid : AreLaid l) (machine : IsInMachine l) (spaced : AreSpaced l) where
    pub makes-used : {d : Work} {c : Option HubCall} {r : HubReply} {x : Outcome} → IsDone l d → Makes l d c r x →
        AreMapped x.lane → AreLoadRuns x.lane
    makes-used next (Touched t) mapped = touches-used t
    makes-used {x = x} next (Spaces name limits t e) mapped =
        alike x.lane refl (λ n. refl) (emptied-space l.place ((t.lowaddr.0 + 1) / 4096))
    makes-used {x = x} next (Untags t none) mapped = alike x.lane refl (λ n. refl) (emptied-space t 0)
    makes-used {x = x} next (Maps name t g there b) mapped =
        puts x.lane l.place _ refl (λ n ne. refl) none-new (same-runs x.lane refl)
    makes-used {x = x} next (Creates name t g there b n e) mapped =
        puts x.lane l.place _ refl (λ n ne. refl) none-new (same-runs x.lane refl)
    makes-used {x = x} next (Places name t flags g there begins count) mapped =
        puts x.lane l.place _ refl (λ n ne. refl) none-new (same-runs x.lane refl)
    makes-used {x = x} next (Unmaps m o there i) mapped =
        cuts x.lane m refl refl refl (unloaded-there m o there (idle-off o.stage i))
    makes-used {x = x} next (Frees m y e o there i) mapped =
        cuts x.lane m refl refl refl (unloaded-there m o there (idle-off o.stage i))
    makes-used {x = x} next (Refuses b over e) mapped =
        puts x.lane b.m _ refl (λ n ne. refl) (unloaded-there b.m b.o b.there (idle-off b.o.stage b.idle))
        (same-runs x.lane refl)
    makes-used {x = x} next (Waits b plain pends have) mapped =
        puts x.lane b.m _ refl (λ n ne. refl) (unloaded-there b.m b.o b.there (idle-off b.o.stage b.idle))
        (same-runs x.lane refl)
    makes-used {r = r} next (Loads (AtOnce b plain none) f) mapped = loads-used {r = r} (AtOnce b plain none) refl
    makes-used next (Loads (Granted b plain pends pages) f) mapped = loads-used (Granted b plain pends pages) refl
    makes-used next (Loads (Called m pages o v there waits) f) mapped = loads-used (Called m pages o v there waits) refl
    makes-used {r = r} next (Loads (Device b device free spaces (NoFrame none)) f) mapped =
        loads-used {r = r} (Device b device free spaces (NoFrame none)) refl
    makes-used next (Loads (Device b device _ _ (Run any first e)) f) mapped =
        taking-used laid machine spaced b next device first any f mapped
    makes-used {x = x} next (Overflows k f) mapped =
        puts x.lane (map_in k) _ refl (λ n ne. refl) (was-off k) (same-runs x.lane (many-spaces k f))
    makes-used next (Unloads m o there i) mapped = unload-used m o there
    makes-used {x = x} next _ mapped = alike x.lane refl (λ n. refl) (same-runs x.lane refl)
