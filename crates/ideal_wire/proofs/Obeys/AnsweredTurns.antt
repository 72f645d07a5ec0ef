-- The segments that any turn answers are a load's bytes, in order, and obey its tag.
use Rattle.std.proofs.Common.{◌≡◌, ℕ, ◌+◌, ◌==◌, Bool, true, false, if◌then◌else◌, List, [], length, Option, Some}
use Rattle.std.proofs.Common.{None, is_some, refl, ap, sym, ◌∙◌, subst, unwrap_or}
use Rattle.std.proofs.lemmas.Bool.{eqb-true, false≢true}
use Rattle.std.specs.FinMap.{get, contains_key}
use Rattle.std.specs.List.{AllByRecursion}
use Rattle.std.specs.Option.{option_and_then, option_map}
use Rattle.busdma_machine.specs.declared.bounce.hold.HubCall.TheVariants as call
use Rattle.busdma_machine.specs.declared.bounce.hold.HubReply.{HubReply}
use Rattle.busdma_machine.specs.declared.bounce.hold.HubReply.TheVariants as reply
use Rattle.busdma_base.specs.declared.journals.answer.Answer.TheVariants as answer
use Rattle.busdma_base.specs.declared.journals.journal.Did.TheVariants as did
use Rattle.busdma_base.specs.declared.journals.journal.Side.{Side}
use Rattle.busdma_machine.specs.declared.machine.address.Pa.{Pa}
use Rattle.busdma_machine.specs.declared.machine.bio.Bio.{Bio}
use Rattle.busdma_machine.specs.declared.machine.chunk.Chunk.{Chunk}
use Rattle.busdma_machine.specs.declared.name.MapId.{MapId}
use Rattle.busdma_base.specs.declared.scenarios.script.Op.{Op}
use Rattle.busdma_machine.specs.Bounce.Account.{Account, zone_at}
use Rattle.busdma_machine.specs.Bounce.AccountStep.{account_step}
use Rattle.busdma_machine.specs.Bounce.EachFrame.{EachFrame}
use Rattle.busdma_machine.specs.Bounce.Growth.{serves_tag}
use Rattle.busdma_machine.specs.Bounce.History.{IsFrame}
use Rattle.busdma_machine.specs.Bounce.LowPages.{PagesLieLow}
use Rattle.busdma_base.specs.Scenarios.Buffers.{IsBioOf}
use Rattle.lane_agreement.specs.After.{addresses_of_pages}
use Rattle.lane_agreement.specs.Agreement.{IsFit}
use Rattle.lane_agreement.specs.View as view
use Rattle.lane_agreement.proofs.Whole.{called-length, granted-length}
use Rattle.busdma_rules.specs.Segments.Chunks.{need_of}
use Rattle.busdma_rules.specs.Segments.Obeying.{IsReachable}
use Rattle.ideal_lane.specs.Agreement.{AgreesWith}
use Rattle.ideal_lane.specs.Asking.{Asking, Gives, Asks, call_of, by_reply}
use Rattle.ideal_lane.specs.Loads.{Asked, asked, chunks_for, finished, limits_of, zone_of_map}
use Rattle.ideal_lane.specs.Outcomes.{Outcome}
use Rattle.ideal_lane.specs.Standing.{Stands}
use Rattle.ideal_lane.specs.State.{LaneState, LaneMap, LaneMemory, named}
use Rattle.ideal_lane.specs.Turns.{Turned, waits, called, called_in, lane_step, never_waits}
use Rattle.ideal_lane.specs.View.{view_of}
use Rattle.ideal_lane.proofs.Direct.{need-direct}
use Rattle.ideal_lane.proofs.Effects.{Advances, AtOnce, Begins, Callback, Called, Calls, Granted, IsNext, IsQuiet}
use Rattle.ideal_lane.proofs.Effects.{IsReplyOf, Leaves, Loads, Makes, NothingLeft, Operation, Overflows, Refuses}
use Rattle.ideal_lane.proofs.Effects.{Releases, Same, Stays, Steps, Touched, Touches, Vain, Work, asks, chunks, grab}
use Rattle.ideal_lane.proofs.Effects.{Fetches, IsUntold, Syncs, here}
use Rattle.ideal_lane.proofs.Stepping.{turn-steps}
use Rattle.ideal_lane.proofs.TurnLaws.{WaitsAt, waits-at}
use Rattle.ideal_wire.specs.Accepted.{ArePagesFor, IfSegments}
use Rattle.ideal_wire.specs.Answered.{AreAnswered, AreLoaded, AreOf, AnswersIn, AnswersLoads}
use Rattle.ideal_wire.specs.Answered.{load_at, load_asked_by, waited_at}
use Rattle.ideal_wire.specs.Laid.{AreLaid, IsAwaited}
use Rattle.std.proofs.Common.{◌∷◌, ◌≤◌, ◌&&◌, map, slice_get, zero, suc, arith}
use Rattle.std.proofs.lemmas.Bool.{eq-eqb}
use Rattle.std.specs.Option.{option_map_or}
use Rattle.busdma_machine.specs.declared.machine.chunk.Entry.{Entry}
use Rattle.busdma_rules.specs.Iommu.Device.{device_chunks, load_frames}
use Rattle.busdma_rules.proofs.Iommu.Carrying.{Carries}
use Rattle.busdma_rules.proofs.Iommu.SpaceLaws.{entered-carries}
use Rattle.busdma_rules.proofs.Iommu.Runs.{taken-fits}
use Rattle.busdma_rules.specs.Iommu.Space.{Space, entered, first_free, translated}
use Rattle.ideal_lane.specs.Loads.{are_few, is_device, load_addresses, load_entries, no_limits, taken, with_run}
use Rattle.ideal_lane.specs.Loads.{with_spaces}
use Rattle.ideal_lane.specs.Rings.{head_of}
use Rattle.ideal_lane.specs.Accesses.{values}
use Rattle.busdma_rules.specs.Lending.Loans.{load_bytes}
use Rattle.ideal_lane.specs.State.{LaneTag}
use Rattle.ideal_lane.proofs.Effects.{Device, IsTaken, NoFrame, Run}
use Rattle.ideal_wire.specs.Answered.{chunks_of_load, first_device_page, found_at}
use Rattle.ideal_wire.specs.Spaced.{AreSpaced, IsSpaced}
use Rattle.ideal_wire.proofs.Obeys.AcceptedLaws.{fits}
use Rattle.ideal_wire.proofs.Obeys.AnsweredLoads.{ends-so, zoned-plain}
use Rattle.ideal_wire.proofs.Obeys.DeviceLoads.{device-accepted}
use Rattle.ideal_wire.specs.Machine.{IsInMachine}
use Rattle.ideal_wire.specs.Served.{AreServed}
use Rattle.ideal_wire.specs.Traces.{stage_in, stage_at}
use Rattle.ideal_wire.proofs.Obeys.AnsweredLoads.{callback-reachable, ends-answered, ends-memory, if-so, own-fine}
use Rattle.busdma_machine.specs.declared.machine.bio.Bio.TheVariants.{Vector}
use Rattle.ideal_lane.specs.IdealMemory.{value}
use Rattle.ideal_lane.specs.Sends.{Send, cluster_bytes, copied, due_send, is_too_big, send_at}
use Rattle.ideal_lane.specs.Turns.{at_next}
use Rattle.ideal_lane.specs.Unloads.{pages_of}
use Rattle.ideal_lane.proofs.Effects.{Copies, Declines, IsAgain, Keeps, Resends, again}
use Rattle.ideal_wire.specs.Accepted.{IsAcceptedLoad}
use Rattle.ideal_wire.specs.Answered.{AreOfClusters}
use Rattle.ideal_wire.proofs.Loads.Begun.{Again, IsDone, Next, again-bio, again-map, begun-bio}
use Rattle.ideal_lane.proofs.Sent.{due-clusters}
use Rattle.ideal_wire.proofs.Loads.Clusters.{copied-values}
use Rattle.ideal_wire.proofs.Faithful.CopiedClusters.{copied-laid, copied-machine, copied-spaced}
use Rattle.ideal_wire.proofs.Apart.Frames.{agreeing-apart}
use Rattle.ideal_wire.proofs.Laid.SameBytes.{addresses-same, entries-same}
use Rattle.ideal_wire.proofs.Laid.LaidTurns.{as-many, paged-again}
use Rattle.ideal_wire.proofs.Apart.Pages.{granted-reachable}
use Rattle.ideal_wire.proofs.Laid.Positions.{found_one}
use Rattle.ideal_wire.proofs.Loads.Waited.{waited-asked, waited-direct, waited-lies, waited-need, waited-own}
use Rattle.busdma_machine.specs.declared.bounce.hold.HubCall.{HubCall}
use Rattle.busdma_base.specs.declared.journals.answer.Answer.{Answer}
use Rattle.ideal_lane.proofs.Endings.{fitting, too_big}
use Rattle.ideal_lane.proofs.Endings as ends
use Rattle.busdma_machine.specs.declared.machine.address.Segment.{Segment}

-- an answer without segments
quiet : (x : Answer) (P : List Segment → Type 0) → IsQuiet x → IfSegments x P
quiet (answer.Segments ss) P q = absurd q
quiet _ P q = tt

untold-quiet : (x : Answer) → IsUntold x → IsQuiet x
untold-quiet (answer.Segments ss) u = u
untold-quiet _ u = tt

module _ (l : LaneState) (a : Account) (stands : Stands l) (agrees : AgreesWith l a) (fit : IsFit a)
    (frames : EachFrame IsFrame a) (low : PagesLieLow a) (served : AreServed l a) (machine : IsInMachine l)
    (laid : AreLaid l) (spaced : AreSpaced l) where
  some-frames : (n : ℕ) → (n == 0) ≡ false → 1 ≤ n
  some-frames zero e = absurd (cc)
  some-frames (suc n) e = omega arith

  -- the driver with its script at the next place
  abbrev moved : LaneState → LaneState
  moved k = record k { place = l.place + 1; due = false }

  abbrev Answers : Outcome → Type 0
  Answers x = IfSegments x.answer (λ ss. AreOf l (moved x.lane) (did.Op l.place) ss)

  -- ---- a load that begins
  module _ {d : Work} (b : Begins l d) (at : IsDone l d) where
    is-bio : IsBioOf l.pages b.bio
    is-bio = begun-bio l machine b at

    -- the segments that it answers are its bytes
    abbrev AreIts : Outcome → Type 0
    AreIts k = IfSegments k.answer (AreLoaded l (moved k.lane) b.m b.bio)

    abbrev ending : Bool → List ℕ → Outcome
    ending memory pages = finished b.m b.o l.place (asks b) (chunks_for l b.o memory (asks b).entries) pages l

    -- a load of a map that is not a memory's own ends with pages that the device reaches
    direct-answers : is_device l b.o ≡ false → get l.mems b.m ≡ None → (pages : List ℕ) →
        ArePagesFor (limits_of l b.o) (chunks_for l b.o false (asks b).entries) pages →
        AreIts (ending (contains_key l.mems b.m) pages)
    direct-answers plain e pages has =
        subst (λ c. AreIts (ending c pages)) (sym (ap is_some e))
        (ends-answered l laid machine stands b.m b.o b.there plain (ap is_some e) b.bio is-bio l.place
        (never_waits b.buffer b.flags) b.items b.fine pages moved (λ k. refl) (λ k. refl) (λ k. refl) has)

    need-as : (q : Option LaneMemory) → get l.mems b.m ≡ q →
        need_of (chunks b) ≡ need_of (chunks_for l b.o (is_some q) (asks b).entries)
    need-as q e = ap (λ y. need_of (chunks_for l b.o (is_some y) (asks b).entries)) e

    at-once : is_device l b.o ≡ false → (need_of (chunks b) == 0) ≡ true →
        AreIts (ending (contains_key l.mems b.m) [])
    at-once plain none = by (get l.mems b.m) refl
      where
        by : (q : Option LaneMemory) → get l.mems b.m ≡ q → AreIts (ending (contains_key l.mems b.m) [])
        by None e =
            direct-answers plain e []
            (record { count = sym (eqb-true (need_of (chunks b)) 0 none) ∙ need-as None e; reachable = tt })
        by (Some y) e =
            subst (λ c. AreIts (ending c [])) (sym (ap is_some e))
            (ends-memory l laid machine stands b.m b.o b.there plain y e b.bio l.place (never_waits b.buffer b.flags)
            b.items
            b.fine moved (λ k. refl) (λ k. refl) (λ k. refl))

    -- a map whose load needs pages has a zone, and so is no memory's
    zoned : is_device l b.o ≡ false → (need_of (chunks b) == 0) ≡ false → (q : Option ℕ) → b.o.zone ≡ q →
        is_some q ≡ true
    zoned plain some (Some z) e = refl
    zoned plain some None e =
        absurd (false≢true (sym some ∙ ap (λ n. n == 0)
        (need-direct l b.m b.o (asks b).entries (stands.each b.m b.o b.there) plain e)))

    by-grant : is_device l b.o ≡ false → (need_of (chunks b) == 0) ≡ false → (pages : List Pa) →
        (account_step l.id (grab b) a).reply ≡ reply.Granted pages →
        AreIts (ending (contains_key l.mems b.m) (addresses_of_pages pages))
    by-grant plain some pages e = by b.o.zone refl (get l.mems b.m) refl
      where
        by : (z : Option ℕ) → b.o.zone ≡ z → (q : Option LaneMemory) → get l.mems b.m ≡ q →
            AreIts (ending (contains_key l.mems b.m) (addresses_of_pages pages))
        by None zone q f = absurd (false≢true (zoned plain some None zone))
        by (Some z) zone (Some y) f =
            absurd (false≢true (zoned plain some None ((stands.each b.m b.o b.there).memory (ap is_some f))))
        by (Some z) zone None f =
            direct-answers plain f (addresses_of_pages pages) (record {
              count = as-many pages
                  ∙ granted-length (named l b.m) (zone_of_map b.o) (need_of (chunks b)) (asks b).nowait a pages e
                  ∙ need-as None f;
              reachable =
                  subst (AllByRecursion (IsReachable (limits_of l b.o))) (sym (paged-again pages))
                  (granted-reachable (limits_of l b.o) a low frames (zone_of_map b.o)
                  (ap (λ y. serves_tag (limits_of l b.o) (zone_at a y)) (ap (λ q. unwrap_or q 0) zone)
                  ∙ served b.m z b.o b.there zone) (named l b.m) (need_of (chunks b)) (asks b).nowait pages e);
            })

    -- the segments of a load of an IOMMU tag's map
    module _ (device : is_device l b.o ≡ true) where
      abbrev es : List Entry
      es = load_entries l b.bio

      tagged : IsSpaced (limits_of l b.o) (l.spaces b.o.tag)
      tagged =
          let st = stands.each b.m b.o b.there in
          subst (λ q. IsSpaced q (l.spaces b.o.tag))
          (sym (ap (λ q. unwrap_or (option_map (λ (g : LaneTag). g.limits) q) no_limits) st.there))
          (spaced.each b.o.tag st.tag st.there
          (sym (ap (λ q. option_map_or (λ (g : LaneTag). g.device) q false) st.there) ∙ device))

      of-load : (first : ℕ) → first_device_page l b.o es ≡ first →
          device_chunks first 0 es ≡ chunks_of_load l b.o (contains_key l.mems b.m) es
      of-load first page =
          sym (ap (λ d. if d then device_chunks (first_device_page l b.o es) 0 es
          else chunks_for l b.o (contains_key l.mems b.m) es) device ∙ ap (λ p. device_chunks p 0 es) page)

      found-by : (l' : LaneState) → is_device l' b.o ≡ true → translated (l'.spaces b.o.tag) ≡ found_at l' b.o
      found-by l' h = λ i a. if sym h i then translated (l'.spaces b.o.tag) a else Some a

      empty : (fs : List ℕ) → length fs ≡ 0 → fs ≡ []
      empty [] h = refl
      empty (f ∷ fs) h = absurd (omega (arith, h))

      none-carried : (fs : List ℕ) → length fs ≡ 0 → Carries (translated (l.spaces b.o.tag)) 0 fs
      none-carried fs h i f a e it = absurd (let g = sym (ap (λ xs. slice_get xs i) (empty fs h)) ∙ e in cc)

      device-answers : (first : ℕ) (spaces : ℕ → Space) → IsTaken b first spaces →
          AreIts (with_spaces spaces (finished b.m b.o l.place (asks b) (device_chunks first 0 es) [] l))
      device-answers _ _ (NoFrame none) =
          let zero : length (load_frames es) ≡ 0 = eqb-true (length (load_frames es)) 0 none in
          ends-so l b.m b.o b.there b.bio (never_waits b.buffer b.flags) b.items (device_chunks 0 0 es)
          (of-load 0 (ap (λ v. if v then 0 else unwrap_or
          (first_free (l.spaces b.o.tag) (length (load_frames es))) 0) none))
          (translated (l.spaces b.o.tag)) l.place (load_addresses l b.bio) []
          (device-accepted l laid machine stands b.m b.o b.there b.bio is-bio l.place (never_waits b.buffer b.flags)
          b.items b.fine tagged.alignment tagged.flags 0 (translated (l.spaces b.o.tag))
          (none-carried (load_frames es) zero) (omega (arith, zero)))
          (λ k. moved (record k { spaces = l.spaces })) (λ k. refl) (λ k. refl)
          (λ few. found-by (moved (record (fits l b.m b.o l.place (asks b) (device_chunks 0 0 es) []) {
            spaces = l.spaces;
          })) device) refl
      device-answers _ _ (Run any first e) =
          let frames : List ℕ = load_frames es in
          let some : 1 ≤ length frames = some-frames (length frames) any in
          ends-so l b.m b.o b.there b.bio (never_waits b.buffer b.flags) b.items (device_chunks first 0 es)
          (of-load first (ap (λ v. if v then 0 else unwrap_or
          (first_free (l.spaces b.o.tag) (length (load_frames es))) 0) any ∙ ap (λ v. unwrap_or v 0) e))
          (translated (entered (Some first) frames (l.spaces b.o.tag))) l.place (load_addresses l b.bio) []
          (device-accepted l laid machine stands b.m b.o b.there b.bio is-bio l.place (never_waits b.buffer b.flags)
          b.items b.fine tagged.alignment tagged.flags first
          (translated (entered (Some first) frames (l.spaces b.o.tag)))
          (entered-carries (l.spaces b.o.tag) frames first tagged.runs some e)
          (omega (arith, tagged.reached, taken-fits (l.spaces b.o.tag) (length frames) first tagged.runs some e)))
          (λ k. moved (record k {
            spaces = with_run (are_few (limits_of l b.o) (device_chunks first 0 es)) b.o.tag first (load_frames es)
                l.spaces;
          })) (λ k. refl) (λ k. refl)
          (λ few. sym (ap (λ s. translated s)
          (ap (λ v. if v && b.o.tag == b.o.tag then entered (Some first) (load_frames es) (l.spaces b.o.tag)
          else l.spaces b.o.tag) few
          ∙ ap (λ v. if true && v then entered (Some first) (load_frames es) (l.spaces b.o.tag)
          else l.spaces b.o.tag) (eq-eqb b.o.tag b.o.tag refl)))
          ∙ found-by (moved (record (fits l b.m b.o l.place (asks b) (device_chunks first 0 es) []) {
            spaces = with_run (are_few (limits_of l b.o) (device_chunks first 0 es)) b.o.tag first (load_frames es)
                l.spaces;
          })) device) refl

    -- each way in which it ends with its segments
    device-its : (device : is_device l b.o ≡ true) (first : ℕ) (spaces : ℕ → Space) → IsTaken b first spaces →
        ends.fits l b.m b.o l.place (asks b) (device_chunks first 0 (asks b).entries) [] ≡ true →
        AreIts (with_spaces spaces (fitting l b.m b.o l.place (asks b) (device_chunks first 0 (asks b).entries) []))
    device-its device first spaces taken f =
        subst (λ y. AreIts (with_spaces spaces
        (if y then fitting l b.m b.o l.place (asks b) (device_chunks first 0 (asks b).entries) []
        else too_big l b.m b.o l.place (asks b) (device_chunks first 0 (asks b).entries) []))) f
        (device-answers device first spaces taken)

    once-its : is_device l b.o ≡ false → (need_of (chunks b) == 0) ≡ true →
        ends.fits l b.m b.o l.place (asks b) (chunks b) [] ≡ true →
        AreIts (with_spaces l.spaces (fitting l b.m b.o l.place (asks b) (chunks b) []))
    once-its plain none f =
        subst (λ y. AreIts (if y then fitting l b.m b.o l.place (asks b) (chunks b) []
        else too_big l b.m b.o l.place (asks b) (chunks b) [])) f (at-once plain none)

    grant-its : is_device l b.o ≡ false → (need_of (chunks b) == 0) ≡ false → (pages : List Pa) →
        (account_step l.id (grab b) a).reply ≡ reply.Granted pages →
        ends.fits l b.m b.o l.place (asks b) (chunks b) (addresses_of_pages pages) ≡ true →
        AreIts (with_spaces l.spaces (fitting l b.m b.o l.place (asks b) (chunks b) (addresses_of_pages pages)))
    grant-its plain some pages e f =
        subst (λ y. AreIts (if y then fitting l b.m b.o l.place (asks b) (chunks b) (addresses_of_pages pages)
        else too_big l b.m b.o l.place (asks b) (chunks b) (addresses_of_pages pages))) f (by-grant plain some pages e)

  -- ---- the callback of a load that waited
  module _ (m : MapId) (pages : List Pa) (e : (account_step l.id call.TakeCallback a).reply ≡ reply.Called m pages)
    where
      abbrev k : ℕ
      k = m.made_at

      -- the load for which the map waited is loaded
      abbrev AreCalled : LaneState → List Segment → Type 0
      AreCalled after ss = AreOf l after (did.Callback m) ss

      at-map : (z need : ℕ) → length pages ≡ need → WaitsAt l k z need →
          IfSegments (called k (get l.maps k) (addresses_of_pages pages) l).answer
          (AreCalled (called k (get l.maps k) (addresses_of_pages pages) l).lane)
      at-map z need count w =
          subst (λ y. IfSegments (called k y (addresses_of_pages pages) l).answer
          (AreCalled (called k y (addresses_of_pages pages) l).lane)) (sym w.found)
          (subst (λ s. IfSegments (called_in k w.map s (addresses_of_pages pages) l).answer
          (AreCalled (called_in k w.map s (addresses_of_pages pages) l).lane)) (sym w.stage)
          (if-so ends.answer (AreLoaded l ends.lane k b) (AreCalled ends.lane) (λ ss h. (b, told, h)) ended))
        where
          b : Bio
          b = w.load.bio

          lies : IsAwaited l k w.load
          lies = waited-lies l stands laid k z need w

          x : Asked
          x = waited-asked l stands laid k z need w

          ends : Outcome
          ends = finished k w.map w.load.load_at x (chunks_for l w.map (contains_key l.mems k) x.entries)
              (addresses_of_pages pages) l

          told : load_at l (waited_at (stage_at l k)) ≡ Some (record { map = k; bio = b })
          told = ap (λ s. load_at l (waited_at s)) (ap stage_in w.found ∙ w.stage) ∙ lies.told l refl

          none : get l.mems k ≡ None
          none = waited-direct l stands laid k z need w

          serves : (y j : ℕ) → (view_of l).map_at k ≡ Some (record { zone = y; stage = view.Waiting j }) →
              serves_tag (limits_of l w.map) (zone_at a y) ≡ true
          serves y j is =
              let v = waits-at l k y j is in
              let same : w.map ≡ v.map = found_one (get l.maps k) w.map v.map w.found v.found in
              served k y w.map w.found (ap (λ (q : LaneMap). q.zone) same ∙ v.zone)

          has : ArePagesFor (limits_of l w.map) (chunks_for l w.map false x.entries) (addresses_of_pages pages)
          has = record {
            count = as-many pages ∙ count ∙ waited-need l stands laid k z need w;
            reachable =
                subst (AllByRecursion (IsReachable (limits_of l w.map))) (sym (paged-again pages))
                (callback-reachable l a agrees low frames (limits_of l w.map) m pages serves e);
          }

          ended : IfSegments ends.answer (AreLoaded l ends.lane k b)
          ended =
              subst (λ c. IfSegments (finished k w.map w.load.load_at x (chunks_for l w.map c x.entries)
              (addresses_of_pages pages) l).answer
              (AreLoaded l (finished k w.map w.load.load_at x (chunks_for l w.map c x.entries)
              (addresses_of_pages pages) l).lane
              k b)) (sym (ap is_some none))
              (ends-answered l laid machine stands k w.map w.found (zoned-plain l stands k z w.map w.found w.zone)
              (ap is_some none) b lies.named w.load.load_at false
              w.load.items
              (own-fine l laid machine k b none (waited-own l stands laid k z need w))
              (addresses_of_pages pages) (λ s. s) (λ s. refl) (λ s. refl) (λ s. refl) has)

      called-answers : IfSegments (called k (get l.maps k) (addresses_of_pages pages) l).answer
          (AreCalled (called k (get l.maps k) (addresses_of_pages pages) l).lane)
      called-answers =
          let c = called-length (view_of l) a.ready a m pages fit.well agrees refl e in
          at-map c.2 c.0 c.4 (waits-at l k c.2 c.0 c.3)

  -- ---- each effect
  touches-quiet : {d : Work} {x : Outcome} (P : List Segment → Type 0) → Touches l d x → IfSegments x.answer P
  touches-quiet P (Same v q u) = quiet v P q
  touches-quiet P (Fetches k f) = by ((head_of f.r l).kind == 1)
    where
      by : (b : Bool) → IfSegments (if b
          then answer.Bytes (values l (load_bytes l.loans f.c.map f.c.off (head_of f.r l).len)) else answer.Done) P
      by true = tt
      by false = tt
  touches-quiet P _ = tt

  -- the load of the next operation
  module _ {o : Op} (b : Begins l (Operation o)) (at : IsNext l (Operation o)) where
    load-here : load_at l l.place ≡ Some (record { map = b.m; bio = b.bio })
    load-here =
        ap (option_and_then (λ p. load_asked_by p l)) (here b at)
        ∙ ap (option_map (λ y. record { map = b.m; bio = y })) b.found

    -- it is enough to say what is loaded of the load's map
    answers-load : (k : Outcome) → IfSegments k.answer (AreLoaded l (moved k.lane) b.m b.bio) → Answers k
    answers-load k h =
        if-so k.answer (AreLoaded l (moved k.lane) b.m b.bio) (λ ss. AreOf l (moved k.lane) (did.Op l.place) ss)
        (λ ss g. subst (λ q. AreAnswered l (moved k.lane) q ss) (sym load-here) g) h

  -- the load of a send from its clusters
  module _ (s : Send) (b : Begins l (Operation (again s))) where
    abbrev AreAgain : Outcome → Type 0
    AreAgain k = IfSegments k.answer (AreLoaded l (moved k.lane) s.map (Vector s.clusters))

    again-load : (k : Outcome) → IfSegments k.answer (AreLoaded l (moved k.lane) b.m b.bio) → AreAgain k
    again-load k h =
        subst (λ m. IfSegments k.answer (AreLoaded l (moved k.lane) m (Vector s.clusters))) (sym (again-map l s b))
        (subst (λ y. IfSegments k.answer (AreLoaded l (moved k.lane) b.m y)) (sym (again-bio l s b)) h)

  makes-answer : {o : Op} {c : Option HubCall} {r : HubReply} {x : Outcome} → IsNext l (Operation o) →
      IsReplyOf l.id a c r → Makes l (Operation o) c r x → Answers x
  makes-answer at e (Touched t) = touches-quiet _ t
  makes-answer at e (Vain v x q) = quiet x _ (untold-quiet x q)
  makes-answer {x = x} at e (Loads (Device b device first spaces taken) f) =
      answers-load b at x (device-its b (Next at) device first spaces taken f)
  makes-answer {x = x} at e (Loads (AtOnce b plain none) f) = answers-load b at x (once-its b (Next at) plain none f)
  makes-answer {x = x} at e (Loads (Granted b plain some pages) f) =
      answers-load b at x (grant-its b (Next at) plain some pages e f)
  makes-answer at e _ = tt

  -- the load leaves the driver's bytes
  again-memory : (s : Send) {c : Option HubCall} {r : HubReply} {x : Outcome} → Makes l (Operation (again s)) c r x →
      x.lane.memory ≡ l.memory
  again-memory s (Touched t) = touched t
    where
      touched : {x : Outcome} → Touches l (Operation (again s)) x → x.lane.memory ≡ l.memory
      touched (Same v q u) = refl
      touched (Syncs m off len ops is o there i alone fine) = elim is [ ]
  again-memory s _ = refl

  makes-again : (s : Send) {c : Option HubCall} {r : HubReply} {x : Outcome} → IsReplyOf l.id a c r →
      Makes l (Operation (again s)) c r x →
      IfSegments x.answer (AreLoaded l (moved x.lane) s.map (Vector s.clusters))
  makes-again s e (Touched t) = touches-quiet _ t
  makes-again s e (Vain v x q) = quiet x _ (untold-quiet x q)
  makes-again s {x = x} e (Loads (Device b device first spaces taken) f) =
      again-load s b x (device-its b (Again s) device first spaces taken f)
  makes-again s {x = x} e (Loads (AtOnce b plain none) f) =
      again-load s b x (once-its b (Again s) plain none f)
  makes-again s {x = x} e (Loads (Granted b plain some pages) f) =
      again-load s b x (grant-its b (Again s) plain some pages e f)
  makes-again s e _ = tt

  callback-answers : {n m : MapId} {pages : List Pa} {x : Outcome} →
      (account_step l.id call.TakeCallback a).reply ≡ reply.Called m pages →
      Makes l (Callback n) (Some call.TakeCallback) (reply.Called m pages) x →
      IfSegments x.answer (λ ss. AreOf l x.lane (did.Callback m) ss)
  callback-answers e (Vain v x q) = quiet x _ (untold-quiet x q)
  callback-answers e (Refuses b over x) = elim over [ ]
  callback-answers e (Overflows k f) = tt
  callback-answers e (Loads (Called m pages o v there waits) f) =
      subst (λ y. Ended (if y then fitting l m.made_at o v.load_at x (cut o) (addresses_of_pages pages)
      else too_big l m.made_at o v.load_at x (cut o) (addresses_of_pages pages))) f
      (subst (λ s. Ended (called_in m.made_at o s (addresses_of_pages pages) l)) waits
      (subst (λ y. Ended (called m.made_at y (addresses_of_pages pages) l)) there (called-answers m pages e)))
    where
      x : Asked
      x = asked m.made_at v.bio false v.items l

      cut : LaneMap → List Chunk
      cut y = chunks_for l y (contains_key l.mems m.made_at) x.entries

      Ended : Outcome → Type 0
      Ended y = IfSegments y.answer (λ ss. AreOf l y.lane (did.Callback m) ss)

-- ---- the turn
module _ (l : LaneState) (a : Account) (stands : Stands l) (agrees : AgreesWith l a) (fit : IsFit a)
    (frames : EachFrame IsFrame a) (low : PagesLieLow a) (served : AreServed l a) (machine : IsInMachine l)
    (laid : AreLaid l) (spaced : AreSpaced l) where
  -- a send that is kept has no segments
  kept-quiet : (x : Answer) (P : List Segment → Type 0) → is_too_big x ≡ true → IfSegments x P
  kept-quiet (answer.Refused e) P big = tt
  kept-quiet _ P big = absurd (cc)

  -- the send at the place of the script is the one that is due
  send-here : (s : Send) → due_send l ≡ Some s → send_at l.script l.place ≡ Some s
  send-here s e = by l.due e
    where
      by : (b : Bool) → (if b then send_at l.script l.place else None) ≡ Some s → send_at l.script l.place ≡ Some s
      by true e = e
      by false e = absurd (cc)

  module _ (s : Send) (now : IsAgain l s) (c : Copies l s) where
    abbrev filled : LaneState
    filled = copied s l

    -- what is loaded by the driver whose clusters have the bytes of the chain, is loaded by the one before
    as-before : (k : LaneState) (ss : List Segment) → AreLoaded filled k s.map (Vector s.clusters) ss →
        AreLoaded l k s.map (Vector s.clusters) ss
    as-before k ss h = record {
      map = h.map;
      there = h.there;
      accepted =
          subst (λ es. IsAcceptedLoad k s.map (found_at k h.map) (limits_of l h.map)
          (load_addresses l (Vector s.clusters)) (chunks_of_load l h.map (contains_key l.mems s.map) es)
          (pages_of (stage_at k s.map)) ss) (entries-same l filled refl refl (Vector s.clusters))
          (subst (λ bytes. IsAcceptedLoad k s.map (found_at k h.map) (limits_of l h.map) bytes
          (chunks_of_load l h.map (contains_key l.mems s.map) (load_entries filled (Vector s.clusters)))
          (pages_of (stage_at k s.map)) ss) (addresses-same l filled refl refl (Vector s.clusters)) h.accepted);
    }

    again-answers : {d : Option HubCall} {r : HubReply} {x : Outcome} → IsReplyOf l.id a d r →
        Makes filled (Operation (again s)) d r x →
        IfSegments x.answer (λ ss. AreOf l (at_next l.place x.lane) (did.Again l.place) ss)
    again-answers {x = x} e m =
        if-so x.answer (AreLoaded filled (at_next l.place x.lane) s.map (Vector s.clusters))
        (λ ss. AreOf l (at_next l.place x.lane) (did.Again l.place) ss)
        (λ ss h. subst (λ q. AreOfClusters l (at_next l.place x.lane) q ss) (sym (send-here s now.due)) (
          as-before (at_next l.place x.lane) ss h,
          ap (λ w. map (λ p. value (w p)) (cluster_bytes s l))
              (again-memory filled a stands agrees fit frames low served (copied-machine l s machine)
              (copied-laid l s laid) (copied-spaced l s spaced) s m)
              ∙ copied-values l laid s (agreeing-apart l a agrees stands laid) machine
              (due-clusters l s now.due machine.clusters) c.fine,
        ))
        (makes-again filled a stands agrees fit frames low served (copied-machine l s machine) (copied-laid l s laid)
        (copied-spaced l s spaced) s e m)

  steps-answer : {s : Side} {c : Option HubCall} {r : HubReply} {t : Turned} → IsReplyOf l.id a c r →
      Steps l s c r t → AnswersIn l t.lane t.turn
  steps-answer e (Stays t NothingLeft) = tt
  steps-answer e (Stays t _) = tt
  steps-answer e (Advances o at free m) =
      makes-answer l a stands agrees fit frames low served machine laid spaced at e m
  steps-answer e (Keeps {x = x} o at free s is big held m) = kept-quiet x.answer _ big
  steps-answer e (Declines s now x why) = tt
  steps-answer e (Resends s now c told m) = again-answers s now c e m
  steps-answer e (Leaves q rest is t) =
      touches-quiet l a stands agrees fit frames low served machine laid spaced _ t
  steps-answer e (Releases q rest is y there) = tt
  steps-answer e (Calls m pages k) =
      callback-answers l a stands agrees fit frames low served machine laid spaced e k

  pub turn-answers : (s : Side) → AnswersLoads l a (lane_step l s)
  turn-answers s = by (lane_step l s) (turn-steps l s)
    where
      by : (x : Asking Turned) → ((r : HubReply) → Steps l s (call_of x) r (by_reply x r)) → AnswersLoads l a x
      by (Gives t) h = steps-answer tt (h reply.Nothing)
      by (Asks c k) h = steps-answer refl (h (account_step l.id c a).reply)
