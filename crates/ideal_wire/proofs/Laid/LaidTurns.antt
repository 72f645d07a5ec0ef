-- Any turn leaves the loads of a driver laid, by the account's reply.
use Rattle.std.proofs.Common.{[], ◌≡◌, ℕ, zero, suc, ◌+◌, ◌*◌, ◌<◌, ◌≤◌, ◌==◌, ◌&&◌, Bool, true, false, if◌then◌else◌}
use Rattle.std.proofs.Common.{List, ◌∷◌, length, Option, Some, None, is_some, refl, ap, sym, ◌∙◌, subst, nat_le}
use Rattle.std.proofs.Common.{not, slice_get, arith}
use Rattle.std.proofs.lemmas.Bool.{and_parts, eqb-true, false≢true, le-ltb, ltb-true}
use Rattle.std.specs.FinMap.{get, contains_key}
use Rattle.std.specs.List.{AllByRecursion}
use Rattle.std.specs.Option.{option_and_then, option_map}
use Rattle.busdma_machine.specs.declared.bounce.hold.HubCall.TheVariants as call
use Rattle.busdma_machine.specs.declared.bounce.hold.HubReply.{HubReply}
use Rattle.busdma_machine.specs.declared.bounce.hold.HubReply.TheVariants as reply
use Rattle.busdma_base.specs.declared.journals.journal.Side.{Side}
use Rattle.busdma_machine.specs.declared.machine.address.Pa.{Pa}
use Rattle.busdma_machine.specs.declared.machine.chunk.Chunk.{Chunk}
use Rattle.busdma_machine.specs.declared.name.MapId.{MapId}
use Rattle.busdma_machine.specs.Bounce.Account.{Account}
use Rattle.busdma_machine.specs.Bounce.AccountStep.{account_step, as_pages}
use Rattle.busdma_machine.specs.Bounce.EachFrame.{EachFrame}
use Rattle.busdma_machine.specs.Bounce.History.{IsFrame}
use Rattle.busdma_machine.specs.Bounce.MemoryRuns.{frames_for, in_run, lowest_run}
use Rattle.busdma_base.specs.Scenarios.Buffers.{IsBioOf}
use Rattle.busdma_machine.specs.Tags.Tag.{excluded}
use Rattle.busdma_rules.specs.Tags.MemFlags.{coherent, zero_filled}
use Rattle.lane_agreement.specs.After.{addresses_of_pages}
use Rattle.lane_agreement.specs.Agreement.{IsFit}
use Rattle.lane_agreement.proofs.Whole.{called-length, granted-length}
use Rattle.busdma_base.specs.declared.scenarios.queued.QueuedItem.{QueuedItem}
use Rattle.busdma_rules.specs.Lending.Loans.{loan_of, no_loan}
use Rattle.busdma_rules.specs.Segments.Chunks.{chunks_of, need_of}
use Rattle.busdma_rules.specs.Segments.Trace.{IsPage}
use Rattle.ideal_lane.specs.Agreement.{AgreesWith}
use Rattle.ideal_lane.specs.Asking.{Asking, Gives, Asks, call_of, by_reply}
use Rattle.ideal_lane.specs.Loads.{Asked, chunks_for, finished, limits_of, staged, zone_of_map}
use Rattle.ideal_lane.specs.Outcomes.{Outcome}
use Rattle.ideal_lane.specs.Standing.{Stands}
use Rattle.ideal_lane.specs.State.{LaneState, LaneMemory, Waiting, named}
use Rattle.ideal_lane.specs.Turns.{Turned, waits, called, called_in, lane_step}
use Rattle.ideal_lane.specs.View.{view_of}
use Rattle.ideal_lane.proofs.Effects.{Advances, AtOnce, Attaches, Begins, Called, Calls, Creates, Ends, Frees}
use Rattle.ideal_lane.proofs.Effects.{Granted, Spaces}
use Rattle.ideal_lane.proofs.Effects.{IsNext, IsReplyOf, Leaves, Loads, Makes, Maps, Overflows, Places, Refuses}
use Rattle.ideal_lane.proofs.Effects.{Releases, Stays, Steps, Tags, Touched, Unloads, Unmaps, Untags, Waits, Work}
use Rattle.ideal_lane.proofs.Effects.{asked_in, asks, chunks, chunks_in, here, map_in, pages_in, place_in}
use Rattle.ideal_lane.proofs.Stepping.{turn-steps}
use Rattle.ideal_lane.proofs.Effects.{waits_for, was_in}
use Rattle.ideal_lane.proofs.TurnLaws.{WaitsAt, waits-at}
use Rattle.ideal_wire.specs.Answered.{load_asked_by}
use Rattle.std.proofs.Common.{replicate}
use Rattle.std.proofs.lemmas.List.{length-replicate}
use Rattle.busdma_machine.specs.Machine.Entry.{entries_addresses}
use Rattle.ideal_lane.proofs.Effects.{Device, spaces_in}
use Rattle.ideal_wire.proofs.Laid.StillLaid.{spaced-still}
use Rattle.ideal_wire.specs.Laid.{AreFirst, AreLaid, KeepsLaid, is_loadable}
use Rattle.ideal_wire.specs.Machine.{IsInMachine}
use Rattle.ideal_wire.proofs.Loads.Asked.{are-in-pages, direct-bytes, direct-ready, pages-entries}
use Rattle.ideal_wire.proofs.Loads.Bios.{AreOfPages}
use Rattle.ideal_lane.specs.Sends.{copied}
use Rattle.ideal_lane.proofs.Effects.{Declines, Keeps, Resends, grab}
use Rattle.ideal_wire.proofs.Loads.Begun.{Again, IsDone, Next, again-unqueued, begun-bio}
use Rattle.ideal_wire.proofs.Faithful.CopiedClusters.{copied-laid, copied-machine}
use Rattle.ideal_wire.proofs.Apart.Frames.{agreeing-apart}
use Rattle.ideal_wire.proofs.Laid.LoadLaid.{IsReady, device-finished-laid, finished-laid}
use Rattle.ideal_wire.proofs.Laid.MemoriesLaid.{after-laid, made-laid}
use Rattle.ideal_wire.proofs.Loads.MemoryLoads.{memory-ready}
use Rattle.ideal_wire.proofs.Apart.NewFrames.{IsGiven, given, run-is}
use Rattle.ideal_wire.proofs.Apart.Pages.{called-whole, granted-whole}
use Rattle.ideal_wire.proofs.Apart.PagesAlone.{paged-alone}
use Rattle.ideal_wire.proofs.Laid.Positions.{found_one}
use Rattle.ideal_wire.proofs.Apart.Returning.{returning-unloaded}
use Rattle.ideal_wire.proofs.Laid.StillLaid.{back-still, idle-unloaded, like, map-still, no-loan, put, staged-still}
use Rattle.ideal_wire.proofs.Laid.StillLaid.{unload-still, touches-laid, iommu_tag-still, untag-still}
use Rattle.ideal_wire.proofs.Laid.StillLaid.{with_tag-still, created-still}
use Rattle.ideal_wire.proofs.Laid.StillLaid.{unmap-still}
use Rattle.ideal_wire.proofs.Tags.KeptTags.{put-there}
use Rattle.ideal_wire.proofs.Loads.Waited.{waited-asked, waited-direct, waited-lies, waited-need, waited-own}
use Rattle.busdma_machine.specs.declared.bounce.hold.HubCall.{HubCall}
use Rattle.ideal_lane.proofs.Endings.{fitting, too_big}

-- ---- pages as a reply has them

pub paged-again : (pages : List Pa) → as_pages (addresses_of_pages pages) ≡ pages
paged-again [] = refl
paged-again (p ∷ pages) = ap (λ xs. p ∷ xs) (paged-again pages)

pub as-many : (pages : List Pa) → length (addresses_of_pages pages) ≡ length pages
as-many [] = refl
as-many (p ∷ pages) = ap suc (as-many pages)

whole-again : (pages : List Pa) → AllByRecursion IsPage pages →
    AllByRecursion IsPage (as_pages (addresses_of_pages pages))
whole-again pages h = subst (AllByRecursion IsPage) (sym (paged-again pages)) h

some-need : (n : ℕ) → (n == 0) ≡ false → 1 ≤ n
some-need zero e = absurd (cc)
some-need (suc n) e = omega arith

no-pages : (pages : List ℕ) → length pages ≡ 0 → pages ≡ []
no-pages [] e = refl
no-pages (p ∷ pages) e = absurd (omega (arith, e))

pub plain-tag : (d : Bool) → not d ≡ true → d ≡ false
plain-tag false h = refl
plain-tag true h = absurd (cc)

zero-pages : (n : ℕ) → AllByRecursion IsPage (as_pages (replicate n 0))
zero-pages zero = tt
zero-pages (suc n) = ((omega arith, omega arith), zero-pages n)

module _ (l : LaneState) (a : Account) (stands : Stands l) (agrees : AgreesWith l a) (fit : IsFit a)
    (frames : EachFrame IsFrame a) (machine : IsInMachine l) (laid : AreLaid l) where
  -- ---- a load that begins
  module _ {d : Work} (b : Begins l d) (at : IsDone l d) where
    unlent : loan_of l.loans b.m ≡ no_loan
    unlent = no-loan l laid b.m b.o b.there (idle-unloaded l laid b.o.stage b.idle)

    is-bio : IsBioOf l.pages b.bio
    is-bio = begun-bio l machine b at

    abbrev cut-as : Bool → List Chunk
    cut-as memory = chunks_for l b.o memory (asks b).entries

    -- a load of a memory's own map needs no page
    memory-load : (y : LaneMemory) → get l.mems b.m ≡ Some y →
        IsReady l b.m (limits_of l b.o) (asks b).entries (cut-as true) []
    memory-load y e = memory-ready l laid machine stands b.m b.o b.there y e b.bio b.fine

    memory-need : (y : LaneMemory) → get l.mems b.m ≡ Some y → need_of (chunks b) ≡ 0
    memory-need y e = ap (λ c. need_of (cut-as c)) (ap is_some e) ∙ (memory-load y e).direct (ap is_some e)

    ready : (pages : List ℕ) → AllByRecursion IsPage (as_pages pages) → length pages ≡ need_of (chunks b) →
        IsReady l b.m (limits_of l b.o) (asks b).entries (chunks b) pages
    ready pages whole count = by (get l.mems b.m) refl
      where
        Ready : Bool → List ℕ → Type 0
        Ready c ps = IsReady l b.m (limits_of l b.o) (asks b).entries (cut-as c) ps

        by : (q : Option LaneMemory) → get l.mems b.m ≡ q → Ready (contains_key l.mems b.m) pages
        by None e =
            subst (λ c. Ready c pages) (sym (ap is_some e))
            (direct-ready l laid machine stands b.m b.o b.there e b.bio is-bio (direct-bytes l b.m b.bio e b.fine) pages
            whole (count ∙ ap (λ c. need_of (cut-as c)) (ap is_some e)))
        by (Some y) e =
            subst (λ c. Ready c pages) (sym (ap is_some e))
            (subst (Ready true) (sym (no-pages pages (count ∙ memory-need y e))) (memory-load y e))

    -- each byte of a load of an IOMMU tag's map may be loaded
    loadable : (q : Option LaneMemory) → get l.mems b.m ≡ q →
        AllByRecursion (λ a. is_loadable (get l.mems b.m) l a ≡ true) (entries_addresses (asks b).entries)
    loadable None e =
        (direct-ready l laid machine stands b.m b.o b.there e b.bio is-bio (direct-bytes l b.m b.bio e b.fine)
        (replicate (need_of (cut-as false)) 0) (zero-pages (need_of (cut-as false)))
        (length-replicate (need_of (cut-as false)) 0)).loadable
    loadable (Some y) e = (memory-load y e).loadable

    -- a load of a memory's own map has the memory's first bytes
    begins : (y : LaneMemory) → get l.mems b.m ≡ Some y → AreFirst y (entries_addresses (asks b).entries)
    begins y e = (memory-load y e).first y e

    -- a load that waits is of the driver's pages, and is the load at this place of the script
    waits-laid : IsNext l d → (need_of (chunks b) == 0) ≡ false →
        AreLaid (staged b.m b.o (Waiting (waits_for b)) l)
    waits-laid next some = by (get l.mems b.m) refl
      where
        by : (q : Option LaneMemory) → get l.mems b.m ≡ q →
            AreLaid (staged b.m b.o (Waiting (waits_for b)) l)
        by (Some y) e = absurd (false≢true (sym some ∙ ap (λ n. n == 0) (memory-need y e)))
        by None e =
            put l laid later
            (record { script = refl; pages = refl; maxmem = refl; own = λ b. refl; mems = refl }) (λ n y e. refl) b.m
            (record b.o { tried = true; stage = Waiting (waits_for b) }) refl refl
            (λ y e. (b.o, b.there, refl)) (record {
              unlent = unlent;
              some = some-need (need_of (chunks b)) some;
              named = is-bio;
              own = are-in-pages l b.bio own;
              counted = λ o' found.
                  let same : record b.o { tried = true; stage = Waiting (waits_for b) } ≡ o' =
                  found_one (get later.maps b.m) _ o' (put-there l.maps b.m _) found in
                  ap (λ c. need_of (cut-as c)) (ap is_some e)
                  ∙ (λ i. need_of (chunks_of (limits_of later (same i)) l.maxmem
                  (sym (pages-entries l b.bio own) i)));
              told = λ s same.
                  ap (option_and_then (λ p. load_asked_by p s)) (ap (λ q. slice_get q l.place) same ∙ here b next)
                  ∙ ap (option_map (λ y. record { map = b.m; bio = y }))
                  (paged-alone l machine (limits_of l b.o) b.buffer b.bio b.found own direct-need s);
            })
          where
            own : AreOfPages l b.bio
            own = direct-bytes l b.m b.bio e b.fine

            later : LaneState
            later = staged b.m b.o (Waiting (waits_for b)) l

            direct-need : 1 ≤ need_of (cut-as false)
            direct-need = subst (λ c. 1 ≤ need_of (cut-as c)) (ap is_some e) (some-need (need_of (chunks b)) some)

  -- a resend never waits
  waits-now : {d : Work} (b : Begins l d) → IsDone l d → (have : ℕ) →
      (account_step l.id (grab b) a).reply ≡ reply.Queued have → (need_of (chunks b) == 0) ≡ false →
      AreLaid (staged b.m b.o (Waiting (waits_for b)) l)
  waits-now b (Next at) have e some = waits-laid b (Next at) at some
  waits-now b (Again s) have e some = absurd (again-unqueued l s b a have e)

  -- ---- the callback of a load that waited
  module _ (m : MapId) (pages : List Pa) (e : (account_step l.id call.TakeCallback a).reply ≡ reply.Called m pages)
    where
      abbrev k : ℕ
      k = m.made_at

      -- the load of a map that waits, with as many pages as it needs
      at-map : (z need : ℕ) → length pages ≡ need → WaitsAt l k z need →
          AreLaid (called k (get l.maps k) (addresses_of_pages pages) l).lane
      at-map z need count w =
          subst (λ y. AreLaid (called k y (addresses_of_pages pages) l).lane) (sym w.found)
          (subst (λ s. AreLaid (called_in k w.map s (addresses_of_pages pages) l).lane) (sym w.stage) ends)
        where
          x : Asked
          x = waited-asked l stands laid k z need w

          ends : AreLaid (finished k w.map w.load.load_at x (chunks_for l w.map (contains_key l.mems k) x.entries)
              (addresses_of_pages pages) l).lane
          ends =
              let none = waited-direct l stands laid k z need w in
              subst (λ b. AreLaid (finished k w.map w.load.load_at x (chunks_for l w.map b x.entries)
              (addresses_of_pages pages)
              l).lane)
              (sym (ap is_some none))
              (finished-laid l laid k w.map w.found (waited-lies l stands laid k z need w).unlent w.load.load_at x
              (chunks_for l w.map false x.entries) (addresses_of_pages pages)
              (direct-ready l laid machine stands k w.map w.found none w.load.bio
              (waited-lies l stands laid k z need w).named
              (waited-own l stands laid k z need w) (addresses_of_pages pages)
              (whole-again pages (called-whole a frames l.id a.ready m pages e))
              (as-many pages ∙ count ∙ waited-need l stands laid k z need w)))

      called-keeps : AreLaid (called k (get l.maps k) (addresses_of_pages pages) l).lane
      called-keeps =
          let c = called-length (view_of l) a.ready a m pages fit.well agrees refl e in
          at-map c.2 c.0 c.4 (waits-at l k c.2 c.0 c.3)

  -- ---- a load that has its pages
  ends : {d : Work} {c : Option HubCall} {r : HubReply} → IsDone l d → IsReplyOf l.id a c r → (k : Ends l d c r) →
      AreLaid (finished (map_in k) (was_in k) (place_in k) (asked_in k) (chunks_in k) (pages_in k) l).lane
  ends at e (AtOnce b plain none) =
      finished-laid l laid b.m b.o b.there (unlent b at) l.place (asks b) (chunks b) []
      (ready b at [] tt (sym (eqb-true (need_of (chunks b)) 0 none)))
  ends at e (Device b device first spaces taken) =
      device-finished-laid l laid b.m b.o b.there device (unlent b at) l.place (asks b) first
      (loadable b at (get l.mems b.m) refl) (begins b at)
  ends at e (Granted b plain some pages) =
      finished-laid l laid b.m b.o b.there (unlent b at) l.place (asks b) (chunks b) (addresses_of_pages pages)
      (ready b at (addresses_of_pages pages)
      (whole-again pages (granted-whole a frames (named l b.m) (zone_of_map b.o) (need_of (chunks b)) (asks b).nowait
      pages e))
      (as-many pages ∙ granted-length (named l b.m) (zone_of_map b.o) (need_of (chunks b)) (asks b).nowait a pages e))
  ends at e (Called m pages o v there waits) =
      subst (λ s. AreLaid (called_in m.made_at o s (addresses_of_pages pages) l).lane) waits
      (subst (λ y. AreLaid (called m.made_at y (addresses_of_pages pages) l).lane) there (called-keeps m pages e))

  -- ---- each effect
  makes-laid : {d : Work} {c : Option HubCall} {r : HubReply} {x : Outcome} → IsDone l d → IsReplyOf l.id a c r →
      Makes l d c r x → AreLaid x.lane
  makes-laid at e (Touched t) = touches-laid l laid t
  makes-laid at e (Tags name parent limits t n) = with_tag-still l laid stands t false
  makes-laid at e (Attaches name parent limits t n b g m) = with_tag-still l laid stands t true
  makes-laid at e (Spaces name limits t n) = iommu_tag-still l laid stands t
  makes-laid at e (Untags t none) = untag-still l laid stands t none
  makes-laid at e (Maps name t g there b) = map-still l laid stands t
  makes-laid at e (Creates name t g there b n m) =
      created-still l laid stands t g there (plain-tag g.device (and_parts (not g.device) _ b).0) n.zone.0
  makes-laid at e (Unmaps m o there i) =
      unmap-still l laid m (no-loan l laid m o there (idle-unloaded l laid o.stage i))
  makes-laid at e (Places name t flags o there first count) =
      made-laid l stands laid
      (record { tag = t; first = first.0; count = count; len = o.limits.maxsize; coherent = coherent flags })
      (zero_filled flags) (record { whole = is.frame.whole; room = omega (arith, some.1) }) o there reached
    where
      low : ℕ
      low = o.limits.lowaddr.0

      some : (lowest_run o.limits.maxsize o.limits.boundary low a.bank ≡ Some first.0)
          × (frames_for o.limits.maxsize ≡ count)
      some = run-is (named l l.place) (frames_for o.limits.maxsize)
          (lowest_run o.limits.maxsize o.limits.boundary low a.bank) a first count e

      is : IsGiven low a.bank (frames_for o.limits.maxsize) first.0
      is = given o.limits.maxsize o.limits.boundary low a.bank first.0 frames.bank some.0

      reached : (b : ℕ) → in_run first.0 count b ≡ true → excluded o.limits b ≡ false
      reached b inside =
          let high : b < first.0 + 4096 * count =
          ltb-true b (first.0 + 4096 * count) (and_parts (nat_le first.0 b) _ inside).1 in
          let below : b ≤ low = omega (arith, high, is.low, some.1) in
          ap (λ q. q && nat_le b o.limits.highaddr.0) (le-ltb low b below)
  makes-laid at e (Frees m x there o found i) =
      after-laid l stands laid (agreeing-apart l a agrees stands laid) m x there
      (no-loan l laid m o found (idle-unloaded l laid o.stage i))
  makes-laid at e (Refuses b over x) = staged-still l laid b.m b.o b.there (unlent b at)
  makes-laid at e (Waits b plain some have) = waits-now b at have e some
  makes-laid at e (Loads k f) =
      spaced-still (fitting l (map_in k) (was_in k) (place_in k) (asked_in k) (chunks_in k) (pages_in k)).lane
      (subst (λ y. AreLaid (if y then fitting l (map_in k) (was_in k) (place_in k) (asked_in k) (chunks_in k)
      (pages_in k)
      else too_big l (map_in k) (was_in k) (place_in k) (asked_in k) (chunks_in k) (pages_in k)).lane) f (ends at e k))
      (spaces_in k)
  makes-laid at e (Overflows k f) =
      spaced-still (too_big l (map_in k) (was_in k) (place_in k) (asked_in k) (chunks_in k) (pages_in k)).lane
      (subst (λ y. AreLaid (if y then fitting l (map_in k) (was_in k) (place_in k) (asked_in k) (chunks_in k)
      (pages_in k)
      else too_big l (map_in k) (was_in k) (place_in k) (asked_in k) (chunks_in k) (pages_in k)).lane) f (ends at e k))
      (spaces_in k)
  makes-laid at e (Unloads m o there i) = unload-still l laid m o there
  makes-laid {x = x} at e _ =
      like l laid x.lane (record { script = refl; pages = refl; maxmem = refl; own = λ b. refl; mems = refl })
      (λ n o e. refl) refl refl

-- ---- the turn
module _ (l : LaneState) (a : Account) (stands : Stands l) (agrees : AgreesWith l a) (fit : IsFit a)
    (frames : EachFrame IsFrame a) (machine : IsInMachine l) (laid : AreLaid l) where
  moved : (s : LaneState) (place : ℕ) (due : Bool) → AreLaid s → AreLaid (record s { place = place; due = due })
  moved s place due h =
      like s h (record s { place = place; due = due })
      (record { script = refl; pages = refl; maxmem = refl; own = λ b. refl; mems = refl }) (λ n o e. refl) refl refl

  left : (s : LaneState) (queue : List QueuedItem) → AreLaid s → AreLaid (record s { queue = queue })
  left s queue h =
      like s h (record s { queue = queue })
      (record { script = refl; pages = refl; maxmem = refl; own = λ b. refl; mems = refl }) (λ n o e. refl) refl refl

  steps-laid : {s : Side} {c : Option HubCall} {r : HubReply} {t : Turned} → IsReplyOf l.id a c r → Steps l s c r t →
      AreLaid t.lane
  steps-laid e (Stays t is) = laid
  steps-laid e (Advances {x = x} o at free m) =
      moved x.lane (l.place + 1) false (makes-laid l a stands agrees fit frames machine laid (Next at) e m)
  steps-laid e (Keeps {x = x} o at free s is big held m) =
      moved x.lane x.lane.place true (makes-laid l a stands agrees fit frames machine laid (Next at) e m)
  steps-laid e (Declines s now x why) = moved l (l.place + 1) false laid
  steps-laid e (Resends {x = x} s now c told m) =
      moved x.lane (l.place + 1) false
      (makes-laid (copied s l) a stands agrees fit frames (copied-machine l s machine) (copied-laid l s laid) (Again s)
      e m)
  steps-laid e (Leaves {x = x} q rest is t) = left x.lane rest (touches-laid l laid t)
  steps-laid e (Releases q rest is y there) =
      back-still l laid q rest y there (returning-unloaded l a agrees q rest is)
  steps-laid e (Calls m pages k) = makes-laid l a stands agrees fit frames machine laid (Next tt) e k

  pub turn-laid : (s : Side) → KeepsLaid l.id a (lane_step l s)
  turn-laid s = by (lane_step l s) (turn-steps l s)
    where
      by : (x : Asking Turned) → ((r : HubReply) → Steps l s (call_of x) r (by_reply x r)) → KeepsLaid l.id a x
      by (Gives t) h = steps-laid tt (h reply.Nothing)
      by (Asks c k) h = steps-laid refl (h (account_step l.id c a).reply)
