-- What each operation and item that is refused or waits leaves of its driver and of the account.
use Rattle.std.proofs.Common.{◌≡◌, ℕ, zero, suc, ◌==◌, ◌&&◌, Bool, true, false, if◌then◌else◌, List, [], ◌∷◌, ◌++◌}
use Rattle.std.proofs.Common.{length, map, take, drop, Option, Some, None, nat_le, nat_lt, slice_set, refl, sym}
use Rattle.std.proofs.Common.{ap, ◌∙◌, subst, append-nil}
use Rattle.std.specs.Prelude.{slice_index_or}
use Rattle.std.specs.FinMap.{get, contains_key}
use Rattle.std.specs.Option.{option_map}
use Rattle.busdma_machine.specs.declared.bounce.hold.HubReply.TheVariants as reply
use Rattle.busdma_machine.specs.declared.bounce.zone.Waiter.{Waiter}
use Rattle.busdma_machine.specs.declared.machine.bio.Bio.{Bio}
use Rattle.busdma_machine.specs.declared.machine.chunk.Chunk.{Chunk}
use Rattle.busdma_machine.specs.declared.name.MapId.{MapId}
use Rattle.busdma_machine.specs.declared.report.Errno.{Errno}
use Rattle.busdma_machine.specs.declared.report.Errno.TheVariants as errno
use Rattle.busdma_machine.specs.declared.report.Report.{Report}
use Rattle.busdma_machine.specs.declared.tags.tag.TagLimits.{TagLimits}
use Rattle.busdma_machine.specs.Bounce.Account.{Account, Zone, free, no_zone, zone_at}
use Rattle.busdma_machine.specs.Bounce.AccountStep.{AccountReply, account_step, as_pages, memory_placed}
use Rattle.busdma_machine.specs.Bounce.Growth.{grown, with_zone_for}
use Rattle.busdma_machine.specs.Bounce.MemoryRuns.{frames_for, lowest_run}
use Rattle.busdma_machine.specs.Bounce.Serving.{handed, waiting_at_tail}
use Rattle.busdma_machine.specs.Tags.Tag.{could_bounce, effective, space_limits}
use Rattle.busdma_machine.specs.Tags.TagFlags.{allocnow}
use Rattle.busdma_base.specs.declared.journals.answer.Answer.{Answer}
use Rattle.busdma_base.specs.declared.journals.answer.Answer.TheVariants as answer
use Rattle.busdma_base.specs.declared.scenarios.buffer.Buffer.{Buffer}
use Rattle.busdma_base.specs.declared.scenarios.script.Item.{Item}
use Rattle.busdma_base.specs.declared.scenarios.script.Op.{Op}
use Rattle.busdma_base.specs.declared.scenarios.script.Op.TheVariants as op
use Rattle.busdma_base.specs.Scenarios.Operations.{bytes_of, items_of}
use Rattle.busdma_rules.specs.Iommu.Device.{device_chunks, load_frames}
use Rattle.busdma_rules.specs.Iommu.Space.{first_free}
use Rattle.busdma_rules.specs.Segments.Chunks.{need_of}
use Rattle.lane_agreement.specs.After.{addresses_of_pages}
use Rattle.lane_agreement.specs.Agreement.{IsFit}
use Rattle.ideal_lane.specs.Accesses.{cpu_read, cpu_write}
use Rattle.ideal_lane.specs.Agreement.{AgreesWith}
use Rattle.ideal_lane.specs.Asking.{Asking, Gives, Asks}
use Rattle.ideal_lane.specs.Loads.{Asked, are_few, asked, chunks_for, device_load, finished, granted, is_device}
use Rattle.ideal_lane.specs.Loads.{limits_of}
use Rattle.ideal_lane.specs.Loads.{load, load_chunks, staged, taken, unpaged, waiting_load, with_run, with_spaces}
use Rattle.ideal_lane.specs.Loads.{zone_of_map}
use Rattle.ideal_lane.specs.Maps.{await, bounces, end_map, map_destroy}
use Rattle.ideal_lane.specs.Maps as maps
use Rattle.ideal_lane.specs.Memories.{dmamem, dmamem_free, memory_by_reply}
use Rattle.ideal_lane.specs.Outcomes.{Outcome, gives, is_idle, unless_absent}
use Rattle.ideal_lane.specs.Rings.{fits_in}
use Rattle.ideal_lane.specs.Rings.{kick, ring, ring_post}
use Rattle.ideal_lane.specs.State.{LaneState, LaneMap, Stage, Idle, Waiting, Loaded, Returning, WaitingLoad, named}
use Rattle.ideal_lane.specs.Syncs.{sync, sync_range}
use Rattle.ideal_lane.specs.Tags.{device_tag, has_maps, tag, tag_destroy, tag_or_invalid}
use Rattle.ideal_lane.specs.Turns.{bio_at, load_buffer, never_waits, operation}
use Rattle.ideal_lane.specs.Unloads.{unload}
use Rattle.ideal_lane.proofs.Endings.{fits, fitting, too_big}
use Rattle.ideal_lane.proofs.Refusing.{absent, busy, either, judged, unloaded}
use Rattle.ideal_wire.specs.Answered.{Load, load_asked_by}
use Rattle.ideal_laws.specs.Refusals.{tried_at, tried_by}
use Rattle.ideal_laws.proofs.Plain.{PlainBy, PlainErrno, PlainIn, post-plain, range-plain, read-plain, whole-plain}
use Rattle.ideal_laws.proofs.Plain.{write-plain}

-- ---- lists and accounts

pub take-length : (n : ℕ) (xs : List ℕ) → take n xs ≡ take (length (take n xs)) xs
take-length zero xs = refl
take-length (suc n) [] = refl
take-length (suc n) (x ∷ xs) = ap (λ ys. x ∷ ys) (take-length n xs)

drop-length : (n : ℕ) (xs : List ℕ) → drop n xs ≡ drop (length (take n xs)) xs
drop-length zero xs = refl
drop-length (suc n) [] = refl
drop-length (suc n) (x ∷ xs) = drop-length n xs

-- as many pages are handed as there are
pub handed-length : (a : Account) (m : MapId) (z n : ℕ) →
    handed a m z n ≡ handed a m z (length (take n (zone_at a z).avail))
handed-length a m z n = (λ i. record a {
  zones = slice_set a.zones z (record (zone_at a z) { avail = drop-length n (zone_at a z).avail i });
  held = a.held ++ map (λ p. record { page = p; zone = z; map = m }) (take-length n (zone_at a z).avail i);
})

set-own : (zs : List Zone) (z : ℕ) → slice_set zs z (slice_index_or zs z no_zone) ≡ zs
set-own [] z = refl
set-own (x ∷ zs) zero = refl
set-own (x ∷ zs) (suc z) = ap (λ ys. x ∷ ys) (set-own zs z)

-- no page is handed
pub handed-none : (a : Account) (m : MapId) (z : ℕ) → a ≡ handed a m z 0
handed-none a m z = (λ i. record a { zones = sym (set-own a.zones z) i; held = sym (append-nil a.held) i })

pub same-addresses : (pages : List ℕ) → addresses_of_pages (as_pages pages) ≡ pages
same-addresses [] = refl
same-addresses (p ∷ ps) = ap (λ ys. p ∷ ys) (same-addresses ps)

unmade : {X : Type 0} (y : Bool) (x z : X) → y ≡ false → (if y then x else z) ≡ z
unmade true x z e = absurd (cc)
unmade false x z e = refl

-- ---- what is left

-- a load: its map, its bytes, its items, and whether it must not wait
pub record Loading : Type 0 where
  pub map : ℕ
  pub bio : Bio
  pub items : List Item
  pub nowait : Bool

abbrev pub loading_map : Option Loading → Option ℕ
loading_map q = option_map (λ (x : Loading). x.map) q

module _ (l : LaneState) (a : Account) where
  -- the map has got pages, which are in the return queue
  pub record Overfull (ready : List Waiter) (n : ℕ) (after : LaneState) (b : Account) : Type 0 where
    pub own : LaneMap
    pub there : get l.maps n ≡ Some own
    pub pages : List ℕ
    pub first : pages ≡ take (length pages) (zone_at a (zone_of_map own)).avail
    pub lane : after ≡ unpaged n own pages l
    pub account : b ≡ record (handed a (named l n) (zone_of_map own) (length pages)) { ready = ready }

  -- the map waits
  pub record Awaits (q : Loading) (have need : ℕ) (after : LaneState) (b : Account) : Type 0 where
    pub own : LaneMap
    pub there : get l.maps q.map ≡ Some own
    pub load : WaitingLoad
    pub place : load.load_at ≡ l.place
    pub bytes : load.bio ≡ q.bio
    pub items : load.items ≡ q.items
    pub may : q.nowait ≡ false
    pub needs : load.need ≡ need
    pub is_free : have ≡ free a (zone_of_map own)
    pub lane : after ≡ staged q.map own (Waiting load) l
    pub account : b ≡ waiting_at_tail a (named l q.map) (zone_of_map own) need

  -- what holds of the load, if there is one, and what holds if there is none
  abbrev pub OfLoad : (Loading → Type 0) → Option Loading → Type 0
  OfLoad P None = ⊥
  OfLoad P (Some q) = P q

  abbrev pub OfNone : Type 0 → Option Loading → Type 0
  OfNone P None = P
  OfNone P (Some q) = ⊥

  abbrev pub Unmade : TagLimits → ℕ → ℕ → LaneState → Account → Type 0
  Unmade t z n after b = (after ≡ l) × (b ≡ grown (with_zone_for t a) z n)

  -- the driver and the account agree, and the account fits
  abbrev pub Agreed : Type 0
  Agreed = IsFit a × AgreesWith l a

  abbrev pub LeftErrno : Option Loading → List Waiter → Errno → LaneState → Account → Type 0
  LeftErrno q ready errno.EBUSY after b = OfNone ((after ≡ l) × (b ≡ a)) q
  LeftErrno q ready errno.EINVAL after b = (after ≡ tried_by (loading_map q) l) × (b ≡ a)
  LeftErrno q ready errno.ENOMEM after b = (after ≡ tried_by (loading_map q) l) × (b ≡ a)
  LeftErrno q ready errno.EFBIG after b = Agreed → OfLoad (λ x. Overfull ready x.map after b) q
  LeftErrno q ready errno.EINPROGRESS after b = ⊥

  abbrev pub LeftBy : Option Loading → List Waiter → Answer → LaneState → Account → Type 0
  LeftBy q ready (answer.Refused e) after b = LeftErrno q ready e after b
  LeftBy q ready (answer.InProgress have need) after b = OfLoad (λ x. Awaits x have need after b) q
  LeftBy q ready (answer.Grown g) after b =
      OfNone (g.made ≡ false → (t : TagLimits) × Unmade t g.zone.0 g.added after b) q
  LeftBy q ready _ after b = Unit {0}

  abbrev pub Left : Option Loading → List Waiter → Outcome → Account → Type 0
  Left q ready x b = LeftBy q ready x.answer x.lane b

  abbrev pub LeftIn : Option Loading → Asking Outcome → Type 0
  LeftIn q (Gives x) = Left q a.ready x a
  LeftIn q (Asks c k) =
      let s : AccountReply = account_step l.id c a in Left q a.ready (k s.reply) s.account

  report : (q : Option Loading) (r : Report) → LeftIn q (gives l (answer.Report r))
  report q r = tt

  -- the step leaves what its answer says
  plain-left : (x : Asking Outcome) → PlainIn l x → LeftIn None x
  plain-left (Gives x) h = by x.answer x.lane h
    where
      refusal : (e : Errno) (after : LaneState) → PlainErrno l e after → LeftErrno None a.ready e after a
      refusal errno.EINVAL after h = (h, refl)
      refusal errno.EFBIG after h = absurd h
      refusal errno.ENOMEM after h = absurd h
      refusal errno.EINPROGRESS after h = absurd h
      refusal errno.EBUSY after h = absurd h

      by : (r : Answer) (after : LaneState) → PlainBy l r after → LeftBy None a.ready r after a
      by (answer.Refused e) after h = refusal e after h
      by (answer.InProgress have need) after h = absurd h
      by (answer.Grown g) after h = absurd h
      by _ after h = tt
  plain-left (Asks c k) h = absurd h

  -- ---- tags, maps and memories

  tag_or-left : (q : Option TagLimits) → LeftIn None (tag_or_invalid q l)
  tag_or-left None = (refl, refl)
  tag_or-left (Some t) =
      either l (LeftIn None) (report None) (could_bounce t l.maxmem && allocnow t.flags) _ _
      (λ b made. (t, (unmade _ _ _ made, refl))) (λ b. tt)

  tag-left : (parent : Option ℕ) (limits : TagLimits) → LeftIn None (tag parent limits l)
  tag-left None limits = tag_or-left (effective None limits)
  tag-left (Some p) limits =
      absent l (LeftIn None) (report None) (get l.tags p) _ (λ x there. tag_or-left (effective (Some x.limits) limits))

  iommu-left : (q : Option TagLimits) → LeftIn None (device_tag q l)
  iommu-left None = (refl, refl)
  iommu-left (Some t) = tt

  tag_destroy-left : (t : ℕ) → LeftIn None (tag_destroy t l)
  tag_destroy-left t =
      absent l (LeftIn None) (report None) (get l.tags t) _ (λ o there.
      either l (LeftIn None) (report None) (has_maps l t) _ _ (λ some. (refl, refl)) (λ none. tt))

  map-left : (t : ℕ) → LeftIn None (maps.map t l)
  map-left t =
      absent l (LeftIn None) (report None) (get l.tags t) _ (λ g there.
      either l (LeftIn None) (report None) (bounces l.maxmem g) _ _
      (λ b made. (g.limits, (unmade _ _ _ made, unmade _ _ _ made))) (λ b. tt))

  end-left : (m : ℕ) (zone : Option ℕ) → LeftIn None (end_map m zone l)
  end-left m None = tt
  end-left m (Some z) = tt

  map_destroy-left : (m : ℕ) → LeftIn None (map_destroy m l)
  map_destroy-left m =
      absent l (LeftIn None) (report None) (get l.maps m) _ (λ o there.
      either l (LeftIn None) (report None) (is_idle o.stage) (end_map m o.zone l) _ (λ i. end-left m o.zone)
      (λ i. (refl, refl)))

  dmamem-left : (t flags : ℕ) → LeftIn None (dmamem t flags l)
  dmamem-left t flags = absent l (LeftIn None) (report None) (get l.tags t) _ (λ o there.
      by o.limits (lowest_run o.limits.maxsize o.limits.boundary o.limits.lowaddr.0 a.bank))
    where
      by : (x : TagLimits) (y : Option ℕ) →
          let s : AccountReply = memory_placed (named l l.place) (frames_for x.maxsize) y a in
          Left None a.ready (memory_by_reply t x flags l s.reply) s.account
      by x None = (refl, refl)
      by x (Some first) = tt

  dmamem_free-left : (m : ℕ) → LeftIn None (dmamem_free m l)
  dmamem_free-left m =
      absent l (LeftIn None) (report None) (get l.mems m) _ (λ x there.
      absent l (LeftIn None) (report None) (get l.maps m) _ (λ o found.
      either l (LeftIn None) (report None) (is_idle o.stage) _ _ (λ i. tt) (λ i. (refl, refl))))

  await-left : (m : ℕ) → LeftIn None (await m l)
  await-left m =
      absent l (LeftIn None) (report None) (get l.maps m) _ (λ o there.
      either l (LeftIn None) (report None) o.tried _ _ (λ b. tt) (λ b. tt))

  ring-left : (mem slots : ℕ) → LeftIn None (ring mem slots l)
  ring-left mem slots =
      absent l (LeftIn None) (report None) (get l.mems mem) _ (λ x there.
      either l (LeftIn None) (report None) (fits_in slots x) _ _ (λ fit. tt) (λ no. (refl, refl)))

  kick-left : (k : ℕ) (steps : List Item) → LeftIn None (kick k steps l)
  kick-left k steps = absent l (LeftIn None) (report None) (get l.rings k) _ (λ q there. tt)

  unload-left : (m : ℕ) → LeftIn None (unload m l)
  unload-left m = unloaded l (LeftIn None) (report None) m _ (λ o there i. tt)

  -- ---- loads

  -- what a map with pages has got
  pub record HasGot (ready : List Waiter) (n : ℕ) (o : LaneMap) (pages : List ℕ) (b : Account) : Type 0 where
    pub first : pages ≡ take (length pages) (zone_at a (zone_of_map o)).avail
    pub account : b ≡ record (handed a (named l n) (zone_of_map o) (length pages)) { ready = ready }

  -- the map has got no page
  got-none : (n : ℕ) (o : LaneMap) → HasGot a.ready n o [] a
  got-none n o = record { first = refl; account = handed-none a (named l n) (zone_of_map o) }

  -- the map has got so many pages from the head of its zone's list
  got-some : (n : ℕ) (o : LaneMap) (need : ℕ) →
      HasGot a.ready n o (take need (zone_at a (zone_of_map o)).avail) (handed a (named l n) (zone_of_map o) need)
  got-some n o need = record {
    first = take-length need (zone_at a (zone_of_map o)).avail;
    account = handed-length a (named l n) (zone_of_map o) need;
  }

  module _ (q : Loading) (o : LaneMap) (there : get l.maps q.map ≡ Some o) where
    -- a load that has its pages
    module _ (ready : List Waiter) (at : ℕ) (x : Asked) (cs : List Chunk) (pages : List ℕ) (b : Account)
        (got : Agreed → HasGot ready q.map o pages b) where
      big-left : (after : LaneState) → after ≡ unpaged q.map o pages l → Agreed → Overfull ready q.map after b
      big-left after e agreed = record {
        own = o;
        there = there;
        pages = pages;
        first = (got agreed).first;
        lane = e;
        account = (got agreed).account;
      }

      pub finished-left : Left (Some q) ready (finished q.map o at x cs pages l) b
      finished-left = by (fits l q.map o at x cs pages)
        where
          by : (fit : Bool) → Left (Some q) ready
              (if fit then fitting l q.map o at x cs pages else too_big l q.map o at x cs pages) b
          by true = tt
          by false = big-left (unpaged q.map o pages l) refl

    -- a load of an IOMMU tag's map, which gets no page
    spaced-left : (x : Asked) (first : ℕ) → let cs = device_chunks first 0 x.entries in
        Left (Some q) a.ready
        (with_spaces (with_run (are_few (limits_of l o) cs) o.tag first (load_frames x.entries) l.spaces)
        (finished q.map o l.place x cs [] l)) a
    spaced-left x first = by (fits l q.map o l.place x (device_chunks first 0 x.entries) []) refl
      where
        cs : List Chunk
        cs = device_chunks first 0 x.entries

        by : (fit : Bool) → fits l q.map o l.place x (device_chunks first 0 x.entries) [] ≡ fit → Left (Some q) a.ready
            (with_spaces (with_run (are_few (limits_of l o) (device_chunks first 0 x.entries)) o.tag first
            (load_frames x.entries) l.spaces)
            (if fit then fitting l q.map o l.place x (device_chunks first 0 x.entries) []
            else too_big l q.map o l.place x (device_chunks first 0 x.entries) [])) a
        by true e = tt
        by false e =
            big-left a.ready l.place x (device_chunks first 0 x.entries) [] a (λ agreed. got-none q.map o)
            (record (unpaged q.map o [] l) {
              spaces = with_run (are_few (limits_of l o) (device_chunks first 0 x.entries)) o.tag first
                  (load_frames x.entries) l.spaces;
            })
            (ap (λ few. record (unpaged q.map o [] l) {
              spaces = with_run few o.tag first (load_frames x.entries)
                  l.spaces;
            }) e)

    module _ (idle : is_idle o.stage ≡ true) where
      idle-is : (s : Stage) → is_idle s ≡ true → Idle ≡ s
      idle-is Idle i = refl
      idle-is (Waiting w) i = absurd (cc)
      idle-is (Loaded bounced segments pages) i = absurd (cc)
      idle-is Returning i = absurd (cc)

      -- the map was tried
      tried-is : staged q.map o Idle l ≡ tried_by (Some q.map) l
      tried-is =
          ap (λ s. staged q.map o s l) (idle-is o.stage idle) ∙ ap (λ y. tried_at q.map y l) (sym there)

      taken-left : (x : Asked) (y : Option ℕ) → Left (Some q) a.ready (taken q.map o x y l) a
      taken-left x None = (tried-is, refl)
      taken-left x (Some first) = spaced-left x first

      device-left : (x : Asked) → Left (Some q) a.ready (device_load q.map o x l) a
      device-left x = by (length (load_frames x.entries) == 0)
        where
          by : (none : Bool) → Left (Some q) a.ready
              (if none then finished q.map o l.place x (device_chunks 0 0 x.entries) [] l
              else taken q.map o x (first_free (l.spaces o.tag) (length (load_frames x.entries))) l) a
          by true =
              finished-left a.ready l.place x (device_chunks 0 0 x.entries) [] a (λ agreed. got-none q.map o)
          by false = taken-left x (first_free (l.spaces o.tag) (length (load_frames x.entries)))

      -- the wish for pages
      module _ (x : Asked) (bio : x.bio ≡ q.bio) (items : x.items ≡ q.items) (nowait : x.nowait ≡ q.nowait)
          (cs : List Chunk) where
        abbrev need : ℕ
        need = need_of cs

        abbrev avail : List ℕ
        avail = (zone_at a (zone_of_map o)).avail

        abbrev grabs : Bool → Bool → AccountReply
        grabs enough unwaiting =
            if enough then record {
              account = handed a (named l q.map) (zone_of_map o) need;
              reply = reply.Granted (as_pages (take need avail));
            }
            else if unwaiting then record { account = a; reply = reply.NoPages }
            else record {
              account = waiting_at_tail a (named l q.map) (zone_of_map o) need;
              reply = reply.Queued (free a (zone_of_map o));
            }

        grab-left : (enough unwaiting : Bool) → x.nowait ≡ unwaiting →
            Left (Some q) a.ready (granted q.map o x cs l (grabs enough unwaiting).reply)
            (grabs enough unwaiting).account
        grab-left true unwaiting e =
            subst (λ ps. Left (Some q) a.ready (finished q.map o l.place x cs ps l)
            (handed a (named l q.map) (zone_of_map o) need)) (sym (same-addresses (take need avail)))
            (finished-left a.ready l.place x cs (take need avail) (handed a (named l q.map) (zone_of_map o) need)
            (λ agreed. got-some q.map o need))
        grab-left false true e = (tried-is, refl)
        grab-left false false e = record {
          own = o;
          there = there;
          load = waiting_load l x cs;
          place = refl;
          bytes = bio;
          items = items;
          may = sym nowait ∙ e;
          needs = refl;
          is_free = refl;
          lane = refl;
          account = refl;
        }

        chunks-left : LeftIn (Some q) (load_chunks q.map o x cs l)
        chunks-left =
            either l (LeftIn (Some q)) (report (Some q)) (need_of cs == 0) _ _
            (λ none. finished-left a.ready l.place x cs [] a (λ agreed. got-none q.map o))
            (λ some. grab-left (nat_le need (free a (zone_of_map o))) x.nowait refl)

  pub load-left : (q : Loading) (x : Asked) → x.bio ≡ q.bio → x.items ≡ q.items → x.nowait ≡ q.nowait →
      LeftIn (Some q) (load q.map x l)
  load-left q x bio items nowait =
      busy l (LeftIn (Some q)) (report (Some q)) q.map _ (λ o there idle.
      judged l (LeftIn (Some q)) (report (Some q)) x.judged _ (λ fine.
      either l (LeftIn (Some q)) (report (Some q)) (nat_lt (limits_of l o).maxsize x.len) _ _
      (λ long. (tried-is q o there idle, refl)) (λ short.
      either l (LeftIn (Some q)) (report (Some q)) (is_device l o) _ _ (λ device. device-left q o there idle x)
      (λ plain. chunks-left q o there idle x bio items nowait (chunks_for l o (contains_key l.mems q.map) x.entries)))))

  -- ---- all operations

  -- the load that an operation begins
  abbrev pub loading_of : Op → Option Loading
  loading_of (op.Load n x flags items) =
      option_map (λ b. record { map = n; bio = b; items = items; nowait = never_waits x flags }) (bio_at l x)
  loading_of _ = None

  buffer-left : (n : ℕ) (x : Buffer) (flags : ℕ) (items : List Item) →
      LeftIn (loading_of (op.Load n x flags items)) (load_buffer n x flags items l)
  buffer-left n x flags items = by (bio_at l x)
    where
      by : (y : Option Bio) →
          LeftIn (option_map (λ b. record { map = n; bio = b; items = items; nowait = never_waits x flags }) y)
          (unless_absent y l (λ b. load n (asked n b (never_waits x flags) items l) l))
      by None = tt
      by (Some b) =
          load-left (record { map = n; bio = b; items = items; nowait = never_waits x flags })
          (asked n b (never_waits x flags) items l) refl refl refl

  pub operation-left : (o : Op) → LeftIn (loading_of o) (operation o l)
  operation-left (op.Tag name parent limits) = tag-left parent limits
  operation-left (op.IommuTag name limits) = iommu-left (effective None (space_limits limits))
  operation-left (op.TagDestroy t) = tag_destroy-left t
  operation-left (op.Map name t) = map-left t
  operation-left (op.MapDestroy m) = map_destroy-left m
  operation-left (op.Dmamem name t flags) = dmamem-left t flags
  operation-left (op.DmamemFree m) = dmamem_free-left m
  operation-left (op.Load n x flags items) = buffer-left n x flags items
  operation-left (op.Unload m) = unload-left m
  operation-left (op.Sync m ops) = plain-left (sync m ops l) (whole-plain l m ops)
  operation-left (op.SyncRange m off len ops) = plain-left (sync_range m off len ops l) (range-plain l m off len ops)
  operation-left (op.CpuRead place len) = plain-left (cpu_read place len l) (read-plain l place len)
  operation-left (op.CpuWrite place bytes) =
      plain-left (cpu_write place (bytes_of bytes) l) (write-plain l place (bytes_of bytes))
  operation-left (op.Await m) = await-left m
  operation-left (op.Ring name mem slots) = ring-left mem slots
  operation-left (op.RingPost k slot m off len kind fill) =
      plain-left (ring_post k slot m off len kind fill l) (post-plain l k slot m off len kind fill)
  operation-left (op.Kick k steps) = kick-left k steps

  -- what it loads and its items are as the script has them
  pub loads-map : (o : Op) → option_map (λ (x : Load). x.map) (load_asked_by o l) ≡ loading_map (loading_of o)
  loads-map (op.Load n x flags items) = by (bio_at l x)
    where
      by : (y : Option Bio) → option_map (λ (x : Load). x.map) (option_map (λ b. record { map = n; bio = b }) y)
          ≡ loading_map (option_map (λ b. record { map = n; bio = b; items = items; nowait = never_waits x flags }) y)
      by None = refl
      by (Some b) = refl
  loads-map _ = refl

  pub record IsOperation (o : Op) (q : Loading) : Type 0 where
    pub bytes : load_asked_by o l ≡ Some (record { map = q.map; bio = q.bio })
    pub items : items_of o ≡ q.items

  pub of-operation : (o : Op) (q : Loading) → loading_of o ≡ Some q → IsOperation o q
  of-operation (op.Load n x flags items) q is = by (bio_at l x) refl is
    where
      by : (y : Option Bio) → bio_at l x ≡ y →
          option_map (λ b. record { map = n; bio = b; items = items; nowait = never_waits x flags }) y ≡ Some q →
          IsOperation (op.Load n x flags items) q
      by None e is = absurd (cc)
      by (Some b) e is =
          let same : record { map = n; bio = b; items = items; nowait = never_waits x flags } ≡ q = cc in
          record {
            bytes =
                ap (option_map (λ b. record { map = n; bio = b })) e
                ∙ ap (λ (z : Loading). Some (record { map = z.map; bio = z.bio })) same;
            items = ap (λ (z : Loading). z.items) same;
          }
  of-operation _ q is = absurd (cc)
