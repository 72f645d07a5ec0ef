-- No call adds or loses a frame.
use Rattle.std.proofs.Common.{◌≡◌, ℕ, zero, suc, ◌+◌, ◌*◌, ◌<◌, ◌≤◌, Bool, true, false, cond, not, List, [], ◌∷◌, ◌++◌}
use Rattle.std.proofs.Common.{map, take, drop, length, get_or, refl, sym, ap, ◌∙◌, arith, eqb, leb, ne_eqb}
use Rattle.std.proofs.Common.{if◌then◌else◌, ◌==◌, Option, Some, None, nat_lt, Contains}
use Rattle.std.specs.List.{count_by, sum_by, filter}
use Rattle.std.proofs.lemmas.Bool.{eq-eqb, eqb-true}
use Rattle.std.proofs.lemmas.List.Sums.{sum_by-cons, sum_by-append, sum_by-set, sum_by-take-drop}
use Rattle.busdma_machine.specs.declared.name.MapId.{MapId}
use Rattle.busdma_machine.specs.declared.tags.tag.TagLimits.{TagLimits}
use Rattle.busdma_machine.specs.declared.bounce.zone.Waiter.{Waiter}
use Rattle.busdma_machine.specs.declared.bounce.hold.HubCall.{HubCall}
use Rattle.busdma_machine.specs.declared.bounce.hold.HubCall.TheVariants.{AttachTag, CreateMap, DestroyMap, Grab}
use Rattle.busdma_machine.specs.declared.bounce.hold.HubCall.TheVariants.{Release}
use Rattle.busdma_machine.specs.declared.bounce.hold.HubCall.TheVariants.{TakeCallback, MemAlloc, MemFree}
use Rattle.busdma_machine.specs.declared.bounce.hold.HubReply.TheVariants.{Nothing, Granted, Queued, NoPages, Called}
use Rattle.busdma_machine.specs.declared.bounce.hold.HoldEntry.{HoldEntry}
use Rattle.busdma_machine.specs.Bounce.Account.{Account, Zone, Held, Memory, same_map, zone_at, with_zone, no_zone}
use Rattle.busdma_machine.specs.Bounce.Account.{free}
use Rattle.busdma_machine.specs.Bounce.Account.{total}
use Rattle.busdma_machine.specs.Bounce.Growth.{serves_tag, zones_for, zone_for_tag}
use Rattle.busdma_machine.specs.Bounce.Growth.{with_zone_for, added, grown, maxpages}
use Rattle.busdma_machine.specs.Bounce.Growth.{wanted_by_map, with_zone_map}
use Rattle.busdma_machine.specs.Bounce.Serving.{is_holding, handed, waiting_at_tail}
use Rattle.busdma_machine.specs.Bounce.Serving.{returned, completed, left_waiting, served}
use Rattle.busdma_machine.specs.Bounce.MemoryRuns.{in_run, with_memory_run, put_in}
use Rattle.busdma_machine.specs.Bounce.MemoryRuns.{put_all, frames_of, without_memory_run}
use Rattle.busdma_machine.specs.Bounce.AccountStep.{AccountReply, account_step, as_pages}
use Rattle.busdma_machine.specs.Bounce.AccountStep.{created, grabbed, called_from}
use Rattle.busdma_machine.specs.Bounce.AccountStep.{memory_placed}
use Rattle.busdma_machine.specs.Bounce.Conditions.{MayCall, times_held}
use Rattle.busdma_machine.specs.Bounce.History.{IsRising, IsOpening, IsSound, after_entry, account_of}
use Rattle.busdma_machine.specs.Bounce.Places.{times, places, frames_where, frame_total}
use Rattle.busdma_machine.specs.Bounce.WellFormed.{IsAccountWellFormed}
use Rattle.busdma_machine.proofs.Accounts.EditedSums.{count_by-append, sum_by-set_like}
use Rattle.busdma_machine.proofs.Accounts.Counts.{in_zones, head-inside}
use Rattle.busdma_machine.proofs.Accounts.Names.{sum_by-zones_for, and_left}
use Rattle.busdma_machine.proofs.Accounts.WellFormed.{held-inside, well-step, well-opening}

abbrev weight : Bool → ℕ
weight b = cond b 1 0

-- a list of frames is what is taken from it and what is left
count-split : (chosen : ℕ → Bool) (n : ℕ) (fs : List ℕ) →
    count_by chosen (take n fs) + count_by chosen (drop n fs) ≡ count_by chosen fs
count-split chosen n fs = sum_by-take-drop (λ f. weight (chosen f)) fs n

count-append : (chosen : ℕ → Bool) (fs gs : List ℕ) →
    count_by chosen (fs ++ gs) ≡ count_by chosen fs + count_by chosen gs
count-append chosen fs gs = sum_by-append (λ f. weight (chosen f)) fs gs

count-filter : (chosen : ℕ → Bool) (q : ℕ → Bool) (fs : List ℕ) →
    count_by chosen (filter q fs) + count_by chosen (filter (λ f. not (q f)) fs) ≡ count_by chosen fs
count-filter chosen q [] = refl
count-filter chosen q (f ∷ fs) =
    elim (q f) as (λ v. count_by chosen (cond v (f ∷ filter q fs) (filter q fs))
    + count_by chosen (cond (not v) (f ∷ filter (λ f. not (q f)) fs) (filter (λ f. not (q f)) fs))
    ≡ count_by chosen (f ∷ fs)) [
      | true ↦ omega (
        arith,
        count-filter chosen q fs,
        sum_by-cons (λ x. weight (chosen x)) f fs,
        sum_by-cons (λ x. weight (chosen x)) f (filter q fs),
      )
      | false ↦ omega (
        arith,
        count-filter chosen q fs,
        sum_by-cons (λ x. weight (chosen x)) f fs,
        sum_by-cons (λ x. weight (chosen x)) f (filter (λ f. not (q f)) fs),
      )
    ]

count-put_in : (chosen : ℕ → Bool) (f : ℕ) (gs : List ℕ) → count_by chosen (put_in f gs) ≡ count_by chosen (f ∷ gs)
count-put_in chosen f [] = refl
count-put_in chosen f (g ∷ gs) =
    elim (nat_lt f g) as (λ v. count_by chosen (if v then f ∷ g ∷ gs else g ∷ put_in f gs)
    ≡ count_by chosen (f ∷ g ∷ gs)) [
      | true ↦ refl
      | false ↦ omega (
        arith,
        count-put_in chosen f gs,
        sum_by-cons (λ x. weight (chosen x)) g (put_in f gs),
        sum_by-cons (λ x. weight (chosen x)) f (g ∷ gs),
        sum_by-cons (λ x. weight (chosen x)) g gs,
        sum_by-cons (λ x. weight (chosen x)) f gs,
      )
    ]

pub count-put_all : (chosen : ℕ → Bool) (fs gs : List ℕ) →
    count_by chosen (put_all fs gs) ≡ count_by chosen fs + count_by chosen gs
count-put_all chosen [] gs = omega arith
count-put_all chosen (f ∷ fs) gs =
    omega (
      arith,
      count-put_in chosen f (put_all fs gs),
      count-put_all chosen fs gs,
      sum_by-cons (λ x. weight (chosen x)) f (put_all fs gs),
      sum_by-cons (λ x. weight (chosen x)) f fs,
    )

held-map : (chosen : ℕ → Bool) (z : ℕ) (m : MapId) (fs : List ℕ) →
    count_by (λ (h : Held). chosen h.page) (map (λ f. record { page = f; zone = z; map = m }) fs) ≡ count_by chosen fs
held-map chosen z m [] = refl
held-map chosen z m (f ∷ fs) =
    omega (
      arith,
      held-map chosen z m fs,
      sum_by-cons (λ (h : Held). weight (chosen h.page))
          (record { page = f; zone = z; map = m }) (map (λ f. record { page = f; zone = z; map = m }) fs),
      sum_by-cons (λ x. weight (chosen x)) f fs,
    )

-- pages go to a map
where-handed : (chosen : ℕ → Bool) (a : Account) (m : MapId) (z need : ℕ) → z < length a.zones →
    frames_where chosen (handed a m z need) ≡ frames_where chosen a
where-handed chosen a m z need inside =
    omega (
      arith,
      count-split chosen need (zone_at a z).avail,
      held-map chosen z m (take need (zone_at a z).avail),
      count_by-append (λ (h : Held). chosen h.page) a.held
          (map (λ f. record { page = f; zone = z; map = m }) (take need (zone_at a z).avail)),
      sum_by-set (λ (k : Zone). count_by chosen k.avail) a.zones z
          (record (zone_at a z) { avail = drop need (zone_at a z).avail }) no_zone inside,
    )

-- a zone gets another list of waiters or maps
where-same : (chosen : ℕ → Bool) (a : Account) (z : ℕ) (k : Zone) → k.avail ≡ (zone_at a z).avail →
    frames_where chosen (with_zone a z k) ≡ frames_where chosen a
where-same chosen a z k e =
    omega (
      arith,
      sum_by-set_like (λ (s : Zone). count_by chosen s.avail) a.zones z
          k no_zone refl (ap (count_by chosen) e),
    )

-- frames of the bank join a zone
where-grown : (chosen : ℕ → Bool) (a : Account) (z n : ℕ) → z < length a.zones →
    frames_where chosen (grown a z n) ≡ frames_where chosen a
where-grown chosen a z n inside =
    omega (
      arith,
      count-split chosen n a.bank,
      count-append chosen (zone_at a z).avail (take n a.bank),
      sum_by-set (λ (k : Zone). count_by chosen k.avail) a.zones z
          (record (zone_at a z) { avail = (zone_at a z).avail ++ take n a.bank }) no_zone inside,
    )

where-zones_for : (chosen : ℕ → Bool) (t : TagLimits) (a : Account) →
    frames_where chosen (with_zone_for t a) ≡ frames_where chosen a
where-zones_for chosen t a = omega (arith, sum_by-zones_for t (λ (k : Zone). count_by chosen k.avail) refl a.zones)

-- the zone of a tag is among the zones once a missing one is added
pub zone_of-inside : (t : TagLimits) (zs : List Zone) → zone_for_tag t zs < length (zones_for t zs)
zone_of-inside t [] = omega arith
zone_of-inside t (z ∷ zs) =
    elim (serves_tag t z) as (λ v. (if v then 0 else suc (zone_for_tag t zs)) < length
    (z ∷ (if v then zs else zones_for t zs))) [
      | true ↦ omega arith
      | false ↦ omega (arith, zone_of-inside t zs)
    ]

-- a page comes back
held-less : (chosen : ℕ → Bool) (page z : ℕ) (m : MapId) (hs : List Held) →
    count_by (λ (h : Held). chosen h.page) (filter (λ h. not (is_holding m z page h)) hs)
    + count_by (is_holding m z page) hs * weight (chosen page) ≡ count_by (λ (h : Held). chosen h.page) hs
held-less chosen page z m [] = omega arith
held-less chosen page z m (h ∷ hs) =
    (elim (is_holding m z page h) as (λ v. is_holding m z page h ≡ v →
    count_by (λ (h : Held). chosen h.page)
    (cond (not v) (h ∷ filter (λ h. not (is_holding m z page h)) hs)
    (filter (λ h. not (is_holding m z page h)) hs))
    + count_by (is_holding m z page) (h ∷ hs) * weight (chosen page)
    ≡ count_by (λ (h : Held). chosen h.page) (h ∷ hs)) [
      | true ↦ λ w. (let one : weight (is_holding m z page h) ≡ 1 = rw w refl in
          let same : weight (chosen h.page) ≡ weight (chosen page) =
          ap (λ k. weight (chosen k)) (eqb-true h.page page (and_left (eqb h.page page) _ w)) in
          let c : count_by (is_holding m z page) (h ∷ hs) ≡ suc (count_by (is_holding m z page) hs) =
          omega (arith, one, sum_by-cons (λ y. weight (is_holding m z page y)) h hs) in
          rw c (omega (
            arith,
            same,
            held-less chosen page z m hs,
            sum_by-cons (λ (y : Held). weight (chosen y.page)) h hs,
          )))
      | false ↦ λ w. (let none : weight (is_holding m z page h) ≡ 0 = rw w refl in
          let c : count_by (is_holding m z page) (h ∷ hs) ≡ count_by (is_holding m z page) hs =
          omega (arith, none, sum_by-cons (λ y. weight (is_holding m z page y)) h hs) in
          rw c (omega (
            arith,
            held-less chosen page z m hs,
            sum_by-cons (λ (y : Held). weight (chosen y.page)) h hs,
            sum_by-cons (λ (y : Held). weight (chosen y.page)) h (filter (λ h. not (is_holding m z page h)) hs),
          )))
    ]) refl

where-returned : (chosen : ℕ → Bool) (a : Account) (m : MapId) (z page : ℕ) → z < length a.zones →
    times_held m z page a ≡ 1 → frames_where chosen (returned a m z page) ≡ frames_where chosen a
where-returned chosen a m z page inside held =
    let k : times_held m z page a * weight (chosen page) ≡ weight (chosen page) = rw held (omega arith) in
    omega (
      arith,
      k,
      held-less chosen page z m a.held,
      sum_by-cons (λ f. weight (chosen f)) page (zone_at a z).avail,
      sum_by-set (λ (s : Zone). count_by chosen s.avail) a.zones z
          (record (zone_at a z) { avail = page ∷ (zone_at a z).avail }) no_zone inside,
    )

where-served : (chosen : ℕ → Bool) (a : Account) (z : ℕ) → frames_where chosen (served a z) ≡ frames_where chosen a
where-served chosen a z =
    omega (
      arith,
      where-same chosen a z (record (zone_at a z) {
        wait = left_waiting (free a z) (zone_at a z).wait;
        deferred = (zone_at a z).deferred + length (completed (free a z) (zone_at a z).wait);
      }) refl,
    )

-- frames go to a memory, and come back
where-with_memory : (chosen : ℕ → Bool) (a : Account) (m : MapId) (first n : ℕ) →
    frames_where chosen (with_memory_run a m first n) ≡ frames_where chosen a
where-with_memory chosen a m first n =
    let x : Memory = record { mem = m; frames = filter (in_run first n) a.bank } in
    omega (
      arith,
      count-filter chosen (in_run first n) a.bank,
      sum_by-append (λ (y : Memory). count_by chosen y.frames) a.mems (x ∷ []),
      sum_by-cons (λ (y : Memory). count_by chosen y.frames) x [],
    )

pub mems-split : (chosen : ℕ → Bool) (m : MapId) (xs : List Memory) →
    count_by chosen (frames_of m xs) + sum_by (λ (y : Memory). count_by chosen y.frames)
    (filter (λ x. not (same_map m x.mem)) xs) ≡ sum_by (λ (y : Memory). count_by chosen y.frames) xs
mems-split chosen m [] = refl
mems-split chosen m (x ∷ xs) =
    elim (same_map m x.mem) as (λ v. count_by chosen (if v then x.frames ++ frames_of m xs else frames_of m xs)
    + sum_by (λ (y : Memory). count_by chosen y.frames)
    (cond (not v) (x ∷ filter (λ x. not (same_map m x.mem)) xs) (filter (λ x. not (same_map m x.mem)) xs))
    ≡ sum_by (λ (y : Memory). count_by chosen y.frames) (x ∷ xs)) [
      | true ↦ omega (
        arith,
        mems-split chosen m xs,
        count-append chosen x.frames (frames_of m xs),
        sum_by-cons (λ (y : Memory). count_by chosen y.frames) x xs,
      )
      | false ↦ omega (
        arith,
        mems-split chosen m xs,
        sum_by-cons (λ (y : Memory). count_by chosen y.frames) x xs,
        sum_by-cons (λ (y : Memory). count_by chosen y.frames) x (filter (λ x. not (same_map m x.mem)) xs),
      )
    ]

where-without_memory : (chosen : ℕ → Bool) (a : Account) (m : MapId) →
    frames_where chosen (without_memory_run a m) ≡ frames_where chosen a
where-without_memory chosen a m =
    omega (arith, count-put_all chosen (frames_of m a.mems) a.bank, mems-split chosen m a.mems)

-- each call
where-grown_for : (chosen : ℕ → Bool) (t : TagLimits) (a : Account) (n : ℕ) →
    frames_where chosen (grown (with_zone_for t a) (zone_for_tag t a.zones) n) ≡ frames_where chosen a
where-grown_for chosen t a n = where-grown chosen (with_zone_for t a) (zone_for_tag t a.zones) n
    (zone_of-inside t a.zones)
    ∙ where-zones_for chosen t a

where-either : (chosen : ℕ → Bool) (k : ℕ) (b c : Account) (v : Bool) → frames_where chosen b ≡ k →
    frames_where chosen c ≡ k → frames_where chosen (if v then c else b) ≡ k
where-either chosen k b c true s t = t
where-either chosen k b c false s t = s

where-created : (chosen : ℕ → Bool) (m : MapId) (t : TagLimits) (first_done : Bool) (a : Account) →
    frames_where chosen (created m t first_done a).account ≡ frames_where chosen a
where-created chosen m t first_done a =
    let b : Account = with_zone_for t a in
    let z : ℕ = zone_for_tag t a.zones in
    let c : Account = grown b z (added b z (wanted_by_map t first_done (zone_at b z) (total b z) (maxpages t a))) in
    let same : frames_where chosen c ≡ frames_where chosen a = where-grown_for chosen t a _ in
    where-either chosen (frames_where chosen a) c (with_zone_map c z m) _ same (where-same chosen c z _ refl ∙ same)

where-grabbed : (chosen : ℕ → Bool) (m : MapId) (z need : ℕ) (nowait : Bool) (a : Account) → z < length a.zones →
    frames_where chosen (grabbed m z need nowait a).account ≡ frames_where chosen a
where-grabbed chosen m z need nowait a inside =
    elim (leb need (free a z)) as (λ v. let o : AccountReply = if v
    then record { account = handed a m z need; reply = Granted (as_pages (take need (zone_at a z).avail)) }
    else (if nowait then record { account = a; reply = NoPages }
    else record { account = waiting_at_tail a m z need; reply = Queued (free a z) }) in
    frames_where chosen o.account ≡ frames_where chosen a) [
      | true ↦ where-handed chosen a m z need inside
      | false ↦
          (elim nowait as (λ v. let o : AccountReply = if v then record { account = a; reply = NoPages }
          else record { account = waiting_at_tail a m z need; reply = Queued (free a z) } in
          frames_where chosen o.account ≡ frames_where chosen a) [
            | true ↦ refl
            | false ↦ where-same chosen a z _ refl
          ])
    ]

where-called : (chosen : ℕ → Bool) (ws : List Waiter) (lane : ℕ) (a : Account) → a.ready ≡ ws → IsAccountWellFormed a →
    frames_where chosen (called_from ws lane a).account ≡ frames_where chosen a
where-called chosen [] lane a is well = refl
where-called chosen (w ∷ ws) lane a is well =
    elim (eqb w.map.lane.0 lane) as (λ v. let o : AccountReply = if v
    then record {
      account = handed (record a { ready = ws }) w.map w.zone.0 w.need;
      reply = Called w.map (as_pages (take w.need (zone_at a w.zone.0).avail));
    } else record {
      account = a;
      reply =
          Nothing;
    } in frames_where chosen o.account ≡ frames_where chosen a) [
      | true ↦ where-handed chosen (record a { ready = ws }) w.map w.zone.0 w.need (head-inside a w ws is well)
      | false ↦ refl
    ]

where-placed : (chosen : ℕ → Bool) (m : MapId) (n : ℕ) (first : Option ℕ) (a : Account) →
    frames_where chosen (memory_placed m n first a).account ≡ frames_where chosen a
where-placed chosen m n None a = refl
where-placed chosen m n (Some first) a = where-with_memory chosen a m first n

pub where-step : (chosen : ℕ → Bool) (lane : ℕ) (c : HubCall) (a : Account) → MayCall lane c a → IsAccountWellFormed a →
    frames_where chosen (account_step lane c a).account ≡ frames_where chosen a
where-step chosen lane (AttachTag t) a may well = where-grown_for chosen t a _
where-step chosen lane (CreateMap m t first_done) a may well = where-created chosen m t first_done a
where-step chosen lane (DestroyMap m z) a may well = where-same chosen a z.0 _ refl
where-step chosen lane (Grab m z need nowait) a may well =
    where-grabbed chosen m z.0 need nowait a (in_zones a m z.0 may.2)
where-step chosen lane (Release m z page) a may well =
    where-served chosen (returned a m z.0 page.0) z.0
    ∙ where-returned chosen a m z.0 page.0 (held-inside a m z.0 page.0 may.1 well) may.1
where-step chosen lane TakeCallback a may well = where-called chosen a.ready lane a refl well
where-step chosen lane (MemAlloc m t) a may well = where-placed chosen m _ _ a
where-step chosen lane (MemFree m) a may well = where-without_memory chosen a m

pub where-history : (chosen : ℕ → Bool) (a : Account) (es : List HoldEntry) → IsAccountWellFormed a → IsSound a es →
    frames_where chosen (account_of a es) ≡ frames_where chosen a
where-history chosen a [] well sound = refl
where-history chosen a (e ∷ es) well sound =
    where-history chosen (after_entry e a) es (well-step e.lane.0 e.call a sound.0.may well) sound.1
    ∙ where-step chosen e.lane.0 e.call a sound.0.may well

-- all frames
count-all : {X : Type 0} (xs : List X) → count_by (λ (x : X). true) xs ≡ length xs
count-all [] = refl
count-all (x ∷ xs) = omega (arith, count-all xs, sum_by-cons (λ y. 1) x xs)

sum-lengths : {X : Type 0} (f g : X → ℕ) (xs : List X) → ((x : X) → f x ≡ g x) → sum_by f xs ≡ sum_by g xs
sum-lengths f g [] same = refl
sum-lengths f g (x ∷ xs) same = omega (arith, same x, sum-lengths f g xs same, sum_by-cons f x xs, sum_by-cons g x xs)

where-all : (a : Account) → frames_where (λ f. true) a ≡ frame_total a
where-all a =
    omega (
      arith,
      count-all a.bank,
      count-all a.held,
      sum-lengths (λ (z : Zone). count_by (λ f. true) z.avail)
          (λ (z : Zone). length z.avail) a.zones (λ z. count-all z.avail),
      sum-lengths (λ (m : Memory). count_by (λ f. true) m.frames)
          (λ (m : Memory). length m.frames) a.mems (λ m. count-all m.frames),
    )

total-opening : (a : Account) → IsOpening a → frame_total a ≡ length a.bank
total-opening a opening = rw (opening.zones, opening.held, opening.mems) (omega arith)

pub total-stays : (a : Account) (es : List HoldEntry) → IsOpening a → IsSound a es →
    frame_total (account_of a es) ≡ length a.bank
total-stays a es opening sound =
    sym (where-all (account_of a es)) ∙ where-history (λ f. true) a es (well-opening a opening) sound
    ∙ where-all a ∙ total-opening a opening

-- at the opening
pub places-opening : (p : ℕ) (a : Account) → IsOpening a → places p a ≡ times p a.bank
places-opening p a opening = rw (opening.zones, opening.held, opening.mems) (omega arith)

pub places-bank : (p : ℕ) (a : Account) (es : List HoldEntry) → IsOpening a → IsSound a es →
    places p (account_of a es) ≡ times p a.bank
places-bank p a es opening sound =
    where-history (λ f. f == p) a es (well-opening a opening) sound ∙ places-opening p a opening

times-below : (p f : ℕ) (fs : List ℕ) → IsRising (f ∷ fs) → p ≤ f → times p fs ≡ 0
times-below p f [] rising low = refl
times-below p f (g ∷ gs) rising low =
    let off : weight (g == p) ≡ 0 = rw (ne_eqb g p (λ e. absurd (omega (arith, rising.0, low, e)))) refl in
    omega (
      arith,
      off,
      sum_by-cons (λ x. weight (x == p)) g gs,
      times-below p g gs rising.1 (omega (arith, rising.0, low)),
    )

pub tail_rises : (f : ℕ) (fs : List ℕ) → IsRising (f ∷ fs) → IsRising fs
tail_rises f [] rising = tt
tail_rises f (g ∷ gs) rising = rising.1

-- rising frames differ
pub times-rising : (p : ℕ) (fs : List ℕ) → IsRising fs → times p fs ≤ 1
times-rising p [] rising = omega arith
times-rising p (f ∷ fs) rising =
    (elim (eqb f p) as (λ v. eqb f p ≡ v → times p (f ∷ fs) ≤ 1) [
      | true ↦ λ e. (let one : weight (f == p) ≡ 1 = rw e refl in
          omega (
            arith,
            one,
            sum_by-cons (λ x. weight (x == p)) f fs,
            times-below p f fs rising (omega (arith, eqb-true f p e)),
          ))
      | false ↦ λ e. (let none : weight (f == p) ≡ 0 = rw e refl in
          omega (arith, none, sum_by-cons (λ x. weight (x == p)) f fs, times-rising p fs (tail_rises f fs rising)))
    ]) refl

times-at : (p : ℕ) (fs : List ℕ) (k : ℕ) → k < length fs → get_or fs k p ≡ p → 1 ≤ times p fs
times-at p [] k l e = absurd (omega (arith, l))
times-at p (f ∷ fs) zero l e = let one : weight (f == p) ≡ 1 =
    rw (eq-eqb f p e) refl in omega (arith, one, sum_by-cons (λ x. weight (x == p)) f fs)
times-at p (f ∷ fs) (suc k) l e =
    omega (arith, times-at p fs k (omega (arith, l)) e, sum_by-cons (λ x. weight (x == p)) f fs)

pub times-contains : (p : ℕ) (fs : List ℕ) → Contains fs p → 1 ≤ times p fs
times-contains p fs there = times-at p fs there.0 there.1 there.2

pub times-missing : (p : ℕ) (fs : List ℕ) → (Contains fs p → ⊥) → times p fs ≡ 0
times-missing p [] missing = refl
times-missing p (f ∷ fs) missing =
    (elim (eqb f p) as (λ v. eqb f p ≡ v → times p (f ∷ fs) ≡ 0) [
      | true ↦ λ e. absurd (missing (0, omega arith, eqb-true f p e))
      | false ↦ λ e. (let none : weight (f == p) ≡ 0 = rw e refl in
          omega (
            arith,
            none,
            sum_by-cons (λ x. weight (x == p)) f fs,
            times-missing p fs (λ c. missing (suc c.0, omega (arith, c.1), c.2)),
          ))
    ]) refl
