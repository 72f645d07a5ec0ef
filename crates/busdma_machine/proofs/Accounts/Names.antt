-- A call for one name changes nothing that the account has of another name, of any lane.
use Rattle.std.proofs.Common.{◌≡◌, ◌≢◌, ℕ, zero, suc, ◌+◌, ◌-◌, Bool, true, false, cond, not, ◌&&◌, List, [], ◌∷◌}
use Rattle.std.proofs.Common.{◌++◌, map, take, drop, length, get_or, refl, sym, ap, ◌∙◌, subst, arith, eqb, leb}
use Rattle.std.proofs.Common.{ne_eqb, if◌then◌else◌, Option, Some, None}
use Rattle.std.proofs.lemmas.Bool.{false≢true, eqb-true, eq-eqb}
use Rattle.std.specs.List.{count_by, sum_by, filter}
use Rattle.std.proofs.lemmas.List.Sums.{sum_by-cons}
use Rattle.busdma_machine.specs.declared.name.MapId.{MapId}
use Rattle.busdma_machine.specs.declared.bounce.zone.Waiter.{Waiter}
use Rattle.busdma_machine.specs.declared.tags.tag.TagLimits.{TagLimits}
use Rattle.busdma_machine.specs.declared.bounce.hold.HubReply.TheVariants.{Granted, Queued, NoPages}
use Rattle.busdma_machine.specs.Bounce.Account.{Account, Zone, Held, Memory, same_map, zone_at, with_zone, no_zone}
use Rattle.busdma_machine.specs.Bounce.Account.{free}
use Rattle.busdma_machine.specs.Bounce.Account.{total}
use Rattle.busdma_machine.specs.Bounce.Growth.{serves_tag, new_zone, zones_for}
use Rattle.busdma_machine.specs.Bounce.Growth.{zone_for_tag, with_zone_for, added, grown}
use Rattle.busdma_machine.specs.Bounce.Growth.{maxpages, wanted_by_map}
use Rattle.busdma_machine.specs.Bounce.Growth.{with_zone_map, without_zone_map}
use Rattle.busdma_machine.specs.Bounce.Serving.{is_holding, handed, waiting_at_tail}
use Rattle.busdma_machine.specs.Bounce.Serving.{returned, completed, left_waiting, served}
use Rattle.busdma_machine.specs.Bounce.MemoryRuns.{with_memory_run}
use Rattle.busdma_machine.specs.Bounce.MemoryRuns.{without_memory_run, frames_of}
use Rattle.busdma_machine.specs.Bounce.AccountStep.{AccountReply, as_pages, attached}
use Rattle.busdma_machine.specs.Bounce.AccountStep.{created, grabbed, released, memory_placed}
use Rattle.busdma_machine.proofs.Accounts.EditedSums.{get_or-set_as, sum_by-set_less, sum_by-set_like}
use Rattle.busdma_machine.proofs.Accounts.EditedSums.{count_by-filter_keeps, count_by-map_none, count_by-append}
use Rattle.busdma_machine.proofs.Accounts.EditedSums.{count_by-one_no, count_by-push_no}
use Rattle.busdma_machine.specs.Bounce.Share.{Share, Same, share, is_waiter, waiters}

pub Same-refl : (s : Share) → Same s s
Same-refl s =
    record {
      made = λ z. refl;
      in_zones = refl;
      holds = refl;
      holds_page = λ z p. refl;
      waits = λ z n. refl;
      listed = refl;
      mems = refl;
      frames = refl;
    }

pub Same-trans : (s t u : Share) → Same s t → Same t u → Same s u
Same-trans s t u p q = record {
  made = λ z. q.made z ∙ p.made z;
  in_zones = q.in_zones ∙ p.in_zones;
  holds = q.holds ∙ p.holds;
  holds_page = λ z k. q.holds_page z k ∙ p.holds_page z k;
  waits = λ z n. q.waits z n ∙ p.waits z n;
  listed = q.listed ∙ p.listed;
  mems = q.mems ∙ p.mems;
  frames = q.frames ∙ p.frames;
}

pub and_none : (a b : Bool) → b ≡ false → (a && b) ≡ false
and_none true b e = e
and_none false b e = refl

pub and_left : (a b : Bool) → (a && b) ≡ true → a ≡ true
and_left true b e = refl
and_left false b e = e

pub and_right : (a b : Bool) → (a && b) ≡ true → b ≡ true
and_right true b e = e
and_right false b e = absurd (false≢true e)

abbrev weight : Bool → ℕ
weight b = cond b 1 0

-- serving moves waiters into the callback list
pub waits-served : (p : Waiter → Bool) (pages : ℕ) (ws : List Waiter) →
    ((w : Waiter) (k : ℕ) → p (record w { have = k }) ≡ p w) →
    count_by p (left_waiting pages ws) + count_by p (completed pages ws) ≡ count_by p ws
waits-served p pages [] h = refl
waits-served p pages (w ∷ ws) h =
    elim (leb (w.need - w.have) pages) as (λ v. count_by p (if v then left_waiting (pages - (w.need - w.have)) ws
    else record w { have = w.have + pages } ∷ ws)
    + count_by p (if v then record w { have = w.need } ∷ completed (pages - (w.need - w.have)) ws else [])
    ≡ count_by p (w ∷ ws)) [
      | true ↦ omega (
        arith,
        waits-served p (pages - (w.need - w.have)) ws h,
        sum_by-cons (λ x. weight (p x)) (record w { have = w.need }) (completed (pages - (w.need - w.have)) ws),
        sum_by-cons (λ x. weight (p x)) w ws,
        ap weight (h w w.need),
      )
      | false ↦ omega (
        arith,
        sum_by-cons (λ x. weight (p x)) (record w { have = w.have + pages }) ws,
        sum_by-cons (λ x. weight (p x)) w ws,
        ap weight (h w (w.have + pages)),
      )
    ]

-- added zones have no page, map or waiter
module _ (t : TagLimits) where
  pub get_or-zones_for : {Y : Type 0} (g : Zone → Y) → g (new_zone t) ≡ g no_zone → (zs : List Zone) (z : ℕ) →
      g (get_or (zones_for t zs) z no_zone) ≡ g (get_or zs z no_zone)
  get_or-zones_for g e [] zero = e
  get_or-zones_for g e [] (suc z) = refl
  get_or-zones_for g e (x ∷ xs) zero = refl
  get_or-zones_for g e (x ∷ xs) (suc z) =
      elim (serves_tag t x) as (λ v. g (get_or (if v then xs else zones_for t xs) z no_zone) ≡ g (get_or xs z no_zone))
      [ true ↦ refl | false ↦ get_or-zones_for g e xs z ]

  pub sum_by-zones_for : (f : Zone → ℕ) → f (new_zone t) ≡ 0 → (zs : List Zone) →
      sum_by f (zones_for t zs) ≡ sum_by f zs
  sum_by-zones_for f e [] = omega (arith, sum_by-cons f (new_zone t) [])
  sum_by-zones_for f e (x ∷ xs) =
      omega (
        arith,
        sum_by-cons f x (if serves_tag t x then xs else zones_for t xs),
        sum_by-cons f x xs,
        (elim (serves_tag t x) as (λ v. sum_by f (if v then xs else zones_for t xs) ≡ sum_by f xs)
            [ true ↦ refl | false ↦ sum_by-zones_for f e xs ]),
      )

-- names that are not different are the same
pub same_map-same : (m n : MapId) → same_map m n ≡ true → m ≡ n
same_map-same m n e =
    ap (λ k. record { lane = record { 0 = k }; made_at = m.made_at })
    (eqb-true m.lane.0 n.lane.0 (and_left (eqb m.lane.0 n.lane.0) (eqb m.made_at n.made_at) e))
    ∙ ap (λ k. record { lane = n.lane; made_at = k })
    (eqb-true m.made_at n.made_at (and_right (eqb m.lane.0 n.lane.0) (eqb m.made_at n.made_at) e))

pub same_map-self : (m : MapId) → same_map m m ≡ true
same_map-self m = rw (eq-eqb m.lane.0 m.lane.0 refl, eq-eqb m.made_at m.made_at refl) refl

pub same_map-apart : (lane : ℕ) (m n : MapId) → m.lane.0 ≡ lane → n.lane.0 ≢ lane → same_map m n ≡ false
same_map-apart lane m n own other = rw (ne_eqb m.lane.0 n.lane.0 (λ e. other (sym e ∙ own))) refl

-- what belongs to one name does not belong to another
pub off_name : (m n k : MapId) → same_map m n ≡ false → same_map m k ≡ true → same_map n k ≡ false
off_name m n k off here =
    (elim (same_map n k) as (λ v. same_map n k ≡ v → v ≡ false) [
      | true ↦ λ e. absurd (false≢true (sym (subst (λ x. same_map m x ≡ false) (same_map-same n k e) off) ∙ here))
      | false ↦ λ e. refl
    ]) refl

-- a test that no waiter of another name passes, and that ignores how many pages a waiter has
pub record OnName (m : MapId) (test : Waiter → Bool) : Type 0 where
  pub apart : (w : Waiter) → same_map m w.map ≡ false → test w ≡ false
  pub have : (w : Waiter) (k : ℕ) → test (record w { have = k }) ≡ test w

pub any_waiter : (m : MapId) → OnName m (λ w. same_map m w.map)
any_waiter m = record { apart = λ w e. e; have = λ w k. refl }

pub one_waiter : (m : MapId) (z need : ℕ) → OnName m (is_waiter m z need)
one_waiter m z need =
    record { apart = λ w e. and_none (eqb w.need need) _ (and_none (eqb w.zone.0 z) _ e); have = λ w k. refl }

-- an account with the same maps of zones, held pages and memories
pub other_zones : (m : MapId) (a b : Account) →
    ((z : ℕ) → count_by (same_map m) (zone_at b z).maps ≡ count_by (same_map m) (zone_at a z).maps) →
    sum_by (λ (z : Zone). count_by (same_map m) z.maps) b.zones
    ≡ sum_by (λ (z : Zone). count_by (same_map m) z.maps) a.zones
    → ((test : Waiter → Bool) → OnName m test → waiters test b ≡ waiters test a) → b.held ≡ a.held →
    b.mems ≡ a.mems → Same (share m a) (share m b)
other_zones m a b made in_zones waits held mems = record {
  made = made;
  in_zones = in_zones;
  holds = ap (λ hs. count_by (λ (h : Held). same_map m h.map) hs) held;
  holds_page = λ z p. ap (λ hs. count_by (is_holding m z p) hs) held;
  waits = λ z need. waits (is_waiter m z need) (one_waiter m z need);
  listed = waits (λ w. same_map m w.map) (any_waiter m);
  mems = ap (λ xs. count_by (λ (x : Memory). same_map m x.mem) xs) mems;
  frames = ap (λ xs. frames_of m xs) mems;
}

pub name-with_zone : (m : MapId) (a : Account) (z : ℕ) (zone : Zone) →
    count_by (same_map m) zone.maps ≡ count_by (same_map m) (zone_at a z).maps
    → ((test : Waiter → Bool) → OnName m test → count_by test zone.wait ≡ count_by test (zone_at a z).wait) →
    Same (share m a) (share m (with_zone a z zone))
name-with_zone m a z zone maps waits =
    other_zones m a (with_zone a z zone) (λ y. get_or-set_as
    (λ (s : Zone). count_by (same_map m) s.maps) a.zones z y zone no_zone maps)
    (sum_by-set_like (λ (s : Zone). count_by (same_map m) s.maps) a.zones z zone no_zone refl maps)
    (λ test on. ap (λ k. k + count_by test a.ready)
    (sum_by-set_like (λ (s : Zone). count_by test s.wait) a.zones z zone no_zone refl (waits test on))) refl refl

-- an account with other held pages
pub name-held : (m : MapId) (a : Account) (held : List Held) →
    count_by (λ (h : Held). same_map m h.map) held ≡ count_by (λ (h : Held). same_map m h.map) a.held
    → ((z p : ℕ) → count_by (is_holding m z p) held ≡ count_by (is_holding m z p) a.held) →
    Same (share m a) (share m (record a { held = held }))
name-held m a held all each =
    record {
      made = λ z. refl;
      in_zones = refl;
      holds = all;
      holds_page = each;
      waits = λ z n. refl;
      listed = refl;
      mems = refl;
      frames = refl;
    }

module _ (m n : MapId) (off : same_map m n ≡ false) where
  pub name-handed : (a : Account) (z need : ℕ) → Same (share m a) (share m (handed a n z need))
  name-handed a z need =
      let zone : Zone = zone_at a z in
      let b : Account = with_zone a z (record zone { avail = drop need zone.avail }) in
      let more : List Held = map (λ p. record { page = p; zone = z; map = n }) (take need zone.avail) in
      Same-trans (share m a) (share m b) _ (name-with_zone m a z _ refl (λ test on. refl))
      (name-held m b (a.held ++ more)
      (omega (
        arith,
        count_by-append (λ (h : Held). same_map m h.map) a.held more,
        count_by-map_none (λ (h : Held). same_map m h.map) (λ p. record { page = p; zone = z; map = n })
            (take need zone.avail) (λ p. off),
      ))
      (λ y p. omega (
        arith,
        count_by-append (is_holding m y p) a.held more,
        count_by-map_none (is_holding m y p) (λ q. record { page = q; zone = z; map = n }) (take need zone.avail)
            (λ q. and_none (eqb q p) _ (and_none (eqb z y) _ off)),
      )))

  pub name-queued : (a : Account) (z need : ℕ) → Same (share m a) (share m (waiting_at_tail a n z need))
  name-queued a z need =
      let w : Waiter = record { map = n; zone = record { 0 = z }; need = need; have = free a z } in
      name-with_zone m a z _ refl (λ test on. count_by-push_no test (zone_at a z).wait w (on.apart w off))

  pub name-grabbed : (a : Account) (z need : ℕ) (nowait : Bool) →
      Same (share m a) (share m (grabbed n z need nowait a).account)
  name-grabbed a z need nowait =
      elim (leb need (free a z)) as (λ v. let o : AccountReply = if v
      then record { account = handed a n z need; reply = Granted (as_pages (take need (zone_at a z).avail)) }
      else (if nowait then record { account = a; reply = NoPages }
      else record { account = waiting_at_tail a n z need; reply = Queued (free a z) }) in
      Same (share m a) (share m o.account)) [
        | true ↦ name-handed a z need
        | false ↦
            (elim nowait as (λ v. let o : AccountReply = if v then record { account = a; reply = NoPages }
            else record { account = waiting_at_tail a n z need; reply = Queued (free a z) } in
            Same (share m a) (share m o.account)) [ true ↦ Same-refl (share m a) | false ↦ name-queued a z need ])
      ]

  pub name-without_map : (a : Account) (z : ℕ) → Same (share m a) (share m (without_zone_map a z n))
  name-without_map a z =
      name-with_zone m a z _
      (count_by-filter_keeps (same_map m) (λ k. not (same_map n k)) (zone_at a z).maps
      (λ k h. let none : same_map n k ≡ false = off_name m n k off h in rw none refl)) (λ test on. refl)

  pub name-with_map : (a : Account) (z : ℕ) → Same (share m a) (share m (with_zone_map a z n))
  name-with_map a z = name-with_zone m a z _ (count_by-push_no (same_map m) (zone_at a z).maps n off) (λ test on. refl)

  still : (z page : ℕ) (h : Held) → same_map m h.map ≡ true → not (is_holding n z page h) ≡ true
  still z page h e =
      let none : is_holding n z page h ≡ false =
      and_none (eqb h.page page) _ (and_none (eqb h.zone z) _ (off_name m n h.map off e)) in
      rw none refl

  pub name-returned : (a : Account) (z page : ℕ) → Same (share m a) (share m (returned a n z page))
  name-returned a z page =
      let zone : Zone = zone_at a z in
      let b : Account = with_zone a z (record zone { avail = page ∷ zone.avail }) in
      Same-trans (share m a) (share m b) _ (name-with_zone m a z _ refl (λ test on. refl))
      (name-held m b (filter (λ h. not (is_holding n z page h)) a.held)
      (count_by-filter_keeps (λ (h : Held). same_map m h.map) (λ h. not (is_holding n z page h)) a.held (still z page))
      (λ y p. count_by-filter_keeps (is_holding m y p) (λ h. not (is_holding n z page h)) a.held
      (λ h own. still z page h (and_right (eqb h.zone y) _ (and_right (eqb h.page p) _ own)))))

  frames-push : (xs : List Memory) (x : Memory) → same_map m x.mem ≡ false →
      frames_of m (xs ++ x ∷ []) ≡ frames_of m xs
  frames-push [] x e = rw e refl
  frames-push (y ∷ ys) x e = ap (λ fs. if same_map m y.mem then y.frames ++ fs else fs) (frames-push ys x e)

  frames-filter : (q : Memory → Bool) (xs : List Memory) → ((x : Memory) → same_map m x.mem ≡ true → q x ≡ true) →
      frames_of m (filter q xs) ≡ frames_of m xs
  frames-filter q [] h = refl
  frames-filter q (x ∷ xs) h =
      (elim (q x) as (λ v. q x ≡ v → frames_of m (cond v (x ∷ filter q xs) (filter q xs)) ≡ frames_of m (x ∷ xs)) [
        | true ↦ λ w. ap (λ fs. if same_map m x.mem then x.frames ++ fs else fs) (frames-filter q xs h)
        | false ↦
            λ w. (elim (same_map m x.mem) as (λ u. same_map m x.mem ≡ u →
            frames_of m (filter q xs) ≡ (if u then x.frames ++ frames_of m xs else frames_of m xs)) [
              | true ↦ λ u. absurd (false≢true (sym w ∙ h x u))
              | false ↦ λ u. frames-filter q xs h
            ]) refl
      ]) refl

  pub name-with_memory : (a : Account) (first k : ℕ) → Same (share m a) (share m (with_memory_run a n first k))
  name-with_memory a first k =
      record {
        made = λ z. refl;
        in_zones = refl;
        holds = refl;
        holds_page = λ z p. refl;
        waits = λ z d. refl;
        listed = refl;
        mems = count_by-push_no (λ (x : Memory). same_map m x.mem) a.mems _ off;
        frames = frames-push a.mems _ off;
      }

  pub name-placed : (a : Account) (k : ℕ) (first : Option ℕ) →
      Same (share m a) (share m (memory_placed n k first a).account)
  name-placed a k None = Same-refl (share m a)
  name-placed a k (Some first) = name-with_memory a first k

  pub name-without_memory : (a : Account) → Same (share m a) (share m (without_memory_run a n))
  name-without_memory a =
      let keeps : (x : Memory) → same_map m x.mem ≡ true → not (same_map n x.mem) ≡ true =
      (λ x h. let none : same_map n x.mem ≡ false = off_name m n x.mem off h in rw none refl) in
      record {
        made = λ z. refl;
        in_zones = refl;
        holds = refl;
        holds_page = λ z p. refl;
        waits = λ z d. refl;
        listed = refl;
        mems = count_by-filter_keeps (λ (x : Memory). same_map m x.mem) (λ x. not (same_map n x.mem)) a.mems keeps;
        frames = frames-filter (λ x. not (same_map n x.mem)) a.mems keeps;
      }

-- what a call changes for every name
pub waiters-served : (m : MapId) (a : Account) (z : ℕ) (test : Waiter → Bool) → OnName m test →
    waiters test (served a z) ≡ waiters test a
waiters-served m a z test on =
    let zone : Zone = zone_at a z in
    let pages : ℕ = free a z in
    let done : List Waiter = completed pages zone.wait in
    let after : Zone = record zone { wait = left_waiting pages zone.wait; deferred = zone.deferred + length done } in
    omega (
      arith,
      sum_by-set_less (λ (s : Zone). count_by test s.wait) a.zones z (count_by test done) after no_zone
          refl (waits-served test pages zone.wait on.have),
      count_by-append test a.ready done,
    )

pub name-served : (m : MapId) (a : Account) (z : ℕ) → Same (share m a) (share m (served a z))
name-served m a z =
    other_zones m a (served a z) (λ y. get_or-set_as
    (λ (s : Zone). count_by (same_map m) s.maps) a.zones z y _ no_zone refl)
    (sum_by-set_like (λ (s : Zone). count_by (same_map m) s.maps) a.zones z _ no_zone refl refl) (waiters-served m a z)
    refl refl

pub name-with_zone_for : (m : MapId) (t : TagLimits) (a : Account) → Same (share m a) (share m (with_zone_for t a))
name-with_zone_for m t a =
    other_zones m a (with_zone_for t a) (λ z. get_or-zones_for t
    (λ (s : Zone). count_by (same_map m) s.maps) refl a.zones z)
    (sum_by-zones_for t (λ (s : Zone). count_by (same_map m) s.maps) refl a.zones)
    (λ test on. ap (λ k. k + count_by test a.ready)
    (sum_by-zones_for t (λ (s : Zone). count_by test s.wait) refl a.zones)) refl refl

pub name-grown : (m : MapId) (a : Account) (z n : ℕ) → Same (share m a) (share m (grown a z n))
name-grown m a z n =
    Same-trans (share m a) (share m (record a { bank = drop n a.bank })) _
    (record {
      made = λ y. refl;
      in_zones = refl;
      holds = refl;
      holds_page = λ y p. refl;
      waits = λ y d. refl;
      listed = refl;
      mems = refl;
      frames = refl;
    })
    (name-with_zone m (record a { bank = drop n a.bank }) z _ refl (λ test on. refl))

pub name-grown_for : (m : MapId) (t : TagLimits) (a : Account) (n : ℕ) →
    Same (share m a) (share m (grown (with_zone_for t a) (zone_for_tag t a.zones) n))
name-grown_for m t a n =
    Same-trans (share m a) (share m (with_zone_for t a)) _ (name-with_zone_for m t a)
    (name-grown m (with_zone_for t a) (zone_for_tag t a.zones) n)

pub name-attached : (m : MapId) (t : TagLimits) (a : Account) → Same (share m a) (share m (attached t a).account)
name-attached m t a = name-grown_for m t a _

either : (m : MapId) (a b c : Account) (v : Bool) → Same (share m a) (share m b) → Same (share m a) (share m c) →
    Same (share m a) (share m (if v then c else b))
either m a b c true s t = t
either m a b c false s t = s

pub name-created : (m n : MapId) → same_map m n ≡ false → (t : TagLimits) (first_done : Bool) (a : Account) →
    Same (share m a) (share m (created n t first_done a).account)
name-created m n off t first_done a =
    let b : Account = with_zone_for t a in
    let z : ℕ = zone_for_tag t a.zones in
    let c : Account = grown b z (added b z (wanted_by_map t first_done (zone_at b z) (total b z) (maxpages t a))) in
    let same : Same (share m a) (share m c) = name-grown_for m t a _ in
    either m a c (with_zone_map c z n) _ same (Same-trans (share m a) (share m c) _ same (name-with_map m n off c z))

pub name-released : (m n : MapId) → same_map m n ≡ false → (a : Account) (z page : ℕ) →
    Same (share m a) (share m (released n z page a).account)
name-released m n off a z page =
    Same-trans (share m a) (share m (returned a n z page)) _
    (name-returned m n off a z page) (name-served m (returned a n z page) z)

-- the head of the callback list leaves it
pub name-shorter : (m : MapId) (a : Account) (w : Waiter) (ws : List Waiter) → a.ready ≡ w ∷ ws →
    same_map m w.map ≡ false → Same (share m a) (share m (record a { ready = ws }))
name-shorter m a w ws is off =
    other_zones m a (record a { ready = ws }) (λ z. refl) refl
    (λ test on. rw is (omega (arith, count_by-one_no test w ws (on.apart w off)))) refl refl
