-- How a call changes what the account has of the call's own name.
use Rattle.std.proofs.Common.{◌≡◌, ◌≢◌, ℕ, suc, ◌+◌, ◌<◌, Bool, true, false, cond, not, ◌&&◌, List, [], ◌∷◌, ◌++◌, map}
use Rattle.std.proofs.Common.{take, drop, length, refl, sym, ap, ◌∙◌, subst, arith, eqb, ne_eqb, if◌then◌else◌, ◌==◌}
use Rattle.std.proofs.Common.{inl, inr}
use Rattle.std.proofs.lemmas.Bool.{false≢true, eqb-true, eq-eqb}
use Rattle.std.specs.List.{count_by, filter}
use Rattle.std.proofs.lemmas.List.{get_or-set_same, get_or-set_other}
use Rattle.std.proofs.lemmas.List.Sums.{sum_by-cons, sum_by-set}
use Rattle.std.proofs.lemmas.Bool.Decides.{eqb_tells}
use Rattle.busdma_machine.specs.declared.name.MapId.{MapId}
use Rattle.busdma_machine.specs.declared.bounce.zone.Waiter.{Waiter}
use Rattle.busdma_machine.specs.Bounce.Account.{Account, Zone, Held, Memory, same_map, zone_at, with_zone, no_zone}
use Rattle.busdma_machine.specs.Bounce.Account.{free}
use Rattle.busdma_machine.specs.declared.tags.tag.TagLimits.{TagLimits}
use Rattle.busdma_machine.specs.Bounce.Growth.{serves_tag, zones_for}
use Rattle.busdma_machine.specs.Bounce.Growth.{zone_for_tag}
use Rattle.busdma_machine.specs.Bounce.Growth.{with_zone_map, without_zone_map}
use Rattle.busdma_machine.specs.Bounce.MemoryRuns.{in_run, with_memory_run}
use Rattle.busdma_machine.specs.Bounce.MemoryRuns.{without_memory_run, frames_of}
use Rattle.busdma_machine.specs.Bounce.Serving.{is_holding, handed, waiting_at_tail, returned}
use Rattle.busdma_machine.specs.Bounce.Conditions.{times_made, times_in_zones, times_held, pages_held, memories}
use Rattle.busdma_machine.proofs.Accounts.EditedSums.{get_or-set_as, count_by-append, count_by-filter_keeps}
use Rattle.busdma_machine.proofs.Accounts.EditedSums.{sum_by-set_like}
use Rattle.busdma_machine.specs.Bounce.Share.{Same, share, waiters}
use Rattle.lane_agreement.specs.OwnShare.{share_if}
use Rattle.busdma_machine.proofs.Accounts.Names.{and_left, and_right, same_map-self, name-with_zone}

pub and-true : (a : Bool) → (a && true) ≡ a
and-true true = refl
and-true false = refl

pub count-one : {X : Type 0} (test : X → Bool) (x : X) (xs : List X) →
    count_by test (x ∷ xs) ≡ share_if (test x) + count_by test xs
count-one test x xs = omega (arith, sum_by-cons (λ y. share_if (test y)) x xs)

-- a count over a mapped list
pub count-map : {X Y : Type 0} (test : X → Bool) (f : Y → X) (ys : List Y) →
    count_by test (map f ys) ≡ count_by (λ y. test (f y)) ys
count-map test f [] = refl
count-map test f (y ∷ ys) =
    omega (arith, count-map test f ys, count-one test (f y) (map f ys), count-one (λ y. test (f y)) y ys)

pub count-like : {X : Type 0} (p q : X → Bool) (xs : List X) → ((x : X) → p x ≡ q x) → count_by p xs ≡ count_by q xs
count-like p q [] same = refl
count-like p q (x ∷ xs) same =
    omega (arith, count-like p q xs same, count-one p x xs, count-one q x xs, ap share_if (same x))

pub count-all : {X : Type 0} (p : X → Bool) (xs : List X) → ((x : X) → p x ≡ true) → count_by p xs ≡ length xs
count-all p [] all = refl
count-all p (x ∷ xs) all = omega (arith, count-all p xs all, count-one p x xs, ap share_if (all x))

-- a filter lowers a count by what it takes out
pub count-less : {X : Type 0} (q p : X → Bool) (xs : List X) → ((x : X) → q x ≡ true → p x ≡ true) →
    count_by p (filter (λ x. not (q x)) xs) + count_by q xs ≡ count_by p xs
count-less q p [] h = refl
count-less q p (x ∷ xs) h =
    (elim (q x) as (λ v. q x ≡ v →
    count_by p (cond (not v) (x ∷ filter (λ x. not (q x)) xs) (filter (λ x. not (q x)) xs))
    + count_by q (x ∷ xs) ≡ count_by p (x ∷ xs)) [
      | true ↦ λ w. omega (
        arith,
        ap share_if w,
        ap share_if (h x w),
        count-less q p xs h,
        count-one p x xs,
        count-one q x xs,
      )
      | false ↦ λ w. omega (
        arith,
        ap share_if w,
        count-less q p xs h,
        count-one p x xs,
        count-one q x xs,
        count-one p x (filter (λ x. not (q x)) xs),
      )
    ]) refl

module _ (a : Account) (n : MapId) (z need : ℕ) where
  abbrev pub first_pages : List ℕ
  first_pages = take need (zone_at a z).avail

  pub handed-holds : pages_held n (handed a n z need) ≡ pages_held n a + length first_pages
  handed-holds =
      omega (
        arith,
        count_by-append (λ (h : Held). same_map n h.map) a.held
            (map (λ p. record { page = p; zone = z; map = n }) first_pages),
        count-map (λ (h : Held). same_map n h.map) (λ p. record { page = p; zone = z; map = n }) first_pages,
        count-all (λ p. same_map n n) first_pages (λ p. same_map-self n),
      )

  pub handed-holds_page : (y p : ℕ) → times_held n y p (handed a n z need) ≡ times_held n y p a
      + count_by (λ q. (q == p) && (z == y)) first_pages
  handed-holds_page y p =
      omega (
        arith,
        count_by-append (is_holding n y p) a.held (map (λ q. record { page = q; zone = z; map = n }) first_pages),
        count-map (is_holding n y p) (λ q. record { page = q; zone = z; map = n }) first_pages,
        count-like (λ q. (q == p) && ((z == y) && same_map n n)) (λ q. (q == p) && (z == y)) first_pages
            (λ q. ap (λ b. (q == p) && ((z == y) && b)) (same_map-self n)
            ∙ ap (λ b. (q == p) && b) (and-true (z == y))),
      )

  -- what the account has of a name does not depend on the free pages of a zone
  pub handed-zones : Same (share n a) (share n
      (with_zone a z (record (zone_at a z) { avail = drop need (zone_at a z).avail })))
  handed-zones = name-with_zone n a z _ refl (λ test on. refl)

-- a page comes back
module _ (a : Account) (n : MapId) (z page : ℕ) (held : times_held n z page a ≡ 1) where
  pub returned-holds : pages_held n (returned a n z page) + 1 ≡ pages_held n a
  returned-holds =
      omega (
        arith,
        held,
        count-less (is_holding n z page) (λ (h : Held). same_map n h.map) a.held
            (λ h e. and_right (eqb h.zone z) _ (and_right (eqb h.page page) _ e)),
      )

  pub returned-page : times_held n z page (returned a n z page) ≡ 0
  returned-page = omega (arith, count-less (is_holding n z page) (is_holding n z page) a.held (λ h e. e))

  pub returned-other : (y p : ℕ) → ((page == p) && (z == y)) ≡ false →
      times_held n y p (returned a n z page) ≡ times_held n y p a
  returned-other y p apart = count_by-filter_keeps (is_holding n y p) (λ h. not (is_holding n z page h)) a.held keeps
    where
      keeps : (h : Held) → is_holding n y p h ≡ true → not (is_holding n z page h) ≡ true
      keeps h e =
          (elim (is_holding n z page h) as (λ v. is_holding n z page h ≡ v → not v ≡ true) [
            | true ↦ λ w. absurd (false≢true (sym apart ∙ both h e w))
            | false ↦ λ w. refl
          ]) refl
        where
          both : (h : Held) → is_holding n y p h ≡ true → is_holding n z page h ≡ true →
              ((page == p) && (z == y)) ≡ true
          both h e w =
              let a1 : h.page ≡ p = eqb-true h.page p (and_left (eqb h.page p) _ e) in
              let a2 : h.page ≡ page = eqb-true h.page page (and_left (eqb h.page page) _ w) in
              let b1 : h.zone ≡ y = eqb-true h.zone y (and_left (eqb h.zone y) _ (and_right (eqb h.page p) _ e)) in
              let b2 : h.zone ≡ z = eqb-true h.zone z (and_left (eqb h.zone z) _ (and_right (eqb h.page page) _ w)) in
              rw (eq-eqb page p (sym a2 ∙ a1), eq-eqb z y (sym b2 ∙ b1)) refl

  pub returned-zones : Same (share n a) (share n
      (with_zone a z (record (zone_at a z) { avail = page ∷ (zone_at a z).avail })))
  returned-zones = name-with_zone n a z _ refl (λ test on. refl)

-- a map waits: the zone has one more waiter
module _ (a : Account) (n : MapId) (z need : ℕ) (inside : z < length a.zones) where
  abbrev pub joined : Waiter
  joined = record { map = n; zone = record { 0 = z }; need = need; have = free a z }

  pub queued-waiters : (test : Waiter → Bool) →
      waiters test (waiting_at_tail a n z need) ≡ waiters test a + share_if (test joined)
  queued-waiters test =
      omega (
        arith,
        count_by-append test (zone_at a z).wait (joined ∷ []),
        count-one test joined [],
        sum_by-set (λ (s : Zone). count_by test s.wait) a.zones z
            (record (zone_at a z) { wait = (zone_at a z).wait ++ joined ∷ [] }) no_zone inside,
      )

  pub queued-made : (y : ℕ) → times_made n y (waiting_at_tail a n z need) ≡ times_made n y a
  queued-made y = get_or-set_as (λ (s : Zone). count_by (same_map n) s.maps) a.zones z y _ no_zone refl

  pub queued-in_zones : times_in_zones n (waiting_at_tail a n z need).zones ≡ times_in_zones n a.zones
  queued-in_zones = sum_by-set_like (λ (s : Zone). count_by (same_map n) s.maps) a.zones z _ no_zone refl refl

  -- a map joins a zone
  abbrev pub fuller : Zone
  fuller = record (zone_at a z) { maps = (zone_at a z).maps ++ n ∷ [] }

  more : count_by (same_map n) fuller.maps ≡ times_made n z a + 1
  more =
      omega (
        arith,
        count_by-append (same_map n) (zone_at a z).maps (n ∷ []),
        count-one (same_map n) n [],
        ap share_if (same_map-self n),
      )

  pub with_map-in_zones : times_in_zones n (with_zone_map a z n).zones ≡ times_in_zones n a.zones + 1
  with_map-in_zones =
      omega (arith, more, sum_by-set (λ (s : Zone). count_by (same_map n) s.maps) a.zones z fuller no_zone inside)

  pub with_map-made : (y : ℕ) → times_made n y (with_zone_map a z n) ≡ times_made n y a + share_if (z == y)
  with_map-made y =
      elim (eqb_tells z y) as (λ _. times_made n y (with_zone_map a z n) ≡ times_made n y a + share_if (z == y)) [
        | inl h ↦ subst (λ k. times_made n k (with_zone_map a z n) ≡ times_made n k a + share_if (z == k)) h.1
            (omega (
              arith,
              more,
              ap share_if (eq-eqb z z refl),
              ap (λ (s : Zone). count_by (same_map n) s.maps) (get_or-set_same a.zones z fuller no_zone inside),
            ))
        | inr h ↦ omega (
          arith,
          ap share_if (ne_eqb z y h.1),
          ap (λ (s : Zone). count_by (same_map n) s.maps)
              (get_or-set_other a.zones z y fuller no_zone (λ e. h.1 (sym e))),
        )
      ]

  pub with_map-waiters : (test : Waiter → Bool) → waiters test (with_zone_map a z n) ≡ waiters test a
  with_map-waiters test =
      ap (λ k. k + count_by test a.ready) (sum_by-set_like
      (λ (s : Zone). count_by test s.wait) a.zones z _ no_zone refl refl)

  -- a map leaves a zone
  abbrev pub fewer : Zone
  fewer = record (zone_at a z) { maps = filter (λ k. not (same_map n k)) (zone_at a z).maps }

  none_left : count_by (same_map n) fewer.maps ≡ 0
  none_left = omega (arith, count-less (same_map n) (same_map n) (zone_at a z).maps (λ k e. e))

  pub without_map-in_zones : times_in_zones n (without_zone_map a z n).zones + times_made n z a
      ≡ times_in_zones n a.zones
  without_map-in_zones =
      omega (arith, none_left, sum_by-set (λ (s : Zone). count_by (same_map n) s.maps) a.zones z fewer no_zone inside)

  pub without_map-here : times_made n z (without_zone_map a z n) ≡ 0
  without_map-here =
      omega (
        arith,
        none_left,
        ap (λ (s : Zone). count_by (same_map n) s.maps)
            (get_or-set_same a.zones z fewer no_zone inside),
      )

  pub without_map-other : (y : ℕ) → y ≢ z → times_made n y (without_zone_map a z n) ≡ times_made n y a
  without_map-other y apart =
      ap (λ (s : Zone). count_by (same_map n) s.maps) (get_or-set_other a.zones z y fewer no_zone apart)

  pub without_map-waiters : (test : Waiter → Bool) → waiters test (without_zone_map a z n) ≡ waiters test a
  without_map-waiters test =
      ap (λ k. k + count_by test a.ready) (sum_by-set_like
      (λ (s : Zone). count_by test s.wait) a.zones z _ no_zone refl refl)

pub zone_of-inside : (t : TagLimits) (zs : List Zone) → zone_for_tag t zs < length (zones_for t zs)
zone_of-inside t [] = omega arith
zone_of-inside t (z ∷ zs) =
    elim (serves_tag t z) as (λ v. (if v then 0 else suc (zone_for_tag t zs)) < length
    (z ∷ (if v then zs else zones_for t zs))) [
      | true ↦ omega arith
      | false ↦ omega (arith, zone_of-inside t zs)
    ]

-- memories join and leave the account
module _ (n : MapId) where
  none_of : (xs : List Memory) → count_by (λ (x : Memory). same_map n x.mem) xs ≡ 0 → frames_of n xs ≡ []
  none_of [] e = refl
  none_of (x ∷ xs) e =
      (elim (same_map n x.mem) as (λ v. same_map n x.mem ≡ v →
      (if v then x.frames ++ frames_of n xs else frames_of n xs) ≡ []) [
        | true ↦ λ w. absurd (omega (arith, e, count-one (λ (x : Memory). same_map n x.mem) x xs, ap share_if w))
        | false ↦ λ w. none_of xs (omega (arith, e, count-one (λ (x : Memory). same_map n x.mem) x xs))
      ]) refl

  frames-last : (xs : List Memory) (fs : List ℕ) → count_by (λ (x : Memory). same_map n x.mem) xs ≡ 0 →
      frames_of n (xs ++ record { mem = n; frames = fs } ∷ []) ≡ fs ++ []
  frames-last [] fs e = rw (same_map-self n) refl
  frames-last (x ∷ xs) fs e =
      (elim (same_map n x.mem) as (λ v. same_map n x.mem ≡ v →
      (if v then x.frames ++ frames_of n (xs ++ record { mem = n; frames = fs } ∷ [])
      else frames_of n (xs ++ record { mem = n; frames = fs } ∷ [])) ≡ fs ++ []) [
        | true ↦ λ w. absurd (omega (arith, e, count-one (λ (x : Memory). same_map n x.mem) x xs, ap share_if w))
        | false ↦ λ w. frames-last xs fs (omega (arith, e, count-one (λ (x : Memory). same_map n x.mem) x xs))
      ]) refl

  pub with_memory-mems : (a : Account) (first k : ℕ) → memories n (with_memory_run a n first k) ≡ memories n a + 1
  with_memory-mems a first k =
      omega (
        arith,
        count_by-append (λ (x : Memory). same_map n x.mem) a.mems
            (record { mem = n; frames = filter (in_run first k) a.bank } ∷ []),
        count-one (λ (x : Memory). same_map n x.mem) (record { mem = n; frames = filter (in_run first k) a.bank }) [],
        ap share_if (same_map-self n),
      )

  pub with_memory-frames : (a : Account) (first k : ℕ) → memories n a ≡ 0 →
      frames_of n (with_memory_run a n first k).mems ≡ filter (in_run first k) a.bank ++ []
  with_memory-frames a first k e = frames-last a.mems (filter (in_run first k) a.bank) e

  pub without_memory-mems : (a : Account) → memories n (without_memory_run a n) ≡ 0
  without_memory-mems a =
      omega (arith, count-less (λ (x : Memory). same_map n x.mem) (λ (x : Memory). same_map n x.mem) a.mems (λ x e. e))

  pub without_memory-frames : (a : Account) → frames_of n (without_memory_run a n).mems ≡ []
  without_memory-frames a = none_of (without_memory_run a n).mems (without_memory-mems a)
