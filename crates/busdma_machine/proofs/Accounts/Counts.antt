-- How each change of an account changes the counts of its zones, and that it leaves the account well-formed.
use Rattle.std.proofs.Common.{◌≡◌, ◌≢◌, ℕ, zero, suc, ◌+◌, ◌-◌, ◌<◌, ◌≤◌, Bool, true, false, cond, not, ◌&&◌, List, []}
use Rattle.std.proofs.Common.{◌∷◌, ◌++◌, map, take, drop, length, get_or, refl, sym, ap, ◌∙◌, subst, arith, eqb, leb}
use Rattle.std.proofs.Common.{ne_eqb, if◌then◌else◌, ◌==◌, inl, inr, All}
use Rattle.std.specs.List.{count_by, sum_by, filter}
use Rattle.std.proofs.lemmas.Bool.{eq-eqb, eqb-true, leb-true, leb-false}
use Rattle.std.proofs.lemmas.Bool.Decides.{eqb_tells}
use Rattle.std.proofs.lemmas.List.{get_or-set_same, get_or-set_other, length-take-le, length-drop, length-set}
use Rattle.std.proofs.lemmas.List.Sums.{sum_by-cons, sum_by-append}
use Rattle.std.proofs.lemmas.List.Elements.{All-nil, All-cons, All-head, All-tail, All-push, All-append}
use Rattle.busdma_machine.specs.declared.name.MapId.{MapId}
use Rattle.busdma_machine.specs.declared.bounce.zone.Waiter.{Waiter}
use Rattle.busdma_machine.specs.Bounce.Account.{Account, Zone, Held, same_map, zone_at, no_zone, free, reserved, active}
use Rattle.busdma_machine.specs.Bounce.Serving.{is_holding, handed, waiting_at_tail}
use Rattle.busdma_machine.specs.Bounce.Serving.{returned, completed, left_waiting, promised}
use Rattle.busdma_machine.specs.Bounce.Serving.{served}
use Rattle.busdma_machine.specs.Bounce.Conditions.{IsIdle, times_held}
use Rattle.busdma_machine.specs.Bounce.WellFormed.{Lacks, IsAccountWellFormed}
use Rattle.busdma_machine.proofs.Accounts.EditedSums.{count_by-append, count_by-filter_keeps, count_by-map_none}
use Rattle.busdma_machine.proofs.Accounts.Names.{and_left, and_right}

abbrev weight : Bool → ℕ
weight b = cond b 1 0

-- serving promises no more pages than there are
pub promised-le : (pages : ℕ) (ws : List Waiter) → promised pages ws ≤ pages
promised-le pages [] = omega arith
promised-le pages (w ∷ ws) =
    (elim (leb (w.need - w.have) pages) as (λ v. leb (w.need - w.have) pages ≡ v →
    (if v then (w.need - w.have) + promised (pages - (w.need - w.have)) ws else pages) ≤ pages) [
      | true ↦ λ t. omega (arith, leb-true (w.need - w.have) pages t, promised-le (pages - (w.need - w.have)) ws)
      | false ↦ λ t. omega arith
    ]) refl

-- the numbers of a zone that a change keeps
pub record SameZone (a b : Account) (z : ℕ) : Type 0 where
  pub zone : zone_at b z ≡ zone_at a z
  pub reserved : reserved b z ≡ reserved a z
  pub active : active b z ≡ active a z

-- a map's zone is one of the zones
pub in_zones : (a : Account) (m : MapId) (z : ℕ) → IsIdle m z a → z < length a.zones
in_zones a m z idle = inside a.zones z idle.made
  where
    inside : (zs : List Zone) (z : ℕ) → count_by (same_map m) (get_or zs z no_zone).maps ≡ 1 → z < length zs
    inside [] z e = cc
    inside (x ∷ xs) zero e = omega arith
    inside (x ∷ xs) (suc z) e = omega (arith, inside xs z e)

-- a count of the results of a function, if all of them pass or none does
count_by-map_all : {X Y : Type 0} (p : X → Bool) (f : Y → X) (ys : List Y) →
    ((y : Y) → p (f y) ≡ true) → count_by p (map f ys) ≡ length ys
count_by-map_all p f [] h = refl
count_by-map_all p f (y ∷ ys) h =
    let one : weight (p (f y)) ≡ 1 = rw (h y) refl in
    omega (arith, one, sum_by-cons (λ x. weight (p x)) (f y) (map f ys), count_by-map_all p f ys h)

-- pages go to a map
module _ (a : Account) (m : MapId) (z need : ℕ) (inside : z < length a.zones) (enough : need ≤ free a z) where
  abbrev handed_zone : Zone
  handed_zone = record (zone_at a z) { avail = drop need (zone_at a z).avail }

  pub handed-zone : zone_at (handed a m z need) z ≡ handed_zone
  handed-zone = get_or-set_same a.zones z handed_zone no_zone inside

  pub handed-reserved : (y : ℕ) → reserved (handed a m z need) y ≡ reserved a y
  handed-reserved y =
      (elim (eqb_tells y z) as (λ _. reserved (handed a m z need) y ≡ reserved a y) [
        | inl h ↦ subst (λ k. reserved (handed a m z need) k ≡ reserved a k) (sym h.1)
            (ap (λ (s : Zone). sum_by (λ w. w.have) s.wait
            + sum_by (λ w. w.need) (filter (λ w. w.zone.0 == z) a.ready)) handed-zone)
        | inr h ↦ ap (λ (s : Zone). sum_by (λ w. w.have) s.wait
            + sum_by (λ w. w.need) (filter (λ w. w.zone.0 == y) a.ready))
            (get_or-set_other a.zones z y handed_zone no_zone h.1)
      ])

  pub handed-active : active (handed a m z need) z ≡ active a z + need
  handed-active = omega (
    arith,
    count_by-append (λ (h : Held). h.zone == z) a.held
        (map (λ p. record { page = p; zone = z; map = m }) (take need (zone_at a z).avail)),
    count_by-map_all (λ (h : Held). h.zone == z) (λ p. record { page = p; zone = z; map = m })
        (take need (zone_at a z).avail) (λ p. eq-eqb z z refl),
    length-take-le need (zone_at a z).avail (omega (arith, enough)),
  )

  pub handed-other : (y : ℕ) → y ≢ z → SameZone a (handed a m z need) y
  handed-other y apart = record {
    zone = get_or-set_other a.zones z y handed_zone no_zone apart;
    reserved = handed-reserved y;
    active = omega (
      arith,
      count_by-append (λ (h : Held). h.zone == y) a.held
          (map (λ p. record { page = p; zone = z; map = m }) (take need (zone_at a z).avail)),
      count_by-map_none (λ (h : Held). h.zone == y) (λ p. record { page = p; zone = z; map = m })
          (take need (zone_at a z).avail) (λ p. ne_eqb z y (λ e. apart (sym e))),
    );
  }

  apart_of : (y : ℕ) → y ≡ z → length a.zones ≤ y → ⊥
  apart_of y e out = omega (arith, inside, e, out)

  pub handed-well : IsAccountWellFormed a → IsAccountWellFormed (handed a m z need)
  handed-well well = record {
    wanted = well.wanted;
    inside = λ y past. (let out : length a.zones ≤ y = omega (arith, past, length-set a.zones z handed_zone) in
        (handed-other y (λ e. apart_of y e out)).active ∙ well.inside y out);
    enough =
        λ y.
        (elim (eqb_tells y z) as (λ _. reserved (handed a m z need) y ≤ length (zone_at (handed a m z need) y).avail) [
          | inl h ↦ subst (λ k. reserved (handed a m z need) k ≤ length (zone_at (handed a m z need) k).avail)
              (sym h.1)
              (rw handed-zone (omega (arith, handed-reserved z, well.enough z, length-drop need (zone_at a z).avail)))
          | inr h ↦ omega (
            arith,
            handed-reserved y,
            well.enough y,
            ap (λ (s : Zone). length s.avail) (handed-other y h.1).zone,
          )
        ]);
    waits = λ y. (elim (eqb_tells y z) as (λ _. All (Lacks y) (zone_at (handed a m z need) y).wait) [
      | inl h ↦ subst (λ k. All (Lacks k) (zone_at (handed a m z need) k).wait)
          (sym h.1) (rw handed-zone (well.waits z))
      | inr h ↦ rw (handed-other y h.1).zone (well.waits y)
    ]);
  }

-- a map waits
module _ (a : Account) (m : MapId) (z need : ℕ) (inside : z < length a.zones)
    (well : IsAccountWellFormed a) (short : free a z < need) where
  abbrev joined : Waiter
  joined = record { map = m; zone = record { 0 = z }; need = need; have = free a z }

  abbrev queued_zone : Zone
  queued_zone = record (zone_at a z) { wait = (zone_at a z).wait ++ joined ∷ [] }

  pub queued-zone : zone_at (waiting_at_tail a m z need) z ≡ queued_zone
  queued-zone = get_or-set_same a.zones z queued_zone no_zone inside

  pub queued-reserved : reserved (waiting_at_tail a m z need) z ≡ reserved a z + free a z
  queued-reserved =
      ap (λ (s : Zone). sum_by (λ w. w.have) s.wait
      + sum_by (λ w. w.need) (filter (λ w. w.zone.0 == z) a.ready)) queued-zone
      ∙ omega (
        arith,
        sum_by-append (λ (w : Waiter). w.have) (zone_at a z).wait (joined ∷ []),
        sum_by-cons (λ (w : Waiter). w.have) joined [],
      )

  pub queued-other : (y : ℕ) → y ≢ z → SameZone a (waiting_at_tail a m z need) y
  queued-other y apart = record {
    zone = get_or-set_other a.zones z y queued_zone no_zone apart;
    reserved =
        ap (λ (s : Zone). sum_by (λ w. w.have) s.wait + sum_by (λ w. w.need) (filter (λ w. w.zone.0 == y) a.ready))
        (get_or-set_other a.zones z y queued_zone no_zone apart);
    active = refl;
  }

  pub queued-well : IsAccountWellFormed (waiting_at_tail a m z need)
  queued-well = record {
    wanted = well.wanted;
    inside = λ y past. well.inside y (omega (arith, past, length-set a.zones z queued_zone));
    enough =
        λ y.
        (elim (eqb_tells y z) as (λ _. reserved (waiting_at_tail a m z need) y
        ≤ length (zone_at (waiting_at_tail a m z need) y).avail) [
          | inl h ↦ subst (λ k. reserved (waiting_at_tail a m z need) k
              ≤ length (zone_at (waiting_at_tail a m z need) k).avail)
              (sym h.1)
              (omega (arith, queued-reserved, well.enough z, ap (λ (s : Zone). length s.avail) queued-zone))
          | inr h ↦ omega (
            arith,
            (queued-other y h.1).reserved,
            well.enough y,
            ap (λ (s : Zone). length s.avail) (queued-other y h.1).zone,
          )
        ]);
    waits = λ y. (elim (eqb_tells y z) as (λ _. All (Lacks y) (zone_at (waiting_at_tail a m z need) y).wait) [
      | inl h ↦ subst (λ k. All (Lacks k) (zone_at (waiting_at_tail a m z need) k).wait) (sym h.1)
          (rw queued-zone (All-push (Lacks z) (zone_at a z).wait joined (well.waits z)
          (record { zone = refl; lacks = short })))
      | inr h ↦ rw (queued-other y h.1).zone (well.waits y)
    ]);
  }

-- how serving changes a list of waiters of one zone
pub completed-need : (pages z : ℕ) (ws : List Waiter) → All (Lacks z) ws
    → sum_by (λ w. w.have) (left_waiting pages ws) + sum_by (λ w. w.need) (completed pages ws)
    ≡ sum_by (λ w. w.have) ws + promised pages ws
completed-need pages z [] all = refl
completed-need pages z (w ∷ ws) all =
    let lacks : Lacks z w = All-head (Lacks z) w ws all in
    let k : ℕ = w.need - w.have in
    (elim (leb k pages) as (λ v. leb k pages ≡ v →
    sum_by (λ w. w.have) (if v then left_waiting (pages - k) ws else record w { have = w.have + pages } ∷ ws)
    + sum_by (λ w. w.need) (if v then record w { have = w.need } ∷ completed (pages - k) ws else [])
    ≡ sum_by (λ w. w.have) (w ∷ ws) + (if v then k + promised (pages - k) ws else pages)) [
      | true ↦ λ t. omega (
        arith,
        lacks.lacks,
        completed-need (pages - k) z ws (All-tail (Lacks z) w ws all),
        sum_by-cons (λ (w : Waiter). w.have) w ws,
        sum_by-cons (λ (w : Waiter). w.need) (record w { have = w.need }) (completed (pages - k) ws),
      )
      | false ↦ λ t. omega (
        arith,
        sum_by-cons (λ (w : Waiter). w.have) (record w { have = w.have + pages }) ws,
        sum_by-cons (λ (w : Waiter). w.have) w ws,
      )
    ]) refl

pub completed-zone : (pages z : ℕ) (ws : List Waiter) → All (Lacks z) ws → All (λ w. w.zone.0 ≡ z) (completed pages ws)
completed-zone pages z [] all = All-nil (λ (w : Waiter). w.zone.0 ≡ z)
completed-zone pages z (w ∷ ws) all =
    let k : ℕ = w.need - w.have in
    elim (leb k pages) as (λ v. All (λ w. w.zone.0 ≡ z) (if v
    then record w { have = w.need } ∷ completed (pages - k) ws else [])) [
      | true ↦ All-cons (λ (w : Waiter). w.zone.0 ≡ z) (record w { have = w.need }) (completed (pages - k) ws)
          (All-head (Lacks z) w ws all).zone (completed-zone (pages - k) z ws (All-tail (Lacks z) w ws all))
      | false ↦ All-nil (λ (w : Waiter). w.zone.0 ≡ z)
    ]

completed-wanted : (pages z : ℕ) (ws : List Waiter) → All (Lacks z) ws → All (λ w. 0 < w.need) (completed pages ws)
completed-wanted pages z [] all = All-nil (λ (w : Waiter). 0 < w.need)
completed-wanted pages z (w ∷ ws) all =
    let k : ℕ = w.need - w.have in
    elim (leb k pages) as (λ v. All (λ w. 0 < w.need) (if v
    then record w { have = w.need } ∷ completed (pages - k) ws else [])) [
      | true ↦ All-cons (λ (w : Waiter). 0 < w.need) (record w { have = w.need }) (completed (pages - k) ws)
          (omega (arith, (All-head (Lacks z) w ws all).lacks))
          (completed-wanted (pages - k) z ws (All-tail (Lacks z) w ws all))
      | false ↦ All-nil (λ (w : Waiter). 0 < w.need)
    ]

left-lacks : (pages z : ℕ) (ws : List Waiter) → All (Lacks z) ws → All (Lacks z) (left_waiting pages ws)
left-lacks pages z [] all = all
left-lacks pages z (w ∷ ws) all =
    let k : ℕ = w.need - w.have in
    let lacks : Lacks z w = All-head (Lacks z) w ws all in
    let rest : All (Lacks z) ws = All-tail (Lacks z) w ws all in
    (elim (leb k pages) as (λ v. leb k pages ≡ v →
    All (Lacks z) (if v then left_waiting (pages - k) ws else record w { have = w.have + pages } ∷ ws)) [
      | true ↦ λ t. left-lacks (pages - k) z ws rest
      | false ↦ λ t. All-cons (Lacks z) (record w { have = w.have + pages }) ws
          (record { zone = lacks.zone; lacks = omega (arith, leb-false k pages t, lacks.lacks) }) rest
    ]) refl

-- the ready maps of a zone, if all added ones are of one zone
ready-same : (z : ℕ) (rs ds : List Waiter) → All (λ w. w.zone.0 ≡ z) ds →
    sum_by (λ w. w.need) (filter (λ w. w.zone.0 == z) (rs ++ ds))
    ≡ sum_by (λ w. w.need) (filter (λ w. w.zone.0 == z) rs) + sum_by (λ w. w.need) ds
ready-same z [] [] all = refl
ready-same z [] (d ∷ ds) all =
    rw (eq-eqb d.zone.0 z (All-head (λ (w : Waiter). w.zone.0 ≡ z) d ds all))
    (omega (
      arith,
      sum_by-cons (λ (w : Waiter). w.need) d ds,
      sum_by-cons (λ (w : Waiter). w.need) d (filter (λ w. w.zone.0 == z) ds),
      ready-same z [] ds (All-tail (λ (w : Waiter). w.zone.0 ≡ z) d ds all),
    ))
ready-same z (r ∷ rs) ds all =
    elim (eqb r.zone.0 z) as (λ v. sum_by (λ w. w.need)
    (cond v (r ∷ filter (λ w. w.zone.0 == z) (rs ++ ds)) (filter (λ w. w.zone.0 == z) (rs ++ ds)))
    ≡ sum_by (λ w. w.need) (cond v (r ∷ filter (λ w. w.zone.0 == z) rs) (filter (λ w. w.zone.0 == z) rs))
    + sum_by (λ w. w.need) ds) [
      | true ↦ omega (
        arith,
        ready-same z rs ds all,
        sum_by-cons (λ (w : Waiter). w.need) r (filter (λ w. w.zone.0 == z) (rs ++ ds)),
        sum_by-cons (λ (w : Waiter). w.need) r (filter (λ w. w.zone.0 == z) rs),
      )
      | false ↦ ready-same z rs ds all
    ]

ready-other : (y z : ℕ) → y ≢ z → (rs ds : List Waiter) → All (λ w. w.zone.0 ≡ z) ds →
    filter (λ w. w.zone.0 == y) (rs ++ ds) ≡ filter (λ w. w.zone.0 == y) rs
ready-other y z apart [] [] all = refl
ready-other y z apart [] (d ∷ ds) all =
    rw (ne_eqb d.zone.0 y (λ e. apart (sym e ∙ All-head (λ (w : Waiter). w.zone.0 ≡ z) d ds all)))
    (ready-other y z apart [] ds (All-tail (λ (w : Waiter). w.zone.0 ≡ z) d ds all))
ready-other y z apart (r ∷ rs) ds all =
    elim (eqb r.zone.0 y) as (λ v. cond v (r ∷ filter (λ w. w.zone.0 == y) (rs ++ ds))
    (filter (λ w. w.zone.0 == y) (rs ++ ds))
    ≡ cond v (r ∷ filter (λ w. w.zone.0 == y) rs) (filter (λ w. w.zone.0 == y) rs)) [
      | true ↦ ap (λ k. r ∷ k) (ready-other y z apart rs ds all)
      | false ↦ ready-other y z apart rs ds all
    ]

count-filter_less : (q p : Held → Bool) (xs : List Held) → ((x : Held) → q x ≡ true → p x ≡ true) →
    count_by p (filter (λ x. not (q x)) xs) + count_by q xs ≡ count_by p xs
count-filter_less q p [] h = refl
count-filter_less q p (x ∷ xs) h =
    (elim (q x) as (λ v. q x ≡ v →
    count_by p (cond (not v) (x ∷ filter (λ x. not (q x)) xs) (filter (λ x. not (q x)) xs))
    + count_by q (x ∷ xs) ≡ count_by p (x ∷ xs)) [
      | true ↦ λ w. (let one : weight (q x) ≡ 1 = rw w refl in let here : weight (p x) ≡ 1 = rw (h x w) refl in
          omega (
            arith,
            one,
            here,
            count-filter_less q p xs h,
            sum_by-cons (λ y. weight (p y)) x xs,
            sum_by-cons (λ y. weight (q y)) x xs,
          ))
      | false ↦ λ w. (let none : weight (q x) ≡ 0 = rw w refl in
          omega (
            arith,
            none,
            count-filter_less q p xs h,
            sum_by-cons (λ y. weight (p y)) x xs,
            sum_by-cons (λ y. weight (q y)) x xs,
            sum_by-cons (λ y. weight (p y)) x (filter (λ x. not (q x)) xs),
          ))
    ]) refl

and_none : (a b : Bool) → b ≡ false → (a && b) ≡ false
and_none true b e = e
and_none false b e = refl

and_first : (a b : Bool) → a ≡ false → (a && b) ≡ false
and_first true b e = cc
and_first false b e = refl

pub held-active : (a : Account) (m : MapId) (z page : ℕ) → times_held m z page a ≡ 1 → 1 ≤ active a z
held-active a m z page held =
    omega (
      arith,
      held,
      count-filter_less (is_holding m z page) (λ h. h.zone == z) a.held
          (λ h e. and_left (eqb h.zone z) _ (and_right (eqb h.page page) _ e)),
    )

-- the zone serves
module _ (b : Account) (z : ℕ) (inside : z < length b.zones) (waits : All (Lacks z) (zone_at b z).wait) where
  abbrev done : List Waiter
  done = completed (free b z) (zone_at b z).wait

  abbrev served_zone : Zone
  served_zone =
      record (zone_at b z) {
        wait = left_waiting (free b z) (zone_at b z).wait;
        deferred = (zone_at b z).deferred + length done;
      }

  pub served-zone : zone_at (served b z) z ≡ served_zone
  served-zone = get_or-set_same b.zones z served_zone no_zone inside

  pub served-reserved : reserved (served b z) z ≡ reserved b z + promised (free b z) (zone_at b z).wait
  served-reserved =
      ap (λ (s : Zone). sum_by (λ w. w.have) s.wait
      + sum_by (λ w. w.need) (filter (λ w. w.zone.0 == z) (b.ready ++ done))) served-zone
      ∙ omega (
        arith,
        completed-need (free b z) z (zone_at b z).wait waits,
        ready-same z b.ready done (completed-zone (free b z) z (zone_at b z).wait waits),
      )

  pub served-other : (y : ℕ) → y ≢ z → SameZone b (served b z) y
  served-other y apart =
      let here : zone_at (served b z) y ≡ zone_at b y = get_or-set_other b.zones z y served_zone no_zone apart in
      record {
        zone = here;
        reserved =
            ap (λ (s : Zone). sum_by (λ w. w.have) s.wait
            + sum_by (λ w. w.need) (filter (λ w. w.zone.0 == y) (b.ready ++ done))) here
            ∙ ap (λ (rs : List Waiter). sum_by (λ w. w.have) (zone_at b y).wait + sum_by (λ w. w.need) rs)
            (ready-other y z apart b.ready done (completed-zone (free b z) z (zone_at b z).wait waits));
        active = refl;
      }

-- a page comes back
module _ (a : Account) (m : MapId) (z page : ℕ) (inside : z < length a.zones) (held : times_held m z page a ≡ 1) where
  abbrev back_zone : Zone
  back_zone = record (zone_at a z) { avail = page ∷ (zone_at a z).avail }

  pub back-zone : zone_at (returned a m z page) z ≡ back_zone
  back-zone = get_or-set_same a.zones z back_zone no_zone inside

  pub back-reserved : reserved (returned a m z page) z ≡ reserved a z
  back-reserved =
      ap (λ (s : Zone). sum_by (λ w. w.have) s.wait
      + sum_by (λ w. w.need) (filter (λ w. w.zone.0 == z) a.ready)) back-zone

  pub back-free : free (returned a m z page) z ≡ length (zone_at a z).avail + 1 - reserved a z
  back-free = omega (arith, back-reserved, ap (λ (s : Zone). length s.avail) back-zone)

  pub back-active : active (returned a m z page) z + 1 ≡ active a z
  back-active =
      omega (
        arith,
        held,
        count-filter_less (is_holding m z page) (λ h. h.zone == z) a.held
            (λ h e. and_left (eqb h.zone z) _ (and_right (eqb h.page page) _ e)),
      )

  pub back-other : (y : ℕ) → y ≢ z → SameZone a (returned a m z page) y
  back-other y apart =
      let here : zone_at (returned a m z page) y ≡ zone_at a y =
      get_or-set_other a.zones z y back_zone no_zone apart in
      record {
        zone = here;
        reserved =
            ap (λ (s : Zone). sum_by (λ w. w.have) s.wait
            + sum_by (λ w. w.need) (filter (λ w. w.zone.0 == y) a.ready)) here;
        active =
            count_by-filter_keeps (λ h. h.zone == y) (λ h. not (is_holding m z page h)) a.held
            (λ h e. not_held h (eqb-true h.zone y e));
      }
    where
      not_held : (h : Held) → h.zone ≡ y → not (is_holding m z page h) ≡ true
      not_held h e = let off : is_holding m z page h ≡ false =
          and_none (eqb h.page page) _ (and_first (eqb h.zone z) _ (ne_eqb h.zone z (λ k. apart (sym e ∙ k)))) in
          rw off refl

  pub back-inside : z < length (returned a m z page).zones
  back-inside = rw (length-set a.zones z back_zone) inside

-- a page comes back, and the zone serves
module _ (a : Account) (m : MapId) (z page : ℕ) (inside : z < length a.zones)
    (held : times_held m z page a ≡ 1) (well : IsAccountWellFormed a) where
  abbrev pub after_release : Account
  after_release = served (returned a m z page) z

  abbrev pub room_now : ℕ
  room_now = length (zone_at a z).avail + 1 - reserved a z

  within : z < length (returned a m z page).zones
  within = back-inside a m z page inside held

  back-wait : (zone_at (returned a m z page) z).wait ≡ (zone_at a z).wait
  back-wait = ap (λ (s : Zone). s.wait) (back-zone a m z page inside held)

  back-lacks : All (Lacks z) (zone_at (returned a m z page) z).wait
  back-lacks = subst (λ k. All (Lacks z) k) (sym back-wait) (well.waits z)

  pub release-avail : (zone_at after_release z).avail ≡ page ∷ (zone_at a z).avail
  release-avail = ap (λ (s : Zone). s.avail) (served-zone (returned a m z page) z within back-lacks)
      ∙ ap (λ (s : Zone). s.avail) (back-zone a m z page inside held)

  pub release-wait : (zone_at after_release z).wait ≡ left_waiting room_now (zone_at a z).wait
  release-wait = ap (λ (s : Zone). s.wait) (served-zone (returned a m z page) z within back-lacks)
      ∙ ap (λ k. left_waiting k (zone_at (returned a m z page) z).wait) (back-free a m z page inside held)
      ∙ ap (left_waiting room_now) back-wait

  pub release-done : completed (free (returned a m z page) z) (zone_at (returned a m z page) z).wait
      ≡ completed room_now (zone_at a z).wait
  release-done = ap (λ k. completed k (zone_at (returned a m z page) z).wait) (back-free a m z page inside held)
      ∙ ap (completed room_now) back-wait

  pub release-reserved : reserved after_release z ≡ reserved a z + promised room_now (zone_at a z).wait
  release-reserved =
      let p : promised (free (returned a m z page) z) (zone_at (returned a m z page) z).wait
      ≡ promised room_now (zone_at a z).wait =
      ap (λ k. promised k (zone_at (returned a m z page) z).wait) (back-free a m z page inside held)
      ∙ ap (promised room_now) back-wait in
      omega (arith, p, served-reserved (returned a m z page) z within back-lacks, back-reserved a m z page inside held)

  pub release-active : active after_release z + 1 ≡ active a z
  release-active = back-active a m z page inside held

  pub release-other : (y : ℕ) → y ≢ z → SameZone a after_release y
  release-other y apart =
      let s : SameZone (returned a m z page) after_release y =
      served-other (returned a m z page) z within back-lacks y apart in
      let r : SameZone a (returned a m z page) y = back-other a m z page inside held y apart in
      record { zone = s.zone ∙ r.zone; reserved = s.reserved ∙ r.reserved; active = s.active ∙ r.active }

  pub release-count : length after_release.zones ≡ length a.zones
  release-count = length-set (returned a m z page).zones z _ ∙ length-set a.zones z _

  out_of : (y : ℕ) → y ≡ z → length a.zones ≤ y → ⊥
  out_of y e out = omega (arith, inside, e, out)

  pub release-well : IsAccountWellFormed after_release
  release-well = record {
    wanted =
        All-append (λ (w : Waiter). 0 < w.need) a.ready
        (completed (free (returned a m z page) z) (zone_at (returned a m z page) z).wait) well.wanted
        (completed-wanted _ z _ back-lacks);
    inside = λ y past. (let out : length a.zones ≤ y = omega (arith, past, release-count) in
        (release-other y (λ e. out_of y e out)).active ∙ well.inside y out);
    enough = λ y. (elim (eqb_tells y z) as (λ _. reserved after_release y ≤ length (zone_at after_release y).avail) [
      | inl h ↦ subst (λ k. reserved after_release k ≤ length (zone_at after_release k).avail) (sym h.1)
          (omega (
            arith,
            release-reserved,
            well.enough z,
            promised-le room_now (zone_at a z).wait,
            ap (λ (k : List ℕ). length k) release-avail,
          ))
      | inr h ↦ omega (
        arith,
        (release-other y h.1).reserved,
        well.enough y,
        ap (λ (s : Zone). length s.avail) (release-other y h.1).zone,
      )
    ]);
    waits = λ y. (elim (eqb_tells y z) as (λ _. All (Lacks y) (zone_at after_release y).wait) [
      | inl h ↦ subst (λ k. All (Lacks k) (zone_at after_release k).wait) (sym h.1)
          (rw release-wait (left-lacks room_now z (zone_at a z).wait (well.waits z)))
      | inr h ↦ rw (release-other y h.1).zone (well.waits y)
    ]);
  }

zone_past : (zs : List Zone) (z : ℕ) → length zs ≤ z → length (get_or zs z no_zone).avail ≡ 0
zone_past [] z h = refl
zone_past (x ∷ xs) zero h = absurd (omega arith)
zone_past (x ∷ xs) (suc z) h = zone_past xs z (omega arith)

-- the head of the callback list leaves it
module _ (a : Account) (w : Waiter) (ws : List Waiter) (is : a.ready ≡ w ∷ ws) (well : IsAccountWellFormed a) where
  abbrev pub shorter : Account
  shorter = record a { ready = ws }

  wants : 0 < w.need
  wants = All-head (λ (x : Waiter). 0 < x.need) w ws (subst (λ k. All (λ x. 0 < x.need) k) is well.wanted)

  pub shorter-reserved : reserved shorter w.zone.0 + w.need ≡ reserved a w.zone.0
  shorter-reserved =
      let here : filter (λ x. x.zone.0 == w.zone.0) (w ∷ ws) ≡ w ∷ filter (λ x. x.zone.0 == w.zone.0) ws =
      rw (eq-eqb w.zone.0 w.zone.0 refl) refl in
      let all : filter (λ x. x.zone.0 == w.zone.0) a.ready ≡ w ∷ filter (λ x. x.zone.0 == w.zone.0) ws =
      ap (filter (λ (x : Waiter). x.zone.0 == w.zone.0)) is ∙ here in
      omega (
        arith,
        ap (sum_by (λ (x : Waiter). x.need)) all,
        sum_by-cons (λ (x : Waiter). x.need) w (filter (λ x. x.zone.0 == w.zone.0) ws),
      )

  pub shorter-other : (y : ℕ) → y ≢ w.zone.0 → reserved shorter y ≡ reserved a y
  shorter-other y apart =
      let here : filter (λ x. x.zone.0 == y) (w ∷ ws) ≡ filter (λ x. x.zone.0 == y) ws =
      rw (ne_eqb w.zone.0 y (λ e. apart (sym e))) refl in
      let all : filter (λ x. x.zone.0 == y) a.ready ≡ filter (λ x. x.zone.0 == y) ws =
      ap (filter (λ (x : Waiter). x.zone.0 == y)) is ∙ here in
      ap (λ (k : List Waiter). sum_by (λ x. x.have) (zone_at a y).wait + sum_by (λ x. x.need) k) (sym all)

  pub head-inside : w.zone.0 < length a.zones
  head-inside = grind (arith, wants, shorter-reserved, well.enough w.zone.0, zone_past a.zones w.zone.0)

  pub shorter-enough : w.need ≤ free shorter w.zone.0
  shorter-enough = omega (arith, shorter-reserved, well.enough w.zone.0)

  pub shorter-well : IsAccountWellFormed shorter
  shorter-well = record {
    inside = well.inside;
    enough = λ y. (elim (eqb_tells y w.zone.0) as (λ _. reserved shorter y ≤ length (zone_at a y).avail) [
      | inl h ↦ subst (λ k. reserved shorter k ≤ length (zone_at a k).avail) (sym h.1)
          (omega (arith, shorter-reserved, well.enough w.zone.0))
      | inr h ↦ omega (arith, shorter-other y h.1, well.enough y)
    ]);
    waits = well.waits;
    wanted = All-tail (λ (x : Waiter). 0 < x.need) w ws (subst (λ k. All (λ x. 0 < x.need) k) is well.wanted);
  }
