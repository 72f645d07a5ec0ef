-- What each change of an account makes of the entries to come and of the number of maps that wait.
use Rattle.std.proofs.Common.{◌≡◌, ℕ, ◌+◌, ◌-◌, ◌<◌, ◌≤◌, Bool, true, false, cond, not, List, [], ◌∷◌, ◌++◌, map, take}
use Rattle.std.proofs.Common.{drop, length, refl, ap, arith, leb, if◌then◌else◌}
use Rattle.std.specs.List.{count_by, filter}
use Rattle.std.proofs.lemmas.List.{length-map, length-take-le, length-append, length-set}
use Rattle.std.proofs.lemmas.List.Sums.{sum_by-cons, sum_by-append, sum_by-set}
use Rattle.busdma_machine.specs.declared.name.MapId.{MapId}
use Rattle.busdma_machine.specs.declared.bounce.zone.Waiter.{Waiter}
use Rattle.busdma_machine.specs.Bounce.Account.{Account, Zone, Held, zone_at, no_zone, free}
use Rattle.busdma_machine.specs.Bounce.Serving.{is_holding, handed, waiting_at_tail}
use Rattle.busdma_machine.specs.Bounce.Serving.{returned, completed, left_waiting, served}
use Rattle.busdma_machine.specs.Bounce.Conditions.{times_held}
use Rattle.bounce_hub.specs.Pools.{entries_to_come, owed, waiting}

abbrev weight : Bool → ℕ
weight b = cond b 1 0

abbrev of_zone : Zone → ℕ
of_zone s = entries_to_come s.wait + length s.maps

-- pages go to a map
module _ (a : Account) (m : MapId) (z need : ℕ) (inside : z < length a.zones) (enough : need ≤ free a z) where
  pub handed-owed : owed (handed a m z need) ≡ owed a + need
  handed-owed = omega (
    arith,
    length-append a.held (map (λ p. record { page = p; zone = z; map = m }) (take need (zone_at a z).avail)),
    length-map {B = Held} (take need (zone_at a z).avail) (λ p. record { page = p; zone = z; map = m }),
    length-take-le need (zone_at a z).avail (omega (arith, enough)),
    sum_by-set of_zone a.zones z (record (zone_at a z) { avail = drop need (zone_at a z).avail }) no_zone inside,
  )

  pub handed-waiting : waiting (handed a m z need) ≡ waiting a
  handed-waiting =
      omega (
        arith,
        sum_by-set (λ (s : Zone). length s.wait) a.zones z
            (record (zone_at a z) { avail = drop need (zone_at a z).avail }) no_zone inside,
      )

-- a map waits
module _ (a : Account) (m : MapId) (z need : ℕ) (inside : z < length a.zones) where
  abbrev joined : Waiter
  joined = record { map = m; zone = record { 0 = z }; need = need; have = free a z }

  abbrev queued_zone : Zone
  queued_zone = record (zone_at a z) { wait = (zone_at a z).wait ++ joined ∷ [] }

  pub queued-owed : owed (waiting_at_tail a m z need) ≡ owed a + (need + 1)
  queued-owed = omega (
    arith,
    sum_by-set of_zone a.zones z queued_zone no_zone inside,
    sum_by-append (λ (w : Waiter). w.need + 1) (zone_at a z).wait (joined ∷ []),
    sum_by-cons (λ (w : Waiter). w.need + 1) joined [],
  )

  pub queued-waiting : waiting (waiting_at_tail a m z need) ≡ waiting a + 1
  queued-waiting =
      omega (
        arith,
        sum_by-set (λ (s : Zone). length s.wait) a.zones z queued_zone no_zone inside,
        length-append (zone_at a z).wait (joined ∷ []),
      )

-- serving
pub completed-entries : (pages : ℕ) (ws : List Waiter) →
    entries_to_come (left_waiting pages ws) + entries_to_come (completed pages ws) ≡ entries_to_come ws
completed-entries pages [] = refl
completed-entries pages (w ∷ ws) =
    let k : ℕ = w.need - w.have in
    elim (leb k pages) as (λ v. entries_to_come (if v then left_waiting (pages - k) ws
    else record w { have = w.have + pages } ∷ ws)
    + entries_to_come (if v then record w { have = w.need } ∷ completed (pages - k) ws else [])
    ≡ entries_to_come (w ∷ ws)) [
      | true ↦ omega (
        arith,
        completed-entries (pages - k) ws,
        sum_by-cons (λ (x : Waiter). x.need + 1) (record w { have = w.need }) (completed (pages - k) ws),
        sum_by-cons (λ (x : Waiter). x.need + 1) w ws,
      )
      | false ↦ omega (
        arith,
        sum_by-cons (λ (x : Waiter). x.need + 1) (record w { have = w.have + pages }) ws,
        sum_by-cons (λ (x : Waiter). x.need + 1) w ws,
      )
    ]

pub completed-length : (pages : ℕ) (ws : List Waiter) →
    length (left_waiting pages ws) + length (completed pages ws) ≡ length ws
completed-length pages [] = refl
completed-length pages (w ∷ ws) =
    let k : ℕ = w.need - w.have in
    elim (leb k pages) as (λ v. length (if v then left_waiting (pages - k) ws
    else record w { have = w.have + pages } ∷ ws)
    + length (if v then record w { have = w.need } ∷ completed (pages - k) ws else []) ≡ length (w ∷ ws)) [
      | true ↦ omega (arith, completed-length (pages - k) ws)
      | false ↦ omega arith
    ]

module _ (b : Account) (z : ℕ) (inside : z < length b.zones) where
  abbrev done : List Waiter
  done = completed (free b z) (zone_at b z).wait

  abbrev served_zone : Zone
  served_zone =
      record (zone_at b z) {
        wait = left_waiting (free b z) (zone_at b z).wait;
        deferred = (zone_at b z).deferred + length done;
      }

  pub served-owed : owed (served b z) ≡ owed b
  served-owed = omega (
    arith,
    sum_by-set of_zone b.zones z served_zone no_zone inside,
    completed-entries (free b z) (zone_at b z).wait,
    sum_by-append (λ (w : Waiter). w.need + 1) b.ready done,
  )

  pub served-waiting : waiting (served b z) + length done ≡ waiting b
  served-waiting =
      omega (
        arith,
        sum_by-set (λ (s : Zone). length s.wait) b.zones z served_zone no_zone inside,
        completed-length (free b z) (zone_at b z).wait,
      )

-- a page comes back
length-filter_less : (q : Held → Bool) (xs : List Held) →
    length (filter (λ x. not (q x)) xs) + count_by q xs ≡ length xs
length-filter_less q [] = refl
length-filter_less q (x ∷ xs) =
    (elim (q x) as (λ v. q x ≡ v → length (cond (not v) (x ∷ filter (λ x. not (q x)) xs) (filter (λ x. not (q x)) xs))
    + count_by q (x ∷ xs) ≡ length (x ∷ xs)) [
      | true ↦ λ w. (let one : weight (q x) ≡ 1 = rw w refl in
          omega (arith, one, length-filter_less q xs, sum_by-cons (λ y. weight (q y)) x xs))
      | false ↦ λ w. (let none : weight (q x) ≡ 0 = rw w refl in
          omega (arith, none, length-filter_less q xs, sum_by-cons (λ y. weight (q y)) x xs))
    ]) refl

module _ (a : Account) (m : MapId) (z page : ℕ) (inside : z < length a.zones) (held : times_held m z page a ≡ 1) where
  abbrev back_zone : Zone
  back_zone = record (zone_at a z) { avail = page ∷ (zone_at a z).avail }

  back-inside : z < length (returned a m z page).zones
  back-inside = rw (length-set a.zones z back_zone) inside

  pub release-owed : owed (served (returned a m z page) z) + 1 ≡ owed a
  release-owed =
      omega (
        arith,
        held,
        served-owed (returned a m z page) z back-inside,
        length-filter_less (is_holding m z page) a.held,
        sum_by-set of_zone a.zones z back_zone no_zone inside,
      )

  pub release-waiting : waiting (served (returned a m z page) z)
      + length (completed (free (returned a m z page) z) (zone_at (returned a m z page) z).wait) ≡ waiting a
  release-waiting =
      omega (
        arith,
        served-waiting (returned a m z page) z back-inside,
        sum_by-set (λ (s : Zone). length s.wait) a.zones z back_zone no_zone inside,
      )

-- the head of the callback list leaves it
pub shorter-owed : (a : Account) (w : Waiter) (ws : List Waiter) → a.ready ≡ w ∷ ws →
    owed (record a { ready = ws }) + (w.need + 1) ≡ owed a
shorter-owed a w ws is = omega (arith, ap entries_to_come is, sum_by-cons (λ (x : Waiter). x.need + 1) w ws)
