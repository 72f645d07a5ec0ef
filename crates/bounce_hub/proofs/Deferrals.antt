-- No more loads were deferred or wait than there are entries.
use Rattle.std.proofs.Common.{◌≡◌, ℕ, zero, suc, ◌+◌, ◌≤◌, Bool, true, false, List, [], ◌∷◌, ◌++◌, length, get_or, set}
use Rattle.std.proofs.Common.{take, drop, not, refl, ap, arith, eqb, leb, if◌then◌else◌, Option, Some, None}
use Rattle.std.specs.List.{sum_by, filter}
use Rattle.std.proofs.lemmas.List.{length-append}
use Rattle.std.proofs.lemmas.List.Sums.{sum_by-cons}
use Rattle.busdma_machine.specs.declared.name.MapId.{MapId}
use Rattle.busdma_machine.specs.declared.tags.tag.TagLimits.{TagLimits}
use Rattle.busdma_machine.specs.declared.bounce.zone.Waiter.{Waiter}
use Rattle.busdma_machine.specs.declared.bounce.hold.HubCall.{HubCall}
use Rattle.busdma_machine.specs.declared.bounce.hold.HubCall.TheVariants.{AttachTag, CreateMap, DestroyMap, Grab}
use Rattle.busdma_machine.specs.declared.bounce.hold.HubCall.TheVariants.{Release}
use Rattle.busdma_machine.specs.declared.bounce.hold.HubCall.TheVariants.{TakeCallback, MemAlloc, MemFree}
use Rattle.busdma_machine.specs.declared.bounce.hold.HubReply.TheVariants.{Nothing, Granted, Queued, NoPages, Called}
use Rattle.busdma_machine.specs.declared.bounce.hold.HoldEntry.{HoldEntry}
use Rattle.busdma_machine.specs.Bounce.Account.{Account, Zone, same_map, zone_at, no_zone, with_zone, free, total}
use Rattle.busdma_machine.specs.Bounce.AccountStep.{AccountReply, account_step, as_pages}
use Rattle.busdma_machine.specs.Bounce.AccountStep.{created, grabbed, called_from}
use Rattle.busdma_machine.specs.Bounce.AccountStep.{memory_placed}
use Rattle.busdma_machine.specs.Bounce.Growth.{zones_for, zone_for_tag, with_zone_for}
use Rattle.busdma_machine.specs.Bounce.Growth.{added, grown, maxpages, wanted_by_tag}
use Rattle.busdma_machine.specs.Bounce.Growth.{wanted_by_map, with_zone_map}
use Rattle.busdma_machine.specs.Bounce.History.{IsOpening, after_entry, account_of}
use Rattle.busdma_machine.specs.Bounce.Serving.{handed, waiting_at_tail, returned}
use Rattle.busdma_machine.specs.Bounce.Serving.{completed, left_waiting, served}
use Rattle.busdma_machine.proofs.Accounts.Names.{sum_by-zones_for}
use Rattle.bounce_hub.specs.Pools.{deferrals}
use Rattle.bounce_hub.proofs.Owing.{completed-length}

abbrev of_zone : Zone → ℕ
of_zone z = z.deferred + length z.wait

set_le : (xs : List Zone) (z k : ℕ) (y : Zone) → of_zone y ≤ of_zone (get_or xs z no_zone) + k →
    sum_by of_zone (set xs z y) ≤ sum_by of_zone xs + k
set_le [] z k y e = omega arith
set_le (x ∷ xs) zero k y e = omega (arith, e, sum_by-cons of_zone x xs, sum_by-cons of_zone y xs)
set_le (x ∷ xs) (suc z) k y e =
    omega (arith, set_le xs z k y e, sum_by-cons of_zone x xs, sum_by-cons of_zone x (set xs z y))

with_zone_le : (a : Account) (z k : ℕ) (y : Zone) → of_zone y ≤ of_zone (zone_at a z) + k →
    deferrals (with_zone a z y) ≤ deferrals a + k
with_zone_le a z k y e = set_le a.zones z k y e

grown_le : (t : TagLimits) (a : Account) (n : ℕ) →
    deferrals (grown (with_zone_for t a) (zone_for_tag t a.zones) n) ≤ deferrals a
grown_le t a n =
    omega (
      arith,
      set_le (zones_for t a.zones) (zone_for_tag t a.zones) 0
          (record (zone_at (with_zone_for t a) (zone_for_tag t a.zones))
          { avail = (zone_at (with_zone_for t a) (zone_for_tag t a.zones)).avail ++ take n a.bank }) (omega arith),
      sum_by-zones_for t of_zone refl a.zones,
    )

either_le : (b c : Account) (v : Bool) (k : ℕ) → deferrals b ≤ k → deferrals c ≤ k → deferrals (if v then c else b) ≤ k
either_le b c true k s t = t
either_le b c false k s t = s

created_le : (m : MapId) (t : TagLimits) (first_done : Bool) (a : Account) →
    deferrals (created m t first_done a).account ≤ deferrals a + 1
created_le m t first_done a =
    let b : Account = with_zone_for t a in
    let z : ℕ = zone_for_tag t a.zones in
    let c : Account = grown b z (added b z (wanted_by_map t first_done (zone_at b z) (total b z) (maxpages t a))) in
    let small : deferrals c ≤ deferrals a = grown_le t a _ in
    either_le c (with_zone_map c z m) _ (deferrals a + 1) (omega (arith, small))
    (omega (
      arith,
      small,
      with_zone_le c z 0
          (record (zone_at c z) { maps = (zone_at c z).maps ++ m ∷ [] }) (omega arith),
    ))

handed_le : (a : Account) (m : MapId) (z need : ℕ) → deferrals (handed a m z need) ≤ deferrals a + 1
handed_le a m z need =
    omega (arith, with_zone_le a z 0 (record (zone_at a z) { avail = drop need (zone_at a z).avail }) (omega arith))

grabbed_le : (m : MapId) (z need : ℕ) (nowait : Bool) (a : Account) →
    deferrals (grabbed m z need nowait a).account ≤ deferrals a + 1
grabbed_le m z need nowait a =
    elim (leb need (free a z)) as (λ v. let o : AccountReply = if v
    then record { account = handed a m z need; reply = Granted (as_pages (take need (zone_at a z).avail)) }
    else (if nowait then record { account = a; reply = NoPages }
    else record { account = waiting_at_tail a m z need; reply = Queued (free a z) }) in
    deferrals o.account ≤ deferrals a + 1) [
      | true ↦ handed_le a m z need
      | false ↦
          (elim nowait as (λ v. let o : AccountReply = if v then record { account = a; reply = NoPages }
          else record { account = waiting_at_tail a m z need; reply = Queued (free a z) } in
          deferrals o.account ≤ deferrals a + 1) [
            | true ↦ omega arith
            | false ↦ (let w : Waiter = record { map = m; zone = record { 0 = z }; need = need; have = free a z } in
                with_zone_le a z 1 (record (zone_at a z) { wait = (zone_at a z).wait ++ w ∷ [] })
                (omega (arith, length-append (zone_at a z).wait (w ∷ []))))
          ])
    ]

served_le : (b : Account) (z : ℕ) → deferrals (served b z) ≤ deferrals b
served_le b z =
    let ws : List Waiter = (zone_at b z).wait in
    omega (
      arith,
      with_zone_le b z 0 (record (zone_at b z) {
        wait = left_waiting (free b z) ws;
        deferred = (zone_at b z).deferred + length (completed (free b z) ws);
      })
          (omega (arith, completed-length (free b z) ws)),
    )

released_le : (m : MapId) (z page : ℕ) (a : Account) → deferrals (served (returned a m z page) z) ≤ deferrals a + 1
released_le m z page a =
    omega (
      arith,
      served_le (returned a m z page) z,
      with_zone_le a z 0 (record (zone_at a z) { avail = page ∷ (zone_at a z).avail }) (omega arith),
    )

called_le : (ws : List Waiter) (lane : ℕ) (a : Account) → deferrals (called_from ws lane a).account ≤ deferrals a + 1
called_le [] lane a = omega arith
called_le (w ∷ ws) lane a =
    elim (eqb w.map.lane.0 lane) as (λ v. let o : AccountReply = if v
    then record {
      account = handed (record a { ready = ws }) w.map w.zone.0 w.need;
      reply = Called w.map (as_pages (take w.need (zone_at a w.zone.0).avail));
    } else record {
      account = a;
      reply =
          Nothing;
    } in deferrals o.account ≤ deferrals a + 1) [
      | true ↦ handed_le (record a { ready = ws }) w.map w.zone.0 w.need
      | false ↦ omega arith
    ]

placed_le : (m : MapId) (n : ℕ) (first : Option ℕ) (a : Account) →
    deferrals (memory_placed m n first a).account ≤ deferrals a + 1
placed_le m n None a = omega arith
placed_le m n (Some first) a = omega arith

step_le : (lane : ℕ) (c : HubCall) (a : Account) → deferrals (account_step lane c a).account ≤ deferrals a + 1
step_le lane (AttachTag t) a =
    let z : ℕ = zone_for_tag t a.zones in
    omega (arith, grown_le t a (added (with_zone_for t a) z (wanted_by_tag t (total (with_zone_for t a) z))))
step_le lane (CreateMap m t first_done) a = created_le m t first_done a
step_le lane (DestroyMap m z) a =
    omega (
      arith,
      with_zone_le a z.0 0 (record (zone_at a z.0) { maps = filter (λ n. not (same_map m n)) (zone_at a z.0).maps })
          (omega arith),
    )
step_le lane (Grab m z need nowait) a = grabbed_le m z.0 need nowait a
step_le lane (Release m z page) a = released_le m z.0 page.0 a
step_le lane TakeCallback a = called_le a.ready lane a
step_le lane (MemAlloc m t) a = placed_le m _ _ a
step_le lane (MemFree m) a = omega arith

history_le : (a : Account) (es : List HoldEntry) → deferrals (account_of a es) ≤ deferrals a + length es
history_le a [] = omega arith
history_le a (e ∷ es) = omega (arith, history_le (after_entry e a) es, step_le e.lane.0 e.call a)

pub deferrals-few : (a : Account) (es : List HoldEntry) → IsOpening a → deferrals (account_of a es) ≤ length es
deferrals-few a es opening =
    let none : deferrals a ≡ 0 = ap (λ (zs : List Zone). sum_by of_zone zs) opening.zones in
    omega (arith, none, history_le a es)
