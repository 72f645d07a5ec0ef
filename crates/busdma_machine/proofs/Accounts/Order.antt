-- The order in which waiting maps are served and called back.
use Rattle.std.proofs.Common.{◌≡◌, ℕ, suc, ◌+◌, ◌-◌, ◌<◌, Bool, true, false, List, [], ◌∷◌, ◌++◌, take, drop, length}
use Rattle.std.proofs.Common.{refl, sym, ap, ◌∙◌, subst, arith, eqb, leb, if◌then◌else◌, Option, Some, None}
use Rattle.std.proofs.lemmas.Bool.{leb-true, leb-false}
use Rattle.std.proofs.lemmas.List.{get_or-set_same, get_or-set_other, length-set, map-append, append-nil, append_assoc}
use Rattle.std.proofs.lemmas.List.Sums.{sum_by-cons}
use Rattle.busdma_machine.specs.declared.name.MapId.{MapId}
use Rattle.busdma_machine.specs.declared.tags.tag.TagLimits.{TagLimits}
use Rattle.busdma_machine.specs.declared.bounce.zone.Waiter.{Waiter}
use Rattle.busdma_machine.specs.declared.bounce.hold.HubCall.{HubCall}
use Rattle.busdma_machine.specs.declared.bounce.hold.HubCall.TheVariants.{AttachTag, CreateMap, DestroyMap, Grab}
use Rattle.busdma_machine.specs.declared.bounce.hold.HubCall.TheVariants.{Release}
use Rattle.busdma_machine.specs.declared.bounce.hold.HubCall.TheVariants.{TakeCallback, MemAlloc, MemFree}
use Rattle.busdma_machine.specs.declared.bounce.hold.HubReply.TheVariants.{Nothing, Granted, Queued, NoPages, Called}
use Rattle.busdma_machine.specs.declared.bounce.hold.HoldEntry.{HoldEntry}
use Rattle.busdma_machine.specs.Bounce.Account.{Account, Zone, zone_at, no_zone, free, total}
use Rattle.busdma_machine.specs.Bounce.Growth.{with_zone_for, zone_for_tag, added}
use Rattle.busdma_machine.specs.Bounce.Growth.{grown, maxpages, wanted_by_map, with_zone_map}
use Rattle.busdma_machine.specs.Bounce.Serving.{complete, handed, waiting_at_tail}
use Rattle.busdma_machine.specs.Bounce.Serving.{returned, completed, left_waiting, served}
use Rattle.busdma_machine.specs.Bounce.AccountStep.{AccountReply, account_step, as_pages}
use Rattle.busdma_machine.specs.Bounce.AccountStep.{attached, created, grabbed, released}
use Rattle.busdma_machine.specs.Bounce.AccountStep.{called_from, memory_placed}
use Rattle.busdma_machine.specs.Bounce.History.{IsSound, after_entry, account_of}
use Rattle.busdma_machine.specs.Bounce.ServingOrder.{ServesNobody, lacking, first_gets, TooFew, ServesFront}
use Rattle.busdma_machine.specs.Bounce.ServingOrder.{ServesInOrder, maps_of, joined_by}
use Rattle.busdma_machine.specs.Bounce.ServingOrder.{map_called_by}
use Rattle.busdma_machine.specs.Bounce.ServingOrder.{maps_joined, maps_called}
use Rattle.busdma_machine.proofs.Accounts.EditedSums.{get_or-set_as}
use Rattle.busdma_machine.proofs.Accounts.Names.{get_or-zones_for}

-- a change that keeps the lists of maps and the held pages
nobody-like : (a b : Account) → b.held ≡ a.held → b.ready ≡ a.ready →
    ((z : ℕ) → (zone_at b z).wait ≡ (zone_at a z).wait) → ServesNobody a b
nobody-like a b held ready waits =
    record { held = held; ready = ready; waits = waits; reserved = λ z. rw (waits z, ready) refl }

nobody-trans : (a b c : Account) → ServesNobody a b → ServesNobody b c → ServesNobody a c
nobody-trans a b c s t = record {
  held = t.held ∙ s.held;
  ready = t.ready ∙ s.ready;
  waits = λ z. t.waits z
      ∙ s.waits z;
  reserved = λ z. t.reserved z ∙ s.reserved z;
}

nobody-with_zone_for : (t : TagLimits) (a : Account) → ServesNobody a (with_zone_for t a)
nobody-with_zone_for t a =
    nobody-like a (with_zone_for t a) refl refl (λ z. get_or-zones_for t (λ (k : Zone). k.wait) refl a.zones z)

nobody-grown : (a : Account) (z n : ℕ) → ServesNobody a (grown a z n)
nobody-grown a z n =
    nobody-like a (grown a z n) refl refl (λ y. get_or-set_as (λ (k : Zone). k.wait) a.zones z y
    (record (zone_at a z) { avail = (zone_at a z).avail ++ take n a.bank }) no_zone refl)

nobody-with_map : (a : Account) (z : ℕ) (m : MapId) → ServesNobody a (with_zone_map a z m)
nobody-with_map a z m =
    nobody-like a (with_zone_map a z m) refl refl
    (λ y. get_or-set_as (λ (k : Zone). k.wait) a.zones z y
    (record (zone_at a z) { maps = (zone_at a z).maps ++ m ∷ [] }) no_zone refl)

pub nobody-attached : (t : TagLimits) (a : Account) → ServesNobody a (attached t a).account
nobody-attached t a = nobody-trans a _ _ (nobody-with_zone_for t a) (nobody-grown (with_zone_for t a) _ _)

nobody-either : (a b c : Account) (v : Bool) → ServesNobody a b →
    ServesNobody a c → ServesNobody a (if v then c else b)
nobody-either a b c true s t = t
nobody-either a b c false s t = s

pub nobody-created : (m : MapId) (t : TagLimits) (first_done : Bool) (a : Account) →
    ServesNobody a (created m t first_done a).account
nobody-created m t first_done a =
    let b : Account = with_zone_for t a in
    let z : ℕ = zone_for_tag t a.zones in
    let c : Account = grown b z (added b z (wanted_by_map t first_done (zone_at b z) (total b z) (maxpages t a))) in
    let same : ServesNobody a c = nobody-trans a b c (nobody-with_zone_for t a) (nobody-grown b z _) in
    nobody-either a c (with_zone_map c z m) _ same (nobody-trans a c _ same (nobody-with_map c z m))

-- serving begins at the front of the list
pub serves_front : (pages : ℕ) (ws : List Waiter) → ServesFront pages ws (completed pages ws) (left_waiting pages ws)
serves_front pages [] = record { count = 0; leave = refl; enough = omega arith; stay = refl; too_few = tt }
serves_front pages (w ∷ ws) =
    let k : ℕ = w.need - w.have in
    (elim (leb k pages) as (λ v. leb k pages ≡ v →
    ServesFront pages (w ∷ ws) (if v then record w { have = w.need } ∷ completed (pages - k) ws else []) (if v
    then left_waiting (pages - k) ws else record w { have = w.have + pages } ∷ ws)) [
      | true ↦
          λ e. (let rest : ServesFront (pages - k) ws (completed (pages - k) ws) (left_waiting (pages - k) ws) =
          serves_front (pages - k) ws in
          let sum : lacking (w ∷ take rest.count ws) ≡ k + lacking (take rest.count ws) =
          sum_by-cons (λ (x : Waiter). x.need - x.have) w (take rest.count ws) in
          let left : (pages - k) - lacking (take rest.count ws) ≡ pages - lacking (w ∷ take rest.count ws) =
          omega (arith, sum, leb-true k pages e, rest.enough) in
          record {
            count = suc rest.count;
            leave = ap (λ l. complete w ∷ l) rest.leave;
            enough = omega (arith, sum, leb-true k pages e, rest.enough);
            stay = rest.stay ∙ ap (λ n. first_gets n (drop rest.count ws)) left;
            too_few = subst (λ n. TooFew n (drop rest.count ws)) left rest.too_few;
          })
      | false ↦ λ e. (let all : pages ≡ pages - 0 = omega arith in
          record {
            count = 0;
            leave = refl;
            enough = omega arith;
            stay = ap (λ n. record w { have = w.have + n } ∷ ws) all;
            too_few = omega (arith, leb-false k pages e);
          })
    ]) refl

pub released-order : (a : Account) (m : MapId) (z page : ℕ) → z < length a.zones →
    ServesInOrder (returned a m z page) (released m z page a).account z
released-order a m z page inside =
    let b : Account = returned a m z page in
    let zone : Zone = zone_at b z in
    let done : List Waiter = completed (free b z) zone.wait in
    let after : Zone =
    record zone { wait = left_waiting (free b z) zone.wait; deferred = zone.deferred + length done } in
    let within : z < length b.zones =
    rw (length-set a.zones z (record (zone_at a z) { avail = page ∷ (zone_at a z).avail })) inside in
    let is : (zone_at (served b z) z).wait ≡ left_waiting (free b z) zone.wait =
    ap (λ (k : Zone). k.wait) (get_or-set_same b.zones z after no_zone within) in
    record {
      done = done;
      front = subst (λ l. ServesFront (free b z) zone.wait done l) (sym is) (serves_front (free b z) zone.wait);
      ready = refl;
      others = λ y apart. ap (λ (k : Zone). k.wait) (get_or-set_other b.zones z y after no_zone apart);
    }

-- callbacks leave in the order in which maps joined
queue-called : (ws : List Waiter) (lane : ℕ) (a : Account) → a.ready ≡ ws →
    maps_of a.ready ++ [] ≡ map_called_by (called_from ws lane a).reply ++ maps_of (called_from ws lane a).account.ready
queue-called [] lane a is = append-nil (maps_of a.ready)
queue-called (w ∷ ws) lane a is =
    elim (eqb w.map.lane.0 lane) as (λ v. let o : AccountReply = if v
    then record {
      account = handed (record a { ready = ws }) w.map w.zone.0 w.need;
      reply = Called w.map (as_pages (take w.need (zone_at a w.zone.0).avail));
    } else record {
      account = a;
      reply =
          Nothing;
    } in maps_of a.ready ++ [] ≡ map_called_by o.reply ++ maps_of o.account.ready) [
      | true ↦ append-nil (maps_of a.ready) ∙ ap maps_of is
      | false ↦ append-nil (maps_of a.ready)
    ]

queue-grabbed : (m : MapId) (z need : ℕ) (nowait : Bool) (a : Account) →
    maps_of a.ready ++ [] ≡ map_called_by (grabbed m z need nowait a).reply
    ++ maps_of (grabbed m z need nowait a).account.ready
queue-grabbed m z need nowait a =
    elim (leb need (free a z)) as (λ v. let o : AccountReply = if v
    then record { account = handed a m z need; reply = Granted (as_pages (take need (zone_at a z).avail)) }
    else (if nowait then record { account = a; reply = NoPages }
    else record { account = waiting_at_tail a m z need; reply = Queued (free a z) }) in
    maps_of a.ready ++ [] ≡ map_called_by o.reply ++ maps_of o.account.ready) [
      | true ↦ append-nil (maps_of a.ready)
      | false ↦
          (elim nowait as (λ v. let o : AccountReply = if v then record { account = a; reply = NoPages }
          else record { account = waiting_at_tail a m z need; reply = Queued (free a z) } in
          maps_of a.ready ++ [] ≡ map_called_by o.reply ++ maps_of o.account.ready) [
            | true ↦ append-nil (maps_of a.ready)
            | false ↦ append-nil (maps_of a.ready)
          ])
    ]

queue-placed : (m : MapId) (n : ℕ) (first : Option ℕ) (a : Account) →
    maps_of a.ready ++ [] ≡ map_called_by (memory_placed m n first a).reply
    ++ maps_of (memory_placed m n first a).account.ready
queue-placed m n None a = append-nil (maps_of a.ready)
queue-placed m n (Some first) a = append-nil (maps_of a.ready)

queue-step : (lane : ℕ) (c : HubCall) (a : Account) →
    maps_of a.ready ++ joined_by c a ≡ map_called_by (account_step lane c a).reply
    ++ maps_of (account_step lane c a).account.ready
queue-step lane (AttachTag t) a = append-nil (maps_of a.ready)
queue-step lane (CreateMap m t first_done) a =
    append-nil (maps_of a.ready) ∙ ap maps_of (sym (nobody-created m t first_done a).ready)
queue-step lane (DestroyMap m z) a = append-nil (maps_of a.ready)
queue-step lane (Grab m z need nowait) a = queue-grabbed m z.0 need nowait a
queue-step lane (Release m z page) a =
    sym (map-append (λ (w : Waiter). w.map) a.ready
    (completed (free (returned a m z.0 page.0) z.0) (zone_at (returned a m z.0 page.0) z.0).wait))
queue-step lane TakeCallback a = queue-called a.ready lane a refl
queue-step lane (MemAlloc m t) a = queue-placed m _ _ a
queue-step lane (MemFree m) a = append-nil (maps_of a.ready)

pub queue-history : (a : Account) (es : List HoldEntry) → IsSound a es →
    maps_of a.ready ++ maps_joined a es ≡ maps_called es ++ maps_of (account_of a es).ready
queue-history a [] sound = append-nil (maps_of a.ready)
queue-history a (e ∷ es) sound =
    let b : Account = after_entry e a in
    let one : maps_of a.ready ++ joined_by e.call a ≡ map_called_by e.reply ++ maps_of b.ready =
    queue-step e.lane.0 e.call a ∙ ap (λ r. map_called_by r ++ maps_of b.ready) (sym sound.0.reply) in
    sym (append_assoc (maps_of a.ready) (joined_by e.call a) (maps_joined b es))
    ∙ ap (λ l. l ++ maps_joined b es) one
    ∙ append_assoc (map_called_by e.reply) (maps_of b.ready) (maps_joined b es)
    ∙ ap (λ l. map_called_by e.reply ++ l) (queue-history b es sound.1)
    ∙ sym (append_assoc (map_called_by e.reply) (maps_called es) (maps_of (account_of b es).ready))
