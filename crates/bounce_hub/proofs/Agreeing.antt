-- The pool agrees with the account after each change.
use Rattle.std.proofs.Common.{◌≡◌, ◌≢◌, ℕ, zero, suc, ◌+◌, ◌-◌, ◌<◌, ◌≤◌, List, [], ◌∷◌, ◌++◌, length, get_or, set}
use Rattle.std.proofs.Common.{take, drop, refl, sym, ap, ◌∙◌, subst, arith, inl, inr}
use Rattle.std.proofs.lemmas.Bool.Decides.{eqb_tells}
use Rattle.std.proofs.lemmas.List.{get_or-set_same, get_or-set_other, length-set, set-get_or, length-map}
use Rattle.busdma_machine.specs.declared.name.MapId.{MapId}
use Rattle.busdma_machine.specs.declared.bounce.zone.Waiter.{Waiter}
use Rattle.busdma_machine.specs.Bounce.Account.{Account, Zone, zone_at, free}
use Rattle.busdma_machine.specs.Bounce.Serving.{handed, waiting_at_tail, returned}
use Rattle.busdma_machine.specs.Bounce.Serving.{served, completed, left_waiting, promised}
use Rattle.busdma_machine.specs.Bounce.Conditions.{times_held}
use Rattle.busdma_machine.specs.Machine.Page.{FrameBytes}
use Rattle.busdma_machine.specs.Machine.PageList.{page_addresses, page_address}
use Rattle.busdma_machine.specs.Bounce.WellFormed.{IsAccountWellFormed}
use Rattle.busdma_machine.proofs.Accounts.Counts.{SameZone, handed-zone, handed-reserved, handed-active, handed-other}
use Rattle.busdma_machine.proofs.Accounts.Counts.{queued-zone, queued-reserved, queued-other, room_now, release-avail}
use Rattle.busdma_machine.proofs.Accounts.Counts.{release-wait, release-done, release-reserved, release-active}
use Rattle.busdma_machine.proofs.Accounts.Counts.{release-other, release-count, shorter-reserved, shorter-other}
use Rattle.busdma_machine.proofs.Accounts.Counts.{shorter-enough, back-zone}
use Rattle.busdma_machine.proofs.Accounts.KeptZones.{keeps-all, keeps-trans, keeps-with_zone}
use Rattle.bounce_hub.specs.declared.hub_zone.HubZone.{HubZone}
use Rattle.bounce_hub.specs.declared.pool.Pool.{Pool}
use Rattle.bounce_hub.specs.Pools.{Matches, PoolAgrees, owed}
use Rattle.bounce_hub.specs.HubZones.{room_after}
use Rattle.bounce_hub.proofs.Nested.{nested-after}
use Rattle.bounce_hub.proofs.Owing.{handed-owed, handed-waiting, queued-owed, queued-waiting, release-owed}
use Rattle.bounce_hub.proofs.Owing.{release-waiting, shorter-owed}

pub addresses-drop : (n : ℕ) (ps : List FrameBytes) → page_addresses (drop n ps) ≡ drop n (page_addresses ps)
addresses-drop zero ps = refl
addresses-drop (suc n) [] = refl
addresses-drop (suc n) (p ∷ ps) = addresses-drop n ps

pub addresses-take : (n : ℕ) (ps : List FrameBytes) → page_addresses (take n ps) ≡ take n (page_addresses ps)
addresses-take zero ps = refl
addresses-take (suc n) [] = refl
addresses-take (suc n) (p ∷ ps) = ap (λ xs. page_address p ∷ xs) (addresses-take n ps)

-- the bank, the number of nested zones and the constants are as they were
pub record Around (p q : Pool) : Type 0 where
  pub bank : q.bank ≡ p.bank
  pub nested : q.nested ≡ p.nested
  pub maxmem : q.maxmem ≡ p.maxmem
  pub max_bpages : q.max_bpages ≡ p.max_bpages

-- the zone at a place
pub zone-matches : (p : Pool) (a : Account) (z : ℕ) (s : HubZone) → PoolAgrees p a → z < length a.zones →
    s ≡ get_or p.zones.items z s → Matches s a z
zone-matches p a z s agrees inside at =
    subst (λ k. Matches k a z) (sym at) (agrees.zones z s (omega (arith, inside, agrees.count)))

-- the counters of one zone change, and those of the others stay
matches-set : (hub_zones : List HubZone) (a b : Account) (z : ℕ) (s : HubZone) → z < length hub_zones →
    ((y : ℕ) (d : HubZone) → y < length hub_zones → Matches (get_or hub_zones y d) a y) →
    Matches s b z → ((y : ℕ) → y ≢ z → SameZone a b y)
    → (y : ℕ) (d : HubZone) → y < length (set hub_zones z s) → Matches (get_or (set hub_zones z s) y d) b y
matches-set hub_zones a b z s inside each here others y d below =
    (elim (eqb_tells y z) as (λ _. Matches (get_or (set hub_zones z s) y d) b y) [
      | inl h ↦ subst (λ k. Matches (get_or (set hub_zones z s) k d) b k) (sym h.1)
          (rw (get_or-set_same hub_zones z s d inside) here)
      | inr h ↦ (let old : Matches (get_or hub_zones y d) a y = each y d
          (omega (arith, below, length-set hub_zones z s)) in
          let same : SameZone a b y = others y h.1 in
          rw (get_or-set_other hub_zones z y s d h.1) (record {
            lowaddr = old.lowaddr ∙ sym (ap (λ (k : Zone). k.lowaddr) same.zone);
            alignment = old.alignment ∙ sym (ap (λ (k : Zone). k.alignment) same.zone);
            avail = old.avail ∙ sym (ap (λ (k : Zone). k.avail) same.zone);
            reserved = old.reserved ∙ sym same.reserved;
            active = old.active ∙ sym same.active;
            wait = old.wait ∙ sym (ap (λ (k : Zone). k.wait) same.zone);
            maps = old.maps ∙ sym (ap (λ (k : Zone). length k.maps) same.zone);
            deferred = old.deferred ∙ sym (ap (λ (k : Zone). k.deferred) same.zone);
          }))
    ])

-- the zones of a pool of which one changed
pub zones-set : (p q : Pool) (a b : Account) (z : ℕ) (s : HubZone) → PoolAgrees p a → z < length a.zones →
    q.zones.items ≡ set p.zones.items z s → Matches s b z → ((y : ℕ) → y ≢ z → SameZone a b y)
    → (y : ℕ) (d : HubZone) → y < length q.zones.items → Matches (get_or q.zones.items y d) b y
zones-set p q a b z s agrees inside is here others =
    subst (λ (hub_zones : List HubZone). (y : ℕ) (d : HubZone) → y < length hub_zones → Matches (get_or hub_zones y d)
    b y) (sym is)
    (matches-set p.zones.items a b z s (omega (arith, inside, agrees.count)) agrees.zones here others)

pub count-set : (p q : Pool) (a : Account) (z : ℕ) (s : HubZone) (k : Zone) → PoolAgrees p a →
    q.zones.items ≡ set p.zones.items z s → length q.zones.items ≡ length (set a.zones z k)
count-set p q a z s k agrees is = ap (λ (hub_zones : List HubZone). length hub_zones) is ∙ length-set p.zones.items z s
    ∙ agrees.count ∙ sym (length-set a.zones z k)

-- pages were handed out
pub agrees-handed : (p q : Pool) (a : Account) (m : MapId) (z need : ℕ) (old new : HubZone)
    → PoolAgrees p a → Around p q → z < length a.zones → need ≤ free a z → Matches old a z
    → new ≡ record old { zone = record old.zone { pages = drop need old.zone.pages; active = old.zone.active + need } }
    → q.zones.items ≡ set p.zones.items z new → q.ready ≡ p.ready → q.owed ≡ p.owed + need
    → PoolAgrees q (handed a m z need)
agrees-handed p q a m z need old new agrees around inside enough here is zones ready more =
    let at : zone_at (handed a m z need) z ≡ record (zone_at a z) { avail = drop need (zone_at a z).avail } =
    handed-zone a m z need inside enough in
    record {
      bank = ap (λ b. page_addresses b.pages) around.bank ∙ agrees.bank;
      count = count-set p q a z new _ agrees zones;
      zones = zones-set p q a (handed a m z need) z new agrees inside zones
          (rw is (record {
            lowaddr = here.lowaddr ∙ sym (ap (λ (k : Zone). k.lowaddr) at);
            alignment = here.alignment ∙ sym (ap (λ (k : Zone). k.alignment) at);
            avail =
                addresses-drop need old.zone.pages ∙ ap (drop need) here.avail ∙ sym (ap (λ (k : Zone). k.avail) at);
            reserved = here.reserved ∙ sym (handed-reserved a m z need inside enough z);
            active = omega (arith, here.active, handed-active a m z need inside enough);
            wait = here.wait ∙ sym (ap (λ (k : Zone). k.wait) at);
            maps = here.maps ∙ sym (ap (λ (k : Zone). length k.maps) at);
            deferred = here.deferred ∙ sym (ap (λ (k : Zone). k.deferred) at);
          }))
          (handed-other a m z need inside enough);
      nested = nested-after p q a (handed a m z need) around.nested agrees.nested
          (keeps-with_zone a (handed a m z need) z _ refl refl refl);
      ready = ap (λ r. r.items) ready ∙ agrees.ready;
      spare = omega (arith, agrees.spare, ap (λ r. r.spare) ready, handed-waiting a m z need inside enough);
      owed = omega (arith, more, agrees.owed, handed-owed a m z need inside enough);
      maxmem = around.maxmem ∙ agrees.maxmem;
      max_bpages = around.max_bpages ∙ agrees.max_bpages;
    }

-- a map waits with all free pages
pub agrees-queued : (p q : Pool) (a : Account) (m : MapId) (z need : ℕ) (old new : HubZone)
    → PoolAgrees p a → Around p q → IsAccountWellFormed a → z < length a.zones → free a z < need → Matches old a z
    → new ≡ record old {
      zone = record old.zone { reserved = old.zone.reserved + free a z };
      wait = old.wait
          ++ record { map = m; zone = record { 0 = z }; need = need; have = free a z } ∷ [];
    }
    → q.zones.items ≡ set p.zones.items z new →
    q.ready ≡ record p.ready { spare = p.ready.spare + 1 } → q.owed ≡ p.owed + (need + 1)
    → PoolAgrees q (waiting_at_tail a m z need)
agrees-queued p q a m z need old new agrees around well inside short here is zones ready more =
    let at : zone_at (waiting_at_tail a m z need) z
    ≡ record (zone_at a z) {
      wait = (zone_at a z).wait
          ++ record { map = m; zone = record { 0 = z }; need = need; have = free a z } ∷ [];
    } =
    queued-zone a m z need inside well short in
    record {
      bank = ap (λ b. page_addresses b.pages) around.bank ∙ agrees.bank;
      count = count-set p q a z new _ agrees zones;
      zones = zones-set p q a (waiting_at_tail a m z need) z new agrees inside zones
          (rw is (record {
            lowaddr = here.lowaddr ∙ sym (ap (λ (k : Zone). k.lowaddr) at);
            alignment = here.alignment ∙ sym (ap (λ (k : Zone). k.alignment) at);
            avail = here.avail ∙ sym (ap (λ (k : Zone). k.avail) at);
            reserved = omega (arith, here.reserved, queued-reserved a m z need inside well short);
            active = here.active;
            wait = ap (λ ws. ws ++ record { map = m; zone = record { 0 = z }; need = need; have = free a z } ∷ [])
                here.wait ∙ sym (ap (λ (k : Zone). k.wait) at);
            maps = here.maps ∙ sym (ap (λ (k : Zone). length k.maps) at);
            deferred = here.deferred ∙ sym (ap (λ (k : Zone). k.deferred) at);
          }))
          (queued-other a m z need inside well short);
      nested = nested-after p q a (waiting_at_tail a m z need) around.nested agrees.nested
          (keeps-with_zone a (waiting_at_tail a m z need) z _ refl refl refl);
      ready = ap (λ r. r.items) ready ∙ agrees.ready;
      spare = omega (arith, agrees.spare, ap (λ r. r.spare) ready, queued-waiting a m z need inside);
      owed = omega (arith, more, agrees.owed, queued-owed a m z need inside);
      maxmem = around.maxmem ∙ agrees.maxmem;
      max_bpages = around.max_bpages ∙ agrees.max_bpages;
    }

-- how many pages are free once a page came back
pub room-is : (a : Account) (m : MapId) (z page : ℕ) (old : HubZone) (inside : z < length a.zones)
    (held : times_held m z page a ≡ 1) (well : IsAccountWellFormed a) → Matches old a z →
    room_after old ≡ room_now a m z page inside held well
room-is a m z page old inside held well here =
    omega (arith, ap (λ (x : List ℕ). length x) here.avail, length-map old.zone.pages page_address, here.reserved)

-- a page came back, and the zone served
pub agrees-released : (p q : Pool) (a : Account) (m : MapId) (z : ℕ) (page : FrameBytes) (old new : HubZone)
    → PoolAgrees p a → Around p q → IsAccountWellFormed a → z < length a.zones →
    times_held m z (page_address page) a ≡ 1 → Matches old a z
    →
    new
    ≡ record old {
      zone = record old.zone {
        pages = page ∷ old.zone.pages;
        active = old.zone.active - 1;
        reserved = old.zone.reserved + promised (room_after old) old.wait;
      };
      wait = left_waiting (room_after old) old.wait;
      deferred =
          old.deferred + length (completed (room_after old) old.wait);
    }
    → q.zones.items ≡ set p.zones.items z new
    → q.ready ≡ record {
      items = p.ready.items ++ completed (room_after old) old.wait;
      spare = p.ready.spare - length (completed (room_after old) old.wait);
    }
    → q.owed ≡ p.owed - 1
    → PoolAgrees q (served (returned a m z (page_address page)) z)
agrees-released p q a m z page old new agrees around well inside held here is zones then less =
    let f : ℕ = page_address page in
    let b : Account = returned a m z f in
    let k : room_after old ≡ room_now a m z f inside held well = room-is a m z f old inside held well here in
    let w : old.wait ≡ (zone_at a z).wait = here.wait in
    let kept : left_waiting (room_after old) old.wait ≡ (zone_at (served b z) z).wait =
    ap (λ r. left_waiting r old.wait) k ∙ ap (left_waiting (room_now a m z f inside held well)) w
    ∙ sym (release-wait a m z f inside held well) in
    let done : completed (room_after old) old.wait ≡ completed (free b z) (zone_at b z).wait =
    ap (λ r. completed r old.wait) k ∙ ap (completed (room_now a m z f inside held well)) w
    ∙ sym (release-done a m z f inside held well) in
    let got : promised (room_after old) old.wait ≡ promised (room_now a m z f inside held well) (zone_at a z).wait =
    ap (λ r. promised r old.wait) k ∙ ap (promised (room_now a m z f inside held well)) w in
    let back : zone_at b z ≡ record (zone_at a z) { avail = f ∷ (zone_at a z).avail } =
    back-zone a m z f inside held in
    let at : zone_at (served b z) z ≡ record (zone_at b z) {
      wait = left_waiting (free b z) (zone_at b z).wait;
      deferred = (zone_at b z).deferred + length (completed (free b z) (zone_at b z).wait);
    } =
    get_or-set_same b.zones z _ _ (omega
    (arith, inside, length-set a.zones z (record (zone_at a z) { avail = f ∷ (zone_at a z).avail }))) in
    record {
      bank = ap (λ b. page_addresses b.pages) around.bank ∙ agrees.bank;
      count = ap (λ (hub_zones : List HubZone). length hub_zones) zones ∙ length-set p.zones.items z new ∙ agrees.count
          ∙ sym (release-count a m z f inside held well);
      zones = zones-set p q a (served b z) z new agrees inside zones
          (rw is (record {
            lowaddr = here.lowaddr ∙ sym (ap (λ (k : Zone). k.lowaddr) at ∙ ap (λ (k : Zone). k.lowaddr) back);
            alignment = here.alignment ∙ sym (ap (λ (k : Zone). k.alignment) at ∙ ap (λ (k : Zone). k.alignment) back);
            avail = ap (λ x. f ∷ x) here.avail ∙ sym (release-avail a m z f inside held well);
            reserved = omega (arith, here.reserved, got, release-reserved a m z f inside held well);
            active = omega (arith, here.active, release-active a m z f inside held well);
            wait = kept;
            maps = here.maps ∙ sym (ap (λ (k : Zone). length k.maps) at ∙ ap (λ (k : Zone). length k.maps) back);
            deferred =
                omega (
                  arith,
                  here.deferred,
                  ap (λ (k : Zone). k.deferred) at,
                  ap (λ (k : Zone). k.deferred) back,
                  ap (λ (x : List Waiter). length x) done,
                );
          }))
          (release-other a m z f inside held well);
      nested = nested-after p q a (served b z) around.nested agrees.nested
          (keeps-trans a b (served b z) (keeps-with_zone a b z _ refl refl refl)
          (keeps-with_zone b (served b z) z _ refl refl refl));
      ready = ap (λ r. r.items) then ∙ ap (λ x. x ++ completed (room_after old) old.wait) agrees.ready
          ∙ ap (λ x. a.ready ++ x) done;
      spare =
          omega (
            arith,
            ap (λ r. r.spare) then,
            agrees.spare,
            release-waiting a m z f inside held,
            ap (λ (x : List Waiter). length x) done,
          );
      owed = omega (arith, less, agrees.owed, release-owed a m z f inside held);
      maxmem = around.maxmem ∙ agrees.maxmem;
      max_bpages = around.max_bpages ∙ agrees.max_bpages;
    }

-- a callback took its pages
pub agrees-called : (p q : Pool) (a : Account) (w : Waiter) (ws : List Waiter) (old new : HubZone)
    → PoolAgrees p a → Around p q → IsAccountWellFormed a → a.ready ≡ w ∷ ws → w.zone.0 < length a.zones →
    Matches old a w.zone.0
    →
    new
    ≡ record old {
      zone = record old.zone {
        pages = drop w.need old.zone.pages;
        reserved = old.zone.reserved - w.need;
        active = old.zone.active + w.need;
      };
    }
    → q.zones.items ≡ set p.zones.items w.zone.0 new → q.ready.items ≡ ws →
    q.ready.spare ≡ p.ready.spare → q.owed ≡ p.owed - 1
    → PoolAgrees q (handed (record a { ready = ws }) w.map w.zone.0 w.need)
agrees-called p q a w ws old new agrees around well is inside here new_is zones items spare less =
    let b : Account = record a { ready = ws } in
    let z : ℕ = w.zone.0 in
    let enough : w.need ≤ free b z = shorter-enough a w ws is well in
    let at : zone_at (handed b w.map z w.need) z ≡ record (zone_at a z) { avail = drop w.need (zone_at a z).avail } =
    handed-zone b w.map z w.need inside enough in
    record {
      bank = ap (λ b. page_addresses b.pages) around.bank ∙ agrees.bank;
      count = count-set p q a z new _ agrees zones;
      zones = zones-set p q a (handed b w.map z w.need) z new agrees inside zones
          (rw new_is (record {
            lowaddr = here.lowaddr ∙ sym (ap (λ (k : Zone). k.lowaddr) at);
            alignment = here.alignment ∙ sym (ap (λ (k : Zone). k.alignment) at);
            avail = addresses-drop w.need old.zone.pages ∙ ap (drop w.need) here.avail
                ∙ sym (ap (λ (k : Zone). k.avail) at);
            reserved =
                omega (
                  arith,
                  here.reserved,
                  shorter-reserved a w ws is well,
                  handed-reserved b w.map z w.need inside enough z,
                );
            active = omega (arith, here.active, handed-active b w.map z w.need inside enough);
            wait = here.wait ∙ sym (ap (λ (k : Zone). k.wait) at);
            maps = here.maps ∙ sym (ap (λ (k : Zone). length k.maps) at);
            deferred = here.deferred ∙ sym (ap (λ (k : Zone). k.deferred) at);
          }))
          (λ y apart. (let s : SameZone b (handed b w.map z w.need) y =
          handed-other b w.map z w.need inside enough y apart in
          record { zone = s.zone; reserved = s.reserved ∙ shorter-other a w ws is well y apart; active = s.active }));
      nested = nested-after p q a (handed b w.map z w.need) around.nested agrees.nested
          (keeps-with_zone a (handed b w.map z w.need) z _ refl refl refl);
      ready = items;
      spare = omega (arith, agrees.spare, spare, handed-waiting b w.map z w.need inside enough);
      owed = omega (arith, less, agrees.owed, handed-owed b w.map z w.need inside enough, shorter-owed a w ws is);
      maxmem = around.maxmem ∙ agrees.maxmem;
      max_bpages = around.max_bpages ∙ agrees.max_bpages;
    }

-- a zone was written back as it was
pub agrees-same : (p q : Pool) (a : Account) (z : ℕ) (s : HubZone)
    → PoolAgrees p a → Around p q → s ≡ get_or p.zones.items z s → q.zones.items ≡ set p.zones.items z s →
    q.ready ≡ p.ready → q.owed ≡ p.owed → PoolAgrees q a
agrees-same p q a z s agrees around at is ready owed =
    let same : q.zones.items ≡ p.zones.items = is ∙ ap (set p.zones.items z) at ∙ set-get_or p.zones.items z s in
    record {
      bank = ap (λ b. page_addresses b.pages) around.bank ∙ agrees.bank;
      count = ap (λ (hub_zones : List HubZone). length hub_zones) same ∙ agrees.count;
      zones =
          subst (λ (hub_zones : List HubZone). (y : ℕ) (d : HubZone) → y < length hub_zones →
          Matches (get_or hub_zones y d) a y) (sym same) agrees.zones;
      nested = nested-after p q a a around.nested agrees.nested (keeps-all a a refl);
      ready = ap (λ r. r.items) ready ∙ agrees.ready;
      spare = omega (arith, agrees.spare, ap (λ r. r.spare) ready);
      owed = owed ∙ agrees.owed;
      maxmem = around.maxmem ∙ agrees.maxmem;
      max_bpages = around.max_bpages ∙ agrees.max_bpages;
    }

pub agrees-as : (q : Pool) (a b : Account) → a ≡ b → PoolAgrees q a → PoolAgrees q b
agrees-as q a b e agrees = subst (PoolAgrees q) e agrees
