-- Maps join their zones and leave them.
use Rattle.std.proofs.Common.{◌≡◌, ℕ, ◌+◌, ◌<◌, ◌≤◌, Bool, true, false, cond, not, ◌||◌, List, [], ◌∷◌, length, set}
use Rattle.std.proofs.Common.{refl, sym, ap, ◌∙◌, arith, ◌==◌}
use Rattle.std.specs.List.{count_by, sum_by, filter}
use Rattle.std.proofs.lemmas.List.{get_or-set_same, get_or-set_other}
use Rattle.std.proofs.lemmas.List.Sums.{sum_by-cons, sum_by-set, get_or-le-sum_by}
use Rattle.busdma_machine.specs.declared.name.MapId.{MapId}
use Rattle.busdma_machine.specs.declared.tags.tag.TagLimits.{TagLimits}
use Rattle.busdma_machine.specs.declared.bounce.hold.HubReply.TheVariants.{Grown}
use Rattle.busdma_machine.specs.Bounce.Account.{Account, Zone, same_map, no_zone, zone_at, with_zone, total}
use Rattle.busdma_machine.specs.Bounce.AccountStep.{created}
use Rattle.busdma_machine.specs.Bounce.Growth.{zone_for_tag, with_zone_for, added}
use Rattle.busdma_machine.specs.Bounce.Growth.{grown, maxpages, wanted_by_map, with_zone_map}
use Rattle.busdma_machine.specs.Machine.PageList.{page_addresses}
use Rattle.busdma_machine.proofs.Accounts.KeptZones.{keeps-with_zone}
use Rattle.bounce_hub.specs.declared.hub_zone.HubZone.{HubZone}
use Rattle.bounce_hub.specs.declared.pool.Pool.{Pool}
use Rattle.bounce_hub.specs.Pools.{Matches, PoolAgrees, entries_to_come, owed, waiting}
use Rattle.bounce_hub.proofs.Nested.{nested-after}
use Rattle.bounce_hub.proofs.Agreeing.{Around, zones-set, count-set}

abbrev weight : Bool → ℕ
weight b = cond b 1 0

abbrev of_zone : Zone → ℕ
of_zone s = entries_to_come s.wait + length s.maps

-- another number of maps in one zone
pub agrees-mapped : (p q : Pool) (a : Account) (z : ℕ) (old new : HubZone) (maps : List MapId)
    → PoolAgrees p a → Around p q → z < length a.zones → Matches old a z
    → new ≡ record old { maps = length maps } → q.zones.items ≡ set p.zones.items z new → q.ready ≡ p.ready →
    q.owed + length (zone_at a z).maps ≡ p.owed + length maps
    → PoolAgrees q (with_zone a z (record (zone_at a z) { maps = maps }))
agrees-mapped p q a z old new maps agrees around inside here is zones ready more =
    let k : Zone = record (zone_at a z) { maps = maps } in
    let b : Account = with_zone a z k in
    let at : zone_at b z ≡ k = get_or-set_same a.zones z k no_zone inside in
    let less : owed b + length (zone_at a z).maps ≡ owed a + length maps =
    omega (arith, sum_by-set of_zone a.zones z k no_zone inside) in
    let same : waiting b ≡ waiting a =
    omega (arith, sum_by-set (λ (s : Zone). length s.wait) a.zones z k no_zone inside) in
    record {
      bank = ap (λ b. page_addresses b.pages) around.bank ∙ agrees.bank;
      count = count-set p q a z new k agrees zones;
      zones = zones-set p q a b z new agrees inside zones
          (rw is (record {
            lowaddr = here.lowaddr ∙ sym (ap (λ (k : Zone). k.lowaddr) at);
            alignment = here.alignment ∙ sym (ap (λ (k : Zone). k.alignment) at);
            avail = here.avail ∙ sym (ap (λ (k : Zone). k.avail) at);
            reserved =
                here.reserved
                ∙ sym
                (ap (λ (s : Zone). sum_by (λ w. w.have) s.wait
                + sum_by (λ w. w.need) (filter (λ w. w.zone.0 == z) a.ready)) at);
            active = here.active;
            wait = here.wait ∙ sym (ap (λ (k : Zone). k.wait) at);
            maps = sym (ap (λ (k : Zone). length k.maps) at);
            deferred = here.deferred ∙ sym (ap (λ (k : Zone). k.deferred) at);
          }))
          (λ y apart. (let there : zone_at b y ≡ zone_at a y = get_or-set_other a.zones z y k no_zone apart in
          record {
            zone = there;
            reserved =
                ap (λ (s : Zone). sum_by (λ w. w.have) s.wait
                + sum_by (λ w. w.need) (filter (λ w. w.zone.0 == y) a.ready)) there;
            active = refl;
          }));
      nested = nested-after p q a b around.nested agrees.nested (keeps-with_zone a b z k refl refl refl);
      ready = ap (λ r. r.items) ready ∙ agrees.ready;
      spare = omega (arith, agrees.spare, ap (λ r. r.spare) ready, same);
      owed = omega (arith, more, agrees.owed, less);
      maxmem = around.maxmem ∙ agrees.maxmem;
      max_bpages = around.max_bpages ∙ agrees.max_bpages;
    }

-- one map fewer
pub maps-less : (m : MapId) (ms : List MapId) →
    length (filter (λ n. not (same_map m n)) ms) + count_by (same_map m) ms ≡ length ms
maps-less m [] = refl
maps-less m (n ∷ ms) =
    (elim (same_map m n) as (λ v. same_map m n ≡ v →
    length (cond (not v) (n ∷ filter (λ n. not (same_map m n)) ms) (filter (λ n. not (same_map m n)) ms))
    + count_by (same_map m) (n ∷ ms) ≡ length (n ∷ ms)) [
      | true ↦ λ w. (let one : weight (same_map m n) ≡ 1 = rw w refl in
          omega (arith, one, maps-less m ms, sum_by-cons (λ y. weight (same_map m y)) n ms))
      | false ↦ λ w. (let none : weight (same_map m n) ≡ 0 = rw w refl in
          omega (arith, none, maps-less m ms, sum_by-cons (λ y. weight (same_map m y)) n ms))
    ]) refl

-- a zone's maps are among those that are to end
pub maps-owed : (a : Account) (z : ℕ) → z < length a.zones → length (zone_at a z).maps ≤ owed a
maps-owed a z inside = omega (arith, get_or-le-sum_by of_zone a.zones z no_zone inside)

-- the creation of a map, by whether the map was made
pub created-made : (m : MapId) (t : TagLimits) (first_done : Bool) (a : Account) (n wanted : ℕ)
    → wanted ≡ wanted_by_map t first_done (zone_at (with_zone_for t a) (zone_for_tag t a.zones))
    (total (with_zone_for t a) (zone_for_tag t a.zones)) (maxpages t a) →
    n ≡ added (with_zone_for t a) (zone_for_tag t a.zones) wanted → (first_done || n == wanted) ≡ true
    →
    created m t first_done a ≡ record {
      account =
          with_zone_map (grown (with_zone_for t a) (zone_for_tag t a.zones) n) (zone_for_tag t a.zones) m;
      reply =
          Grown (record { zone = record { 0 = zone_for_tag t a.zones }; added = n; made = true });
    }
created-made m t first_done a n wanted w e holds = rw (sym w, sym e, holds) refl

pub created-not : (m : MapId) (t : TagLimits) (first_done : Bool) (a : Account) (n wanted : ℕ)
    → wanted ≡ wanted_by_map t first_done (zone_at (with_zone_for t a) (zone_for_tag t a.zones))
    (total (with_zone_for t a) (zone_for_tag t a.zones)) (maxpages t a) →
    n ≡ added (with_zone_for t a) (zone_for_tag t a.zones) wanted → (first_done || n == wanted) ≡ false
    → created m t first_done a ≡ record {
      account = grown (with_zone_for t a) (zone_for_tag t a.zones) n;
      reply = Grown (record { zone = record { 0 = zone_for_tag t a.zones }; added = n; made = false });
    }
created-not m t first_done a n wanted w e fails = rw (sym w, sym e, fails) refl
