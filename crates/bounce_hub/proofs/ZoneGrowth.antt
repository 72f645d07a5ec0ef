-- Zones for tags, their growth, and their maps.
use Rattle.std.proofs.Common.{◌≡◌, ◌≢◌, ℕ, suc, ◌+◌, ◌<◌, ◌≤◌, max, Bool, true, false, cond, List, [], ◌∷◌, ◌++◌}
use Rattle.std.proofs.Common.{length, get_or, set, take, drop, refl, sym, ap, ◌∙◌, subst, arith, inl, inr}
use Rattle.std.proofs.Common.{if◌then◌else◌, ◌==◌, slice_get}
use Rattle.std.specs.List.{sum_by, filter}
use Rattle.std.proofs.lemmas.Bool.Decides.{eqb_tells}
use Rattle.std.proofs.lemmas.List.{get_or-set_same, get_or-set_other, length-append, length-set, length-map}
use Rattle.std.proofs.lemmas.List.{get_or_append_left}
use Rattle.std.proofs.Math.Seq.{get_or-append_seam}
use Rattle.std.proofs.lemmas.Option.{slice_get-get_or, slice_get_past}
use Rattle.busdma_machine.specs.declared.tags.tag.TagLimits.{TagLimits}
use Rattle.busdma_machine.specs.declared.bounce.zone.Waiter.{Waiter}
use Rattle.busdma_machine.specs.declared.bounce.hold.HubReply.TheVariants.{Grown}
use Rattle.busdma_machine.specs.Bounce.Account.{Account, Zone, no_zone, zone_at, reserved, total}
use Rattle.busdma_machine.specs.Bounce.AccountStep.{attached}
use Rattle.busdma_machine.specs.Machine.Page.{FrameBytes}
use Rattle.busdma_machine.specs.Bounce.Growth.{serves_tag, new_zone, zones_for}
use Rattle.busdma_machine.specs.Bounce.Growth.{zone_for_tag, with_zone_for, added, grown}
use Rattle.busdma_machine.specs.Bounce.Growth.{wanted_by_tag, wanted_for, wanted_by_map, most_pages, maxpages}
use Rattle.busdma_machine.specs.Machine.PageList.{page_addresses, page_address}
use Rattle.busdma_machine.specs.Bounce.WellFormed.{IsAccountWellFormed}
use Rattle.busdma_machine.proofs.Accounts.EditedSums.{sum_by-set_like}
use Rattle.busdma_machine.proofs.Accounts.KeptZones.{keeps-trans, keeps-with_zone_for, keeps-grown}
use Rattle.busdma_machine.proofs.Accounts.ZoneOf.{zones_for_found, zones_for_none}
use Rattle.busdma_machine.proofs.Accounts.Names.{sum_by-zones_for}
use Rattle.bounce_hub.specs.declared.hub_zone.HubZone.{HubZone}
use Rattle.bounce_hub.specs.declared.pool.Pool.{Pool}
use Rattle.bounce_hub.specs.Growing.{serves, nested_with, place_for, grown_pages, grown_maps}
use Rattle.bounce_hub.specs.Pools.{Matches, AreNested, PoolAgrees}
use Rattle.bounce_hub.specs.Pools.{entries_to_come, owed, waiting}
use Rattle.bounce_hub.proofs.Nested.{nested-after, nested-joined}
use Rattle.bounce_hub.proofs.Agreeing.{addresses-drop, addresses-take, zones-set, count-set}

abbrev weight : Bool → ℕ
weight b = cond b 1 0

abbrev of_zone : Zone → ℕ
of_zone s = entries_to_come s.wait + length s.maps

-- the place of a tag's zone
place-same : (t : TagLimits) (ss : List HubZone) (zs : List Zone) → length ss ≡ length zs →
    ((n : ℕ) (d : HubZone) → n < length ss → serves t (get_or ss n d) ≡ serves_tag t (get_or zs n no_zone)) →
    place_for t ss ≡ zone_for_tag t zs
place-same t [] [] e same = refl
place-same t [] (z ∷ zs) e same = absurd (omega (arith, e))
place-same t (s ∷ ss) [] e same = absurd (omega (arith, e))
place-same t (s ∷ ss) (z ∷ zs) e same =
    let rest : place_for t ss ≡ zone_for_tag t zs =
    place-same t ss zs (omega (arith, e)) (λ n d below. same (suc n) d (omega (arith, below))) in
    ap (λ (v : Bool). if v then 0 else suc (place_for t ss)) (same 0 s (omega arith))
    ∙ ap (λ (k : ℕ). if serves_tag t z then 0 else suc k) rest

pub place-is : (t : TagLimits) (p : Pool) (a : Account) → PoolAgrees p a → place_for t p.zones.items
    ≡ zone_for_tag t a.zones
place-is t p a agrees =
    place-same t p.zones.items a.zones agrees.count
    (λ n d below. (let here : Matches (get_or p.zones.items n d) a n = agrees.zones n d below in
    rw (here.lowaddr, here.alignment) refl))

-- the tag's zone is one of those that are made for it
pub place-inside : (t : TagLimits) (zs : List Zone) → zone_for_tag t zs < length (zones_for t zs)
place-inside t [] = omega arith
place-inside t (z ∷ zs) =
    elim (serves_tag t z) as (λ v. (if v then 0 else suc (zone_for_tag t zs)) < length
    (z ∷ (if v then zs else zones_for t zs))) [ true ↦ omega arith | false ↦ omega (arith, place-inside t zs) ]

pub place-bound : (t : TagLimits) (zs : List Zone) → zone_for_tag t zs ≤ length zs
place-bound t [] = omega arith
place-bound t (z ∷ zs) =
    elim (serves_tag t z) as (λ v. (if v then 0 else suc (zone_for_tag t zs)) ≤ length (z ∷ zs))
    [ true ↦ omega arith | false ↦ omega (arith, place-bound t zs) ]

-- a zone that is there is the tag's zone
pub found-zone : (t : TagLimits) (a : Account) → zone_for_tag t a.zones < length a.zones → with_zone_for t a ≡ a
found-zone t a there =
    ap (λ (zs : List Zone). record a { zones = zs })
    (zones_for_found t a.zones (λ e. absurd (omega (arith, there, e))))

-- none past the last
none-past : (zs : List Zone) → get_or zs (length zs) no_zone ≡ no_zone
none-past [] = refl
none-past (z ∷ zs) = none-past zs

-- growth leaves what is to come
pub grown-owed : (a : Account) (z n : ℕ) → owed (grown a z n) ≡ owed a
grown-owed a z n =
    omega (
      arith,
      sum_by-set_like of_zone a.zones z
          (record (zone_at a z) { avail = (zone_at a z).avail ++ take n a.bank }) no_zone refl refl,
    )

pub grown-waiting : (a : Account) (z n : ℕ) → waiting (grown a z n) ≡ waiting a
grown-waiting a z n =
    sum_by-set_like (λ (s : Zone). length s.wait) a.zones z
    (record (zone_at a z) { avail = (zone_at a z).avail ++ take n a.bank }) no_zone refl refl

addresses-append : (ps qs : List FrameBytes) → page_addresses (ps ++ qs) ≡ page_addresses ps ++ page_addresses qs
addresses-append [] qs = refl
addresses-append (p ∷ ps) qs = ap (λ xs. page_address p ∷ xs) (addresses-append ps qs)

-- a zone that is there grows
pub agrees-grown : (p q : Pool) (a : Account) (z n : ℕ) (old new : HubZone)
    → PoolAgrees p a → z < length a.zones → Matches old a z
    → new ≡ record old { zone = record old.zone { pages = old.zone.pages ++ take n p.bank.pages } }
    → q.zones.items ≡ set p.zones.items z new → q.nested ≡ p.nested →
    q.bank ≡ record p.bank { pages = drop n p.bank.pages } → q.ready ≡ p.ready → q.owed ≡ p.owed → q.maxmem ≡ p.maxmem →
    q.max_bpages ≡ p.max_bpages
    → PoolAgrees q (grown a z n)
agrees-grown p q a z n old new agrees inside here is zones nested bank ready owes maxmem max_bpages =
    let k : Zone = record (zone_at a z) { avail = (zone_at a z).avail ++ take n a.bank } in
    let at : zone_at (grown a z n) z ≡ k = get_or-set_same a.zones z k no_zone inside in
    let took : page_addresses (take n p.bank.pages) ≡ take n a.bank =
    addresses-take n p.bank.pages ∙ ap (take n) agrees.bank in
    record {
      bank = ap (λ b. page_addresses b.pages) bank ∙ addresses-drop n p.bank.pages ∙ ap (drop n) agrees.bank;
      count = count-set p q a z new k agrees zones;
      zones = zones-set p q a (grown a z n) z new agrees inside zones
          (rw is (record {
            lowaddr = here.lowaddr ∙ sym (ap (λ (k : Zone). k.lowaddr) at);
            alignment = here.alignment ∙ sym (ap (λ (k : Zone). k.alignment) at);
            avail = addresses-append old.zone.pages (take n p.bank.pages)
                ∙ ap (λ xs. xs ++ page_addresses (take n p.bank.pages)) here.avail
                ∙ ap (λ xs. (zone_at a z).avail ++ xs) took ∙ sym (ap (λ (k : Zone). k.avail) at);
            reserved =
                here.reserved
                ∙ sym
                (ap (λ (s : Zone). sum_by (λ w. w.have) s.wait
                + sum_by (λ w. w.need) (filter (λ w. w.zone.0 == z) a.ready)) at);
            active = here.active;
            wait = here.wait ∙ sym (ap (λ (k : Zone). k.wait) at);
            maps = here.maps ∙ sym (ap (λ (k : Zone). length k.maps) at);
            deferred = here.deferred ∙ sym (ap (λ (k : Zone). k.deferred) at);
          }))
          (λ y apart. (let there : zone_at (grown a z n) y ≡ zone_at a y =
          get_or-set_other a.zones z y k no_zone apart in
          record {
            zone = there;
            reserved =
                ap (λ (s : Zone). sum_by (λ w. w.have) s.wait
                + sum_by (λ w. w.need) (filter (λ w. w.zone.0 == y) a.ready)) there;
            active = refl;
          }));
      nested = nested-after p q a (grown a z n) nested agrees.nested (keeps-grown a z n);
      ready = ap (λ r. r.items) ready ∙ agrees.ready;
      spare = omega (arith, agrees.spare, ap (λ r. r.spare) ready, grown-waiting a z n);
      owed = owes ∙ agrees.owed ∙ sym (grown-owed a z n);
      maxmem = maxmem ∙ agrees.maxmem;
      max_bpages = max_bpages ∙ agrees.max_bpages;
    }

-- a zone that is made for the tag, with its first pages
abbrev pub new_hub_zone : TagLimits → List FrameBytes → HubZone
new_hub_zone t pages = record {
  zone = record { lowaddr = t.lowaddr.0; alignment = max t.alignment 4096; pages = pages; reserved = 0; active = 0 };
  wait = [];
  maps = 0;
  deferred = 0;
}

module _ (t : TagLimits) (a : Account) (none : zone_for_tag t a.zones ≡ length a.zones) where
  abbrev with_new : Account
  with_new = with_zone_for t a

  behind : with_new.zones ≡ a.zones ++ new_zone t ∷ []
  behind = zones_for_none t a.zones none

  pub new-there : zone_at with_new (zone_for_tag t a.zones) ≡ new_zone t
  new-there = ap (λ (zs : List Zone). get_or zs (zone_for_tag t a.zones) no_zone) behind
      ∙ ap (λ (k : ℕ). get_or (a.zones ++ new_zone t ∷ []) k no_zone) none
      ∙ get_or-append_seam a.zones (new_zone t) [] no_zone

  old-there : (y : ℕ) → y < length a.zones → zone_at with_new y ≡ zone_at a y
  old-there y below = ap (λ (zs : List Zone). get_or zs y no_zone) behind
      ∙ get_or_append_left a.zones (new_zone t ∷ []) no_zone y below

  none-reserved : IsAccountWellFormed a → reserved a (zone_for_tag t a.zones) ≡ 0
  none-reserved well =
      let gone : zone_at a (zone_for_tag t a.zones) ≡ no_zone =
      ap (λ (k : ℕ). get_or a.zones k no_zone) none ∙ none-past a.zones in
      omega (arith, well.enough (zone_for_tag t a.zones), ap (λ (z : Zone). length z.avail) gone)

  none-waits : (zone_at a (zone_for_tag t a.zones)).wait ≡ []
  none-waits = ap (λ (z : Zone). z.wait) (ap (λ (k : ℕ). get_or a.zones k no_zone) none ∙ none-past a.zones)

  pub none-total : IsAccountWellFormed a → total with_new (zone_for_tag t a.zones) ≡ 0
  none-total well =
      omega (
        arith,
        ap (λ (z : Zone). length z.avail) new-there,
        well.inside (zone_for_tag t a.zones)
            (omega (arith, none)),
      )

  module _ (p q : Pool) (n : ℕ) (agrees : PoolAgrees p a) (well : IsAccountWellFormed a)
      (zones : q.zones.items ≡ p.zones.items
      ++ new_hub_zone t (take n p.bank.pages) ∷ []) (nested : q.nested ≡ nested_with p.nested p.zones.items
      (new_hub_zone t (take n p.bank.pages))) where
    abbrev z : ℕ
    z = zone_for_tag t a.zones

    abbrev g : Account
    g = grown with_new z n

    abbrev made : HubZone
    made = new_hub_zone t (take n p.bank.pages)

    abbrev k : Zone
    k = record (zone_at with_new z) { avail = (zone_at with_new z).avail ++ take n a.bank }

    at : zone_at g z ≡ k
    at = get_or-set_same with_new.zones z k no_zone (place-inside t a.zones)

    made-matches : Matches made g z
    made-matches =
        let is : (f : Zone → ℕ) → f k ≡ f (zone_at g z) = (λ f. sym (ap f at)) in
        let same : reserved g z ≡ reserved a z =
        ap (λ (s : Zone). sum_by (λ w. w.have) s.wait + sum_by (λ w. w.need) (filter (λ w. w.zone.0 == z) a.ready))
        at
        ∙ ap (λ (ws : List Waiter). sum_by (λ w. w.have) ws
        + sum_by (λ w. w.need) (filter (λ w. w.zone.0 == z) a.ready))
        (ap (λ (s : Zone). s.wait) new-there ∙ sym none-waits) in
        record {
          lowaddr = sym (ap (λ (s : Zone). s.lowaddr) new-there) ∙ is (λ s. s.lowaddr);
          alignment = sym (ap (λ (s : Zone). s.alignment) new-there) ∙ is (λ s. s.alignment);
          avail = addresses-take n p.bank.pages ∙ ap (take n) agrees.bank
              ∙ sym (ap (λ (s : Zone). s.avail ++ take n a.bank) new-there) ∙ sym (ap (λ (s : Zone). s.avail) at);
          reserved = sym (none-reserved well) ∙ sym same;
          active = sym (well.inside z (omega (arith, none)));
          wait = sym (ap (λ (s : Zone). s.wait) new-there) ∙ sym (ap (λ (s : Zone). s.wait) at);
          maps = sym (ap (λ (s : Zone). length s.maps) new-there) ∙ is (λ s. length s.maps);
          deferred = sym (ap (λ (s : Zone). s.deferred) new-there) ∙ is (λ s. s.deferred);
        }

    old-matches : (y : ℕ) (d : HubZone) → y < length p.zones.items → Matches (get_or p.zones.items y d) g y
    old-matches y d below =
        let apart : y ≢ z = (λ e. absurd (omega (arith, below, e, none, agrees.count))) in
        let old : Matches (get_or p.zones.items y d) a y = agrees.zones y d below in
        let there : zone_at g y ≡ zone_at a y =
        get_or-set_other with_new.zones z y k no_zone apart ∙ old-there y (omega (arith, below, agrees.count)) in
        record {
          lowaddr = old.lowaddr ∙ sym (ap (λ (s : Zone). s.lowaddr) there);
          alignment = old.alignment ∙ sym (ap (λ (s : Zone). s.alignment) there);
          avail = old.avail ∙ sym (ap (λ (s : Zone). s.avail) there);
          reserved =
              old.reserved
              ∙ sym
              (ap (λ (s : Zone). sum_by (λ w. w.have) s.wait
              + sum_by (λ w. w.need) (filter (λ w. w.zone.0 == y) a.ready)) there);
          active = old.active;
          wait = old.wait ∙ sym (ap (λ (s : Zone). s.wait) there);
          maps = old.maps ∙ sym (ap (λ (s : Zone). length s.maps) there);
          deferred = old.deferred ∙ sym (ap (λ (s : Zone). s.deferred) there);
        }

    each-matches : (y : ℕ) (d : HubZone) → y < length (p.zones.items ++ made ∷ []) →
        Matches (get_or (p.zones.items ++ made ∷ []) y d) g y
    each-matches y d below =
        (elim (eqb_tells y (length p.zones.items)) as (λ _. Matches (get_or (p.zones.items ++ made ∷ []) y d) g y) [
          | inl h ↦ subst (λ i. Matches (get_or (p.zones.items ++ made ∷ []) i d) g i) (sym h.1)
              (subst (λ s. Matches s g (length p.zones.items)) (sym (get_or-append_seam p.zones.items made [] d))
              (subst (λ i. Matches made g i) (none ∙ sym agrees.count) made-matches))
          | inr h ↦ (let inside : y < length p.zones.items =
              omega (arith, below, length-append p.zones.items (made ∷ []), h.1) in
              subst (λ s. Matches s g y) (sym (get_or_append_left p.zones.items (made ∷ []) d y inside))
              (old-matches y d inside))
        ])

    more : length g.zones ≡ length a.zones + 1
    more =
        omega (
          arith,
          length-set with_new.zones z k,
          ap (λ (zs : List Zone). length zs) behind,
          length-append a.zones (new_zone t ∷ []),
        )

    pub agrees-new : q.bank ≡ record p.bank { pages = drop n p.bank.pages } → q.ready ≡ p.ready → q.owed ≡ p.owed →
        q.maxmem ≡ p.maxmem → q.max_bpages ≡ p.max_bpages → PoolAgrees q g
    agrees-new bank ready owes maxmem max_bpages = record {
      bank = ap (λ b. page_addresses b.pages) bank ∙ addresses-drop n p.bank.pages ∙ ap (drop n) agrees.bank;
      count =
          omega (
            arith,
            ap (λ (ss : List HubZone). length ss) zones,
            length-append p.zones.items (made ∷ []),
            agrees.count,
            more,
          );
      zones =
          subst (λ (ss : List HubZone). (y : ℕ) (d : HubZone) → y < length ss →
          Matches (get_or ss y d) g y) (sym zones) each-matches;
      nested = subst (λ k. AreNested k g) (sym nested) (nested-joined p a g made agrees
          (keeps-trans a with_new g (keeps-with_zone_for t a) (keeps-grown with_new z n))
          (omega (arith, more)) (subst (λ k. Matches made g k) (none ∙ sym agrees.count) made-matches));
      ready = ap (λ r. r.items) ready ∙ agrees.ready;
      spare =
          omega (
            arith,
            agrees.spare,
            ap (λ r. r.spare) ready,
            grown-waiting with_new z n,
            sum_by-zones_for t (λ (s : Zone). length s.wait) refl a.zones,
          );
      owed = omega (arith, owes, agrees.owed, grown-owed with_new z n, sum_by-zones_for t of_zone refl a.zones);
      maxmem = maxmem ∙ agrees.maxmem;
      max_bpages = max_bpages ∙ agrees.max_bpages;
    }

-- the pages and the maps of the tag's zone
pub pages-is : (t : TagLimits) (p : Pool) (a : Account) → PoolAgrees p a → IsAccountWellFormed a →
    grown_pages (slice_get p.zones.items (zone_for_tag t a.zones)) ≡ total (with_zone_for t a) (zone_for_tag t a.zones)
pages-is t p a agrees well =
    (elim (eqb_tells (zone_for_tag t a.zones) (length a.zones))
    as (λ _. grown_pages (slice_get p.zones.items (zone_for_tag t a.zones))
    ≡ total (with_zone_for t a) (zone_for_tag t a.zones)) [
      | inl h ↦ ap grown_pages
          (slice_get_past p.zones.items (zone_for_tag t a.zones) (omega (arith, h.1, agrees.count)))
          ∙ sym (none-total t a h.1 well)
      | inr h ↦ (let there : zone_for_tag t a.zones < length a.zones = omega (arith, place-bound t a.zones, h.1) in
          let d : HubZone = new_hub_zone t [] in
          let here : Matches (get_or p.zones.items (zone_for_tag t a.zones) d) a (zone_for_tag t a.zones) =
          agrees.zones (zone_for_tag t a.zones) d (omega (arith, there, agrees.count)) in
          ap grown_pages (slice_get-get_or p.zones.items (zone_for_tag t a.zones) d
          (omega (arith, there, agrees.count)))
          ∙ omega (
            arith,
            here.active,
            ap (λ (xs : List ℕ). length xs) here.avail,
            length-map (get_or p.zones.items (zone_for_tag t a.zones) d).zone.pages page_address,
          )
          ∙ sym (ap (λ (b : Account). total b (zone_for_tag t a.zones)) (found-zone t a there)))
    ])

pub maps-is : (t : TagLimits) (p : Pool) (a : Account) → PoolAgrees p a →
    grown_maps (slice_get p.zones.items (zone_for_tag t a.zones))
    ≡ length (zone_at (with_zone_for t a) (zone_for_tag t a.zones)).maps
maps-is t p a agrees =
    (elim (eqb_tells (zone_for_tag t a.zones) (length a.zones))
    as (λ _. grown_maps (slice_get p.zones.items (zone_for_tag t a.zones))
    ≡ length (zone_at (with_zone_for t a) (zone_for_tag t a.zones)).maps) [
      | inl h ↦ ap grown_maps (slice_get_past p.zones.items (zone_for_tag t a.zones) (omega (arith, h.1, agrees.count)))
          ∙ sym (ap (λ (s : Zone). length s.maps) (new-there t a h.1))
      | inr h ↦ (let there : zone_for_tag t a.zones < length a.zones = omega (arith, place-bound t a.zones, h.1) in
          let d : HubZone = new_hub_zone t [] in
          ap grown_maps (slice_get-get_or p.zones.items (zone_for_tag t a.zones) d (omega (arith, there, agrees.count)))
          ∙ (agrees.zones (zone_for_tag t a.zones) d (omega (arith, there, agrees.count))).maps
          ∙ sym (ap (λ (b : Account). length (zone_at b (zone_for_tag t a.zones)).maps) (found-zone t a there)))
    ])

-- the first allocation of a tag
pub attached-as : (t : TagLimits) (a : Account) (n wanted : ℕ) →
    wanted ≡ wanted_by_tag t (total (with_zone_for t a) (zone_for_tag t a.zones)) →
    n ≡ added (with_zone_for t a) (zone_for_tag t a.zones) wanted
    → attached t a ≡ record {
      account = grown (with_zone_for t a) (zone_for_tag t a.zones) n;
      reply = Grown (record { zone = record { 0 = zone_for_tag t a.zones }; added = n; made = n == wanted });
    }
attached-as t a n wanted w e = rw (sym w, sym e) refl

-- how many pages the making of a map wants
pub wanted-is : (t : TagLimits) (first_done : Bool) (p : Pool) (a : Account) (place : ℕ) → PoolAgrees p a →
    IsAccountWellFormed a → place ≡ zone_for_tag t a.zones
    → wanted_for t first_done (grown_maps (slice_get p.zones.items place)) (grown_pages (slice_get p.zones.items place))
    (most_pages t p.max_bpages p.maxmem)
    ≡ wanted_by_map t first_done (zone_at (with_zone_for t a) (zone_for_tag t a.zones))
    (total (with_zone_for t a) (zone_for_tag t a.zones)) (maxpages t a)
wanted-is t first_done p a place agrees well at =
    let b : Account = with_zone_for t a in
    let z : ℕ = zone_for_tag t a.zones in
    let maps : ℕ = length (zone_at b z).maps in
    let most : ℕ = most_pages t p.max_bpages p.maxmem in
    ap (λ (k : ℕ). wanted_for t first_done (grown_maps (slice_get p.zones.items k))
    (grown_pages (slice_get p.zones.items k)) most) at
    ∙ ap (λ (m : ℕ). wanted_for t first_done m (grown_pages (slice_get p.zones.items z)) most) (maps-is t p a agrees)
    ∙ ap (λ (g : ℕ). wanted_for t first_done maps g most) (pages-is t p a agrees well)
    ∙ ap (λ (x : ℕ). wanted_for t first_done maps (total b z) (most_pages t x p.maxmem)) agrees.max_bpages
    ∙ ap (λ (y : ℕ). wanted_for t first_done maps (total b z) (most_pages t a.max_bpages y)) agrees.maxmem
