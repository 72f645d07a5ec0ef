-- What a driver has of a place, after each change.
use Rattle.std.proofs.Common.{◌≡◌, ◌≢◌, ℕ, ◌+◌, ◌≤◌, ◌<◌, Bool, true, false, not, ◌&&◌, List, [], ◌∷◌, ◌++◌, take}
use Rattle.std.proofs.Common.{length, refl, sym, ap, ◌∙◌, subst, arith, eqb, ne_eqb, if◌then◌else◌, ◌==◌, Option, Some}
use Rattle.std.proofs.Common.{None, inl, inr}
use Rattle.std.proofs.lemmas.Bool.{false≢true, eqb-true, eq-eqb}
use Rattle.std.proofs.lemmas.Bool.Decides.{eqb_tells}
use Rattle.std.specs.List.{count_by, filter}
use Rattle.busdma_machine.specs.declared.name.MapId.{MapId}
use Rattle.busdma_machine.specs.declared.bounce.zone.Waiter.{Waiter}
use Rattle.busdma_machine.specs.Bounce.Account.{Account, same_map, zone_at}
use Rattle.busdma_machine.specs.Bounce.Growth.{with_zone_map, without_zone_map}
use Rattle.busdma_machine.specs.Bounce.MemoryRuns.{in_run}
use Rattle.busdma_machine.specs.Bounce.MemoryRuns.{with_memory_run, without_memory_run}
use Rattle.busdma_machine.specs.Bounce.Serving.{handed, waiting_at_tail, returned}
use Rattle.busdma_machine.specs.Bounce.Conditions.{times_held}
use Rattle.busdma_machine.proofs.Accounts.EditedSums.{count_by-append, count_by-map_none}
use Rattle.lane_agreement.specs.View.{View, Return, OwnMap, SeenStage}
use Rattle.lane_agreement.specs.View.{Idle, Waiting, Loaded, Returning, view_changed}
use Rattle.lane_agreement.specs.View.{queued_back, view_emptied, returning, is_astray}
use Rattle.busdma_machine.specs.Bounce.Share.{Share, Same, share, is_waiter, waiters}
use Rattle.lane_agreement.specs.OwnShare.{share_of, own_share, is_return}
use Rattle.lane_agreement.specs.OwnShare.{share_if, share_loaded, loaded_page, waits_for}
use Rattle.lane_agreement.specs.OwnShare.{share_waiting, listed_in}
use Rattle.lane_agreement.specs.Agreement.{ShareNames}
use Rattle.busdma_machine.proofs.Accounts.Names.{Same-trans, and_none, and_left, and_right, same_map-same}
use Rattle.busdma_machine.proofs.Accounts.Names.{same_map-self}
use Rattle.lane_agreement.proofs.Own.{and-true, count-one, count-map, count-like, count-all, handed-holds}
use Rattle.lane_agreement.proofs.Own.{handed-holds_page, handed-zones, returned-holds, returned-page, returned-other}
use Rattle.lane_agreement.proofs.Own.{returned-zones, queued-waiters, queued-made, queued-in_zones, with_map-in_zones}
use Rattle.lane_agreement.proofs.Own.{with_map-made, with_map-waiters, without_map-in_zones, without_map-here}
use Rattle.lane_agreement.proofs.Own.{without_map-other, without_map-waiters, with_memory-mems, with_memory-frames}
use Rattle.lane_agreement.proofs.Own.{without_memory-mems, without_memory-frames}

and_first : (a b : Bool) → a ≡ false → (a && b) ≡ false
and_first true b e = cc
and_first false b e = refl

-- two return queues have the same of every place but this one
pub record OtherReturns (k : ℕ) (rs qs : List Return) : Type 0 where
  pub count : (j : ℕ) → j ≢ k → returning j qs ≡ returning j rs
  pub pages : (j z p : ℕ) → j ≢ k → count_by (is_return j z p) qs ≡ count_by (is_return j z p) rs
  pub astray : (j z : ℕ) → j ≢ k → count_by (is_astray j z) qs ≡ count_by (is_astray j z) rs

pub no-returns : (k : ℕ) (rs : List Return) → OtherReturns k rs rs
no-returns k rs = record { count = λ j e. refl; pages = λ j z p e. refl; astray = λ j z e. refl }

other_place : (l : View) (k j : ℕ) (o : Option OwnMap) (x : Option (List ℕ)) (qs : List Return) → j ≢ k →
    OtherReturns k l.returns qs → Same (own_share (view_changed l k o x qs) j) (own_share l j)
other_place l k j o x qs apart returns = record {
  made = λ z. rw (ne_eqb j k apart) refl;
  in_zones = rw (ne_eqb j k apart) refl;
  holds = rw (ne_eqb j k apart) (ap (λ n. share_loaded (l.map_at j) + n) (sym (returns.count j apart)));
  holds_page =
      λ z p. rw (ne_eqb j k apart) (ap (λ n. loaded_page z p (l.map_at j) + n) (sym (returns.pages j z p apart)));
  waits = λ z n. rw (ne_eqb j k apart) refl;
  listed = rw (ne_eqb j k apart) refl;
  mems = rw (ne_eqb j k apart) refl;
  frames = rw (ne_eqb j k apart) refl;
}

this_place : (l : View) (k : ℕ) (o : Option OwnMap) (x : Option (List ℕ)) (qs : List Return) (s : Share) →
    Same (share_of k o x qs) s → Same (own_share (view_changed l k o x qs) k) s
this_place l k o x qs s same = rw (eq-eqb k k refl) same

apart_place : (lane : ℕ) (m n : MapId) → m.lane.0 ≡ lane → n.lane.0 ≡ lane →
    same_map m n ≡ false → m.made_at ≢ n.made_at
apart_place lane m n own here off =
    λ e. (let same : same_map m n ≡ true =
    rw (eq-eqb m.lane.0 n.lane.0 (own ∙ sym here), eq-eqb m.made_at n.made_at e) refl in false≢true (sym off ∙ same))

-- the driver and the account change at one place
pub names-changed : (l : View) (n : MapId) (o : Option OwnMap) (x : Option (List ℕ))
    (qs : List Return) (a b : Account) → n.lane.0 ≡ l.id
    → ((m : MapId) → same_map m n ≡ false → Same (share m a) (share m b)) → OtherReturns n.made_at l.returns qs
    → Same (share_of n.made_at o x qs) (share n b) → ShareNames l a → ShareNames (view_changed l n.made_at o x qs) b
names-changed l n o x qs a b here others returns same names =
    λ m own. (elim (same_map m n) as (λ v. same_map m n ≡ v →
    Same (own_share (view_changed l n.made_at o x qs) m.made_at) (share m b)) [
      | true ↦ λ e. subst (λ (k : MapId). Same (own_share (view_changed l n.made_at o x qs) k.made_at) (share k b))
          (sym (same_map-same m n e)) (this_place l n.made_at o x qs (share n b) same)
      | false ↦ λ e. Same-trans (own_share (view_changed l n.made_at o x qs) m.made_at) (own_share l m.made_at)
          (share m b)
          (other_place l n.made_at m.made_at o x qs (apart_place l.id m n own here e) returns)
          (Same-trans (own_share l m.made_at) (share m a) (share m b) (names m own) (others m e))
    ]) refl

-- pages go to an idle map
pub share-handed : (k : ℕ) (x : Option (List ℕ)) (rs : List Return) (n : MapId) (z need : ℕ) (a : Account) →
    Same (share_of k (Some (record { zone = z; stage = Idle })) x rs) (share n a)
    →
    Same (share_of k (Some (record { zone = z; stage = Loaded (take need (zone_at a z).avail) })) x rs)
    (share n (handed a n z need))
share-handed k x rs n z need a g = record {
  made = λ y. (handed-zones a n z need).made y ∙ g.made y;
  in_zones = (handed-zones a n z need).in_zones ∙ g.in_zones;
  holds = omega (arith, handed-holds a n z need, g.holds);
  holds_page = λ y p. omega (arith, handed-holds_page a n z need y p, g.holds_page y p);
  waits = λ y d. (handed-zones a n z need).waits y d ∙ g.waits y d;
  listed = (handed-zones a n z need).listed ∙ g.listed;
  mems = g.mems;
  frames = g.frames;
}

-- an idle map waits
pub share-queued : (k : ℕ) (x : Option (List ℕ)) (rs : List Return) (n : MapId) (z need : ℕ) (a : Account) →
    z < length a.zones → Same (share_of k (Some (record { zone = z; stage = Idle })) x rs) (share n a)
    → Same (share_of k (Some (record { zone = z; stage = Waiting need })) x rs) (share n (waiting_at_tail a n z need))
share-queued k x rs n z need a inside g = record {
  made = λ y. queued-made a n z need inside y ∙ g.made y;
  in_zones = queued-in_zones a n z need inside ∙ g.in_zones;
  holds = g.holds;
  holds_page = g.holds_page;
  waits = λ y d.
      omega (
        arith,
        queued-waiters a n z need inside (is_waiter n y d),
        g.waits y d,
        ap (λ b. share_if ((need == d) && ((z == y) && b))) (same_map-self n),
        ap (λ b. share_if ((need == d) && b)) (and-true (z == y)),
      );
  listed =
      omega (arith, queued-waiters a n z need inside (λ w. same_map n w.map), g.listed, ap share_if (same_map-self n));
  mems = g.mems;
  frames = g.frames;
}

-- the head of the callback list leaves it
pub share-shorter : (k : ℕ) (x : Option (List ℕ)) (rs : List Return) (w : Waiter) (ws : List Waiter) (a : Account) →
    a.ready ≡ w ∷ ws
    → Same (share_of k (Some (record { zone = w.zone.0; stage = Waiting w.need })) x rs) (share w.map a)
    → Same (share_of k (Some (record { zone = w.zone.0; stage = Idle })) x rs) (share w.map (record a { ready = ws }))
share-shorter k x rs w ws a is g = record {
  made = g.made;
  in_zones = g.in_zones;
  holds = g.holds;
  holds_page = g.holds_page;
  waits = λ y d.
      omega (
        arith,
        g.waits y d,
        ap (count_by (is_waiter w.map y d)) is,
        count-one (is_waiter w.map y d) w ws,
        ap (λ b. share_if ((w.need == d) && ((w.zone.0 == y) && b))) (same_map-self w.map),
        ap (λ b. share_if ((w.need == d) && b)) (and-true (w.zone.0 == y)),
      );
  listed =
      omega (
        arith,
        g.listed,
        ap (count_by (λ (v : Waiter). same_map w.map v.map)) is,
        count-one (λ (v : Waiter). same_map w.map v.map) w ws,
        ap share_if (same_map-self w.map),
      );
  mems = g.mems;
  frames = g.frames;
}

abbrev own : ℕ → SeenStage → OwnMap
own z s = record { zone = z; stage = s }

-- a map that waits in the account's view waits in the driver's
pub waits-tells : (o : Option OwnMap) (z need : ℕ) → 1 ≤ waits_for z need o →
    o ≡ Some (record { zone = z; stage = Waiting need })
waits-tells None z need h = absurd (omega (arith, h))
waits-tells (Some m) z need h = ap Some (stage m.stage m.zone h)
  where
    stage : (s : SeenStage) (y : ℕ) → 1 ≤ share_waiting y z need s → own y s ≡ own z (Waiting need)
    stage Idle y h = absurd (omega (arith, h))
    stage (Loaded ps) y h = absurd (omega (arith, h))
    stage Returning y h = absurd (omega (arith, h))
    stage (Waiting d) y h =
        (elim ((d == need) && (y == z)) as (λ v. ((d == need) && (y == z)) ≡ v →
        own y (Waiting d) ≡ own z (Waiting need)) [
          | true ↦ λ e. rw (
            eqb-true d need (and_left (eqb d need) _ e),
            eqb-true y z (and_right (eqb d need) _ e),
          ) refl
          | false ↦ λ e. absurd (omega (arith, h, ap share_if e))
        ]) refl

pub head-waits : (w : Waiter) (ws : List Waiter) (a : Account) → a.ready ≡ w ∷ ws →
    1 ≤ waiters (is_waiter w.map w.zone.0 w.need) a
head-waits w ws a is =
    let here : is_waiter w.map w.zone.0 w.need w ≡ true =
    rw (eq-eqb w.need w.need refl, eq-eqb w.zone.0 w.zone.0 refl, same_map-self w.map) refl in
    omega (
      arith,
      ap (count_by (is_waiter w.map w.zone.0 w.need)) is,
      count-one (is_waiter w.map w.zone.0 w.need) w ws,
      ap share_if here,
    )

-- pages leave a map for the return queue
bare-loaded : (z : ℕ) (ps : List ℕ) → share_loaded (Some (record { zone = z; stage = view_emptied ps })) ≡ 0
bare-loaded z [] = refl
bare-loaded z (p ∷ ps) = refl

bare-page : (z y q : ℕ) (ps : List ℕ) → loaded_page y q (Some (record { zone = z; stage = view_emptied ps })) ≡ 0
bare-page z y q [] = refl
bare-page z y q (p ∷ ps) = refl

bare-waits : (z y d : ℕ) (ps : List ℕ) → share_waiting z y d (view_emptied ps) ≡ 0
bare-waits z y d [] = refl
bare-waits z y d (p ∷ ps) = refl

bare-listed : (ps : List ℕ) → listed_in (view_emptied ps) ≡ 0
bare-listed [] = refl
bare-listed (p ∷ ps) = refl

pub back-returns : (k z : ℕ) (pages : List ℕ) (rs : List Return) → OtherReturns k rs (rs ++ queued_back k z pages)
back-returns k z pages rs = record {
  count =
      λ j e. omega (
        arith,
        count_by-append (λ (r : Return). r.map == j) rs (queued_back k z pages),
        count_by-map_none (λ (r : Return). r.map == j) (λ p. record { map = k; zone = z; page = p })
            pages (λ p. ne_eqb k j (λ u. e (sym u))),
      );
  pages =
      λ j y q e. omega (
        arith,
        count_by-append (is_return j y q) rs (queued_back k z pages),
        count_by-map_none (is_return j y q) (λ p. record { map = k; zone = z; page = p }) pages
            (λ p. and_none (eqb p q) _ (and_none (eqb z y) _ (ne_eqb k j (λ u. e (sym u))))),
      );
  astray =
      λ j y e. omega (
        arith,
        count_by-append (is_astray j y) rs (queued_back k z pages),
        count_by-map_none (is_astray j y) (λ p. record { map = k; zone = z; page = p }) pages
            (λ p. and_first (eqb k j) _ (ne_eqb k j (λ u. e (sym u)))),
      );
}

pub share-unloaded : (k : ℕ) (x : Option (List ℕ)) (rs : List Return) (z : ℕ) (pages : List ℕ) (s : Share) →
    Same (share_of k (Some (record { zone = z; stage = Loaded pages })) x rs) s
    → Same (share_of k (Some (record { zone = z; stage = view_emptied pages })) x (rs ++ queued_back k z pages)) s
share-unloaded k x rs z pages s g = record {
  made = g.made;
  in_zones = g.in_zones;
  holds = omega (
    arith,
    g.holds,
    bare-loaded z pages,
    count_by-append (λ (r : Return). r.map == k) rs (queued_back k z pages),
    count-map (λ (r : Return). r.map == k) (λ p. record { map = k; zone = z; page = p }) pages,
    count-all (λ (p : ℕ). k == k) pages (λ p. eq-eqb k k refl),
  );
  holds_page = λ y q. omega (
    arith,
    g.holds_page y q,
    bare-page z y q pages,
    count_by-append (is_return k y q) rs (queued_back k z pages),
    count-map (is_return k y q) (λ p. record { map = k; zone = z; page = p }) pages,
    count-like (λ p. (p == q) && ((z == y) && (k == k))) (λ p. (p == q) && (z == y)) pages
        (λ p. ap (λ b. (p == q) && ((z == y) && b)) (eq-eqb k k refl) ∙ ap (λ b. (p == q) && b) (and-true (z == y))),
  );
  waits = λ y d. g.waits y d ∙ sym (bare-waits z y d pages);
  listed = g.listed ∙ sym (bare-listed pages);
  mems = g.mems;
  frames = g.frames;
}

-- a page of the return queue goes back
and_more : (a b c : Bool) → (a && b) ≡ false → (a && (b && c)) ≡ false
and_more true b c e = rw e refl
and_more false b c e = refl

pub share-returned : (o : Option OwnMap) (x : Option (List ℕ)) (r : Return) (rs : List Return) (n : MapId)
    (a : Account) → times_held n r.zone r.page a ≡ 1
    → Same (share_of r.map o x (r ∷ rs)) (share n a) →
    Same (share_of r.map o x rs) (share n (returned a n r.zone r.page))
share-returned o x r rs n a held g = record {
  made = λ y. (returned-zones a n r.zone r.page held).made y ∙ g.made y;
  in_zones = (returned-zones a n r.zone r.page held).in_zones ∙ g.in_zones;
  holds =
      omega (
        arith,
        returned-holds a n r.zone r.page held,
        g.holds,
        count-one (λ (q : Return). q.map == r.map) r rs,
        ap share_if (eq-eqb r.map r.map refl),
      );
  holds_page = λ y q.
      (elim ((r.page == q) && (r.zone == y)) as (λ v. ((r.page == q) && (r.zone == y)) ≡ v →
      times_held n y q (returned a n r.zone r.page) ≡ loaded_page y q o + count_by (is_return r.map y q) rs) [
        | true ↦ λ e. subst (λ k. times_held n k q (returned a n r.zone r.page) ≡ loaded_page k q o
            + count_by (is_return r.map k q) rs) (eqb-true r.zone y (and_right (eqb r.page q) _ e))
            (subst (λ k. times_held n r.zone k (returned a n r.zone r.page) ≡ loaded_page r.zone k o
            + count_by (is_return r.map r.zone k) rs) (eqb-true r.page q (and_left (eqb r.page q) _ e))
            (omega (
              arith,
              returned-page a n r.zone r.page held,
              held,
              g.holds_page r.zone r.page,
              count-one (is_return r.map r.zone r.page) r rs,
              this,
            )))
        | false ↦ λ e. omega (
          arith,
          returned-other a n r.zone r.page held y q e,
          g.holds_page y q,
          count-one (is_return r.map y q) r rs,
          ap share_if (and_more (r.page == q) (r.zone == y) (r.map == r.map) e),
        )
      ]) refl;
  waits = λ y d. (returned-zones a n r.zone r.page held).waits y d ∙ g.waits y d;
  listed = (returned-zones a n r.zone r.page held).listed ∙ g.listed;
  mems = g.mems;
  frames = g.frames;
}
  where
    this : share_if (is_return r.map r.zone r.page r) ≡ 1
    this = rw (eq-eqb r.page r.page refl, eq-eqb r.zone r.zone refl, eq-eqb r.map r.map refl) refl

pub front-returns : (r : Return) (rs : List Return) → OtherReturns r.map (r ∷ rs) rs
front-returns r rs = record {
  count =
      λ j e. omega (arith, count-one (λ (q : Return). q.map == j) r rs, ap share_if (ne_eqb r.map j (λ u. e (sym u))));
  pages =
      λ j y q e. omega (
        arith,
        count-one (is_return j y q) r rs,
        ap share_if (and_none (eqb r.page q) _ (and_none (eqb r.zone y) _ (ne_eqb r.map j (λ u. e (sym u))))),
      );
  astray =
      λ j y e. omega (
        arith,
        count-one (is_astray j y) r rs,
        ap share_if (and_first (r.map == j) (not (r.zone == y)) (ne_eqb r.map j (λ u. e (sym u)))),
      );
}

-- an idle map and a returning one have the same
pub share-bare : (b : Bool) (k z : ℕ) (x : Option (List ℕ)) (rs : List Return) (s : Share) →
    Same (share_of k (Some (record { zone = z; stage = Returning })) x rs) s
    → Same (share_of k (Some (record { zone = z; stage = if b then Idle else Returning })) x rs) s
share-bare true k z x rs s g =
    record {
      made = g.made;
      in_zones = g.in_zones;
      holds = g.holds;
      holds_page = g.holds_page;
      waits = g.waits;
      listed = g.listed;
      mems = g.mems;
      frames = g.frames;
    }
share-bare false k z x rs s g = g

-- a map is made, and ends
pub share-with_map : (k : ℕ) (x : Option (List ℕ)) (rs : List Return) (n : MapId) (z : ℕ) (a : Account) →
    z < length a.zones → Same (share_of k None x rs) (share n a)
    → Same (share_of k (Some (record { zone = z; stage = Idle })) x rs) (share n (with_zone_map a z n))
share-with_map k x rs n z a inside g = record {
  made = λ y. omega (arith, with_map-made a n z 0 inside y, g.made y);
  in_zones = omega (arith, with_map-in_zones a n z 0 inside, g.in_zones);
  holds = g.holds;
  holds_page = g.holds_page;
  waits = λ y d. with_map-waiters a n z 0 inside (is_waiter n y d) ∙ g.waits y d;
  listed = with_map-waiters a n z 0 inside (λ w. same_map n w.map) ∙ g.listed;
  mems = g.mems;
  frames = g.frames;
}

pub share-without_map : (k : ℕ) (x : Option (List ℕ)) (rs : List Return) (n : MapId) (z : ℕ) (a : Account) →
    z < length a.zones → Same (share_of k (Some (record { zone = z; stage = Idle })) x rs) (share n a)
    → Same (share_of k None x rs) (share n (without_zone_map a z n))
share-without_map k x rs n z a inside g = record {
  made = λ y. (elim (eqb_tells y z) as (λ _. count_by (same_map n) (zone_at (without_zone_map a z n) y).maps ≡ 0) [
    | inl h ↦ subst (λ j. count_by (same_map n) (zone_at (without_zone_map a z n) j).maps ≡ 0)
        (sym h.1) (without_map-here a n z 0 inside)
    | inr h ↦ omega (
      arith,
      without_map-other a n z 0 inside y h.1,
      g.made y,
      ap share_if (ne_eqb z y (λ e. h.1 (sym e))),
    )
  ]);
  in_zones = omega (arith, without_map-in_zones a n z 0 inside, g.in_zones, g.made z, ap share_if (eq-eqb z z refl));
  holds = g.holds;
  holds_page = g.holds_page;
  waits = λ y d. without_map-waiters a n z 0 inside (is_waiter n y d) ∙ g.waits y d;
  listed = without_map-waiters a n z 0 inside (λ w. same_map n w.map) ∙ g.listed;
  mems = g.mems;
  frames = g.frames;
}

-- a memory is made, and ends
pub share-with_memory : (k : ℕ) (o : Option OwnMap) (rs : List Return) (n : MapId) (first count : ℕ) (a : Account) →
    Same (share_of k o None rs) (share n a)
    → Same (share_of k o (Some (filter (in_run first count) a.bank ++ [])) rs)
    (share n (with_memory_run a n first count))
share-with_memory k o rs n first count a g = record {
  made = g.made;
  in_zones = g.in_zones;
  holds = g.holds;
  holds_page = g.holds_page;
  waits = g.waits;
  listed = g.listed;
  mems = omega (arith, with_memory-mems n a first count, g.mems);
  frames = with_memory-frames n a first count g.mems;
}

pub share-without_memory : (k : ℕ) (o : Option OwnMap) (rs : List Return) (n : MapId) (x : Option (List ℕ))
    (a : Account) → Same (share_of k o x rs) (share n a)
    → Same (share_of k o None rs) (share n (without_memory_run a n))
share-without_memory k o rs n x a g = record {
  made = g.made;
  in_zones = g.in_zones;
  holds = g.holds;
  holds_page = g.holds_page;
  waits = g.waits;
  listed = g.listed;
  mems = without_memory-mems n a;
  frames = without_memory-frames n a;
}
