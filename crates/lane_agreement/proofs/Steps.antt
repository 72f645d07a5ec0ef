-- After a driver's call with the account's reply, the driver that has followed the reply agrees with the new account.
use Rattle.std.proofs.Common.{◌≡◌, ℕ, ◌≤◌, ◌<◌, Bool, true, false, not, ◌||◌, List, [], ◌∷◌, ◌++◌, take, length, refl}
use Rattle.std.proofs.Common.{sym, ap, ◌∙◌, subst, arith, eqb, leb, if◌then◌else◌, ◌==◌, Option, Some, None}
use Rattle.std.proofs.lemmas.Bool.{false≢true, eqb-true, eq-eqb}
use Rattle.std.proofs.lemmas.List.{length-set}
use Rattle.std.specs.List.{count_by, filter}
use Rattle.busdma_machine.specs.declared.name.MapId.{MapId}
use Rattle.busdma_machine.specs.declared.tags.tag.TagLimits.{TagLimits}
use Rattle.busdma_machine.specs.declared.bounce.zone.Waiter.{Waiter}
use Rattle.busdma_machine.specs.declared.bounce.hold.HubCall.{HubCall}
use Rattle.busdma_machine.specs.declared.bounce.hold.HubReply.TheVariants.{Nothing, Granted, Queued, NoPages, Called}
use Rattle.busdma_machine.specs.Bounce.Account.{Account, same_map, zone_at, free, total}
use Rattle.busdma_machine.specs.Bounce.Growth.{zone_for_tag, with_zone_for, added}
use Rattle.busdma_machine.specs.Bounce.Growth.{grown, maxpages, wanted_by_map, with_zone_map}
use Rattle.busdma_machine.specs.Bounce.Growth.{without_zone_map}
use Rattle.busdma_machine.specs.Bounce.MemoryRuns.{in_run}
use Rattle.busdma_machine.specs.Bounce.MemoryRuns.{with_memory_run, without_memory_run}
use Rattle.busdma_machine.specs.Bounce.Serving.{handed, waiting_at_tail, returned}
use Rattle.busdma_machine.specs.Bounce.AccountStep.{AccountReply, account_step, as_pages}
use Rattle.busdma_machine.specs.Bounce.AccountStep.{created, grabbed, released}
use Rattle.busdma_machine.specs.Bounce.AccountStep.{called_from}
use Rattle.busdma_machine.specs.Bounce.Conditions.{MayCall, times_held}
use Rattle.busdma_machine.specs.Bounce.Places.{places}
use Rattle.busdma_machine.specs.Bounce.WellFormed.{IsAccountWellFormed}
use Rattle.busdma_machine.proofs.Accounts.ShareLaws.{maxmem-step}
use Rattle.busdma_machine.proofs.Accounts.Places.{where-step}
use Rattle.lane_agreement.specs.View.{View, Return, OwnMap, SeenStage, Idle}
use Rattle.lane_agreement.specs.View.{Waiting, Loaded, Returning, view_changed, view_staged}
use Rattle.lane_agreement.specs.View.{gone, with_mem, queued_back, view_emptied}
use Rattle.lane_agreement.specs.View.{unloaded, view_ended}
use Rattle.lane_agreement.specs.View.{view_restaged, view_given_back}
use Rattle.lane_agreement.specs.View.{zone_in, returning, is_returning, is_astray}
use Rattle.busdma_machine.specs.Bounce.Share.{Same, share}
use Rattle.lane_agreement.specs.OwnShare.{share_of, own_share, share_if}
use Rattle.lane_agreement.specs.Agreement.{Agrees}
use Rattle.lane_agreement.specs.After.{addresses_of_pages, after_grab, after_create, after_callback}
use Rattle.busdma_machine.proofs.Accounts.Names.{and_none, and_left, Same-refl, Same-trans, name-grown_for}
use Rattle.busdma_machine.proofs.Accounts.Names.{name-with_map}
use Rattle.busdma_machine.proofs.Accounts.Names.{name-without_map, name-handed, name-queued, name-released, name-served}
use Rattle.busdma_machine.proofs.Accounts.Names.{name-shorter, name-with_memory, name-without_memory}
use Rattle.lane_agreement.proofs.Own.{count-one, count-less, zone_of-inside}
use Rattle.busdma_machine.proofs.Accounts.EditedSums.{count_by-append, count_by-map_none}
use Rattle.lane_agreement.proofs.Places.{OtherReturns, no-returns, names-changed, share-handed, share-queued}
use Rattle.lane_agreement.proofs.Places.{share-shorter, waits-tells, head-waits, back-returns, share-unloaded}
use Rattle.lane_agreement.proofs.Places.{share-returned, front-returns, share-bare, share-with_map, share-without_map}
use Rattle.lane_agreement.proofs.Places.{share-with_memory, share-without_memory}
use Rattle.lane_agreement.proofs.Asking.{known, known_mem}

-- what every call leaves of the account
pub record Stepped (a b : Account) : Type 0 where
  pub places : (f : ℕ) → places f b ≡ places f a
  pub maxmem : b.maxmem ≡ a.maxmem

pub stepped : (lane : ℕ) (c : HubCall) (a : Account) → MayCall lane c a → IsAccountWellFormed a →
    Stepped a (account_step lane c a).account
stepped lane c a may well = record {
  places = λ f. where-step (λ g. g == f) lane c a may well;
  maxmem = maxmem-step lane c a;
}

-- no name is touched
pub agrees-kept : (l : View) (a b : Account) → Agrees l a → Stepped a b →
    ((m : MapId) → Same (share m a) (share m b)) → Agrees l b
agrees-kept l a b agrees s same = record {
  apart = λ f e. s.places f ∙ agrees.apart f e;
  one = λ f. omega (arith, s.places f, agrees.one f);
  maxmem = agrees.maxmem ∙ sym s.maxmem;
  names = λ m own. Same-trans (own_share l m.made_at) (share m a) (share m b) (agrees.names m own) (same m);
  returns = agrees.returns;
  zones = agrees.zones;
}

-- one name is touched
pub agrees-changed : (l : View) (n : MapId) (o : Option OwnMap) (x : Option (List ℕ)) (qs : List Return)
    (a b : Account) → Agrees l a → n.lane.0 ≡ l.id → Stepped a b
    → ((m : MapId) → same_map m n ≡ false → Same (share m a) (share m b)) → OtherReturns n.made_at l.returns qs →
    Same (share_of n.made_at o x qs) (share n b)
    → (is_returning o ≡ false → returning n.made_at qs ≡ 0) → count_by (is_astray n.made_at (zone_in o)) qs ≡ 0 →
    Agrees (view_changed l n.made_at o x qs) b
agrees-changed l n o x qs a b agrees own s others returns same none straight = record {
  apart = λ f e. s.places f ∙ agrees.apart f e;
  one = λ f. omega (arith, s.places f, agrees.one f);
  maxmem = agrees.maxmem ∙ sym s.maxmem;
  names = names-changed l n o x qs a b own others returns same agrees.names;
  returns =
      λ k. (elim (eqb k n.made_at) as (λ v. eqb k n.made_at ≡ v →
      is_returning (if v then o else l.map_at k) ≡ false → returning k qs ≡ 0) [
        | true ↦ λ e h. rw (eqb-true k n.made_at e) (none h)
        | false ↦ λ e h. returns.count k (λ u. false≢true (sym e ∙ eq-eqb k n.made_at u)) ∙ agrees.returns k h
      ]) refl;
  zones =
      λ k. (elim (eqb k n.made_at) as (λ v. eqb k n.made_at ≡ v →
      count_by (is_astray k (zone_in (if v then o else l.map_at k))) qs ≡ 0) [
        | true ↦ λ e. subst (λ j. count_by (is_astray j (zone_in o)) qs ≡ 0) (sym (eqb-true k n.made_at e)) straight
        | false ↦ λ e. returns.astray k (zone_in (l.map_at k)) (λ u. false≢true (sym e ∙ eq-eqb k n.made_at u))
            ∙ agrees.zones k
      ]) refl;
}

-- without a return of a place, none has a wrong zone
straight_none : (k z : ℕ) (rs : List Return) → returning k rs ≡ 0 → count_by (is_astray k z) rs ≡ 0
straight_none k z rs none =
    omega (arith, none, count-less (is_astray k z) (λ (r : Return). r.map == k) rs (λ r e. and_left (eqb r.map k) _ e))

straight_back : (k z : ℕ) (rs : List Return) (pages : List ℕ) → returning k rs ≡ 0 →
    count_by (is_astray k z) (rs ++ queued_back k z pages) ≡ 0
straight_back k z rs pages none =
    let right : not (z == z) ≡ false = rw (eq-eqb z z refl) refl in
    omega (
      arith,
      straight_none k z rs none,
      count_by-append (is_astray k z) rs (queued_back k z pages),
      count_by-map_none (is_astray k z) (λ p. record { map = k; zone = z; page = p })
          pages (λ p. and_none (k == k) _ right),
    )

addresses-pages : (ps : List ℕ) → addresses_of_pages (as_pages ps) ≡ ps
addresses-pages [] = refl
addresses-pages (p ∷ ps) = ap (λ qs. p ∷ qs) (addresses-pages ps)

emptied-none : (k z : ℕ) (rs : List Return) (pages : List ℕ) → returning k rs ≡ 0 →
    is_returning (Some (record { zone = z; stage = view_emptied pages })) ≡ false →
    returning k (rs ++ queued_back k z pages) ≡ 0
emptied-none k z rs [] none h = rw (append-nil rs) none
  where
    append-nil : (xs : List Return) → xs ++ [] ≡ xs
    append-nil [] = refl
    append-nil (x ∷ xs) = ap (λ ys. x ∷ ys) (append-nil xs)
emptied-none k z rs (p ∷ ps) none h = absurd (false≢true (sym h))

-- a map gets its pages, and its load ends
handed-ends : (fits : Bool) (l : View) (n : MapId) (z need : ℕ) (a0 a : Account) → Agrees l a0 → n.lane.0 ≡ l.id →
    returning n.made_at l.returns ≡ 0 → Stepped a0 (handed a n z need)
    → ((m : MapId) → same_map m n ≡ false → Same (share m a0) (share m a)) →
    Same (share_of n.made_at (Some (record { zone = z; stage = Idle })) (l.mem_at n.made_at) l.returns) (share n a)
    → Agrees (view_ended fits l n.made_at z (take need (zone_at a z).avail)) (handed a n z need)
handed-ends true l n z need a0 a agrees own none s others g =
    agrees-changed l n _ _ l.returns a0 (handed a n z need) agrees own s
    (λ m off. Same-trans (share m a0) (share m a) _ (others m off) (name-handed m n off a z need))
    (no-returns n.made_at l.returns) (share-handed n.made_at (l.mem_at n.made_at) l.returns n z need a g) (λ h. none)
    (straight_none n.made_at z l.returns none)
handed-ends false l n z need a0 a agrees own none s others g =
    let pages : List ℕ = take need (zone_at a z).avail in
    agrees-changed l n _ _ (l.returns ++ queued_back n.made_at z pages) a0 (handed a n z need) agrees own s
    (λ m off. Same-trans (share m a0) (share m a) _ (others m off) (name-handed m n off a z need))
    (back-returns n.made_at z pages l.returns)
    (share-unloaded n.made_at (l.mem_at n.made_at) l.returns z pages _
    (share-handed n.made_at (l.mem_at n.made_at) l.returns n z need a g))
    (emptied-none n.made_at z l.returns pages none) (straight_back n.made_at z l.returns pages none)

-- the unloading of a map calls nobody
pub agrees-unloaded : (l : View) (k z : ℕ) (pages : List ℕ) (a : Account) → Agrees l a →
    l.map_at k ≡ Some (record { zone = z; stage = Loaded pages }) → Agrees (unloaded l k z pages) a
agrees-unloaded l k z pages a agrees here =
    let n : MapId = record { lane = record { 0 = l.id }; made_at = k } in
    agrees-changed l n _ _ (l.returns ++ queued_back k z pages) a a agrees refl
    (record { places = λ f. refl; maxmem = refl }) (λ m off. Same-refl (share m a))
    (back-returns k z pages l.returns) (share-unloaded k (l.mem_at k) l.returns z pages (share n a)
    (known l a n _ agrees refl here)) (emptied-none k z l.returns pages (agrees.returns k (rw here refl)))
    (straight_back k z l.returns pages (agrees.returns k (rw here refl)))

pub agrees-grab : (fits : Bool) (l : View) (n : MapId) (z need : ℕ) (nowait : Bool) (a : Account) → Agrees l a →
    n.lane.0 ≡ l.id → z < length a.zones → l.map_at n.made_at ≡ Some (record { zone = z; stage = Idle })
    → Stepped a (grabbed n z need nowait a).account →
    Agrees (after_grab fits l n.made_at z need (grabbed n z need nowait a).reply)
    (grabbed n z need nowait a).account
agrees-grab fits l n z need nowait a agrees own inside here =
    let g : Same (share_of n.made_at (Some (record { zone = z; stage = Idle })) (l.mem_at n.made_at) l.returns)
    (share n a) = known l a n _ agrees own here in
    let none : returning n.made_at l.returns ≡ 0 = agrees.returns n.made_at (rw here refl) in
    let pages : List ℕ = take need (zone_at a z).avail in
    elim (leb need (free a z)) as (λ v. let o : AccountReply = if v
    then record { account = handed a n z need; reply = Granted (as_pages (take need (zone_at a z).avail)) }
    else (if nowait then record { account = a; reply = NoPages }
    else record { account = waiting_at_tail a n z need; reply = Queued (free a z) }) in
    Stepped a o.account → Agrees (after_grab fits l n.made_at z need o.reply) o.account) [
      | true ↦ λ s. subst (λ ps. Agrees (view_ended fits l n.made_at z ps) (handed a n z need))
          (sym (addresses-pages pages)) (handed-ends fits l n z need a a agrees own none s
          (λ m off. Same-refl (share m a)) g)
      | false ↦
          (elim nowait as (λ v. let o : AccountReply = if v then record { account = a; reply = NoPages }
          else record { account = waiting_at_tail a n z need; reply = Queued (free a z) } in
          Stepped a o.account → Agrees (after_grab fits l n.made_at z need o.reply) o.account) [
            | true ↦ λ s. agrees
            | false ↦ λ s. agrees-changed l n _ _ l.returns a (waiting_at_tail a n z need) agrees own s
                (λ m off. name-queued m n off a z need) (no-returns n.made_at l.returns)
                (share-queued n.made_at (l.mem_at n.made_at) l.returns n z need a inside g) (λ h. none)
                (straight_none n.made_at z l.returns none)
          ])
    ]

pub agrees-callback : (fits : Bool) (l : View) (ws : List Waiter) (a : Account) → Agrees l a → a.ready ≡ ws
    → Stepped a (called_from ws l.id a).account →
    Agrees (after_callback fits l (called_from ws l.id a).reply) (called_from ws l.id a).account
agrees-callback fits l [] a agrees is = λ s. agrees
agrees-callback fits l (w ∷ ws) a agrees is =
    (elim (eqb w.map.lane.0 l.id) as (λ v. eqb w.map.lane.0 l.id ≡ v →
    (let o : AccountReply = if v then record {
      account = handed (record a { ready = ws }) w.map w.zone.0 w.need;
      reply = Called w.map (as_pages (take w.need (zone_at a w.zone.0).avail));
    } else record {
      account = a;
      reply =
          Nothing;
    } in Stepped a o.account → Agrees (after_callback fits l o.reply) o.account)) [
      | true ↦ λ t s.
          (let own : w.map.lane.0 ≡ l.id = eqb-true w.map.lane.0 l.id t in
          let here : l.map_at w.map.made_at ≡ Some (record { zone = w.zone.0; stage = Waiting w.need }) =
          waits-tells (l.map_at w.map.made_at) w.zone.0 w.need
          (omega (arith, head-waits w ws a is, (agrees.names w.map own).waits w.zone.0 w.need)) in
          let none : returning w.map.made_at l.returns ≡ 0 = agrees.returns w.map.made_at (rw here refl) in
          let pages : List ℕ = take w.need (zone_at a w.zone.0).avail in
          subst (λ ps. Agrees (view_ended fits l w.map.made_at (zone_in (l.map_at w.map.made_at)) ps)
          (handed (record a { ready = ws }) w.map w.zone.0 w.need)) (sym (addresses-pages pages))
          (subst (λ o. Agrees (view_ended fits l w.map.made_at (zone_in o) pages)
          (handed (record a { ready = ws }) w.map w.zone.0 w.need)) (sym here)
          (handed-ends fits l w.map w.zone.0 w.need a (record a { ready = ws }) agrees own none s
          (λ m off. name-shorter m a w ws is off)
          (share-shorter w.map.made_at (l.mem_at w.map.made_at) l.returns w ws a is
          (known l a w.map _ agrees own here)))))
      | false ↦ λ t s. agrees
    ]) refl

abbrev own_map : ℕ → SeenStage → OwnMap
own_map z s = record { zone = z; stage = s }

returning-some : (o : Option OwnMap) → is_returning o ≡ true →
    (z : ℕ) × (o ≡ Some (record { zone = z; stage = Returning }))
returning-some None h = absurd (false≢true h)
returning-some (Some m) h = (m.zone, ap Some (stage m.zone m.stage h))
  where
    stage : (z : ℕ) (s : SeenStage) → is_returning (Some (own_map z s)) ≡ true → own_map z s ≡ own_map z Returning
    stage z Idle h = absurd (false≢true h)
    stage z (Waiting n) h = absurd (false≢true h)
    stage z (Loaded ps) h = absurd (false≢true h)
    stage z Returning h = refl

bare-none : (k z : ℕ) (rs : List Return) →
    is_returning (Some (record { zone = z; stage = if returning k rs == 0 then Idle else Returning })) ≡ false →
    returning k rs ≡ 0
bare-none k z rs =
    (elim (eqb (returning k rs) 0) as (λ v. eqb (returning k rs) 0 ≡ v →
    is_returning (Some (record { zone = z; stage = if v then Idle else Returning })) ≡ false →
    returning k rs ≡ 0) [
      | true ↦ λ e h. eqb-true (returning k rs) 0 e
      | false ↦ λ e h. absurd (false≢true (sym h))
    ]) refl

if_not : (b : Bool) → (b ≡ false → ⊥) → b ≡ true
if_not true h = refl
if_not false h = absurd (h refl)

-- the first page of the return queue goes back
module _ (l : View) (r : Return) (rs : List Return) (a : Account) (agrees : Agrees l a) (is : l.returns ≡ r ∷ rs) where
  abbrev pub its_map : MapId
  its_map = record { lane = record { 0 = l.id }; made_at = r.map }

  is_back : (z : ℕ) × (l.map_at r.map ≡ Some (record { zone = z; stage = Returning }))
  is_back =
      let here : 1 ≤ returning r.map l.returns =
      omega (
        arith,
        ap (returning r.map) is,
        count-one (λ (q : Return). q.map == r.map) r rs,
        ap share_if (eq-eqb r.map r.map refl),
      ) in
      returning-some (l.map_at r.map) (if_not (is_returning (l.map_at r.map))
      (λ e. absurd (omega (arith, here, agrees.returns r.map e))))

  back : (z : ℕ) → l.map_at r.map ≡ Some (record { zone = z; stage = Returning }) →
      times_held its_map r.zone r.page a ≡ 1
      → Same (share_of r.map (Some (record { zone = z; stage = Returning })) (l.mem_at r.map) rs)
      (share its_map (returned a its_map r.zone r.page))
  back z here held =
      share-returned (Some (record { zone = z; stage = Returning })) (l.mem_at r.map) r rs its_map a held
      (subst (λ qs. Same (share_of r.map (Some (record { zone = z; stage = Returning })) (l.mem_at r.map) qs)
      (share its_map a)) is (known l a its_map _ agrees refl here))

  straight : (z : ℕ) → l.map_at r.map ≡ Some (record { zone = z; stage = Returning }) →
      count_by (is_astray r.map z) rs ≡ 0
  straight z here =
      let all : count_by (is_astray r.map z) (r ∷ rs) ≡ 0 =
      subst (λ qs. count_by (is_astray r.map z) qs ≡ 0) is
      (ap (λ o. count_by (is_astray r.map (zone_in o)) l.returns) (sym here) ∙ agrees.zones r.map) in
      omega (arith, all, count-one (is_astray r.map z) r rs)

  pub agrees-back : times_held its_map r.zone r.page a ≡ 1 → Stepped a (released its_map r.zone r.page a).account →
      Agrees (view_given_back l (r ∷ rs)) (released its_map r.zone r.page a).account
  agrees-back held s =
      let z : ℕ = is_back.0 in
      subst
      (λ o. Agrees (view_changed l r.map (view_restaged o (if returning r.map rs == 0 then Idle else Returning))
      (l.mem_at r.map) rs) (released its_map r.zone r.page a).account) (sym is_back.1)
      (agrees-changed l its_map
      (Some (record { zone = z; stage = if returning r.map rs == 0 then Idle else Returning })) (l.mem_at r.map) rs
      a (released its_map r.zone r.page a).account agrees refl s
      (λ m off. name-released m its_map off a r.zone r.page)
      (subst (λ qs. OtherReturns r.map qs rs) (sym is) (front-returns r rs))
      (Same-trans
      (share_of r.map (Some (record { zone = z; stage = if returning r.map rs == 0 then Idle else Returning }))
      (l.mem_at r.map) rs) (share its_map (returned a its_map r.zone r.page)) _
      (share-bare (returning r.map rs == 0) r.map z (l.mem_at r.map) rs _ (back z is_back.1 held))
      (name-served its_map (returned a its_map r.zone r.page) r.zone))
      (bare-none r.map z rs) (straight z is_back.1))

-- the making of a map, and its end
pub agrees-create : (l : View) (n : MapId) (t : TagLimits) (first_done : Bool) (a : Account) → Agrees l a →
    n.lane.0 ≡ l.id → l.map_at n.made_at ≡ None
    → Stepped a (created n t first_done a).account →
    Agrees (after_create l n.made_at (created n t first_done a).reply) (created n t first_done a).account
agrees-create l n t first_done a agrees own here s =
    let b : Account = with_zone_for t a in
    let z : ℕ = zone_for_tag t a.zones in
    let wanted : ℕ = wanted_by_map t first_done (zone_at b z) (total b z) (maxpages t a) in
    let c : Account = grown b z (added b z wanted) in
    let made : Bool = first_done || added b z wanted == wanted in
    let g : Same (share_of n.made_at None (l.mem_at n.made_at) l.returns) (share n c) =
    Same-trans (share_of n.made_at None (l.mem_at n.made_at) l.returns) (share n a) (share n c)
    (known l a n None agrees own here) (name-grown_for n t a _) in
    let inside : z < length c.zones =
    omega (
      arith,
      zone_of-inside t a.zones,
      length-set b.zones z (record (zone_at b z) { avail = (zone_at b z).avail ++ take (added b z wanted) b.bank }),
    )
    in
    (elim made as (λ v. Stepped a (if v then with_zone_map c z n else c) →
    Agrees (if v then view_staged l n.made_at z Idle else l) (if v then with_zone_map c z n else c)) [
      | true ↦ λ s. agrees-changed l n _ _ l.returns a (with_zone_map c z n) agrees own s
          (λ m off. Same-trans (share m a) (share m c) _ (name-grown_for m t a _) (name-with_map m n off c z))
          (no-returns n.made_at l.returns) (share-with_map n.made_at (l.mem_at n.made_at) l.returns n z c inside g)
          (λ h. agrees.returns n.made_at (rw here refl))
          (straight_none n.made_at z l.returns (agrees.returns n.made_at (rw here refl)))
      | false ↦ λ s. agrees-kept l a c agrees s (λ m. name-grown_for m t a _)
    ]) s

pub agrees-destroy : (l : View) (n : MapId) (z : ℕ) (a : Account) → Agrees l a → n.lane.0 ≡ l.id → z < length a.zones →
    l.map_at n.made_at ≡ Some (record { zone = z; stage = Idle })
    → Stepped a (without_zone_map a z n) → Agrees (gone l n.made_at) (without_zone_map a z n)
agrees-destroy l n z a agrees own inside here s =
    agrees-changed l n _ _ l.returns a (without_zone_map a z n) agrees own s
    (λ m off. name-without_map m n off a z) (no-returns n.made_at l.returns)
    (share-without_map n.made_at (l.mem_at n.made_at) l.returns n z a inside (known l a n _ agrees own here))
    (λ h. agrees.returns n.made_at (rw here refl))
    (straight_none n.made_at 0 l.returns (agrees.returns n.made_at (rw here refl)))

-- a memory's frames, and its end
pub agrees-with_memory : (l : View) (n : MapId) (first count : ℕ) (frames : List ℕ) (a : Account) → Agrees l a →
    n.lane.0 ≡ l.id → l.mem_at n.made_at ≡ None → filter (in_run first count) a.bank ++ [] ≡ frames
    → Stepped a (with_memory_run a n first count) →
    Agrees (with_mem l n.made_at (Some frames)) (with_memory_run a n first count)
agrees-with_memory l n first count frames a agrees own here are s =
    agrees-changed l n (l.map_at n.made_at) (Some frames) l.returns a (with_memory_run a n first count) agrees own s
    (λ m off. name-with_memory m n off a first count) (no-returns n.made_at l.returns)
    (subst (λ fs. Same (share_of n.made_at (l.map_at n.made_at) (Some fs) l.returns)
    (share n (with_memory_run a n first count))) are
    (share-with_memory n.made_at (l.map_at n.made_at) l.returns n first count a
    (known_mem l a n None agrees own here))) (agrees.returns n.made_at) (agrees.zones n.made_at)

pub agrees-without_memory : (l : View) (n : MapId) (a : Account) → Agrees l a → n.lane.0 ≡ l.id →
    Stepped a (without_memory_run a n) → Agrees (with_mem l n.made_at None) (without_memory_run a n)
agrees-without_memory l n a agrees own s =
    agrees-changed l n (l.map_at n.made_at) None l.returns a (without_memory_run a n) agrees own s
    (λ m off. name-without_memory m n off a) (no-returns n.made_at l.returns)
    (share-without_memory n.made_at (l.map_at n.made_at) l.returns n (l.mem_at n.made_at) a (agrees.names n own))
    (agrees.returns n.made_at) (agrees.zones n.made_at)
