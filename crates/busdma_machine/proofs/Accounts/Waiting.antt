-- A waiting map keeps its zone and its need until its callback is called.
use Rattle.std.proofs.Common.{◌≡◌, ℕ, ◌+◌, ◌<◌, ◌≤◌, Bool, true, false, cond, List, [], ◌∷◌, take, refl, sym, ap, ◌∙◌}
use Rattle.std.proofs.Common.{subst, arith, eqb, if◌then◌else◌, Option, Some, None, Contains}
use Rattle.std.specs.List.{count_by, sum_by}
use Rattle.std.proofs.lemmas.List.Sums.{sum_by-cons}
use Rattle.std.proofs.lemmas.List.Elements.{Contains-append_left, Contains-append_right}
use Rattle.busdma_machine.specs.declared.name.MapId.{MapId}
use Rattle.busdma_machine.specs.declared.tags.tag.TagLimits.{TagLimits}
use Rattle.busdma_machine.specs.declared.bounce.zone.Waiter.{Waiter}
use Rattle.busdma_machine.specs.declared.bounce.hold.HubCall.{HubCall}
use Rattle.busdma_machine.specs.declared.bounce.hold.HubCall.TheVariants.{AttachTag, CreateMap, DestroyMap, Grab}
use Rattle.busdma_machine.specs.declared.bounce.hold.HubCall.TheVariants.{Release}
use Rattle.busdma_machine.specs.declared.bounce.hold.HubCall.TheVariants.{TakeCallback, MemAlloc, MemFree}
use Rattle.busdma_machine.specs.declared.bounce.hold.HubReply.TheVariants.{Nothing, Called}
use Rattle.busdma_machine.specs.declared.bounce.hold.HoldEntry.{HoldEntry}
use Rattle.busdma_machine.specs.Bounce.Account.{Account, Zone, same_map, zone_at, with_zone, no_zone}
use Rattle.busdma_machine.specs.Bounce.Growth.{zone_for_tag, with_zone_for, grown}
use Rattle.busdma_machine.specs.Bounce.Growth.{growth_for_map}
use Rattle.busdma_machine.specs.Bounce.Growth.{with_zone_map, without_zone_map}
use Rattle.busdma_machine.specs.Bounce.Serving.{handed, returned}
use Rattle.busdma_machine.specs.Bounce.AccountStep.{AccountReply, account_step, as_pages}
use Rattle.busdma_machine.specs.Bounce.AccountStep.{created, grabbed, released}
use Rattle.busdma_machine.specs.Bounce.AccountStep.{called_from, memory_placed}
use Rattle.busdma_machine.specs.Bounce.Conditions.{MayCall, IsIdle, times_listed}
use Rattle.busdma_machine.specs.Bounce.History.{IsSound, after_entry, account_of}
use Rattle.busdma_machine.specs.Bounce.ServingOrder.{map_called_by, maps_called}
use Rattle.busdma_machine.specs.Bounce.Share.{is_waiter, waiters}
use Rattle.busdma_machine.proofs.Accounts.EditedSums.{sum_by-set_like, count_by-one_no}
use Rattle.busdma_machine.proofs.Accounts.Names.{one_waiter, and_right, same_map-same, name-attached, name-grown_for}
use Rattle.busdma_machine.proofs.Accounts.Names.{name-grabbed, waiters-served}

abbrev weight : Bool → ℕ
weight b = cond b 1 0

-- a zone gets other pages or maps
waiters-with_zone : (test : Waiter → Bool) (a b : Account) (z : ℕ) (k : Zone) → b.zones ≡ (with_zone a z k).zones →
    k.wait ≡ (zone_at a z).wait → b.ready ≡ a.ready → waiters test b ≡ waiters test a
waiters-with_zone test a b z k zones wait ready =
    rw (zones, ready) (ap (λ n. n + count_by test a.ready)
    (sum_by-set_like (λ (s : Zone). count_by test s.wait) a.zones z k no_zone refl (ap (count_by test) wait)))

-- fewer elements pass a narrower test
count_by-narrower : {X : Type 0} (p q : X → Bool) (xs : List X) →
    ((x : X) → p x ≡ true → q x ≡ true) → count_by p xs ≤ count_by q xs
count_by-narrower p q [] h = omega arith
count_by-narrower p q (x ∷ xs) h =
    let here : weight (p x) ≤ weight (q x) = ((elim (p x) as (λ v. p x ≡ v → weight v ≤ weight (q x)) [
      | true ↦ λ e. (let one : weight (q x) ≡ 1 = rw (h x e) refl in omega (arith, one))
      | false ↦ λ e. omega arith
    ]) refl) in
    omega (
      arith,
      here,
      sum_by-cons (λ y. weight (p y)) x xs,
      sum_by-cons (λ y. weight (q y)) x xs,
      count_by-narrower p q xs h,
    )

sum_by-narrower : (p q : Waiter → Bool) (zs : List Zone) → ((w : Waiter) → p w ≡ true → q w ≡ true) →
    sum_by (λ (z : Zone). count_by p z.wait) zs ≤ sum_by (λ (z : Zone). count_by q z.wait) zs
sum_by-narrower p q [] h = omega arith
sum_by-narrower p q (z ∷ zs) h =
    omega (
      arith,
      count_by-narrower p q z.wait h,
      sum_by-narrower p q zs h,
      sum_by-cons (λ (x : Zone). count_by p x.wait) z zs,
      sum_by-cons (λ (x : Zone). count_by q x.wait) z zs,
    )

module _ (m : MapId) (z need : ℕ) where
  pub waits-listed : (a : Account) → waiters (is_waiter m z need) a ≤ times_listed m a
  waits-listed a =
      let narrow : (w : Waiter) → is_waiter m z need w ≡ true → same_map m w.map ≡ true =
      (λ w e. and_right (eqb w.zone.0 z) _ (and_right (eqb w.need need) _ e)) in
      omega (
        arith,
        sum_by-narrower (is_waiter m z need) (λ w. same_map m w.map) a.zones narrow,
        count_by-narrower (is_waiter m z need) (λ w. same_map m w.map) a.ready narrow,
      )

  stays-either : (a b c : Account) (v : Bool) → waiters (is_waiter m z need) b ≡ waiters (is_waiter m z need) a →
      waiters (is_waiter m z need) c ≡ waiters (is_waiter m z need) a →
      waiters (is_waiter m z need) (if v then c else b) ≡ waiters (is_waiter m z need) a
  stays-either a b c true s t = t
  stays-either a b c false s t = s

  stays-created : (n : MapId) (t : TagLimits) (first_done : Bool) (a : Account) →
      waiters (is_waiter m z need) (created n t first_done a).account ≡ waiters (is_waiter m z need) a
  stays-created n t first_done a =
      let b : Account = with_zone_for t a in
      let y : ℕ = zone_for_tag t a.zones in
      let c : Account = grown b y (growth_for_map t first_done b y).added in
      let same : waiters (is_waiter m z need) c ≡ waiters (is_waiter m z need) a =
      (name-grown_for m t a (growth_for_map t first_done b y).added).waits z need in
      stays-either a c (with_zone_map c y n) _ same
      (waiters-with_zone (is_waiter m z need) c (with_zone_map c y n) y _ refl refl refl ∙ same)

  stays-handed : (a : Account) (n : MapId) (y k : ℕ) →
      waiters (is_waiter m z need) (handed a n y k) ≡ waiters (is_waiter m z need) a
  stays-handed a n y k = waiters-with_zone (is_waiter m z need) a (handed a n y k) y _ refl refl refl

  -- a waiting map asks for no pages
  stays-grabbed : (n : MapId) (y k : ℕ) (nowait : Bool) (a : Account) → IsIdle n y a →
      0 < waiters (is_waiter m z need) a →
      waiters (is_waiter m z need) (grabbed n y k nowait a).account ≡ waiters (is_waiter m z need) a
  stays-grabbed n y k nowait a idle waits =
      (elim (same_map m n) as (λ v. same_map m n ≡ v →
      waiters (is_waiter m z need) (grabbed n y k nowait a).account ≡ waiters (is_waiter m z need) a) [
        | true ↦ λ e. (let none : times_listed m a ≡ 0 =
            subst (λ x. times_listed x a ≡ 0) (sym (same_map-same m n e)) idle.in_no_list in
            absurd (omega (arith, waits, waits-listed a, none)))
        | false ↦ λ e. (name-grabbed m n e a y k nowait).waits z need
      ]) refl

  stays-released : (n : MapId) (y page : ℕ) (a : Account) →
      waiters (is_waiter m z need) (released n y page a).account ≡ waiters (is_waiter m z need) a
  stays-released n y page a =
      waiters-served m (returned a n y page) y (is_waiter m z need) (one_waiter m z need)
      ∙ waiters-with_zone (is_waiter m z need) a (returned a n y page) y _ refl refl refl

  -- the head of the callback list is another map
  stays-called : (ws : List Waiter) (lane : ℕ) (a : Account) → a.ready ≡ ws →
      (Contains (map_called_by (called_from ws lane a).reply) m → ⊥) →
      waiters (is_waiter m z need) (called_from ws lane a).account ≡ waiters (is_waiter m z need) a
  stays-called [] lane a is other = refl
  stays-called (w ∷ ws) lane a is calls =
      let b : Account = record a { ready = ws } in
      (elim (eqb w.map.lane.0 lane) as (λ v. let o : AccountReply = if v
      then record {
        account = handed b w.map w.zone.0 w.need;
        reply = Called w.map (as_pages (take w.need (zone_at a w.zone.0).avail));
      } else record {
        account = a;
        reply =
            Nothing;
      } in
      (Contains (map_called_by o.reply) m → ⊥) →
      waiters (is_waiter m z need) o.account ≡ waiters (is_waiter m z need) a) [
        | true ↦ λ other. stays-handed b w.map w.zone.0 w.need ∙ stays-shorter other
        | false ↦ λ other. refl
      ]) calls
    where
      stays-shorter : (Contains (w.map ∷ []) m → ⊥) →
          waiters (is_waiter m z need) (record a { ready = ws }) ≡ waiters (is_waiter m z need) a
      stays-shorter other =
          (elim (same_map m w.map) as (λ v. same_map m w.map ≡ v →
          waiters (is_waiter m z need) (record a { ready = ws }) ≡ waiters (is_waiter m z need) a) [
            | true ↦ λ e. absurd (other (0, omega arith, sym (same_map-same m w.map e)))
            | false ↦
                λ e. rw is
                (omega (arith, count_by-one_no (is_waiter m z need) w ws ((one_waiter m z need).apart w e)))
          ]) refl

  stays-placed : (n : MapId) (k : ℕ) (first : Option ℕ) (a : Account) →
      waiters (is_waiter m z need) (memory_placed n k first a).account ≡ waiters (is_waiter m z need) a
  stays-placed n k None a = refl
  stays-placed n k (Some first) a = refl

  stays-step : (lane : ℕ) (c : HubCall) (a : Account) → MayCall lane c a →
      (Contains (map_called_by (account_step lane c a).reply) m → ⊥) → 0 < waiters (is_waiter m z need) a →
      waiters (is_waiter m z need) (account_step lane c a).account ≡ waiters (is_waiter m z need) a
  stays-step lane (AttachTag t) a may other waits = (name-attached m t a).waits z need
  stays-step lane (CreateMap n t first_done) a may other waits = stays-created n t first_done a
  stays-step lane (DestroyMap n y) a may other waits =
      waiters-with_zone (is_waiter m z need) a (without_zone_map a y.0 n) y.0 _ refl refl refl
  stays-step lane (Grab n y k nowait) a may other waits = stays-grabbed n y.0 k nowait a may.2 waits
  stays-step lane (Release n y page) a may other waits = stays-released n y.0 page.0 a
  stays-step lane TakeCallback a may other waits = stays-called a.ready lane a refl other
  stays-step lane (MemAlloc n t) a may other waits = stays-placed n _ _ a
  stays-step lane (MemFree n) a may other waits = refl

  pub stays-waiting : (a : Account) (es : List HoldEntry) → IsSound a es → (Contains (maps_called es) m → ⊥) →
      0 < waiters (is_waiter m z need) a →
      waiters (is_waiter m z need) (account_of a es) ≡ waiters (is_waiter m z need) a
  stays-waiting a [] sound other waits = refl
  stays-waiting a (e ∷ es) sound other waits =
      let b : Account = after_entry e a in
      let one : waiters (is_waiter m z need) b ≡ waiters (is_waiter m z need) a =
      stays-step e.lane.0 e.call a sound.0.may
      (λ there. other (Contains-append_left (map_called_by e.reply) (maps_called es) m
      (subst (λ r. Contains (map_called_by r) m) (sym sound.0.reply) there))) waits in
      stays-waiting b es sound.1
      (λ there. other (Contains-append_right (map_called_by e.reply) (maps_called es) m there))
      (omega (arith, one, waits)) ∙ one
