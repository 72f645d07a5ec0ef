-- First come, first served: in one zone, maps are completed and called back in the order in which they began to wait.
use Rattle.std.proofs.Common.{◌≡◌, ℕ, zero, suc, ◌+◌, ◌-◌, ◌<◌, Bool, true, false, cond, List, [], ◌∷◌, ◌++◌, take}
use Rattle.std.proofs.Common.{drop}
use Rattle.std.proofs.Common.{length, get_or, set, refl, sym, ap, ◌∙◌, subst, eqb, leb, if◌then◌else◌, All, ◌==◌}
use Rattle.std.proofs.Common.{Option, Some, None}
use Rattle.std.specs.List.{filter}
use Rattle.std.proofs.lemmas.Bool.{eqb-true, eqb-false, eq-eqb, ne_eqb}
use Rattle.std.proofs.lemmas.List.{get_or-set_same, get_or-set_other, map-append, append-nil, append_assoc}
use Rattle.std.proofs.lemmas.List.Elements.{All-head, All-tail}
use Rattle.busdma_machine.specs.declared.name.MapId.{MapId}
use Rattle.busdma_machine.specs.declared.bounce.zone.Waiter.{Waiter}
use Rattle.busdma_machine.specs.declared.bounce.hold.HubCall.{HubCall}
use Rattle.busdma_machine.specs.declared.bounce.hold.HubCall.TheVariants.{AttachTag, CreateMap, DestroyMap, Grab}
use Rattle.busdma_machine.specs.declared.bounce.hold.HubCall.TheVariants.{Release}
use Rattle.busdma_machine.specs.declared.bounce.hold.HubCall.TheVariants.{TakeCallback, MemAlloc, MemFree}
use Rattle.busdma_machine.specs.declared.bounce.hold.HubReply.TheVariants.{Nothing, Granted, Queued, NoPages, Called}
use Rattle.busdma_machine.specs.declared.bounce.hold.HoldEntry.{HoldEntry}
use Rattle.busdma_machine.specs.Bounce.Account.{Account, Zone, zone_at, no_zone, free}
use Rattle.busdma_machine.specs.Bounce.Conditions.{MayCall}
use Rattle.busdma_machine.specs.Bounce.FirstCome.{queued_by, completed_by}
use Rattle.busdma_machine.specs.Bounce.FirstCome.{called_of_zone, queued_in, completed_in}
use Rattle.busdma_machine.specs.Bounce.FirstCome.{called_in_zone, waiting_in, ready_in, zone_line}
use Rattle.busdma_machine.specs.Bounce.Growth.{without_zone_map}
use Rattle.busdma_machine.specs.Bounce.History.{IsSound, after_entry, account_of}
use Rattle.busdma_machine.specs.Bounce.Serving.{handed, waiting_at_tail, returned}
use Rattle.busdma_machine.specs.Bounce.Serving.{completed, left_waiting, served}
use Rattle.busdma_machine.specs.Bounce.AccountStep.{AccountReply, account_step, as_pages, attached}
use Rattle.busdma_machine.specs.Bounce.AccountStep.{created, grabbed, released, memory_placed}
use Rattle.busdma_machine.specs.Bounce.AccountStep.{called_from as taken_from}
use Rattle.busdma_machine.specs.Bounce.ServingOrder.{maps_of}
use Rattle.busdma_machine.specs.Bounce.WellFormed.{Lacks, IsAccountWellFormed}
use Rattle.busdma_machine.proofs.Accounts.EditedSums.{get_or-set_as}
use Rattle.busdma_machine.proofs.Accounts.Counts.{in_zones, completed-zone}
use Rattle.busdma_machine.proofs.Accounts.Order.{nobody-attached, nobody-created}
use Rattle.busdma_machine.proofs.Accounts.WellFormed.{well-step}

-- the completed maps were before the maps that still wait
left-order : (pages : ℕ) (ws : List Waiter) →
    maps_of ws ≡ maps_of (completed pages ws) ++ maps_of (left_waiting pages ws)
left-order pages [] = refl
left-order pages (w ∷ ws) =
    let k : ℕ = w.need - w.have in
    elim (leb k pages) as (λ v. maps_of (w ∷ ws)
    ≡ maps_of (if v then record w { have = w.need } ∷ completed (pages - k) ws else [])
    ++ maps_of (if v then left_waiting (pages - k) ws else record w { have = w.have + pages } ∷ ws)) [
      | true ↦ ap (λ l. w.map ∷ l) (left-order (pages - k) ws)
      | false ↦ refl
    ]

-- a look-up at the place of an edit, whether the place is in the list or not
get_or-set_there : {X Y : Type 0} (g : X → Y) (xs : List X) (i : ℕ) (y d : X) (v : Y) → g y ≡ v →
    (get_or xs i d ≡ d → g d ≡ v) → g (get_or (set xs i y) i d) ≡ v
get_or-set_there g [] i y d v e h = h refl
get_or-set_there g (x ∷ xs) zero y d v e h = e
get_or-set_there g (x ∷ xs) (suc i) y d v e h = get_or-set_there g xs i y d v e h

module _ (z : ℕ) where
  -- ---- the waiting list

  stay : (a b : Account) → (zone_at b z).wait ≡ (zone_at a z).wait → waiting_in z a ++ [] ≡ waiting_in z b
  stay a b e = append-nil (waiting_in z a) ∙ ap maps_of (sym e)

  wait-queued : (m : MapId) (y need : ℕ) (a : Account) → y < length a.zones →
      waiting_in z a ++ (if y == z then m ∷ [] else []) ≡ waiting_in z (waiting_at_tail a m y need)
  wait-queued m y need a inside =
      let waiter : Waiter = record { map = m; zone = record { 0 = y }; need = need; have = free a y } in
      let after : Zone = record (zone_at a y) { wait = (zone_at a y).wait ++ waiter ∷ [] } in
      (elim (eqb y z) as (λ v. eqb y z ≡ v →
      waiting_in z a ++ (if v then m ∷ [] else []) ≡ waiting_in z (waiting_at_tail a m y need)) [
        | true ↦ λ e. subst (λ x. waiting_in x a ++ m ∷ [] ≡ waiting_in x (waiting_at_tail a m y need)) (eqb-true y z e)
            (sym (map-append (λ (w : Waiter). w.map) (zone_at a y).wait (waiter ∷ []))
            ∙ ap (λ (k : Zone). maps_of k.wait) (sym (get_or-set_same a.zones y after no_zone inside)))
        | false ↦ λ e. stay a (waiting_at_tail a m y need)
            (ap (λ (k : Zone). k.wait) (get_or-set_other a.zones y z after no_zone (λ q. eqb-false y z e (sym q))))
      ]) refl

  wait-grabbed : (m : MapId) (y : ℕ) (need : ℕ) (nowait : Bool) (a : Account) → y < length a.zones →
      waiting_in z a ++ queued_by z (Grab m (record { 0 = y }) need nowait) (grabbed m y need nowait a).reply
      ≡ waiting_in z (grabbed m y need nowait a).account
  wait-grabbed m y need nowait a inside =
      elim (leb need (free a y)) as (λ v. let o : AccountReply = if v
      then record { account = handed a m y need; reply = Granted (as_pages (take need (zone_at a y).avail)) }
      else (if nowait then record { account = a; reply = NoPages }
      else record { account = waiting_at_tail a m y need; reply = Queued (free a y) }) in
      waiting_in z a ++ queued_by z (Grab m (record { 0 = y }) need nowait) o.reply ≡ waiting_in z o.account) [
        | true ↦ stay a (handed a m y need) (get_or-set_as (λ (k : Zone). k.wait) a.zones y z
            (record (zone_at a y) { avail = drop need (zone_at a y).avail }) no_zone refl)
        | false ↦
            (elim nowait as (λ v. let o : AccountReply = if v then record { account = a; reply = NoPages }
            else record { account = waiting_at_tail a m y need; reply = Queued (free a y) } in
            waiting_in z a ++ queued_by z (Grab m (record { 0 = y }) need v) o.reply ≡ waiting_in z o.account) [
              | true ↦ append-nil (waiting_in z a)
              | false ↦ wait-queued m y need a inside
            ])
      ]

  back : (m : MapId) (y page : ℕ) (a : Account) →
      (zone_at (returned a m y page) z).wait ≡ (zone_at a z).wait
  back m y page a = get_or-set_as (λ (k : Zone). k.wait) a.zones y z
      (record (zone_at a y) { avail = page ∷ (zone_at a y).avail }) no_zone refl

  wait-released : (m : MapId) (y page : ℕ) (a : Account) →
      waiting_in z a ++ [] ≡ completed_by z (Release m (record { 0 = y }) (record { 0 = page })) a
      ++ waiting_in z (released m y page a).account
  wait-released m y page a =
      let b : Account = returned a m y page in
      let done : List Waiter = completed (free b y) (zone_at b y).wait in
      let after : Zone = record (zone_at b y) {
        wait = left_waiting (free b y) (zone_at b y).wait;
        deferred = (zone_at b y).deferred + length done;
      } in
      let same : waiting_in z b ≡ waiting_in z a = ap maps_of (back m y page a) in
      append-nil (waiting_in z a) ∙ sym same ∙
      (elim (eqb y z) as (λ v. eqb y z ≡ v →
      waiting_in z b ≡ (if v then maps_of done else []) ++ waiting_in z (served b y)) [
        | true ↦ λ e. subst (λ x. waiting_in x b ≡ maps_of done ++ waiting_in x (served b y)) (eqb-true y z e)
            (sym (get_or-set_there (λ (k : Zone). maps_of done ++ maps_of k.wait) b.zones y after no_zone
            (waiting_in y b) (sym (left-order (free b y) (zone_at b y).wait))
            (λ none. subst (λ (ws : List Waiter). maps_of (completed (free b y) ws) ++ [] ≡ maps_of ws)
            (sym (ap (λ (k : Zone). k.wait) none)) refl)))
        | false ↦ λ e. ap (λ (k : Zone). maps_of k.wait)
            (sym (get_or-set_other b.zones y z after no_zone (λ q. eqb-false y z e (sym q))))
      ]) refl

  wait-called : (ws : List Waiter) (lane : ℕ) (a : Account) →
      waiting_in z a ++ [] ≡ waiting_in z (taken_from ws lane a).account
  wait-called [] lane a = append-nil (waiting_in z a)
  wait-called (w ∷ ws) lane a =
      elim (eqb w.map.lane.0 lane) as (λ v. let o : AccountReply = if v
      then record {
        account = handed (record a { ready = ws }) w.map w.zone.0 w.need;
        reply = Called w.map (as_pages (take w.need (zone_at a w.zone.0).avail));
      } else record {
        account = a;
        reply =
            Nothing;
      } in waiting_in z a ++ [] ≡ waiting_in z o.account) [
        | true ↦ stay a (handed (record a { ready = ws }) w.map w.zone.0 w.need)
            (get_or-set_as (λ (k : Zone). k.wait) a.zones w.zone.0 z
            (record (zone_at a w.zone.0) { avail = drop w.need (zone_at a w.zone.0).avail }) no_zone refl)
        | false ↦ append-nil (waiting_in z a)
      ]

  wait-placed : (m : MapId) (n : ℕ) (first : Option ℕ) (a : Account) →
      waiting_in z a ++ [] ≡ waiting_in z (memory_placed m n first a).account
  wait-placed m n None a = append-nil (waiting_in z a)
  wait-placed m n (Some first) a = append-nil (waiting_in z a)

  wait-step : (lane : ℕ) (c : HubCall) (a : Account) → MayCall lane c a →
      waiting_in z a ++ queued_by z c (account_step lane c a).reply
      ≡ completed_by z c a ++ waiting_in z (account_step lane c a).account
  wait-step lane (AttachTag t) a may = stay a (attached t a).account ((nobody-attached t a).waits z)
  wait-step lane (CreateMap m t first_done) a may = stay a (created m t first_done a).account
      ((nobody-created m t first_done a).waits z)
  wait-step lane (DestroyMap m y) a may =
      stay a (without_zone_map a y.0 m) (get_or-set_as (λ (k : Zone). k.wait) a.zones y.0 z _ no_zone refl)
  wait-step lane (Grab m y need nowait) a may = wait-grabbed m y.0 need nowait a (in_zones a m y.0 may.2)
  wait-step lane (Release m y page) a may = wait-released m y.0 page.0 a
  wait-step lane TakeCallback a may = wait-called a.ready lane a
  wait-step lane (MemAlloc m t) a may = wait-placed m _ _ a
  wait-step lane (MemFree m) a may = append-nil (waiting_in z a)

  -- ---- the callback list

  abbrev here : List Waiter → List MapId
  here ws = maps_of (filter (λ w. w.zone.0 == z) ws)

  -- maps of one zone join the callback list
  here-joined : (y : ℕ) (rs ds : List Waiter) → All (λ w. w.zone.0 ≡ y) ds →
      here rs ++ (if y == z then maps_of ds else []) ≡ here (rs ++ ds)
  here-joined y (r ∷ rs) ds all =
      elim (eqb r.zone.0 z) as (λ v.
      maps_of (cond v (r ∷ filter (λ w. w.zone.0 == z) rs) (filter (λ w. w.zone.0 == z) rs))
      ++ (if y == z then maps_of ds else [])
      ≡ maps_of (cond v (r ∷ filter (λ w. w.zone.0 == z) (rs ++ ds)) (filter (λ w. w.zone.0 == z) (rs ++ ds)))) [
        | true ↦ ap (λ l. r.map ∷ l) (here-joined y rs ds all)
        | false ↦ here-joined y rs ds all
      ]
  here-joined y [] [] all =
      (elim (eqb y z) as (λ v. (if v then maps_of [] else []) ≡ maps_of []) [ true ↦ refl | false ↦ refl ])
  here-joined y [] (d ∷ ds) all =
      let of : d.zone.0 ≡ y = All-head (λ (w : Waiter). w.zone.0 ≡ y) d ds all in
      let rest : (if y == z then maps_of ds else []) ≡ here ds =
      here-joined y [] ds (All-tail (λ (w : Waiter). w.zone.0 ≡ y) d ds all) in
      (elim (eqb y z) as (λ v. eqb y z ≡ v → (if v then maps_of ds else []) ≡ here ds →
      (if v then maps_of (d ∷ ds) else []) ≡ here (d ∷ ds)) [
        | true ↦ λ e r. rw (eq-eqb d.zone.0 z (of ∙ eqb-true y z e)) (ap (λ l. d.map ∷ l) r)
        | false ↦ λ e r. rw (ne_eqb d.zone.0 z (λ q. eqb-false y z e (sym of ∙ q))) r
      ]) refl rest

  ready-grabbed : (m : MapId) (y need : ℕ) (nowait : Bool) (a : Account) →
      ready_in z a ++ [] ≡ called_of_zone z (grabbed m y need nowait a).reply a.ready
      ++ ready_in z (grabbed m y need nowait a).account
  ready-grabbed m y need nowait a =
      elim (leb need (free a y)) as (λ v. let o : AccountReply = if v
      then record { account = handed a m y need; reply = Granted (as_pages (take need (zone_at a y).avail)) }
      else (if nowait then record { account = a; reply = NoPages }
      else record { account = waiting_at_tail a m y need; reply = Queued (free a y) }) in
      ready_in z a ++ [] ≡ called_of_zone z o.reply a.ready ++ ready_in z o.account) [
        | true ↦ append-nil (ready_in z a)
        | false ↦
            (elim nowait as (λ v. let o : AccountReply = if v then record { account = a; reply = NoPages }
            else record { account = waiting_at_tail a m y need; reply = Queued (free a y) } in
            ready_in z a ++ [] ≡ called_of_zone z o.reply a.ready ++ ready_in z o.account) [
              | true ↦ append-nil (ready_in z a)
              | false ↦ append-nil (ready_in z a)
            ])
      ]

  ready-called : (ws : List Waiter) (lane : ℕ) (a : Account) → a.ready ≡ ws →
      here ws ++ [] ≡ called_of_zone z (taken_from ws lane a).reply ws ++ here (taken_from ws lane a).account.ready
  ready-called [] lane a is = ap here (sym is)
  ready-called (w ∷ ws) lane a is =
      elim (eqb w.map.lane.0 lane) as (λ v. let o : AccountReply = if v
      then record {
        account = handed (record a { ready = ws }) w.map w.zone.0 w.need;
        reply = Called w.map (as_pages (take w.need (zone_at a w.zone.0).avail));
      } else record {
        account = a;
        reply =
            Nothing;
      } in here (w ∷ ws) ++ [] ≡ called_of_zone z o.reply (w ∷ ws) ++ here o.account.ready) [
        | true ↦ (elim (eqb w.zone.0 z) as (λ v.
            maps_of (cond v (w ∷ filter (λ w. w.zone.0 == z) ws) (filter (λ w. w.zone.0 == z) ws)) ++ []
            ≡ (if v then w.map ∷ [] else []) ++ here ws) [
              | true ↦ append-nil (w.map ∷ here ws)
              | false ↦ append-nil (here ws)
            ])
        | false ↦ append-nil (here (w ∷ ws)) ∙ ap here (sym is)
      ]

  ready-placed : (m : MapId) (n : ℕ) (first : Option ℕ) (a : Account) →
      ready_in z a ++ [] ≡ called_of_zone z (memory_placed m n first a).reply a.ready
      ++ ready_in z (memory_placed m n first a).account
  ready-placed m n None a = append-nil (ready_in z a)
  ready-placed m n (Some first) a = append-nil (ready_in z a)

  ready-step : (lane : ℕ) (c : HubCall) (a : Account) → IsAccountWellFormed a →
      ready_in z a ++ completed_by z c a ≡ called_of_zone z (account_step lane c a).reply a.ready
      ++ ready_in z (account_step lane c a).account
  ready-step lane (AttachTag t) a well = append-nil (ready_in z a)
  ready-step lane (CreateMap m t first_done) a well =
      append-nil (ready_in z a) ∙ ap here (sym (nobody-created m t first_done a).ready)
  ready-step lane (DestroyMap m y) a well = append-nil (ready_in z a)
  ready-step lane (Grab m y need nowait) a well = ready-grabbed m y.0 need nowait a
  ready-step lane (Release m y page) a well =
      let b : Account = returned a m y.0 page.0 in
      here-joined y.0 a.ready (completed (free b y.0) (zone_at b y.0).wait)
      (completed-zone (free b y.0) y.0 (zone_at b y.0).wait
      (subst (λ ws. All (Lacks y.0) ws) (sym (came-back y.0 m page.0 a)) (well.waits y.0)))
    where
      came-back : (y : ℕ) (m : MapId) (page : ℕ) (a : Account) →
          (zone_at (returned a m y page) y).wait ≡ (zone_at a y).wait
      came-back y m page a = get_or-set_as (λ (k : Zone). k.wait) a.zones y y
          (record (zone_at a y) { avail = page ∷ (zone_at a y).avail }) no_zone refl
  ready-step lane TakeCallback a well = ready-called a.ready lane a refl
  ready-step lane (MemAlloc m t) a well = ready-placed m _ _ a
  ready-step lane (MemFree m) a well = append-nil (ready_in z a)

  -- ---- the line

  line-step : (lane : ℕ) (c : HubCall) (a : Account) → MayCall lane c a → IsAccountWellFormed a →
      zone_line z a ++ queued_by z c (account_step lane c a).reply
      ≡ called_of_zone z (account_step lane c a).reply a.ready ++ zone_line z (account_step lane c a).account
  line-step lane c a may well =
      let o : AccountReply = account_step lane c a in
      append_assoc (ready_in z a) (waiting_in z a) (queued_by z c o.reply)
      ∙ ap (λ l. ready_in z a ++ l) (wait-step lane c a may)
      ∙ sym (append_assoc (ready_in z a) (completed_by z c a) (waiting_in z o.account))
      ∙ ap (λ l. l ++ waiting_in z o.account) (ready-step lane c a well)
      ∙ append_assoc (called_of_zone z o.reply a.ready) (ready_in z o.account) (waiting_in z o.account)

  -- ---- histories

  chain : (A q Q c B C D : List MapId) → A ++ q ≡ c ++ B → B ++ Q ≡ C ++ D → A ++ (q ++ Q) ≡ (c ++ C) ++ D
  chain A q Q c B C D one rest =
      sym (append_assoc A q Q)
      ∙ ap (λ l. l ++ Q) one
      ∙ append_assoc c B Q
      ∙ ap (λ l. c ++ l) rest
      ∙ sym (append_assoc c C D)

  pub wait-history : (a : Account) (es : List HoldEntry) → IsSound a es →
      waiting_in z a ++ queued_in z es ≡ completed_in z a es ++ waiting_in z (account_of a es)
  wait-history a [] sound = append-nil (waiting_in z a)
  wait-history a (e ∷ es) sound =
      let b : Account = after_entry e a in
      chain (waiting_in z a) (queued_by z e.call e.reply) (queued_in z es) (completed_by z e.call a) (waiting_in z b)
      (completed_in z b es) (waiting_in z (account_of b es))
      (subst (λ r. waiting_in z a ++ queued_by z e.call r ≡ completed_by z e.call a ++ waiting_in z b)
      (sym sound.0.reply) (wait-step e.lane.0 e.call a sound.0.may))
      (wait-history b es sound.1)

  pub line-history : (a : Account) (es : List HoldEntry) → IsAccountWellFormed a → IsSound a es →
      zone_line z a ++ queued_in z es ≡ called_in_zone z a es ++ zone_line z (account_of a es)
  line-history a [] well sound = append-nil (zone_line z a)
  line-history a (e ∷ es) well sound =
      let b : Account = after_entry e a in
      chain (zone_line z a) (queued_by z e.call e.reply) (queued_in z es) (called_of_zone z e.reply a.ready)
      (zone_line z b)
      (called_in_zone z b es) (zone_line z (account_of b es))
      (subst (λ r. zone_line z a ++ queued_by z e.call r ≡ called_of_zone z r a.ready ++ zone_line z b)
      (sym sound.0.reply) (line-step e.lane.0 e.call a sound.0.may well))
      (line-history b es (well-step e.lane.0 e.call a sound.0.may well) sound.1)
