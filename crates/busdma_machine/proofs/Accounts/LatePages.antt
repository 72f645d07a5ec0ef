-- If maps wait, the pages that are promised to no map, or to a map after the first, are no more than came late.
use Rattle.std.proofs.Common.{◌≡◌, ℕ, zero, suc, ◌+◌, ◌-◌, ◌<◌, ◌≤◌, Bool, true, false, List, [], ◌∷◌, ◌++◌, take}
use Rattle.std.proofs.Common.{drop, length, get_or, set, refl, sym, ap, subst, arith, eqb, leb, if◌then◌else◌}
use Rattle.std.proofs.Common.{Option, Some, None, ◌==◌, inl, inr, All}
use Rattle.std.specs.List.{sum_by}
use Rattle.std.proofs.lemmas.Bool.{eqb-true, eqb-false, leb-true, leb-false}
use Rattle.std.proofs.lemmas.Bool.Decides.{eqb_tells}
use Rattle.std.proofs.lemmas.List.{get_or-set_other, length-append, length-drop}
use Rattle.std.proofs.lemmas.List.Elements.{All-head}
use Rattle.std.proofs.lemmas.List.Sums.{sum_by-cons, sum_by-append}
use Rattle.busdma_machine.specs.declared.machine.address.Pa.{Pa}
use Rattle.busdma_machine.specs.declared.name.MapId.{MapId}
use Rattle.busdma_machine.specs.declared.tags.tag.TagLimits.{TagLimits}
use Rattle.busdma_machine.specs.declared.bounce.zone.Waiter.{Waiter}
use Rattle.busdma_machine.specs.declared.bounce.zone.Grown.{Grown as GrownBy}
use Rattle.busdma_machine.specs.declared.bounce.hold.HubCall.{HubCall}
use Rattle.busdma_machine.specs.declared.bounce.hold.HubCall.TheVariants.{AttachTag, CreateMap, DestroyMap, Grab}
use Rattle.busdma_machine.specs.declared.bounce.hold.HubCall.TheVariants.{Release}
use Rattle.busdma_machine.specs.declared.bounce.hold.HubCall.TheVariants.{TakeCallback, MemAlloc, MemFree}
use Rattle.busdma_machine.specs.declared.bounce.hold.HubReply.{HubReply}
use Rattle.busdma_machine.specs.declared.bounce.hold.HubReply.TheVariants.{Nothing, Grown, Granted, Queued, NoPages}
use Rattle.busdma_machine.specs.declared.bounce.hold.HubReply.TheVariants.{Called, Run, NoRun}
use Rattle.busdma_machine.specs.declared.bounce.hold.HoldEntry.{HoldEntry}
use Rattle.busdma_machine.specs.Bounce.Account.{Account, Zone, zone_at, no_zone, free, reserved, active, total}
use Rattle.busdma_machine.specs.Bounce.AccountStep.{AccountReply, account_step, as_pages}
use Rattle.busdma_machine.specs.Bounce.AccountStep.{attached, created, grabbed, released}
use Rattle.busdma_machine.specs.Bounce.AccountStep.{called_from, memory_placed}
use Rattle.busdma_machine.specs.Bounce.Conditions.{MayCall, times_held}
use Rattle.busdma_machine.specs.Bounce.Growth.{with_zone_for, zone_for_tag, grown}
use Rattle.busdma_machine.specs.Bounce.Growth.{growth_for_tag, growth_for_map, with_zone_map}
use Rattle.busdma_machine.specs.Bounce.Growth.{without_zone_map}
use Rattle.busdma_machine.specs.Bounce.History.{IsOpening, IsSound, after_entry, account_of}
use Rattle.busdma_machine.specs.Bounce.LatePages.{grown_by, late_with, late_from, late_pages, to_call}
use Rattle.busdma_machine.specs.Bounce.Serving.{handed, waiting_at_tail, left_waiting, promised}
use Rattle.busdma_machine.specs.Bounce.WellFormed.{Lacks, IsAccountWellFormed}
use Rattle.busdma_machine.proofs.Accounts.EditedSums.{get_or-set_as}
use Rattle.busdma_machine.proofs.Accounts.Counts.{handed-other, handed-reserved, handed-zone, head-inside}
use Rattle.busdma_machine.proofs.Accounts.Counts.{in_zones, promised-le, queued-other, queued-reserved, queued-zone}
use Rattle.busdma_machine.proofs.Accounts.Counts.{release-avail, release-other, release-reserved, release-wait}
use Rattle.busdma_machine.proofs.Accounts.Counts.{room_now}
use Rattle.busdma_machine.proofs.Accounts.Counts.{shorter-enough, shorter-other, shorter-reserved}
use Rattle.busdma_machine.proofs.Accounts.Names.{get_or-zones_for}
use Rattle.busdma_machine.proofs.Accounts.Order.{nobody-attached, nobody-created}
use Rattle.busdma_machine.proofs.Accounts.WellFormed.{account-well, held-inside, well-opening, well-step}

-- if maps wait, the free pages and the pages that are promised after the first map are no more than n
abbrev Spare : ℕ → ℕ → List Waiter → Type 0
Spare n f [] = Unit {0}
Spare n f (w ∷ ws) = f + sum_by (λ (x : Waiter). x.have) ws ≤ n

-- the same maps wait, and the free pages grew by no more than the reply says
kept : (z n f g : ℕ) (r : HubReply) (ws vs : List Waiter) → vs ≡ ws → g ≤ f + grown_by z r → Spare n f ws →
    Spare (late_with z n r ws) g vs
kept z n f g r ws vs same few h = subst (λ k. Spare (late_with z n r ws) g k) (sym same) (by ws h)
  where
    by : (ws : List Waiter) → Spare n f ws → Spare (late_with z n r ws) g ws
    by [] h = tt
    by (w ∷ ws) h = omega (arith, few, h)

-- one more map waits, with all free pages
pushed : (z n f g : ℕ) (r : HubReply) (ws : List Waiter) (x : Waiter) → g ≡ 0 → x.have ≡ f → Spare n f ws →
    Spare (late_with z n r ws) g (ws ++ x ∷ [])
pushed z n f g r [] x none all h = omega (arith, none)
pushed z n f g r (w ∷ ws) x none all h =
    omega (
      arith,
      none,
      all,
      h,
      sum_by-append (λ (y : Waiter). y.have) ws (x ∷ []),
      sum_by-cons (λ (y : Waiter). y.have) x [],
    )

-- how many pages are promised to the maps after the first
abbrev behind : List Waiter → ℕ
behind [] = 0
behind (w ∷ ws) = sum_by (λ (x : Waiter). x.have) ws

behind-le : (ws : List Waiter) → behind ws ≤ sum_by (λ (x : Waiter). x.have) ws
behind-le [] = omega arith
behind-le (w ∷ ws) = omega (arith, sum_by-cons (λ (x : Waiter). x.have) w ws)

-- if maps still wait after serving, no page is free and none is promised after the first map
left-spare : (n pages f : ℕ) (ws : List Waiter) → f + promised pages ws ≡ pages → behind ws ≤ n →
    Spare n f (left_waiting pages ws)
left-spare n pages f [] all h = tt
left-spare n pages f (w ∷ ws) all h =
    let k : ℕ = w.need - w.have in
    (elim (leb k pages) as (λ v. leb k pages ≡ v →
    f + (if v then k + promised (pages - k) ws else pages) ≡ pages →
    Spare n f (if v then left_waiting (pages - k) ws else record w { have = w.have + pages } ∷ ws)) [
      | true ↦ λ t e. left-spare n (pages - k) f ws (omega (arith, e, leb-true k pages t))
          (omega (arith, h, behind-le ws))
      | false ↦ λ t e. omega (arith, e, h)
    ]) refl all

served-spare : (z n f g pages : ℕ) (r : HubReply) (ws : List Waiter) → g + promised pages ws ≡ pages → Spare n f ws →
    Spare (late_with z n r ws) g (left_waiting pages ws)
served-spare z n f g pages r [] all h = tt
served-spare z n f g pages r (w ∷ ws) all h =
    left-spare (n + grown_by z r) pages g (w ∷ ws) all (omega (arith, h))

-- ---- each call

take-short : {X : Type 0} (n : ℕ) (xs : List X) → length (take n xs) ≤ n
take-short zero xs = omega arith
take-short (suc n) [] = omega arith
take-short (suc n) (x ∷ xs) = omega (arith, take-short n xs)

-- a look-up at the place of an edit, whether the place is in the list or not
set-there : {X : Type 0} (P : X → Type 0) (xs : List X) (i : ℕ) (y d : X) → P y → P (get_or xs i d) →
    P (get_or (set xs i y) i d)
set-there P [] i y d new old = old
set-there P (x ∷ xs) zero y d new old = new
set-there P (x ∷ xs) (suc i) y d new old = set-there P xs i y d new old

-- the account after a call with a reply keeps the bound
abbrev Keeps : ℕ → Account → HubReply → Account → Type 0
Keeps z a r b = (n : ℕ) → Spare n (free a z) (zone_at a z).wait →
    Spare (late_with z n r (zone_at a z).wait) (free b z) (zone_at b z).wait

like : (z : ℕ) (a b : Account) (r : HubReply) → (zone_at b z).wait ≡ (zone_at a z).wait →
    free b z ≤ free a z + grown_by z r → Keeps z a r b
like z a b r same few n h = kept z n (free a z) (free b z) r (zone_at a z).wait (zone_at b z).wait same few h

module _ (z : ℕ) where
  -- growth brings no more pages than its reply says
  grown-room : (b : Account) (y n : ℕ) →
      length (zone_at (grown b y n) z).avail ≤ length (zone_at b z).avail + (if y == z then n else 0)
  grown-room b y n =
      let after : Zone = record (zone_at b y) { avail = (zone_at b y).avail ++ take n b.bank } in
      (elim (eqb y z) as (λ v. eqb y z ≡ v →
      length (zone_at (grown b y n) z).avail ≤ length (zone_at b z).avail + (if v then n else 0)) [
        | true ↦ λ e. subst (λ x. length (zone_at (grown b y n) x).avail ≤ length (zone_at b x).avail + n)
            (eqb-true y z e)
            (set-there (λ (k : Zone). length k.avail ≤ length (zone_at b y).avail + n) b.zones y after no_zone
            (omega (arith, length-append (zone_at b y).avail (take n b.bank), take-short n b.bank)) (omega arith))
        | false ↦ λ e. omega (
          arith,
          ap (λ (k : Zone). length k.avail) (get_or-set_other b.zones y z after no_zone (λ q. eqb-false y z e (sym q))),
        )
      ]) refl

  attached-keeps : (t : TagLimits) (a : Account) → Keeps z a (attached t a).reply (attached t a).account
  attached-keeps t a =
      let b : Account = with_zone_for t a in
      let y : ℕ = zone_for_tag t a.zones in
      let g : GrownBy = growth_for_tag t b y in
      like z a (attached t a).account (Grown g) ((nobody-attached t a).waits z)
      (omega (
        arith,
        grown-room b y g.added,
        get_or-zones_for t (λ (k : Zone). length k.avail) refl a.zones z,
        (nobody-attached t a).reserved z,
      ))

  created-keeps : (m : MapId) (t : TagLimits) (first_done : Bool) (a : Account) →
      Keeps z a (created m t first_done a).reply (created m t first_done a).account
  created-keeps m t first_done a =
      let b : Account = with_zone_for t a in
      let y : ℕ = zone_for_tag t a.zones in
      let g : GrownBy = growth_for_map t first_done b y in
      let c : Account = grown b y g.added in
      like z a (created m t first_done a).account (Grown g) ((nobody-created m t first_done a).waits z)
      (omega (
        arith,
        grown-room b y g.added,
        either c y g.made,
        get_or-zones_for t (λ (k : Zone). length k.avail) refl a.zones z,
        (nobody-created m t first_done a).reserved z,
      ))
    where
      either : (c : Account) (y : ℕ) (v : Bool) →
          length (zone_at (if v then with_zone_map c y m else c) z).avail ≡ length (zone_at c z).avail
      either c y true = get_or-set_as (λ (k : Zone). length k.avail) c.zones y z
          (record (zone_at c y) { maps = (zone_at c y).maps ++ m ∷ [] }) no_zone refl
      either c y false = refl

  without_map-keeps : (m : MapId) (y : ℕ) (a : Account) → Keeps z a Nothing (without_zone_map a y m)
  without_map-keeps m y a =
      let wait : (zone_at (without_zone_map a y m) z).wait ≡ (zone_at a z).wait =
      get_or-set_as (λ (k : Zone). k.wait) a.zones y z _ no_zone refl in
      let avail : (zone_at (without_zone_map a y m) z).avail ≡ (zone_at a z).avail =
      get_or-set_as (λ (k : Zone). k.avail) a.zones y z _ no_zone refl in
      let same : reserved (without_zone_map a y m) z ≡ reserved a z = rw wait refl in
      like z a (without_zone_map a y m) Nothing wait (omega (arith, same, ap (λ (k : List ℕ). length k) avail))

  handed-keeps : (a : Account) (m : MapId) (y need : ℕ) (r : HubReply) → y < length a.zones → need ≤ free a y →
      Keeps z a r (handed a m y need)
  handed-keeps a m y need r inside enough =
      like z a (handed a m y need) r
      (get_or-set_as (λ (k : Zone). k.wait) a.zones y z
      (record (zone_at a y) { avail = drop need (zone_at a y).avail }) no_zone refl)
      (omega (arith, handed-reserved a m y need inside enough z, room))
    where
      room : length (zone_at (handed a m y need) z).avail ≤ length (zone_at a z).avail
      room = elim (eqb_tells z y)
          as (λ _. length (zone_at (handed a m y need) z).avail ≤ length (zone_at a z).avail) [
            | inl h ↦ subst (λ x. length (zone_at (handed a m y need) x).avail ≤ length (zone_at a x).avail) (sym h.1)
                (omega (
                  arith,
                  ap (λ (k : Zone). length k.avail) (handed-zone a m y need inside enough),
                  length-drop need (zone_at a y).avail,
                ))
            | inr h ↦ omega (
              arith,
              ap (λ (k : Zone). length k.avail) (handed-other a m y need inside enough z h.1).zone,
            )
          ]

  queued-keeps : (a : Account) (m : MapId) (y need : ℕ) → y < length a.zones → IsAccountWellFormed a → free a y < need →
      Keeps z a (Queued (free a y)) (waiting_at_tail a m y need)
  queued-keeps a m y need inside well short =
      elim (eqb_tells z y) as (λ _. Keeps z a (Queued (free a y)) (waiting_at_tail a m y need)) [
        | inl h ↦ subst (λ x. Keeps x a (Queued (free a y)) (waiting_at_tail a m y need)) (sym h.1) here
        | inr h ↦
            let other = queued-other a m y need inside well short z h.1 in
            like z a (waiting_at_tail a m y need) (Queued (free a y)) (ap (λ (k : Zone). k.wait) other.zone)
            (omega (arith, other.reserved, ap (λ (k : Zone). length k.avail) other.zone))
      ]
    where
      here : Keeps y a (Queued (free a y)) (waiting_at_tail a m y need)
      here n h =
          let waiter : Waiter = record { map = m; zone = record { 0 = y }; need = need; have = free a y } in
          let is = queued-zone a m y need inside well short in
          let none : free (waiting_at_tail a m y need) y ≡ 0 =
          omega (
            arith,
            queued-reserved a m y need inside well short,
            well.enough y,
            ap (λ (k : Zone). length k.avail) is,
          ) in
          subst (λ ws. Spare (late_with y n (Queued (free a y)) (zone_at a y).wait)
          (free (waiting_at_tail a m y need) y) ws)
          (sym (ap (λ (k : Zone). k.wait) is))
          (pushed y n (free a y) (free (waiting_at_tail a m y need) y) (Queued (free a y)) (zone_at a y).wait waiter
          none refl h)

  grabbed-keeps : (m : MapId) (y need : ℕ) (nowait : Bool) (a : Account) → y < length a.zones → IsAccountWellFormed a →
      Keeps z a (grabbed m y need nowait a).reply (grabbed m y need nowait a).account
  grabbed-keeps m y need nowait a inside well =
      (elim (leb need (free a y)) as (λ v. leb need (free a y) ≡ v →
      (let o : AccountReply = if v then record {
        account = handed a m y need;
        reply = Granted (as_pages (take need (zone_at a y).avail));
      }
      else (if nowait then record { account = a; reply = NoPages }
      else record { account = waiting_at_tail a m y need; reply = Queued (free a y) }) in
      Keeps z a o.reply o.account)) [
        | true ↦ λ e. handed-keeps a m y need (Granted (as_pages (take need (zone_at a y).avail))) inside
            (leb-true need (free a y) e)
        | false ↦ λ e.
            (elim nowait as (λ v. let o : AccountReply = if v then record { account = a; reply = NoPages }
            else record { account = waiting_at_tail a m y need; reply = Queued (free a y) } in
            Keeps z a o.reply o.account) [
              | true ↦ like z a a NoPages refl (omega arith)
              | false ↦ queued-keeps a m y need inside well (leb-false need (free a y) e)
            ])
      ]) refl

  released-keeps : (m : MapId) (y page : ℕ) (a : Account) (r : HubReply) → y < length a.zones →
      times_held m y page a ≡ 1 → IsAccountWellFormed a → Keeps z a r (released m y page a).account
  released-keeps m y page a r inside held well =
      elim (eqb_tells z y) as (λ _. Keeps z a r (released m y page a).account) [
        | inl h ↦ subst (λ x. Keeps x a r (released m y page a).account) (sym h.1) here
        | inr h ↦
            let other = release-other a m y page inside held well z h.1 in
            like z a (released m y page a).account r (ap (λ (k : Zone). k.wait) other.zone)
            (omega (arith, other.reserved, ap (λ (k : Zone). length k.avail) other.zone))
      ]
    where
      b : Account
      b = (released m y page a).account

      here : Keeps y a r b
      here n h =
          let room : ℕ = room_now a m y page inside held well in
          let all : free b y + promised room (zone_at a y).wait ≡ room =
          omega (
            arith,
            release-reserved a m y page inside held well,
            ap (λ (k : List ℕ). length k) (release-avail a m y page inside held well),
            promised-le room (zone_at a y).wait,
            well.enough y,
          ) in
          subst (λ ws. Spare (late_with y n r (zone_at a y).wait) (free b y) ws)
          (sym (release-wait a m y page inside held well))
          (served-spare y n (free a y) (free b y) room r (zone_at a y).wait all h)

  called-keeps : (ws : List Waiter) (lane : ℕ) (a : Account) → a.ready ≡ ws → IsAccountWellFormed a →
      Keeps z a (called_from ws lane a).reply (called_from ws lane a).account
  called-keeps [] lane a is well = like z a a Nothing refl (omega arith)
  called-keeps (w ∷ ws) lane a is well =
      elim (eqb w.map.lane.0 lane) as (λ v. let o : AccountReply = if v
      then record {
        account = handed (record a { ready = ws }) w.map w.zone.0 w.need;
        reply = Called w.map (as_pages (take w.need (zone_at a w.zone.0).avail));
      } else record {
        account = a;
        reply =
            Nothing;
      } in Keeps z a o.reply o.account) [
        | true ↦ taken
        | false ↦ like z a a Nothing refl (omega arith)
      ]
    where
      b : Account
      b = record a { ready = ws }

      r : HubReply
      r = Called w.map (as_pages (take w.need (zone_at a w.zone.0).avail))

      inside : w.zone.0 < length a.zones
      inside = head-inside a w ws is well

      enough : w.need ≤ free b w.zone.0
      enough = shorter-enough a w ws is well

      here : free (handed b w.map w.zone.0 w.need) w.zone.0 ≤ free a w.zone.0
      here =
          omega (
            arith,
            handed-reserved b w.map w.zone.0 w.need inside enough w.zone.0,
            ap (λ (k : Zone). length k.avail) (handed-zone b w.map w.zone.0 w.need inside enough),
            length-drop w.need (zone_at a w.zone.0).avail,
            shorter-reserved a w ws is well,
            well.enough w.zone.0,
          )

      few : free (handed b w.map w.zone.0 w.need) z ≤ free a z
      few = elim (eqb_tells z w.zone.0) as (λ _. free (handed b w.map w.zone.0 w.need) z ≤ free a z) [
        | inl h ↦ subst (λ x. free (handed b w.map w.zone.0 w.need) x ≤ free a x) (sym h.1) here
        | inr h ↦ omega (
          arith,
          handed-reserved b w.map w.zone.0 w.need inside enough z,
          ap (λ (k : Zone). length k.avail) (handed-other b w.map w.zone.0 w.need inside enough z h.1).zone,
          shorter-other a w ws is well z h.1,
        )
      ]

      taken : Keeps z a r (handed b w.map w.zone.0 w.need)
      taken = like z a (handed b w.map w.zone.0 w.need) r
          (get_or-set_as (λ (k : Zone). k.wait) a.zones w.zone.0 z
          (record (zone_at a w.zone.0) { avail = drop w.need (zone_at a w.zone.0).avail }) no_zone refl)
          (omega (arith, few))

  placed-keeps : (m : MapId) (n : ℕ) (first : Option ℕ) (a : Account) →
      Keeps z a (memory_placed m n first a).reply (memory_placed m n first a).account
  placed-keeps m n None a = like z a (memory_placed m n None a).account NoRun refl (omega arith)
  placed-keeps m n (Some first) a =
      like z a (memory_placed m n (Some first) a).account (Run (record { 0 = first }) n) refl (omega arith)

  step-keeps : (lane : ℕ) (c : HubCall) (a : Account) → MayCall lane c a → IsAccountWellFormed a →
      Keeps z a (account_step lane c a).reply (account_step lane c a).account
  step-keeps lane (AttachTag t) a may well = attached-keeps t a
  step-keeps lane (CreateMap m t first_done) a may well = created-keeps m t first_done a
  step-keeps lane (DestroyMap m y) a may well = without_map-keeps m y.0 a
  step-keeps lane (Grab m y need nowait) a may well = grabbed-keeps m y.0 need nowait a (in_zones a m y.0 may.2) well
  step-keeps lane (Release m y page) a may well =
      released-keeps m y.0 page.0 a (released m y.0 page.0 a).reply (held-inside a m y.0 page.0 may.1 well) may.1 well
  step-keeps lane TakeCallback a may well = called-keeps a.ready lane a refl well
  step-keeps lane (MemAlloc m t) a may well = placed-keeps m _ _ a
  step-keeps lane (MemFree m) a may well = like z a (account_step lane (MemFree m) a).account Nothing refl (omega arith)

  -- ---- histories

  late-history : (a : Account) (es : List HoldEntry) (n : ℕ) → IsAccountWellFormed a → IsSound a es →
      Spare n (free a z) (zone_at a z).wait →
      Spare (late_from z n a es) (free (account_of a es) z) (zone_at (account_of a es) z).wait
  late-history a [] n well sound h = h
  late-history a (e ∷ es) n well sound h =
      let b : Account = after_entry e a in
      late-history b es (late_with z n e.reply (zone_at a z).wait) (well-step e.lane.0 e.call a sound.0.may well)
      sound.1
      (subst (λ r. Spare (late_with z n r (zone_at a z).wait) (free b z) (zone_at b z).wait) (sym sound.0.reply)
      (step-keeps e.lane.0 e.call a sound.0.may well n h))

  module _ (a : Account) (es : List HoldEntry) (first : Waiter) (rest : List Waiter) (opening : IsOpening a)
      (sound : IsSound a es) (is : (zone_at (account_of a es) z).wait ≡ first ∷ rest) where
    abbrev b : Account
    b = account_of a es

    well : IsAccountWellFormed b
    well = account-well a es opening sound

    none-waits : Spare 0 (free a z) (zone_at a z).wait
    none-waits = rw opening.zones tt

    pub spare-late : free b z + sum_by (λ (w : Waiter). w.have) rest ≤ late_pages z a es
    spare-late =
        subst (λ ws. Spare (late_pages z a es) (free b z) ws) is
        (late-history a es 0 (well-opening a opening) sound none-waits)

    lacks : first.have < first.need
    lacks = (All-head (Lacks z) first rest (subst (λ ws. All (Lacks z) ws) is (well.waits z))).lacks

    pub short-of : total b z < first.need + active b z + to_call z b + late_pages z a es
    short-of =
        omega (
          arith,
          spare-late,
          lacks,
          well.enough z,
          ap (λ (ws : List Waiter). sum_by (λ w. w.have) ws) is,
          sum_by-cons (λ (w : Waiter). w.have) first rest,
        )

    pub overtakes-late : (m : MapId) (need : ℕ) (nowait : Bool) (pages : List Pa) →
        (grabbed m z need nowait b).reply ≡ Granted pages → need ≤ late_pages z a es
    overtakes-late m need nowait pages got = by (leb need (free b z)) refl got
      where
        by : (v : Bool) → leb need (free b z) ≡ v →
            (let o : AccountReply = if v then record {
              account = handed b m z need;
              reply = Granted (as_pages (take need (zone_at b z).avail));
            }
            else (if nowait then record { account = b; reply = NoPages }
            else record { account = waiting_at_tail b m z need; reply = Queued (free b z) }) in o.reply
            ≡ Granted pages) →
            need ≤ late_pages z a es
        by true e g = omega (arith, leb-true need (free b z) e, spare-late)
        by false e g = absurd (refused nowait g)
          where
            refused : (v : Bool) → (let o : AccountReply = if v then record { account = b; reply = NoPages }
                else record { account = waiting_at_tail b m z need; reply = Queued (free b z) } in o.reply
                ≡ Granted pages) → ⊥
            refused true q = absurd (cc)
            refused false q = absurd (cc)
