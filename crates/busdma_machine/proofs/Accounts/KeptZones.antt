-- Each zone keeps its lowaddr and its alignment, so a tag's zone serves it from the start.
use Rattle.std.proofs.Common.{◌≡◌, ℕ, zero, suc, ◌<◌, max, Bool, true, false, List, [], ◌∷◌, take, length, get_or}
use Rattle.std.proofs.Common.{refl, ap, ◌∙◌, subst, arith, eqb, leb, if◌then◌else◌, Option, Some, None}
use Rattle.std.proofs.lemmas.Bool.{le-leb}
use Rattle.std.proofs.lemmas.List.{length-set}
use Rattle.busdma_machine.specs.declared.name.MapId.{MapId}
use Rattle.busdma_machine.specs.declared.tags.tag.TagLimits.{TagLimits}
use Rattle.busdma_machine.specs.declared.bounce.zone.Waiter.{Waiter}
use Rattle.busdma_machine.specs.declared.bounce.zone.Grown.{Grown as GrownBy}
use Rattle.busdma_machine.specs.declared.bounce.hold.HubCall.{HubCall}
use Rattle.busdma_machine.specs.declared.bounce.hold.HubCall.TheVariants.{AttachTag, CreateMap, DestroyMap, Grab}
use Rattle.busdma_machine.specs.declared.bounce.hold.HubCall.TheVariants.{Release}
use Rattle.busdma_machine.specs.declared.bounce.hold.HubCall.TheVariants.{TakeCallback, MemAlloc, MemFree}
use Rattle.busdma_machine.specs.declared.bounce.hold.HubReply.{HubReply}
use Rattle.busdma_machine.specs.declared.bounce.hold.HubReply.TheVariants.{Nothing, Grown, Granted, Queued, NoPages}
use Rattle.busdma_machine.specs.declared.bounce.hold.HubReply.TheVariants.{Called}
use Rattle.busdma_machine.specs.declared.bounce.hold.HoldEntry.{HoldEntry}
use Rattle.busdma_machine.specs.Bounce.Account.{Account, Zone, zone_at, with_zone, no_zone, free}
use Rattle.busdma_machine.specs.Bounce.Growth.{serves_tag, new_zone, zones_for}
use Rattle.busdma_machine.specs.Bounce.Growth.{zone_for_tag, with_zone_for, grown}
use Rattle.busdma_machine.specs.Bounce.Growth.{growth_for_map, with_zone_map}
use Rattle.busdma_machine.specs.Bounce.Serving.{handed, waiting_at_tail, returned}
use Rattle.busdma_machine.specs.Bounce.AccountStep.{AccountReply, account_step, as_pages}
use Rattle.busdma_machine.specs.Bounce.AccountStep.{attached, created, grabbed, released}
use Rattle.busdma_machine.specs.Bounce.AccountStep.{called_from, memory_placed}
use Rattle.busdma_machine.specs.Bounce.History.{after_entry, account_of}
use Rattle.busdma_machine.specs.Bounce.KeptZones.{KeepsZones}
use Rattle.busdma_machine.proofs.Accounts.EditedSums.{get_or-set_as}
use Rattle.busdma_machine.proofs.Accounts.Places.{zone_of-inside}
use Rattle.busdma_machine.proofs.Accounts.WellFormed.{zones_for-longer}

pub keeps-all : (a b : Account) → b.zones ≡ a.zones → KeepsZones a b
keeps-all a b same =
    record { count = rw same (omega arith); lowaddr = λ z inside. rw same refl; alignment = λ z inside. rw same refl }

pub keeps-trans : (a b c : Account) → KeepsZones a b → KeepsZones b c → KeepsZones a c
keeps-trans a b c s t = record {
  count = omega (arith, s.count, t.count);
  lowaddr = λ z inside. t.lowaddr z (omega (arith, inside, s.count)) ∙ s.lowaddr z inside;
  alignment = λ z inside. t.alignment z (omega (arith, inside, s.count)) ∙ s.alignment z inside;
}

-- a zone is replaced by one with the same bounds
pub keeps-with_zone : (a b : Account) (z : ℕ) (k : Zone) → b.zones ≡ (with_zone a z k).zones →
    k.lowaddr ≡ (zone_at a z).lowaddr → k.alignment ≡ (zone_at a z).alignment → KeepsZones a b
keeps-with_zone a b z k is low aligned = record {
  count = rw is (omega (arith, length-set a.zones z k));
  lowaddr = λ y inside. rw is (get_or-set_as (λ (s : Zone). s.lowaddr) a.zones z y k no_zone low);
  alignment = λ y inside. rw is (get_or-set_as (λ (s : Zone). s.alignment) a.zones z y k no_zone aligned);
}

zones_for-first : (t : TagLimits) (zs : List Zone) (z : ℕ) → z < length zs →
    get_or (zones_for t zs) z no_zone ≡ get_or zs z no_zone
zones_for-first t [] z inside = absurd (omega (arith, inside))
zones_for-first t (x ∷ xs) zero inside = refl
zones_for-first t (x ∷ xs) (suc z) inside =
    elim (serves_tag t x) as (λ v. get_or (if v then xs else zones_for t xs) z no_zone ≡ get_or xs z no_zone)
    [ true ↦ refl | false ↦ zones_for-first t xs z (omega (arith, inside)) ]

pub keeps-with_zone_for : (t : TagLimits) (a : Account) → KeepsZones a (with_zone_for t a)
keeps-with_zone_for t a = record {
  count = zones_for-longer t a.zones;
  lowaddr = λ z inside. ap (λ (s : Zone). s.lowaddr) (zones_for-first t a.zones z inside);
  alignment = λ z inside. ap (λ (s : Zone). s.alignment) (zones_for-first t a.zones z inside);
}

pub keeps-grown : (a : Account) (z n : ℕ) → KeepsZones a (grown a z n)
keeps-grown a z n = keeps-with_zone a (grown a z n) z _ refl refl refl

pub keeps-attached : (t : TagLimits) (a : Account) → KeepsZones a (attached t a).account
keeps-attached t a =
    keeps-trans a (with_zone_for t a) _ (keeps-with_zone_for t a) (keeps-grown (with_zone_for t a) _ _)

keeps-either : (a b c : Account) (v : Bool) → KeepsZones a b → KeepsZones a c → KeepsZones a (if v then c else b)
keeps-either a b c true s t = t
keeps-either a b c false s t = s

keeps-made : (m : MapId) (z : ℕ) (v : Bool) (a : Account) → KeepsZones a (if v then with_zone_map a z m else a)
keeps-made m z v a =
    keeps-either a a (with_zone_map a z m) v (keeps-all a a refl)
    (keeps-with_zone a (with_zone_map a z m) z _ refl refl refl)

pub keeps-created : (m : MapId) (t : TagLimits) (first_done : Bool) (a : Account) →
    KeepsZones a (created m t first_done a).account
keeps-created m t first_done a =
    let b : Account = with_zone_for t a in
    let z : ℕ = zone_for_tag t a.zones in
    let c : Account = grown b z (growth_for_map t first_done b z).added in
    keeps-trans a c _ (keeps-trans a b c (keeps-with_zone_for t a) (keeps-grown b z _))
    (keeps-made m z (growth_for_map t first_done b z).made c)

keeps-grabbed : (m : MapId) (z need : ℕ) (nowait : Bool) (a : Account) →
    KeepsZones a (grabbed m z need nowait a).account
keeps-grabbed m z need nowait a =
    elim (leb need (free a z)) as (λ v. let o : AccountReply = if v
    then record { account = handed a m z need; reply = Granted (as_pages (take need (zone_at a z).avail)) }
    else (if nowait then record { account = a; reply = NoPages }
    else record { account = waiting_at_tail a m z need; reply = Queued (free a z) }) in KeepsZones a o.account) [
      | true ↦ keeps-with_zone a (handed a m z need) z _ refl refl refl
      | false ↦
          (elim nowait as (λ v. let o : AccountReply = if v then record { account = a; reply = NoPages }
          else record { account = waiting_at_tail a m z need; reply = Queued (free a z) } in KeepsZones a o.account) [
            | true ↦ keeps-all a a refl
            | false ↦ keeps-with_zone a (waiting_at_tail a m z need) z _ refl refl refl
          ])
    ]

keeps-called : (ws : List Waiter) (lane : ℕ) (a : Account) → KeepsZones a (called_from ws lane a).account
keeps-called [] lane a = keeps-all a a refl
keeps-called (w ∷ ws) lane a =
    elim (eqb w.map.lane.0 lane) as (λ v. let o : AccountReply = if v
    then record {
      account = handed (record a { ready = ws }) w.map w.zone.0 w.need;
      reply = Called w.map (as_pages (take w.need (zone_at a w.zone.0).avail));
    } else record {
      account = a;
      reply =
          Nothing;
    } in KeepsZones a o.account) [
      | true ↦ keeps-with_zone a (handed (record a { ready = ws }) w.map w.zone.0 w.need) w.zone.0 _ refl refl refl
      | false ↦ keeps-all a a refl
    ]

keeps-placed : (m : MapId) (n : ℕ) (first : Option ℕ) (a : Account) → KeepsZones a (memory_placed m n first a).account
keeps-placed m n None a = keeps-all a a refl
keeps-placed m n (Some first) a = keeps-all a _ refl

keeps-released : (m : MapId) (z page : ℕ) (a : Account) → KeepsZones a (released m z page a).account
keeps-released m z page a =
    let b : Account = returned a m z page in
    keeps-trans a b _ (keeps-with_zone a b z _ refl refl refl)
    (keeps-with_zone b (released m z page a).account z _ refl refl refl)

pub keeps-step : (lane : ℕ) (c : HubCall) (a : Account) → KeepsZones a (account_step lane c a).account
keeps-step lane (AttachTag t) a = keeps-attached t a
keeps-step lane (CreateMap m t first_done) a = keeps-created m t first_done a
keeps-step lane (DestroyMap m z) a = keeps-with_zone a _ z.0 _ refl refl refl
keeps-step lane (Grab m z need nowait) a = keeps-grabbed m z.0 need nowait a
keeps-step lane (Release m z page) a = keeps-released m z.0 page.0 a
keeps-step lane TakeCallback a = keeps-called a.ready lane a
keeps-step lane (MemAlloc m t) a = keeps-placed m _ _ a
keeps-step lane (MemFree m) a = keeps-all a _ refl

pub keeps-history : (a : Account) (es : List HoldEntry) → KeepsZones a (account_of a es)
keeps-history a [] = keeps-all a a refl
keeps-history a (e ∷ es) =
    keeps-trans a (after_entry e a) _ (keeps-step e.lane.0 e.call a) (keeps-history (after_entry e a) es)

-- the zone of a tag serves it once it is looked up or made
serves-new : (t : TagLimits) → serves_tag t (new_zone t) ≡ true
serves-new t =
    rw (le-leb t.alignment (max t.alignment 4096) (omega arith), le-leb t.lowaddr.0 t.lowaddr.0 (omega arith)) refl

serves-found : (t : TagLimits) (zs : List Zone) → serves_tag t (get_or (zones_for t zs) (zone_for_tag t zs) no_zone)
    ≡ true
serves-found t [] = serves-new t
serves-found t (z ∷ zs) =
    (elim (serves_tag t z) as (λ v. serves_tag t z ≡ v →
    serves_tag t (get_or (z ∷ (if v then zs else zones_for t zs)) (if v then 0 else suc (zone_for_tag t zs)) no_zone)
    ≡ true) [
      | true ↦ λ e. e
      | false ↦ λ e. serves-found t zs
    ]) refl

-- the zone of a tag serves it as long as its bounds stay the same
serves-kept : (t : TagLimits) (a b : Account) (z : ℕ) → z < length a.zones → KeepsZones a b →
    serves_tag t (zone_at a z) ≡ true → serves_tag t (zone_at b z) ≡ true
serves-kept t a b z inside kept serves = rw (kept.lowaddr z inside, kept.alignment z inside) serves

serves-after : (t : TagLimits) (a b : Account) (es : List HoldEntry) → KeepsZones (with_zone_for t a) b →
    serves_tag t (zone_at (account_of b es) (zone_for_tag t a.zones)) ≡ true
serves-after t a b es kept =
    serves-kept t (with_zone_for t a) (account_of b es) (zone_for_tag t a.zones) (zone_of-inside t a.zones)
    (keeps-trans (with_zone_for t a) b _ kept (keeps-history b es)) (serves-found t a.zones)

-- the zone that a reply names
abbrev told : HubReply → ℕ
told (Grown g) = g.zone.0
told _ = 0

pub serves-attached : (t : TagLimits) (a : Account) (g : GrownBy) (es : List HoldEntry) →
    (attached t a).reply ≡ Grown g → serves_tag t (zone_at (account_of (attached t a).account es) g.zone.0) ≡ true
serves-attached t a g es is =
    subst (λ z. serves_tag t (zone_at (account_of (attached t a).account es) z) ≡ true) (ap told is)
    (serves-after t a (attached t a).account es (keeps-grown (with_zone_for t a) _ _))

pub serves-created : (m : MapId) (t : TagLimits) (first_done : Bool) (a : Account) (g : GrownBy)
    (es : List HoldEntry) → (created m t first_done a).reply ≡ Grown g →
    serves_tag t (zone_at (account_of (created m t first_done a).account es) g.zone.0) ≡ true
serves-created m t first_done a g es is =
    let b : Account = with_zone_for t a in
    let z : ℕ = zone_for_tag t a.zones in
    let growth : GrownBy = growth_for_map t first_done b z in
    subst (λ z. serves_tag t (zone_at (account_of (created m t first_done a).account es) z) ≡ true) (ap told is)
    (serves-after t a (created m t first_done a).account es
    (keeps-trans b (grown b z growth.added) _ (keeps-grown b z growth.added)
    (keeps-made m z growth.made (grown b z growth.added))))
