-- Every account that a sound history leads to is well-formed.
use Rattle.std.proofs.Common.{◌≡◌, ℕ, ◌+◌, ◌<◌, ◌≤◌, Bool, true, false, List, [], ◌∷◌, take, drop, length, refl, ◌∙◌}
use Rattle.std.proofs.Common.{arith, eqb, leb, if◌then◌else◌, Option, Some, None}
use Rattle.std.proofs.lemmas.Bool.{leb-true, leb-false}
use Rattle.std.proofs.lemmas.List.{length-append, length-set}
use Rattle.std.proofs.lemmas.List.Elements.{All-nil}
use Rattle.busdma_machine.specs.declared.name.MapId.{MapId}
use Rattle.busdma_machine.specs.declared.tags.tag.TagLimits.{TagLimits}
use Rattle.busdma_machine.specs.declared.bounce.zone.Waiter.{Waiter}
use Rattle.busdma_machine.specs.declared.bounce.hold.HubCall.{HubCall}
use Rattle.busdma_machine.specs.declared.bounce.hold.HubCall.TheVariants.{AttachTag, CreateMap, DestroyMap, Grab}
use Rattle.busdma_machine.specs.declared.bounce.hold.HubCall.TheVariants.{Release}
use Rattle.busdma_machine.specs.declared.bounce.hold.HubCall.TheVariants.{TakeCallback, MemAlloc, MemFree}
use Rattle.busdma_machine.specs.declared.bounce.hold.HubReply.TheVariants.{Nothing, Granted, Queued, NoPages, Called}
use Rattle.busdma_machine.specs.declared.bounce.hold.HoldEntry.{HoldEntry}
use Rattle.busdma_machine.specs.Bounce.Account.{Account, Zone, zone_at, with_zone, no_zone, free, reserved, active}
use Rattle.busdma_machine.specs.Bounce.Account.{total}
use Rattle.busdma_machine.specs.Bounce.Growth.{serves_tag, zones_for, zone_for_tag}
use Rattle.busdma_machine.specs.Bounce.Growth.{with_zone_for, added, grown, maxpages}
use Rattle.busdma_machine.specs.Bounce.Growth.{wanted_by_map}
use Rattle.busdma_machine.specs.Bounce.Growth.{with_zone_map, without_zone_map}
use Rattle.busdma_machine.specs.Bounce.Serving.{handed, waiting_at_tail}
use Rattle.busdma_machine.specs.Bounce.MemoryRuns.{with_memory_run, without_memory_run}
use Rattle.busdma_machine.specs.Bounce.AccountStep.{AccountReply, account_step, as_pages}
use Rattle.busdma_machine.specs.Bounce.AccountStep.{attached, created, grabbed}
use Rattle.busdma_machine.specs.Bounce.AccountStep.{called_from, memory_placed}
use Rattle.busdma_machine.specs.Bounce.Conditions.{MayCall, IsIdle, times_held}
use Rattle.busdma_machine.specs.Bounce.History.{IsOpening, IsSound, after_entry, account_of}
use Rattle.busdma_machine.specs.Bounce.WellFormed.{Lacks, IsAccountWellFormed}
use Rattle.busdma_machine.proofs.Accounts.EditedSums.{get_or-set_as, get_or-set_more}
use Rattle.busdma_machine.proofs.Accounts.Names.{get_or-zones_for}
use Rattle.busdma_machine.proofs.Accounts.Counts.{in_zones, handed-well, queued-well, held-active, release-well}
use Rattle.busdma_machine.proofs.Accounts.Counts.{shorter}
use Rattle.busdma_machine.proofs.Accounts.Counts.{shorter-well, shorter-enough, head-inside}

-- a change that keeps the held pages and the lists of maps, and leaves no zone with fewer pages in its list
pub well-like : (a b : Account) → b.held ≡ a.held → b.ready ≡ a.ready → length a.zones ≤ length b.zones
    → ((y : ℕ) → (zone_at b y).wait ≡ (zone_at a y).wait) →
    ((y : ℕ) → length (zone_at a y).avail ≤ length (zone_at b y).avail) → IsAccountWellFormed a → IsAccountWellFormed b
well-like a b held ready longer wait avail well =
    let same : (y : ℕ) → reserved b y ≡ reserved a y = (λ y. rw (wait y, ready) refl) in
    record {
      inside = λ y past. (let e : active b y ≡ active a y = rw held refl in e
          ∙ well.inside y (omega (arith, longer, past)));
      enough = λ y. omega (arith, same y, avail y, well.enough y);
      waits = λ y. rw (wait y) (well.waits y);
      wanted = rw ready well.wanted;
    }

pub zones_for-longer : (t : TagLimits) (zs : List Zone) → length zs ≤ length (zones_for t zs)
zones_for-longer t [] = omega arith
zones_for-longer t (z ∷ zs) =
    elim (serves_tag t z) as (λ v. length (z ∷ zs) ≤ length (z ∷ (if v then zs else zones_for t zs)))
    [ true ↦ omega arith | false ↦ omega (arith, zones_for-longer t zs) ]

pub well-with_zone_for : (t : TagLimits) (a : Account) → IsAccountWellFormed a → IsAccountWellFormed (with_zone_for t a)
well-with_zone_for t a well =
    well-like a (with_zone_for t a) refl refl (zones_for-longer t a.zones)
    (λ y. get_or-zones_for t (λ (z : Zone). z.wait) refl a.zones y)
    (λ y. omega (arith, get_or-zones_for t (λ (z : Zone). length z.avail) refl a.zones y)) well

-- a zone is replaced by one that has the same waiting maps and no fewer pages
pub well-with_zone : (a : Account) (bank : List ℕ) (z : ℕ) (k : Zone) → k.wait ≡ (zone_at a z).wait →
    length (zone_at a z).avail ≤ length k.avail → IsAccountWellFormed a →
    IsAccountWellFormed (with_zone (record a { bank = bank }) z k)
well-with_zone a bank z k wait avail well =
    well-like a (with_zone (record a { bank = bank }) z k) refl refl (omega (arith, length-set a.zones z k))
    (λ y. get_or-set_as (λ (s : Zone). s.wait) a.zones z y k no_zone wait)
    (λ y. get_or-set_more (λ (s : Zone). length s.avail) a.zones z y k no_zone avail) well

pub well-grown : (a : Account) (z n : ℕ) → IsAccountWellFormed a → IsAccountWellFormed (grown a z n)
well-grown a z n well =
    well-with_zone a (drop n a.bank) z _ refl (omega (arith, length-append (zone_at a z).avail (take n a.bank))) well

pub well-with_map : (a : Account) (z : ℕ) (m : MapId) → IsAccountWellFormed a →
    IsAccountWellFormed (with_zone_map a z m)
well-with_map a z m well = well-with_zone a a.bank z _ refl (omega arith) well

pub well-without_map : (a : Account) (z : ℕ) (m : MapId) → IsAccountWellFormed a →
    IsAccountWellFormed (without_zone_map a z m)
well-without_map a z m well = well-with_zone a a.bank z _ refl (omega arith) well

pub well-attached : (t : TagLimits) (a : Account) → IsAccountWellFormed a → IsAccountWellFormed (attached t a).account
well-attached t a well = well-grown (with_zone_for t a) _ _ (well-with_zone_for t a well)

well-either : (b c : Account) (v : Bool) → IsAccountWellFormed b → IsAccountWellFormed c →
    IsAccountWellFormed (if v then c else b)
well-either b c true s t = t
well-either b c false s t = s

pub well-created : (m : MapId) (t : TagLimits) (first_done : Bool) (a : Account) → IsAccountWellFormed a →
    IsAccountWellFormed (created m t first_done a).account
well-created m t first_done a well =
    let b : Account = with_zone_for t a in
    let z : ℕ = zone_for_tag t a.zones in
    let c : Account = grown b z (added b z (wanted_by_map t first_done (zone_at b z) (total b z) (maxpages t a))) in
    let c_well : IsAccountWellFormed c = well-grown b z _ (well-with_zone_for t a well) in
    well-either c (with_zone_map c z m) _ c_well (well-with_map c z m c_well)

pub well-grabbed : (m : MapId) (z need : ℕ) (nowait : Bool) (a : Account) → IsIdle m z a → IsAccountWellFormed a →
    IsAccountWellFormed (grabbed m z need nowait a).account
well-grabbed m z need nowait a idle well =
    (elim (leb need (free a z)) as (λ v. leb need (free a z) ≡ v →
    (let o : AccountReply = if v then record {
      account = handed a m z need;
      reply = Granted (as_pages (take need (zone_at a z).avail));
    }
    else (if nowait then record { account = a; reply = NoPages }
    else record { account = waiting_at_tail a m z need; reply = Queued (free a z) }) in
    IsAccountWellFormed o.account)) [
      | true ↦ λ e. handed-well a m z need (in_zones a m z idle) (leb-true need (free a z) e) well
      | false ↦
          λ e. (elim nowait as (λ v. let o : AccountReply = if v then record { account = a; reply = NoPages }
          else record { account = waiting_at_tail a m z need; reply = Queued (free a z) } in
          IsAccountWellFormed o.account) [
            | true ↦ well
            | false ↦ queued-well a m z need (in_zones a m z idle) well (leb-false need (free a z) e)
          ])
    ]) refl

-- a held page belongs to a zone that exists
pub held-inside : (a : Account) (m : MapId) (z page : ℕ) →
    times_held m z page a ≡ 1 → IsAccountWellFormed a → z < length a.zones
held-inside a m z page held well = grind (arith, held-active a m z page held, well.inside z)

pub well-called : (ws : List Waiter) (lane : ℕ) (a : Account) → a.ready ≡ ws → IsAccountWellFormed a →
    IsAccountWellFormed (called_from ws lane a).account
well-called [] lane a is well = well
well-called (w ∷ ws) lane a is well =
    elim (eqb w.map.lane.0 lane) as (λ v. let o : AccountReply = if v
    then record {
      account = handed (record a { ready = ws }) w.map w.zone.0 w.need;
      reply = Called w.map (as_pages (take w.need (zone_at a w.zone.0).avail));
    } else record {
      account = a;
      reply =
          Nothing;
    } in IsAccountWellFormed o.account) [
      | true ↦ handed-well (shorter a w ws is well) w.map w.zone.0 w.need (head-inside a w ws is well)
          (shorter-enough a w ws is well) (shorter-well a w ws is well)
      | false ↦ well
    ]

pub well-mems : (a b : Account) → b.held ≡ a.held → b.ready ≡ a.ready →
    b.zones ≡ a.zones → IsAccountWellFormed a → IsAccountWellFormed b
well-mems a b held ready zones well =
    well-like a b held ready (rw zones (omega arith)) (λ y. rw zones refl) (λ y. rw zones (omega arith)) well

pub well-placed : (m : MapId) (n : ℕ) (first : Option ℕ) (a : Account) → IsAccountWellFormed a →
    IsAccountWellFormed (memory_placed m n first a).account
well-placed m n None a well = well
well-placed m n (Some first) a well = well-mems a (with_memory_run a m first n) refl refl refl well

pub well-step : (lane : ℕ) (c : HubCall) (a : Account) → MayCall lane c a → IsAccountWellFormed a →
    IsAccountWellFormed (account_step lane c a).account
well-step lane (AttachTag t) a may well = well-attached t a well
well-step lane (CreateMap m t first_done) a may well = well-created m t first_done a well
well-step lane (DestroyMap m z) a may well = well-without_map a z.0 m well
well-step lane (Grab m z need nowait) a may well = well-grabbed m z.0 need nowait a may.2 well
well-step lane (Release m z page) a may well =
    release-well a m z.0 page.0 (held-inside a m z.0 page.0 may.1 well) may.1 well
well-step lane TakeCallback a may well = well-called a.ready lane a refl well
well-step lane (MemAlloc m t) a may well = well-placed m _ _ a well
well-step lane (MemFree m) a may well = well-mems a (without_memory_run a m) refl refl refl well

pub well-history : (a : Account) (es : List HoldEntry) → IsAccountWellFormed a → IsSound a es →
    IsAccountWellFormed (account_of a es)
well-history a [] well sound = well
well-history a (e ∷ es) well sound =
    well-history (after_entry e a) es (well-step e.lane.0 e.call a sound.0.may well) sound.1

pub well-opening : (a : Account) → IsOpening a → IsAccountWellFormed a
well-opening a opening =
    record {
      inside = λ y past. rw opening.held refl;
      enough = λ y. rw (opening.zones, opening.ready) (omega arith);
      waits = λ y. rw opening.zones (All-nil (Lacks y));
      wanted = rw opening.ready (All-nil (λ (w : Waiter). 0 < w.need));
    }

pub account-well : (a : Account) (es : List HoldEntry) → IsOpening a → IsSound a es →
    IsAccountWellFormed (account_of a es)
account-well a es opening sound = well-history a es (well-opening a opening) sound

-- free, reserved and active pages add up to all pages
pub well-sum : (a : Account) (z : ℕ) → IsAccountWellFormed a → free a z + reserved a z + active a z ≡ total a z
well-sum a z well = omega (arith, well.enough z)
