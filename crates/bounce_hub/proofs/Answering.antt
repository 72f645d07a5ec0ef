-- What the account answers to each call, case by case.
use Rattle.std.proofs.Common.{◌≡◌, ℕ, ◌+◌, ◌<◌, ◌≤◌, Bool, true, false, List, ◌∷◌, length, take, refl, sym, ap, ◌∙◌}
use Rattle.std.proofs.Common.{subst, arith, All}
use Rattle.std.proofs.lemmas.Bool.{le-leb, lt-leb, eq-eqb}
use Rattle.std.proofs.lemmas.List.{length-map}
use Rattle.std.proofs.lemmas.List.Elements.{All-weaker}
use Rattle.std.proofs.lemmas.List.Sums.{get_or-le-sum_by}
use Rattle.busdma_machine.specs.declared.name.MapId.{MapId}
use Rattle.busdma_machine.specs.declared.bounce.zone.Waiter.{Waiter}
use Rattle.busdma_machine.specs.declared.bounce.hold.HubCall.{HubCall}
use Rattle.busdma_machine.specs.declared.bounce.hold.HubCall.TheVariants.{TakeCallback}
use Rattle.busdma_machine.specs.declared.bounce.hold.HubReply.{HubReply}
use Rattle.busdma_machine.specs.declared.bounce.hold.HubReply.TheVariants.{Granted, Queued, NoPages, Served, Called}
use Rattle.busdma_machine.specs.Bounce.Account.{Account, Zone, no_zone, zone_at, free}
use Rattle.busdma_machine.specs.Bounce.AccountStep.{AccountReply as Outcome, account_step, as_pages}
use Rattle.busdma_machine.specs.Bounce.AccountStep.{grabbed, released, called_from}
use Rattle.busdma_machine.specs.Bounce.Serving.{handed, waiting_at_tail, completed}
use Rattle.busdma_machine.specs.Bounce.Conditions.{times_held}
use Rattle.busdma_machine.specs.Machine.PageList.{page_address}
use Rattle.busdma_machine.specs.Bounce.WellFormed.{IsAccountWellFormed, Lacks}
use Rattle.busdma_machine.proofs.Accounts.Counts.{release-done}
use Rattle.bounce_zone.specs.ZonePages.{free_pages}
use Rattle.bounce_hub.specs.declared.hub_zone.HubZone.{HubZone}
use Rattle.bounce_hub.specs.declared.pool.Pool.{Pool}
use Rattle.bounce_hub.specs.Pools.{Matches, PoolAgrees, Stepped, deferrals}
use Rattle.bounce_hub.specs.HubZones.{room_after}
use Rattle.bounce_hub.proofs.Agreeing.{room-is}

-- a grab
pub grabbed-yes : (m : MapId) (z need : ℕ) (nowait : Bool) (a : Account) → need ≤ free a z →
    grabbed m z need nowait a ≡ record {
      account = handed a m z need;
      reply = Granted (as_pages (take need (zone_at a z).avail));
    }
grabbed-yes m z need nowait a h = rw (le-leb need (free a z) h) refl

pub grabbed-no : (m : MapId) (z need : ℕ) (nowait : Bool) (a : Account) → free a z < need → nowait ≡ true →
    grabbed m z need nowait a ≡ record { account = a; reply = NoPages }
grabbed-no m z need nowait a h e = rw (lt-leb need (free a z) h, e) refl

pub grabbed-waits : (m : MapId) (z need : ℕ) (nowait : Bool) (a : Account) → free a z < need → nowait ≡ false →
    grabbed m z need nowait a ≡ record { account = waiting_at_tail a m z need; reply = Queued (free a z) }
grabbed-waits m z need nowait a h e = rw (lt-leb need (free a z) h, e) refl

-- the free pages of a zone
pub free-is : (s : HubZone) (a : Account) (z : ℕ) → Matches s a z → free_pages s.zone ≡ free a z
free-is s a z here =
    omega (arith, ap (λ (x : List ℕ). length x) here.avail, length-map s.zone.pages page_address, here.reserved)

-- a callback
pub called-yes : (lane : ℕ) (a : Account) (w : Waiter) (ws : List Waiter) → a.ready ≡ w ∷ ws → w.map.lane.0 ≡ lane
    → account_step lane TakeCallback a ≡ record {
      account = handed (record a { ready = ws }) w.map w.zone.0 w.need;
      reply = Called w.map (as_pages (take w.need (zone_at a w.zone.0).avail));
    }
called-yes lane a w ws is own = ap (λ k. called_from k lane a) is ∙ rw (eq-eqb w.map.lane.0 lane own) refl

-- a release moves as many maps as its zone completes
pub moved-is : (a : Account) (m : MapId) (z page : ℕ) (old : HubZone) → IsAccountWellFormed a → z < length a.zones →
    times_held m z page a ≡ 1 → Matches old a z
    → Served (length (completed (room_after old) old.wait)) ≡ (released m z page a).reply
moved-is a m z page old well inside held here =
    ap (λ (x : List Waiter). Served (length x))
    (ap (λ r. completed r old.wait) (room-is a m z page old inside held well here) ∙ ap (completed _) here.wait
    ∙ sym (release-done a m z page inside held well))

-- a zone's own number of waiting maps and of deferred loads
pub waits-fit : (a : Account) (z : ℕ) → z < length a.zones →
    (zone_at a z).deferred + length (zone_at a z).wait ≤ deferrals a
waits-fit a z inside = get_or-le-sum_by (λ (k : Zone). k.deferred + length k.wait) a.zones z no_zone inside

pub waits-lack : (a : Account) (z : ℕ) → IsAccountWellFormed a → All (λ (w : Waiter). w.have < w.need)
    (zone_at a z).wait
waits-lack a z well =
    All-weaker (Lacks z) (λ (w : Waiter). w.have < w.need) (λ w l. l.lacks) (zone_at a z).wait (well.waits z)

-- a call whose outcome is known
pub stepped : (p q : Pool) (lane : ℕ) (c : HubCall) (r : HubReply) (a b : Account) →
    account_step lane c a ≡ record { account = b; reply = r } → PoolAgrees q b →
    q.bank.room ≡ p.bank.room → Stepped p lane c r a q
stepped p q lane c r a b is agrees room = record {
  agrees = subst (PoolAgrees q) (sym (ap (λ (o : Outcome). o.account) is)) agrees;
  reply = sym (ap (λ (o : Outcome). o.reply) is);
  room = room;
}
