use Rattle.std.proofs.Common.{◌≡◌, ℕ, ◌+◌, ◌<◌, ◌≤◌, [], ◌∷◌, ◌++◌, length, take, refl, sym, ap, ◌∙◌, arith}
use Rattle.busdma_machine.specs.declared.bounce.hold.HubCall.TheVariants.{Grab}
use Rattle.busdma_machine.specs.declared.bounce.hold.HubReply.TheVariants.{Granted, Queued}
use Rattle.busdma_machine.specs.Bounce.Account.{zone_at, free}
use Rattle.busdma_machine.specs.Bounce.AccountStep.{as_pages}
use Rattle.busdma_machine.specs.Bounce.Serving.{handed, waiting_at_tail}
use Rattle.busdma_machine.proofs.Accounts.Counts.{in_zones}
use Rattle.bounce_zone.specs.ZonePages.{free_pages}
use Rattle.bounce_hub.specs.declared.hub_zone.HubZone.{HubZone}
use Rattle.bounce_hub.specs.Pools.{Matches}
use Rattle.bounce_hub.proofs.Agreeing.{addresses-take, zone-matches, agrees-handed, agrees-queued, agrees-same}
use Rattle.bounce_hub.proofs.Answering.{free-is, grabbed-yes, grabbed-no, grabbed-waits, stepped}
use Rattle.bounce_hub.proofs.pool.Pool.grab.Goals as goal

pub index_mut-hub_zone-requires : goal.index_mut-hub_zone-requires
index_mut-hub_zone-requires c =
    omega (
      arith,
      in_zones c.requires.allowed.account c.args.map c.args.zone.0 c.requires.allowed.may.2,
      c.requires.allowed.agrees.count,
      c.args.self.now.zones.ok,
    )

-- pages are granted
pub returns-in_ok-pages-clause-steps : goal.returns-in_ok-pages-clause-steps
returns-in_ok-pages-clause-steps c = λ a agrees fits may.
    let z : ℕ = c.args.zone.0 in
    let s : HubZone = c.index_mut-hub_zone.result.now in
    let inside : z < length a.zones = in_zones a c.args.map z may.2 in
    let here : Matches s a z = zone-matches c.args.self.now a z s agrees inside c.index_mut-hub_zone.ensures.value in
    let enough : c.args.need ≤ free a z = omega (arith, free-is s a z here, c.free.ensures, c.if-need-free.true) in
    let pages : c.in_ok-pages.addresses ≡ as_pages (take c.args.need (zone_at a z).avail) =
    c.in_ok-pages.ensures.addresses ∙ ap as_pages (addresses-take c.args.need s.zone.pages
    ∙ ap (take c.args.need) here.avail) in
    stepped c.args.self.now _ c.args.map.lane.0 (Grab c.args.map c.args.zone c.args.need c.args.nowait) _
    a (handed a c.args.map z c.args.need)
    (grabbed-yes c.args.map z c.args.need c.args.nowait a enough
    ∙ ap (λ ps. record { account = handed a c.args.map z c.args.need; reply = Granted ps }) (sym pages))
    (agrees-handed c.args.self.now _ a c.args.map z c.args.need s c.hand_out.new.self agrees
    (record { bank = refl; nested = refl; maxmem = refl; max_bpages = refl }) inside enough here
    c.in_ok-pages.ensures.zone refl refl refl)
    refl

-- no page for a load that does not wait
pub returns-then-nowait-clause-steps : goal.returns-then-nowait-clause-steps
returns-then-nowait-clause-steps c = λ a agrees fits may.
    let z : ℕ = c.args.zone.0 in
    let s : HubZone = c.index_mut-hub_zone.result.now in
    let inside : z < length a.zones = in_zones a c.args.map z may.2 in
    let here : Matches s a z = zone-matches c.args.self.now a z s agrees inside c.index_mut-hub_zone.ensures.value in
    let short : free a z < c.args.need = omega (arith, free-is s a z here, c.free.ensures, c.if-need-free.false) in
    stepped c.args.self.now _ c.args.map.lane.0 (Grab c.args.map c.args.zone c.args.need c.args.nowait) _ a a
    (grabbed-no c.args.map z c.args.need c.args.nowait a short c.if-nowait.true)
    (agrees-same c.args.self.now _ a z s agrees
    (record { bank = refl; nested = refl; maxmem = refl; max_bpages = refl })
    c.index_mut-hub_zone.ensures.value refl refl refl)
    refl

-- the load waits
pub returns-in_ok-have-clause-steps : goal.returns-in_ok-have-clause-steps
returns-in_ok-have-clause-steps c = λ a agrees fits may.
    let z : ℕ = c.args.zone.0 in
    let s : HubZone = c.index_mut-hub_zone.result.now in
    let inside : z < length a.zones = in_zones a c.args.map z may.2 in
    let here : Matches s a z = zone-matches c.args.self.now a z s agrees inside c.index_mut-hub_zone.ensures.value in
    let f : free_pages s.zone ≡ free a z = free-is s a z here in
    let short : free a z < c.args.need = omega (arith, f, c.free.ensures, c.if-need-free.false) in
    let have : c.in_ok-have.have ≡ free a z = c.in_ok-have.ensures.have ∙ f in
    let new : c.queue.new.self ≡ record s {
      zone = record s.zone { reserved = s.zone.reserved + free a z };
      wait = s.wait ++ record { map = c.args.map; zone = c.args.zone; need = c.args.need; have = free a z } ∷ [];
    } =
    c.in_ok-have.ensures.zone
    ∙ ap (λ (k : ℕ). record s {
      zone = record s.zone { reserved = s.zone.reserved + k };
      wait = s.wait
          ++ record { map = c.args.map; zone = c.args.zone; need = c.args.need; have = k } ∷ [];
    }) f in
    stepped c.args.self.now _ c.args.map.lane.0 (Grab c.args.map c.args.zone c.args.need c.args.nowait) _
    a (waiting_at_tail a c.args.map z c.args.need)
    (grabbed-waits c.args.map z c.args.need c.args.nowait a short c.if-nowait.false
    ∙ ap (λ k. record { account = waiting_at_tail a c.args.map z c.args.need; reply = Queued k }) (sym have))
    (agrees-queued c.args.self.now _ a c.args.map z c.args.need s c.queue.new.self agrees
    (record { bank = refl; nested = refl; maxmem = refl; max_bpages = refl }) fits.well inside short here new
    refl c.in_ok-have.ensures.room refl)
    refl
