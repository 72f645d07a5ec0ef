use Rattle.std.proofs.Common.{◌≡◌, ◌<◌, List, ◌∷◌, length, take, refl, sym, ap, ◌∙◌, arith}
use Rattle.busdma_machine.specs.declared.bounce.zone.Waiter.{Waiter}
use Rattle.busdma_machine.specs.declared.bounce.hold.HubCall.TheVariants.{TakeCallback}
use Rattle.busdma_machine.specs.declared.bounce.hold.HubReply.TheVariants.{Called}
use Rattle.busdma_machine.specs.Bounce.Account.{zone_at}
use Rattle.busdma_machine.specs.Bounce.AccountStep.{as_pages}
use Rattle.busdma_machine.specs.Bounce.Serving.{handed}
use Rattle.busdma_machine.proofs.Accounts.Counts.{head-inside}
use Rattle.bounce_hub.specs.declared.hub_zone.HubZone.{HubZone}
use Rattle.bounce_hub.specs.Pools.{Matches}
use Rattle.bounce_hub.proofs.Agreeing.{addresses-take, zone-matches, agrees-called}
use Rattle.bounce_hub.proofs.Answering.{called-yes, stepped}
use Rattle.bounce_hub.proofs.pool.Pool.take_callback.Goals as goal

pub index_mut-hub_zone-requires : goal.index_mut-hub_zone-requires
index_mut-hub_zone-requires c =
    let is : c.requires.account.ready ≡ c.in_ok-load.load.waiter ∷ c.pop_for.new.self.items =
    sym c.requires.agrees.ready ∙ c.in_ok-load.ensures.some in
    omega (
      arith,
      head-inside c.requires.account c.in_ok-load.load.waiter c.pop_for.new.self.items is
          c.requires.fits.well,
      c.requires.agrees.count,
      c.args.self.now.zones.ok,
    )

pub returns-clause-steps : goal.returns-clause-steps
returns-clause-steps c = λ a agrees fits may.
    let w : Waiter = c.in_ok-load.load.waiter in
    let ws : List Waiter = c.pop_for.new.self.items in
    let is : a.ready ≡ w ∷ ws = sym agrees.ready ∙ c.in_ok-load.ensures.some in
    let s : HubZone = c.index_mut-hub_zone.result.now in
    let inside : w.zone.0 < length a.zones = head-inside a w ws is fits.well in
    let here : Matches s a w.zone.0 =
    zone-matches c.args.self.now a w.zone.0 s agrees inside c.index_mut-hub_zone.ensures.value in
    let pages : c.hand_promised-addresses.result ≡ as_pages (take w.need (zone_at a w.zone.0).avail) =
    c.hand_promised-addresses.ensures.addresses
    ∙ ap as_pages (addresses-take w.need s.zone.pages ∙ ap (take w.need) here.avail) in
    stepped c.args.self.now _ c.args.lane.0 TakeCallback _ a (handed (record a { ready = ws }) w.map w.zone.0 w.need)
    (called-yes c.args.lane.0 a w ws is c.in_ok-load.ensures.lane
    ∙ ap (λ ps. record {
      account = handed (record a { ready = ws }) w.map w.zone.0 w.need;
      reply = Called w.map ps;
    }) (sym pages))
    (agrees-called c.args.self.now _ a w ws s c.hand_promised-addresses.new.self agrees
    (record { bank = refl; nested = refl; maxmem = refl; max_bpages = refl }) fits.well is inside here
    c.hand_promised-addresses.ensures.zone refl refl c.in_ok-load.ensures.spare refl)
    refl
