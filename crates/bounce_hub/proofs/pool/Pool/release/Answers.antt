use Rattle.std.proofs.Common.{ℕ, ◌<◌, List, length, refl, sym, ap, ◌∙◌, subst, arith, All}
use Rattle.std.proofs.lemmas.List.Sums.{get_or-le-sum_by}
use Rattle.busdma_machine.specs.declared.bounce.zone.Waiter.{Waiter}
use Rattle.busdma_machine.specs.declared.bounce.hold.HubReply.TheVariants.{Served}
use Rattle.busdma_machine.specs.Bounce.Account.{Account, Zone, no_zone}
use Rattle.busdma_machine.specs.Machine.PageList.{page_address}
use Rattle.busdma_machine.proofs.Accounts.Counts.{held-active}
use Rattle.busdma_machine.proofs.Accounts.WellFormed.{held-inside}
use Rattle.bounce_hub.specs.declared.hub_zone.HubZone.{HubZone}
use Rattle.bounce_hub.specs.Pools.{Matches}
use Rattle.bounce_hub.proofs.Agreeing.{zone-matches, agrees-released}
use Rattle.bounce_hub.proofs.Answering.{moved-is, waits-fit, waits-lack}
use Rattle.bounce_hub.proofs.pool.Pool.release.Goals as goal

pub index_mut-hub_zone-requires : goal.index_mut-hub_zone-requires
index_mut-hub_zone-requires c =
    omega (
      arith,
      held-inside c.requires.account c.args.map c.args.zone.0 (page_address c.args.page) c.requires.may.1
          c.requires.fits.well,
      c.requires.agrees.count,
      c.args.self.now.zones.ok,
    )

here : (c : goal.After-take_back-arg-1) → Matches c.index_mut-hub_zone.result.now c.requires.account c.args.zone.0
here c = zone-matches c.args.self.now c.requires.account c.args.zone.0 c.index_mut-hub_zone.result.now
    c.requires.agrees
    (held-inside c.requires.account c.args.map c.args.zone.0 (page_address c.args.page) c.requires.may.1
    c.requires.fits.well) c.index_mut-hub_zone.ensures.value

pub take_back-moved-requires-clause-active : goal.take_back-moved-requires-clause-active
take_back-moved-requires-clause-active c =
    omega (
      arith,
      (here c).active,
      held-active c.requires.account c.args.map c.args.zone.0
          (page_address c.args.page) c.requires.may.1,
    )

pub take_back-moved-requires-clause-room : goal.take_back-moved-requires-clause-room
take_back-moved-requires-clause-room c =
    let a : Account = c.requires.account in
    let z : ℕ = c.args.zone.0 in
    omega (
      arith,
      c.requires.agrees.spare,
      ap (λ (x : List Waiter). length x) (here c).wait,
      get_or-le-sum_by (λ (k : Zone). length k.wait) a.zones z no_zone
          (held-inside a c.args.map z (page_address c.args.page) c.requires.may.1 c.requires.fits.well),
    )

pub take_back-moved-requires-clause-lacks : goal.take_back-moved-requires-clause-lacks
take_back-moved-requires-clause-lacks c =
    subst (All (λ (w : Waiter). w.have < w.need)) (sym (here c).wait)
    (waits-lack c.requires.account c.args.zone.0 c.requires.fits.well)

pub take_back-moved-requires-clause-few : goal.take_back-moved-requires-clause-few
take_back-moved-requires-clause-few c =
    let a : Account = c.requires.account in
    let z : ℕ = c.args.zone.0 in
    omega (
      arith,
      (here c).deferred,
      ap (λ (x : List Waiter). length x) (here c).wait,
      c.requires.fits.deferrals,
      waits-fit a z (held-inside a c.args.map z (page_address c.args.page) c.requires.may.1 c.requires.fits.well),
    )

pub returns-clause-steps : goal.returns-clause-steps
returns-clause-steps c = λ a agrees fits may.
    let z : ℕ = c.args.zone.0 in
    let s : HubZone = c.index_mut-hub_zone.result.now in
    let inside : z < length a.zones = held-inside a c.args.map z (page_address c.args.page) may.1 fits.well in
    let now : Matches s a z = zone-matches c.args.self.now a z s agrees inside c.index_mut-hub_zone.ensures.value in
    record {
      agrees = agrees-released c.args.self.now _ a c.args.map z c.args.page s c.take_back-moved.new.self agrees
          (record { bank = refl; nested = refl; maxmem = refl; max_bpages = refl }) fits.well inside may.1 now
          c.take_back-moved.ensures.zone refl c.take_back-moved.ensures.ready refl;
      reply = ap Served c.take_back-moved.ensures.moved
          ∙ moved-is a c.args.map z (page_address c.args.page) s fits.well inside may.1 now;
      room = refl;
    }
