use Rattle.std.proofs.Common.{◌≡◌, ℕ, ◌<◌, ◌+◌, ◌-◌, List, not, length, refl, ap, arith}
use Rattle.std.specs.List.{filter}
use Rattle.busdma_machine.specs.declared.name.MapId.{MapId}
use Rattle.busdma_machine.specs.Bounce.Account.{zone_at, same_map}
use Rattle.busdma_machine.proofs.Accounts.Counts.{in_zones}
use Rattle.bounce_hub.specs.declared.hub_zone.HubZone.{HubZone}
use Rattle.bounce_hub.specs.Pools.{Matches}
use Rattle.bounce_hub.proofs.Agreeing.{zone-matches}
use Rattle.bounce_hub.proofs.Mapping.{agrees-mapped, maps-less, maps-owed}
use Rattle.bounce_hub.proofs.pool.Pool.destroy.Goals as goal

pub returns-clause-steps : goal.returns-clause-steps
returns-clause-steps c = λ a agrees fits may.
    let z : ℕ = c.args.zone.0 in
    let s : HubZone = c.index_mut.result.now in
    let inside : z < length a.zones = in_zones a c.args.map z may.1 in
    let here : Matches s a z = zone-matches c.args.self.now a z s agrees inside c.index_mut.ensures.value in
    let rest : List MapId = filter (λ n. not (same_map c.args.map n)) (zone_at a z).maps in
    let less : length rest + 1 ≡ length (zone_at a z).maps =
    omega (arith, maps-less c.args.map (zone_at a z).maps, may.1.made) in
    record {
      agrees =
          agrees-mapped c.args.self.now _ a z s (record s { maps = s.maps - 1 }) rest agrees
          (record { bank = refl; nested = refl; maxmem = refl; max_bpages = refl }) inside here
          (ap (λ (k : ℕ). record s { maps = k }) (omega (arith, less, here.maps))) refl refl
          (omega (arith, less, agrees.owed, maps-owed a z inside));
      reply = refl;
      room = refl;
    }
