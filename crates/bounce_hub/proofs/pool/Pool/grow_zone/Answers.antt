use Rattle.std.proofs.Common.{◌≡◌, ℕ, ◌<◌, List, length, min, refl, sym, ap, ◌∙◌, arith}
use Rattle.busdma_machine.specs.Bounce.Account.{Account, zone_at}
use Rattle.busdma_machine.specs.Bounce.Growth.{with_zone_for, frames_below, added, grown}
use Rattle.bounce_zone.specs.ZonePages.{ZonePages}
use Rattle.frame_bank.specs.FrameBank.{Bank, free_frames}
use Rattle.bounce_hub.specs.declared.hub_zone.HubZone.{HubZone}
use Rattle.bounce_hub.specs.Pools.{Matches}
use Rattle.bounce_hub.proofs.Agreeing.{zone-matches, agrees-as}
use Rattle.bounce_hub.proofs.ZoneGrowth.{found-zone, agrees-grown}
use Rattle.bounce_hub.proofs.pool.Pool.grow_zone.Goals as goal

pub returns-clause-grows : goal.returns-clause-grows
returns-clause-grows c = λ a agrees fits at.
    let z : ℕ = c.args.place in
    let n : ℕ = c.in_ok-added.added in
    let s : HubZone = c.index_mut-hub_zone.result.now in
    let inside : z < length a.zones = omega (arith, c.requires.there, agrees.count) in
    let same : with_zone_for c.args.tag.now a ≡ a = found-zone c.args.tag.now a (omega (arith, inside, at)) in
    let here : Matches s a z = zone-matches c.args.self.now a z s agrees inside c.index_mut-hub_zone.ensures.value in
    record {
      agrees =
          agrees-as _ (grown a z n) (grown (with_zone_for c.args.tag.now a) z n)
          (ap (λ (b : Account). grown b z n) (sym same))
          (agrees-grown c.args.self.now _ a z n s (record s { zone = c.grow.new.self }) agrees inside here
          (ap (λ (k : ZonePages). record s { zone = k }) c.in_ok-added.ensures.zone) refl refl
          c.in_ok-added.ensures.bank refl refl refl refl);
      added = c.in_ok-added.ensures.added
          ∙ ap (λ (l : ℕ). min c.args.wanted (frames_below l (free_frames c.args.self.now.bank))) here.lowaddr
          ∙ ap (λ (fs : List ℕ). min c.args.wanted (frames_below (zone_at a z).lowaddr fs)) agrees.bank
          ∙ sym (ap (λ (b : Account). added b z c.args.wanted) same);
      room = ap (λ (b : Bank). b.room) c.in_ok-added.ensures.bank;
    }
