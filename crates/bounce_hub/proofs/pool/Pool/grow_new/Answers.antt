use Rattle.std.proofs.Common.{◌≡◌, ℕ, ◌∷◌, ◌++◌, [], List, length, min, take, refl, sym, ap, ◌∙◌, arith}
use Rattle.busdma_machine.specs.Bounce.Account.{Zone}
use Rattle.busdma_machine.specs.Machine.Page.{FrameBytes}
use Rattle.busdma_machine.specs.Bounce.Growth.{zone_for_tag, with_zone_for, frames_below, added, grown}
use Rattle.bounce_zone.specs.ZonePages.{ZonePages}
use Rattle.frame_bank.specs.FrameBank.{Bank, free_frames}
use Rattle.bounce_hub.specs.declared.hub_zone.HubZone.{HubZone}
use Rattle.bounce_hub.specs.Growing.{nested_with}
use Rattle.bounce_hub.proofs.Agreeing.{agrees-as}
use Rattle.bounce_hub.proofs.ZoneGrowth.{new_hub_zone, new-there, agrees-new, place-bound}
use Rattle.bounce_hub.proofs.pool.Pool.grow_new.Goals as goal

-- the new zone
made : (c : goal.After-push_reserved) → record c.new-hub_zone.result { zone = c.grow.new.self }
    ≡ new_hub_zone c.args.tag.now (take c.in_ok-added.added c.args.self.now.bank.pages)
made c =
    let ps : List FrameBytes = take c.in_ok-added.added c.args.self.now.bank.pages in
    ap (λ (k : ZonePages). record c.new-hub_zone.result { zone = k }) c.in_ok-added.ensures.zone
    ∙ ap (λ (s : HubZone). record s { zone = record s.zone { pages = s.zone.pages ++ ps } }) c.new-hub_zone.ensures
    ∙ ap (λ (k : ℕ). record (new_hub_zone c.args.tag.now ps)
    { zone = record (new_hub_zone c.args.tag.now ps).zone { alignment = k } }) c.max.ensures

nested : (c : goal.After-push_reserved) → c.nested_with-self.result
    ≡ nested_with c.args.self.now.nested c.args.self.now.zones.items
    (new_hub_zone c.args.tag.now (take c.in_ok-added.added c.args.self.now.bank.pages))
nested c = c.nested_with-self.ensures
    ∙ ap (λ (ss : List HubZone). nested_with c.args.self.now.nested ss
    (record c.new-hub_zone.result { zone = c.grow.new.self })) c.in_ok-reserve.ensures.items
    ∙ ap (nested_with c.args.self.now.nested c.args.self.now.zones.items) (made c)

pub nested_with-self-requires : goal.nested_with-self-requires
nested_with-self-requires c =
    omega (
      arith,
      c.requires.place.agrees.nested.count,
      c.requires.place.agrees.count,
      ap (λ (ss : List HubZone). length ss) c.in_ok-reserve.ensures.items,
    )

pub returns-clause-grows : goal.returns-clause-grows
returns-clause-grows c = λ a agrees fits at.
    let z : ℕ = c.args.place in
    let n : ℕ = c.in_ok-added.added in
    let none : zone_for_tag c.args.tag.now a.zones ≡ length a.zones =
    omega (arith, at, c.requires.none, agrees.count, place-bound c.args.tag.now a.zones) in
    let zones : c.push_reserved.new.self.items ≡ c.args.self.now.zones.items
    ++ new_hub_zone c.args.tag.now (take n c.args.self.now.bank.pages) ∷ [] =
    c.push_reserved.ensures.items ∙ ap (λ (s : HubZone). c.reserve.new.self.items ++ s ∷ []) (made c)
    ∙ ap (λ (ss : List HubZone). ss ++ new_hub_zone c.args.tag.now (take n c.args.self.now.bank.pages)
    ∷ []) c.in_ok-reserve.ensures.items in
    record {
      agrees =
          agrees-as _ (grown (with_zone_for c.args.tag.now a) (zone_for_tag c.args.tag.now a.zones) n)
          (grown (with_zone_for c.args.tag.now a) z n)
          (ap (λ (k : ℕ). grown (with_zone_for c.args.tag.now a) k n) (sym at))
          (agrees-new c.args.tag.now a none c.args.self.now _ n agrees fits.well zones (nested c)
          c.in_ok-added.ensures.bank refl refl refl refl);
      added = c.in_ok-added.ensures.added
          ∙ ap (λ (s : HubZone). min c.args.wanted (frames_below s.zone.lowaddr (free_frames c.args.self.now.bank)))
          c.new-hub_zone.ensures
          ∙ ap (λ (fs : List ℕ). min c.args.wanted (frames_below c.args.tag.now.lowaddr.0 fs)) agrees.bank
          ∙ sym (ap (λ (k : Zone). min c.args.wanted (frames_below k.lowaddr a.bank))
          (new-there c.args.tag.now a none))
          ∙ ap (λ (k : ℕ). added (with_zone_for c.args.tag.now a) k c.args.wanted) (sym at);
      room = ap (λ (b : Bank). b.room) c.in_ok-added.ensures.bank;
    }
