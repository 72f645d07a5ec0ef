use Rattle.std.proofs.Common.{◌≡◌, ℕ, Bool, sym, ap, ◌∙◌, slice_get}
use Rattle.busdma_machine.specs.declared.name.ZoneId.{ZoneId}
use Rattle.busdma_machine.specs.declared.bounce.hold.HubReply.TheVariants.{Grown}
use Rattle.busdma_machine.specs.Bounce.Account.{Account, total}
use Rattle.busdma_machine.specs.Bounce.AccountStep.{AccountReply as Outcome}
use Rattle.busdma_machine.specs.Bounce.Growth.{zone_for_tag, with_zone_for, wanted_by_tag, added, grown}
use Rattle.bounce_hub.specs.Growing.{GrewBy, grown_pages}
use Rattle.bounce_hub.proofs.Agreeing.{agrees-as}
use Rattle.bounce_hub.proofs.ZoneGrowth.{place-is, pages-is, attached-as}
use Rattle.bounce_hub.proofs.pool.Pool.attach.Goals as goal

pub grow-requires : goal.grow-requires
grow-requires c = record {
  account = c.requires.account;
  agrees = c.requires.agrees;
  fits = c.requires.fits;
  place = c.place_for-place.ensures.is
      ∙ place-is c.args.tag.now c.args.self.now c.requires.account c.requires.agrees;
}

pub returns-clause-steps : goal.returns-clause-steps
returns-clause-steps c = λ a agrees fits may.
    let n : ℕ = c.in_ok-added.added in
    let z : ℕ = zone_for_tag c.args.tag.now a.zones in
    let b : Account = with_zone_for c.args.tag.now a in
    let at : c.place_for-place.result ≡ z =
    c.place_for-place.ensures.is ∙ place-is c.args.tag.now c.args.self.now a agrees in
    let pages : c.pages_at.result ≡ total b z =
    c.pages_at.ensures ∙ ap (λ (k : ℕ). grown_pages (slice_get c.args.self.now.zones.items k)) at
    ∙ pages-is c.args.tag.now c.args.self.now a agrees fits.well in
    let wanted : c.wanted_by_tag-wanted.result ≡ wanted_by_tag c.args.tag.now (total b z) =
    c.wanted_by_tag-wanted.ensures ∙ ap (λ (k : ℕ). wanted_by_tag c.args.tag.now k) pages in
    let grew : GrewBy c.args.self.now c.args.tag.now c.place_for-place.result c.wanted_by_tag-wanted.result n a
    c.grow.new.self = c.in_ok-added.ensures.grows a agrees fits at in
    let count : n ≡ added b z c.wanted_by_tag-wanted.result =
    grew.added ∙ ap (λ (k : ℕ). added b k c.wanted_by_tag-wanted.result) at in
    let is = attached-as c.args.tag.now a n c.wanted_by_tag-wanted.result wanted count in
    record {
      agrees = agrees-as c.grow.new.self (grown b c.place_for-place.result n) _ (ap (λ (k : ℕ). grown b k n) at
          ∙ sym (ap (λ (o : Outcome). o.account) is)) grew.agrees;
      reply =
          ap (λ (k : ZoneId). Grown (record { zone = k; added = n; made = c.is_made-made.result }))
          (c.in_ok-zone.ensures ∙ ap (λ (k : ℕ). record { 0 = k }) at)
          ∙ ap (λ (v : Bool). Grown (record { zone = record { 0 = z }; added = n; made = v })) c.is_made-made.ensures
          ∙ sym (ap (λ (o : Outcome). o.reply) is);
      room = grew.room;
    }
