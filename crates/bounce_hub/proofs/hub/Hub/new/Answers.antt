use Rattle.std.proofs.Common.{◌≡◌, length, sym, ap, ◌∙◌, subst, arith}
use Rattle.std.proofs.lemmas.List.{length-map}
use Rattle.busdma_machine.specs.Bounce.History.{IsSound, account_of}
use Rattle.busdma_machine.specs.Machine.PageList.{page_address}
use Rattle.frame_bank.specs.FrameBank.{Bank, IsBank}
use Rattle.bounce_hub.specs.Opening.{hub_opening}
use Rattle.bounce_hub.specs.Pools.{PoolAgrees}
use Rattle.bounce_hub.specs.Seen.{opening_of}
use Rattle.bounce_hub.proofs.OpeningLaws.{bank_opens}
use Rattle.bounce_hub.proofs.hub.Hub.new.Goals as goal

-- a new hub has its bank and nothing else
pub invariant_of-result : goal.invariant_of-result
invariant_of-result c =
    let pool = c.new-pool.result in
    let first = c.of.result.value in
    let sound : IsBank c.args.bank = c.bank_is_sound.ensures in
    let bank : first.bank ≡ c.args.bank = ap (λ p. p.bank) c.of.ensures ∙ c.new-pool.ensures.bank in
    let same : opening_of first ≡ hub_opening c.args.bank c.args.max_bpages c.args.maxmem =
    ap (λ b. hub_opening b first.max_bpages first.maxmem) bank
    ∙ ap (λ n. hub_opening c.args.bank n first.maxmem)
    (ap (λ p. p.max_bpages) c.of.ensures ∙ c.new-pool.ensures.max_bpages)
    ∙ ap (λ n. hub_opening c.args.bank c.args.max_bpages n)
    (ap (λ p. p.maxmem) c.of.ensures ∙ c.new-pool.ensures.maxmem) in
    record {
      form = bank_opens first.bank first.max_bpages first.maxmem (subst IsBank (sym bank) sound);
      sound = subst (IsSound (opening_of first)) (sym c.new.ensures.items) tt;
      agrees =
          subst (λ h. PoolAgrees pool (account_of (opening_of first) h)) (sym c.new.ensures.items)
          (subst (PoolAgrees pool) (sym same) c.new-pool.ensures.agrees);
      frames =
          omega (
            arith,
            length-map first.bank.pages page_address,
            (subst IsBank (sym bank) sound).roomy,
            ap (λ (b : Bank). b.room) bank,
            ap (λ (b : Bank). b.room) c.new-pool.ensures.bank,
          );
      room = omega (arith, ap length c.new.ensures.items, c.new-pool.ensures.agrees.owed);
    }

pub returns-clause-form : goal.returns-clause-form
returns-clause-form c = (invariant_of-result c).form
