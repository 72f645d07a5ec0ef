use Rattle.std.proofs.Common.{◌^◌, ◌<◌, length, sym, ap, subst, arith}
use Rattle.std.proofs.lemmas.List.{length-drop}
use Rattle.std.proofs.lemmas.List.Elements.{All-same, All-drop}
use Rattle.busdma_machine.specs.Bounce.History.{IsRising}
use Rattle.busdma_machine.specs.Machine.PageList.{page_addresses}
use Rattle.frame_bank.proofs.Rising.{rising_pages, rising_addresses, rising_drop}
use Rattle.frame_bank.proofs.bank.FrameBank.take_lowest.Goals as goal

pub invariant_of-self : goal.invariant_of-self
invariant_of-self c =
    let items = c.self.inside.free.items in (
      record {
        rising =
            subst (λ ps. IsRising (page_addresses ps)) (sym c.drop_first.ensures.left)
            (rising_addresses _ (rising_drop c.args.count items (rising_pages items c.self.invariant.0.rising)));
        numbered =
            All-same (λ p. p.frame < 2 ^ 30) _ _ c.drop_first.ensures.left
            (All-drop (λ p. p.frame < 2 ^ 30) c.args.count items c.self.invariant.0.numbered);
        roomy = omega (
          arith,
          ap length c.drop_first.ensures.left,
          length-drop c.args.count items,
          c.self.invariant.0.roomy,
        );
        few = c.self.invariant.0.few;
      },
      omega arith,
    )
