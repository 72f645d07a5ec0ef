-- Each bank opens an account.
use Rattle.std.proofs.Common.{ℕ, ◌^◌, ◌<◌, refl, arith}
use Rattle.std.proofs.lemmas.List.{length-map}
use Rattle.std.proofs.lemmas.List.Elements.{All-map, All-weaker}
use Rattle.busdma_machine.specs.Machine.Page.{FrameBytes}
use Rattle.busdma_machine.specs.Bounce.History.{IsFrame, IsOpening}
use Rattle.busdma_machine.specs.Machine.PageList.{page_address}
use Rattle.frame_bank.specs.FrameBank.{Bank, IsBank}
use Rattle.bounce_hub.specs.Opening.{hub_opening}

page_is_frame : (p : FrameBytes) → p.frame < 2 ^ 30 → IsFrame (page_address p)
page_is_frame p h = record { whole = omega arith; numbered = omega (arith, h) }

pub bank_opens : (b : Bank) (max_bpages maxmem : ℕ) → IsBank b → IsOpening (hub_opening b max_bpages maxmem)
bank_opens b max_bpages maxmem sound = record {
  rising = sound.rising;
  frames =
      All-map IsFrame page_address b.pages
      (All-weaker (λ p. p.frame < 2 ^ 30) (λ p. IsFrame (page_address p)) page_is_frame b.pages sound.numbered);
  few = omega (arith, length-map b.pages page_address, sound.roomy, sound.few);
  zones = refl;
  held = refl;
  ready = refl;
  mems = refl;
}
