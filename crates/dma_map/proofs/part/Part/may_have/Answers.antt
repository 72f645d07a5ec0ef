use Rattle.std.proofs.Common.{◌≡◌, ◌/◌, ◌^◌, ◌<◌, ◌∙◌, false, true, nat_eq, bit_and, ap, sym, arith}
use Rattle.std.proofs.lemmas.Nat.Bits.{shr_and_one}
use Rattle.std.specs.Int.{bit_at}
use Rattle.dma_map.proofs.Parts.{begins-before, ends-behind, in-no-page}
use Rattle.dma_map.proofs.part.Part.may_have.Goals as goal
use Rattle.dma_map.proofs.part.Part.may_have.Goals.{then-addr-self-via-then-addr-self}
use Rattle.dma_map.proofs.part.Part.may_have.Goals.{then-addr-self-via-else-addr-self+then-self-saturating_add}

pub returns-then-addr-self : goal.returns-then-addr-self
returns-then-addr-self c = λ segments is no.
    elim c.then-addr-self.branch [
      | then-addr-self-via-then-addr-self w ↦
          begins-before c.args.addr c.args.len c.args.self.least c.args.self.end segments is.between
          w.if-addr-self.true
      | then-addr-self-via-else-addr-self+then-self-saturating_add w ↦
          ends-behind c.args.addr c.args.len c.args.self.least c.args.self.end segments is.between
          (omega (arith, w.saturating_add.ensures, w.if-self-saturating_add.true))
    ]

pub returns-else-len-eq0 : goal.returns-else-len-eq0
returns-else-len-eq0 c = λ segments is no.
    let some : 0 < c.args.len = omega (arith, c.if-len-eq0.false) in
    in-no-page c.args.addr c.args.len c.args.self.pages segments is.pages some
    (λ set.
    let one : bit_and (c.args.self.pages / 2 ^ c.page_bit.result) 1 ≡ 1 =
    shr_and_one c.args.self.pages c.page_bit.result ∙ ap (bit_at c.args.self.pages) c.page_bit.ensures ∙ set in
    let clash : false ≡ true = sym no ∙ ap (λ n. nat_eq n 1) one in
    cc)
