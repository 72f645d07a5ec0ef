-- Bits of pages: with more bits set, those of a segment are still set.
use Rattle.std.proofs.Common.{◌≡◌, ℕ, ◌-◌, ◌^◌, ◌<◌, ◌∙◌, max, bit_or, arith}
use Rattle.std.proofs.lemmas.Nat.Bits.{bit_at-lt, bit_at_or, bit_at_ones}
use Rattle.std.specs.Int.{bit_at}
use Rattle.busdma_machine.specs.declared.machine.address.Segment.{Segment}
use Rattle.dma_map.specs.Pages.{HasPages, page_bit}

max-left : (x y : ℕ) → x ≡ 1 → y < 2 → max x y ≡ 1
max-left x y e h = omega arith

max-right : (x y : ℕ) → y ≡ 1 → x < 2 → max x y ≡ 1
max-right x y e h = omega arith

-- the bits of one more segment
pub HasPages-kept : (a b : ℕ) (s : Segment) → HasPages a s → HasPages (bit_or a b) s
HasPages-kept a b s is = record {
  bits = λ addr low high.
      bit_at_or a b (page_bit addr)
      ∙ max-left (bit_at a (page_bit addr)) (bit_at b (page_bit addr)) (is.bits addr low high)
      (bit_at-lt b (page_bit addr));
}

pub HasPages-added : (a b : ℕ) (s : Segment) → HasPages b s → HasPages (bit_or a b) s
HasPages-added a b s is = record {
  bits = λ addr low high.
      bit_at_or a b (page_bit addr)
      ∙ max-right (bit_at a (page_bit addr)) (bit_at b (page_bit addr)) (is.bits addr low high)
      (bit_at-lt a (page_bit addr));
}

-- if all bits are set, those of any segment are
pub every-page : (s : Segment) → HasPages (2 ^ 64 - 1) s
every-page s = record { bits = λ addr low high. bit_at_ones 64 (page_bit addr) (omega arith) }
