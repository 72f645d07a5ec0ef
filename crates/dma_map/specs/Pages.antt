-- In which pages a segment has bytes, with one bit of 64 for a page.
use Rattle.std.specs.Prelude.{◌≡◌, ℕ, ◌+◌, ◌/◌, ◌%◌, ◌<◌, ◌≤◌}
use Rattle.std.specs.Int.{bit_at}
use Rattle.busdma_machine.specs.declared.machine.address.Segment.{Segment}

-- the place of the bit for the page of an address
abbrev pub page_bit : ℕ → ℕ
page_bit addr = addr / 4096 % 64

-- the bit is set for each page in which a segment has a byte
pub record HasPages (pages : ℕ) (s : Segment) : Type 0 where
  pub bits : (addr : ℕ) → s.addr.0 ≤ addr → addr < s.addr.0 + s.len → bit_at pages (page_bit addr) ≡ 1
