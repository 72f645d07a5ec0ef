-- The virtual addresses of a driver.
use Rattle.std.specs.Prelude.{ℕ}

-- the end of the virtual addresses that a driver's pages can have; the addresses of dmamem memories begin here
abbrev pub pages_end : ℕ
pages_end = 0xfffff80000000000
