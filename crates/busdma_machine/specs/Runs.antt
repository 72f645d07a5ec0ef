-- The addresses of runs of bytes.
use Rattle.std.specs.Prelude.{ℕ, zero, suc, ◌+◌, ◌%◌, ◌^◌, ◌<◌, ◌≤◌, List, [], ◌∷◌, ◌++◌, sum_by}
use Rattle.std.specs.Prelude.{Bool, ◌&&◌, ◌||◌, nat_le, nat_lt}
use Rattle.busdma_machine.specs.declared.machine.address.Extent.{Extent}

-- the m numbers from a on and the n numbers from b on have a number in common, provided that neither m nor n is 0
abbrev pub meet : ℕ → ℕ → ℕ → ℕ → Bool
meet a m b n = (nat_le b a && nat_lt a (b + n)) || (nat_le a b && nat_lt b (a + m))

-- the n addresses from a on, in order
abbrev pub run_of : ℕ → ℕ → List ℕ
run_of a zero = []
run_of a (suc n) = a ∷ run_of (a + 1) n

-- the addresses of the bytes of extents, in order
abbrev pub addresses : List Extent → List ℕ
addresses [] = []
addresses (e ∷ es) = run_of e.pa.0 e.len ++ addresses es

-- how many bytes extents have together
abbrev pub byte_count : List Extent → ℕ
byte_count es = sum_by (λ e. e.len) es

-- an extent has a byte, and lies in one frame with a number below 2^30
pub record IsExtent (e : Extent) : Type 0 where
  pub some : 0 < e.len
  pub in_frame : e.pa.0 % 4096 + e.len ≤ 4096
  pub numbered : e.pa.0 < 2 ^ 42
