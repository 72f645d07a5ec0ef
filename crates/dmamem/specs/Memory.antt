-- The bytes of dmamem memories.
use Rattle.std.specs.Prelude.{ℕ, ◌+◌, ◌<◌, ◌≤◌}
use Rattle.dmamem.specs.declared.memory.Memory.{Memory}

-- the byte at a virtual address belongs to the memory
abbrev pub IsOwn : Memory → ℕ → Type 0
IsOwn memory va = (memory.va.0 ≤ va) × (va < memory.va.0 + memory.len)

-- each of the n bytes from a virtual address on belongs to the memory
abbrev pub Owns : Memory → ℕ → ℕ → Type 0
Owns memory va n = (k : ℕ) → k < n → IsOwn memory (va + k)
