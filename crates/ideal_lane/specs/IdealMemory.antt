-- The bytes of a driver's ideal memory: one for each physical address of its own frames. The driver's devices read and
-- write them directly. This project's own.
use Rattle.std.specs.Prelude.{ℕ, ◌==◌, Bool, true, false, if◌then◌else◌, List, [], ◌∷◌, Option, Some, None}
use Rattle.std.specs.List.{list_any}
use Rattle.std.specs.Option.{option_map}

-- a byte is Known with its value, or Unknown
pub data Content : Type 0 where
  Known : ℕ → Content
  Unknown : Content

-- what the ideal memory has at each physical address, or None if the byte is not the driver's own
abbrev pub IdealMemory : Type 0
IdealMemory = ℕ → Option Content

-- a byte is the driver's own and Known
abbrev pub known : Option Content → Bool
known (Some (Known v)) = true
known (Some Unknown) = false
known None = false

-- the value of a byte that is Known, and 0 for any other
abbrev pub value : Option Content → ℕ
value (Some (Known v)) = v
value (Some Unknown) = 0
value None = 0

-- the byte at an address is Known
abbrev pub is_known : IdealMemory → ℕ → Bool
is_known memory a = known (memory a)

-- an address is one of these
abbrev pub has_address : List ℕ → ℕ → Bool
has_address addresses a = list_any (λ k. a == k) addresses

-- the bytes at these addresses become Unknown, if they are the driver's own
abbrev pub forgotten : List ℕ → IdealMemory → IdealMemory
forgotten addresses memory a =
    if has_address addresses a then option_map (λ c. Unknown) (memory a) else memory a

-- one byte is written, if it is the driver's own
abbrev pub written_at : ℕ → ℕ → IdealMemory → IdealMemory
written_at pa v memory a = if a == pa then option_map (λ c. Known v) (memory a) else memory a

-- the bytes at these addresses are written with these values, in order
abbrev pub written : List ℕ → List ℕ → IdealMemory → IdealMemory
written [] vs memory = memory
written (pa ∷ pas) [] memory = memory
written (pa ∷ pas) (v ∷ vs) memory = written pas vs (written_at pa v memory)

-- the bytes at addresses that a test chooses come to the driver with this content
abbrev pub joined : (ℕ → Bool) → Content → IdealMemory → IdealMemory
joined chosen c memory a = if chosen a then Some c else memory a

-- the bytes at addresses that a test chooses leave the driver
abbrev pub parted : (ℕ → Bool) → IdealMemory → IdealMemory
parted chosen memory a = if chosen a then None else memory a
