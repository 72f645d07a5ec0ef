-- What the private steps of the copies do; no public clause cites them.
use Rattle.std.specs.Prelude.{◌≡◌, ℕ, ◌-◌, List, [], ◌∷◌, take, drop}
use Rattle.busdma_machine.specs.Machine.Page.{FrameBytes}
use Rattle.busdma_machine.specs.Machine.Wire.{Wire, put, with_bytes_of}

-- the elements of a list at the places from `from` up to `to`
abbrev pub part : {A : Type 0} → ℕ → ℕ → List A → List A
part from to xs = take (to - from) (drop from xs)

-- a page has these bytes at these addresses now, and no other byte of it changed
abbrev pub IsWritten : FrameBytes → FrameBytes → List ℕ → List ℕ → Type 0
IsWritten old new addresses bytes =
    (w : Wire) → with_bytes_of (new ∷ []) w ≡ put addresses bytes (with_bytes_of (old ∷ []) w)
