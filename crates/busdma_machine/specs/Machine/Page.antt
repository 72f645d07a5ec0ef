-- What contracts see of a page.
use Rattle.std.specs.Prelude.{ℕ, ◌+◌, List, ◌++◌, take, drop, length}

-- a frame: its number and its bytes
pub record FrameBytes : Type 0 where
  pub frame : ℕ
  pub bytes : List ℕ

-- bytes that are overwritten by others from a place on
abbrev pub overwritten : List ℕ → ℕ → List ℕ → List ℕ
overwritten old at bytes = take at old ++ bytes ++ drop (at + length bytes) old
