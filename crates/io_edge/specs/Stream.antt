-- A reader or a writer of std that is a source or a sink, as its callers see it.
use Rattle.std.specs.Prelude.{ℕ, ◌-◌, List, Option, option_map, length, take}

-- a reader as a source: the bytes that are left, if they are known, and how often the reader failed
pub record StreamState : Type 0 where
  pub bytes : Option (List ℕ)
  pub faults : ℕ

-- a writer as a sink: the bytes that it took, if they are known, how many of them it took since its last flush that
-- succeeded, and how often it failed
pub record WriterState : Type 0 where
  pub taken : Option (List ℕ)
  pub unflushed : ℕ
  pub faults : ℕ

-- the bytes that a writer has flushed: those that it took, without the unflushed ones at the end
abbrev pub flushed_bytes : WriterState → Option (List ℕ)
flushed_bytes w = option_map (λ bytes. take (length bytes - w.unflushed) bytes) w.taken
