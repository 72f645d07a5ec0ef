-- What a call did to its source and its sink. If a source or a sink does not report its bytes, nothing is said about
-- them.
use Rattle.std.specs.Prelude.{◌≡◌, ℕ, ◌+◌, ◌≤◌, List, length, Option}
use Rattle.std.specs.Io.KnownBytes.{Appends}
use Rattle.io_edge.specs.Faults.{Rose}
use Rattle.io_edge.specs.Reading.{Takes, TakesAtMost, TakesAll}
use Rattle.io_edge.specs.Writing.{WritesPart}

-- the greatest number of bytes that an input may have
abbrev pub input_limit : ℕ
input_limit = 16777216

-- the bytes left in a source and held by a sink, and how often each had failed, before a call and after it
pub record StreamEdges : Type 0 where
  pub left : Option (List ℕ)
  pub left_after : Option (List ℕ)
  pub held : Option (List ℕ)
  pub held_after : Option (List ℕ)
  pub read_faults : ℕ
  pub read_faults_after : ℕ
  pub write_faults : ℕ
  pub write_faults_after : ℕ

-- the edges of a call, by what its source and its sink mean
abbrev pub edges : {S K : Type 0} → (S → Option (List ℕ)) → (S → ℕ) → (K → Option (List ℕ)) → (K → ℕ)
    → S → S → K → K → StreamEdges
edges left read_faults held write_faults s t k l = record {
  left = left s;
  left_after = left t;
  held = held k;
  held_after = held l;
  read_faults = read_faults s;
  read_faults_after = read_faults t;
  write_faults = write_faults k;
  write_faults_after = write_faults l;
}

-- reading failed
abbrev pub ReadFailed : StreamEdges → Type 0
ReadFailed e = Rose e.read_faults e.read_faults_after

-- writing failed
abbrev pub WriteFailed : StreamEdges → Type 0
WriteFailed e = Rose e.write_faults e.write_faults_after

-- no read failed
abbrev pub NoReadFailed : StreamEdges → Type 0
NoReadFailed e = e.read_faults_after ≡ e.read_faults

-- no write failed
abbrev pub NoWriteFailed : StreamEdges → Type 0
NoWriteFailed e = e.write_faults_after ≡ e.write_faults

-- nothing was read, and no read failed
pub record ReadNothing (e : StreamEdges) : Type 0 where
  pub bytes : e.left_after ≡ e.left
  pub faults : NoReadFailed e

-- nothing was written, and no write failed
pub record WroteNothing (e : StreamEdges) : Type 0 where
  pub bytes : e.held_after ≡ e.held
  pub faults : NoWriteFailed e

-- if the bytes that were left are known, they were these, and none is left now; these are not too many for an input
pub record ReadAll (bytes : List ℕ) (e : StreamEdges) : Type 0 where
  pub all : TakesAll bytes e.left e.left_after
  pub short : length bytes ≤ input_limit

-- one byte more than an input may have was taken from the source
abbrev pub ReadTooMany : StreamEdges → Type 0
ReadTooMany e = Takes (input_limit + 1) e.left e.left_after

-- at most one byte more than an input may have was taken from the source
abbrev pub ReadAtMost : StreamEdges → Type 0
ReadAtMost e = TakesAtMost (input_limit + 1) e.left e.left_after

-- the complete text was written
abbrev pub WroteAll : List ℕ → StreamEdges → Type 0
WroteAll text e = Appends e.held e.held_after text

-- only a front of the text was written
abbrev pub WrotePart : List ℕ → StreamEdges → Type 0
WrotePart text e = WritesPart text e.held e.held_after
