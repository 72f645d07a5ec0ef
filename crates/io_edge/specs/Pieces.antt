-- A text that is written in pieces while it is made. If the contract of a sink does not say what the sink holds,
-- nothing is said of the bytes.
use Rattle.std.specs.Prelude.{◌≡◌, ℕ, ◌≤◌, ◌⊎◌, List, [], ◌++◌, Bool, true, false, Option, Result, Ok, Err}
use Rattle.std.specs.Borrow.{MutBor}
use Rattle.std.specs.Io.KnownBytes.{Appends}
use Rattle.io_edge.specs.declared.pieces.Pieces.{Pieces}
use Rattle.io_edge.specs.declared.sink.Unwritten.{Unwritten}
use Rattle.io_edge.specs.Faults.{Rose}
use Rattle.io_edge.specs.Writing.{WritesPart}

-- the state of a text: what its sink holds, how often the sink has failed, which bytes wait, and whether the sink
-- failed at this text
pub record Standing : Type 0 where
  pub held : Option (List ℕ)
  pub faults : ℕ
  pub waiting : List ℕ
  pub failed : Bool

-- bytes were added and the sink did not fail: what was written and what waits now are what waited before and the bytes
-- that were added, in order
pub record PiecesGoOn (before : Standing) (text : List ℕ) (after : Standing) : Type 0 where
  pub well : before.failed ≡ false
  pub still : after.failed ≡ false
  pub written : List ℕ
  pub held : Appends before.held after.held written
  pub all : written ++ after.waiting ≡ before.waiting ++ text
  pub faults : after.faults ≡ before.faults

-- bytes were added and the sink failed: a front of the bytes that waited and of those that were added was written, but
-- not all
pub record PiecesFail (before : Standing) (text : List ℕ) (after : Standing) : Type 0 where
  pub well : before.failed ≡ false
  pub failed : after.failed ≡ true
  pub part : WritesPart (before.waiting ++ text) before.held after.held
  pub rose : Rose before.faults after.faults
  pub count : before.faults ≤ after.faults

-- the sink had failed at this text before, and nothing more was written
pub record HadFailed (before after : Standing) : Type 0 where
  pub failed : before.failed ≡ true
  pub still : after.failed ≡ true
  pub held : after.held ≡ before.held
  pub faults : after.faults ≡ before.faults

-- the states that a text can have after these bytes were added
abbrev pub StandsAfter : Standing → List ℕ → Standing → Type 0
StandsAfter before text after = PiecesGoOn before text after ⊎ (PiecesFail before text after ⊎ HadFailed before after)

module _ {K : Type 0} where
  -- a text to this sink that is still empty
  pub record Begins (sink : MutBor K) (text : Pieces K) : Type 0 where
    pub same_sink : text.sink.ghost_name ≡ sink.ghost_name
    pub untouched : text.sink.now ≡ sink.now
    pub empty : text.piece.items ≡ []
    pub well : text.failed ≡ false

  -- the state of a text, given what its sink holds and how often it failed
  abbrev pub standing : (K → Option (List ℕ)) → (K → ℕ) → Pieces K → Standing
  standing held faults text = record {
    held = held text.sink.now;
    faults = faults text.sink.now;
    waiting = text.piece.items;
    failed = text.failed;
  }

  -- these bytes were added to the text, whose sink stays the same
  pub record PiecesGive (held : K → Option (List ℕ)) (faults : K → ℕ)
      (before : Pieces K) (text : List ℕ) (after : Pieces K) : Type 0 where
    pub same_sink : after.sink.ghost_name ≡ before.sink.ghost_name
    pub stands : StandsAfter (standing held faults before) text (standing held faults after)

  -- the state of a text that ended with this result
  abbrev pub pieces_ended : (K → Option (List ℕ)) → (K → ℕ) → Result (Unit {0}) Unwritten → K → Standing
  pieces_ended held faults (Ok done) sink =
      record { held = held sink; faults = faults sink; waiting = []; failed = false }
  pieces_ended held faults (Err why) sink =
      record { held = held sink; faults = faults sink; waiting = []; failed = true }

  -- a text ended: the bytes that waited were written, or the sink failed then or before
  abbrev pub PiecesEnd : (K → Option (List ℕ)) → (K → ℕ) → Pieces K → Result (Unit {0}) Unwritten → K → Type 0
  PiecesEnd held faults text result sink = StandsAfter (standing held faults text) []
      (pieces_ended held faults result sink)
