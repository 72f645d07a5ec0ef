-- What the answer of an operation is to the caller.
use Rattle.std.specs.Prelude.{◌≡◌, ℕ, List, Option, Some, None, Result, Ok, Err, if◌then◌else◌}
use Rattle.busdma_base.specs.declared.journals.answer.Answer.{Answer}
use Rattle.busdma_base.specs.declared.journals.answer.Answer.TheVariants as answer
use Rattle.busdma_machine.specs.declared.report.Errno.TheVariants.{ENOMEM}
use Rattle.bus_dma.specs.declared.failure.DmaError.{DmaError}
use Rattle.bus_dma.specs.declared.failure.DmaError.TheVariants as error
use Rattle.bus_dma.specs.declared.loads.Load.{Load}
use Rattle.bus_dma.specs.declared.loads.Load.TheVariants as load
use Rattle.ideal_lane.specs.Turns.{Turn, Stepped, Blocked, Ended}

-- how an answer refuses a call, if it does: with an errno, with a report, or with a tag or a map that was not made
abbrev pub refused_with : Answer → Option DmaError
refused_with answer.Done = None
refused_with (answer.Grown g) = if g.made then None else Some (error.Errno ENOMEM)
refused_with (answer.Placed pa) = None
refused_with (answer.Segments segments) = None
refused_with (answer.InProgress have need) = None
refused_with (answer.Served n) = None
refused_with (answer.Bytes bytes) = None
refused_with answer.Idle = None
refused_with (answer.Refused errno) = Some (error.Errno errno)
refused_with (answer.Report report) = Some (error.Report report)

module _ {R : Type 0} where
  -- a thing, unless there is an error
  abbrev pub unless : Option DmaError → R → Result R DmaError
  unless None x = Ok x
  unless (Some e) x = Err e

  -- a call gives this, unless its answer refuses it
  abbrev pub IsResult : R → Result R DmaError → Answer → Type 0
  IsResult x r a = r ≡ unless (refused_with a) x

-- a call gives the answer itself
abbrev pub IsAnswer : Result Answer DmaError → Answer → Type 0
IsAnswer (Ok x) a = x ≡ a
IsAnswer (Err e) a = ⊥

-- a read gives the bytes of its answer, unless that refuses it
abbrev pub IsReadResult : Result (List ℕ) DmaError → Answer → Type 0
IsReadResult (Ok bytes) a = a ≡ answer.Bytes bytes
IsReadResult (Err e) a = refused_with a ≡ Some e

-- a load gives the segments or the wait of its answer, unless that refuses it
abbrev pub IsLoadResult : Result Load DmaError → Answer → Type 0
IsLoadResult (Ok (load.Segments segments)) a = a ≡ answer.Segments segments
IsLoadResult (Ok (load.InProgress have need)) a = a ≡ answer.InProgress have need
IsLoadResult (Err e) a = refused_with a ≡ Some e

-- the answer of a turn that is a step
abbrev pub answer_in : Turn → Option Answer
answer_in (Stepped entry) = Some entry.answer
answer_in Blocked = None
answer_in Ended = None

-- an answer is one of a read: bytes, or a report
abbrev pub IsReadAnswer : Answer → Type 0
IsReadAnswer (answer.Bytes bytes) = Unit {0}
IsReadAnswer (answer.Report report) = Unit {0}
IsReadAnswer _ = ⊥

-- an answer is one of a load: segments, a wait, an errno, or a report
abbrev pub IsLoadAnswer : Answer → Type 0
IsLoadAnswer (answer.Segments segments) = Unit {0}
IsLoadAnswer (answer.InProgress have need) = Unit {0}
IsLoadAnswer (answer.Refused errno) = Unit {0}
IsLoadAnswer (answer.Report report) = Unit {0}
IsLoadAnswer _ = ⊥
