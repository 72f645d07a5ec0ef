-- What reading takes from a source. If the contract of a source does not say what is left, nothing is said of the
-- bytes.
use Rattle.std.specs.Prelude.{◌≡◌, ℕ, ◌≤◌, ◌<◌, ⊤, List, [], length, drop, Option, Some, IfSome, Result, Ok, Err}
use Rattle.std.specs.declared.alloc.AllocError.{AllocError}
use Rattle.io_edge.specs.declared.source.Got.{Got}
use Rattle.io_edge.specs.declared.source.Got.TheVariants.{Bytes, End, Failed}
use Rattle.io_edge.specs.declared.source.Input.{Input}
use Rattle.io_edge.specs.declared.source.Input.TheVariants.{Whole, TooLong, Failed as Unread}

-- how many bytes an answer says it gave
abbrev pub given_count : Got → ℕ
given_count (Bytes n) = n
given_count End = 0
given_count Failed = 0

-- the answer says that nothing is left, to a caller with room for `room` bytes
abbrev pub SaysEnd : Got → ℕ → Type 0
SaysEnd (Bytes n) room = (n ≡ 0) × (0 < room)
SaysEnd End room = ⊤
SaysEnd Failed room = ⊥

-- if the bytes that were left are known, the first `count` of them were taken
abbrev pub Takes : ℕ → Option (List ℕ) → Option (List ℕ) → Type 0
Takes count before after =
    IfSome before (λ left. (count ≤ length left) × (after ≡ Some (drop count left)))

-- if the bytes that were left are known, the first of them were taken, at most `limit`
abbrev pub TakesAtMost : ℕ → Option (List ℕ) → Option (List ℕ) → Type 0
TakesAtMost limit before after = (count : ℕ) × (count ≤ limit) × Takes count before after

-- if the bytes that were left are known, they were these, and none is left now
abbrev pub TakesAll : List ℕ → Option (List ℕ) → Option (List ℕ) → Type 0
TakesAll bytes before after = IfSome before (λ left. (left ≡ bytes) × (after ≡ Some []))

-- if reading gave the complete input, P holds of its bytes
abbrev pub IfWhole : Result Input AllocError → (List ℕ → Type 0) → Type 0
IfWhole (Ok (Whole bytes)) P = P bytes.items
IfWhole (Ok TooLong) P = ⊤
IfWhole (Ok Unread) P = ⊤
IfWhole (Err e) P = ⊤
