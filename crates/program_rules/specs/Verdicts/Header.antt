-- The input of a check: a header, a scenario and a text.
use Rattle.std.specs.Prelude.{ℕ, ◌+◌, ◌==◌, ◌&&◌, Bool, List, ◌++◌, codes, drop, length, take, Option, Some, None}
use Rattle.std.specs.Prelude.{if◌then◌else◌, nat_eq, nat_le, nat_lt}
use Rattle.std.specs.Fmt.{decimal}
use Rattle.std.specs.List.{before_first, starts_with}
use Rattle.std.specs.Str.Parse.{digits_value}

-- the two parts of an input
pub record Cut : Type 0 where
  pub scenario : List ℕ
  pub report : List ℕ

-- the header of a scenario of so many bytes: their number, on a line of its own
abbrev pub header : ℕ → List ℕ
header size = decimal size ++ codes "\n"

-- the number before the first line feed
abbrev pub size_of : List ℕ → ℕ
size_of input = digits_value 10 (before_first (λ b. b == 10) input)

-- the input begins with the header of this number, and has so many bytes after it
abbrev pub is_headed : List ℕ → ℕ → Bool
is_headed input size =
    nat_lt size 100000000 && (starts_with nat_eq input (header size)
    && nat_le (length (header size) + size) (length input))

-- the parts of an input after the header of this number
abbrev pub cut_behind_header : List ℕ → ℕ → Cut
cut_behind_header input size =
    let behind : List ℕ = drop (length (header size)) input in
    record { scenario = take size behind; report = drop size behind }

-- the parts of an input, or None if it has no header or too few bytes after it
abbrev pub cut_of : List ℕ → Option Cut
cut_of input = if is_headed input (size_of input) then Some (cut_behind_header input (size_of input)) else None
