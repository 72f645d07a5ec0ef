-- What the words of the program ask for.
use Rattle.std.specs.Prelude.{ℕ, ◌-◌, ◌^◌, ◌&&◌, Bool, List, [], ◌∷◌, length, codes, Option, Some, None, if◌then◌else◌}
use Rattle.std.specs.Prelude.{nat_le, nat_lt}
use Rattle.std.specs.Str.{bytes_eq, all_ascii_digits}
use Rattle.std.specs.Str.Parse.{digits_value}
use Rattle.program_rules.specs.declared.command.Command.{Command}
use Rattle.program_rules.specs.declared.command.Command.TheVariants.{Replay, Run, Storm, Check}

-- a word has 1 to 20 decimal digits and nothing else
abbrev pub is_numeral : List ℕ → Bool
is_numeral word = nat_lt 0 (length word) && (nat_le (length word) 20 && all_ascii_digits word)

-- a word is a number from 1 to `most`
abbrev pub writes_number : ℕ → List ℕ → Bool
writes_number most word =
    is_numeral word && (nat_le 1 (digits_value 10 word) && nat_le (digits_value 10 word) most)

-- the number that a word is, if it is from 1 to `most`
abbrev pub number : ℕ → List ℕ → Option ℕ
number most word = if writes_number most word then Some (digits_value 10 word) else None

-- the storm of these rounds and this seed, if both are given
abbrev pub storm_of : Option ℕ → Option ℕ → Option Command
storm_of (Some n) (Some seed) = Some (Storm n seed)
storm_of (Some n) None = None
storm_of None seed = None

-- the storm that two words ask for: 1 to 256 rounds, and a seed of 64 bits that is not 0
abbrev pub storm_command : List ℕ → List ℕ → Option Command
storm_command n seed = storm_of (number 256 n) (number (2 ^ 64 - 1) seed)

-- the command that one word asks for
abbrev pub alone : List ℕ → Option Command
alone word =
    if bytes_eq word (codes "replay") then Some Replay
    else (if bytes_eq word (codes "run") then Some Run
    else (if bytes_eq word (codes "check") then Some Check else None))

-- the command that the words ask for; every other list of words asks for none
abbrev pub command : List (List ℕ) → Option Command
command [] = None
command (word ∷ []) = alone word
command (word ∷ n ∷ []) = None
command (word ∷ n ∷ seed ∷ []) = if bytes_eq word (codes "storm") then storm_command n seed else None
command (word ∷ n ∷ seed ∷ next ∷ more) = None
