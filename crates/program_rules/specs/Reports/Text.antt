-- How numbers and numbered lines are written.
use Rattle.std.specs.Prelude.{ℕ, ◌+◌, List, [], ◌∷◌, ◌++◌, false, codes}
use Rattle.std.specs.Fmt.{digits}

-- a number in base 16, without leading zeros, in lower case, after `0x`
abbrev pub hex : ℕ → List ℕ
hex n = codes "0x" ++ digits 16 false n

-- the texts of these things, one after the other; the first is numbered n
abbrev pub numbered : {A : Type 0} → (ℕ → A → List ℕ) → ℕ → List A → List ℕ
numbered text n [] = []
numbered text n (x ∷ xs) = text n x ++ numbered text (n + 1) xs
