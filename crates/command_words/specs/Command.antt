-- The words of a run on threads.
use Rattle.std.specs.Prelude.{ℕ, List, [], ◌∷◌, codes}

-- the words that ask for a run on threads: only the word `run`
abbrev pub run_words : List (List ℕ)
run_words = codes "run" ∷ []
