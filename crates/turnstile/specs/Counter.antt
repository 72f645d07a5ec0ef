-- What a counter answers.
use Rattle.std.specs.Prelude.{◌≡◌, ℕ, ◌%◌, ◌^◌, List, [], ◌∷◌, ◌++◌, sum, MatchResult, Result}

-- the sum of the numbers that were added, as a `u64` has it
abbrev pub wrapped_sum : List ℕ → ℕ
wrapped_sum numbers = sum numbers % 2 ^ 64

-- the number was added and the answer is the sum of all, or there was no memory and none was added
abbrev pub AnswersSum : {A : Type 0} → List ℕ → ℕ → Result ℕ A → List ℕ → Type 0
AnswersSum before number reply after =
    MatchResult reply (λ total. (after ≡ before ++ number ∷ []) × (total ≡ wrapped_sum after)) (λ _. after ≡ before)
