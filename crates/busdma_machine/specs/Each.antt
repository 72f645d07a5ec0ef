-- A list in which each element is judged together with the elements before it.
use Rattle.std.specs.Prelude.{List, [], ◌∷◌, ◌++◌}

-- P holds of each element together with the elements before it; those in `before` come before the first one
abbrev pub EachAfter : {A : Type 0} → (List A → A → Type 0) → List A → List A → Type 0
EachAfter P before [] = Unit {0}
EachAfter P before (x ∷ xs) = P before x × EachAfter P (before ++ x ∷ []) xs
