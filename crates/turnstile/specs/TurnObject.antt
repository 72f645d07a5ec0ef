-- What an object in a turnstile owes.
use Rattle.std.specs.Prelude.{◌≡◌, ◌≢◌, ◌⊎◌, ℕ, List, [], ◌∷◌, ◌++◌}

-- a call left the history as it was, or added one entry that fits
abbrev pub Grows : {E : Type 0} → (E → Type 0) → List E → List E → Type 0
Grows {E} fits before after = (after ≡ before) ⊎ ((entry : E) × fits entry × (after ≡ before ++ entry ∷ []))

-- these entries are none, or one that fits the name
abbrev pub IsGain : {E : Type 0} → (ℕ → E → Type 0) → ℕ → List E → Type 0
IsGain {E} fits name added = Grows (fits name) [] added

-- a call that may be made under a name may still be made after an entry of another name
abbrev pub OutlastsOthers : {C E F : Type 0} → (F → List E → Type 0) →
    (ℕ → E → Type 0) → (F → List E → ℕ → C → Type 0) → Type 0
OutlastsOthers {C} {E} {F} legal fits may =
    (fixed : F) (history : List E) (name other : ℕ) (call : C) (entry : E)
    → may fixed history name call → other ≢ name → fits other entry → legal fixed (history ++ entry ∷ []) →
    may fixed (history ++ entry ∷ []) name call

-- this call under this name made the object `before` the object `after`: its fixed part is the same, its history is
-- legal and grew by one entry or none, and the reply answers the call
pub record IsActed {O C R E F : Type 0} (history : O → List E) (fixed : O → F) (legal : F → List E →
    Type 0) (fits : ℕ → E → Type 0) (answers : F → List E → ℕ → C → R → List E → Type 0) (name : ℕ) (call : C)
    (reply : R) (before after : O) : Type 0 where
  pub same_fixed : fixed after ≡ fixed before
  pub lawful : legal (fixed after) (history after)
  pub grows : Grows (fits name) (history before) (history after)
  pub answered : answers (fixed before) (history before) name call reply (history after)
