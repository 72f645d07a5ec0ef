-- The marks of a driver's bytes, given by two sets of addresses.
use Rattle.std.specs.Prelude.{ℕ, zero, suc, max, Bool, List, [], ◌∷◌, Option, Some, None, if◌then◌else◌, refl}
use Rattle.std.specs.Coded.{Coded, code_by, coded×, coded_ℕ, coded_bool}
use Rattle.std.specs.Ordering.{nat_cmp}
use Rattle.std.specs.FinMap.{FinMap, empty, insert}
use Rattle.std.specs.FinMap as map
use Rattle.run_set.specs.Edges.{member}

-- the bytes by physical address, each Known or not; for how many edges there is room when bytes become Known
-- or Unknown; and for how many when bytes come or go
pub record Marks : Type 0 where
  pub bytes : FinMap nat_cmp Bool
  pub room : ℕ
  pub there_room : ℕ

-- the value of the marks as a code
abbrev pub marks_code : Coded Marks
marks_code =
    code_by (FinMap nat_cmp Bool × (ℕ × ℕ)) (coded× (map.code coded_ℕ coded_bool) (coded× coded_ℕ coded_ℕ))
    (λ m. (m.bytes, (m.room, m.there_room)))
    (λ t. record { bytes = t.0; room = t.1.0; there_room = t.1.1 }) (λ _. refl)

-- a finite map with a value inserted at a key, if there is a value
abbrev pub with_option : {X : Type 0} → Option X → ℕ → FinMap nat_cmp X → FinMap nat_cmp X
with_option None k m = m
with_option (Some x) k m = insert m k x

-- the finite map from each number k below n to f k, if f k has a value
abbrev pub tabulated : {X : Type 0} → ℕ → (ℕ → Option X) → FinMap nat_cmp X
tabulated zero f = empty
tabulated (suc n) f = with_option (f n) n (tabulated n f)

-- the greatest edge of a set: all its members are below it
abbrev pub top : List ℕ → ℕ
top [] = 0
top (e ∷ es) = max e (top es)

-- the mark of a byte: Known or not if the driver has it, and none otherwise
abbrev pub mark_of : List ℕ → List ℕ → ℕ → Option Bool
mark_of there known a = if member there a then Some (member known a) else None

-- the bytes that a driver has, each Known or not, given by the set of those it has and the set of those that
-- are Known
abbrev pub marks : List ℕ → List ℕ → FinMap nat_cmp Bool
marks there known = tabulated (top there) (mark_of there known)
