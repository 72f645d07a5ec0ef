-- What contracts see of a table of values by script place.
use Rattle.std.specs.Prelude.{ℕ, refl}
use Rattle.std.specs.Ordering.{nat_cmp}
use Rattle.std.specs.FinMap as map
use Rattle.std.specs.Borrow.{Bor}
use Rattle.std.specs.Coded.{Coded, code_by, coded×, coded_ℕ}

-- the value at each place that has one, how many places there are, and how many more values there is room for
pub record Places (T : Type 0) : Type 0 where
  pub map : map.FinMap nat_cmp T
  pub places : ℕ
  pub spare : ℕ

-- a table is stored as the tuple of its fields
abbrev pub places_code : {T : Type 0} → Coded T → Coded (Places T)
places_code {T} code =
    code_by
    (map.FinMap nat_cmp T × (ℕ × ℕ))
    (coded× (map.code coded_ℕ code) (coded× coded_ℕ coded_ℕ))
    (λ t. (t.map, (t.places, t.spare)))
    (λ p. record { map = p.0; places = p.1.0; spare = p.1.1 })
    (λ _. refl)

-- a place with the value that a reference points to
abbrev pub shown : {T : Type 0} → ℕ × Bor T → ℕ × T
shown p = (p.0, p.1.now)
