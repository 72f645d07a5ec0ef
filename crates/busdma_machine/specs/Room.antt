-- A list with room for more items.
use Rattle.std.specs.Prelude.{ℕ, List, refl}
use Rattle.std.specs.Coded.{Coded, code_by, coded×, coded_ℕ, coded_list}

-- a list with room: its items in order, and for how many more there is room
pub record Roomy (A : Type 0) : Type 0 where
  pub items : List A
  pub spare : ℕ

-- the code of a list with room: the pair of its two fields is coded
abbrev pub roomy_code : {A : Type 0} → Coded A → Coded (Roomy A)
roomy_code {A} code =
    code_by (List A × ℕ) (coded× (coded_list code) coded_ℕ) (λ r. (r.items, r.spare))
    (λ p. record { items = p.0; spare = p.1 }) (λ _. refl)
