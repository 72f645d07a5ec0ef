-- Lists of numbers that do not fall.
use Rattle.std.specs.Prelude.{ℕ, ◌+◌, ◌≤◌, ◌<◌, Bool, true, false, nat_le, List, [], ◌∷◌, ◌++◌, reverse, refl}
use Rattle.std.specs.Prelude.{length, slice_index_or, ◌≢◌}
use Rattle.std.specs.Coded.{Coded, code_by, coded×, coded_ℕ, coded_list}

-- numbers in order, and for how many more there is room
pub record Numbers : Type 0 where
  pub items : List ℕ
  pub room : ℕ

-- the numbers and the room as lists and numbers
abbrev pub numbers_code : Coded Numbers
numbers_code =
    code_by (List ℕ × ℕ) (coded× (coded_list coded_ℕ) coded_ℕ) (λ s. (s.items, s.room))
    (λ p. record { items = p.0; room = p.1 }) (λ _. refl)

-- one if it is wanted, else zero
abbrev pub one_if : Bool → ℕ
one_if true = 1
one_if false = 0

-- how many of the numbers are at most n
abbrev pub count_le : List ℕ → ℕ → ℕ
count_le [] n = 0
count_le (e ∷ es) n = one_if (nat_le e n) + count_le es n

-- the numbers do not fall, from lo on
abbrev pub Climbs : ℕ → List ℕ → Type 0
Climbs lo [] = Unit {0}
Climbs lo (e ∷ es) = (lo ≤ e) × Climbs e es

-- the numbers of two stacks, whose tops are at their ends: the first stack from its bottom up, and then the second from
-- its top down
abbrev pub stacked : List ℕ → List ℕ → List ℕ
stacked before behind = before ++ reverse behind

-- each number before one place is at most n, and each from another place on is more
pub record IsAround (items : List ℕ) (n low high : ℕ) : Type 0 where
  pub order : low ≤ high
  pub small : high ≤ length items
  pub below : (k d : ℕ) → k < low → slice_index_or items k d ≤ n
  pub above : (k d : ℕ) → high ≤ k → k < length items → n < slice_index_or items k d

-- no number of the list is n
abbrev pub IsAbsent : List ℕ → ℕ → Type 0
IsAbsent items n = (k d : ℕ) → k < length items → slice_index_or items k d ≢ n
