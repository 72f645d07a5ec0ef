-- Sets of numbers by their edges: the numbers at which membership turns, in rising order.
use Rattle.std.specs.Prelude.{◌≡◌, ℕ, zero, suc, ◌+◌, ◌≤◌, ◌<◌, ◌^◌, Bool, true, false, not, ◌&&◌, nat_le, nat_lt}
use Rattle.std.specs.Prelude.{List, [], ◌∷◌, length, slice_index_or, Option, refl}
use Rattle.std.specs.Option.{MatchOption}
use Rattle.std.specs.Coded.{Coded, code_by, coded×, coded_ℕ, coded_list}

-- a set's edges, and for how many more there is room
pub record Edges : Type 0 where
  pub edges : List ℕ
  pub room : ℕ

-- edges as numbers and lists
abbrev pub edges_code : Coded Edges
edges_code =
    code_by (List ℕ × ℕ) (coded× (coded_list coded_ℕ) coded_ℕ) (λ s. (s.edges, s.room))
    (λ p. record { edges = p.0; room = p.1 }) (λ _. refl)

-- one of the two, and not both
abbrev pub differ : Bool → Bool → Bool
differ false b = b
differ true b = not b

-- a number is in the set: an odd number of edges are at it or below it
abbrev pub member : List ℕ → ℕ → Bool
member [] n = false
member (e ∷ es) n = differ (nat_le e n) (member es n)

-- the numbers rise, from lo on, each below hi
abbrev pub Rises : ℕ → ℕ → List ℕ → Type 0
Rises lo hi [] = lo ≤ hi
Rises lo hi (e ∷ es) = (lo ≤ e) × Rises (e + 1) hi es

-- whether a number is odd
abbrev pub odd : ℕ → Bool
odd zero = false
odd (suc n) = not (odd n)

-- what is true of each set's edges: they rise, and there is an end for each start
pub record IsKept (es : List ℕ) : Type 0 where
  pub rise : Rises 0 (2 ^ 64) es
  pub finite : odd (length es) ≡ false

-- the edge, if it is wanted
abbrev pub edge_if : Bool → ℕ → List ℕ
edge_if true e = e ∷ []
edge_if false e = []

-- a number is in the run from start to end - 1
abbrev pub is_inside_run : ℕ → ℕ → ℕ → Bool
is_inside_run start end n = nat_le start n && nat_lt n end

-- no number of the run is in the set, where is_in is true; and none is out of it, where is_in is false
abbrev pub NoneIn : (ℕ → Bool) → Bool → ℕ → ℕ → Type 0
NoneIn set is_in start end = (n : ℕ) → start ≤ n → n < end → set n ≡ not is_in

-- the least number of the run that is in the set, or, where is_in is false, out of it
abbrev pub IsFirst : (ℕ → Bool) → Bool → ℕ → ℕ → Option ℕ → Type 0
IsFirst set is_in start end first =
    MatchOption first (NoneIn set is_in start end) (λ f. (start ≤ f) × (f < end)
    × (set f ≡ is_in) × NoneIn set is_in start f)

-- the edges lie in three parts: `below` edges below start, the next ones, up to the `to`-th, from start to end, and
-- the others above end
pub record IsSplit (es : List ℕ) (start end below to : ℕ) : Type 0 where
  pub small : below ≤ length es
  pub large : to ≤ length es
  pub before : (k d : ℕ) → k < below → slice_index_or es k d < start
  pub from : (k d : ℕ) → below ≤ k → k < length es → start ≤ slice_index_or es k d
  pub upto : (k d : ℕ) → k < to → slice_index_or es k d ≤ end
  pub above : (k d : ℕ) → to ≤ k → k < length es → end < slice_index_or es k d
