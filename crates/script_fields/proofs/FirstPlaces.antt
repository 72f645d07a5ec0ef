-- The first operation that passes a test, if at most one does.
use Rattle.std.proofs.Common.{◌≡◌, ℕ, zero, suc, ◌+◌, List, [], ◌∷◌, Bool, true, false, Option, Some, None, refl}
use Rattle.std.proofs.Common.{ap, ◌∙◌, ◌++◌, arith, if◌then◌else◌, length, ◌||◌, is_some, slice_get}
use Rattle.std.proofs.Math.Bool.{or-true}
use Rattle.std.specs.List.{list_any}
use Rattle.std.specs.Option.{option_map_or}
use Rattle.busdma_base.specs.declared.scenarios.script.Op.{Op}
use Rattle.scenario_format.specs.Parts.Names.{first_operation_place}

-- the operation at a place passes the test
abbrev pub passes : (Op → Bool) → List Op → ℕ → Bool
passes test ops place = option_map_or test (slice_get ops place) false

past : (b : Bool) (n : ℕ) (rest : Option ℕ) → b ≡ false → rest ≡ None → (if b then Some n else rest) ≡ None
past true n rest fails e = cc
past false n rest fails e = e

pub none_passes : (test : Op → Bool) (n : ℕ) (ops : List Op)
    → ((i : ℕ) → passes test ops i ≡ false) → first_operation_place test n ops ≡ None
none_passes test n [] none = refl
none_passes test n (o ∷ ops) none =
    past (test o) n (first_operation_place test (n + 1) ops) (none zero)
    (none_passes test (n + 1) ops (λ i. none (suc i)))

here : (b : Bool) (n : ℕ) (rest : Option ℕ) → b ≡ true → (if b then Some n else rest) ≡ Some (n + zero)
here true n rest holds = ap Some (omega arith)
here false n rest holds = cc

further : (b : Bool) (n k : ℕ) (rest : Option ℕ) → (b ≡ true → zero ≡ suc k) → rest ≡ Some (n + 1 + k)
    → (if b then Some n else rest) ≡ Some (n + suc k)
further true n k rest fails e = let z : zero ≡ suc k = fails refl in absurd (omega arith)
further false n k rest fails e = e ∙ ap Some (omega arith)

fewer : (i k : ℕ) → suc i ≡ suc k → i ≡ k
fewer i k e = omega arith

pub one_passes : (test : Op → Bool) (n k : ℕ) (ops : List Op) → passes test ops k ≡ true
    → ((i : ℕ) → passes test ops i ≡ true → i ≡ k) → first_operation_place test n ops ≡ Some (n + k)
one_passes test n k [] holds one = cc
one_passes test n zero (o ∷ ops) holds one = here (test o) n (first_operation_place test (n + 1) ops) holds
one_passes test n (suc k) (o ∷ ops) holds one =
    further (test o) n k (first_operation_place test (n + 1) ops) (one zero)
    (one_passes test (n + 1) k ops holds (λ i h. fewer i k (one (suc i) h)))

chosen : (b : Bool) (n : ℕ) (rest : Bool) (r : Option ℕ) → rest ≡ is_some r
    → (b || rest) ≡ is_some (if b then Some n else r)
chosen true n rest r e = refl
chosen false n rest r e = e

pub any_passes : (test : Op → Bool) (n : ℕ) (ops : List Op) → list_any test ops
    ≡ is_some (first_operation_place test n ops)
any_passes test n [] = refl
any_passes test n (o ∷ ops) =
    chosen (test o) n (list_any test ops) (first_operation_place test (n + 1) ops) (any_passes test (n + 1) ops)

pub last_passes : (test : Op → Bool) (ops : List Op) (o : Op) (place : ℕ) → passes test ops place ≡ false
    → passes test (ops ++ o ∷ []) place ≡ true → (place ≡ length ops) × (test o ≡ true)
last_passes test [] o zero fails holds = (refl, holds)
last_passes test [] o (suc place) fails holds = cc
last_passes test (p ∷ ops) o zero fails holds = cc
last_passes test (p ∷ ops) o (suc place) fails holds =
    let more : (place ≡ length ops) × (test o ≡ true) = last_passes test ops o place fails holds in
    (ap suc more.0, more.1)

pub still_passes : (test : Op → Bool) (ops : List Op) (o : Op) (place : ℕ) → passes test ops place ≡ true
    → passes test (ops ++ o ∷ []) place ≡ true
still_passes test [] o place holds = cc
still_passes test (p ∷ ops) o zero holds = holds
still_passes test (p ∷ ops) o (suc place) holds = still_passes test ops o place holds

pub end_passes : (test : Op → Bool) (ops : List Op) (o : Op) → test o ≡ true
    → passes test (ops ++ o ∷ []) (length ops) ≡ true
end_passes test [] o holds = holds
end_passes test (p ∷ ops) o holds = end_passes test ops o holds

pub one_of_them : (test : Op → Bool) (ops : List Op) (place : ℕ) → passes test ops place ≡ true
    → list_any test ops ≡ true
one_of_them test [] place holds = cc
one_of_them test (o ∷ ops) zero holds = rw holds refl
one_of_them test (o ∷ ops) (suc place) holds = rw (one_of_them test ops place holds) (or-true (test o))
