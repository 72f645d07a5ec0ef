-- At how many places of a list a byte is.
use Rattle.std.proofs.Common.{◌≡◌, ℕ, zero, suc, ◌+◌, ◌-◌, ◌≤◌, ◌<◌, ◌^◌, ◌==◌, Bool, true, false, cond, List, [], ◌∷◌}
use Rattle.std.proofs.Common.{◌++◌, refl}
use Rattle.std.proofs.Common.{length, sym, ap, ◌∙◌, arith, Option, Some, None, nat_lt}
use Rattle.std.proofs.lemmas.Bool.{le-ltb, ltb-true, ltb-false}
use Rattle.std.proofs.lemmas.Bool.Decides.{nat_tests}
use Rattle.std.specs.List.{count_by}
use Rattle.std.proofs.lemmas.List.Elements.{All-head, All-tail}
use Rattle.std.proofs.lemmas.List.Sums.{sum_by-cons, sum_by-append}
use Rattle.std.specs.List.{All}
use Rattle.run_set.specs.Counts.{Counts, count, changed}
use Rattle.run_set.specs.Edges.{is_inside_run, NoneIn}
use Rattle.busdma_machine.specs.declared.machine.address.Extent.{Extent}
use Rattle.busdma_machine.specs.Runs.{addresses, run_of}
use Rattle.busdma_rules.specs.declared.position.Position.{Position}
use Rattle.busdma_rules.specs.Lending.Loans.{addresses_of, is_at}
use Rattle.loan_table.specs.Ends.{Ends}
use Rattle.loan_table.specs.Rows.{stands, AreCounted, CountsPlaces}

-- how often a byte is in a list that begins with another byte
places-cons : (a b : ℕ) (bs : List ℕ) → count_by (λ x. x == a) (b ∷ bs) ≡ cond (b == a) 1 0 + count_by (λ x. x == a) bs
places-cons a b bs = sum_by-cons (λ x. cond (x == a) 1 0) b bs

pub places-run : (a s n : ℕ) → count_by (λ x. x == a) (run_of s n) ≡ cond (is_inside_run s (s + n) a) 1 0
places-run a s zero = ap (λ b. cond b 1 0) (let x : false ≡ is_inside_run s (s + 0) a = grind (arith, nat_tests) in x)
places-run a s (suc n) =
    places-cons a s (run_of (s + 1) n) ∙ ap (λ k. cond (s == a) 1 0 + k) (places-run a (s + 1) n)
    ∙ joined a s n (s == a) (is_inside_run (s + 1) (s + 1 + n) a) refl refl
  where
    joined : (a s n : ℕ) (b t : Bool) → (s == a) ≡ b → is_inside_run (s + 1) (s + 1 + n) a ≡ t →
        cond b 1 0 + cond t 1 0 ≡ cond (is_inside_run s (s + suc n) a) 1 0
    joined a s n true true e h = absurd (grind (arith, nat_tests))
    joined a s n true false e h =
        ap (λ b. cond b 1 0) (let x : true ≡ is_inside_run s (s + suc n) a = grind (arith, nat_tests) in x)
    joined a s n false true e h =
        ap (λ b. cond b 1 0) (let x : true ≡ is_inside_run s (s + suc n) a = grind (arith, nat_tests) in x)
    joined a s n false false e h =
        ap (λ b. cond b 1 0) (let x : false ≡ is_inside_run s (s + suc n) a = grind (arith, nat_tests) in x)

more : (n : ℕ) (b : Bool) → n + cond b 1 0 ≡ changed true b n
more n true = refl
more n false = omega arith

-- a loop that counts the places of a list of bytes, at a run of them and at its end
pub places_step : (old new : Counts) (all a s n : ℕ) (bytes rest : List ℕ) → bytes ≡ run_of s n ++ rest →
    count new a ≡ changed true (is_inside_run s (s + n) a) (count old a)
    → count old a + count_by (λ x. x == a) bytes ≡ all → count new a + count_by (λ x. x == a) rest ≡ all
places_step old new all a s n bytes rest e c h =
    let here : count new a ≡ count old a + cond (is_inside_run s (s + n) a) 1 0 =
    c ∙ sym (more (count old a) (is_inside_run s (s + n) a)) in
    let run : count_by (λ x. x == a) (run_of s n) ≡ cond (is_inside_run s (s + n) a) 1 0 = places-run a s n in
    let parts : count_by (λ x. x == a) bytes ≡ count_by (λ x. x == a) (run_of s n) + count_by (λ x. x == a) rest =
    ap (λ xs. count_by (λ x. x == a) xs) e ∙ sum_by-append (λ x. cond (x == a) 1 0) (run_of s n) rest in
    omega arith

pub places_end : (places : Counts) (a all : ℕ) (bytes : List ℕ) → bytes ≡ [] →
    count places a + count_by (λ x. x == a) bytes ≡ all → count places a ≡ all
places_end places a all bytes e h =
    let none : count_by (λ x. x == a) bytes ≡ 0 = ap (λ xs. count_by (λ x. x == a) xs) e in
    omega arith

pub places_of : (a : ℕ) (ps : List Position) → count_by (λ x. x == a) (addresses_of ps) ≡ count_by (is_at a) ps
places_of a [] = refl
places_of a (p ∷ ps) = places-cons a p.pa (addresses_of ps) ∙ ap (λ k. cond (p.pa == a) 1 0 + k) (places_of a ps)
    ∙ sym (sum_by-cons (λ (x : Position). cond (x.pa == a) 1 0) p ps)

-- what the counts of a buffer say of a byte
pub counted_at : (kept : Option Counts) (places : Counts) (bytes : List ℕ) (a : ℕ) → kept ≡ Some places →
    AreCounted kept bytes → count places a ≡ stands a bytes
counted_at None places bytes a e counted = absurd (cc)
counted_at (Some p) places bytes a e counted = let same : p ≡ places = cc in sym (ap (λ c. count c a) same) ∙ counted a

pub uncounted_at : (kept : Option Counts) (bytes : List ℕ) (a : ℕ) → kept ≡ None → AreCounted kept bytes →
    nat_lt 1 (stands a bytes) ≡ false
uncounted_at None bytes a e counted = le-ltb 1 (stands a bytes) (counted a)
uncounted_at (Some p) bytes a e counted = absurd (cc)

-- how often a byte is in a list that begins with a run
pub stands_ahead : (a s n : ℕ) (bytes rest : List ℕ) → bytes ≡ run_of s n ++ rest →
    count_by (λ x. x == a) bytes ≡ cond (is_inside_run s (s + n) a) 1 0 + count_by (λ x. x == a) rest
stands_ahead a s n bytes rest e =
    ap (λ xs. count_by (λ x. x == a) xs) e ∙ sum_by-append (λ x. cond (x == a) 1 0) (run_of s n) rest
    ∙ ap (λ k. k + count_by (λ x. x == a) rest) (places-run a s n)

-- a byte is at most once in one stretch
pub stands_once : (stretches : List Extent) (a : ℕ) → length stretches ≤ 1 → stands a (addresses stretches) ≤ 1
stands_once [] a few = omega arith
stands_once (e ∷ []) a few =
    omega (arith, stands_ahead a e.pa.0 e.len _ [] refl, one (is_inside_run e.pa.0 (e.pa.0 + e.len) a))
  where
    one : (b : Bool) → ◌≤◌ (cond b 1 0) 1
    one true = omega arith
    one false = omega arith
stands_once (e ∷ f ∷ es) a few = absurd (omega (arith, few))

-- a byte is not in stretches if it lies past the end of each possible stretch
pub stands_past : (stretches : List Extent) (a : ℕ) → All Ends stretches → 2 ^ 64 ≤ a + 1 →
    stands a (addresses stretches) ≡ 0
stands_past [] a ends p = refl
stands_past (e ∷ es) a ends p =
    omega (
      arith,
      stands_ahead a e.pa.0 e.len _ (addresses es) refl,
      here (is_inside_run e.pa.0 (e.pa.0 + e.len) a) refl,
      stands_past es a (All-tail Ends e es ends) p,
    )
  where
    here : (b : Bool) → is_inside_run e.pa.0 (e.pa.0 + e.len) a ≡ b → ◌≡◌ {A = ℕ} (cond b 1 0) 0
    here false is = refl
    here true is =
        let from : e.pa.0 ≤ a = grind (arith, nat_tests) in
        let to : a < e.pa.0 + e.len = grind (arith, nat_tests) in
        absurd (omega (arith, from, to, p, All-head Ends e es ends (omega (arith, from, to))))

-- if no byte is counted twice, no byte is there twice
pub stand_once : (stretches : List Extent) (places : Counts) → All Ends stretches →
    CountsPlaces places (addresses stretches) → NoneIn (λ a. nat_lt 1 (count places a)) true 0 (2 ^ 64 - 1) →
    (a : ℕ) → stands a (addresses stretches) ≤ 1
stand_once stretches places ends counts none a = by (nat_lt a (2 ^ 64 - 1)) refl
  where
    by : (b : Bool) → nat_lt a (2 ^ 64 - 1) ≡ b → stands a (addresses stretches) ≤ 1
    by true is =
        let few : count places a ≤ 1 =
        ltb-false 1 (count places a) (none a (omega arith) (ltb-true a (2 ^ 64 - 1) is)) in
        omega (arith, few, counts a)
    by false is = omega (arith, stands_past stretches a ends (omega (arith, ltb-false a (2 ^ 64 - 1) is)))

pub stands_here : (a s n : ℕ) → s ≤ a → a < s + n → ◌≡◌ {A = ℕ} (cond (is_inside_run s (s + n) a) 1 0) 1
stands_here a s n p q = let x : is_inside_run s (s + n) a ≡ true = grind (arith, nat_tests) in
    ap {B = ℕ} (λ b. cond b 1 0) x

-- a loop that adds 1 to the count of each byte of a list, or subtracts 1, at a run of them
pub counted_on : (up here : Bool) (old new all bytes rest start : ℕ) → new ≡ changed up here old →
    (up ≡ false → here ≡ true → 0 < old) → bytes ≡ cond here 1 0 + rest →
    old + cond up 0 all + cond up bytes 0 ≡ start + cond up all 0 + cond up 0 bytes →
    new + cond up 0 all + cond up rest 0 ≡ start + cond up all 0 + cond up 0 rest
counted_on true true old new all bytes rest start is some parts h = omega (arith, is, parts, h)
counted_on true false old new all bytes rest start is some parts h = omega (arith, is, parts, h)
counted_on false true old new all bytes rest start is some parts h = omega (arith, is, some refl refl, parts, h)
counted_on false false old new all bytes rest start is some parts h = omega (arith, is, parts, h)

pub held_on : (here : Bool) (old new bytes rest : ℕ) → new ≡ changed false here old → bytes ≡ cond here 1 0 + rest →
    bytes ≤ old → rest ≤ new
held_on true old new bytes rest is parts h = omega (arith, is, parts, h)
held_on false old new bytes rest is parts h = omega (arith, is, parts, h)
