-- Judgements of runs of addresses.
use Rattle.std.proofs.Common.{◌≡◌, ℕ, zero, suc, ◌+◌, ◌-◌, ◌<◌, ◌≤◌, List, [], ◌∷◌, ◌++◌, length, slice_get, Option}
use Rattle.std.proofs.Common.{Some, None, refl, sym, ap, ◌∙◌, arith}
use Rattle.busdma_machine.specs.declared.report.Judged.{Judged}
use Rattle.busdma_machine.specs.declared.report.Judged.TheVariants.{Fine, Refused}
use Rattle.busdma_machine.specs.declared.report.Report.{Report}
use Rattle.busdma_machine.specs.declared.report.ReportName.{ReportName}
use Rattle.busdma_machine.specs.Judging.{judged, refused_or}
use Rattle.busdma_machine.specs.Runs.{run_of}
use Rattle.ideal_wire.proofs.Laid.Positions.{found_one}
use Rattle.loan_table.proofs.Judgement.{judged-fine, judged-refused, judged-some, length-run_of}
use Rattle.loan_table.proofs.Stretches.{run_of_sum}

-- a run with an address
pub run-some : (a n : ℕ) → 0 < n → run_of a n ≡ a ∷ run_of (a + 1) (n - 1)
run-some a zero h = absurd (omega (arith, h))
run-some a (suc n) h = let e : suc n - 1 ≡ n = omega arith in ap (λ k. a ∷ run_of (a + 1) k) (sym e)

-- an address of a run
pub run-get : (a n i x : ℕ) → slice_get (run_of a n) i ≡ Some x → (i < n) × (x ≡ a + i)
run-get a zero i x h = absurd (cc)
run-get a (suc n) zero x h =
    let e = found_one (Some a) a x refl h in (omega arith, omega (arith, e))
run-get a (suc n) (suc i) x h =
    let r = run-get (a + 1) n i x h in let e = r.1 in let l = r.0 in (omega (arith, l), omega (arith, e))

pub run-at : (a n i : ℕ) → i < n → slice_get (run_of a n) i ≡ Some (a + i)
run-at a zero i h = absurd (omega (arith, h))
run-at a (suc n) zero h = let e : a ≡ a + 0 = omega arith in ap Some e
run-at a (suc n) (suc i) h = let e : a + 1 + i ≡ a + suc i = omega arith in run-at (a + 1) n i (omega (arith, h))
    ∙ ap Some e

-- a run in two parts
pub run-parts : (a n len : ℕ) → n ≤ len → run_of a len ≡ run_of a n ++ run_of (a + n) (len - n)
run-parts a n len h = let e : len ≡ n + (len - n) = omega (arith, h) in ap (run_of a) e ∙ run_of_sum a n (len - n)

-- a judgement whose places are all further on by this distance
abbrev pub moved_on : ℕ → Judged → Judged
moved_on d Fine = Fine
moved_on d (Refused r) = Refused (record { name = r.name; at = d + r.at })

moved-or : (d at : ℕ) (o : Option ReportName) (rest : Judged) → refused_or o (d + at) (moved_on d rest)
    ≡ moved_on d (refused_or o at rest)
moved-or d at None rest = refl
moved-or d at (Some name) rest = refl

-- what is judged from a later place on is judged in the same way
pub judged-moved : {X : Type 0} (f : X → Option ReportName) (d at : ℕ) (xs : List X) →
    judged f (d + at) xs ≡ moved_on d (judged f at xs)
judged-moved f d at [] = refl
judged-moved f d at (x ∷ xs) =
    let e : d + at + 1 ≡ d + (at + 1) = omega arith in
    ap (refused_or (f x) (d + at)) (ap (λ k. judged f k xs) e ∙ judged-moved f d (at + 1) xs)
    ∙ moved-or d at (f x) (judged f (at + 1) xs)

refused-in : (o : Option ReportName) (at n : ℕ) (rest : Judged) (r : Report) →
    ((q : Report) → rest ≡ Refused q → q.at < at + 1 + n) → refused_or o at rest ≡ Refused r → r.at < at + suc n
refused-in None at n rest r h e = let k = h r e in omega (arith, k)
refused-in (Some name) at n rest r h e =
    let same : at ≡ r.at = ap (λ (j : Judged). place at j) e in omega (arith, same)
  where
    place : ℕ → Judged → ℕ
    place d Fine = d
    place d (Refused q) = q.at

-- a refusal is of one of what is judged
pub refused-within : {X : Type 0} (f : X → Option ReportName) (at : ℕ) (xs : List X) (r : Report) →
    judged f at xs ≡ Refused r → r.at < at + length xs
refused-within f at [] r h = absurd (cc)
refused-within f at (x ∷ xs) r h =
    refused-in (f x) at (length xs) (judged f (at + 1) xs) r (λ q e. refused-within f (at + 1) xs q e) h

-- two lists of which each pair is refused alike are judged alike
pub judged-pairs : {X Y : Type 0} (f : X → Option ReportName) (g : Y → Option ReportName) (at : ℕ) (xs : List X)
    (ys : List Y) → length xs ≡ length ys → ((i : ℕ) (x : X) (y : Y) → slice_get xs i ≡ Some x →
    slice_get ys i ≡ Some y → f x ≡ g y) → judged f at xs ≡ judged g at ys
judged-pairs f g at [] [] size h = refl
judged-pairs f g at [] (y ∷ ys) size h = absurd (cc)
judged-pairs f g at (x ∷ xs) [] size h = absurd (cc)
judged-pairs f g at (x ∷ xs) (y ∷ ys) size h =
    ap (λ o. refused_or o at (judged f (at + 1) xs)) (h 0 x y refl refl)
    ∙ ap (refused_or (g y) at)
    (judged-pairs f g (at + 1) xs ys (omega (arith, size)) (λ i a b p q. h (suc i) a b p q))

-- a walk over a run of addresses, of which the first `done` were judged Fine
module _ (f : ℕ → Option ReportName) (addr done len : ℕ) (all : Judged)
    (left : judged f done (run_of (addr + done) (len - done)) ≡ all) (more : done < len) where
  -- the next is refused
  pub stops-here : (name : ReportName) → f (addr + done) ≡ Some name → Refused (record { name = name; at = done }) ≡ all
  stops-here name some =
      judged-some f done _ _ (addr + done) name all (run-some (addr + done) (len - done) (omega (arith, more))) some
      left

  module _ (n : ℕ) (short : n ≤ len - done) where
    abbrev here : List ℕ
    here = run_of (addr + done) n

    abbrev later : List ℕ
    later = run_of (addr + done + n) (len - done - n)

    parts : judged f done (here ++ later) ≡ all
    parts = sym (ap (judged f done) (run-parts (addr + done) n (len - done) short)) ∙ left

    there : judged f done here ≡ moved_on done (judged f 0 here)
    there = let e : done ≡ done + 0 = omega arith in ap (λ k. judged f k here) e ∙ judged-moved f done 0 here

    -- one of the next n is refused
    pub stops : (r : Report) → judged f 0 here ≡ Refused r →
        Refused (record { name = r.name; at = done + r.at }) ≡ all
    stops r is =
        sym (judged-refused f done here later (record { name = r.name; at = done + r.at })
        (there ∙ ap (moved_on done) is)) ∙ parts

    -- none of the next n is refused
    pub goes-on : judged f 0 here ≡ Fine → judged f (done + n) (run_of (addr + (done + n)) (len - (done + n))) ≡ all
    goes-on is =
        let size = length-run_of (addr + done) n in
        let e : addr + (done + n) ≡ addr + done + n = omega arith in
        let k : len - (done + n) ≡ len - done - n = omega arith in
        ap (λ a. judged f (done + n) (run_of a (len - (done + n)))) e
        ∙ ap (λ c. judged f (done + n) (run_of (addr + done + n) c)) k
        ∙ sym (ap (λ c. judged f (done + c) later) size)
        ∙ sym (judged-fine f done here later (there ∙ ap (moved_on done) is)) ∙ parts

-- where a walk ends
pub ended : (f : ℕ → Option ReportName) (addr done len : ℕ) (all : Judged) →
    judged f done (run_of (addr + done) (len - done)) ≡ all → len ≤ done → Fine ≡ all
ended f addr done len all left h =
    let e : len - done ≡ 0 = omega (arith, h) in
    sym (ap (λ n. judged f done (run_of (addr + done) n)) e) ∙ left
