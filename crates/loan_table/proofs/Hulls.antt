-- A run in which all bytes of a map lie.
use Rattle.std.proofs.Common.{◌≡◌, ℕ, zero, suc, ◌+◌, ◌<◌, ◌≤◌, List, [], ◌∷◌, length, drop, get_or}
use Rattle.std.proofs.Common.{Option, Some, None, refl, ap, ◌∙◌, arith}
use Rattle.std.proofs.lemmas.List.{get_or-drop, get_or-take, get_or-map, length-map, length-take}
use Rattle.std.proofs.lemmas.List.Elements.{All-append}
use Rattle.std.specs.List.{All}
use Rattle.std.specs.Option.{IfSome}
use Rattle.busdma_machine.specs.declared.machine.address.Extent.{Extent}
use Rattle.busdma_machine.specs.declared.report.ReportName.{ReportName}
use Rattle.busdma_machine.specs.declared.report.Judged.TheVariants.{Fine}
use Rattle.busdma_machine.specs.Judging.{judged, refused_or}
use Rattle.busdma_machine.specs.Machine.Wire.{stretch}
use Rattle.busdma_machine.specs.Runs.{addresses, run_of}
use Rattle.busdma_rules.specs.declared.position.Position.{Position}
use Rattle.busdma_rules.specs.Lending.Loans.{addresses_of}
use Rattle.loan_table.specs.Rows.{AreWithin, LiesFromTo}
use Rattle.loan_table.proofs.Addresses.{no_extent}
use Rattle.loan_table.proofs.MarkLaws.{no_position}

-- what lies between two addresses lies between two that are farther apart
pub loosened : (f e f' e' : ℕ) (x : Extent) → f' ≤ f → e ≤ e' → LiesFromTo f e x → LiesFromTo f' e' x
loosened f e f' e' x p q h = record { from = λ s. omega (arith, h.from s); to = λ s. omega (arith, h.to s) }

-- the bytes of a run lie between two addresses if the run does
run_within : (first end a n : ℕ) → first ≤ a → a + n ≤ end → All (λ b. (first ≤ b) × (b < end)) (run_of a n)
run_within first end a zero p q k d lt = absurd (omega (arith, lt))
run_within first end a (suc n) p q zero d lt = (p, omega arith)
run_within first end a (suc n) p q (suc k) d lt =
    run_within first end (a + 1) n (omega arith) (omega arith) k d (omega (arith, lt))

extent_within : (first end : ℕ) (x : Extent) → LiesFromTo first end x →
    All (λ b. (first ≤ b) × (b < end)) (run_of x.pa.0 x.len)
extent_within first end x h = by x.len refl
  where
    by : (n : ℕ) → x.len ≡ n → All (λ b. (first ≤ b) × (b < end)) (run_of x.pa.0 n)
    by zero is = λ k d lt. absurd (omega (arith, lt))
    by (suc n) is =
        run_within first end x.pa.0 (suc n) (h.from (omega arith)) (let to = h.to (omega arith) in omega (arith, to))

-- the bytes of extents that lie in a run
pub all_within : (run : Extent) (xs : List Extent) → All (LiesFromTo run.pa.0 (run.pa.0 + run.len)) xs →
    AreWithin run (addresses xs)
all_within run [] h = λ k d lt. absurd (omega (arith, lt))
all_within run (x ∷ xs) h =
    All-append (λ a. (run.pa.0 ≤ a) × (a < run.pa.0 + run.len)) (run_of x.pa.0 x.len) (addresses xs)
    (extent_within run.pa.0 (run.pa.0 + run.len) x (h 0 no_extent (omega arith)))
    (all_within run xs (λ k d lt. h (suc k) d (omega (arith, lt))))

-- a fact that follows for each value follows for an optional value
pub each_some : {X : Type 0} (P Q : X → Type 0) (o : Option X) → ((x : X) → P x → Q x) → IfSome o P → IfSome o Q
each_some P Q None f h = h
each_some P Q (Some x) f h = f x h

-- a list is Fine if no position of it is refused
fine_all : (f : Position → Option ReportName) (at : ℕ) (qs : List Position) →
    ((i : ℕ) → i < length qs → f (get_or qs i no_position) ≡ None) → judged f at qs ≡ Fine
fine_all f at [] h = refl
fine_all f at (q ∷ qs) h =
    ap (λ o. refused_or o at (judged f (at + 1) qs)) (h 0 (omega arith))
    ∙ fine_all f (at + 1) qs (λ i lt. h (suc i) (omega (arith, lt)))

-- a range is Fine if no position is refused
pub fine_range : (f : Position → Option ReportName) (off len : ℕ) (ps : List Position) → off + len ≤ length ps →
    All (λ p. f p ≡ None) ps → judged f off (stretch off len ps) ≡ Fine
fine_range f off len ps range all =
    fine_all f off (stretch off len ps) (λ i lt.
    let long = length-take len (drop off ps) in
    let here : get_or (stretch off len ps) i no_position ≡ get_or ps (off + i) no_position =
    get_or-take len (drop off ps) i no_position (omega (arith, long, lt)) ∙ get_or-drop off ps i no_position in
    ap f here ∙ all (off + i) no_position (omega (arith, long, lt, range)))

-- if nothing is refused in a run, then nothing is refused at positions whose bytes all lie in it
pub met_nowhere : (f : Position → Option ReportName) (run : Extent) (ps : List Position) →
    AreWithin run (addresses_of ps) →
    All (λ p. run.pa.0 ≤ p.pa → p.pa < run.pa.0 + run.len → f p ≡ None) ps → All (λ p. f p ≡ None) ps
met_nowhere f run ps within h k d lt =
    let long = length-map ps (λ p. p.pa) in
    let is : get_or (addresses_of ps) k 0 ≡ (get_or ps k d).pa = get_or-map (λ p. p.pa) ps k d 0 lt in
    let here = within k 0 (omega (arith, long, lt)) in
    h k d lt (omega (arith, is, here.0)) (omega (arith, is, here.1))
