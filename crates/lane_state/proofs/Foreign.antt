-- Which byte of a load is the first that is memory and not the map's.
use Rattle.std.proofs.Common.{◌≡◌, ℕ, zero, suc, ◌+◌, ◌-◌, ◌≤◌, ◌<◌, ◌==◌, ◌&&◌, ◌||◌, not, Bool, true, false}
use Rattle.std.proofs.Common.{List, [], ◌∷◌, ◌++◌, drop, slice_index_or, length, Option, Some, None, refl, sym, ap}
use Rattle.std.proofs.Common.{◌∙◌, arith, nat_le, nat_lt, inl, inr, ◌⊎◌}
use Rattle.std.proofs.lemmas.Bool.Decides.{nat_tests}
use Rattle.std.specs.List.{enumerate_from, list_any}
use Rattle.std.specs.Option.{option_or}
use Rattle.busdma_machine.specs.declared.report.Judged.{Judged}
use Rattle.busdma_machine.specs.declared.report.Judged.TheVariants.{Fine, Refused}
use Rattle.busdma_machine.specs.declared.report.Report.{Report}
use Rattle.busdma_machine.specs.declared.report.ReportName.{ReportName}
use Rattle.busdma_machine.specs.Judging.{judged, refused_or}
use Rattle.busdma_machine.specs.declared.machine.address.Span.{Span}
use Rattle.busdma_machine.specs.Machine.Spans.{span_addresses}
use Rattle.busdma_machine.specs.Runs.{run_of}
use Rattle.std.proofs.Math.Seq.{drop-cons}
use Rattle.lane_state.specs.Judging.{earlier, foreign_refusal, foreign_at}
use Rattle.lane_state.proofs.Earlier.{judged-either, judged-alike}

-- a byte of a run is refused if it lies in this other run
abbrev pub within : ℕ → ℕ → ℕ → Option ReportName
within b n v = foreign_refusal (nat_le b v && nat_lt v (b + n))

-- none of the run lies there
pub none-within : (b n v len k : ℕ) → (b + n ≤ v) ⊎ ((v + len ≤ b) ⊎ ((n ≡ 0) ⊎ (len ≡ 0))) →
    judged (within b n) k (run_of v len) ≡ Fine
none-within b n v zero k h = refl
none-within b n v (suc len) k h =
    let off : (nat_le b v && nat_lt v (b + n)) ≡ false = grind (arith, nat_tests, h) in
    ap (λ t. refused_or (foreign_refusal t) k (judged (within b n) (k + 1) (run_of (v + 1) len))) off
    ∙ none-within b n (v + 1) len (k + 1) (grind (arith, h))

-- the first byte of the run that lies in the other one is refused first
pub first-within : (b n v len k m : ℕ) → b ≤ m → v ≤ m → (m ≡ b) ⊎ (m ≡ v) → m < b + n → m < v + len →
    judged (within b n) k (run_of v len) ≡ foreign_at (k + (m - v))
first-within b n v zero k m p q e x y = absurd (omega arith)
first-within b n v (suc len) k m p q e x y =
    by (nat_le b v) refl (λ q e y. first-within b n (v + 1) len (k + 1) m p q e x y)
  where
    by : (t : Bool) → nat_le b v ≡ t → (v + 1 ≤ m → (m ≡ b) ⊎ (m ≡ v + 1) → m < v + 1 + len →
        judged (within b n) (k + 1) (run_of (v + 1) len) ≡ foreign_at (k + 1 + (m - (v + 1)))) →
        refused_or (foreign_refusal (t && nat_lt v (b + n))) k (judged (within b n) (k + 1) (run_of (v + 1) len))
        ≡ foreign_at (k + (m - v))
    by true h rest =
        let le : b ≤ v = grind (arith, nat_tests) in
        let here : m ≡ v = grind (arith, le, e) in
        let on : nat_lt v (b + n) ≡ true = grind (arith, nat_tests, here, x) in
        let place : k ≡ k + (m - v) = omega (arith, here) in
        ap (λ t. refused_or (foreign_refusal t) k (judged (within b n) (k + 1) (run_of (v + 1) len))) on
        ∙ ap foreign_at place
    by false h rest =
        let lt : v < b = grind (arith, nat_tests) in
        let there : m ≡ b = grind (arith, lt, p, e) in
        let place : k + 1 + (m - (v + 1)) ≡ k + (m - v) = omega (arith, there, lt) in
        rest (omega (arith, there, lt)) (inl there) (omega (arith, y)) ∙ ap foreign_at place

-- a byte at its place is refused unless it is the byte of a run at this place
abbrev pub off_place : ℕ → ℕ → ℕ × ℕ → Option ReportName
off_place b n x = foreign_refusal (not (x.1 == b + x.0 && nat_lt x.0 n))

pub none-off : (b n v len i : ℕ) → v ≡ b + i → i + len ≤ n →
    judged (off_place b n) i (enumerate_from i (run_of v len)) ≡ Fine
none-off b n v zero i e h = refl
none-off b n v (suc len) i e h =
    let on : not (v == b + i && nat_lt i n) ≡ false = grind (arith, nat_tests, e, h) in
    ap (λ t. refused_or (foreign_refusal t) i (judged (off_place b n) (i + 1)
    (enumerate_from (i + 1) (run_of (v + 1) len)))) on
    ∙ none-off b n (v + 1) len (i + 1) (omega (arith, e)) (omega (arith, h))

pub first-off : (b n v len i : ℕ) → v ≡ b + i → i ≤ n → n < i + len →
    judged (off_place b n) i (enumerate_from i (run_of v len)) ≡ foreign_at n
first-off b n v zero i e h k = absurd (omega arith)
first-off b n v (suc len) i e h k =
    by (nat_lt i n) refl (λ e h k. first-off b n (v + 1) len (i + 1) e h k)
  where
    by : (t : Bool) → nat_lt i n ≡ t → (v + 1 ≡ b + (i + 1) → i + 1 ≤ n → n < i + 1 + len →
        judged (off_place b n) (i + 1) (enumerate_from (i + 1) (run_of (v + 1) len)) ≡ foreign_at n) →
        refused_or (foreign_refusal (not (v == b + i && t))) i
        (judged (off_place b n) (i + 1) (enumerate_from (i + 1) (run_of (v + 1) len))) ≡ foreign_at n
    by true t rest =
        let lt : i < n = grind (arith, nat_tests) in
        let on : not (v == b + i && true) ≡ false = grind (arith, nat_tests, e) in
        ap (λ t. refused_or (foreign_refusal t) i
        (judged (off_place b n) (i + 1) (enumerate_from (i + 1) (run_of (v + 1) len)))) on
        ∙ rest (omega (arith, e)) (omega (arith, lt)) (omega (arith, k))
    by false t rest =
        let here : i ≡ n = grind (arith, nat_tests, h) in
        let off : not (v == b + i && false) ≡ true = grind (arith, nat_tests) in
        ap (λ t. refused_or (foreign_refusal t) i
        (judged (off_place b n) (i + 1) (enumerate_from (i + 1) (run_of (v + 1) len)))) off
        ∙ ap foreign_at here

pub away-off : (b n v len i : ℕ) → ¬ (v ≡ b + i) → 0 < len →
    judged (off_place b n) i (enumerate_from i (run_of v len)) ≡ foreign_at i
away-off b n v zero i e h = absurd (omega arith)
away-off b n v (suc len) i e h =
    let off : not (v == b + i && nat_lt i n) ≡ true = grind (arith, nat_tests, e) in
    ap (λ t. refused_or (foreign_refusal t) i
    (judged (off_place b n) (i + 1) (enumerate_from (i + 1) (run_of (v + 1) len)))) off

-- the first byte at its place is past the run's end
pub past-off : (b n v len i : ℕ) → n ≤ i → 0 < len →
    judged (off_place b n) i (enumerate_from i (run_of v len)) ≡ foreign_at i
past-off b n v zero i e h = absurd (omega arith)
past-off b n v (suc len) i e h =
    let off : not (v == b + i && nat_lt i n) ≡ true = grind (arith, nat_tests, e) in
    ap (λ t. refused_or (foreign_refusal t) i
    (judged (off_place b n) (i + 1) (enumerate_from (i + 1) (run_of (v + 1) len)))) off

-- the first refused byte is the later of that place and the run's end
pub max-off : (b n v len i m : ℕ) → v ≡ b + i → n ≤ m → i ≤ m → (m ≡ n) ⊎ (m ≡ i) → m < i + len →
    judged (off_place b n) i (enumerate_from i (run_of v len)) ≡ foreign_at m
max-off b n v len i m e p q is inside = by (nat_le i n) refl
  where
    by : (t : Bool) → nat_le i n ≡ t → judged (off_place b n) i (enumerate_from i (run_of v len)) ≡ foreign_at m
    by true t =
        let le : i ≤ n = grind (arith, nat_tests, t) in
        let same : n ≡ m = grind (arith, le, is, p, q) in
        first-off b n v len i e le (omega (arith, same, inside)) ∙ ap foreign_at same
    by false t =
        let past : n ≤ i = grind (arith, nat_tests, t) in
        let same : i ≡ m = grind (arith, past, is, p, q) in
        past-off b n v len i past (omega (arith, same, inside)) ∙ ap foreign_at same

pub none-past : (b n v len i m : ℕ) → v ≡ b + i → n ≤ m → i ≤ m → (m ≡ n) ⊎ (m ≡ i) → i + len ≤ m →
    judged (off_place b n) i (enumerate_from i (run_of v len)) ≡ Fine
none-past b n v len i m e p q (inl is) past = none-off b n v len i e (omega (arith, is, past))
none-past b n v len i m e p q (inr is) past =
    let none : len ≡ 0 = omega (arith, is, past) in
    ap (λ k. judged (off_place b n) i (enumerate_from i (run_of v k))) none

-- bytes of frames are refused from the first on
pub each-foreign : (v len i : ℕ) → 0 < len →
    judged (λ (x : ℕ × ℕ). foreign_refusal true) i (enumerate_from i (run_of v len)) ≡ foreign_at i
each-foreign v zero i h = absurd (omega arith)
each-foreign v (suc len) i h = refl

-- if the first of two parts of bytes passes, the second part decides
pub then-judged : (f : ℕ × ℕ → Option ReportName) (i : ℕ) (xs ys : List ℕ) →
    judged f i (enumerate_from i xs) ≡ Fine →
    judged f i (enumerate_from i (xs ++ ys)) ≡ judged f (i + length xs) (enumerate_from (i + length xs) ys)
then-judged f i [] ys h = ap (λ k. judged f k (enumerate_from k ys)) (let e : i ≡ i + 0 = omega arith in e)
then-judged f i (x ∷ xs) ys h = by (f (i, x)) h (then-judged f (i + 1) xs ys)
  where
    by : (o : Option ReportName) → refused_or o i (judged f (i + 1) (enumerate_from (i + 1) xs)) ≡ Fine →
        (judged f (i + 1) (enumerate_from (i + 1) xs) ≡ Fine →
        judged f (i + 1) (enumerate_from (i + 1) (xs ++ ys))
        ≡ judged f (i + 1 + length xs) (enumerate_from (i + 1 + length xs) ys)) →
        refused_or o i (judged f (i + 1) (enumerate_from (i + 1) (xs ++ ys)))
        ≡ judged f (i + length (x ∷ xs)) (enumerate_from (i + length (x ∷ xs)) ys)
    by None h rest =
        rest h ∙ ap (λ k. judged f k (enumerate_from k ys))
        (let e : i + 1 + length xs ≡ i + length (x ∷ xs) = omega arith in e)
    by (Some name) h rest = absurd (cc)

pub first-judged : (f : ℕ × ℕ → Option ReportName) (i : ℕ) (xs ys : List ℕ) (r : Report) →
    judged f i (enumerate_from i xs) ≡ Refused r → judged f i (enumerate_from i (xs ++ ys)) ≡ Refused r
first-judged f i [] ys r h = absurd (cc)
first-judged f i (x ∷ xs) ys r h = by (f (i, x)) h (first-judged f (i + 1) xs ys r)
  where
    by : (o : Option ReportName) → refused_or o i (judged f (i + 1) (enumerate_from (i + 1) xs)) ≡ Refused r →
        (judged f (i + 1) (enumerate_from (i + 1) xs) ≡ Refused r →
        judged f (i + 1) (enumerate_from (i + 1) (xs ++ ys)) ≡ Refused r) →
        refused_or o i (judged f (i + 1) (enumerate_from (i + 1) (xs ++ ys))) ≡ Refused r
    by None h rest = rest h
    by (Some name) h rest = h

-- a judgement that is no refusal
pub only-fine : (j : Judged) → ((r : Report) → j ≡ Refused r → ⊥) → j ≡ Fine
only-fine Fine h = refl
only-fine (Refused r) h = absurd (h r refl)

-- the bytes of spans from an index on
pub rest-of-spans : (spans : List Span) (i : ℕ) → i < length spans →
    (let s : Span = slice_index_or spans i (record { va = record { 0 = 0 }; len = 0 }) in
    span_addresses (drop i spans) ≡ run_of s.va.0 s.len ++ span_addresses (drop (i + 1) spans))
rest-of-spans spans i inside =
    let next : suc i ≡ i + 1 = omega arith in
    ap span_addresses (drop-cons spans i (record { va = record { 0 = 0 }; len = 0 }) inside
    ∙ ap (λ j. slice_index_or spans i (record { va = record { 0 = 0 }; len = 0 }) ∷ drop j spans) next)

-- a byte is in one of the runs if it is in one more run
pub any-within : {E : Type 0} (is : E → ℕ → Bool) (e : E) (es : List E) (k : ℕ) (vas : List ℕ) →
    judged (λ v. foreign_refusal (list_any (λ x. is x v) (e ∷ es))) k vas
    ≡ earlier (judged (λ v. foreign_refusal (is e v)) k vas)
    (judged (λ v. foreign_refusal (list_any (λ x. is x v) es)) k vas)
any-within is e es k vas =
    judged-alike (λ v. foreign_refusal (list_any (λ x. is x v) (e ∷ es)))
    (λ v. option_or (foreign_refusal (is e v)) (foreign_refusal (list_any (λ x. is x v) es)))
    (λ v. either (is e v) (list_any (λ x. is x v) es)) k vas
    ∙ sym (judged-either (λ v. foreign_refusal (is e v)) (λ v. foreign_refusal (list_any (λ x. is x v) es)) k vas)
  where
    either : (a b : Bool) → foreign_refusal (a || b) ≡ option_or (foreign_refusal a) (foreign_refusal b)
    either true b = refl
    either false true = refl
    either false false = refl

pub nothing-foreign : (k : ℕ) (vas : List ℕ) → judged (λ v. foreign_refusal false) k vas ≡ Fine
nothing-foreign k [] = refl
nothing-foreign k (v ∷ vas) = nothing-foreign (k + 1) vas

pub nothing-refused : (k : ℕ) (xs : List (ℕ × ℕ)) → judged (λ (x : ℕ × ℕ). foreign_refusal false) k xs ≡ Fine
nothing-refused k [] = refl
nothing-refused k (x ∷ xs) = nothing-refused (k + 1) xs

pub fine-last : (j : Judged) → earlier j Fine ≡ j
fine-last Fine = refl
fine-last (Refused r) = refl
