-- Bytes that no map lends.
use Rattle.std.proofs.Common.{◌≡◌, ℕ, zero, suc, ◌+◌, ◌-◌, ◌≤◌, ◌<◌, ◌&&◌, ◌||◌, not, ◌==◌, Bool, true, false, cond}
use Rattle.std.proofs.Common.{if◌then◌else◌}
use Rattle.std.proofs.Common.{List, [], ◌∷◌, ◌++◌, length, take, drop, get_or, nat_lt, Option, Some, None}
use Rattle.std.proofs.Common.{refl, sym, ap, ◌∙◌, subst, arith}
use Rattle.std.proofs.lemmas.Bool.Decides.{nat_tests}
use Rattle.std.specs.Option.{option_or}
use Rattle.std.specs.List.{All}
use Rattle.std.proofs.lemmas.List.{get_or-drop, get_or-take, length-take, take-append-le, take-map, take-take}
use Rattle.std.proofs.lemmas.List.Elements.{All-get_or, All-from_get_or}
use Rattle.busdma_machine.specs.declared.report.ReportName.{ReportName}
use Rattle.busdma_machine.specs.declared.report.ReportName.TheVariants.{CpuWriteLent, Overlap, SyncOrder}
use Rattle.busdma_machine.specs.declared.report.Judged.TheVariants.{Fine}
use Rattle.busdma_machine.specs.Judging.{judged, refused_or}
use Rattle.busdma_machine.specs.Machine.Wire.{stretch}
use Rattle.busdma_machine.specs.Runs.{run_of}
use Rattle.busdma_rules.specs.Tags.SyncOps.{preread, prewrite, postread}
use Rattle.busdma_rules.specs.declared.position.Position.{Position}
use Rattle.loan_table.specs.declared.lent.LentCounts.{LentCounts}
use Rattle.loan_table.specs.declared.row.Way.{Way}
use Rattle.loan_table.specs.declared.row.Way.TheVariants.{ToWrite, ToRead}
use Rattle.loan_table.specs.declared.access.Access.TheVariants.{Write}
use Rattle.loan_table.specs.Counted.{counted_places, lent_places, AreUnlent}
use Rattle.loan_table.specs.Counted.{IsCounted, IsOf, Lender, MeetsNothing}
use Rattle.loan_table.specs.Kinds.{cpu_refusal, test_of}
use Rattle.busdma_rules.specs.Lending.SyncEffects.{postread_refusal, preread_refusal, prewrite_refusal, sync_refusal}
use Rattle.busdma_rules.specs.Lending.Loans.{Loan, Loans, addresses_of, in_any_way, lent, lent_elsewhere, loan_of}
use Rattle.busdma_rules.specs.Lending.Loans.{stands_twice}
use Rattle.busdma_rules.specs.Lending.Loans.{to_write}
use Rattle.loan_table.proofs.Addresses.{run_none}
use Rattle.loan_table.proofs.Judgement.{length-run_of}
use Rattle.loan_table.proofs.MarkLaws.{no_position}
use Rattle.loan_table.proofs.Pieces.{two_parts}
use Rattle.loan_table.proofs.Recounting.{places-cons}
use Rattle.loan_table.proofs.SameRefusals.{run_passed}
use Rattle.loan_table.proofs.Stretches.{take_run}
use Rattle.loan_table.proofs.Totals.{elsewhere_any, elsewhere_counted, lent_any, not_lent, places-remove}

-- the driver may write bytes that are not lent
pub writes_pass : (counts : LentCounts) (loans : Loans) → IsCounted counts loans → (known : ℕ → Bool) (at pa n : ℕ) →
    AreUnlent counts pa (pa + n) → judged (cpu_refusal Write known loans) at (run_of pa n) ≡ Fine
writes_pass counts loans counted known at pa n unlent =
    let long : n ≡ pa + n - pa = omega arith in
    ap (λ k. judged refusal at (run_of pa k)) long
    ∙ run_passed refusal at pa (pa + n) (pa + n) (omega arith) (omega arith) passed
    ∙ ap (judged refusal (at + (pa + n - pa))) (run_none (pa + n) (pa + n) (omega arith))
  where
    refusal : ℕ → Option ReportName
    refusal = cpu_refusal Write known loans

    none : (way : Way) (a : ℕ) → pa ≤ a → a < pa + n → lent (test_of way) a loans ≡ false
    none way a from to = not_lent (test_of way) a loans _ (counted way a) (unlent a from to way)

    any : (a : ℕ) → pa ≤ a → a < pa + n → lent in_any_way a loans ≡ false
    any a from to =
        lent_any a loans ∙ ap (λ b. b || lent to_write a loans) (none ToRead a from to) ∙ none ToWrite a from to

    passed : (a : ℕ) → pa ≤ a → a < pa + n → refusal a ≡ None
    passed a from to = ap (λ b. if b then Some CpuWriteLent else None) (any a from to)

-- the count of a byte is at least 1 if one of its positions is lent
same_byte : (n : ℕ) → (n == n) ≡ true
same_byte n = grind (arith, nat_tests)

counted_at : (way : Position → Bool) (ps : List Position) (i : ℕ) → i < length ps →
    cond (way (get_or ps i no_position)) 1 0 ≤ counted_places way (get_or ps i no_position).pa ps
counted_at way [] i lt = absurd (omega arith)
counted_at way (p ∷ ps) zero lt =
    let first : counted_places way p.pa (p ∷ ps) ≡ cond (way p) 1 0 + counted_places way p.pa ps =
    places-cons way p.pa p ps ∙ ap (λ b. cond (b && way p) 1 0 + counted_places way p.pa ps) (same_byte p.pa) in
    omega (arith, first)
counted_at way (p ∷ ps) (suc i) lt =
    omega (arith, places-cons way (get_or ps i no_position).pa p ps, counted_at way ps i (omega arith))

not_one : (b : Bool) → cond b 1 0 ≤ 0 → b ≡ false
not_one true h = absurd (omega arith)
not_one false h = refl

none_above : (m n : ℕ) → n ≡ 0 → nat_lt m n ≡ false
none_above m n e = grind (arith, nat_tests)

both_none : (w r : Bool) (o q : Option ReportName) → o ≡ None → (r ≡ true → q ≡ None) →
    option_or (if w then o else None) (if r then q else None) ≡ None
both_none true true o q e f = ap (λ x. option_or x q) e ∙ f refl
both_none true false o q e f = ap (λ x. option_or x None) e
both_none false true o q e f = f refl
both_none false false o q e f = refl

pub clash : {X : Type 0} (b : Bool) → not b ≡ true → b ≡ true → X
clash true p q = absurd (cc)
clash false p q = absurd (cc)

-- a sync call is refused nowhere at bytes that no map lends, and that are only once in the buffer if that is
-- asked
module _ (counts : LentCounts) (loan : Loan) (lender : Lender) (of : IsOf counts loan lender) (ops start len : ℕ)
    (no_post : postread ops ≡ false) (unlent : AreUnlent counts start (start + len))
    (once : preread ops ≡ true → (a : ℕ) → start ≤ a → a < start + len → stands_twice a loan ≡ false) where
  module _ (i : ℕ) (lt : i < length loan.positions) (from : start ≤ (get_or loan.positions i no_position).pa)
      (to : (get_or loan.positions i no_position).pa < start + len) where
    abbrev p : Position
    p = get_or loan.positions i no_position

    none : (way : Way) → lent_places (test_of way) p.pa lender.loans ≡ 0
    none way = sym (of.0 way p.pa) ∙ unlent p.pa from to way

    not_lent_here : (way : Way) → test_of way p ≡ false
    not_lent_here way =
        let own = ap (λ (l : Loan). counted_places (test_of way) p.pa l.positions) of.1 in
        not_one (test_of way p) (omega (
          arith,
          own,
          none way,
          places-remove (test_of way) p.pa lender.loans lender.map,
          counted_at (test_of way) loan.positions i lt,
        ))

    elsewhere : (way : Way) → lent_elsewhere (test_of way) lender.map p.pa lender.loans ≡ false
    elsewhere way =
        elsewhere_counted (test_of way) p.pa lender.loans lender.map
        ∙ none_above (counted_places (test_of way) p.pa (loan_of lender.loans lender.map).positions)
        (lent_places (test_of way) p.pa lender.loans) (none way)

    any : lent_elsewhere in_any_way lender.map p.pa lender.loans ≡ false
    any =
        elsewhere_any lender.map p.pa lender.loans
        ∙ ap (λ b. b || lent_elsewhere to_write lender.map p.pa lender.loans) (elsewhere ToRead) ∙ elsewhere ToWrite

    to_write_none : prewrite_refusal lender.loans lender.map p ≡ None
    to_write_none =
        ap (λ b. if b then Some SyncOrder else if lent_elsewhere to_write lender.map p.pa lender.loans then Some Overlap
        else None) (not_lent_here ToWrite)
        ∙ ap (λ b. if b then Some Overlap else None) (elsewhere ToWrite)

    to_read_none : preread ops ≡ true → preread_refusal lender.loans lender.map p ≡ None
    to_read_none is =
        ap (λ b. if b then None else if lent_elsewhere in_any_way lender.map p.pa lender.loans
        || stands_twice p.pa (loan_of lender.loans lender.map) then Some Overlap else None) (not_lent_here ToWrite)
        ∙ ap (λ b. if b || stands_twice p.pa (loan_of lender.loans lender.map) then Some Overlap else None) any
        ∙ ap (λ b. if b then Some Overlap else None) (sym (ap (stands_twice p.pa) of.1) ∙ once is p.pa from to)

    met : sync_refusal lender.loans lender.map ops p ≡ None
    met =
        ap (λ b. option_or (if b then postread_refusal p else None) (option_or (if prewrite ops
        then prewrite_refusal lender.loans lender.map p else None) (if preread ops
        then preread_refusal lender.loans lender.map p else None))) no_post
        ∙ both_none (prewrite ops) (preread ops) (prewrite_refusal lender.loans lender.map p)
        (preread_refusal lender.loans lender.map p) to_write_none to_read_none

  pub meets_nothing : MeetsNothing lender ops loan.positions start len
  meets_nothing =
      All-from_get_or (λ p. start ≤ p.pa → p.pa < start + len → sync_refusal lender.loans lender.map ops p ≡ None)
      loan.positions no_position (λ i lt from to. met i lt from to)

-- the judgement passes over consecutive bytes of which none is refused
all_passed : (f : Position → Option ReportName) (at pa n : ℕ) (qs ys : List Position) → addresses_of qs ≡ run_of pa n →
    ((i : ℕ) → i < length qs → pa ≤ (get_or qs i no_position).pa → (get_or qs i no_position).pa < pa + n →
    f (get_or qs i no_position) ≡ None) → judged f at (qs ++ ys) ≡ judged f (at + n) ys
all_passed f at pa zero [] ys e h = let on : at ≡ at + zero = omega arith in ap (λ k. judged f k ys) on
all_passed f at pa zero (q ∷ qs) ys e h = absurd (cc)
all_passed f at pa (suc n) [] ys e h = absurd (cc)
all_passed f at pa (suc n) (q ∷ qs) ys e h =
    let first : q.pa ≡ pa = ap (λ xs. get_or xs 0 0) e in
    let later : addresses_of qs ≡ run_of (pa + 1) n = ap (drop 1) e in
    let on : at + 1 + n ≡ at + suc n = omega arith in
    ap (λ o. refused_or o at (judged f (at + 1) (qs ++ ys))) (h 0 (omega arith) (omega arith) (omega arith))
    ∙ all_passed f (at + 1) (pa + 1) n qs ys later (λ i lt from to. h (suc i) (omega arith) (omega arith) (omega arith))
    ∙ ap (λ k. judged f k ys) on

pub passed_run : (f : Position → Option ReportName) (at end n pa : ℕ) (ps : List Position) → at + n ≤ end →
    end ≤ length ps →
    addresses_of (stretch at (end - at) ps) ≡ run_of pa n ++ addresses_of (stretch (at + n) (end - (at + n)) ps) →
    All (λ p. pa ≤ p.pa → p.pa < pa + n → f p ≡ None) ps →
    judged f at (stretch at (end - at) ps) ≡ judged f (at + n) (stretch (at + n) (end - (at + n)) ps)
passed_run f at end n pa ps within range is all =
    ap (judged f at) (two_parts at n end ps within)
    ∙ all_passed f at pa n (stretch at n ps) (stretch (at + n) (end - (at + n)) ps) bytes each
  where
    bytes : addresses_of (stretch at n ps) ≡ run_of pa n
    bytes =
        let long = length-run_of pa n in
        ap addresses_of (sym (take-take n (end - at) (drop at ps) (omega arith)))
        ∙ sym (take-map (λ p. p.pa) n (stretch at (end - at) ps)) ∙ ap (take n) is
        ∙ take-append-le n (run_of pa n) _ (omega (arith, long)) ∙ take_run pa n n (omega arith)

    each : (i : ℕ) → i < length (stretch at n ps) → pa ≤ (get_or (stretch at n ps) i no_position).pa →
        (get_or (stretch at n ps) i no_position).pa < pa + n → f (get_or (stretch at n ps) i no_position) ≡ None
    each i lt =
        let long = length-take n (drop at ps) in
        let here : get_or (stretch at n ps) i no_position ≡ get_or ps (at + i) no_position =
        get_or-take n (drop at ps) i no_position (omega (arith, long, lt)) ∙ get_or-drop at ps i no_position in
        subst (λ p. pa ≤ p.pa → p.pa < pa + n → f p ≡ None) (sym here)
        (All-get_or (λ p. pa ≤ p.pa → p.pa < pa + n → f p ≡ None) ps (at + i) no_position
        (omega (arith, long, lt, within, range)) all)
