-- Positions of a piece that are refused alike.
use Rattle.std.proofs.Common.{◌≡◌, ℕ, ◌+◌, ◌-◌, ◌<◌, ◌≤◌, ◌||◌, Bool, true, false, cond, if◌then◌else◌, nat_lt, None}
use Rattle.std.proofs.Common.{Some, Option}
use Rattle.std.proofs.Common.{◌++◌, refl, sym, ap, ◌∙◌, arith}
use Rattle.std.proofs.lemmas.Bool.Decides.{nat_tests}
use Rattle.std.proofs.lemmas.List.{map-id}
use Rattle.busdma_machine.specs.declared.report.ReportName.{ReportName}
use Rattle.busdma_machine.specs.declared.report.ReportName.TheVariants.{DeviceReadUnlent, StaleByte}
use Rattle.busdma_machine.specs.Judging.{judged}
use Rattle.busdma_machine.specs.Runs.{run_of}
use Rattle.run_set.specs.Counts.{count}
use Rattle.busdma_rules.specs.declared.position.Position.{Position}
use Rattle.loan_table.specs.declared.lent.LentCounts.{LentCounts}
use Rattle.loan_table.specs.declared.row.Way.{Way}
use Rattle.loan_table.specs.declared.row.Way.TheVariants.{ToWrite, ToRead}
use Rattle.loan_table.specs.declared.access.Access.{Access}
use Rattle.loan_table.specs.declared.access.Access.TheVariants.{Read, Write}
use Rattle.loan_table.specs.Counted.{counts_of, counted_places, lent_places, IsCounted}
use Rattle.loan_table.specs.Counted.{IsOf, IsCountPlaced, IsUnlent, Lender}
use Rattle.loan_table.specs.Kinds.{cpu_refusal, dev_refusal, test_of}
use Rattle.std.specs.Option.{option_or}
use Rattle.busdma_rules.specs.Tags.SyncOps.{preread, prewrite, postread}
use Rattle.busdma_rules.specs.Lending.SyncEffects.{postread_refusal, preread_refusal, prewrite_refusal, sync_refusal}
use Rattle.busdma_rules.specs.Lending.Loans.{Loan, Loans, in_any_way, lent, lent_elsewhere, loan_of, stands_twice}
use Rattle.busdma_rules.specs.Lending.Loans.{to_read, to_write}
use Rattle.loan_table.proofs.Pieces.{lent_as, none_refused, same_way}
use Rattle.loan_table.proofs.Stretches.{run_of_sum}
use Rattle.loan_table.proofs.Totals.{elsewhere_any, elsewhere_counted, lent_any, lent_counted}

-- a sync call is refused alike at two bytes that are lent alike
module _ (counts : LentCounts) (loan : Loan) (lender : Lender) (of : IsOf counts loan lender) (p : Position) (a : ℕ)
    (here : IsCountPlaced loan (lent_as p p.pa)) (there : IsCountPlaced loan (lent_as p a))
    (alone : stands_twice p.pa loan ≡ true → IsUnlent counts p.pa)
    (twice : stands_twice a loan ≡ stands_twice p.pa loan)
    (same : (way : Way) → count (counts_of counts way) a ≡ count (counts_of counts way) p.pa) where
  own : stands_twice p.pa loan ≡ false → (way : Way) →
      counted_places (test_of way) a loan.positions ≡ counted_places (test_of way) p.pa loan.positions
  own once way =
      there (twice ∙ once) way
      ∙ ap (λ b. cond b 1 0) (same_way way p a ∙ sym (same_way way p p.pa)) ∙ sym (here once way)

  elsewhere : stands_twice p.pa loan ≡ false → (way : Way) →
      lent_elsewhere (test_of way) lender.map a lender.loans
      ≡ lent_elsewhere (test_of way) lender.map p.pa lender.loans
  elsewhere once way =
      elsewhere_counted (test_of way) a lender.loans lender.map
      ∙ ap (λ n. nat_lt (counted_places (test_of way) a (loan_of lender.loans lender.map).positions) n)
      (sym (of.0 way a) ∙ same way ∙ of.0 way p.pa)
      ∙ ap (λ (l : Loan). nat_lt (counted_places (test_of way) a l.positions)
      (lent_places (test_of way) p.pa lender.loans))
      (sym of.1)
      ∙ ap (λ n. nat_lt n (lent_places (test_of way) p.pa lender.loans)) (own once way)
      ∙ ap (λ (l : Loan). nat_lt (counted_places (test_of way) p.pa l.positions)
      (lent_places (test_of way) p.pa lender.loans))
      of.1
      ∙ sym (elsewhere_counted (test_of way) p.pa lender.loans lender.map)

  none_above : (m n : ℕ) → n ≡ 0 → nat_lt m n ≡ false
  none_above m n e = grind (arith, nat_tests)

  unlent : (b : ℕ) → ((way : Way) → count (counts_of counts way) b ≡ 0) → (way : Way) →
      lent_elsewhere (test_of way) lender.map b lender.loans ≡ false
  unlent b none way =
      elsewhere_counted (test_of way) b lender.loans lender.map
      ∙ none_above (counted_places (test_of way) b (loan_of lender.loans lender.map).positions)
      (lent_places (test_of way) b lender.loans) (sym (of.0 way b) ∙ none way)

  either : (t : Bool) → stands_twice p.pa loan ≡ t → (way : Way) →
      lent_elsewhere (test_of way) lender.map a lender.loans
      ≡ lent_elsewhere (test_of way) lender.map p.pa lender.loans
  either false once way = elsewhere once way
  either true two way =
      unlent a (λ w. same w ∙ alone two w) way ∙ sym (unlent p.pa (alone two) way)

  pub same_refusal : (ops : ℕ) →
      sync_refusal lender.loans lender.map ops (lent_as p a)
      ≡ sync_refusal lender.loans lender.map ops (lent_as p p.pa)
  same_refusal ops =
      let write : lent_elsewhere to_write lender.map a lender.loans
      ≡ lent_elsewhere to_write lender.map p.pa lender.loans = either (stands_twice p.pa loan) refl ToWrite in
      let any : lent_elsewhere in_any_way lender.map a lender.loans
      ≡ lent_elsewhere in_any_way lender.map p.pa lender.loans =
      elsewhere_any lender.map a lender.loans
      ∙ ap (λ b. b || lent_elsewhere to_write lender.map a lender.loans) (either (stands_twice p.pa loan) refl ToRead)
      ∙ ap (λ b. lent_elsewhere to_read lender.map p.pa lender.loans || b) write
      ∙ sym (elsewhere_any lender.map p.pa lender.loans) in
      let stands : stands_twice a (loan_of lender.loans lender.map)
      ≡ stands_twice p.pa (loan_of lender.loans lender.map) =
      ap (stands_twice a) (sym of.1) ∙ twice ∙ ap (stands_twice p.pa) of.1 in
      rw (write, any, stands) refl

-- the device's access is refused alike at two bytes that are Known alike
pub same_for_device : (access : Access) (known : ℕ → Bool) (coherent : Bool) (p : Position) (a b : ℕ) →
    known a ≡ known b →
    dev_refusal access known coherent (lent_as p a) ≡ dev_refusal access known coherent (lent_as p b)
same_for_device Read known coherent p a b e =
    ap (λ k. if coherent || p.to_read then if k then None else Some StaleByte
    else Some DeviceReadUnlent) e
same_for_device Write known coherent p a b e = refl

-- the driver's access is refused alike at two bytes that are lent, and Known, alike
pub same_for_driver : (counts : LentCounts) (loans : Loans) → IsCounted counts loans → (access : Access)
    (known : ℕ → Bool) (a b : ℕ) → known a ≡ known b →
    ((way : Way) → count (counts_of counts way) a ≡ count (counts_of counts way) b) →
    cpu_refusal access known loans a ≡ cpu_refusal access known loans b
same_for_driver counts loans counted access known a b e same = by access
  where
    alike : (way : Way) → lent (test_of way) a loans ≡ lent (test_of way) b loans
    alike way =
        lent_counted (test_of way) a loans ∙ ap (nat_lt 0) (sym (counted way a) ∙ same way ∙ counted way b)
        ∙ sym (lent_counted (test_of way) b loans)

    by : (access : Access) → cpu_refusal access known loans a ≡ cpu_refusal access known loans b
    by Read =
        let write : lent to_write a loans ≡ lent to_write b loans = alike ToWrite in
        rw (write, e) refl
    by Write =
        let any : lent in_any_way a loans ≡ lent in_any_way b loans =
        lent_any a loans ∙ ap (λ t. t || lent to_write a loans) (alike ToRead)
        ∙ ap (λ t. lent to_read b loans || t) (alike ToWrite) ∙ sym (lent_any b loans) in
        rw any refl

-- the judgement passes over the bytes of a run up to an address, if none of them is refused
pub run_passed : (f : ℕ → Option ReportName) (at pa t end : ℕ) → pa ≤ t → t ≤ end →
    ((a : ℕ) → pa ≤ a → a < t → f a ≡ None) →
    judged f at (run_of pa (end - pa)) ≡ judged f (at + (t - pa)) (run_of t (end - t))
run_passed f at pa t end from to h =
    let m : ℕ = t - pa in
    let on : end - pa ≡ m + (end - t) = omega arith in
    let there : pa + m ≡ t = omega arith in
    ap (λ k. judged f at (run_of pa k)) on ∙ ap (judged f at) (run_of_sum pa m (end - t))
    ∙ ap (λ xs. judged f at (xs ++ run_of (pa + m) (end - t))) (sym (map-id (run_of pa m)))
    ∙ none_refused f (λ a. a) at pa m (run_of (pa + m) (end - t)) (λ a p q. h a p (omega arith))
    ∙ ap (λ k. judged f (at + m) (run_of k (end - t))) there

alone : (o : Option ReportName) → option_or o None ≡ o
alone None = refl
alone (Some name) = refl

-- the report of a sync call that begins no lending
pub met_by_ends : (loans : Loans) (m ops : ℕ) (b : Bool) (p : Position) → postread ops ≡ b → prewrite ops ≡ false →
    preread ops ≡ false → sync_refusal loans m ops p ≡ (if b then postread_refusal p else None)
met_by_ends loans m ops b p e f g =
    ap (λ x. option_or (if x then postread_refusal p else None) (option_or (if prewrite ops
    then prewrite_refusal loans m p else None) (if preread ops then preread_refusal loans m p else None))) e
    ∙ ap (λ y. option_or (if b then postread_refusal p else None) (option_or (if y
    then prewrite_refusal loans m p else None) (if preread ops then preread_refusal loans m p else None))) f
    ∙ ap (λ z. option_or (if b then postread_refusal p else None) (if z then preread_refusal loans m p else None)) g
    ∙ left b
  where
    left : (c : Bool) → option_or (if c then postread_refusal p else None) None
        ≡ (if c then postread_refusal p else None)
    left true = alone (postread_refusal p)
    left false = refl
