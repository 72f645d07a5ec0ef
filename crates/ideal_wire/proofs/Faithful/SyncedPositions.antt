-- Positions before and after a sync, and what its tests say of them.
use Rattle.std.proofs.Common.{◌≡◌, ◌≢◌, ℕ, ◌+◌, ◌<◌, ◌≤◌, Bool, true, false, cond, not, ◌&&◌, ◌||◌, ◌==◌, zero, suc}
use Rattle.std.proofs.Common.{List, [], ◌∷◌, slice_get, option_map, Option, Some, None, ◌⊎◌, inl, inr, refl, sym, ap}
use Rattle.std.proofs.Common.{◌∙◌, arith, eq-eqb}
use Rattle.std.proofs.lemmas.Bool.{false≢true, ne_eqb, cases_lt}
use Rattle.std.specs.FinMap.{insert}
use Rattle.std.specs.List.{list_any, filter}
use Rattle.std.proofs.lemmas.Map.Views.{exact_unsigned_eq}
use Rattle.std.specs.Option.{option_or}
use Rattle.std.specs.Cmp.{unsigned_tied}
use Rattle.busdma_machine.specs.declared.report.ReportName.{ReportName}
use Rattle.busdma_rules.specs.Tags.SyncOps.{preread, prewrite, postread}
use Rattle.busdma_rules.specs.declared.position.Position.{Position}
use Rattle.busdma_rules.specs.Lending.Loans.{Loan, Loans, loan_of, addresses_of}
use Rattle.busdma_rules.specs.Lending.SyncEffects.{marked, marked_range, sync_refusal, prewrite_refusal}
use Rattle.busdma_rules.specs.Lending.SyncEffects.{preread_refusal}
use Rattle.busdma_rules.specs.Lending.SyncEffects.{postread_refusal}
use Rattle.busdma_rules.proofs.Lending.Marking.{loan_of-insert}
use Rattle.ideal_wire.specs.Centre.{IsAt}
use Rattle.ideal_lane.specs.IdealMemory.{IdealMemory, Content, Known, Unknown, forgotten}
use Rattle.ideal_wire.proofs.Laid.Positions.{changed_in, changed_out, changed_from, Changed, found_one}

-- what the tests of a sync say of a position that passes them
no_refusal : (a b : Option ReportName) → option_or a b ≡ None → (a ≡ None) × (b ≡ None)
no_refusal None b h = (refl, h)
no_refusal (Some x) b h = absurd (cc)

asked : (b : Bool) (o : Option ReportName) → b ≡ true → cond b o None ≡ None → o ≡ None
asked true o e h = h
asked false o e h = absurd (cc)

module _ (loans : Loans) (m ops : ℕ) (p : Position) (fine : sync_refusal loans m ops p ≡ None) where
  pub postread_part : postread ops ≡ true → postread_refusal p ≡ None
  postread_part e = asked (postread ops) _ e (no_refusal _ _ fine).0

  pub prewrite_part : prewrite ops ≡ true → prewrite_refusal loans m p ≡ None
  prewrite_part e = asked (prewrite ops) _ e (no_refusal _ _ (no_refusal _ _ fine).1).0

  pub preread_part : preread ops ≡ true → preread_refusal loans m p ≡ None
  preread_part e = asked (preread ops) _ e (no_refusal _ _ (no_refusal _ _ fine).1).1

pub prewrite_passes : (b c : Bool) (x y : ReportName) →
    cond b (Some x) (cond c (Some y) None) ≡ None → (b ≡ false) × (c ≡ false)
prewrite_passes true c x y h = absurd (cc)
prewrite_passes false true x y h = absurd (cc)
prewrite_passes false false x y h = (refl, refl)

pub preread_passes : (b c d : Bool) (x : ReportName) → cond b None (cond (c || d) (Some x) None) ≡ None →
    (b ≡ true) ⊎ ((c ≡ false) × (d ≡ false))
preread_passes true c d x h = inl refl
preread_passes false true d x h = absurd (cc)
preread_passes false false true x h = absurd (cc)
preread_passes false false false x h = inr (refl, refl)

pub postread_passes : (b : Bool) (x : ReportName) → cond b None (Some x) ≡ None → b ≡ true
postread_passes true x h = refl
postread_passes false x h = absurd (cc)

-- what marks say
pub or_left : (a b : Bool) → (a || b) ≡ true → b ≡ false → a ≡ true
or_left true b h e = refl
or_left false b h e = absurd (false≢true (sym e ∙ h))

pub or_right : (a b : Bool) → (a || b) ≡ true → a ≡ false → b ≡ true
or_right true b h e = absurd (false≢true (sym e))
or_right false b h e = h

pub read_before : (a b c d : Bool) → (a && not b && not (c || d)) ≡ false → a ≡ true → b ≡ false → c ≡ false → d ≡ true
read_before a b c true h e f g = refl
read_before true false false false h e f g = absurd (cc)
read_before false b c false h e f g = absurd (cc)
read_before true true c false h e f g = absurd (cc)
read_before true false true false h e f g = absurd (cc)

pub newly : (pw tr pr tw : Bool) → ((pw || tr) || (pr || tw)) ≡ true → (tr || tw) ≡ false →
    (pw ≡ true) ⊎ ((pr ≡ true) × (tw ≡ false))
newly true tr pr tw h e = inl refl
newly false false true false h e = inr (refl, refl)
newly false false false false h e = absurd (cc)
newly false true pr tw h e = absurd (cc)
newly false false pr true h e = absurd (cc)

-- two maps or places are one or not
pub decided : (a b : ℕ) → (a ≡ b) ⊎ (a ≢ b)
decided a b = by (a == b) refl
  where
    by : (t : Bool) → (a == b) ≡ t → (a ≡ b) ⊎ (a ≢ b)
    by true e = inl (exact_unsigned_eq a b e)
    by false e = inr (λ h. false≢true (sym e ∙ eq-eqb a b h))

-- ---- the positions after a sync of a map that is not coherent
module _ (loans : Loans) (m off len ops : ℕ) where
  abbrev pub after : Loans
  after =
      insert loans m (record { coherent = false; positions = marked_range ops off len (loan_of loans m).positions })

  loan_after : (n : ℕ) → loan_of after n ≡ cond (n == m)
      (record { coherent = false; positions = marked_range ops off len (loan_of loans m).positions }) (loan_of loans n)
  loan_after n = loan_of-insert loans m _ n
      ∙ ap (λ b. cond b (record { coherent = false; positions = marked_range ops off len (loan_of loans m).positions })
      (loan_of loans n)) (unsigned_tied n m)

  loan_here : (n : ℕ) → n ≡ m → (loan_of after n).positions ≡ marked_range ops off len (loan_of loans m).positions
  loan_here n e =
      ap (λ (l : Loan). l.positions) (loan_after n
      ∙ ap
      (λ b. cond b (record { coherent = false; positions = marked_range ops off len (loan_of loans m).positions })
      (loan_of loans n)) (eq-eqb n m e))

  loan_there : (n : ℕ) → n ≢ m → loan_of after n ≡ loan_of loans n
  loan_there n ne =
      loan_after n
      ∙ ap
      (λ b. cond b (record { coherent = false; positions = marked_range ops off len (loan_of loans m).positions })
      (loan_of loans n)) (ne_eqb n m ne)

  abbrev pub Inside : ℕ → ℕ → Type 0
  Inside n i = (n ≡ m) × (off ≤ i) × (i < off + len)

  pub placed_in : (n i : ℕ) → Inside n i ⊎ (¬ (Inside n i))
  placed_in n i = elim (decided n m) as (λ _. Inside n i ⊎ (¬ (Inside n i))) [
    | inr ne ↦ inr (λ h. ne h.0)
    | inl e ↦ elim (cases_lt i off) as (λ _. Inside n i ⊎ (¬ (Inside n i))) [
      | inl below ↦ inr (λ h. let le = h.1 in absurd (omega (arith, below, le)))
      | inr le ↦ elim (cases_lt i (off + len)) as (λ _. Inside n i ⊎ (¬ (Inside n i))) [
        | inl lt ↦ inl (e, le, lt)
        | inr past ↦ inr (λ h. let lt = h.2 in absurd (omega (arith, past, lt)))
      ]
    ]
  ]

  -- a position of the range is marked, and every other stays
  pub at_inside : (n i : ℕ) (p : Position) → IsAt loans n i p → Inside n i → IsAt after n i (marked ops p)
  at_inside n i p h s =
      ap (λ ps. slice_get ps i) (loan_here n s.0)
      ∙ changed_in (marked ops) off len (loan_of loans m).positions i s.1 s.2
      ∙ ap (option_map (marked ops)) (sym (λ x. slice_get (loan_of loans (s.0 x)).positions i) ∙ h)

  outside_of : (i : ℕ) → ¬ (Inside m i) → (i < off) ⊎ (off + len ≤ i)
  outside_of i out = elim (cases_lt i off) as (λ _. (i < off) ⊎ (off + len ≤ i)) [
    | inl below ↦ inl below
    | inr le ↦ elim (cases_lt i (off + len)) as (λ _. (i < off) ⊎ (off + len ≤ i))
        [ inl lt ↦ absurd (out (refl, le, lt)) | inr past ↦ inr past ]
  ]

  pub at_outside : (n i : ℕ) (p : Position) → IsAt loans n i p → ¬ (Inside n i) → IsAt after n i p
  at_outside n i p h out = elim (decided n m) as (λ _. IsAt after n i p) [
    | inr ne ↦ ap (λ (l : Loan). slice_get l.positions i) (loan_there n ne) ∙ h
    | inl e ↦
        ap (λ ps. slice_get ps i) (loan_here n e)
        ∙ changed_out (marked ops) off len (loan_of loans m).positions i (outside_of i (λ s. out (e, s.1, s.2)))
        ∙ (sym (λ x. slice_get (loan_of loans (e x)).positions i) ∙ h)
  ]

  -- what was at a place before
  pub record Before (n i : ℕ) (p : Position) : Type 0 where
    pub before : Position
    pub at : IsAt loans n i before
    pub same : p.pa ≡ before.pa
    pub is : (Inside n i × (p ≡ marked ops before)) ⊎ ((¬ (Inside n i)) × (p ≡ before))

  stood_before : (n i : ℕ) (p q : Position) → n ≡ m →
      Changed (marked ops) off len (loan_of loans m).positions i p → Before n i p
  stood_before n i p q e c =
      let at : IsAt loans n i c.before = (λ x. slice_get (loan_of loans (e x)).positions i) ∙ c.found in
      elim c.is as (λ _. Before n i p) [
        | inl h ↦ record {
          before = c.before;
          at = at;
          same = ap (λ (x : Position). x.pa) h.2;
          is = inl ((e, h.0, h.1), h.2);
        }
        | inr h ↦ record {
          before = c.before;
          at = at;
          same = ap (λ (x : Position). x.pa) h.1;
          is = inr (apart h.0, h.1);
        }
      ]
    where
      apart : (i < off) ⊎ (off + len ≤ i) → ¬ (Inside n i)
      apart out s = let le = s.1 in let lt =
          s.2 in elim out as (λ _. ⊥) [ inl a ↦ absurd (omega (arith, a, le)) | inr b ↦ absurd (omega (arith, b, lt)) ]

  pub before_of : (n i : ℕ) (p : Position) → IsAt after n i p → Before n i p
  before_of n i p h = elim (decided n m) as (λ _. Before n i p) [
    | inl e ↦
        stood_before n i p p e (changed_from (marked ops) off len (loan_of loans m).positions i p
        (sym (ap (λ ps. slice_get ps i) (loan_here n e)) ∙ h))
    | inr ne ↦ record {
      before = p;
      at = sym (ap (λ (l : Loan). slice_get l.positions i) (loan_there n ne))
          ∙ h;
      same = refl;
      is = inr ((λ s. ne s.0), refl);
    }
  ]

  pub coherent_before : (loan_of loans m).coherent ≡ false → (n : ℕ) →
      (loan_of after n).coherent ≡ true → (loan_of loans n).coherent ≡ true
  coherent_before closed n c = elim (decided n m) as (λ _. (loan_of loans n).coherent ≡ true) [
    | inr ne ↦ sym (ap (λ (l : Loan). l.coherent) (loan_there n ne)) ∙ c
    | inl e ↦
        absurd
        (false≢true
        (sym (ap (λ (l : Loan). l.coherent) (loan_after n
        ∙ ap
        (λ b. cond b (record { coherent = false; positions = marked_range ops off len (loan_of loans m).positions })
        (loan_of loans n)) (eq-eqb n m e))) ∙ c))
  ]

-- ---- the bytes that a sync makes Unknown
forgot : (b : Bool) (c : Option Content) (v : ℕ) → cond b (option_map (λ (k : Content). Unknown) c) c ≡ Some (Known v)
    →
    (b ≡ false) × (c ≡ Some (Known v))
forgot true None v h = absurd (cc)
forgot true (Some c) v h = absurd (cc)
forgot false c v h = (refl, h)

pub known_before : (keys : List ℕ) (memory : IdealMemory) (a v : ℕ) → forgotten keys memory a ≡ Some (Known v) →
    (list_any (λ k. a == k) keys ≡ false) × (memory a ≡ Some (Known v))
known_before keys memory a v h = forgot (list_any (λ k. a == k) keys) (memory a) v h

later : (a y : ℕ) (b : Bool) (keys : List ℕ) → list_any (λ k. a == k) keys ≡ true →
    list_any (λ k. a == k) (cond b (y ∷ keys) keys) ≡ true
later a y true keys h = ap (λ b. (a == y) || b) h ∙ either (a == y)
  where
    either : (b : Bool) → (b || true) ≡ true
    either true = refl
    either false = refl
later a y false keys h = h

pub among : (test : Position → Bool) (ps : List Position) (k : ℕ) (p : Position) → slice_get ps k ≡ Some p →
    test p ≡ true → list_any (λ x. p.pa == x) (addresses_of (filter test ps)) ≡ true
among test [] k p h t = absurd (cc)
among test (y ∷ ps) zero p h t =
    let e : y ≡ p = found_one (Some y) y p refl h in
    ap (λ b. list_any (λ x. p.pa == x) (addresses_of (cond b (y ∷ filter test ps) (filter test ps)))) (ap test e ∙ t)
    ∙ ap (λ b. b || list_any (λ x. p.pa == x) (addresses_of (filter test ps)))
    (eq-eqb p.pa y.pa (sym (ap (λ (x : Position). x.pa) e)))
among test (y ∷ ps) (suc k) p h t = skipped (test y) (among test ps k p h t)
  where
    skipped : (b : Bool) → list_any (λ x. p.pa == x) (addresses_of (filter test ps)) ≡ true →
        list_any (λ x. p.pa == x) (addresses_of (cond b (y ∷ filter test ps) (filter test ps))) ≡ true
    skipped true r = later p.pa y.pa true (addresses_of (filter test ps)) r
    skipped false r = r

pub not_lost : (test : Position → Bool) (ps : List Position) (k v : ℕ) (p : Position) (memory : IdealMemory) →
    slice_get ps k ≡ Some p → forgotten (addresses_of (filter test ps)) memory p.pa ≡ Some (Known v) → test p ≡ false
not_lost test ps k v p memory h is = by (test p) refl
  where
    by : (b : Bool) → test p ≡ b → b ≡ false
    by true e =
        absurd
        (false≢true (sym (known_before (addresses_of (filter test ps)) memory p.pa v is).0 ∙ among test ps k p h e))
    by false e = refl
