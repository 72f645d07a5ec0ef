-- After POSTREAD no map lends the bytes of a load to write, if its map is not coherent.
use Rattle.std.proofs.Common.{◌≡◌, ◌≢◌, ◌⊎◌, inl, inr, ℕ, ◌&&◌, ◌||◌, Bool, true, false, not, length, Option, Some}
use Rattle.std.proofs.Common.{None, slice_get, if◌then◌else◌, refl, ap, sym, ◌∙◌, arith}
use Rattle.std.proofs.lemmas.Bool.{false≢true}
use Rattle.std.proofs.lemmas.List.{take_all}
use Rattle.std.proofs.lemmas.Option.{slice_get-map}
use Rattle.std.specs.Option.{option_map}
use Rattle.busdma_machine.specs.Judging.{judged}
use Rattle.busdma_machine.specs.Machine.Wire.{stretch}
use Rattle.busdma_machine.specs.declared.report.Judged.TheVariants.{Fine}
use Rattle.busdma_machine.specs.declared.report.ReportName.TheVariants.{Overlap}
use Rattle.busdma_rules.specs.Lending.Loans.{Loans, addresses_of, in_any_way, lent, lent_elsewhere, loan_of}
use Rattle.busdma_rules.specs.Lending.Loans.{stands_twice, to_write}
use Rattle.busdma_rules.specs.Lending.SyncEffects.{marked, sync_answer, sync_refusal, synced}
use Rattle.busdma_rules.specs.Tags.SyncOps.{postread, preread}
use Rattle.busdma_rules.specs.declared.position.Position.{Position}
use Rattle.ideal_wire.specs.Centre.{IsAt}
use Rattle.ideal_wire.proofs.Faithful.Lent.{Lender, lender_of, lent_by_another}
use Rattle.ideal_wire.proofs.Faithful.SyncedPositions.{decided, preread_part, preread_passes}
use Rattle.ideal_wire.proofs.Laid.Positions.{fine_at, found_one}
use Rattle.driver_laws.proofs.Allowed.{marks}

-- ---- a sync with PREREAD that is done: no other map lends a byte of the load

module _ (loans : Loans) (m ops : ℕ) (pre : preread ops ≡ true) (direct : (loan_of loans m).coherent ≡ false)
    (fine : sync_answer loans m 0 (length (loan_of loans m).positions) ops ≡ Fine)
    (unlent : (i : ℕ) (p : Position) → slice_get (loan_of loans m).positions i ≡ Some p → p.to_write ≡ false) where
  judged-fine : judged (sync_refusal loans m ops) 0 (loan_of loans m).positions ≡ Fine
  judged-fine =
      ap (judged (sync_refusal loans m ops) 0)
      (sym (take_all (length (loan_of loans m).positions) (loan_of loans m).positions (omega arith)))
      ∙ ap (λ b. if b then Fine else judged (sync_refusal loans m ops) 0
      (stretch 0 (length (loan_of loans m).positions) (loan_of loans m).positions)) (sym direct) ∙ fine

  position-alone : (i : ℕ) (p : Position) → slice_get (loan_of loans m).positions i ≡ Some p →
      lent_elsewhere in_any_way m p.pa loans ≡ false
  position-alone i p at =
      by (preread_passes p.to_write (lent_elsewhere in_any_way m p.pa loans) (stands_twice p.pa (loan_of loans m))
      Overlap
      (preread_part loans m ops p
      (fine_at (sync_refusal loans m ops) 0 (loan_of loans m).positions judged-fine i p at) pre))
    where
      by : (p.to_write ≡ true) ⊎ ((lent_elsewhere in_any_way m p.pa loans ≡ false)
          × (stands_twice p.pa (loan_of loans m) ≡ false)) →
          lent_elsewhere in_any_way m p.pa loans ≡ false
      by (inl e) = absurd (false≢true (sym (unlent i p at) ∙ e))
      by (inr h) = h.0

  pub byte-alone : (i a : ℕ) → slice_get (addresses_of (loan_of loans m).positions) i ≡ Some a →
      lent_elsewhere in_any_way m a loans ≡ false
  byte-alone i a e =
      by (slice_get (loan_of loans m).positions i) refl
      (sym (slice_get-map (λ (p : Position). p.pa) (loan_of loans m).positions i) ∙ e)
    where
      by : (o : Option Position) → slice_get (loan_of loans m).positions i ≡ o →
          option_map (λ (p : Position). p.pa) o ≡ Some a →
          lent_elsewhere in_any_way m a loans ≡ false
      by None f g = absurd (cc)
      by (Some p) f g =
          ap (λ x. lent_elsewhere in_any_way m x loans) (sym (found_one (Some p.pa) p.pa a refl g))
          ∙ position-alone i p f

-- ---- a sync with POSTREAD: the map lends no byte to write

pub postread-ends : (ops : ℕ) → postread ops ≡ true → (q : Position) → not (marked ops q).to_write ≡ true
postread-ends ops post q = λ i. not (not (post i) && (preread ops || q.to_write))

-- ---- both

module _ (before after : Loans) (m ops : ℕ) (post : postread ops ≡ true)
    (direct : (loan_of (synced after m 0 (length (loan_of after m).positions) ops) m).coherent ≡ false)
    (others : (j : ℕ) → j ≢ m →
    loan_of (synced after m 0 (length (loan_of after m).positions) ops) j ≡ loan_of before j)
    (a : ℕ) (alone : lent_elsewhere in_any_way m a before ≡ false) where
  abbrev now : Loans
  now = synced after m 0 (length (loan_of after m).positions) ops

  by-itself : (i : ℕ) (p : Position) → IsAt now m i p → p.to_write ≡ true → ⊥
  by-itself i p at lends =
      let ended : not p.to_write ≡ true =
      ap (λ b. b || not p.to_write) (sym direct)
      ∙ marks after m ops (λ q. not q.to_write) (postread-ends ops post) i p at in
      false≢true (ap not (sym lends) ∙ ended)

  or-true : (x y : Bool) → y ≡ true → (x || y) ≡ true
  or-true true y e = refl
  or-true false y e = e

  by-another : (j i : ℕ) (p : Position) → j ≢ m → IsAt now j i p → p.pa ≡ a → p.to_write ≡ true → ⊥
  by-another j i p ne at same lends =
      false≢true
      (sym alone
      ∙ lent_by_another in_any_way a before m j i p ne
      (sym (ap (λ l. slice_get l.positions i) (others j ne)) ∙ at) same (or-true p.to_read p.to_write lends))

  pub unlent-so : lent to_write a now ≡ false
  unlent-so = by (lent to_write a now) refl
    where
      none : Lender to_write a now → ⊥
      none l = at (decided l.by_map m)
        where
          at : (l.by_map ≡ m) ⊎ (l.by_map ≢ m) → ⊥
          at (inl e) =
              by-itself l.place l.position
              (sym (ap (λ j. slice_get (loan_of now j).positions l.place) e) ∙ l.at) l.lends
          at (inr ne) = by-another l.by_map l.place l.position ne l.at l.same l.lends

      by : (b : Bool) → lent to_write a now ≡ b → lent to_write a now ≡ false
      by true e = absurd (none (lender_of to_write a now e))
      by false e = e
