-- Judgements of device addresses of one page that lie together.
use Rattle.std.proofs.Common.{◌≡◌, ℕ, ◌+◌, ◌%◌, ◌^◌, ◌<◌, ◌≤◌, Bool, true, false, ◌||◌, not, cond, length, drop}
use Rattle.std.proofs.Common.{Option, Some, None, is_some, nat_le, refl, ap, ◌∙◌, arith, length-take, length-drop}
use Rattle.std.proofs.lemmas.Bool.{lt-leb}
use Rattle.std.specs.FinMap.{entries}
use Rattle.busdma_machine.specs.declared.report.Judged.TheVariants.{Refused}
use Rattle.busdma_machine.specs.declared.report.ReportName.TheVariants.{Untranslated}
use Rattle.busdma_machine.specs.Judging.{judged}
use Rattle.busdma_machine.specs.Machine.Wire.{stretch}
use Rattle.busdma_machine.specs.Runs.{run_of}
use Rattle.busdma_rules.specs.Iommu.Space.{translated}
use Rattle.busdma_rules.specs.declared.position.Position.{Position}
use Rattle.busdma_rules.specs.Lending.Loans.{loan_of}
use Rattle.loan_table.proofs.Judgement.{judged-some, length-run_of}
use Rattle.ideal_lane.specs.Accesses.{position_in, unless_unlent}
use Rattle.ideal_lane.specs.State.{LaneState}
use Rattle.ideal_wire.proofs.Laid.Positions.{of_range}
use Rattle.lane_access.specs.declared.raw.LoadPlace.{LoadPlace}
use Rattle.lane_access.specs.declared.raw.RawAccess.{RawAccess}
use Rattle.lane_access.specs.Raw.{lent_refusal, position_at, refusal_of, unlent_of}
use Rattle.lane_access.proofs.RawJudging.{judged-pairs, run-get, run-some}
use Rattle.lane_access.proofs.RawRuns.{page-reached}

module _ (l : LaneState) (access : RawAccess) (t a n : ℕ) (some : is_some (translated (l.spaces t) a) ≡ true)
    (page : a % 4096 + n ≤ 4096) (low : a < 2 ^ 64) (place : Option LoadPlace)
    (lies : (i : ℕ) → i < n → position_in l t (a + i) (entries l.maps) ≡ position_at l.loans place i) where
  found : (high there : Bool) (o p : Option Position) → high ≡ false → there ≡ true → o ≡ p →
      cond (high || not there) (Some Untranslated) (unless_unlent (unlent_of access) (lent_refusal access l) o)
      ≡ unless_unlent (unlent_of access) (lent_refusal access l) p
  found high there o p h k e = rw (h, k, e) refl

  -- an address that is reached is judged by its position
  refused-as : (i : ℕ) → i < n → refusal_of access l t (a + i)
      ≡ unless_unlent (unlent_of access) (lent_refusal access l) (position_at l.loans place i)
  refused-as i below =
      found (nat_le (2 ^ 64) (a + i)) (is_some (translated (l.spaces t) (a + i)))
      (position_in l t (a + i) (entries l.maps)) (position_at l.loans place i)
      (lt-leb (2 ^ 64) (a + i) (omega (arith, page, low, below)))
      (page-reached (l.spaces t) a i (omega (arith, page, below)) ∙ some) (lies i below)

  -- addresses in a load are judged by the positions there
  pub in-load : (p : LoadPlace) → place ≡ Some p → p.at + n ≤ length (loan_of l.loans p.map).positions →
      judged (refusal_of access l t) 0 (run_of a n)
      ≡ judged (lent_refusal access l) 0 (stretch p.at n (loan_of l.loans p.map).positions)
  in-load p is range =
      judged-pairs (refusal_of access l t) (lent_refusal access l) 0 (run_of a n)
      (stretch p.at n (loan_of l.loans p.map).positions)
      (omega (
        arith,
        length-run_of a n,
        length-take n (drop p.at (loan_of l.loans p.map).positions),
        length-drop p.at (loan_of l.loans p.map).positions,
        range,
      ))
      (λ i x y at there.
      let r = run-get a n i x at in
      let q = of_range (loan_of l.loans p.map).positions p.at n i y there in
      ap (refusal_of access l t) r.1 ∙ refused-as i r.0
      ∙ ap (λ o. unless_unlent (unlent_of access) (lent_refusal access l) (position_at l.loans o i)) is
      ∙ ap (unless_unlent (unlent_of access) (lent_refusal access l)) q.whole)

  -- the first of those in none is refused
  pub in-none : place ≡ None → 0 < n →
      Refused (record { name = unlent_of access; at = 0 }) ≡ judged (refusal_of access l t) 0 (run_of a n)
  in-none is below =
      let e : a ≡ a + 0 = omega arith in
      judged-some (refusal_of access l t) 0 _ _ a (unlent_of access) _ (run-some a n below)
      (ap (refusal_of access l t) e ∙ refused-as 0 below
      ∙ ap (λ o. unless_unlent (unlent_of access) (lent_refusal access l) (position_at l.loans o 0)) is) refl
