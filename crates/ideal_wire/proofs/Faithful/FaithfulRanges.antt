-- Any sync of a faithful wire.
use Rattle.std.proofs.Common.{◌≡◌, ℕ, Bool, true, false, cond, ◌&&◌, ◌||◌, [], refl, sym, ap, ◌∙◌}
use Rattle.std.proofs.lemmas.Bool.{false≢true}
use Rattle.std.specs.List.{filter}
use Rattle.busdma_machine.specs.declared.report.Judged.TheVariants.{Fine}
use Rattle.busdma_machine.specs.Judging.{judged}
use Rattle.busdma_rules.specs.Tags.SyncOps.{preread, prewrite, postread, postwrite, has_pre, has_post, is_mixed}
use Rattle.busdma_rules.specs.Lending.Loans.{loan_of, addresses_of}
use Rattle.busdma_rules.specs.Lending.SyncEffects.{loses, sync_refusal, sync_answer}
use Rattle.ideal_wire.proofs.Faithful.PlacedWires.{Faithful}
use Rattle.ideal_lane.specs.IdealMemory.{forgotten}
use Rattle.busdma_machine.specs.Machine.Wire.{Wire, Traces, stretch}
use Rattle.ideal_lane.specs.State.{LaneState}
use Rattle.ideal_wire.specs.WireStep.{copied_by}
use Rattle.ideal_wire.proofs.Faithful.FaithfulSync.{faithful_before_work, faithful_after_work}
use Rattle.ideal_wire.proofs.Faithful.SyncedPositions.{after}

-- ---- any sync of a range
module _ (own : ℕ → Bool) (l : LaneState) (traces : Traces) (w : Wire)
    (f : Faithful own l traces w) (m off len ops : ℕ) where
  no_post : (b : Bool) → has_pre ops ≡ b → b ≡ true → is_mixed ops ≡ false → has_post ops ≡ false
  no_post true e h alone = sym (ap (λ b. b && has_post ops) e) ∙ alone
  no_post false e h alone = absurd (false≢true h)

  neither : (a b : Bool) → (a || b) ≡ false → (a ≡ false) × (b ≡ false)
  neither true b h = absurd (cc)
  neither false b h = (refl, h)

  by_side : (closed : (loan_of l.loans m).coherent ≡ false) →
      judged (sync_refusal l.loans m ops) off (stretch off len (loan_of l.loans m).positions) ≡ Fine →
      is_mixed ops ≡ false → (b : Bool) → has_pre ops ≡ b
      →
      Faithful own (record l {
        loans = after l.loans m off len ops;
        memory =
            forgotten (addresses_of (filter (loses ops) (stretch off len (loan_of l.loans m).positions))) l.memory;
      })
      traces (copied_by ops (stretch off len (traces m)) w)
  by_side closed fine alone true e =
      let none = neither (postread ops) (postwrite ops) (no_post true e refl alone) in
      faithful_before_work own l traces w f m off len ops closed fine none.0 none.1
  by_side closed fine alone false e =
      let none = neither (preread ops) (prewrite ops) e in
      faithful_after_work own l traces w f m off len ops closed fine none.0 none.1

  pub by_map : sync_answer l.loans m off len ops ≡ Fine → is_mixed ops ≡ false →
      (b : Bool) → (loan_of l.loans m).coherent ≡ b
      → Faithful own (record l {
        loans = cond b l.loans (after l.loans m off len ops);
        memory =
            forgotten (cond b [] (addresses_of (filter (loses ops) (stretch off len (loan_of l.loans m).positions))))
            l.memory;
      }) traces (cond b w (copied_by ops (stretch off len (traces m)) w))
  by_map fine alone true e = f
  by_map fine alone false e =
      by_side e
      (sym
      (ap
      (λ b. cond b Fine (judged (sync_refusal l.loans m ops) off (stretch off len (loan_of l.loans m).positions)))
      e) ∙ fine) alone (has_pre ops) refl
