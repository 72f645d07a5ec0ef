-- One hold's part of a merged journal is taken.
use Rattle.std.proofs.Common.{◌≡◌, ℕ, zero, suc, ◌<◌, List, [], ◌∷◌, ◌++◌, map, length, sym, ap, ◌∙◌, refl, arith}
use Rattle.std.proofs.Common.{slice_set, slice_index_or, append_assoc}
use Rattle.busdma_machine.specs.declared.bounce.hold.HoldEntry.{HoldEntry}
use Rattle.busdma_base.specs.declared.journals.journal.JournalEntry.{JournalEntry}
use Rattle.ideal_runs.specs.Merged.{log_of, merged, past_hold, through_hold}
use Rattle.ideal_runs.specs.Runs.{Log}

module _ {Q : Type 0} (items : Q → Log) where
  pub read-map : (logs : List Q) (i : ℕ) (q : Q) → i < length logs → q ≡ slice_index_or logs i q →
      log_of (map items logs) i ≡ items q
  read-map [] i q below is = absurd (omega arith)
  read-map (x ∷ xs) zero q below is = ap items (sym is)
  read-map (x ∷ xs) (suc i) q below is = read-map xs i q (omega arith) is

  pub map-slice_set : (logs : List Q) (i : ℕ) (q : Q) →
      map items (slice_set logs i q) ≡ slice_set (map items logs) i (items q)
  map-slice_set [] i q = refl
  map-slice_set (x ∷ xs) zero q = refl
  map-slice_set (x ∷ xs) (suc i) q = ap (λ l. items x ∷ l) (map-slice_set xs i q)

  pub taken : (before after : List JournalEntry) (h : HoldEntry) (holds rest : List HoldEntry) (logs : List Q)
      (q new : Q) →
      holds ≡ h ∷ rest → h.lane.0 < length logs → q ≡ slice_index_or logs h.lane.0 q →
      after ≡ before ++ through_hold (items q) → items new ≡ past_hold (items q) →
      after ++ merged rest (map items (slice_set logs h.lane.0 new)) ≡ before ++ merged holds (map items logs)
  taken before after h holds rest logs q new next below is entries past =
      let i : ℕ = h.lane.0 in
      let log : Log = log_of (map items logs) i in
      let read : log ≡ items q = read-map logs i q below is in
      let logs' : map items (slice_set logs i new) ≡ slice_set (map items logs) i (past_hold log) =
      map-slice_set logs i new ∙ ap (slice_set (map items logs) i) (past ∙ ap past_hold (sym read)) in
      let more : List JournalEntry = merged rest (map items (slice_set logs i new)) in
      ap (λ es. es ++ more) (entries ∙ ap (λ l. before ++ through_hold l) (sym read))
      ∙ append_assoc before (through_hold log) more
      ∙ ap (λ l. before ++ (through_hold log ++ merged rest l)) logs'
      ∙ ap (λ hs. before ++ merged hs (map items logs)) (sym next)
