-- What holds of a refusal and of each step after it holds of the step with its refusals.
use Rattle.std.proofs.Common.{◌≡◌, ℕ, ◌+◌, ◌-◌, Bool, true, false, Option, Some, None, if◌then◌else◌, refl, nat_le}
use Rattle.std.specs.FinMap.{get}
use Rattle.busdma_base.specs.declared.journals.answer.Answer.TheVariants as answer
use Rattle.busdma_machine.specs.declared.report.Judged.{Judged}
use Rattle.busdma_machine.specs.declared.report.Judged.TheVariants.{Fine, Refused}
use Rattle.busdma_machine.specs.declared.report.Report.{Report}
use Rattle.busdma_machine.specs.declared.report.ReportName.TheVariants.{Absent, MapBusy, NotLoaded, PastEnd}
use Rattle.ideal_lane.specs.State.{LaneState, LaneMap}
use Rattle.ideal_lane.specs.Asking.{Asking}
use Rattle.ideal_lane.specs.Outcomes.{Outcome, gives, refused, unless_absent, unless_refused, unless_busy}
use Rattle.ideal_lane.specs.Outcomes.{unless_unloaded, unless_past, is_idle, is_loaded, load_length}

module _ (l : LaneState) (P : Asking Outcome → Type 0) (report : (r : Report) → P (gives l (answer.Report r))) where
  pub absent : {X : Type 0} (o : Option X) (step : X → Asking Outcome) →
      ((x : X) → o ≡ Some x → P (step x)) → P (unless_absent o l step)
  absent None step h = report (record { name = Absent; at = 0 })
  absent (Some x) step h = h x refl

  pub judged : (j : Judged) (step : Asking Outcome) → (j ≡ Fine → P step) → P (unless_refused j l step)
  judged Fine step h = h refl
  judged (Refused r) step h = report r

  pub either : (b : Bool) (x y : Asking Outcome) → (b ≡ true → P x) → (b ≡ false → P y) → P (if b then x else y)
  either true x y h k = h refl
  either false x y h k = k refl

  pub busy : (m : ℕ) (step : LaneMap → Asking Outcome) →
      ((o : LaneMap) → get l.maps m ≡ Some o → is_idle o.stage ≡ true → P (step o)) → P (unless_busy m l step)
  busy m step h =
      absent (get l.maps m) (λ o. if is_idle o.stage then step o else refused MapBusy 0 l) (λ o there.
      either (is_idle o.stage) (step o) (refused MapBusy 0 l) (h o there) (λ no. report _))

  pub unloaded : (m : ℕ) (step : LaneMap → Asking Outcome) →
      ((o : LaneMap) → get l.maps m ≡ Some o → is_loaded o.stage ≡ true → P (step o)) → P (unless_unloaded m l step)
  unloaded m step h =
      absent (get l.maps m) (λ o. if is_loaded o.stage then step o else refused NotLoaded 0 l) (λ o there.
      either (is_loaded o.stage) (step o) (refused NotLoaded 0 l) (h o there) (λ no. report _))

  pub past : (m off len : ℕ) (step : Asking Outcome) → P step → P (unless_past m off len l step)
  past m off len step h =
      either (nat_le (off + len) (load_length l m)) step (refused PastEnd (load_length l m - off) l) (λ within. h)
      (λ no. report _)
