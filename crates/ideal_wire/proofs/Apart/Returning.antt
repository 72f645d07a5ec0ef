-- The map of a page that is on its way back has no load.
use Rattle.std.proofs.Common.{◌≡◌, ℕ, ◌==◌, Bool, true, false, List, ◌∷◌, Option, Some, None, refl, ap, sym, ◌∙◌}
use Rattle.std.proofs.Common.{arith}
use Rattle.std.proofs.Common.{eq-eqb}
use Rattle.std.specs.FinMap.{get}
use Rattle.busdma_machine.specs.Bounce.Account.{Account}
use Rattle.lane_agreement.specs.OwnShare.{share_if}
use Rattle.lane_agreement.specs.View.{Return, returning, is_returning}
use Rattle.lane_agreement.proofs.Own.{count-one}
use Rattle.ideal_lane.specs.Agreement.{AgreesWith}
use Rattle.ideal_lane.specs.Outcomes.{is_loaded}
use Rattle.ideal_lane.specs.State.{LaneState, LaneMap, Stage, Idle, Waiting, Loaded, Returning}
use Rattle.ideal_lane.specs.View.{own_map, in_zone}

module _ (l : LaneState) (a : Account) (agrees : AgreesWith l a) (x : Return) (rest : List Return)
    (e : l.returns ≡ x ∷ rest) where
  some : returning x.map l.returns ≡ 0 → ⊥
  some none =
      let one = count-one (λ (r : Return). r.map == x.map) x rest in
      let here : (x.map == x.map) ≡ true = eq-eqb x.map x.map refl in
      absurd (omega (arith, sym (ap (returning x.map) e) ∙ none, one, ap share_if here))

  stage-of : (s : Stage) (z : Option ℕ) → is_returning (in_zone s z) ≡ true → is_loaded s ≡ false
  stage-of s None h = absurd (cc)
  stage-of Idle (Some z) h = refl
  stage-of (Waiting w) (Some z) h = refl
  stage-of (Loaded cs ss ps) (Some z) h = absurd (cc)
  stage-of Returning (Some z) h = refl

  pub returning-unloaded : (o : LaneMap) → get l.maps x.map ≡ Some o → is_loaded o.stage ≡ false
  returning-unloaded o g = by (is_returning (own_map (get l.maps x.map))) refl
    where
      by : (b : Bool) → is_returning (own_map (get l.maps x.map)) ≡ b → is_loaded o.stage ≡ false
      by false r = absurd (some (agrees.returns x.map r))
      by true r = stage-of o.stage o.zone (sym (ap (λ y. is_returning (own_map y)) g) ∙ r)
