-- Where device addresses lie in the loads of maps.
use Rattle.std.proofs.Common.{◌≡◌, ℕ, ◌==◌, ◌&&◌, Bool, true, false, cond, List, ◌∷◌, Option, Some, None}
use Rattle.std.proofs.Common.{is_some, slice_get, unwrap_or, refl, ap, ◌∙◌}
use Rattle.std.specs.Ordering.{nat_cmp}
use Rattle.std.specs.FinMap.{FinMap, entries, entries_sorted, get, get-entries}
use Rattle.std.specs.List.{AllByRecursion}
use Rattle.dma_map.specs.MapView as held
use Rattle.busdma_rules.specs.declared.position.Position.{Position}
use Rattle.busdma_rules.specs.Lending.Loans.{loan_of}
use Rattle.ideal_lane.specs.Accesses.{place_in, position_in}
use Rattle.ideal_lane.specs.State.{LaneState}
use Rattle.ideal_lane.specs.Unloads.{segments_in}
use Rattle.ideal_wire.proofs.Faithful.Lent.{entry_found}
use Rattle.ideal_wire.proofs.Loads.Reaching.{all-from}
use Rattle.lane_state.specs.declared.kept.KeptLoad.{KeptLoad}
use Rattle.lane_state.specs.declared.kept.KeptMap.{KeptMap}
use Rattle.lane_state.specs.Kept.{map_of, kept_stage}
use Rattle.lane_state.specs.MapValues.{entry_values}

-- the segments of a map are those of its ideal one
pub segments-same : (s : held.HeldStage KeptLoad) → segments_in (kept_stage s) ≡ held.segments_of s
segments-same held.idle = refl
segments-same (held.waiting load_at callback room) = refl
segments-same (held.loaded bounced segments pages) = refl
segments-same (held.lent bounced segments frames) = refl
segments-same held.returning = refl

-- the entries of a table are found in it
abbrev pub AreOfTable : FinMap nat_cmp KeptMap → List (ℕ × KeptMap) → Type 0
AreOfTable maps es = AllByRecursion (λ e. get maps e.0 ≡ Some e.1) es

pub of-table : (maps : FinMap nat_cmp KeptMap) → AreOfTable maps (entries maps)
of-table maps =
    all-from (λ e. get maps e.0 ≡ Some e.1) (entries maps)
    (λ i e at. get-entries maps e.0 ∙ entry_found (entries maps) (entries_sorted maps) i e at)

module _ (l : LaneState) (t a k : ℕ) (x : KeptMap) (es : List (ℕ × KeptMap)) where
  abbrev place : Option ℕ
  place = place_in 0 (segments_in (kept_stage x.map.stage)) a

  abbrev rest : Option Position
  rest = position_in l t a (entry_values map_of es)

  none-there : (b : Bool) (o : Option ℕ) → o ≡ None →
      cond (b && is_some o) (slice_get (loan_of l.loans k).positions (unwrap_or o 0)) rest ≡ rest
  none-there true None e = refl
  none-there false None e = refl
  none-there b (Some p) e = absurd (cc)

  other-there : (b : Bool) (o : Option ℕ) → b ≡ false →
      cond (b && is_some o) (slice_get (loan_of l.loans k).positions (unwrap_or o 0)) rest ≡ rest
  other-there false o e = refl
  other-there true o e = absurd (cc)

  one-there : (b : Bool) (o : Option ℕ) (p : ℕ) → b ≡ true → o ≡ Some p →
      cond (b && is_some o) (slice_get (loan_of l.loans k).positions (unwrap_or o 0)) rest
      ≡ slice_get (loan_of l.loans k).positions p
  one-there b o p e f = rw (e, f) refl

  -- a map of another tag has no address of this one
  pub another-tag : (x.tag == t) ≡ false → position_in l t a (entry_values map_of ((k, x) ∷ es)) ≡ rest
  another-tag other = other-there (x.tag == t) place other

  -- a map whose load does not have it is passed over
  pub none-of-it : place_in 0 (held.segments_of x.map.stage) a ≡ None →
      position_in l t a (entry_values map_of ((k, x) ∷ es)) ≡ rest
  none-of-it none = none-there (x.tag == t) place (ap (λ ss. place_in 0 ss a) (segments-same x.map.stage) ∙ none)

  -- a map of the tag whose load has the address gives the position at its place
  pub one-of-it : (p : ℕ) → (x.tag == t) ≡ true → place_in 0 (held.segments_of x.map.stage) a ≡ Some p →
      position_in l t a (entry_values map_of ((k, x) ∷ es)) ≡ slice_get (loan_of l.loans k).positions p
  one-of-it p same found =
      one-there (x.tag == t) place p same (ap (λ ss. place_in 0 ss a) (segments-same x.map.stage) ∙ found)
