-- A lane whose pass made no call knows that it has nothing.
use Rattle.std.proofs.Common.{◌≡◌, ℕ, ◌+◌, ◌==◌, false, [], ◌++◌, Some, None, refl, sym, ◌∙◌, subst, eq-eqb}
use Rattle.std.proofs.lemmas.Bool.{false≢true}
use Rattle.atomic_table.specs.Seated.{TableId}
use Rattle.lane_agreement.specs.View.{View}
use Rattle.lane_agreement.proofs.Whole.{agrees-opening}
use Rattle.lane_threads.specs.Closing.{LanePass}
use Rattle.lane_threads.specs.PassDoor.{seen_from, seen}
use Rattle.lane_threads_tests.specs.Knowing.{Knows, HasMaps, HasNone}
use Rattle.lane_threads_tests.specs.Passes.{StartsAt}

-- a lane that has nothing
abbrev nothing : ℕ → View
nothing lane = record {
  id = lane;
  maxmem = 0x1010;
  map_at = λ k. None;
  mem_at = λ k. None;
  returns = [];
  own_frame = λ f. false;
}

-- the door has seen the opening account, and no hold
seen_first : (lane : ℕ) (id : TableId) (p : LanePass) (s : StartsAt id p) → p.name ≡ lane + 1
    → seen p ≡ record { opening = s.start.fixed; history = []; serves = λ l. l + 1 == lane + 1 }
seen_first lane id p s named =
    let whole : seen p ≡ seen_from (Some s.start) (lane + 1) [] =
    (λ i. seen_from (s.started i) (named i) (s.front i)) in
    whole
    ∙ (λ i. record { opening = s.start.fixed; history = s.empty i ++ []; serves = λ l. l + 1 == lane + 1 })

pub starts : (lane : ℕ) (id : TableId) (p : LanePass) (Has : View → Type 0) → StartsAt id p → p.name ≡ lane + 1
    → Has (nothing lane) → Knows lane Has (seen p)
starts lane id p Has s named has =
    subst (Knows lane Has) (sym (seen_first lane id p s named)) (record {
      view = nothing lane;
      id = refl;
      has = has;
      served = eq-eqb (lane + 1) (lane + 1) refl;
      sound = tt;
      agrees = agrees-opening (nothing lane) s.start.fixed
          (record { maps = λ k. refl; mems = λ k. refl; returns = refl })
          s.form (sym s.maxmem) (λ f own. absurd (false≢true own));
    })

pub starts_with_none : (lane : ℕ) (id : TableId) (p : LanePass) → StartsAt id p → p.name ≡ lane + 1
    → Knows lane HasNone (seen p)
starts_with_none lane id p s named =
    starts lane id p HasNone s named (record { maxmem = refl; maps = λ k. refl; returns = refl })

pub starts_with_no_maps : (id : TableId) (p : LanePass) → StartsAt id p → p.name ≡ 1
    → Knows 0 (HasMaps None None []) (seen p)
starts_with_no_maps id p s named =
    starts 0 id p (HasMaps None None []) s named
    (record { maxmem = refl; one = refl; two = refl; three = refl; four = refl; returns = refl })
