-- No two virtual addresses of a driver's pages are of the same byte, and each send of its script has its clusters.
use Rattle.std.proofs.Common.{◌≡◌, ℕ, ◌+◌, ◌-◌, ◌*◌, ◌/◌, ◌<◌, ◌≤◌, Bool, true, false, ◌||◌, List, [], ◌∷◌, ◌++◌}
use Rattle.std.proofs.Common.{Some, if◌then◌else◌, nat_le, nat_lt, refl, subst, arith}
use Rattle.std.proofs.lemmas.Bool.{and_parts, leb-true, ltb-true}
use Rattle.std.specs.List.{list_any}
use Rattle.busdma_base.specs.declared.scenarios.scenario.PageRun.{PageRun}
use Rattle.busdma_base.specs.declared.scenarios.script.Op.{Op}
use Rattle.busdma_machine.specs.Each.{EachAfter}
use Rattle.busdma_base.specs.Scenarios.PageRuns.{is_in_run, physical_in}
use Rattle.busdma_base.specs.Scenarios.Script.{IsOp}
use Rattle.ideal_lane.specs.Sends.{HaveClusters}
use Rattle.lane_state.specs.OpeningMemory.{IsOwnRun, is_one_of}
use Rattle.lane_state.proofs.OwnRuns.{in_none, one_of_is}

-- each send of a script has its clusters
pub have-clusters : (before script : List Op) → EachAfter IsOp before script → HaveClusters script
have-clusters before [] each = tt
have-clusters before (o ∷ script) each = (each.0.clusters, have-clusters (before ++ o ∷ []) script each.1)

-- a frame is one of those of runs
abbrev frame_in : ℕ → List PageRun → Bool
frame_in f runs = list_any (λ r. is_one_of r.frame r.count f) runs

none-in : (f : ℕ) (xs ys : List PageRun) → frame_in f (xs ++ ys) ≡ false →
    (frame_in f xs ≡ false) × (frame_in f ys ≡ false)
none-in f [] ys h = (refl, h)
none-in f (x ∷ xs) ys h = by (is_one_of x.frame x.count f) (none-in f xs ys) h
  where
    by : (b : Bool) → (frame_in f (xs ++ ys) ≡ false → (frame_in f xs ≡ false) × (frame_in f ys ≡ false)) →
        (b || frame_in f (xs ++ ys)) ≡ false → ((b || frame_in f xs) ≡ false) × (frame_in f ys ≡ false)
    by true rest e = absurd (cc)
    by false rest e = rest e

-- a byte of a run is in one of the run's frames
of-run : (r : PageRun) (va : ℕ) → is_in_run va r ≡ true →
    is_one_of r.frame r.count ((4096 * r.frame + (va - r.va.0)) / 4096) ≡ true
of-run r va h =
    let parts = and_parts (nat_le r.va.0 va) (nat_lt va (r.va.0 + 4096 * r.count)) h in
    let low : r.va.0 ≤ va = leb-true r.va.0 va parts.0 in
    let high : va < r.va.0 + 4096 * r.count = ltb-true va (r.va.0 + 4096 * r.count) parts.1 in
    one_of_is r.frame r.count _ (omega (arith, low, high)) (omega (arith, low, high))

-- a byte of runs is in no frame of the runs before them
not-before : (before runs : List PageRun) (va pa : ℕ) → EachAfter IsOwnRun before runs →
    physical_in runs va ≡ Some pa → frame_in (pa / 4096) before ≡ false
not-before before [] va pa own e = absurd (cc)
not-before before (r ∷ runs) va pa own e =
    by (is_in_run va r) refl (not-before (before ++ r ∷ []) runs va pa own.1) e
  where
    by : (b : Bool) → is_in_run va r ≡ b →
        (physical_in runs va ≡ Some pa → frame_in (pa / 4096) (before ++ r ∷ []) ≡ false) →
        (if b then Some (4096 * r.frame + (va - r.va.0)) else physical_in runs va) ≡ Some pa →
        frame_in (pa / 4096) before ≡ false
    by true h rest e =
        let same : 4096 * r.frame + (va - r.va.0) ≡ pa = cc in
        subst (λ p. frame_in (p / 4096) before ≡ false) same
        (in_none (λ (x : PageRun). x.frame) before r ((4096 * r.frame + (va - r.va.0)) / 4096) own.0.own_frames
        (of-run r va h))
    by false h rest e = (none-in (pa / 4096) before (r ∷ []) (rest e)).0

pub page-once : (before runs : List PageRun) → EachAfter IsOwnRun before runs → (va vb pa : ℕ) →
    physical_in runs va ≡ Some pa → physical_in runs vb ≡ Some pa → va ≡ vb
page-once before [] own va vb pa e f = absurd (cc)
page-once before (r ∷ runs) own va vb pa e f =
    by (is_in_run va r) (is_in_run vb r) refl refl (page-once (before ++ r ∷ []) runs own.1 va vb pa) e f
  where
    -- a byte of the run is in no run after it
    split : (v w : ℕ) → is_in_run v r ≡ true → 4096 * r.frame + (v - r.va.0) ≡ pa → physical_in runs w ≡ Some pa → ⊥
    split v w h at g =
        let none = (none-in (pa / 4096) before (r ∷ []) (not-before (before ++ r ∷ []) runs w pa own.1 g)).1 in
        let some : is_one_of r.frame r.count (pa / 4096) ≡ true =
        subst (λ p. is_one_of r.frame r.count (p / 4096) ≡ true) at (of-run r v h) in
        let both : (true || false) ≡ false = subst (λ b. (b || false) ≡ false) some none in absurd (cc)

    low : (v : ℕ) → is_in_run v r ≡ true → r.va.0 ≤ v
    low v h = leb-true r.va.0 v (and_parts (nat_le r.va.0 v) (nat_lt v (r.va.0 + 4096 * r.count)) h).0

    by : (a b : Bool) → is_in_run va r ≡ a → is_in_run vb r ≡ b →
        (physical_in runs va ≡ Some pa → physical_in runs vb ≡ Some pa → va ≡ vb) →
        (if a then Some (4096 * r.frame + (va - r.va.0)) else physical_in runs va) ≡ Some pa →
        (if b then Some (4096 * r.frame + (vb - r.va.0)) else physical_in runs vb) ≡ Some pa → va ≡ vb
    by true true g h rest e f =
        let here : 4096 * r.frame + (va - r.va.0) ≡ pa = cc in
        let there : 4096 * r.frame + (vb - r.va.0) ≡ pa = cc in
        omega (arith, here, there, low va g, low vb h)
    by true false g h rest e f =
        let here : 4096 * r.frame + (va - r.va.0) ≡ pa = cc in absurd (split va vb g here f)
    by false true g h rest e f =
        let there : 4096 * r.frame + (vb - r.va.0) ≡ pa = cc in absurd (split vb va h there e)
    by false false g h rest e f = rest e f
