-- The account with which a valid scenario opens can begin a history.
use Rattle.std.proofs.Common.{◌≡◌, ℕ, zero, suc, ◌+◌, ◌-◌, ◌*◌, ◌%◌, ◌^◌, ◌<◌, ◌≤◌, Bool, true, false, cond, not, ◌&&◌}
use Rattle.std.proofs.Common.{◌||◌, List, [], ◌∷◌, ◌++◌, map, length, refl, subst, arith, All, nat_le}
use Rattle.std.specs.List.{filter, list_any}
use Rattle.std.proofs.lemmas.Bool.{leb-true, ltb-true}
use Rattle.std.proofs.lemmas.List.{length-append, length-map, append-nil}
use Rattle.std.proofs.lemmas.List.Sums.{sum_by-cons, sum_by-append}
use Rattle.std.proofs.lemmas.List.Elements.{All-nil, All-head, All-tail, All-push, All-weaker, All-map}
use Rattle.std.proofs.Math.Nat.{add-mul-mod_self_left}
use Rattle.busdma_base.specs.declared.scenarios.scenario.FrameRun.{FrameRun}
use Rattle.busdma_base.specs.declared.scenarios.scenario.Scenario.{Scenario}
use Rattle.busdma_machine.specs.Each.{EachAfter}
use Rattle.busdma_base.specs.Scenarios.FrameRuns.{is_in, frame_count, IsFrameRun}
use Rattle.busdma_base.specs.Scenarios.Opening.{maxmem_of, is_owned, free_below, opening}
use Rattle.busdma_base.specs.Scenarios.Valid.{IsValid}
use Rattle.busdma_machine.specs.Bounce.Account.{Zone, Held, Memory}
use Rattle.busdma_machine.specs.Bounce.EachFrame.{LiesBelowMaxmem}
use Rattle.busdma_machine.specs.Bounce.History.{IsRising, IsFrame, IsOpening}
use Rattle.busdma_machine.proofs.Accounts.Names.{and_left, and_right}

abbrev weight : Bool → ℕ
weight b = cond b 1 0

weight-or : (a b : Bool) → weight (a || b) ≤ weight a + weight b
weight-or true b = omega arith
weight-or false b = omega arith

weight-and : (a b : Bool) → weight (a && b) ≤ weight a
weight-and true true = omega arith
weight-and true false = omega arith
weight-and false b = omega arith

-- how many of the first n frames are in a run, and in a list of runs
abbrev inside : FrameRun → ℕ → ℕ
inside run zero = 0
inside run (suc n) = inside run n + weight (is_in n run)

abbrev within : List FrameRun → ℕ → ℕ
within runs zero = 0
within runs (suc n) = within runs n + weight (list_any (is_in n) runs)

inside-le : (run : FrameRun) (n : ℕ) → (inside run n ≤ run.count) × (inside run n ≤ n - run.first)
inside-le run zero = (omega arith, omega arith)
inside-le run (suc n) =
    (elim (is_in n run) as (λ v. is_in n run ≡ v → (inside run n + weight v ≤ run.count)
    × (inside run n + weight v ≤ suc n - run.first)) [
      | true ↦ λ e. (let low : run.first ≤ n = leb-true run.first n (and_left (nat_le run.first n) _ e) in
          let high : n < run.first + run.count =
          ltb-true n (run.first + run.count) (and_right (nat_le run.first n) _ e) in
          (omega (arith, low, high, (inside-le run n).1), omega (arith, low, (inside-le run n).1)))
      | false ↦ λ e. (omega (arith, (inside-le run n).0), omega (arith, (inside-le run n).1))
    ]) refl

within-none : (n : ℕ) → within [] n ≡ 0
within-none zero = refl
within-none (suc n) = omega (arith, within-none n)

within-cons : (run : FrameRun) (runs : List FrameRun) (n : ℕ) → within (run ∷ runs) n ≤ inside run n + within runs n
within-cons run runs zero = omega arith
within-cons run runs (suc n) = omega (arith, within-cons run runs n, weight-or (is_in n run) (list_any (is_in n) runs))

within-le : (runs : List FrameRun) (n : ℕ) → within runs n ≤ frame_count runs
within-le [] n = omega (arith, within-none n)
within-le (run ∷ runs) n =
    omega (
      arith,
      within-cons run runs n,
      (inside-le run n).0,
      within-le runs n,
      sum_by-cons (λ (r : FrameRun). r.count) run runs,
    )

-- there are no more free frames than frames
one-le : (p : ℕ → Bool) (n : ℕ) → length (filter p (n ∷ [])) ≡ weight (p n)
one-le p n = elim (p n) as (λ v. length (cond v (n ∷ []) []) ≡ weight v) [ true ↦ refl | false ↦ refl ]

free-le : (s : Scenario) (n : ℕ) → length (free_below s n) ≤ within s.frames n
free-le s zero = omega arith
free-le s (suc n) =
    let p : ℕ → Bool = (λ f. list_any (is_in f) s.frames && not (is_owned s.drivers f)) in
    omega (
      arith,
      free-le s n,
      length-append (free_below s n) (filter p (n ∷ [])),
      one-le p n,
      weight-and (list_any (is_in n) s.frames) (not (is_owned s.drivers n)),
    )

-- the number of frames and the frame numbers of a valid scenario keep their limits
frames-few : (before runs : List FrameRun) → frame_count before ≤ 8192 → EachAfter IsFrameRun before runs →
    frame_count before + frame_count runs ≤ 8192
frames-few before [] few each = omega (arith, few)
frames-few before (run ∷ runs) few each =
    let joined : frame_count (before ++ run ∷ []) ≡ frame_count before + frame_count (run ∷ []) =
    sum_by-append (λ (r : FrameRun). r.count) before (run ∷ []) in
    let one : frame_count (run ∷ []) ≡ run.count + 0 = sum_by-cons (λ (r : FrameRun). r.count) run [] in
    omega (
      arith,
      joined,
      one,
      frames-few (before ++ run ∷ []) runs (omega (arith, joined, one, each.0.few)) each.1,
      sum_by-cons (λ (r : FrameRun). r.count) run runs,
    )

maxmem-low : (before runs : List FrameRun) → EachAfter IsFrameRun before runs → maxmem_of runs ≤ 2 ^ 30
maxmem-low before [] each = omega arith
maxmem-low before (run ∷ runs) each = grind (arith, each.0.numbered, maxmem-low (before ++ run ∷ []) runs each.1)

-- the free frames below n rise, and each is below n
pub free-below : (s : Scenario) (n : ℕ) → All (λ f. f < n) (free_below s n)
free-below s zero = All-nil (λ f. f < 0)
free-below s (suc n) =
    let p : ℕ → Bool = (λ f. list_any (is_in f) s.frames && not (is_owned s.drivers f)) in
    let lower : All (λ f. f < suc n) (free_below s n) =
    All-weaker (λ f. f < n) (λ f. f < suc n) (λ f h. omega (arith, h)) (free_below s n) (free-below s n) in
    elim (p n) as (λ v. All (λ f. f < suc n) (free_below s n ++ cond v (n ∷ []) [])) [
      | true ↦ All-push (λ f. f < suc n) (free_below s n) n lower (omega arith)
      | false ↦ rw (append-nil (free_below s n)) lower
    ]

push_rises : (fs : List ℕ) (n : ℕ) → IsRising fs → All (λ f. f < n) fs → IsRising (fs ++ n ∷ [])
push_rises [] n rising low = tt
push_rises (f ∷ []) n rising low = (All-head (λ x. x < n) f [] low, tt)
push_rises (f ∷ g ∷ gs) n rising low =
    (rising.0, push_rises (g ∷ gs) n rising.1 (All-tail (λ x. x < n) f (g ∷ gs) low))

free-rises : (s : Scenario) (n : ℕ) → IsRising (free_below s n)
free-rises s zero = tt
free-rises s (suc n) =
    let p : ℕ → Bool = (λ f. list_any (is_in f) s.frames && not (is_owned s.drivers f)) in
    elim (p n) as (λ v. IsRising (free_below s n ++ cond v (n ∷ []) [])) [
      | true ↦ push_rises (free_below s n) n (free-rises s n) (free-below s n)
      | false ↦ rw (append-nil (free_below s n)) (free-rises s n)
    ]

scaled_rises : (fs : List ℕ) → IsRising fs → IsRising (map (λ f. 4096 * f) fs)
scaled_rises [] rising = tt
scaled_rises (f ∷ []) rising = tt
scaled_rises (f ∷ g ∷ gs) rising = (omega (arith, rising.0), scaled_rises (g ∷ gs) rising.1)

frame_of : (n f : ℕ) → n ≤ 2 ^ 30 → f < n → IsFrame (4096 * f)
frame_of n f low below =
    let same : 0 + 4096 * f ≡ 4096 * f = omega arith in
    record {
      whole = subst (λ k. k % 4096 ≡ 0) same (add-mul-mod_self_left 0 4096 f);
      numbered = omega (arith, low, below);
    }

pub opening-may_begin : (s : Scenario) → IsValid s → IsOpening (opening s)
opening-may_begin s valid =
    let n : ℕ = maxmem_of s.frames in
    let low : n ≤ 2 ^ 30 = maxmem-low [] s.frames valid.frames in
    record {
      rising = scaled_rises (free_below s n) (free-rises s n);
      frames =
          All-map IsFrame (λ f. 4096 * f) (free_below s n)
          (All-weaker (λ f. f < n) (λ f. IsFrame (4096 * f)) (λ f h. frame_of n f low h)
          (free_below s n) (free-below s n));
      few =
          omega (
            arith,
            length-map {B = ℕ} (free_below s n) (λ f. 4096 * f),
            free-le s n,
            within-le s.frames n,
            frames-few [] s.frames (omega arith) valid.frames,
          );
      zones = refl;
      held = refl;
      ready = refl;
      mems = refl;
    }

pub below-opening : (s : Scenario) → LiesBelowMaxmem (opening s)
below-opening s =
    let n : ℕ = maxmem_of s.frames in
    record {
      bank =
          All-map (λ f. f < 4096 * n) (λ f. 4096 * f) (free_below s n)
          (All-weaker (λ f. f < n) (λ f. 4096 * f < 4096 * n) (λ f low. omega (arith, low))
          (free_below s n) (free-below s n));
      listed = All-nil (λ (z : Zone). All (λ f. f < 4096 * n) z.avail);
      held = All-nil (λ (h : Held). h.page < 4096 * n);
      mems = All-nil (λ (m : Memory). All (λ f. f < 4096 * n) m.frames);
    }
