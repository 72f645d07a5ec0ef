-- How often a frame occurs among those that no driver has.
use Rattle.std.proofs.Common.{◌≡◌, ◌≢◌, ℕ, zero, suc, ◌+◌, ◌<◌, ◌≤◌, ◌==◌, ◌&&◌, ◌||◌, not, Bool, true, false, cond}
use Rattle.std.proofs.Common.{max}
use Rattle.std.proofs.Common.{List, [], ◌∷◌, ◌++◌, refl, sym, ap, ◌∙◌, arith, nat_le, ◌⊎◌, inl, inr}
use Rattle.std.specs.List.{count_by, filter, list_any}
use Rattle.std.proofs.lemmas.Bool.{cases_lt, eqb-true, and_parts, false≢true, false_from_ne_true, leb-true, ltb-true}
use Rattle.std.proofs.lemmas.Bool.Decides.{nat_tests}
use Rattle.std.proofs.lemmas.List.Concat.{flat_map-cons}
use Rattle.std.proofs.lemmas.List.Elements.{All-weaker}
use Rattle.std.proofs.lemmas.List.Folds.{list_any-append}
use Rattle.busdma_base.specs.declared.scenarios.scenario.Driver.{Driver}
use Rattle.busdma_base.specs.declared.scenarios.scenario.FrameRun.{FrameRun}
use Rattle.busdma_base.specs.declared.scenarios.scenario.Scenario.{Scenario}
use Rattle.busdma_base.specs.Scenarios.Opening.{free_below, is_owned, maxmem_of}
use Rattle.busdma_machine.specs.Bounce.Places.{times}
use Rattle.busdma_machine.specs.Each.{EachAfter}
use Rattle.busdma_base.specs.Scenarios.FrameRuns.{IsFrameRun, is_in, overlap}
use Rattle.busdma_machine.specs.Runs.{run_of}
use Rattle.busdma_machine.proofs.Accounts.EditedSums.{count_by-append, count_by-filter_keeps}
use Rattle.busdma_base.proofs.OpeningLaws.{free-below}
use Rattle.opening_frames.proofs.ListCounts.{weight, count_by-cons}
use Rattle.opening_frames.specs.Frames.{free_of, unowned, unowned_in}
use Rattle.opening_frames.proofs.Rising.{times-cons, times-none, weight-off, weight-same}

or-left : (a b : Bool) → a ≡ true → (a || b) ≡ true
or-left true b e = refl
or-left false b e = absurd (false≢true e)

or-right : (a b : Bool) → b ≡ true → (a || b) ≡ true
or-right true b e = refl
or-right false b e = e

and-true : (a : Bool) → (a && true) ≡ a
and-true true = refl
and-true false = refl

and-false : (a : Bool) → (a && false) ≡ false
and-false true = refl
and-false false = refl

-- ---- in a run

run-above : (n a k : ℕ) → n < a → times n (run_of a k) ≡ 0
run-above n a zero l = refl
run-above n a (suc k) l =
    omega (
      arith,
      times-cons n a (run_of (a + 1) k),
      weight-off n a (λ e. absurd (omega (arith, l, e))),
      run-above n (a + 1) k (omega (arith, l)),
    )

run-below : (n a k : ℕ) → a + k ≤ n → times n (run_of a k) ≡ 0
run-below n a zero l = refl
run-below n a (suc k) l =
    omega (
      arith,
      times-cons n a (run_of (a + 1) k),
      weight-off n a (λ e. absurd (omega (arith, l, e))),
      run-below n (a + 1) k (omega (arith, l)),
    )

run-within : (n a k : ℕ) → a ≤ n → n < a + k → times n (run_of a k) ≡ 1
run-within n a zero l m = absurd (omega (arith, l, m))
run-within n a (suc k) l m = by (cases_lt a n) (run-within n (a + 1) k)
  where
    by : (a < n) ⊎ (n ≤ a) → (a + 1 ≤ n → n < a + 1 + k → times n (run_of (a + 1) k) ≡ 1) →
        times n (a ∷ run_of (a + 1) k) ≡ 1
    by (inl low) next =
        omega (
          arith,
          times-cons n a (run_of (a + 1) k),
          weight-off n a (λ e. absurd (omega (arith, low, e))),
          next (omega (arith, low)) (omega (arith, m)),
        )
    by (inr high) next =
        omega (
          arith,
          times-cons n a (run_of (a + 1) k),
          weight-same n a (omega (arith, l, high)),
          run-above n (a + 1) k (omega (arith, l, high)),
        )

run-times : (n : ℕ) (run : FrameRun) → times n (run_of run.first run.count) ≡ weight (is_in n run)
run-times n run = by (cases_lt n run.first) (cases_lt n (run.first + run.count))
  where
    by : (n < run.first) ⊎ (run.first ≤ n) → (n < run.first + run.count) ⊎ (run.first + run.count ≤ n) →
        times n (run_of run.first run.count) ≡ weight (is_in n run)
    by (inl low) h =
        let out : is_in n run ≡ false = grind (arith, nat_tests, low) in
        run-above n run.first run.count low ∙ sym (ap weight out)
    by (inr from) (inl to) =
        let in_ : is_in n run ≡ true = grind (arith, nat_tests, from, to) in
        run-within n run.first run.count from to ∙ sym (ap weight in_)
    by (inr from) (inr past) =
        let out : is_in n run ≡ false = grind (arith, nat_tests, from, past) in
        run-below n run.first run.count past ∙ sym (ap weight out)

-- ---- what a test keeps

drops : (p : ℕ → Bool) (n : ℕ) → p n ≡ false → (fs : List ℕ) → times n (filter p fs) ≡ 0
drops p n e [] = refl
drops p n e (f ∷ fs) = by (p f) refl (drops p n e fs)
  where
    by : (c : Bool) → p f ≡ c → times n (filter p fs) ≡ 0 → times n (cond c (f ∷ filter p fs) (filter p fs)) ≡ 0
    by true t next =
        omega (
          arith,
          times-cons n f (filter p fs),
          weight-off n f (λ same. false≢true (sym e ∙ ap p (sym same) ∙ t)),
          next,
        )
    by false t next = next

keeps : (p : ℕ → Bool) (n : ℕ) → p n ≡ true → (fs : List ℕ) → times n (filter p fs) ≡ times n fs
keeps p n e fs = count_by-filter_keeps (λ f. f == n) p fs (λ f t. ap p (eqb-true f n t) ∙ e)

-- ---- in runs that lie apart

module _ (n : ℕ) where
  -- two runs that have the frame overlap
  both : (a b : FrameRun) → is_in n a ≡ true → is_in n b ≡ true → overlap a b ≡ true
  both a b ha hb =
      let la : a.first ≤ n = leb-true a.first n (and_parts (nat_le a.first n) _ ha).0 in
      let lb : b.first ≤ n = leb-true b.first n (and_parts (nat_le b.first n) _ hb).0 in
      let ua : n < a.first + a.count = ltb-true n (a.first + a.count) (and_parts (nat_le a.first n) _ ha).1 in
      let ub : n < b.first + b.count = ltb-true n (b.first + b.count) (and_parts (nat_le b.first n) _ hb).1 in
      grind (arith, nat_tests, la, lb, ua, ub)

  meeting : (run : FrameRun) (before : List FrameRun) → is_in n run ≡ true → list_any (is_in n) before ≡ true →
      list_any (overlap run) before ≡ true
  meeting run [] here h = absurd (false≢true h)
  meeting run (b ∷ before) here h = by (is_in n b) refl h (meeting run before here)
    where
      by : (c : Bool) → is_in n b ≡ c → (c || list_any (is_in n) before) ≡ true →
          (list_any (is_in n) before ≡ true → list_any (overlap run) before ≡ true) →
          (overlap run b || list_any (overlap run) before) ≡ true
      by true e h next = or-left (overlap run b) (list_any (overlap run) before) (both run b here e)
      by false e h next = or-right (overlap run b) (list_any (overlap run) before) (next h)

  -- a frame of a run is in no later one
  later-none : (before runs : List FrameRun) → EachAfter IsFrameRun before runs → list_any (is_in n) before ≡ true →
      count_by (is_in n) runs ≡ 0
  later-none before [] each h = refl
  later-none before (r ∷ runs) each h =
      let out : is_in n r ≡ false =
      false_from_ne_true (is_in n r) (λ e. false≢true (sym each.0.apart ∙ meeting r before e h)) in
      omega (
        arith,
        count_by-cons (is_in n) r runs,
        ap weight out,
        later-none (before ++ r ∷ []) runs each.1
            (list_any-append (is_in n) before (r ∷ []) ∙ or-left (list_any (is_in n) before) _ h),
      )

  one-run : (before runs : List FrameRun) → EachAfter IsFrameRun before runs →
      count_by (is_in n) runs ≡ weight (list_any (is_in n) runs)
  one-run before [] each = refl
  one-run before (r ∷ runs) each = by (is_in n r) refl (one-run (before ++ r ∷ []) runs each.1)
    where
      by : (c : Bool) → is_in n r ≡ c → count_by (is_in n) runs ≡ weight (list_any (is_in n) runs) →
          count_by (is_in n) (r ∷ runs) ≡ weight (c || list_any (is_in n) runs)
      by true e next =
          omega (
            arith,
            count_by-cons (is_in n) r runs,
            ap weight e,
            later-none (before ++ r ∷ []) runs each.1
                (list_any-append (is_in n) before (r ∷ [])
                ∙ or-right (list_any (is_in n) before) (is_in n r || false) (or-left (is_in n r) false e)),
          )
      by false e next = omega (arith, count_by-cons (is_in n) r runs, ap weight e, next)

  -- ---- among those that no driver has

  module _ (ds : List Driver) where
    run-kept : (runs : List FrameRun) → not (is_owned ds n) ≡ true → times n (unowned ds runs) ≡ count_by (is_in n)
        runs
    run-kept [] e = refl
    run-kept (r ∷ runs) e =
        ap (times n) (flat_map-cons (unowned_in ds) r runs)
        ∙ omega (
          arith,
          count_by-append (λ f. f == n) (unowned_in ds r) (unowned ds runs),
          keeps (λ f. not (is_owned ds f)) n e (run_of r.first r.count),
          run-times n r,
          count_by-cons (is_in n) r runs,
          run-kept runs e,
        )

    run-dropped : (runs : List FrameRun) → not (is_owned ds n) ≡ false → times n (unowned ds runs) ≡ 0
    run-dropped [] e = refl
    run-dropped (r ∷ runs) e =
        ap (times n) (flat_map-cons (unowned_in ds) r runs)
        ∙ omega (
          arith,
          count_by-append (λ f. f == n) (unowned_in ds r) (unowned ds runs),
          drops (λ f. not (is_owned ds f)) n e (run_of r.first r.count),
          run-dropped runs e,
        )

    unowned-times : (before runs : List FrameRun) → EachAfter IsFrameRun before runs →
        times n (unowned ds runs) ≡ weight (list_any (is_in n) runs && not (is_owned ds n))
    unowned-times before runs each = by (not (is_owned ds n)) refl
      where
        by : (c : Bool) → not (is_owned ds n) ≡ c →
            times n (unowned ds runs) ≡ weight (list_any (is_in n) runs && c)
        by true e =
            run-kept runs e ∙ one-run before runs each
            ∙ ap weight (sym (and-true (list_any (is_in n) runs)))
        by false e = run-dropped runs e ∙ ap weight (sym (and-false (list_any (is_in n) runs)))

  module _ (s : Scenario) where
    abbrev free : ℕ → Bool
    free f = list_any (is_in f) s.frames && not (is_owned s.drivers f)

    one-free : (m : ℕ) → m ≡ n → times n (filter free (m ∷ [])) ≡ weight (free n)
    one-free m same = by (free m) refl
      where
        by : (c : Bool) → free m ≡ c → times n (cond c (m ∷ []) []) ≡ weight (free n)
        by true e = omega (arith, times-cons n m [], weight-same n m same, ap weight (ap free (sym same) ∙ e))
        by false e = omega (arith, ap weight (ap free (sym same) ∙ e))

    one-off : (m : ℕ) → m ≢ n → times n (filter free (m ∷ [])) ≡ 0
    one-off m off = by (free m)
      where
        by : (c : Bool) → times n (cond c (m ∷ []) []) ≡ 0
        by true = omega (arith, times-cons n m [], weight-off n m off)
        by false = refl

    past-none : (m : ℕ) → m ≤ n → times n (free_below s m) ≡ 0
    past-none m h =
        times-none n (free_below s m)
        (All-weaker (λ f. f < m) (λ f. f ≢ n) (λ f l e. absurd (omega (arith, l, e, h))) (free_below s m)
        (free-below s m))

    below-times : (m : ℕ) → n < m → times n (free_below s m) ≡ weight (free n)
    below-times zero h = absurd (omega (arith, h))
    below-times (suc m) h = by (cases_lt n m) (below-times m)
      where
        parts : times n (free_below s (suc m)) ≡ times n (free_below s m) + times n (filter free (m ∷ []))
        parts = count_by-append (λ f. f == n) (free_below s m) (filter free (m ∷ []))

        by : (n < m) ⊎ (m ≤ n) → (n < m → times n (free_below s m) ≡ weight (free n)) →
            times n (free_below s (suc m)) ≡ weight (free n)
        by (inl low) next =
            parts ∙ omega (arith, next low, one-off m (λ e. absurd (omega (arith, e, low))))
        by (inr high) next = parts ∙ omega (arith, past-none m high, one-free m (omega (arith, high, h)))

-- a frame of the machine lies below its end
frame-below : (frames : List FrameRun) (f : ℕ) → list_any (is_in f) frames ≡ true → f < maxmem_of frames
frame-below [] f h = absurd (false≢true h)
frame-below (r ∷ frames) f h = by (is_in f r) refl (frame-below frames f) h
  where
    by : (b : Bool) → is_in f r ≡ b → (list_any (is_in f) frames ≡ true → f < maxmem_of frames) →
        (b || list_any (is_in f) frames) ≡ true → f < max (r.first + r.count) (maxmem_of frames)
    by true e rest g =
        let high : f < r.first + r.count = ltb-true f (r.first + r.count) (and_parts (nat_le r.first f) _ e).1 in
        omega (arith, high)
    by false e rest g = let low = rest g in omega (arith, low)

-- each number occurs as often among the frames that no driver has run by run as among the same frames in rising order
pub same-times : (s : Scenario) → EachAfter IsFrameRun [] s.frames → (n : ℕ) →
    times n (unowned s.drivers s.frames) ≡ times n (free_of s)
same-times s each n = unowned-times n s.drivers [] s.frames each ∙ by (cases_lt n (maxmem_of s.frames))
  where
    by : (n < maxmem_of s.frames) ⊎ (maxmem_of s.frames ≤ n) →
        weight (list_any (is_in n) s.frames && not (is_owned s.drivers n)) ≡ times n (free_of s)
    by (inl low) = sym (below-times n s (maxmem_of s.frames) low)
    by (inr past) =
        let out : list_any (is_in n) s.frames ≡ false =
        false_from_ne_true (list_any (is_in n) s.frames)
        (λ e. absurd (omega (arith, past, frame-below s.frames n e))) in
        ap (λ b. weight (b && not (is_owned s.drivers n))) out ∙ sym (past-none n s (maxmem_of s.frames) past)
