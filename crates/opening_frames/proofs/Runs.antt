-- The frames that no driver has, as far as a loop has come, and what a new bank needs of them.
use Rattle.std.proofs.Common.{◌≡◌, ℕ, zero, suc, ◌+◌, ◌*◌, ◌^◌, ◌<◌, ◌≤◌, Bool, true, false, not, max, List, [], ◌∷◌}
use Rattle.std.proofs.Common.{◌++◌, length, map}
use Rattle.std.proofs.Common.{take, drop, get_or, refl, sym, ap, ◌∙◌, arith, subst, append_assoc, append-nil, add-one}
use Rattle.std.specs.List.{All, AllPairs, filter}
use Rattle.std.proofs.Math.Seq.{drop-cons, take-suc}
use Rattle.std.proofs.lemmas.List.{length-map}
use Rattle.std.proofs.lemmas.List.Concat.{flat_map-cons}
use Rattle.std.proofs.lemmas.List.Elements.{All-nil, All-cons, All-append, All-filter, filter-append}
use Rattle.std.proofs.lemmas.Grind.{flat_map-append}
use Rattle.busdma_base.specs.declared.scenarios.scenario.Driver.{Driver}
use Rattle.busdma_base.specs.declared.scenarios.scenario.FrameRun.{FrameRun}
use Rattle.busdma_base.specs.declared.scenarios.scenario.Scenario.{Scenario}
use Rattle.busdma_machine.specs.Bounce.History.{IsRising}
use Rattle.busdma_base.specs.Scenarios.Opening.{is_owned, maxmem_of}
use Rattle.busdma_machine.specs.Bounce.Places.{times}
use Rattle.busdma_machine.specs.Each.{EachAfter}
use Rattle.busdma_base.specs.Scenarios.FrameRuns.{IsFrameRun, IsNumbered}
use Rattle.busdma_machine.specs.Machine.PageList.{page_addresses}
use Rattle.busdma_machine.specs.Runs.{run_of}
use Rattle.busdma_base.specs.Scenarios.Valid.{IsValid}
use Rattle.busdma_base.proofs.OpeningLaws.{opening-may_begin}
use Rattle.busdma_machine.proofs.Accounts.Places.{times-rising}
use Rattle.frame_bank.specs.FrameBank.{fresh_page, put_pages}
use Rattle.frame_bank.proofs.Placing.{length-put_pages}
use Rattle.opening_frames.specs.Frames.{free_of, unowned, unowned_in}
use Rattle.opening_frames.proofs.FrameCounts.{same-times}
use Rattle.opening_frames.proofs.Rising.{differ, put-sorted}

-- ---- loops

run_of-suc : (a n : ℕ) → run_of a (suc n) ≡ run_of a n ++ (a + n) ∷ []
run_of-suc a zero = let e : a ≡ a + 0 = omega arith in ap (λ x. x ∷ []) e
run_of-suc a (suc n) =
    let e : (a + 1) + n ≡ a + suc n = omega arith in
    ap (λ xs. a ∷ xs) (run_of-suc (a + 1) n ∙ ap (λ x. run_of (a + 1) n ++ x ∷ []) e)

run_of-snoc : (a n : ℕ) → run_of a (n + 1) ≡ run_of a n ++ (a + n) ∷ []
run_of-snoc a n = ap (run_of a) (add-one n) ∙ run_of-suc a n

-- the next frame of a run is kept
module _ (p : ℕ → Bool) (old before after : List ℕ) (a i : ℕ) (is : before ≡ old ++ filter p (run_of a i)) where
  next : filter p (run_of a (i + 1)) ≡ filter p (run_of a i) ++ filter p ((a + i) ∷ [])
  next = ap (filter p) (run_of-snoc a i) ∙ filter-append p (run_of a i) ((a + i) ∷ [])

  pub next-kept : p (a + i) ≡ true → after ≡ before ++ (a + i) ∷ [] →
      after ≡ old ++ filter p (run_of a (i + 1))
  next-kept keep pushed =
      let one : filter p ((a + i) ∷ []) ≡ (a + i) ∷ [] = rw keep refl in
      pushed ∙ ap (λ xs. xs ++ (a + i) ∷ []) is
      ∙ append_assoc old (filter p (run_of a i)) ((a + i) ∷ [])
      ∙ ap (λ xs. old ++ xs) (ap (λ ys. filter p (run_of a i) ++ ys) (sym one) ∙ sym next)

  pub next-left : p (a + i) ≡ false → before ≡ old ++ filter p (run_of a (i + 1))
  next-left drop_ =
      let none : filter p ((a + i) ∷ []) ≡ [] = rw drop_ refl in
      is ∙ ap (λ xs. old ++ xs)
      (sym (next ∙ ap (λ ys. filter p (run_of a i) ++ ys) none ∙ append-nil (filter p (run_of a i))))

-- the frames of one more run
pub next-run : (ds : List Driver) (runs : List FrameRun) (i : ℕ) (run : FrameRun) (before after : List ℕ) →
    i < length runs → before ≡ unowned ds (take i runs) → after ≡ before ++ unowned_in ds (get_or runs i run) →
    after ≡ unowned ds (take (i + 1) runs)
next-run ds runs i run before after lt is pushed =
    let r : FrameRun = get_or runs i run in
    let one : unowned ds (r ∷ []) ≡ unowned_in ds r =
    flat_map-cons (unowned_in ds) r [] ∙ append-nil (unowned_in ds r) in
    pushed ∙ ap (λ xs. xs ++ unowned_in ds r) is
    ∙ ap (λ xs. unowned ds (take i runs) ++ xs) (sym one)
    ∙ sym (flat_map-append (unowned_in ds) (take i runs) (r ∷ []))
    ∙ ap (unowned ds) (sym (ap (λ k. take k runs) (add-one i) ∙ take-suc runs i run lt))

-- a run of valid frames has numbers below 2^30
pub numbered-at : (before runs : List FrameRun) (i : ℕ) (d : FrameRun) → EachAfter IsFrameRun before runs →
    i < length runs → IsNumbered (get_or runs i d)
numbered-at before [] i d each lt = absurd (omega (arith, lt))
numbered-at before (r ∷ runs) zero d each lt = each.0.numbered
numbered-at before (r ∷ runs) (suc i) d each lt = numbered-at (before ++ r ∷ []) runs i d each.1 (omega (arith, lt))

-- the end of memory after one more run
pub next-end : (runs : List FrameRun) (i : ℕ) (d : FrameRun) (end most : ℕ) → i < length runs →
    max end (maxmem_of (drop i runs)) ≡ most →
    max (max ((get_or runs i d).first + (get_or runs i d).count) end) (maxmem_of (drop (i + 1) runs)) ≡ most
next-end runs i d end most lt h =
    let r : FrameRun = get_or runs i d in
    let more : maxmem_of (drop i runs) ≡ max (r.first + r.count) (maxmem_of (drop (i + 1) runs)) =
    ap maxmem_of (drop-cons runs i d lt ∙ ap (λ k. r ∷ drop k runs) (sym (add-one i))) in
    omega (arith, more, h)

-- ---- what a new bank needs

all-run : (a k : ℕ) → a + k ≤ 2 ^ 30 → All (λ f. f < 2 ^ 30) (run_of a k)
all-run a zero h = All-nil (λ f. f < 2 ^ 30)
all-run a (suc k) h =
    All-cons (λ f. f < 2 ^ 30) a (run_of (a + 1) k) (omega (arith, h)) (all-run (a + 1) k (omega (arith, h)))

pub all-numbered : (ds : List Driver) (before runs : List FrameRun) → EachAfter IsFrameRun before runs →
    All (λ f. f < 2 ^ 30) (unowned ds runs)
all-numbered ds before [] each = All-nil (λ f. f < 2 ^ 30)
all-numbered ds before (r ∷ runs) each =
    subst (All (λ f. f < 2 ^ 30)) (sym (flat_map-cons (unowned_in ds) r runs))
    (All-append (λ f. f < 2 ^ 30) (unowned_in ds r) (unowned ds runs)
    (All-filter (λ f. not (is_owned ds f)) (λ f. f < 2 ^ 30) (run_of r.first r.count)
    (all-run r.first r.count each.0.numbered))
    (all-numbered ds (before ++ r ∷ []) runs each.1))

unscaled : (fs : List ℕ) → IsRising (map (λ f. 4096 * f) fs) → IsRising fs
unscaled [] h = tt
unscaled (f ∷ []) h = tt
unscaled (f ∷ g ∷ gs) h = (omega (arith, h.0), unscaled (g ∷ gs) h.1)

module _ (s : Scenario) (valid : IsValid s) where
  abbrev pub frames : List ℕ
  frames = unowned s.drivers s.frames

  rises : IsRising (free_of s)
  rises = unscaled (free_of s) (opening-may_begin s valid).rising

  once : (n : ℕ) → times n frames ≤ 1
  once n = subst (λ k. k ≤ 1) (sym (same-times s valid.frames n)) (times-rising n (free_of s) rises)

  pub they-differ : AllPairs (λ f g. (f ≡ g) → ⊥) frames
  they-differ = differ frames once

  pub pages-are : put_pages (map fresh_page frames) [] ≡ map fresh_page (free_of s)
  pages-are = put-sorted frames (free_of s) rises once (same-times s valid.frames)

  pub are-few : length frames ≤ 8192
  are-few =
      omega (
        arith,
        (opening-may_begin s valid).few,
        length-map (free_of s) (λ f. 4096 * f),
        length-map (free_of s) fresh_page,
        length-map frames fresh_page,
        length-put_pages (map fresh_page frames),
        ap length pages-are,
      )

-- the addresses of fresh pages
pub fresh-addresses : (fs : List ℕ) → page_addresses (map fresh_page fs) ≡ map (λ f. 4096 * f) fs
fresh-addresses [] = refl
fresh-addresses (f ∷ fs) = ap (λ xs. 4096 * f ∷ xs) (fresh-addresses fs)
