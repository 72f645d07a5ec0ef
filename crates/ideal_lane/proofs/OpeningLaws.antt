-- The invariant of a driver holds at its opening, and it agrees with the account with which its scenario opens.
use Rattle.std.proofs.Common.{◌≡◌, ℕ, zero, suc, ◌+◌, ◌*◌, ◌==◌, ◌&&◌, ◌||◌, not, Bool, true, false, cond, List, []}
use Rattle.std.proofs.Common.{◌∷◌, map, Some, None, refl, ap, sym, ◌∙◌, arith, nat_le, nat_lt, slice_get}
use Rattle.std.proofs.lemmas.Bool.{and_parts}
use Rattle.std.proofs.lemmas.List.{map-append}
use Rattle.std.proofs.lemmas.Bool.Decides.{nat_tests}
use Rattle.std.proofs.lemmas.Map.Views.{exact_unsigned_eq}
use Rattle.std.specs.FinMap.{get, empty, get-empty}
use Rattle.std.specs.List.{list_any, filter}
use Rattle.std.specs.Ordering.{nat_cmp}
use Rattle.busdma_base.specs.declared.scenarios.scenario.Driver.{Driver}
use Rattle.busdma_base.specs.declared.scenarios.scenario.PageRun.{PageRun}
use Rattle.busdma_base.specs.declared.scenarios.scenario.Scenario.{Scenario}
use Rattle.busdma_machine.specs.Bounce.History.{IsOpening}
use Rattle.busdma_base.specs.Scenarios.Opening.{opening, maxmem_of, is_owned, free_below}
use Rattle.busdma_machine.specs.Bounce.Places.{times}
use Rattle.busdma_base.specs.Scenarios.FrameRuns.{is_in}
use Rattle.busdma_base.specs.Scenarios.PageRuns.{is_own}
use Rattle.busdma_machine.proofs.Accounts.EditedSums.{count_by-append}
use Rattle.lane_agreement.proofs.Whole.{agrees-opening}
use Rattle.lane_agreement.specs.Agreement.{Agrees}
use Rattle.ideal_lane.specs.Opening.{opening_lane}
use Rattle.ideal_lane.specs.Standing.{Stands}
use Rattle.ideal_lane.specs.View.{view_of, own_map, own_frames}

nothing : {X : Type 0} (k : ℕ) (x : X) → get (empty {X = X} {R = nat_cmp}) k ≡ Some x → ⊥
nothing {X} k x e = let none : get (empty {X = X} {R = nat_cmp}) k ≡ None =
    get-empty nat_cmp k in let clash : None ≡ Some x = sym none ∙ e in absurd (cc)

pub opens-standing : (id maxmem : ℕ) (driver : Driver) → Stands (opening_lane id maxmem driver)
opens-standing id maxmem driver = record {
  no_tag = λ k h. get-empty nat_cmp k;
  no_map = λ k h. get-empty nat_cmp k;
  no_memory = λ k h. get-empty nat_cmp k;
  no_ring = λ k h. get-empty nat_cmp k;
  each = λ k o e. absurd (nothing k o e);
  ring = λ k r e. absurd (nothing k r e);
}

-- a frame of pages, by the addresses of its bytes and by its number
abbrev has_frame : ℕ → PageRun → Bool
has_frame n p = nat_le p.frame n && nat_lt n (p.frame + p.count)

le-scaled : (a b : ℕ) → nat_le (4096 * a) (4096 * b) ≡ nat_le a b
le-scaled a b = grind (arith, nat_tests)

lt-scaled : (a b : ℕ) → nat_lt (4096 * a) (4096 * b) ≡ nat_lt a b
lt-scaled a b = grind (arith, nat_tests)

own-frame : (runs : List PageRun) (n : ℕ) → is_own runs (4096 * n) ≡ list_any (has_frame n) runs
own-frame [] n = refl
own-frame (r ∷ rs) n = rw (le-scaled r.frame n, lt-scaled n (r.frame + r.count), own-frame rs n) refl

any-at : {X : Type 0} (test : X → Bool) (xs : List X) (i : ℕ) (x : X) →
    slice_get xs i ≡ Some x → test x ≡ true → list_any test xs ≡ true
any-at test [] i x e t = absurd (cc)
any-at test (y ∷ ys) zero x e t = let same : y ≡ x = cc in ap (λ b. b || list_any test ys) (ap test same ∙ t)
any-at test (y ∷ ys) (suc i) x e t = by (test y) (any-at test ys i x e t)
  where
    by : (b : Bool) → list_any test ys ≡ true → (b || list_any test ys) ≡ true
    by true h = refl
    by false h = h

-- a frame that a driver has is not free
module _ (s : Scenario) (i : ℕ) (driver : Driver) (is : slice_get s.drivers i ≡ Some driver) (f : ℕ)
    (own : is_own driver.pages f ≡ true) where
  abbrev free : ℕ → Bool
  free n = list_any (is_in n) s.frames && not (is_owned s.drivers n)

  apart : (n : ℕ) → free n ≡ true → (4096 * n == f) ≡ false
  apart n h = by (4096 * n == f) refl
    where
      by : (b : Bool) → (4096 * n == f) ≡ b → b ≡ false
      by false e = refl
      by true e =
          let at : 4096 * n ≡ f = exact_unsigned_eq (4096 * n) f e in
          let frame : list_any (has_frame n) driver.pages ≡ true =
          sym (own-frame driver.pages n) ∙ (ap (is_own driver.pages) at ∙ own) in
          let taken : is_owned s.drivers n ≡ true =
          any-at (λ d. list_any (has_frame n) d.pages) s.drivers i driver is frame in
          let free_too : not (is_owned s.drivers n) ≡ true =
          (and_parts (list_any (is_in n) s.frames) (not (is_owned s.drivers n)) h).1 in
          absurd (cc)

  one : (n : ℕ) (b : Bool) → free n ≡ b → times f (map (λ k. 4096 * k) (cond b (n ∷ []) [])) ≡ 0
  one n true e = rw (apart n e) refl
  one n false e = refl

  none-free : (n : ℕ) → times f (map (λ k. 4096 * k) (free_below s n)) ≡ 0
  none-free zero = refl
  none-free (suc n) =
      ap (times f) (map-append (λ k. 4096 * k) (free_below s n) (filter free (n ∷ [])))
      ∙ omega (
        arith,
        count_by-append (λ b. b == f) (map (λ k. 4096 * k) (free_below s n))
            (map (λ k. 4096 * k) (filter free (n ∷ []))),
        none-free n,
        one n (free n) refl,
      )

pub opens-agreeing : (s : Scenario) (i : ℕ) (driver : Driver) →
    IsOpening (opening s) → slice_get s.drivers i ≡ Some driver →
    Agrees (view_of (opening_lane i (maxmem_of s.frames) driver)) (opening s)
opens-agreeing s i driver opens is =
    agrees-opening (view_of (opening_lane i (maxmem_of s.frames) driver)) (opening s)
    (record {
      maps = λ k. ap own_map (get-empty nat_cmp k);
      mems = λ k. ap own_frames (get-empty nat_cmp k);
      returns = refl;
    })
    opens refl (λ f own. none-free s i driver is f own (maxmem_of s.frames))
