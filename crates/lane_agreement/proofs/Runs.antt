-- The frames of the lowest run follow one another.
use Rattle.std.proofs.Common.{◌≡◌, ℕ, zero, suc, ◌+◌, ◌*◌, ◌%◌, ◌≤◌, ◌<◌, Bool, true, false, cond, not, ◌&&◌, List, []}
use Rattle.std.proofs.Common.{◌∷◌, ◌++◌, refl, ap, ◌∙◌, subst, arith, eqb, leb, ltb, if◌then◌else◌, ◌==◌, Some, None}
use Rattle.std.proofs.lemmas.Bool.{false≢true, eqb-true, le-leb, lt-leb, le-ltb, lt-ltb, leb-true}
use Rattle.std.specs.List.{count_by, filter}
use Rattle.busdma_machine.specs.Bounce.MemoryRuns.{frames_for, follow, crosses_none, lowest_run, in_run}
use Rattle.busdma_machine.specs.Bounce.History.{IsRising}
use Rattle.busdma_machine.specs.Bounce.MemoryRuns.{frames_from}
use Rattle.lane_agreement.specs.OwnShare.{share_if}
use Rattle.busdma_machine.proofs.Accounts.Names.{and_left, and_right}
use Rattle.lane_agreement.proofs.Own.{count-one}

-- frames from k on, each at least a frame above the one before it
abbrev Spaced : ℕ → List ℕ → Type 0
Spaced k [] = Unit {0}
Spaced k (g ∷ gs) = (k ≤ g) × Spaced (g + 4096) gs

apart : (f g : ℕ) → f < g → f % 4096 ≡ 0 → g % 4096 ≡ 0 → f + 4096 ≤ g
apart f g l e h = omega (arith, l, e, h)

whole_head : (g : ℕ) (gs : List ℕ) → count_by (λ f. not (f % 4096 == 0)) (g ∷ gs) ≡ 0 → g % 4096 ≡ 0
whole_head g gs none =
    (elim (eqb (g % 4096) 0) as (λ v. eqb (g % 4096) 0 ≡ v → g % 4096 ≡ 0) [
      | true ↦ λ u. eqb-true (g % 4096) 0 u
      | false ↦
          λ u. absurd (omega (arith, none, count-one (λ f. not (f % 4096 == 0)) g gs, ap (λ b. share_if (not b)) u))
    ]) refl

spaced : (f : ℕ) (fs : List ℕ) → IsRising (f ∷ fs) → f % 4096 ≡ 0 →
    count_by (λ f. not (f % 4096 == 0)) fs ≡ 0 → Spaced (f + 4096) fs
spaced f [] rising e whole = tt
spaced f (g ∷ gs) rising e whole =
    let here : g % 4096 ≡ 0 = whole_head g gs whole in (
      apart f g rising.0 e here,
      spaced g gs rising.1 here
          (omega (arith, whole, count-one (λ f. not (f % 4096 == 0)) g gs)),
    )

none_in : (k g : ℕ) → in_run k 0 g ≡ false
none_in k g =
    (elim (leb k g) as (λ v. leb k g ≡ v → (v && ltb g (k + 4096 * 0)) ≡ false) [
      | true ↦ λ e. rw (nat_lt-not g k e) refl
      | false ↦ λ e. refl
    ]) refl
  where
    nat_lt-not : (g k : ℕ) → leb k g ≡ true → ltb g (k + 4096 * 0) ≡ false
    nat_lt-not g k e = le-ltb g (k + 4096 * 0) (omega (arith, leb-true k g e))

none : (k : ℕ) (gs : List ℕ) → filter (in_run k 0) gs ≡ []
none k [] = refl
none k (g ∷ gs) = rw (none_in k g) (none k gs)

-- after its first frame, a run is the run of the following frames
behind : (k n j : ℕ) (gs : List ℕ) → k + 4096 ≤ j → Spaced j gs →
    filter (in_run k (suc n)) gs ≡ filter (in_run (k + 4096) n) gs
behind k n j [] past all = refl
behind k n j (g ∷ gs) past all =
    let same : in_run k (suc n) g ≡ in_run (k + 4096) n g =
    rw (
      le-leb k g (omega (arith, past, all.0)),
      le-leb (k + 4096) g (omega (arith, past, all.0)),
    ) (ap (ltb g) (omega arith)) in
    rw (same, behind k n (g + 4096) gs (omega (arith, past, all.0)) all.1) refl

run-frames : (n k : ℕ) (gs : List ℕ) → Spaced k gs → follow n k gs ≡ true → filter (in_run k n) gs ≡ frames_from n k
run-frames zero k gs all e = none k gs
run-frames (suc n) k [] all e = absurd (false≢true e)
run-frames (suc n) k (g ∷ gs) all e =
    let here : g ≡ k = eqb-true g k (and_left (eqb g k) _ e) in
    let within : in_run k (suc n) g ≡ true =
    rw (le-leb k g all.0, lt-ltb g (k + 4096 * suc n) (omega (arith, here))) refl in
    let rest : Spaced (k + 4096) gs = subst (λ x. Spaced (x + 4096) gs) here all.1 in
    ap (λ v. cond v (g ∷ filter (in_run k (suc n)) gs) (filter (in_run k (suc n)) gs)) within
    ∙ ap (λ x. x ∷ filter (in_run k (suc n)) gs) here
    ∙ ap (λ xs. k ∷ xs) (behind k n (k + 4096) gs (omega arith) rest
    ∙ run-frames n (k + 4096) gs rest (and_right (eqb g k) _ e))

-- the lowest run begins no lower than the frames do
lowest-from : (len boundary limit j first : ℕ) (gs : List ℕ) → Spaced j gs →
    lowest_run len boundary limit gs ≡ Some first → j ≤ first
lowest-from len boundary limit j first [] all e = absurd (none_some e)
  where
    none_some : None ≡ Some first → ⊥
    none_some e = cc
lowest-from len boundary limit j first (g ∷ gs) all e =
    let n : ℕ = frames_for len in
    (elim (follow n g (g ∷ gs) && (leb (g + 4096 * n) (limit + 1) && crosses_none len boundary g))
    as (λ v. (if v then Some g else lowest_run len boundary limit gs) ≡ Some first → j ≤ first) [
      | true ↦ λ u. (let is : g ≡ first = cc in omega (arith, is, all.0))
      | false ↦ λ u. omega (arith, all.0, lowest-from len boundary limit (g + 4096) first gs all.1 u)
    ]) e

lowest-frames : (len boundary limit j first : ℕ) (gs : List ℕ) → Spaced j gs →
    lowest_run len boundary limit gs ≡ Some first →
    filter (in_run first (frames_for len)) gs ≡ frames_from (frames_for len) first
lowest-frames len boundary limit j first [] all e = absurd (none_some e)
  where
    none_some : None ≡ Some first → ⊥
    none_some e = cc
lowest-frames len boundary limit j first (g ∷ gs) all e =
    let n : ℕ = frames_for len in
    let test : Bool = follow n g (g ∷ gs) && (leb (g + 4096 * n) (limit + 1) && crosses_none len boundary g) in
    (elim test as (λ v. test ≡ v → (if v then Some g else lowest_run len boundary limit gs) ≡ Some first →
    filter (in_run first n) (g ∷ gs) ≡ frames_from n first) [
      | true ↦ λ t u. (let is : g ≡ first = cc in
          subst (λ k. filter (in_run k n) (g ∷ gs) ≡ frames_from n k) is
          (run-frames n g (g ∷ gs) (omega arith, all.1) (and_left (follow n g (g ∷ gs)) _ t)))
      | false ↦ λ t u. (let off : in_run first n g ≡ false =
          rw (lt-leb first g (omega (arith, lowest-from len boundary limit (g + 4096) first gs all.1 u))) refl in
          ap (λ v. cond v (g ∷ filter (in_run first n) gs) (filter (in_run first n) gs)) off
          ∙ lowest-frames len boundary limit (g + 4096) first gs all.1 u)
    ]) refl e

-- the lowest run of a rising bank, whose frames begin at multiples of 4096
pub lowest_run-frames : (len boundary limit first : ℕ) (bank : List ℕ) → IsRising bank →
    count_by (λ f. not (f % 4096 == 0)) bank ≡ 0 → lowest_run len boundary limit bank ≡ Some first
    → filter (in_run first (frames_for len)) bank ++ [] ≡ frames_from (frames_for len) first
lowest_run-frames len boundary limit first [] rising whole e = absurd (none_some e)
  where
    none_some : None ≡ Some first → ⊥
    none_some e = cc
lowest_run-frames len boundary limit first (f ∷ fs) rising whole e =
    append-nil (filter (in_run first (frames_for len)) (f ∷ fs))
    ∙ lowest-frames len boundary limit f first (f ∷ fs) (
      omega arith,
      spaced f fs rising (whole_head f fs whole)
          (omega (arith, whole, count-one (λ f. not (f % 4096 == 0)) f fs)),
    ) e
  where
    append-nil : (xs : List ℕ) → xs ++ [] ≡ xs
    append-nil [] = refl
    append-nil (x ∷ xs) = ap (λ ys. x ∷ ys) (append-nil xs)
