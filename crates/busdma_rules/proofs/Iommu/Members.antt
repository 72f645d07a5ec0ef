-- Which runs are live after a run was entered or ended.
use Rattle.std.proofs.Common.{◌≡◌, ◌≢◌, ℕ, zero, suc, ◌≤◌, Bool, true, false, ◌||◌, not, cond, ◌∙◌, List, [], ◌∷◌, ◌⊎◌}
use Rattle.std.proofs.Common.{length, Some, slice_get, refl, sym, ap, subst, arith, ltb, eqb, inl, inr}
use Rattle.std.specs.List.{Contains, filter, list_any}
use Rattle.std.proofs.lemmas.Bool.{false≢true, ne_eqb}
use Rattle.std.proofs.lemmas.Bool.Decides.{nat_tests}
use Rattle.busdma_rules.specs.Iommu.Space.{AreSpaceRuns, DeviceRun, begins_at, run_end}
use Rattle.busdma_rules.specs.Iommu.Space.{gap, has_page, meets, put_run}
use Rattle.busdma_rules.proofs.Iommu.Runs.{get-at, gap-free}

module _ {X : Type 0} where
  head-in : (x : X) (xs : List X) → Contains (x ∷ xs) x
  head-in x xs = (0, omega arith, refl)

  tail-in : (y x : X) (xs : List X) → Contains xs x → Contains (y ∷ xs) x
  tail-in y x xs h = (suc h.0, omega (arith, h.1), h.2)

  in-cases : (y x : X) (xs : List X) → Contains (y ∷ xs) x → (y ≡ x) ⊎ Contains xs x
  in-cases y x xs (zero, l, e) = inl e
  in-cases y x xs (suc k, l, e) = inr (k, omega arith, e)

  in-none : (x : X) → Contains {X = X} [] x → ⊥
  in-none x (k, l, e) = omega arith

-- a live run has a place in the list of runs
pub place-in : (rs : List DeviceRun) (r : DeviceRun) → Contains rs r → (i : ℕ) × (slice_get rs i ≡ Some r)
place-in rs r h = (h.0, get-at rs h.0 r h.1 (sym h.2))

pub get-in : (rs : List DeviceRun) (i : ℕ) (r : DeviceRun) → slice_get rs i ≡ Some r → Contains rs r
get-in [] i r e = absurd (cc)
get-in (q ∷ qs) zero r e =
    let same : q ≡ r = cc in subst (Contains (q ∷ qs)) same (head-in q qs)
get-in (q ∷ qs) (suc i) r e = tail-in q r qs (get-in qs i r e)

pub put-in : (r : DeviceRun) (rs : List DeviceRun) → Contains (put_run r rs) r
put-in r [] = head-in r []
put-in r (q ∷ qs) = (elim (ltb r.first q.first) as (λ v. Contains (cond v (r ∷ q ∷ qs) (q ∷ put_run r qs)) r) [
  | true ↦ head-in r (q ∷ qs)
  | false ↦ tail-in q r (put_run r qs) (put-in r qs)
])

pub put-others : (q r : DeviceRun) (rs : List DeviceRun) → Contains rs r → Contains (put_run q rs) r
put-others q r [] h = absurd (in-none r h)
put-others q r (x ∷ rs) h = (elim (ltb q.first x.first) as (λ v. Contains (cond v (q ∷ x ∷ rs) (x ∷ put_run q rs)) r) [
  | true ↦ tail-in q r (x ∷ rs) h
  | false ↦ elim (in-cases x r rs h) as (λ _. Contains (x ∷ put_run q rs) r) [
    | inl e ↦ subst (Contains (x ∷ put_run q rs)) e (head-in x (put_run q rs))
    | inr k ↦ tail-in x r (put_run q rs) (put-others q r rs k)
  ]
])

pub left-others : (first : ℕ) (r : DeviceRun) (rs : List DeviceRun) → Contains rs r → r.first ≢ first →
    Contains (filter (λ x. not (begins_at first x)) rs) r
left-others first r [] h off = absurd (in-none r h)
left-others first r (q ∷ qs) h off = (elim (in-cases q r qs h) as (λ _.
    Contains (filter (λ x. not (begins_at first x)) (q ∷ qs)) r) [
      | inl e ↦
          rw (ne_eqb q.first first (λ f. off (sym (ap (λ (x : DeviceRun). x.first) e) ∙ f)))
          (subst (Contains (q ∷ filter (λ x. not (begins_at first x)) qs)) e
          (head-in q (filter (λ x. not (begins_at first x)) qs)))
      | inr k ↦ (elim (eqb q.first first) as (λ v. Contains (cond (not v)
          (q ∷ filter (λ x. not (begins_at first x)) qs) (filter (λ x. not (begins_at first x)) qs)) r) [
            | true ↦ left-others first r qs k off
            | false ↦ tail-in q r (filter (λ x. not (begins_at first x)) qs) (left-others first r qs k off)
          ])
    ])

-- pages that meet no live run do not meet this one
unmet : (first k : ℕ) (r : DeviceRun) (rs : List DeviceRun) → list_any (meets first k) rs ≡ false → Contains rs r →
    meets first k r ≡ false
unmet first k r [] none h = absurd (in-none r h)
unmet first k r (q ∷ qs) none h = by (meets first k q) refl none (unmet first k r qs)
  where
    by : (v : Bool) → meets first k q ≡ v → (v || list_any (meets first k) qs) ≡ false →
        (list_any (meets first k) qs ≡ false → Contains qs r → meets first k r ≡ false) → meets first k r ≡ false
    by true e f rest = absurd (false≢true (sym f))
    by false e f rest = elim (in-cases q r qs h) as (λ _. meets first k r ≡ false) [
      | inl same ↦ subst (λ x. meets first k x ≡ false) same e
      | inr there ↦ rest f there
    ]

-- no live run has a page of the gap
pub gap-new : (low high k p : ℕ) (n r : DeviceRun) (rs : List DeviceRun) → AreSpaceRuns low high rs → 1 ≤ k →
    n.first ≡ gap low k rs → length n.frames ≡ k → Contains rs r → has_page p n ≡ true → has_page p r ≡ false
gap-new low high k p n r rs h some at is there has =
    let free : meets n.first k r ≡ false =
    unmet n.first k r rs (subst (λ g. list_any (meets g k) rs ≡ false) (sym at) (gap-free low high k rs h some))
    there in
    grind (arith, nat_tests, free, has, is)

-- a live run begins at or after the lowest page, and has a page
pub live-is : (low high : ℕ) (rs : List DeviceRun) (r : DeviceRun) → AreSpaceRuns low high rs → Contains rs r →
    (low ≤ r.first) × (1 ≤ length r.frames)
live-is low high [] r h there = absurd (in-none r there)
live-is low high (q ∷ qs) r h there =
    (elim (in-cases q r qs there) as (λ _. (low ≤ r.first) × (1 ≤ length r.frames)) [
      | inl e ↦ (
        omega (arith, h.0.behind, ap (λ (x : DeviceRun). x.first) e),
        omega (arith, h.0.some, ap (λ (x : DeviceRun). length x.frames) e),
      )
      | inr k ↦
          let rest = live-is (run_end q) high qs r h.1 k in
          (omega (arith, h.0.behind, rest.0), rest.1)
    ])
