-- How entering or ending a run affects the others.
use Rattle.std.proofs.Common.{◌≡◌, ℕ, zero, suc, ◌+◌, ◌-◌, ◌≤◌, true, false, ◌||◌, not, cond, List, [], ◌∷◌, Some}
use Rattle.std.proofs.Common.{slice_get, refl, ap, ◌∙◌, arith, leb, ltb, eqb}
use Rattle.std.specs.List.{filter, list_any}
use Rattle.std.proofs.lemmas.Bool.{leb-true, lt-ltb, le-ltb, eq-eqb, ne_eqb}
use Rattle.std.proofs.lemmas.Bool.Decides.{nat_tests}
use Rattle.busdma_rules.specs.Iommu.Space.{DeviceRun, AreSpaceRuns, begins_at, run_end}
use Rattle.busdma_rules.specs.Iommu.Space.{frame_of_page, gap, has_page, put_run}
use Rattle.busdma_rules.proofs.Iommu.Runs.{all-stay, begins-behind, gap-low}

-- the pages of an entered run are mapped to its frames
pub frame-own : (low high k p : ℕ) (r : DeviceRun) (rs : List DeviceRun) → AreSpaceRuns low high rs → 1 ≤ k →
    r.first ≡ gap low k rs → has_page p r ≡ true → frame_of_page (put_run r rs) p ≡ slice_get r.frames (p - r.first)
frame-own low high k p r [] h some at has = rw has refl
frame-own low high k p r (q ∷ qs) h some at has =
    (elim (leb (low + k) q.first) as (λ v. leb (low + k) q.first ≡ v → r.first ≡ cond v low (gap (run_end q) k qs) →
    frame_of_page (cond (ltb r.first q.first) (r ∷ q ∷ qs) (q ∷ put_run r qs)) p ≡ slice_get r.frames (p - r.first)) [
      | true ↦ λ e at.
          let fits : low + k ≤ q.first = leb-true (low + k) q.first e in
          rw (lt-ltb r.first q.first (omega arith)) (rw has refl)
      | false ↦ λ e at.
          let past : run_end q ≤ gap (run_end q) k qs = gap-low (run_end q) high k qs h.1 in
          let off : has_page p q ≡ false = grind (arith, nat_tests, past, at, has) in
          rw (le-ltb r.first q.first (omega (arith, past, at)))
          (rw off (frame-own (run_end q) high k p r qs h.1 some at has))
    ]) refl at

-- the pages of the other runs stay mapped to the same frames
pub frame-other : (p : ℕ) (r : DeviceRun) (rs : List DeviceRun) → has_page p r ≡ false →
    frame_of_page (put_run r rs) p ≡ frame_of_page rs p
frame-other p r [] off = rw off refl
frame-other p r (q ∷ qs) off =
    (elim (ltb r.first q.first) as (λ v. frame_of_page (cond v (r ∷ q ∷ qs) (q ∷ put_run r qs)) p
    ≡ frame_of_page (q ∷ qs) p) [
      | true ↦ rw off refl
      | false ↦ (elim (has_page p q) as (λ v. cond v (slice_get q.frames (p - q.first)) (frame_of_page (put_run r qs) p)
          ≡ cond v (slice_get q.frames (p - q.first)) (frame_of_page qs p)) [
            | true ↦ refl
            | false ↦ frame-other p r qs off
          ])
    ])

-- an entered run is live
pub entered-live : (r : DeviceRun) (rs : List DeviceRun) → list_any (begins_at r.first) (put_run r rs) ≡ true
entered-live r [] = rw (eq-eqb r.first r.first refl) refl
entered-live r (q ∷ qs) =
    (elim (ltb r.first q.first) as (λ v. list_any (begins_at r.first) (cond v (r ∷ q ∷ qs) (q ∷ put_run r qs))
    ≡ true) [
      | true ↦ rw (eq-eqb r.first r.first refl) refl
      | false ↦ (elim (eqb q.first r.first) as (λ v. (v || list_any (begins_at r.first) (put_run r qs)) ≡ true) [
        | true ↦ refl
        | false ↦ entered-live r qs
      ])
    ])

-- a run that is entered and ended at once leaves the runs as they were
pub left-entered : (low high k : ℕ) (r : DeviceRun) (rs : List DeviceRun) → AreSpaceRuns low high rs → 1 ≤ k →
    r.first ≡ gap low k rs → filter (λ x. not (begins_at r.first x)) (put_run r rs) ≡ rs
left-entered low high k r [] h some at = rw (eq-eqb r.first r.first refl) refl
left-entered low high k r (q ∷ qs) h some at =
    (elim (leb (low + k) q.first) as (λ v. leb (low + k) q.first ≡ v → r.first ≡ cond v low (gap (run_end q) k qs) →
    filter (λ x. not (begins_at r.first x)) (cond (ltb r.first q.first) (r ∷ q ∷ qs) (q ∷ put_run r qs))
    ≡ q ∷ qs) [
      | true ↦ λ e at.
          let fits : low + k ≤ q.first = leb-true (low + k) q.first e in
          rw (lt-ltb r.first q.first (omega arith)) (rw (eq-eqb r.first r.first refl)
          (all-stay q.first high r.first (q ∷ qs) (
            record {
              behind = omega arith;
              some = h.0.some;
              reached = h.0.reached;
              numbered = h.0.numbered;
            },
            h.1,
          ) (omega arith)))
      | false ↦ λ e at.
          let past : run_end q ≤ gap (run_end q) k qs = gap-low (run_end q) high k qs h.1 in
          rw (le-ltb r.first q.first (omega (arith, past, at)))
          (rw (ne_eqb q.first r.first (λ f. omega (arith, past, at, f, h.0.some)))
          (ap (λ rs. q ∷ rs) (left-entered (run_end q) high k r qs h.1 some at)))
    ]) refl at

-- a run that ends removes only its own pages
pub frame-left : (low high p i : ℕ) (r : DeviceRun) (rs : List DeviceRun) → AreSpaceRuns low high rs →
    slice_get rs i ≡ Some r → has_page p r ≡ false →
    frame_of_page (filter (λ x. not (begins_at r.first x)) rs) p ≡ frame_of_page rs p
frame-left low high p i r [] h e off = absurd (cc)
frame-left low high p zero r (q ∷ qs) h e off =
    let same : q ≡ r = cc in
    let first : q.first ≡ r.first = ap (λ (x : DeviceRun). x.first) same in
    let gone : has_page p q ≡ false = ap (has_page p) same ∙ off in
    rw (eq-eqb q.first r.first first) (rw gone
    (ap (λ xs. frame_of_page xs p) (all-stay (run_end q) high r.first qs h.1 (omega (arith, h.0.some, first)))))
frame-left low high p (suc i) r (q ∷ qs) h e off =
    let behind : run_end q ≤ r.first = begins-behind (run_end q) high qs i r h.1 e in
    rw (ne_eqb q.first r.first (λ f. omega (arith, behind, f, h.0.some)))
    (elim (has_page p q) as (λ v. cond v (slice_get q.frames (p - q.first))
    (frame_of_page (filter (λ x. not (begins_at r.first x)) qs) p)
    ≡ cond v (slice_get q.frames (p - q.first)) (frame_of_page qs p)) [
      | true ↦ refl
      | false ↦ frame-left (run_end q) high p i r qs h.1 e off
    ])
