-- Runs that rise.
use Rattle.std.proofs.Common.{◌≡◌, ℕ, zero, suc, ◌+◌, ◌-◌, ◌<◌, ◌≤◌, Bool, true, false, ◌&&◌, ◌||◌, not, cond, List, []}
use Rattle.std.proofs.Common.{◌∷◌, ◌++◌, length, take, drop, Option, Some, None, slice_get, refl, sym, ap, arith, leb}
use Rattle.std.proofs.Common.{ltb, eqb, slice_index_or}
use Rattle.std.specs.List.{AllWithin, filter, list_any, remove}
use Rattle.std.specs.List.Sorted.{IsNonDecreasingBy}
use Rattle.std.proofs.lemmas.Bool.{leb-true, leb-false, lt-ltb, le-ltb, le-leb, lt-leb, eqb-true, false≢true}
use Rattle.busdma_rules.specs.Iommu.Space.{DeviceRun, IsRunIn, AreSpaceRuns, begins_at}
use Rattle.busdma_rules.specs.Iommu.Space.{run_end, frame_of_page, gap, put_run}
use Rattle.iommu_map.specs.Space.{run_place}
use Rattle.busdma_rules.proofs.Iommu.Runs.{all-stay}

-- The place of a page

none-before : (low high p : ℕ) (rs : List DeviceRun) → AreSpaceRuns low high rs → p < low → frame_of_page rs p ≡ None
none-before low high p [] h l = refl
none-before low high p (r ∷ rs) h l =
    rw (lt-leb r.first p (omega (arith, h.0.behind))) (none-before (run_end r) high p rs h.1
    (omega (arith, h.0.behind)))

-- the frame of a page in the run at its place, if it is one of the run's pages
abbrev pub found : Option DeviceRun → ℕ → Option ℕ
found None p = None
found (Some r) p = cond (leb r.first p) (slice_get r.frames (p - r.first)) None

pub frame-found : (low high p : ℕ) (rs : List DeviceRun) → AreSpaceRuns low high rs →
    frame_of_page rs p ≡ found (slice_get rs (run_place p rs)) p
frame-found low high p [] h = refl
frame-found low high p (r ∷ rs) h =
    behind (leb (run_end r) p) refl (frame-found (run_end r) high p rs h.1)
  where
    inside : (v : Bool) → leb r.first p ≡ v → p < run_end r →
        cond (v && ltb p (run_end r)) (slice_get r.frames (p - r.first)) (frame_of_page rs p)
        ≡ cond v (slice_get r.frames (p - r.first)) None
    inside true e l = rw (lt-ltb p (run_end r) l) refl
    inside false e l = none-before (run_end r) high p rs h.1 l

    behind : (v : Bool) → leb (run_end r) p ≡ v → frame_of_page rs p ≡ found (slice_get rs (run_place p rs)) p →
        frame_of_page (r ∷ rs) p ≡ found (slice_get (r ∷ rs) (cond v (suc (run_place p rs)) 0)) p
    behind true e rest =
        let past : run_end r ≤ p = leb-true (run_end r) p e in
        rw (le-leb r.first p (omega arith)) (rw (le-ltb p (run_end r) past) rest)
    behind false e rest = inside (leb r.first p) refl (leb-false (run_end r) p e)

pub place-bound : (p : ℕ) (rs : List DeviceRun) → run_place p rs ≤ length rs
place-bound p [] = omega arith
place-bound p (r ∷ rs) =
    (elim (leb (run_end r) p) as (λ v. cond v (suc (run_place p rs)) 0 ≤ length (r ∷ rs)) [
      | true ↦ omega (arith, place-bound p rs)
      | false ↦ omega arith
    ])

pub place-is : (p : ℕ) (rs : List DeviceRun) (i : ℕ) → i ≤ length rs →
    AllWithin (λ r. leb (run_end r) p ≡ true) rs 0 i → AllWithin (λ r. leb (run_end r) p ≡ false) rs i (length rs) →
    run_place p rs ≡ i
place-is p [] zero l front rest = refl
place-is p [] (suc i) l front rest = absurd (omega arith)
place-is p (r ∷ rs) zero l front rest = rw (rest 0 r (omega arith) (omega arith)) refl
place-is p (r ∷ rs) (suc i) l front rest =
    rw (front 0 r (omega arith) (omega arith))
    (ap (λ n. suc n) (place-is p rs i (omega arith) (λ k d a b. front (suc k) d (omega arith) (omega arith))
    (λ k d a b. rest (suc k) d (omega arith) (omega arith))))

pub ends-behind : (low high : ℕ) (rs : List DeviceRun) (i : ℕ) (d : DeviceRun) → AreSpaceRuns low high rs → i
    < length rs →
    low ≤ run_end (slice_index_or rs i d)
ends-behind low high [] i d h l = absurd (omega arith)
ends-behind low high (r ∷ rs) zero d h l = omega (arith, h.0.behind)
ends-behind low high (r ∷ rs) (suc i) d h l =
    omega (arith, h.0.behind, ends-behind (run_end r) high rs i d h.1 (omega arith))

pub ends-rise : (low high : ℕ) (rs : List DeviceRun) → AreSpaceRuns low high rs → IsNonDecreasingBy run_end rs
ends-rise low high [] h i j d le l = absurd (omega arith)
ends-rise low high (r ∷ rs) h zero zero d le l = omega arith
ends-rise low high (r ∷ rs) h zero (suc j) d le l = ends-behind (run_end r) high rs j d h.1 (omega arith)
ends-rise low high (r ∷ rs) h (suc i) zero d le l = absurd (omega arith)
ends-rise low high (r ∷ rs) h (suc i) (suc j) d le l =
    ends-rise (run_end r) high rs h.1 i j d (omega arith) (omega arith)

-- The end of a run

live-behind : (low high first : ℕ) (rs : List DeviceRun) → AreSpaceRuns low high rs →
    list_any (begins_at first) rs ≡ true → low ≤ first
live-behind low high first [] h e = absurd (false≢true e)
live-behind low high first (r ∷ rs) h e =
    (elim (eqb r.first first) as (λ v. eqb r.first first ≡ v →
    (v || list_any (begins_at first) rs) ≡ true → low ≤ first) [
      | true ↦ λ same k. omega (arith, h.0.behind, eqb-true r.first first same)
      | false ↦ λ same k. omega (arith, h.0.behind, live-behind (run_end r) high first rs h.1 k)
    ]) refl e

pub record Leaves (first : ℕ) (rs : List DeviceRun) : Type 0 where
  pub inside : run_place first rs < length rs
  pub gone : remove rs (run_place first rs) ≡ filter (λ r. not (begins_at first r)) rs

pub leaves : (low high first : ℕ) (rs : List DeviceRun) → AreSpaceRuns low high rs → list_any (begins_at first) rs
    ≡ true →
    Leaves first rs
leaves low high first [] h e = absurd (false≢true e)
leaves low high first (r ∷ rs) h e = by (eqb r.first first) refl e (leaves (run_end r) high first rs h.1)
  where
    by : (v : Bool) → eqb r.first first ≡ v → (v || list_any (begins_at first) rs) ≡ true →
        (list_any (begins_at first) rs ≡ true → Leaves first rs) → Leaves first (r ∷ rs)
    by true same k others =
        let is : r.first ≡ first = eqb-true r.first first same in
        let ends : leb (run_end r) first ≡ false = lt-leb (run_end r) first (omega (arith, h.0.some)) in
        record {
          inside = rw ends (omega arith);
          gone = rw ends (rw same (sym (all-stay (run_end r) high first rs h.1 (omega (arith, h.0.some)))));
        }
    by false same k others =
        let rest = others k in
        let ends : leb (run_end r) first ≡ true =
        le-leb (run_end r) first (live-behind (run_end r) high first rs h.1 k) in
        record {
          inside = rw ends (omega (arith, rest.inside));
          gone = rw ends (rw same (ap (λ qs. r ∷ qs) rest.gone));
        }

-- A new run

pub gap-bound : (low high k : ℕ) (rs : List DeviceRun) → AreSpaceRuns low high rs → low ≤ high → gap low k rs ≤ high
gap-bound low high k [] h l = l
gap-bound low high k (r ∷ rs) h l =
    (elim (leb (low + k) r.first) as (λ v. cond v low (gap (run_end r) k rs) ≤ high) [
      | true ↦ l
      | false ↦ gap-bound (run_end r) high k rs h.1 h.0.reached
    ])

-- a run that begins before the first of these runs comes before all of them
pub put-here : (r : DeviceRun) (rs : List DeviceRun) (i : ℕ) (d : DeviceRun) → i < length rs →
    r.first < (slice_index_or rs i d).first → put_run r (drop i rs) ≡ r ∷ drop i rs
put-here r [] i d l m = absurd (omega arith)
put-here r (q ∷ qs) zero d l m = rw (lt-ltb r.first q.first m) refl
put-here r (q ∷ qs) (suc i) d l m = put-here r qs i d (omega arith) m

-- a run that begins after the first of these runs has its place among the others
pub put-next : (r : DeviceRun) (rs : List DeviceRun) (i : ℕ) (d : DeviceRun) → i < length rs →
    (slice_index_or rs i d).first ≤ r.first → take i rs ++ put_run r (drop i rs)
    ≡ take (suc i) rs ++ put_run r (drop (suc i) rs)
put-next r [] i d l m = absurd (omega arith)
put-next r (q ∷ qs) zero d l m = rw (le-ltb r.first q.first m) refl
put-next r (q ∷ qs) (suc i) d l m = ap (λ ps. q ∷ ps) (put-next r qs i d (omega arith) m)

-- the runs from a place on rise, and so does the gap from there on
pub runs-next : (low high k : ℕ) (rs : List DeviceRun) (i : ℕ) (d : DeviceRun) → i < length rs →
    AreSpaceRuns low high (drop i rs) → IsRunIn low high (slice_index_or rs i d)
    × AreSpaceRuns (run_end (slice_index_or rs i d)) high (drop (suc i) rs)
runs-next low high k [] i d l h = absurd (omega arith)
runs-next low high k (r ∷ rs) zero d l h = (h.0, h.1)
runs-next low high k (r ∷ rs) (suc i) d l h = runs-next low high k rs i d (omega arith) h

pub gap-next : (low k : ℕ) (rs : List DeviceRun) (i : ℕ) (d : DeviceRun) → i < length rs →
    gap low k (drop i rs) ≡ cond (leb (low + k) (slice_index_or rs i d).first) low
    (gap (run_end (slice_index_or rs i d)) k (drop (suc i) rs))
gap-next low k [] i d l = absurd (omega arith)
gap-next low k (r ∷ rs) zero d l = refl
gap-next low k (r ∷ rs) (suc i) d l = gap-next low k rs i d (omega arith)

-- Apart

-- Places

pub get-past : (rs : List DeviceRun) (i : ℕ) → length rs ≤ i → slice_get rs i ≡ None
get-past [] i l = refl
get-past (r ∷ rs) zero l = absurd (omega arith)
get-past (r ∷ rs) (suc i) l = get-past rs i (omega arith)

-- the run at the place of a page does not end before the page
pub ends-past : (p : ℕ) (rs : List DeviceRun) (r : DeviceRun) → slice_get rs (run_place p rs) ≡ Some r → p < run_end r
ends-past p [] r e = absurd (cc)
ends-past p (q ∷ rs) r e =
    (elim (leb (run_end q) p) as (λ v. leb (run_end q) p ≡ v →
    slice_get (q ∷ rs) (cond v (suc (run_place p rs)) 0) ≡ Some r → p < run_end r) [
      | true ↦ λ past f. ends-past p rs r f
      | false ↦ λ past f.
          let same : q ≡ r = cc in omega (arith, leb-false (run_end q) p past, ap run_end same)
    ]) refl e

-- What is free
