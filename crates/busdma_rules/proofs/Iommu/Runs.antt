-- Runs of device pages that rise.
use Rattle.std.proofs.Common.{◌≡◌, ℕ, zero, suc, ◌+◌, ◌<◌, ◌≤◌, Bool, true, false, ◌&&◌, ◌||◌, not, cond, List, [], ◌∷◌}
use Rattle.std.proofs.Common.{length, Some, None, slice_get, refl, sym, ap, ◌∙◌, arith, leb, ltb, eqb, slice_index_or}
use Rattle.std.proofs.Common.{inl, inr}
use Rattle.std.proofs.lemmas.Bool.{cases_lt, ltb-true, ltb-false, leb-true, leb-false, lt-ltb, le-ltb, le-leb, lt-leb}
use Rattle.std.proofs.lemmas.Bool.{ne_eqb, false≢true}
use Rattle.std.specs.List.{filter, list_any}
use Rattle.std.proofs.lemmas.Bool.Decides.{nat_tests}
use Rattle.busdma_rules.specs.Iommu.Space.{DeviceRun, Space, IsRunIn, AreSpaceRuns}
use Rattle.busdma_rules.specs.Iommu.Space.{begins_at, run_end, gap, has_page}
use Rattle.busdma_rules.specs.Iommu.Space.{first_free, least_from, may_take, meets, put_run}

-- runs that rise from a page on rise from each lower one
pub runs-lower : (a b high : ℕ) (rs : List DeviceRun) → a ≤ b → AreSpaceRuns b high rs → AreSpaceRuns a high rs
runs-lower a b high [] le h = tt
runs-lower a b high (r ∷ rs) le h = (
  record {
    behind = omega (arith, h.0.behind);
    some = h.0.some;
    reached = h.0.reached;
    numbered = h.0.numbered;
  },
  h.1,
)

pub all-stay : (low high first : ℕ) (rs : List DeviceRun) → AreSpaceRuns low high rs → first < low →
    filter (λ r. not (begins_at first r)) rs ≡ rs
all-stay low high first [] h l = refl
all-stay low high first (r ∷ rs) h l =
    rw (ne_eqb r.first first (λ e. omega (arith, h.0.behind, e)))
    (ap (λ qs. r ∷ qs) (all-stay (run_end r) high first rs h.1 (omega (arith, h.0.behind))))

pub runs-left : (low high first : ℕ) (rs : List DeviceRun) → AreSpaceRuns low high rs →
    AreSpaceRuns low high (filter (λ r. not (begins_at first r)) rs)
runs-left low high first [] h = tt
runs-left low high first (r ∷ rs) h =
    (elim (eqb r.first first) as (λ v. AreSpaceRuns low high
    (cond (not v) (r ∷ filter (λ r. not (begins_at first r)) rs) (filter (λ r. not (begins_at first r)) rs))) [
      | true ↦ runs-lower low (run_end r) high _ (omega (arith, h.0.behind)) (runs-left (run_end r) high first rs h.1)
      | false ↦ (h.0, runs-left (run_end r) high first rs h.1)
    ])

pub gap-low : (low high k : ℕ) (rs : List DeviceRun) → AreSpaceRuns low high rs → low ≤ gap low k rs
gap-low low high k [] h = omega arith
gap-low low high k (r ∷ rs) h =
    (elim (leb (low + k) r.first) as (λ v. low ≤ cond v low (gap (run_end r) k rs)) [
      | true ↦ omega arith
      | false ↦ omega (arith, h.0.behind, gap-low (run_end r) high k rs h.1)
    ])

-- the k pages from `first` on meet no run after them
free-behind : (low high first k : ℕ) (rs : List DeviceRun) → AreSpaceRuns low high rs → 1 ≤ k → first + k ≤ low →
    list_any (meets first k) rs ≡ false
free-behind low high first k [] h some l = refl
free-behind low high first k (r ∷ rs) h some l =
    let apart : meets first k r ≡ false = grind (arith, nat_tests, h.0.behind, h.0.some, l, some) in
    rw apart (free-behind (run_end r) high first k rs h.1 some (omega (arith, h.0.behind)))

pub gap-free : (low high k : ℕ) (rs : List DeviceRun) → AreSpaceRuns low high rs → 1 ≤ k →
    list_any (meets (gap low k rs) k) rs ≡ false
gap-free low high k [] h some = refl
gap-free low high k (r ∷ rs) h some =
    by (leb (low + k) r.first) refl (gap-free (run_end r) high k rs h.1 some)
  where
    by : (v : Bool) → leb (low + k) r.first ≡ v → list_any (meets (gap (run_end r) k rs) k) rs ≡ false →
        list_any (meets (cond v low (gap (run_end r) k rs)) k) (r ∷ rs) ≡ false
    by true e rest =
        let fits : low + k ≤ r.first = leb-true (low + k) r.first e in
        let apart : meets low k r ≡ false = grind (arith, nat_tests, fits, h.0.some, some) in
        rw apart (free-behind (run_end r) high low k rs h.1 some (omega arith))
    by false e rest =
        let past : run_end r ≤ gap (run_end r) k rs = gap-low (run_end r) high k rs h.1 in
        let apart : meets (gap (run_end r) k rs) k r ≡ false = grind (arith, nat_tests, past, h.0.some, some) in
        rw apart rest

-- the k pages from a page before the gap on meet a run
met-before : (low high k x : ℕ) (rs : List DeviceRun) → AreSpaceRuns low high rs → low ≤ x → x < gap low k rs →
    list_any (meets x k) rs ≡ true
met-before low high k x [] h l m = absurd (omega arith)
met-before low high k x (r ∷ rs) h l m =
    by (leb (low + k) r.first) refl m (λ a b. met-before (run_end r) high k x rs h.1 a b)
  where
    later : (v : Bool) → ltb x (run_end r) ≡ v → r.first < x + k → (run_end r ≤ x → list_any (meets x k) rs ≡ true) →
        (meets x k r || list_any (meets x k) rs) ≡ true
    later true e f others =
        let inside : x < run_end r = ltb-true x (run_end r) e in
        let met : meets x k r ≡ true = grind (arith, nat_tests, inside, f) in
        rw met refl
    later false e f others =
        let rest : list_any (meets x k) rs ≡ true = others (ltb-false x (run_end r) e) in
        (elim (meets x k r) as (λ v. (v || list_any (meets x k) rs) ≡ true) [
          | true ↦ refl
          | false ↦ rest
        ])

    by : (v : Bool) → leb (low + k) r.first ≡ v → x < cond v low (gap (run_end r) k rs) →
        (run_end r ≤ x → x < gap (run_end r) k rs → list_any (meets x k) rs ≡ true) →
        (meets x k r || list_any (meets x k) rs) ≡ true
    by true e m others = absurd (omega arith)
    by false e m others =
        later (ltb x (run_end r)) refl (omega (arith, leb-false (low + k) r.first e)) (λ a. others a m)

least-here : (test : ℕ → Bool) (a n x : ℕ) → a ≤ x → x < a + n → test x ≡ true →
    ((y : ℕ) → a ≤ y → y < x → test y ≡ false) → least_from test a n ≡ Some x
least-here test a zero x l m e f = absurd (omega arith)
least-here test a (suc n) x l m e f =
    by (test a) refl (λ less. least-here test (a + 1) n x (omega (arith, less)) (omega arith) e
    (λ y g i. f y (omega arith) i))
  where
    by : (v : Bool) → test a ≡ v → (a < x → least_from test (a + 1) n ≡ Some x) →
        cond v (Some a) (least_from test (a + 1) n) ≡ Some x
    by true h later = (elim (cases_lt a x) as (λ _. Some a ≡ Some x) [
      | inl less ↦ absurd (false≢true (sym (f a (omega arith) less) ∙ h))
      | inr most ↦ ap (λ i. Some i) (omega (arith, most, l))
    ])
    by false h later = (elim (cases_lt a x) as (λ _. least_from test (a + 1) n ≡ Some x) [
      | inl less ↦ later less
      | inr most ↦
          let same : a ≡ x = omega (arith, most, l) in absurd (false≢true (sym h ∙ ap test same ∙ e))
    ])

least-none : (test : ℕ → Bool) (a n : ℕ) → ((y : ℕ) → a ≤ y → y < a + n → test y ≡ false) → least_from test a n ≡ None
least-none test a zero f = refl
least-none test a (suc n) f =
    rw (f a (omega arith) (omega arith)) (least-none test (a + 1) n (λ y l m. f y (omega arith) (omega arith)))

off : (a b : Bool) → (a && (b && false)) ≡ false
off true true = refl
off true false = refl
off false b = refl

off-1 : (a c : Bool) → (a && (false && c)) ≡ false
off-1 true c = refl
off-1 false c = refl

module _ (s : Space) (k : ℕ) (h : AreSpaceRuns 1 s.pages s.runs) (some : 1 ≤ k) where
  -- no page before the gap can begin the run
  before : (x : ℕ) → x < gap 1 k s.runs → may_take s k x ≡ false
  before zero l = rw (lt-leb 1 0 (omega arith)) refl
  before (suc x) l =
      rw (met-before 1 s.pages k (suc x) s.runs h (omega arith) l)
      (off (leb 1 (suc x)) (leb (suc x + k) s.pages))

  pub free-is : gap 1 k s.runs + k ≤ s.pages → first_free s k ≡ Some (gap 1 k s.runs)
  free-is fits =
      least-here (may_take s k) 0 s.pages (gap 1 k s.runs) (omega arith) (omega arith)
      (rw (le-leb 1 (gap 1 k s.runs) (gap-low 1 s.pages k s.runs h))
      (rw (le-leb (gap 1 k s.runs + k) s.pages fits) (rw (gap-free 1 s.pages k s.runs h some) refl)))
      (λ y a b. before y b)

  pub free-none : s.pages < gap 1 k s.runs + k → first_free s k ≡ None
  free-none lacks = least-none (may_take s k) 0 s.pages (λ y a b. by y (ltb y (gap 1 k s.runs)) refl)
    where
      by : (y : ℕ) (v : Bool) → ltb y (gap 1 k s.runs) ≡ v → may_take s k y ≡ false
      by y true e = before y (ltb-true y (gap 1 k s.runs) e)
      by y false e =
          rw (lt-leb (y + k) s.pages (omega (arith, ltb-false y (gap 1 k s.runs) e)))
          (off-1 (leb 1 y) (not (list_any (meets y k) s.runs)))

pub runs-put : (low high k : ℕ) (r : DeviceRun) (rs : List DeviceRun) → AreSpaceRuns low high rs → 1 ≤ k →
    r.first ≡ gap low k rs → length r.frames ≡ k → IsRunIn low high r → AreSpaceRuns low high (put_run r rs)
runs-put low high k r [] h some at is new = (new, tt)
runs-put low high k r (q ∷ qs) h some at is new =
    by (leb (low + k) q.first) refl at (λ a b. runs-put (run_end q) high k r qs h.1 some a is b)
  where
    by : (v : Bool) → leb (low + k) q.first ≡ v → r.first ≡ cond v low (gap (run_end q) k qs) →
        (r.first ≡ gap (run_end q) k qs → IsRunIn (run_end q) high r → AreSpaceRuns (run_end q) high (put_run r qs)) →
        AreSpaceRuns low high (cond (ltb r.first q.first) (r ∷ q ∷ qs) (q ∷ put_run r qs))
    by true e at others =
        let fits : low + k ≤ q.first = leb-true (low + k) q.first e in
        rw (lt-ltb r.first q.first (omega arith)) (
          new,
          (
            record {
              behind = omega (arith, fits, at, is);
              some = h.0.some;
              reached = h.0.reached;
              numbered = h.0.numbered;
            },
            h.1,
          ),
        )
    by false e at others =
        let past : run_end q ≤ gap (run_end q) k qs = gap-low (run_end q) high k qs h.1 in
        rw (le-ltb r.first q.first (omega (arith, past, at))) (
          h.0,
          others at (record {
            behind = omega (arith, past, at);
            some = new.some;
            reached = new.reached;
            numbered = new.numbered;
          }),
        )

pub begins-behind : (low high : ℕ) (rs : List DeviceRun) (j : ℕ) (q : DeviceRun) → AreSpaceRuns low high rs →
    slice_get rs j ≡ Some q → low ≤ q.first
begins-behind low high [] j q h e = absurd (cc)
begins-behind low high (r ∷ rs) zero q h e =
    let same : r ≡ q = cc in omega (arith, h.0.behind, ap (λ (x : DeviceRun). x.first) same)
begins-behind low high (r ∷ rs) (suc j) q h e =
    omega (arith, h.0.behind, begins-behind (run_end r) high rs j q h.1 e)

pub run-apart : (low high : ℕ) (rs : List DeviceRun) (i j p : ℕ) (r q : DeviceRun) → AreSpaceRuns low high rs →
    slice_get rs i ≡ Some r → slice_get rs j ≡ Some q → has_page p r ≡ true → has_page p q ≡ true → i ≡ j
run-apart low high [] i j p r q h e f hr hq = absurd (cc)
run-apart low high (x ∷ rs) zero zero p r q h e f hr hq = refl
run-apart low high (x ∷ rs) zero (suc j) p r q h e f hr hq =
    let behind : run_end x ≤ q.first = begins-behind (run_end x) high rs j q h.1 f in
    let same : x ≡ r = cc in
    let ends : run_end x ≡ run_end r = ap run_end same in
    absurd (grind (arith, nat_tests, behind, ends, hr, hq))
run-apart low high (x ∷ rs) (suc i) zero p r q h e f hr hq =
    let behind : run_end x ≤ r.first = begins-behind (run_end x) high rs i r h.1 e in
    let same : x ≡ q = cc in
    let ends : run_end x ≡ run_end q = ap run_end same in
    absurd (grind (arith, nat_tests, behind, ends, hr, hq))
run-apart low high (x ∷ rs) (suc i) (suc j) p r q h e f hr hq =
    ap (λ n. suc n) (run-apart (run_end x) high rs i j p r q h.1 e f hr hq)

pub get-at : (rs : List DeviceRun) (i : ℕ) (r : DeviceRun) → i < length rs → r ≡ slice_index_or rs i r →
    slice_get rs i ≡ Some r
get-at [] i r l e = absurd (omega arith)
get-at (q ∷ rs) zero r l e = ap (λ x. Some x) (sym e)
get-at (q ∷ rs) (suc i) r l e = get-at rs i r (omega arith) e

-- the first page of a run that is taken is the page of the gap, and the device reaches its pages
pub taken-gap : (s : Space) (k first : ℕ) → AreSpaceRuns 1 s.pages s.runs → 1 ≤ k → first_free s k ≡ Some first →
    first ≡ gap 1 k s.runs
taken-gap s k first h some e = by (ltb s.pages (gap 1 k s.runs + k)) refl
  where
    by : (v : Bool) → ltb s.pages (gap 1 k s.runs + k) ≡ v → first ≡ gap 1 k s.runs
    by true lacks =
        let none = free-none s k h some (ltb-true s.pages (gap 1 k s.runs + k) lacks) in absurd (cc)
    by false fits =
        let is = free-is s k h some (ltb-false s.pages (gap 1 k s.runs + k) fits) in cc

pub taken-fits : (s : Space) (k first : ℕ) → AreSpaceRuns 1 s.pages s.runs → 1 ≤ k → first_free s k ≡ Some first →
    first + k ≤ s.pages
taken-fits s k first h some e = by (ltb s.pages (gap 1 k s.runs + k)) refl
  where
    by : (v : Bool) → ltb s.pages (gap 1 k s.runs + k) ≡ v → first + k ≤ s.pages
    by true lacks =
        let none = free-none s k h some (ltb-true s.pages (gap 1 k s.runs + k) lacks) in absurd (cc)
    by false fits =
        omega (arith, taken-gap s k first h some e, ltb-false s.pages (gap 1 k s.runs + k) fits)
