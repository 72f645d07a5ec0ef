-- No two virtual addresses of a driver's pages are of the same byte, in a valid scenario.
use Rattle.std.proofs.Common.{◌≡◌, ℕ, zero, suc, ◌+◌, ◌-◌, ◌*◌, ◌<◌, ◌≤◌, ◌&&◌, ◌||◌, Bool, true, false, cond, List}
use Rattle.std.proofs.Common.{[], ◌∷◌, ◌++◌, Some, slice_get, length, refl, sym, ◌∙◌, arith, nat_le, nat_lt}
use Rattle.std.proofs.Common.{inl, inr}
use Rattle.std.proofs.lemmas.Bool.{and_parts, cases_lt, false≢true, leb-true, ltb-true, le-leb, lt-ltb}
use Rattle.busdma_machine.specs.Each.{EachAfter}
use Rattle.busdma_base.specs.declared.scenarios.scenario.Driver.{Driver}
use Rattle.busdma_base.specs.declared.scenarios.scenario.FrameRun.{FrameRun}
use Rattle.busdma_base.specs.declared.scenarios.scenario.PageRun.{PageRun}
use Rattle.busdma_base.specs.Scenarios.PageRuns.{IsPageRun, is_in_run, physical_in, share_frame}
use Rattle.ideal_wire.proofs.Faithful.Lent.{any_at}
use Rattle.ideal_wire.proofs.Laid.Positions.{found_one}

-- a byte is in a frame of a run
pub record HasByte (r : PageRun) (pa : ℕ) : Type 0 where
  pub low : 4096 * r.frame ≤ pa
  pub high : pa < 4096 * (r.frame + r.count)

-- a byte that a run reaches is in a frame of the run
by-run : (r : PageRun) (va pa : ℕ) → is_in_run va r ≡ true → 4096 * r.frame + (va - r.va.0) ≡ pa → HasByte r pa
by-run r va pa inside is =
    let parts = and_parts (nat_le r.va.0 va) (nat_lt va (r.va.0 + 4096 * r.count)) inside in
    let begin : r.va.0 ≤ va = leb-true r.va.0 va parts.0 in
    let end : va < r.va.0 + 4096 * r.count = ltb-true va (r.va.0 + 4096 * r.count) parts.1 in
    record { low = omega (arith, is); high = omega (arith, begin, end, is) }

-- two runs that have a byte share a frame
pub shares : (q r : PageRun) (pa : ℕ) → HasByte q pa → HasByte r pa → share_frame q r ≡ true
shares q r pa x y = elim (cases_lt q.frame r.frame) as (λ _. share_frame q r ≡ true) [
  | inl below ↦
      or-true (nat_le r.frame q.frame && nat_lt q.frame (r.frame + r.count)) _
      (rw (
        le-leb q.frame r.frame (omega (arith, below)),
        lt-ltb r.frame (q.frame + q.count) (omega (arith, x.high, y.low)),
      ) refl)
  | inr above ↦
      rw (
        le-leb r.frame q.frame above,
        lt-ltb q.frame (r.frame + r.count) (omega (arith, x.low, y.high)),
      ) refl
]
  where
    or-true : (a b : Bool) → b ≡ true → (a || b) ≡ true
    or-true true b h = refl
    or-true false b h = h

-- what is at a place of a list is still there with another list after it
pub in-front : {X : Type 0} (xs ys : List X) (i : ℕ) (x : X) → slice_get xs i ≡ Some x → slice_get (xs ++ ys) i ≡ Some x
in-front [] ys i x e = absurd (cc)
in-front (z ∷ xs) ys zero x e = e
in-front (z ∷ xs) ys (suc i) x e = in-front xs ys i x e

pub at-end : {X : Type 0} (xs : List X) (x : X) → slice_get (xs ++ x ∷ []) (length xs) ≡ Some x
at-end [] x = refl
at-end (z ∷ xs) x = at-end xs x

module _ (frames : List FrameRun) (earlier : List Driver) where
  -- a byte of a run is in no run after it
  none-behind : (before runs : List PageRun) → EachAfter (IsPageRun frames earlier) before runs → (i : ℕ)
      (r : PageRun) → slice_get before i ≡ Some r → (pa : ℕ) → HasByte r pa → (vb : ℕ) →
      physical_in runs vb ≡ Some pa → ⊥
  none-behind before [] h i r at pa has vb e = absurd (cc)
  none-behind before (q ∷ runs) h i r at pa has vb e =
      by (is_in_run vb q) refl e
      (none-behind (before ++ q ∷ []) runs h.1 i r (in-front before (q ∷ []) i r at) pa has vb)
    where
      by : (b : Bool) → is_in_run vb q ≡ b →
          cond b (Some (4096 * q.frame + (vb - q.va.0))) (physical_in runs vb) ≡ Some pa →
          (physical_in runs vb ≡ Some pa → ⊥) → ⊥
      by true inside g rest =
          let is : 4096 * q.frame + (vb - q.va.0) ≡ pa = found_one (Some (4096 * q.frame + (vb - q.va.0))) _ pa refl
          g in
          false≢true (sym h.0.own_frames ∙ any_at (share_frame q) before i r at
          (shares q r pa (by-run q vb pa inside is) has))
      by false inside g rest = rest g

  pub page-once : (before runs : List PageRun) → EachAfter (IsPageRun frames earlier) before runs →
      (va vb pa : ℕ) → physical_in runs va ≡ Some pa → physical_in runs vb ≡ Some pa → va ≡ vb
  page-once before [] h va vb pa e f = absurd (cc)
  page-once before (r ∷ runs) h va vb pa e f =
      by (is_in_run va r) (is_in_run vb r) refl refl e f (page-once (before ++ r ∷ []) runs h.1 va vb pa)
    where
      behind : (v w : ℕ) → is_in_run v r ≡ true → Some (4096 * r.frame + (v - r.va.0)) ≡ Some pa →
          physical_in runs w ≡ Some pa → ⊥
      behind v w inside g k =
          none-behind (before ++ r ∷ []) runs h.1 (length before) r (at-end before r) pa
          (by-run r v pa inside (found_one (Some (4096 * r.frame + (v - r.va.0))) _ pa refl g)) w k

      low : (v : ℕ) → is_in_run v r ≡ true → r.va.0 ≤ v
      low v inside = leb-true r.va.0 v (and_parts (nat_le r.va.0 v) (nat_lt v (r.va.0 + 4096 * r.count)) inside).0

      by : (b c : Bool) → is_in_run va r ≡ b → is_in_run vb r ≡ c →
          cond b (Some (4096 * r.frame + (va - r.va.0))) (physical_in runs va) ≡ Some pa →
          cond c (Some (4096 * r.frame + (vb - r.va.0))) (physical_in runs vb) ≡ Some pa →
          (physical_in runs va ≡ Some pa → physical_in runs vb ≡ Some pa → va ≡ vb) → va ≡ vb
      by true true i j g k rest =
          let x : 4096 * r.frame + (va - r.va.0) ≡ pa = found_one (Some (4096 * r.frame + (va - r.va.0))) _ pa refl g in
          let y : 4096 * r.frame + (vb - r.va.0) ≡ pa = found_one (Some (4096 * r.frame + (vb - r.va.0))) _ pa refl k in
          omega (arith, x, y, low va i, low vb j)
      by true false i j g k rest = absurd (behind va vb i g k)
      by false true i j g k rest = absurd (behind vb va j k g)
      by false false i j g k rest = rest g k
