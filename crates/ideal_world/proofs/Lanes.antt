-- The drivers of a world: at which place each is, and what a change of one leaves of the others.
use Rattle.std.proofs.Common.{◌≡◌, ◌≢◌, ℕ, zero, suc, ◌+◌, ◌<◌, List, [], ◌∷◌, length, Some, refl}
use Rattle.std.proofs.Common.{sym, ap, ◌∙◌, arith, subst, slice_get, slice_set}
use Rattle.std.proofs.lemmas.List.Sums.{sum_by-cons}
use Rattle.std.specs.List.{sum_by}
use Rattle.busdma_base.specs.declared.scenarios.scenario.Driver.{Driver}
use Rattle.ideal_lane.specs.Opening.{opening_lane}
use Rattle.ideal_lane.specs.State.{LaneState}
use Rattle.ideal_world.specs.World.{opening_lanes}

-- a driver that opens at a place of the list
pub record OpensAt (id maxmem : ℕ) (ds : List Driver) (i : ℕ) (l : LaneState) : Type 0 where
  pub driver : Driver
  pub there : slice_get ds i ≡ Some driver
  pub opens : l ≡ opening_lane (id + i) maxmem driver

pub opening_at : (id maxmem : ℕ) (ds : List Driver) (i : ℕ) (l : LaneState) →
    slice_get (opening_lanes id maxmem ds) i ≡ Some l → OpensAt id maxmem ds i l
opening_at id maxmem [] i l h = absurd (cc)
opening_at id maxmem (d ∷ ds) zero l h =
    let same : opening_lane id maxmem d ≡ l = cc in
    let at : id ≡ id + 0 = omega arith in
    record { driver = d; there = refl; opens = sym same ∙ ap (λ k. opening_lane k maxmem d) at }
opening_at id maxmem (d ∷ ds) (suc i) l h =
    let next = opening_at (id + 1) maxmem ds i l h in
    let at : (id + 1) + i ≡ id + suc i = omega arith in
    record {
      driver = next.driver;
      there = next.there;
      opens = next.opens ∙ ap (λ k. opening_lane k maxmem next.driver) at;
    }

pub length-opening_lanes : (id maxmem : ℕ) (ds : List Driver) → length (opening_lanes id maxmem ds) ≡ length ds
length-opening_lanes id maxmem [] = refl
length-opening_lanes id maxmem (d ∷ ds) = ap suc (length-opening_lanes (id + 1) maxmem ds)

-- no driver has counted a sync when it opens
pub none-bounced : (id maxmem : ℕ) (ds : List Driver) (z : ℕ) →
    sum_by (λ (l : LaneState). l.shares z) (opening_lanes id maxmem ds) ≡ 0
none-bounced id maxmem [] z = refl
none-bounced id maxmem (d ∷ ds) z =
    omega (
      arith,
      sum_by-cons (λ (l : LaneState). l.shares z) (opening_lane id maxmem d) (opening_lanes (id + 1) maxmem ds),
      none-bounced (id + 1) maxmem ds z,
    )

pub length-slice_set : (ls : List LaneState) (k : ℕ) (m : LaneState) → length (slice_set ls k m) ≡ length ls
length-slice_set [] k m = refl
length-slice_set (x ∷ ls) zero m = refl
length-slice_set (x ∷ ls) (suc k) m = ap suc (length-slice_set ls k m)

-- a driver that is there has a number below the end
pub within : (ls : List LaneState) (k : ℕ) (l : LaneState) → slice_get ls k ≡ Some l → k < length ls
within [] k l h = absurd (cc)
within (x ∷ ls) zero l h = omega arith
within (x ∷ ls) (suc k) l h = let r = within ls k l h in omega (arith, r)

-- below the end a driver is there
pub found : (ls : List LaneState) (k : ℕ) → k < length ls → (l : LaneState) × (slice_get ls k ≡ Some l)
found [] k lt = absurd (omega (arith, lt))
found (x ∷ ls) zero lt = (x, refl)
found (x ∷ ls) (suc k) lt = found ls k (omega (arith, lt))

-- what holds of the new driver at its place, and of the old ones elsewhere, holds of all after the change
pub each_set : (P : ℕ → LaneState → Type 0) (ls : List LaneState) (k : ℕ) (m : LaneState) → P k m →
    ((i : ℕ) (l : LaneState) → i ≢ k → slice_get ls i ≡ Some l → P i l) →
    (i : ℕ) (l : LaneState) → slice_get (slice_set ls k m) i ≡ Some l → P i l
each_set P [] k m here others i l h = absurd (cc)
each_set P (x ∷ ls) zero m here others zero l h =
    let same : m ≡ l = cc in subst (P zero) same here
each_set P (x ∷ ls) zero m here others (suc i) l h =
    others (suc i) l (λ e. absurd (omega (arith, e))) h
each_set P (x ∷ ls) (suc k) m here others zero l h =
    others zero l (λ e. absurd (omega (arith, e))) h
each_set P (x ∷ ls) (suc k) m here others (suc i) l h =
    each_set (λ j. P (suc j)) ls k m here (λ j n off e. others (suc j) n (λ q. off (omega (arith, q))) e) i l h

-- a driver that is put at a place is there
pub set-here : (ls : List LaneState) (k : ℕ) (m : LaneState) → k < length ls → slice_get (slice_set ls k m) k ≡ Some m
set-here [] k m lt = absurd (omega (arith, lt))
set-here (x ∷ ls) zero m lt = refl
set-here (x ∷ ls) (suc k) m lt = set-here ls k m (omega (arith, lt))

-- a driver at another place stays
pub set-other : (ls : List LaneState) (k j : ℕ) (m : LaneState) → j ≢ k →
    slice_get (slice_set ls k m) j ≡ slice_get ls j
set-other [] k j m off = refl
set-other (x ∷ ls) zero zero m off = absurd (off refl)
set-other (x ∷ ls) zero (suc j) m off = refl
set-other (x ∷ ls) (suc k) zero m off = refl
set-other (x ∷ ls) (suc k) (suc j) m off = set-other ls k j m (λ e. off (ap suc e))

-- a driver that is put back as it was
pub set_same : (ls : List LaneState) (k : ℕ) (l m : LaneState) →
    slice_get ls k ≡ Some l → m ≡ l → slice_set ls k m ≡ ls
set_same [] k l m e same = refl
set_same (x ∷ ls) zero l m e same = let q : x ≡ l = cc in ap (λ y. y ∷ ls) (same ∙ sym q)
set_same (x ∷ ls) (suc k) l m e same = ap (λ t. x ∷ t) (set_same ls k l m e same)

-- what one driver has less or more of, all together have less or more of
pub sum_set : (f : LaneState → ℕ) (ls : List LaneState) (k : ℕ) (l m : LaneState) → slice_get ls k ≡ Some l →
    sum_by f (slice_set ls k m) + f l ≡ sum_by f ls + f m
sum_set f [] k l m e = absurd (cc)
sum_set f (x ∷ ls) zero l m e =
    let q : x ≡ l = cc in
    omega (arith, sum_by-cons f m ls, sum_by-cons f x ls, ap f q)
sum_set f (x ∷ ls) (suc k) l m e =
    omega (arith, sum_by-cons f x ls, sum_by-cons f x (slice_set ls k m), sum_set f ls k l m e)
