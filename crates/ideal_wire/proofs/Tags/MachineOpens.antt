-- A driver of a valid scenario opens in its machine.
use Rattle.std.proofs.Common.{◌≡◌, ℕ, zero, suc, ◌+◌, ◌^◌, ◌<◌, ◌≤◌, ◌||◌, Bool, true, false, max, List, []}
use Rattle.std.proofs.Common.{◌∷◌, ◌++◌, Some, None, slice_get, refl, subst, arith, nat_le}
use Rattle.std.proofs.lemmas.Bool.{and_parts, ltb-true}
use Rattle.std.specs.Ordering.{nat_cmp}
use Rattle.std.specs.List.{AllByRecursion, list_any}
use Rattle.std.specs.FinMap.{empty, get, get-empty}
use Rattle.busdma_base.specs.declared.scenarios.scenario.Driver.{Driver}
use Rattle.busdma_base.specs.declared.scenarios.scenario.FrameRun.{FrameRun}
use Rattle.busdma_base.specs.declared.scenarios.scenario.PageRun.{PageRun}
use Rattle.busdma_base.specs.declared.scenarios.scenario.Scenario.{Scenario}
use Rattle.busdma_base.specs.Scenarios.Opening.{maxmem_of}
use Rattle.busdma_machine.specs.Each.{EachAfter}
use Rattle.busdma_base.specs.Scenarios.FrameRuns.{IsFrameRun, is_in}
use Rattle.busdma_base.specs.declared.scenarios.script.Op.{Op}
use Rattle.busdma_base.specs.Scenarios.PageRuns.{IsPageRun, all_in, physical_in}
use Rattle.busdma_base.specs.Scenarios.Script.{IsOp}
use Rattle.busdma_base.specs.Scenarios.Valid.{IsDriver, IsValid, LoadsFrom}
use Rattle.ideal_lane.specs.Opening.{opening_lane}
use Rattle.ideal_lane.specs.Sends.{HaveClusters, Send, due_send}
use Rattle.ideal_lane.specs.State.{LaneTag, LaneMemory}
use Rattle.ideal_wire.specs.Machine.{IsOfMachine, IsInMachine}
use Rattle.ideal_wire.proofs.Apart.PageTwins.{page-once}

-- the end of memory is at most 2^30
numbered : (before frames : List FrameRun) → EachAfter IsFrameRun before frames → maxmem_of frames ≤ 2 ^ 30
numbered before [] h = omega arith
numbered before (r ∷ frames) h =
    let end : r.first + r.count ≤ 2 ^ 30 = h.0.numbered in
    omega (arith, end, numbered (before ++ r ∷ []) frames h.1)

-- a frame of the machine is below the end of memory
frame-below : (frames : List FrameRun) (f : ℕ) → list_any (is_in f) frames ≡ true → f < maxmem_of frames
frame-below [] f h = absurd (cc)
frame-below (r ∷ frames) f h = by (is_in f r) refl (frame-below frames f) h
  where
    by : (b : Bool) → is_in f r ≡ b → (list_any (is_in f) frames ≡ true → f < maxmem_of frames) →
        (b || list_any (is_in f) frames) ≡ true → f < max (r.first + r.count) (maxmem_of frames)
    by true e rest g =
        let high : f < r.first + r.count = ltb-true f (r.first + r.count) (and_parts (nat_le r.first f) _ e).1 in
        omega (arith, high)
    by false e rest g = let low = rest g in omega (arith, low)

-- frames of the machine that follow one another are below the end of memory
frames-below : (frames : List FrameRun) (first n : ℕ) → 1 ≤ n → all_in frames first n ≡ true →
    first + n ≤ maxmem_of frames
frames-below frames first zero some h = absurd (omega (arith, some))
frames-below frames first (suc zero) some h =
    let here = frame-below frames first (and_parts (list_any (is_in first) frames) (all_in frames (first + 1) 0)
    h).0 in
    omega (arith, here)
frames-below frames first (suc (suc n)) some h =
    let parts = and_parts (list_any (is_in first) frames) (all_in frames (first + 1) (suc n)) h in
    omega (arith, frames-below frames (first + 1) (suc n) (omega arith) parts.1)

-- pages of a valid scenario are of its machine
pages-of : (frames : List FrameRun) (earlier : List Driver) (before pages : List PageRun) →
    EachAfter (IsPageRun frames earlier) before pages → AllByRecursion (IsOfMachine (maxmem_of frames)) pages
pages-of frames earlier before [] h = tt
pages-of frames earlier before (r ∷ pages) h = (
  record { aligned = h.0.aligned; low = h.0.low; below = frames-below frames r.frame r.count h.0.some h.0.there },
  pages-of frames earlier (before ++ r ∷ []) pages h.1,
)

-- each send of a valid script has its clusters
have-clusters : (before script : List Op) → EachAfter IsOp before script → HaveClusters script
have-clusters before [] h = tt
have-clusters before (o ∷ script) h = (h.0.clusters, have-clusters (before ++ o ∷ []) script h.1)

-- a driver's pages are of the machine, no two virtual addresses of them are of one byte, the frames that its script
-- names are of its pages, and its sends have their clusters
record IsOfDriver (frames : List FrameRun) (d : Driver) : Type 0 where
  pub pages : AllByRecursion (IsOfMachine (maxmem_of frames)) d.pages
  pub bios : AllByRecursion (LoadsFrom d.pages) d.script
  pub clusters : HaveClusters d.script
  pub unlike : (va vb pa : ℕ) → physical_in d.pages va ≡ Some pa → physical_in d.pages vb ≡ Some pa → va ≡ vb

-- each driver of a valid scenario has such pages and such a script
of-driver : (frames : List FrameRun) (before drivers : List Driver) (i : ℕ) (d : Driver) →
    EachAfter (IsDriver frames) before drivers → slice_get drivers i ≡ Some d → IsOfDriver frames d
of-driver frames before [] i d h at = absurd (cc)
of-driver frames before (e ∷ drivers) zero d h at =
    let same : e ≡ d = Rattle.ideal_wire.proofs.Laid.Positions.found_one (Some e) e d refl at in
    subst (IsOfDriver frames) same
    (record {
      pages = pages-of frames before [] e.pages h.0.pages;
      bios = h.0.bios;
      clusters = have-clusters [] e.script h.0.script.each;
      unlike = page-once frames before [] e.pages h.0.pages;
    })
of-driver frames before (e ∷ drivers) (suc i) d h at = of-driver frames (before ++ e ∷ []) drivers i d h.1 at

pub opens-in-machine : (s : Scenario) (i : ℕ) (driver : Driver) → IsValid s → slice_get s.drivers i ≡ Some driver →
    IsInMachine (opening_lane i (maxmem_of s.frames) driver)
opens-in-machine s i driver valid at = record {
  numbered = numbered [] s.frames valid.frames;
  pages = (of-driver s.frames [] s.drivers i driver valid.drivers at).pages;
  mems = λ k x e. no_memory k x e;
  tags = λ k t e. no_tag k t e;
  bios = (of-driver s.frames [] s.drivers i driver valid.drivers at).bios;
  clusters = (of-driver s.frames [] s.drivers i driver valid.drivers at).clusters;
  unlike = (of-driver s.frames [] s.drivers i driver valid.drivers at).unlike;
  due = λ x e. none_due x e;
}
  where
    none_due : {A : Type 0} (x : Send) → due_send (opening_lane i (maxmem_of s.frames) driver) ≡ Some x → A
    none_due x e = absurd (cc)

    no_memory : {A : Type 0} (k : ℕ) (x : LaneMemory) → get (empty {X = LaneMemory} {R = nat_cmp}) k ≡ Some x → A
    no_memory k x e =
        let none : get (empty {X = LaneMemory} {R = nat_cmp}) k ≡ None = get-empty nat_cmp k in absurd (cc)

    no_tag : {A : Type 0} (k : ℕ) (x : LaneTag) → get (empty {X = LaneTag} {R = nat_cmp}) k ≡ Some x → A
    no_tag k x e = let none : get (empty {X = LaneTag} {R = nat_cmp}) k ≡ None = get-empty nat_cmp k in absurd (cc)
