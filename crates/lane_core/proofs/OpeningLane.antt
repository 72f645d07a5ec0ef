-- The ideal memory of a driver that opens.
use Rattle.std.proofs.Common.{◌≡◌, ℕ, ◌*◌, ◌/◌, Bool, true, false, cond, List, [], Option, Some, None}
use Rattle.std.proofs.Common.{is_some, not, refl, ap, sym, ◌∙◌, arith}
use Rattle.std.specs.FinMap.{FinMap, empty, entries, get, get-empty}
use Rattle.std.specs.List.{list_any}
use Rattle.std.specs.Ordering.{nat_cmp}
use Rattle.busdma_base.specs.declared.scenarios.scenario.PageRun.{PageRun}
use Rattle.busdma_base.specs.Scenarios.PageRuns.{is_own, physical_in}
use Rattle.lane_tables.specs.declared.queued.QueuedPage.{QueuedPage}
use Rattle.busdma_rules.specs.Lending.Loans.{Loans}
use Rattle.phys_memory.specs.Memory.{FrameMemory, memory_has_frame, wire}
use Rattle.ideal_lane.specs.IdealMemory.{Known}
use Rattle.ideal_lane.specs.Opening.{zeros}
use Rattle.ideal_lane.specs.Places.{is_in_memory, physical_of}
use Rattle.ideal_lane.proofs.Weights.{weigh-empty}
use Rattle.lane_state.specs.declared.kept.KeptMap.{KeptMap}
use Rattle.lane_state.specs.declared.kept.KeptMemory.{KeptMemory}
use Rattle.lane_state.specs.Covered.{HasFramesOf, IsCovered, Reaches}
use Rattle.lane_state.specs.Covered.{reached_in, has_load, lends_pages, is_covered_returning}
use Rattle.lane_state.specs.Covered.{is_tried, pages_due}
use Rattle.lane_state.specs.Held.{held, content_of, byte_among}
use Rattle.lane_state.specs.Kept.{Device, memory_of, due_of}
use Rattle.lane_state.specs.OpeningMemory.{IsOpeningMemory, is_one_of}
use Rattle.lane_state.proofs.MapTables.{AreMaps}
use Rattle.lane_state.proofs.MapValues.{entries-empty}
use Rattle.lane_state.proofs.OwnRuns.{AreKnown, own_frame}

module _ (pages : List PageRun) (bytes : FinMap nat_cmp Bool) (m : FrameMemory) (known : AreKnown pages bytes)
    (opening : IsOpeningMemory pages m) where
  zero_at : (b : Bool) (x : ℕ) → (b ≡ true → x ≡ 0) →
      content_of (cond b (Some true) None) x ≡ cond b (Some (Known 0)) None
  zero_at true x h = ap (λ v. Some (Known v)) (h refl)
  zero_at false x h = refl

  -- every byte of the pages is marked and 0, and no other is marked
  pub held-zeros : (loans : Loans) (devices : ℕ → Device) → loans ≡ empty → held bytes loans devices m ≡ zeros pages
  held-zeros loans devices none = λ i a. (at a) i
    where
      at : (a : ℕ) → held bytes loans devices m a ≡ zeros pages a
      at a =
          ap (λ es. content_of (get bytes a) (byte_among devices m es a)) (ap entries none ∙ entries-empty)
          ∙ ap (λ o. content_of o (wire m a)) (known a) ∙ zero_at (is_own pages a) (wire m a) (opening.zero a)

  some_at : (b : Bool) → is_some (cond b (Some true) None) ≡ b
  some_at true = refl
  some_at false = refl

  -- the bytes of the pages are marked, and no others
  pub opens-covered : IsCovered m bytes
  opens-covered a = ap is_some (known a) ∙ some_at (is_own pages a) ∙ sym (opening.frames a)

-- the frames of the pages are in the memory
pub opens-framed : (pages : List PageRun) (m : FrameMemory) → IsOpeningMemory pages m → HasFramesOf pages m
opens-framed pages m opening f h =
    let same : 4096 * f / 4096 ≡ f = omega arith in
    ap (memory_has_frame m) (sym same) ∙ opening.frames (4096 * f) ∙ own_frame pages (4096 * f)
    ∙ ap (λ x. list_any (λ r. is_one_of r.frame r.count x) pages) same ∙ h

-- with no memory, the driver reaches what its pages have
pub opens-reaching : (pages : List PageRun) (memories : FinMap nat_cmp KeptMemory) (m : FrameMemory) → memories
    ≡ empty →
    IsOpeningMemory pages m → Reaches pages memories m
opens-reaching pages memories m none opening va =
    ap (λ f. f va) opening.physical
    ∙ sym (ap (λ ms. reached_in (physical_in pages va) ms va) none ∙ by (physical_in pages va))
  where
    by : (o : Option ℕ) → reached_in o empty va ≡ o
    by (Some pa) = refl
    by None =
        ap (λ es. cond (list_any (λ (e : ℕ × KeptMemory). is_in_memory va (memory_of e.1)) es)
        (Some (physical_of va)) None) entries-empty

-- with no map, nothing is lent and nothing is due
pub opens-mapless : (maps : FinMap nat_cmp KeptMap) (loans : Loans) (returns : List QueuedPage) (owed : ℕ) →
    maps ≡ empty → loans ≡ empty → returns ≡ [] → AreMaps maps loans returns owed
opens-mapless maps loans returns owed none unlent back =
    let at : (k : ℕ) → get maps k ≡ None = λ k. ap (λ ms. get ms k) none ∙ get-empty nat_cmp k in
    let due : pages_due maps ≡ 0 = ap pages_due none ∙ weigh-empty due_of in
    record {
      loaded = λ k. ap (λ ls. is_some (get ls k)) unlent ∙ ap is_some (get-empty nat_cmp k)
          ∙ sym (ap has_load (at k));
      unlent = λ k. ap lends_pages (at k);
      promised = omega (arith, due);
      returning = ap (λ rs. list_any (λ (q : QueuedPage). not (is_covered_returning (get maps q.map.made_at))) rs) back;
      tried = λ k. ap is_tried (at k);
    }
