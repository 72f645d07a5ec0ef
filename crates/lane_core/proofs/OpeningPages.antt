-- The memory of a driver as its pages are added.
use Rattle.std.proofs.Common.{◌≡◌, ℕ, ◌+◌, ◌*◌, ◌/◌, ◌%◌, ◌-◌, ◌^◌, ◌<◌, ◌≤◌, Bool, true, false, cond, nat_lt, List}
use Rattle.std.proofs.Common.{[], ◌∷◌, ◌++◌, length, take, replicate, get_or, Option, Some, None, is_some, refl, sym}
use Rattle.std.proofs.Common.{ap, ◌∙◌, arith}
use Rattle.std.specs.Prelude.{nat_eq}
use Rattle.std.specs.List.{list_any}
use Rattle.std.specs.Ordering.{nat_cmp}
use Rattle.std.specs.FinMap.{get, empty, get-empty}
use Rattle.std.proofs.lemmas.Bool.Decides.{nat_tests}
use Rattle.std.proofs.lemmas.List.{take_more, get_or-replicate}
use Rattle.std.proofs.lemmas.List.Folds.{list_any_more}
use Rattle.busdma_base.specs.declared.scenarios.scenario.PageRun.{PageRun}
use Rattle.busdma_machine.specs.Each.{EachAfter}
use Rattle.busdma_machine.specs.Machine.Page.{FrameBytes}
use Rattle.busdma_machine.specs.Machine.VirtualPages.{pages_end}
use Rattle.busdma_base.specs.Scenarios.PageRuns.{share_page}
use Rattle.phys_memory.specs.declared.reach.Reach.{Reach}
use Rattle.phys_memory.specs.Memory.{FrameMemory, memory_physical as physical, reached_in, byte_in, with_page}
use Rattle.phys_memory.proofs.Tables.{get_inserted}
use Rattle.busdma_base.specs.Scenarios.PageRuns.{physical_in}
use Rattle.lane_state.specs.OpeningMemory.{IsOwnRun, ArePages, IsOpeningMemory}
use Rattle.lane_state.specs.OpeningMemory.{is_one_of, row_of, HasPageRun, IsWithout}
use Rattle.lane_state.proofs.OwnRuns.{no_run, own_at, same_tests, one_of_is, one_of_lo, one_of_hi, no_meeting}
use Rattle.lane_state.proofs.OwnRuns.{either_false, in_none, own_frame, twice}

-- the first pages of a run
abbrev pub first_of : PageRun → ℕ → PageRun
first_of run n = record { va = run.va; frame = run.frame; count = n }

-- one more number of a run
extend : {X : Type 0} (base i k v : ℕ) (new : X) (old : ℕ → X) (rest : Option X) → k ≡ base + i → new ≡ old k
    → cond (nat_eq v k) (Some new) (cond (is_one_of base i v) (Some (old v)) rest)
    ≡ cond (is_one_of base (i + 1) v) (Some (old v)) rest
extend base i k v new old rest e is = at (nat_eq v k) refl
  where
    at : (b : Bool) → nat_eq v k ≡ b → cond b (Some new) (cond (is_one_of base i v) (Some (old v)) rest)
        ≡ cond (is_one_of base (i + 1) v) (Some (old v)) rest
    at true h =
        let same : v ≡ k = grind (arith, nat_tests) in
        let within : is_one_of base (i + 1) v ≡ true = one_of_is base (i + 1) v (omega arith) (omega arith) in
        ap Some (is ∙ ap old (sym same)) ∙ sym (ap (λ b. cond b (Some (old v)) rest) within)
    at false h =
        let more : is_one_of base i v ≡ is_one_of base (i + 1) v =
        same_tests _ _ (λ t. grind (arith, nat_tests)) (λ t. grind (arith, nat_tests)) in
        ap (λ b. cond b (Some (old v)) rest) more

-- one more page
pub has_more : (run : PageRun) (i : ℕ) (m n : FrameMemory) (page : FrameBytes) → run.va.0 % 4096 ≡ 0 →
    HasPageRun (first_of run i) m n → page.frame ≡ run.frame + i → page.bytes ≡ replicate 4096 0
    → HasPageRun (first_of run (i + 1)) m (with_page n (run.va.0 + 4096 * i) page 4096)
has_more run i m n page aligned has frame bytes =
    let k : (run.va.0 + 4096 * i) / 4096 ≡ run.va.0 / 4096 + i = omega arith in
    let nth : page.frame ≡ run.frame + ((run.va.0 + 4096 * i) / 4096 - run.va.0 / 4096) = omega arith in
    record {
      table = λ v. get_inserted n.table ((run.va.0 + 4096 * i) / 4096) (record { frame = page.frame; reach = 4096 }) v
          ∙ ap (cond (nat_eq v ((run.va.0 + 4096 * i) / 4096)) (Some (record { frame = page.frame; reach = 4096 })))
          (has.table v)
          ∙ extend (run.va.0 / 4096) i ((run.va.0 + 4096 * i) / 4096) v (record { frame = page.frame; reach = 4096 })
          (row_of run) (get m.table v) k (ap (λ f. record { frame = f; reach = 4096 }) nth);
      frames = λ f. get_inserted n.frames page.frame page.bytes f
          ∙ ap (cond (nat_eq f page.frame) (Some page.bytes)) (has.frames f)
          ∙ extend run.frame i page.frame f page.bytes (λ _. replicate 4096 0) (get m.frames f) frame bytes;
    }

past : (base i : ℕ) → is_one_of base i (base + i) ≡ false
past base i = outside (is_one_of base i (base + i)) refl
  where
    outside : (t : Bool) → is_one_of base i (base + i) ≡ t → t ≡ false
    outside true e = let hi = one_of_hi base i (base + i) e in absurd (omega arith)
    outside false e = refl

-- the next page of a run and its frame are not there
pub next_page : (run : PageRun) (i v : ℕ) (m n : FrameMemory) → i < run.count → v ≡ run.va.0 / 4096 + i →
    IsWithout run m →
    HasPageRun (first_of run i) m n → is_some (get n.table v) ≡ false
next_page run i v m n lt e free has =
    let gone : get m.table (run.va.0 / 4096 + i) ≡ None =
    free.table (run.va.0 / 4096 + i) (one_of_is (run.va.0 / 4096) run.count
    (run.va.0 / 4096 + i) (omega arith) (omega arith)) in
    ap (λ k. is_some (get n.table k)) e ∙ ap is_some (has.table (run.va.0 / 4096 + i)
    ∙ ap (λ b. cond b (Some (row_of run (run.va.0 / 4096 + i))) (get m.table (run.va.0 / 4096 + i)))
    (past (run.va.0 / 4096) i) ∙ gone)

pub next_frame : (run : PageRun) (i f : ℕ) (m n : FrameMemory) → i < run.count → f ≡ run.frame + i → IsWithout run m →
    HasPageRun (first_of run i) m n → is_some (get n.frames f) ≡ false
next_frame run i f m n lt e free has =
    let gone : get m.frames (run.frame + i) ≡ None =
    free.frames (run.frame + i) (one_of_is run.frame run.count (run.frame + i) (omega arith) (omega arith)) in
    ap (λ k. is_some (get n.frames k)) e ∙ ap is_some (has.frames (run.frame + i)
    ∙ ap (λ b. cond b (Some (replicate 4096 0)) (get m.frames (run.frame + i))) (past run.frame i) ∙ gone)

-- the row of a virtual page, by its number, in the memory of these runs
abbrev pub rows_of : List PageRun → ℕ → Option Reach
rows_of [] v = None
rows_of (run ∷ runs) v = cond (is_one_of (run.va.0 / 4096) run.count v) (Some (row_of run v)) (rows_of runs v)

-- a frame is one of these runs'
abbrev pub is_frame : List PageRun → ℕ → Bool
is_frame runs f = list_any (λ r. is_one_of r.frame r.count f) runs

-- a memory has the pages of these runs and no others, with 0 in every byte
pub record HoldsPages (pages : List PageRun) (m : FrameMemory) : Type 0 where
  pub table : (v : ℕ) → get m.table v ≡ rows_of pages v
  pub frames : (f : ℕ) → get m.frames f ≡ cond (is_frame pages f) (Some (replicate 4096 0)) None

pub has_no_pages : (m : FrameMemory) → m.table ≡ empty → m.frames ≡ empty → HoldsPages [] m
has_no_pages m t f = record {
  table = λ v. ap (λ x. get x v) t ∙ get-empty nat_cmp v;
  frames = λ v. ap (λ x. get x v) f ∙ get-empty nat_cmp v;
}

no_row : (runs : List PageRun) (v : ℕ) → list_any (λ r. is_one_of (r.va.0 / 4096) r.count v) runs ≡ false →
    rows_of runs v ≡ None
no_row [] v h = refl
no_row (r ∷ runs) v h =
    let parts =
    either_false (is_one_of (r.va.0 / 4096) r.count v)
    (list_any (λ r. is_one_of (r.va.0 / 4096) r.count v) runs) h in
    ap (λ b. cond b (Some (row_of r v)) (rows_of runs v)) parts.0 ∙ no_row runs v parts.1

-- a run of its own pages and frames is not there yet
pub is_without : (before : List PageRun) (run : PageRun) (m : FrameMemory) →
    IsOwnRun before run → HoldsPages before m → IsWithout run m
is_without before run m is has = record {
  table = λ v h. has.table v ∙ no_row before v (in_none (λ r. r.va.0 / 4096) before run v is.own_pages h);
  frames =
      λ f h. has.frames f ∙ ap (λ b. cond b (Some (replicate 4096 0)) None)
      (in_none (λ r. r.frame) before run f is.own_frames h);
}

swap : {X : Type 0} (a b : Bool) (x y z : X) → (b ≡ true → a ≡ false) → cond a x (cond b y z) ≡ cond b y (cond a x z)
swap a true x y z h = ap (λ t. cond t x y) (h refl)
swap a false x y z h = refl

rows_push : (before : List PageRun) (run : PageRun) (v : ℕ) → list_any (share_page run) before ≡ false
    → rows_of (before ++ run ∷ []) v ≡ cond (is_one_of (run.va.0 / 4096) run.count v)
    (Some (row_of run v)) (rows_of before v)
rows_push [] run v h = refl
rows_push (b ∷ before) run v h =
    let parts = either_false (share_page run b) (list_any (share_page run) before) h in
    ap (cond (is_one_of (b.va.0 / 4096) b.count v) (Some (row_of b v))) (rows_push before run v parts.1)
    ∙ swap (is_one_of (b.va.0 / 4096) b.count v) (is_one_of (run.va.0 / 4096) run.count v) (Some (row_of b v))
    (Some (row_of run v)) (rows_of before v)
    (λ e. no_meeting (run.va.0 / 4096) run.count (b.va.0 / 4096) b.count v _ refl parts.0 e)

-- the pages of one more run
pub has_next : (pages : List PageRun) (i : ℕ) (m n : FrameMemory) → i < length pages → ArePages pages →
    HoldsPages (take i pages) m → HasPageRun (get_or pages i no_run) m n → HoldsPages (take (i + 1) pages) n
has_next pages i m n lt are has new = record {
  table = λ v. new.table v ∙ ap (cond (is_one_of (run.va.0 / 4096) run.count v) (Some (row_of run v))) (has.table v)
      ∙ sym (ap (λ ps. rows_of ps v) (take_more pages i no_run lt)
      ∙ rows_push (take i pages) run v (own_at pages i are lt).own_pages);
  frames = λ f. new.frames f ∙ ap (cond (is_one_of run.frame run.count f) (Some (replicate 4096 0))) (has.frames f)
      ∙ twice (is_frame (take i pages) f) (is_one_of run.frame run.count f) (Some (replicate 4096 0)) None
      ∙ ap (λ b. cond b (Some (replicate 4096 0)) None)
      (sym (list_any_more (λ r. is_one_of r.frame r.count f) pages i no_run lt));
}
  where
    run : PageRun
    run = get_or pages i no_run

page_one : (first n va : ℕ) → first % 4096 ≡ 0 → is_one_of first (4096 * n) va ≡ is_one_of (first / 4096) n (va / 4096)
page_one first n va aligned = same_tests _ _ into out
  where
    into : is_one_of first (4096 * n) va ≡ true → is_one_of (first / 4096) n (va / 4096) ≡ true
    into h =
        let lo : first ≤ va = one_of_lo first (4096 * n) va h in
        let hi : va < first + 4096 * n = one_of_hi first (4096 * n) va h in
        one_of_is (first / 4096) n (va / 4096) (omega arith) (omega arith)

    out : is_one_of (first / 4096) n (va / 4096) ≡ true → is_one_of first (4096 * n) va ≡ true
    out h =
        let lo : first / 4096 ≤ va / 4096 = one_of_lo (first / 4096) n (va / 4096) h in
        let hi : va / 4096 < first / 4096 + n = one_of_hi (first / 4096) n (va / 4096) h in
        one_of_is first (4096 * n) va (omega arith) (omega arith)

hit : (b one : Bool) (row : Reach) (rest : Option Reach) (at pa : ℕ) (x : Option ℕ) → (one ≡ true → b ≡ true) →
    (one ≡ true → reached_in (Some row) at ≡ Some pa)
    → reached_in (cond b rest None) at ≡ x →
    reached_in (cond b (cond one (Some row) rest) None) at ≡ cond one (Some pa) x
hit b true row rest at pa x f g h = ap (λ b. reached_in (cond b (Some row) None) at) (f refl) ∙ g refl
hit b false row rest at pa x f g h = h

below_end : (va limit first n : ℕ) → first + n ≤ limit → va < first + n → nat_lt va limit ≡ true
below_end va limit first n le lt = grind (arith, nat_tests)

in_row : (frame first n va : ℕ) → first % 4096 ≡ 0 → is_one_of (first / 4096) n (va / 4096) ≡ true
    → reached_in (Some (record { frame = frame + (va / 4096 - first / 4096); reach = 4096 })) (va % 4096)
    ≡ Some (4096 * frame + (va - first))
in_row frame first n va aligned h =
    let lo : first / 4096 ≤ va / 4096 = one_of_lo (first / 4096) n (va / 4096) h in
    let short : nat_lt (va % 4096) 4096 ≡ true = grind (arith, nat_tests) in
    let place : 4096 * (frame + (va / 4096 - first / 4096)) + va % 4096 ≡ 4096 * frame + (va - first) = omega arith in
    ap (λ b. cond b (Some (4096 * (frame + (va / 4096 - first / 4096)) + va % 4096)) None) short ∙ ap Some place

none_reached : (b : Bool) (at : ℕ) → reached_in (cond b None None) at ≡ None
none_reached true at = refl
none_reached false at = refl

-- where the bytes of the pages lie
pages_reached : (limit : ℕ) (before pages : List PageRun) (va : ℕ) →
    pages_end ≤ limit → EachAfter IsOwnRun before pages
    → reached_in (cond (nat_lt va limit) (rows_of pages (va / 4096)) None) (va % 4096) ≡ physical_in pages va
pages_reached limit before [] va le h = none_reached (nat_lt va limit) (va % 4096)
pages_reached limit before (r ∷ pages) va le h =
    let aligned : r.va.0 % 4096 ≡ 0 = h.0.aligned in
    let low : r.va.0 + 4096 * r.count ≤ limit = omega (arith, h.0.low) in
    let one = page_one r.va.0 r.count va aligned in
    hit (nat_lt va limit) (is_one_of (r.va.0 / 4096) r.count (va / 4096)) (row_of r (va / 4096))
    (rows_of pages (va / 4096)) (va % 4096) (4096 * r.frame + (va - r.va.0)) (physical_in pages va)
    (λ e. below_end va limit r.va.0 (4096 * r.count) low (one_of_hi r.va.0 (4096 * r.count) va (one ∙ e)))
    (λ e. in_row r.frame r.va.0 r.count va aligned e)
    (pages_reached limit (before ++ r ∷ []) pages va le h.1)
    ∙ ap (λ b. cond b (Some (4096 * r.frame + (va - r.va.0))) (physical_in pages va)) (sym one)

-- pages are below the virtual addresses of memories
rows_low : (before pages : List PageRun) (v : ℕ) (r : Reach) → EachAfter IsOwnRun before pages →
    rows_of pages v ≡ Some r → v < pages_end / 4096
rows_low before [] v r h e = absurd (cc)
rows_low before (run ∷ pages) v r h e =
    at (is_one_of (run.va.0 / 4096) run.count v) refl (rows_low (before ++ run ∷ []) pages v r h.1) e
  where
    at : (b : Bool) → is_one_of (run.va.0 / 4096) run.count v ≡ b →
        (rows_of pages v ≡ Some r → v < pages_end / 4096) →
        cond b (Some (row_of run v)) (rows_of pages v) ≡ Some r → v < pages_end / 4096
    at true one rest is =
        let hi = one_of_hi (run.va.0 / 4096) run.count v one in
        let low : run.va.0 + 4096 * run.count ≤ pages_end = h.0.low in
        let aligned : run.va.0 % 4096 ≡ 0 = h.0.aligned in
        omega arith
    at false one rest is = rest is

-- the memory of a driver's pages is the one in which it opens
pub has_opening : (pages : List PageRun) (m : FrameMemory) → ArePages pages → HoldsPages pages m →
    IsOpeningMemory pages m
has_opening pages m are has = record {
  physical = λ i va. (at va) i;
  frames = λ a. ap is_some (has.frames (a / 4096))
      ∙ there (is_frame pages (a / 4096)) (replicate 4096 0) ∙ sym (own_frame pages a);
  zero = λ a h. ap (λ o. byte_in o (a % 4096)) (has.frames (a / 4096)
      ∙ ap (λ b. cond b (Some (replicate 4096 0)) None) (sym (own_frame pages a) ∙ h))
      ∙ get_or-replicate 4096 (a % 4096) 0 0 (omega arith);
  low = λ v r e. rows_low [] pages v r are (sym (has.table v) ∙ e);
}
  where
    at : (va : ℕ) → physical m va ≡ physical_in pages va
    at va = ap (λ o. reached_in (cond (nat_lt va (2 ^ 64)) o None) (va % 4096)) (has.table (va / 4096))
        ∙ pages_reached (2 ^ 64) [] pages va (omega arith) are

    there : {X : Type 0} (b : Bool) (x : X) → is_some (cond b (Some x) None) ≡ b
    there true x = refl
    there false x = refl
