-- What the driver reaches where pages came or went.
use Rattle.std.proofs.Common.{◌≡◌, ℕ, ◌+◌, ◌-◌, ◌*◌, ◌/◌, ◌%◌, ◌^◌, ◌<◌, ◌≤◌, Bool, true, false, cond, min, nat_lt}
use Rattle.std.proofs.Common.{refl, sym, ap, ◌∙◌, arith, Some, None}
use Rattle.std.specs.FinMap.{get}
use Rattle.std.proofs.lemmas.Bool.Decides.{nat_tests}
use Rattle.busdma_machine.specs.Bounce.MemoryRuns.{in_run}
use Rattle.busdma_machine.specs.Machine.VirtualPages.{pages_end}
use Rattle.busdma_rules.specs.Memory.Memories.{virtual_of}
use Rattle.phys_memory.specs.declared.reach.Reach.{Reach}
use Rattle.phys_memory.specs.Memory.{FrameMemory, memory_physical, reached_in}
use Rattle.memory_pages.specs.Placed.{Comes, Goes, is_byte, is_page, row_of}
use Rattle.memory_pages.proofs.Runs.{same_tests, in_run_is, in_run_lo, in_run_hi, in_run_page}

byte_is : (first len va : ℕ) → virtual_of first ≤ va → va < virtual_of first + len → is_byte first len va ≡ true
byte_is first len va lo hi = grind (arith, nat_tests)

byte_lo : (first len va : ℕ) → is_byte first len va ≡ true → virtual_of first ≤ va
byte_lo first len va h = grind (arith, nat_tests)

byte_hi : (first len va : ℕ) → is_byte first len va ≡ true → va < virtual_of first + len
byte_hi first len va h = grind (arith, nat_tests)

-- what a row reaches
found : (b c : Bool) (r : Reach) (at pa : ℕ) → b ≡ true → nat_lt at r.reach ≡ c →
    (c ≡ true → 4096 * r.frame + at ≡ pa) →
    reached_in (cond b (Some r) None) at ≡ cond c (Some pa) None
found b true r at pa e h f = ap (λ t. reached_in (cond t (Some r) None) at) e
    ∙ ap (λ t. cond t (Some (4096 * r.frame + at)) None) h ∙ ap Some (f refl)
found b false r at pa e h f = ap (λ t. reached_in (cond t (Some r) None) at) e
    ∙ ap (λ t. cond t (Some (4096 * r.frame + at)) None) h

unreached : (b : Bool) (at : ℕ) → reached_in (cond b None None) at ≡ None
unreached true at = refl
unreached false at = refl

module _ (first n : ℕ) (whole : 0 < n → first % 4096 ≡ 0) (below : 0 < n → first + 4096 * n ≤ 2 ^ 42) where
  page_of : (va : ℕ) → in_run (virtual_of first) n (4096 * (va / 4096)) ≡ in_run (virtual_of first) n va
  page_of va = in_run_page (virtual_of first) n va (λ h. omega (arith, whole h))

  low : (va : ℕ) → in_run (virtual_of first) n va ≡ true → nat_lt va (2 ^ 64) ≡ true
  low va h =
      let lo = in_run_lo (virtual_of first) n va h in
      let hi = in_run_hi (virtual_of first) n va h in
      let k : va < 2 ^ 64 = omega (arith, below (omega arith)) in
      grind (arith, nat_tests)

  short : (len va : ℕ) → len ≤ 4096 * n → in_run (virtual_of first) n va ≡ true →
      nat_lt (va % 4096) (row_of first len (va / 4096)).reach ≡ is_byte first len va
  short len va all h =
      let lo = in_run_lo (virtual_of first) n va h in
      let up = in_run_hi (virtual_of first) n va h in
      let w : first % 4096 ≡ 0 = whole (omega arith) in
      same_tests (nat_lt (va % 4096) (row_of first len (va / 4096)).reach) (is_byte first len va)
      (λ t. let k : va % 4096 < min 4096 (len - (4096 * (va / 4096) - virtual_of first)) = grind (arith, nat_tests) in
      byte_is first len va lo (omega arith))
      (λ t. let hi = byte_hi first len va t in
      let k : va % 4096 < min 4096 (len - (4096 * (va / 4096) - virtual_of first)) = omega arith in
      grind (arith, nat_tests))

  -- the bytes of a memory that came
  pub come_reached : (old new : FrameMemory) (len va : ℕ) → len ≤ 4096 * n → Comes old new first n len →
      ((v : ℕ) → is_page first n v ≡ true → get old.table v ≡ None) →
      memory_physical new va ≡ cond (is_byte first len va) (Some (va - pages_end)) (memory_physical old va)
  come_reached old new len va all comes free = at (is_page first n (va / 4096)) refl
    where
      at : (b : Bool) → is_page first n (va / 4096) ≡ b →
          memory_physical new va ≡ cond (is_byte first len va) (Some (va - pages_end)) (memory_physical old va)
      at true e =
          let inside : in_run (virtual_of first) n va ≡ true = sym (page_of va) ∙ e in
          let lo : virtual_of first ≤ va = in_run_lo (virtual_of first) n va inside in
          let hi = in_run_hi (virtual_of first) n va inside in
          let w : first % 4096 ≡ 0 = whole (omega arith) in
          let none : memory_physical old va ≡ None =
          ap (λ o. reached_in (cond (nat_lt va (2 ^ 64)) o None) (va % 4096)) (free (va / 4096) e)
          ∙ unreached (nat_lt va (2 ^ 64)) (va % 4096) in
          ap (λ o. reached_in (cond (nat_lt va (2 ^ 64)) o None) (va % 4096)) (comes.rows (va / 4096)
          ∙ ap (λ t. cond t (Some (row_of first len (va / 4096))) (get old.table (va / 4096))) e)
          ∙ found (nat_lt va (2 ^ 64)) (is_byte first len va) (row_of first len (va / 4096)) (va % 4096)
          (va - pages_end) (low va inside) (short len va all inside) (λ t. omega arith)
          ∙ ap (cond (is_byte first len va) (Some (va - pages_end))) (sym none)
      at false e =
          ap (λ o. reached_in (cond (nat_lt va (2 ^ 64)) o None) (va % 4096)) (comes.rows (va / 4096)
          ∙ ap (λ t. cond t (Some (row_of first len (va / 4096))) (get old.table (va / 4096))) e)
          ∙ sym (ap (λ t. cond t (Some (va - pages_end)) (memory_physical old va))
          (outside (is_byte first len va) refl))
        where
          outside : (t : Bool) → is_byte first len va ≡ t → t ≡ false
          outside true h =
              let lo = byte_lo first len va h in
              let hi = byte_hi first len va h in
              let inside : in_run (virtual_of first) n va ≡ true = in_run_is (virtual_of first) n va lo (omega arith) in
              sym (sym e ∙ page_of va ∙ inside)
          outside false h = refl

  -- the pages of a memory that went
  pub go_reached : (old new : FrameMemory) (va : ℕ) → Goes old new first n →
      memory_physical new va ≡ cond (in_run (virtual_of first) n va) None (memory_physical old va)
  go_reached old new va goes =
      ap (λ o. reached_in (cond (nat_lt va (2 ^ 64)) o None) (va % 4096)) (goes.rows (va / 4096))
      ∙ at (is_page first n (va / 4096)) ∙ ap (λ t. cond t None (memory_physical old va)) (page_of va)
    where
      at : (b : Bool) →
          reached_in (cond (nat_lt va (2 ^ 64)) (cond b None (get old.table (va / 4096))) None) (va % 4096)
          ≡ cond b None (memory_physical old va)
      at true = unreached (nat_lt va (2 ^ 64)) (va % 4096)
      at false = refl
