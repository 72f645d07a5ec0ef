-- No byte that a driver reaches has two virtual addresses.
use Rattle.std.proofs.Common.{◌≡◌, ℕ, ◌+◌, ◌-◌, ◌*◌, ◌<◌, ◌≤◌, Bool, true, false, cond, Option, Some, None, refl, ap}
use Rattle.std.proofs.Common.{sym}
use Rattle.std.proofs.Common.{◌∙◌, arith, nat_le, nat_lt}
use Rattle.std.proofs.lemmas.Bool.{and_parts, false≢true, leb-true, ltb-true, le-leb, lt-ltb}
use Rattle.std.specs.FinMap.{get, entries, entries_sorted, get-entries}
use Rattle.busdma_machine.specs.Bounce.MemoryRuns.{in_run}
use Rattle.busdma_machine.specs.Machine.VirtualPages.{pages_end}
use Rattle.busdma_base.specs.Scenarios.PageRuns.{physical_in}
use Rattle.ideal_lane.specs.Places.{is_in_memory, is_memory_byte, or_in_memory, physical}
use Rattle.ideal_lane.specs.State.{LaneState, LaneMemory}
use Rattle.ideal_wire.specs.Apart.{IsApart}
use Rattle.ideal_wire.specs.Laid.{AreLaid}
use Rattle.ideal_wire.specs.Machine.{IsInMachine}
use Rattle.ideal_wire.proofs.Faithful.Lent.{any_entry}
use Rattle.ideal_wire.proofs.Faithful.PlacedLoads.{reached-own}
use Rattle.ideal_wire.proofs.Laid.Positions.{found_one}

-- a driver reaches a byte by its pages, or by a memory
data Reaches (l : LaneState) (va pa : ℕ) : Type 0 where
  ByPages : physical_in l.pages va ≡ Some pa → Reaches l va pa
  ByMemory : (k : ℕ) (x : LaneMemory) → get l.mems k ≡ Some x → in_run x.first x.count pa ≡ true →
      va ≡ pages_end + pa → Reaches l va pa

module _ (l : LaneState) (laid : AreLaid l) where
  reaches-by : (va pa : ℕ) → physical l va ≡ Some pa → Reaches l va pa
  reaches-by va pa h = by (physical_in l.pages va) refl h
    where
      memory : (b : Bool) → is_memory_byte l va ≡ b → cond b (Some (va - pages_end)) None ≡ Some pa → Reaches l va pa
      memory false e g = absurd (cc)
      memory true e g =
          let x = any_entry (λ q. is_in_memory va q.1) (entries l.mems) (entries_sorted l.mems) e in
          let there : get l.mems x.key ≡ Some x.value = get-entries l.mems x.key ∙ x.found in
          let begin : ℕ = pages_end + x.value.first in
          let parts = and_parts (nat_le begin va) (nat_lt va (begin + x.value.len)) x.passes in
          let low : begin ≤ va = leb-true begin va parts.0 in
          let high : va < begin + x.value.len = ltb-true va (begin + x.value.len) parts.1 in
          let is : va - pages_end ≡ pa = found_one (Some (va - pages_end)) (va - pages_end) pa refl g in
          let room : x.value.len ≤ 4096 * x.value.count = (laid.runs x.key x.value there).room in
          ByMemory x.key x.value there
          (rw (
            le-leb x.value.first pa (omega (arith, low, is)),
            lt-ltb pa (x.value.first + 4096 * x.value.count) (omega (arith, low, high, is, room)),
          ) refl) (omega (arith, low, is))

      by : (o : Option ℕ) → physical_in l.pages va ≡ o → or_in_memory l va o ≡ Some pa → Reaches l va pa
      by None e g = memory (is_memory_byte l va) refl g
      by (Some x) e g = ByPages (e ∙ ap (λ y. Some y) (found_one (Some x) x pa refl g))

  pub reached-once : IsApart l → IsInMachine l → (va vb pa : ℕ) → physical l va ≡ Some pa →
      physical l vb ≡ Some pa → va ≡ vb
  reached-once apart machine va vb pa e f = by (reaches-by va pa e) (reaches-by vb pa f)
    where
      -- a byte of a memory is none of the driver's pages
      off : {A : Type 0} (v k : ℕ) (x : LaneMemory) → physical_in l.pages v ≡ Some pa → get l.mems k ≡ Some x →
          in_run x.first x.count pa ≡ true → A
      off v k x g there inside =
          absurd (false≢true (sym (apart.pages k pa x there inside) ∙ reached-own l.pages v pa g))

      by : Reaches l va pa → Reaches l vb pa → va ≡ vb
      by (ByPages g) (ByPages h) = machine.unlike va vb pa g h
      by (ByPages g) (ByMemory k x there inside is) = off va k x g there inside
      by (ByMemory k x there inside is) (ByPages h) = off vb k x h there inside
      by (ByMemory k x there inside is) (ByMemory j y found within same) = is ∙ sym same
