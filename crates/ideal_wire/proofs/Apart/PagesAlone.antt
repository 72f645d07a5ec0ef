-- A load of bytes of the driver's pages that needs a bounce page names no memory.
use Rattle.std.proofs.Common.{◌≡◌, ℕ, zero, suc, ◌+◌, ◌≤◌, Option, Some, None, refl, ap, sym, ◌∙◌, subst, arith}
use Rattle.std.specs.Option.{option_map}
use Rattle.std.specs.FinMap.{get}
use Rattle.busdma_machine.specs.declared.machine.bio.Bio.{Bio}
use Rattle.busdma_base.specs.declared.scenarios.buffer.Buffer.{Buffer}
use Rattle.busdma_machine.specs.declared.tags.tag.TagLimits.{TagLimits}
use Rattle.busdma_machine.specs.Machine.VirtualPages.{pages_end}
use Rattle.busdma_base.specs.Scenarios.PageRuns.{physical_in}
use Rattle.busdma_rules.specs.Segments.Chunks.{chunks_of, need_of}
use Rattle.ideal_lane.specs.Loads.{load_entries}
use Rattle.ideal_lane.specs.Places.{begin_of}
use Rattle.ideal_lane.specs.State.{LaneState, LaneMemory}
use Rattle.ideal_lane.specs.Turns.{bio_at, flat_bio}
use Rattle.ideal_wire.specs.Machine.{IsInMachine}
use Rattle.ideal_wire.proofs.Loads.Bios.{AreOfPages}
use Rattle.ideal_wire.proofs.Loads.Buffers.{Told, Within, Alone, told}
use Rattle.ideal_wire.proofs.Loads.MemoryLoads.{no-page}
use Rattle.ideal_wire.proofs.Laid.Positions.{found_one}

module _ (l : LaneState) (machine : IsInMachine l) (t : TagLimits) where
  -- how many pages the load of a bio needs
  abbrev need : Bio → ℕ
  need b = need_of (chunks_of t l.maxmem (load_entries l b))

  -- no byte of pages has an address among those of memories
  none-high : (len va : ℕ) → pages_end ≤ va → AreOfPages l (flat_bio len va) → 1 ≤ need (flat_bio len va) → ⊥
  none-high zero va high own some = absurd (omega (arith, some))
  none-high (suc n) va high own some =
      let none : physical_in l.pages va ≡ None = no-page l.maxmem l.pages va machine.pages high in
      let gone : None ≡ Some own.0.0 = sym none ∙ own.0.1 in
      cc

  none-within : (mem off len : ℕ) (b : Bio) (o : Option LaneMemory) →
      option_map (flat_bio len) (option_map (λ y. begin_of y + off) o) ≡ Some b → AreOfPages l b → 1 ≤ need b → ⊥
  none-within mem off len b None e own some = absurd (cc)
  none-within mem off len b (Some y) e own some =
      let va : ℕ = begin_of y + off in
      let is : flat_bio len va ≡ b = found_one (Some (flat_bio len va)) (flat_bio len va) b refl e in
      none-high len va (omega arith) (subst (AreOfPages l) (sym is) own) (subst (λ c. 1 ≤ need c) (sym is) some)

  -- the bio of the load is the same in each state of the driver
  pub paged-alone : (x : Buffer) (b : Bio) → bio_at l x ≡ Some b → AreOfPages l b → 1 ≤ need b → (s : LaneState) →
      bio_at s x ≡ Some b
  paged-alone x b e own some s = by (told x)
    where
      by : Told x → bio_at s x ≡ Some b
      by (Within mem off len same) =
          absurd (none-within mem off len b (get l.mems mem) (sym (ap (bio_at l) same) ∙ e) own some)
      by (Alone c is) = is s ∙ sym (is l) ∙ e
