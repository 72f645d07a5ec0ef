-- The driver's own bytes: the bytes of its table, what is read of them, and what they make of what is held.
use Rattle.std.proofs.Common.{◌≡◌, ℕ, zero, suc, ◌/◌, true, List, [], ◌∷◌, map, slice_get, Some, is_some, refl, sym, ap}
use Rattle.std.proofs.Common.{◌∙◌}
use Rattle.std.specs.FinMap.{get}
use Rattle.busdma_machine.specs.Machine.Wire.{put, with_bytes_of}
use Rattle.loan_table.specs.Table.{AreIn}
use Rattle.phys_memory.specs.Memory.{FrameMemory, wire}
use Rattle.phys_memory.proofs.PageBytes.{IsNone, put_under}
use Rattle.ideal_lane.specs.State.{LaneState}
use Rattle.ideal_wire.proofs.Faithful.BytesPut.{same_reads}
use Rattle.ideal_wire.proofs.Laid.Positions.{found_one}
use Rattle.ideal_wire.proofs.Loads.Reaching.{all-from}
use Rattle.lane_state.specs.declared.holdings.Holdings.{Holdings}
use Rattle.lane_state.specs.Held.{devices_of}
use Rattle.lane_state.specs.Ideal.{ideal_of}
use Rattle.lane_state.specs.Wire.{IsWired, held_pages, wire_of}
use Rattle.lane_state.proofs.ChangeLaws.{held-put}
use Rattle.lane_state.proofs.Lying.{own-mine, own-none, own-view}
use Rattle.lane_state.proofs.MarkedMemory.{marks-held, some-mark}

module _ (h : Holdings) where
  abbrev l : LaneState
  l = ideal_of h

  -- a byte of the table is one of the driver's own
  pub table-own : (a : ℕ) → is_some (get h.loans.bytes a) ≡ is_some (l.memory a)
  table-own a =
      ap is_some (marks-held h.loans.bytes h.loans.loans (devices_of h.maps.map) h.memory.memory a)
      ∙ some-mark (l.memory a)

  pub own-inside : (pas : List ℕ) → ((i a : ℕ) → slice_get pas i ≡ Some a → is_some (l.memory a) ≡ true) →
      AreIn h.loans.bytes pas
  own-inside [] own = tt
  own-inside (a ∷ pas) own = (table-own a ∙ own 0 a refl, own-inside pas (λ i b at. own (suc i) b at))

  pub inside-own : (pas : List ℕ) → AreIn h.loans.bytes pas → (i a : ℕ) → slice_get pas i ≡ Some a →
      is_some (l.memory a) ≡ true
  inside-own [] are i a at = absurd (cc)
  inside-own (b ∷ pas) are zero a at =
      let e = found_one (Some b) b a refl at in
      ap (λ x. is_some (l.memory x)) (sym e) ∙ sym (table-own b) ∙ are.0
  inside-own (b ∷ pas) are (suc i) a at = inside-own pas are.1 i a at

  module _ (wired : IsWired h) where
    -- what is read of the driver's own bytes is what its wire has there
    pub own-reads : (pas : List ℕ) → AreIn h.loans.bytes pas → map (wire h.memory.memory) pas ≡ map (wire_of h) pas
    own-reads pas are = same_reads pas (wire h.memory.memory) (wire_of h) (λ i a at.
        sym (own-view l wired.laid wired.apart h.maps.map refl h.unlent (wire h.memory.memory) a
        (inside-own pas are i a at)))

    -- if bytes are put into the driver's own, its wire has them at their addresses
    pub own-put : (pas vs : List ℕ) → AreIn h.loans.bytes pas → (n : FrameMemory) →
        wire n ≡ put pas vs (wire h.memory.memory) →
        with_bytes_of (held_pages h.maps.map) (wire n) ≡ put pas vs (wire_of h)
    own-put pas vs inside n wires-are =
        held-put l wired.laid wired.apart h.maps.map refl h.unlent h.maps.map h.memory.memory n 0 (λ q ne. refl)
        (λ f x. x) pas vs
        (λ i a at. own-mine l wired.laid wired.apart h.maps.map refl h.unlent 0 a (inside-own pas inside i a at))
        (ap (with_bytes_of (devices_of h.maps.map 0).pages) wires-are
        ∙ put_under (devices_of h.maps.map 0).pages pas vs (wire h.memory.memory)
        (all-from (λ a. IsNone (devices_of h.maps.map 0).pages (a / 4096)) pas
        (λ i a at.
        own-none l wired.laid wired.apart h.maps.map refl h.unlent a (inside-own pas inside i a at) 0)))
