-- What a write into a driver's own bytes makes of what it holds.
use Rattle.std.proofs.Common.{◌≡◌, ℕ, Bool, true, List, length, refl, sym, ◌∙◌, subst}
use Rattle.std.specs.Ordering.{nat_cmp}
use Rattle.std.specs.FinMap.{FinMap}
use Rattle.busdma_machine.specs.Machine.Wire.{put}
use Rattle.busdma_rules.specs.Lending.Loans.{Loans}
use Rattle.loan_table.specs.Table.{AreIn, set_all}
use Rattle.phys_memory.specs.Memory.{FrameMemory, wire}
use Rattle.ideal_lane.specs.IdealMemory.{written}
use Rattle.ideal_lane.specs.State.{LaneState}
use Rattle.ideal_wire.specs.Centre.{IsFaithful}
use Rattle.lane_state.specs.declared.holdings.Holdings.{Holdings}
use Rattle.lane_state.specs.Changes.{with_written}
use Rattle.lane_state.specs.Held.{devices_of, held}
use Rattle.lane_state.specs.Ideal.{ideal_of}
use Rattle.lane_state.specs.Wire.{IsWired, wire_of}
use Rattle.lane_state.proofs.HeldMemory.{AreMarks, held-is}
use Rattle.lane_state.proofs.MarkedMemory.{marks-held, marks-written, own-marks}
use Rattle.lane_state.proofs.Marks.{has_set_all}
use Rattle.lane_state.proofs.OwnBytes.{own-put}

module _ (h : Holdings) (wired : IsWired h) (pas vs : List ℕ) (inside : AreIn h.loans.bytes pas) (n : FrameMemory)
    (wires-are : wire n ≡ put pas vs (wire h.memory.memory)) where
  abbrev l : LaneState
  l = ideal_of h

  -- what is held after a write is what was written, with these bytes marked
  pub own-written : IsFaithful (with_written pas vs l) (put pas vs (wire_of h)) → length pas ≡ length vs →
      (bytes : FinMap nat_cmp Bool) (loans : Loans) →
      bytes ≡ set_all h.loans.bytes pas true → loans ≡ h.loans.loans →
      record l { memory = held bytes loans (devices_of h.maps.map) n; loans = loans } ≡ with_written pas vs l
  own-written stays size bytes loans marked same =
      let marks : AreMarks h.loans.bytes l.memory =
      marks-held h.loans.bytes h.loans.loans (devices_of h.maps.map) h.memory.memory in
      let now : AreMarks (set_all h.loans.bytes pas true) (written pas vs l.memory) =
      marks-written h.loans.bytes l.memory pas vs size inside marks in
      let is : held bytes loans (devices_of h.maps.map) n ≡ written pas vs l.memory =
      (λ i. held (marked i) (same i) (devices_of h.maps.map) n)
      ∙ held-is l wired.laid wired.apart h.maps.map refl h.unlent n (written pas vs l.memory) h.loans.loans
      (subst (IsFaithful (with_written pas vs l)) (sym (own-put h wired pas vs inside n wires-are)) stays)
      (λ k. refl)
      (λ a mine. sym (own-marks h.loans.bytes (set_all h.loans.bytes pas true) l.memory (written pas vs l.memory)
      marks now
      (has_set_all h.loans.bytes pas true inside) a) ∙ mine)
      (set_all h.loans.bytes pas true) now in
      λ i. record l { memory = is i; loans = same i }
