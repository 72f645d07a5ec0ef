-- Each byte is held by at most one driver, by one thing of it, and a device finds only bytes that its driver holds.
use Rattle.std.proofs.Common.{◌≡◌, ℕ, true, [], Some, slice_get, sym, ap, ◌∙◌}
use Rattle.std.specs.FinMap.{get}
use Rattle.busdma_base.specs.declared.scenarios.scenario.Scenario.{Scenario}
use Rattle.busdma_base.specs.Scenarios.PageRuns.{is_own}
use Rattle.ideal_lane.specs.State.{LaneMap, LaneState}
use Rattle.ideal_wire.specs.Answered.{found_at}
use Rattle.ideal_wire.specs.Held.{named_addresses, FindsHeld, Holder, holds}
use Rattle.ideal_wire.proofs.Apart.Held.{finds-held, held-once, pages-apart}
use Rattle.ideal_wire.proofs.Laid.Positions.{found_one}
use Rattle.ideal_world.specs.WellFormed.{IsDriverOf, IsWellFormed}
use Rattle.ideal_world.specs.World.{WorldState}
use Rattle.ideal_world.proofs.Keeping.{fits}

module _ (s : Scenario) (w : WorldState) (well : IsWellFormed s w) where
  module _ (i j : ℕ) (l k : LaneState) (there : slice_get w.lanes i ≡ Some l) (too : slice_get w.lanes j ≡ Some k) where
    x : IsDriverOf s w.account i l
    x = well.each i l there

    y : IsDriverOf s w.account j k
    y = well.each j k too

    -- the pages of two drivers of the scenario are apart
    one-owner : (byte : ℕ) → is_own l.pages byte ≡ true → is_own k.pages byte ≡ true → l.id ≡ k.id
    one-owner byte own other =
        let same : i ≡ j = pages-apart s.frames [] s.drivers i j x.driver y.driver byte well.valid.drivers x.there
        y.there
        (ap (λ p. is_own p byte) (sym x.pages) ∙ own) (ap (λ p. is_own p byte) (sym y.pages) ∙ other) in
        x.number ∙ same ∙ sym y.number

    pub one-holder : (by other : Holder) (byte : ℕ) → holds l by byte ≡ true → holds k other byte ≡ true →
        (i ≡ j) × (by ≡ other)
    one-holder by other byte h g =
        let r = held-once l k w.account (fits s w well) x.agrees x.stands x.laid y.agrees y.stands y.laid byte
        (one-owner byte) by other h g in
        (sym x.number ∙ r.0 ∙ y.number, r.1)

    -- the device of a driver's map finds no byte that another driver holds
    pub own-finding : (m : ℕ) (o : LaneMap) → get l.maps m ≡ Some o → (n bus byte : ℕ) (other : Holder) →
        slice_get (named_addresses o) n ≡ Some bus → found_at l o bus ≡ Some byte → holds k other byte ≡ true → i ≡ j
    own-finding m o at n bus byte other place found h =
        let f : FindsHeld l o bus = finds-held l x.laid x.mapped m o at n bus place in
        let same : byte ≡ f.byte = found_one (found_at l o bus) byte f.byte found f.found in
        (one-holder f.held.by other f.byte f.held.held (ap (holds k other) (sym same) ∙ h)).0

  pub finding : (i : ℕ) (l : LaneState) → slice_get w.lanes i ≡ Some l → (m : ℕ) (o : LaneMap) →
      get l.maps m ≡ Some o → (n bus : ℕ) → slice_get (named_addresses o) n ≡ Some bus → FindsHeld l o bus
  finding i l there m o at n bus place =
      let d = well.each i l there in
      finds-held l d.laid d.mapped m o at n bus place
