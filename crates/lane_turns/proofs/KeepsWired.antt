-- A driver that ran out of memory is unchanged.
use Rattle.std.proofs.Common.{refl, sym, ap, subst}
use Rattle.ideal_wire.specs.Apart.{IsApart}
use Rattle.ideal_wire.specs.Centre.{IsFaithful}
use Rattle.ideal_wire.specs.Laid.{AreLaid}
use Rattle.ideal_wire.specs.Machine.{IsInMachine}
use Rattle.ideal_wire.specs.Mapped.{AreMapped}
use Rattle.ideal_wire.specs.Spaced.{AreSpaced}
use Rattle.ideal_wire.specs.WireStep.{Follows}
use Rattle.ideal_wire.proofs.Faithful.Carried.{are-bused, carried, same-carries}
use Rattle.lane_state.specs.declared.holdings.Holdings.{Holdings}
use Rattle.lane_state.specs.Changes.{KeepsState}
use Rattle.lane_state.specs.Ideal.{ideal_of}
use Rattle.lane_state.specs.Wire.{IsWired, wire_of}
use Rattle.lane_state.proofs.Following.{follows, stays-all}

pub kept-wired : (h k : Holdings) → KeepsState h k → IsWired h → IsWired k
kept-wired h k s wired =
    let l = ideal_of h in
    let back = sym s.ideal in
    let laid = subst AreLaid back wired.laid in
    let apart = subst IsApart back wired.apart in
    let there = follows h k wired.laid wired.apart laid apart (stays-all h k s.bytes)
    (ap (λ n. n.pages) s.ideal) (ap (λ n. n.mems) s.ideal) in
    let here = subst (λ n. Follows l n (wire_of h) (wire_of k)) s.ideal there in
    record {
      machine = subst IsInMachine back wired.machine;
      laid = laid;
      apart = apart;
      spaced = subst AreSpaced back wired.spaced;
      mapped = subst (λ n. ∥ AreMapped n ∥₁) back wired.mapped;
      faithful = subst (λ n. IsFaithful n (wire_of k)) back
          (carried l l (wire_of h) (wire_of k) (are-bused l wired.laid) wired.faithful
          (same-carries l l wired.faithful.exclusive refl refl (λ n i p at. refl)) here);
    }
