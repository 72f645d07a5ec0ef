-- A driver is wired and served after a turn if its wire follows the wire of the step.
use Rattle.std.proofs.Common.{◌≡◌, sym, ◌∙◌, subst, IsTrue}
use mathlib.Core.Logic.{∥∥₁_elim, ∥∥₁_map}
use Rattle.busdma_base.specs.declared.journals.journal.Side.{Side}
use Rattle.busdma_machine.specs.Bounce.Door.{Seen, account}
use Rattle.ideal_lane.specs.Agreement.{AgreesWith}
use Rattle.ideal_lane.specs.Asking.{by_reply}
use Rattle.ideal_lane.specs.Standing.{Stands}
use Rattle.ideal_lane.specs.Turns.{Turned, lane_step}
use Rattle.ideal_lane.proofs.Own.{IsLater, turn-own}
use Rattle.ideal_wire.specs.Apart.{IsApart}
use Rattle.ideal_wire.specs.Centre.{IsFaithful}
use Rattle.ideal_wire.specs.Laid.{AreLaid}
use Rattle.ideal_wire.specs.Machine.{IsInMachine}
use Rattle.ideal_wire.specs.Mapped.{AreMapped}
use Rattle.ideal_wire.specs.OneProof.{IsFaithful-prop}
use Rattle.ideal_wire.specs.Spaced.{AreSpaced}
use Rattle.ideal_wire.specs.WireStep.{Follows}
use Rattle.ideal_wire.specs.WireStep as wires
use Rattle.ideal_wire.proofs.Apart.Frames.{agreeing-apart}
use Rattle.ideal_wire.proofs.Devices.KeptSpaces.{turn-spaced}
use Rattle.ideal_wire.proofs.Tags.MachineTurns.{turn-keeps}
use Rattle.ideal_wire.proofs.Devices.MappedTurns.{turn-mapped}
use Rattle.ideal_wire.proofs.Faithful.Turns.{turn-stays}
use Rattle.lane_state.specs.declared.holdings.Holdings.{Holdings}
use Rattle.lane_state.specs.Ideal.{ideal_of}
use Rattle.lane_state.specs.Served.{IsServed}
use Rattle.lane_state.specs.Wire.{IsWired, wire_of}
use Rattle.lane_turns.proofs.AfterTurn.{Led}

module _ (h k : Holdings) (s : Side) (d e : Seen) (stands : Stands (ideal_of h)) (wired : IsWired h)
    (served : IsServed (ideal_of h) d) (x : Turned) (led : Led (ideal_of h) s d x e) (same : x.lane ≡ ideal_of k) where
  pub still-stands : Stands (ideal_of k)
  still-stands = subst Stands same led.stands

  pub still-laid : AreLaid (ideal_of k)
  still-laid = subst AreLaid same led.laid

  still-agrees : AgreesWith (ideal_of k) (account e)
  still-agrees = subst (λ l. AgreesWith l (account e)) same led.agrees

  pub still-apart : IsApart (ideal_of k)
  still-apart = agreeing-apart (ideal_of k) (account e) still-agrees still-stands still-laid

  replied : (by_reply (lane_step (ideal_of h) s) led.reply).lane ≡ ideal_of k
  replied = sym led.is ∙ same

  -- the driver keeps its number, its script and its pages
  pub still-own : IsLater (ideal_of h) (ideal_of k)
  still-own = subst (IsLater (ideal_of h)) replied (turn-own (ideal_of h) s led.reply).later

  pub still-served : IsServed (ideal_of k) e
  still-served = record {
    served = subst (λ b. IsTrue b) (λ i. (sym led.serves i) (sym still-own.same_id i)) served.served;
    opening = led.opening;
    below = led.below;
    sound = led.sound;
    agrees = still-agrees;
  }

  pub still-wired : Follows (ideal_of h) (ideal_of k) (wires.wire_lane_step (ideal_of h) s (wire_of h)) (wire_of k) →
      IsWired k
  still-wired follows = record {
    machine = subst IsInMachine replied (turn-keeps (ideal_of h) wired.machine s led.reply led.new);
    laid = still-laid;
    apart = still-apart;
    spaced = subst AreSpaced replied (turn-spaced (ideal_of h) stands wired.laid wired.machine wired.spaced s
        led.reply);
    mapped = ∥∥₁_map wired.mapped (λ mapped. subst AreMapped replied
        (turn-mapped (ideal_of h) stands wired.laid wired.machine wired.spaced mapped s led.reply));
    faithful = subst (λ l. IsFaithful l (wire_of k)) replied (∥∥₁_elim wired.mapped
        (IsFaithful-prop (by_reply (lane_step (ideal_of h) s) led.reply).lane (wire_of k))
        (λ mapped. turn-stays (ideal_of h) (account d) (wire_of h) stands served.agrees wired.laid wired.spaced mapped
        wired.faithful s led.reply (wire_of k) led.new
        (subst (λ l. Follows (ideal_of h) l (wires.wire_lane_step (ideal_of h) s (wire_of h)) (wire_of k)) (sym replied)
        follows)));
  }
