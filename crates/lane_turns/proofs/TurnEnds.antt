-- How a turn of a lane ends.
use Rattle.std.proofs.Common.{◌≡◌, ◌+◌, ◌≤◌, inl, Bool, List, map, refl, sym, ap, subst, length, ℕ, ◌∙◌}
use Rattle.busdma_base.specs.declared.journals.journal.Side.{Side}
use Rattle.busdma_machine.specs.Bounce.Door.{Seen, account}
use Rattle.busdma_machine.specs.Machine.Wire.{Wire, put}
use Rattle.lane_tables.specs.Places.{Places}
use Rattle.ideal_lane.specs.Agreement.{IsAllowed}
use Rattle.ideal_lane.specs.Asking.{Asking, Gives, Asks}
use Rattle.ideal_lane.specs.Standing.{Stands}
use Rattle.ideal_lane.specs.Turns.{Turned, lane_step}
use Rattle.ideal_lane.specs.Ahead.{items_ahead}
use Rattle.ideal_lane.proofs.Ahead.{turn-bounded}
use Rattle.ideal_lane.proofs.Own.{IsLater}
use Rattle.ideal_lane.proofs.TurnLaws.{turn-allowed}
use Rattle.ideal_wire.specs.Apart.{IsApart}
use Rattle.ideal_wire.specs.Laid.{AreLaid}
use Rattle.ideal_wire.specs.WireStep.{BringsKnown, Follows}
use Rattle.ideal_wire.specs.WireStep as wires
use Rattle.lane_state.specs.declared.holdings.Holdings.{Holdings}
use Rattle.lane_state.specs.declared.kept.KeptMemory.{KeptMemory}
use Rattle.lane_state.specs.Doing.{IsAllowedBy, IsDone, asks}
use Rattle.lane_state.specs.Kept.{memory_of}
use Rattle.lane_state.specs.MapValues.{map_values}
use Rattle.lane_state.specs.Ideal.{ideal_of}
use Rattle.lane_state.specs.Served.{IsServed}
use Rattle.lane_turns.specs.TakenTurns.{IsTurned}
use Rattle.lane_state.specs.Wire.{IsWired, wire_of}
use Rattle.lane_turns.proofs.AfterTurn.{Led, led}
use Rattle.lane_state.specs.Changes.{KeepsBesideMemory, KeepsCopied, KeepsWhatStays}
use Rattle.lane_state.proofs.Following.{follows, follows-copied, follows-memory, none-known}
use Rattle.lane_turns.proofs.StaysWired.{still-apart, still-laid, still-own, still-served, still-stands, still-wired}

-- a step that was done is a turn that was made, which says whether a call was made
pub done-turned : {X : Type 0} (d : Seen) (lane : ℕ) (step : Asking X) (x : X) (held : Bool) (e : Seen) →
    IsDone d lane step x e → held ≡ asks step → IsTurned d lane step x held e
done-turned d lane (Gives y) x held e done is = (done.0, is, done.1)
done-turned d lane (Asks c k) x held e done is = inl (is, done)

module _ (h k : Holdings) (s : Side) (d e : Seen) (stands : Stands (ideal_of h)) (wired : IsWired h)
    (served : IsServed (ideal_of h) d) (x : Turned) (held : Bool)
    (turn : IsTurned d (ideal_of h).id (lane_step (ideal_of h) s) x held e) (same : x.lane ≡ ideal_of k) where
  the-end : Led (ideal_of h) s d x e
  the-end =
      led (ideal_of h) s d stands served wired.machine wired.laid (lane_step (ideal_of h) s) refl x held e turn

  pub end-stands : Stands (ideal_of k)
  end-stands = still-stands h k s d e stands wired served x the-end same

  pub end-served : IsServed (ideal_of k) e
  end-served = still-served h k s d e stands wired served x the-end same

  pub end-own : IsLater (ideal_of h) (ideal_of k)
  end-own = still-own h k s d e stands wired served x the-end same

  -- the items of the queue and those ahead are together no more than before
  pub end-bounded : items_ahead (ideal_of k) + length (ideal_of k).queue ≤ items_ahead (ideal_of h) + length
      (ideal_of h).queue
  end-bounded =
      subst (λ l. items_ahead l + length l.queue ≤ items_ahead (ideal_of h) + length (ideal_of h).queue)
      (sym the-end.is ∙ same) (turn-bounded (ideal_of h) s the-end.reply)

  pub end-laid : AreLaid (ideal_of k)
  end-laid = still-laid h k s d e stands wired served x the-end same

  end-apart : IsApart (ideal_of k)
  end-apart = still-apart h k s d e stands wired served x the-end same

  -- no byte comes if no memory comes
  pub end-known : k.memories ≡ h.memories → (w : Wire) → BringsKnown (ideal_of h).memory (ideal_of k).memory w
  end-known memories w =
      none-known (ideal_of h) (ideal_of k) wired.laid end-laid end-own.same_pages
      (ap (λ (t : Places KeptMemory). map_values memory_of t.map) memories) w

  -- if the step changes no byte
  pub end-follows : k.memories ≡ h.memories → KeepsWhatStays h k → (w : Wire) → w ≡ wire_of h →
      Follows (ideal_of h) (ideal_of k) w (wire_of k)
  end-follows memories keeps w plain =
      subst (λ w. Follows (ideal_of h) (ideal_of k) w (wire_of k)) (sym plain)
      (follows h k wired.laid wired.apart end-laid end-apart keeps end-own.same_pages
      (ap (λ (t : Places KeptMemory). map_values memory_of t.map) memories))

  -- if the step copies bytes
  pub end-copies : k.memories ≡ h.memories → (from to : List ℕ) → KeepsCopied from to h k → (w : Wire) →
      w ≡ put to (map (wire_of h) from) (wire_of h) → Follows (ideal_of h) (ideal_of k) w (wire_of k)
  end-copies memories from to keeps w plain =
      subst (λ w. Follows (ideal_of h) (ideal_of k) w (wire_of k)) (sym plain)
      (follows-copied h k wired.laid wired.apart end-laid end-apart from to keeps end-own.same_pages
      (ap (λ (t : Places KeptMemory). map_values memory_of t.map) memories))

  -- if a memory came or went
  pub end-beside : KeepsBesideMemory h k → (w : Wire) → w ≡ wire_of h →
      Follows (ideal_of h) (ideal_of k) w (wire_of k)
  end-beside keeps w plain =
      subst (λ w. Follows (ideal_of h) (ideal_of k) w (wire_of k)) (sym plain)
      (follows-memory h k wired.laid wired.apart end-laid end-apart keeps)

  pub end-wired : Follows (ideal_of h) (ideal_of k) (wires.wire_lane_step (ideal_of h) s (wire_of h)) (wire_of k) →
      IsWired
      k
  end-wired = still-wired h k s d e stands wired served x the-end same

-- the account allows the call of a turn if the driver agrees with the account
pub turn-may : (h : Holdings) (s : Side) (d : Seen) → Stands (ideal_of h) → IsServed (ideal_of h) d →
    IsAllowedBy d (ideal_of h).id (lane_step (ideal_of h) s)
turn-may h s d stands served =
    by (lane_step (ideal_of h) s) (turn-allowed (ideal_of h) s (account d) stands served.agrees)
  where
    by : (step : Asking Turned) → IsAllowed (ideal_of h).id (account d) step → IsAllowedBy d (ideal_of h).id step
    by (Gives t) may = tt
    by (Asks c k) may = record { served = served.served; sound = served.sound; may = may }
