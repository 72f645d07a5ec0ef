-- The steps of a resend, by what refuses it.
use Rattle.std.proofs.Common.{◌≡◌, ℕ, true, false, Option, Some, None, refl, sym, ap, ◌∙◌, if◌then◌else◌, map, subst}
use Rattle.std.specs.FinMap.{get}
use Rattle.busdma_machine.specs.declared.machine.bio.Bio.TheVariants.{Vector}
use Rattle.busdma_machine.specs.declared.report.Judged.{Judged}
use Rattle.busdma_machine.specs.declared.report.Judged.TheVariants.{Fine, Refused}
use Rattle.busdma_machine.specs.declared.report.Report.{Report}
use Rattle.busdma_machine.specs.declared.report.ReportName.TheVariants.{Absent, MapBusy}
use Rattle.busdma_machine.specs.Bounce.Door.{Seen}
use Rattle.busdma_machine.specs.Machine.Wire.{Wire, put}
use Rattle.busdma_rules.specs.Lending.Access.{cpu_read_answer, cpu_write_answer}
use Rattle.ideal_lane.specs.Asking.{Asking, Gives, Asks, goes_on}
use Rattle.ideal_lane.specs.IdealMemory.{is_known}
use Rattle.ideal_lane.specs.Loads.{load_judged}
use Rattle.ideal_lane.specs.Outcomes.{Outcome, is_idle, refused, unless_absent, unless_refused}
use Rattle.ideal_lane.specs.Sends as sends
use Rattle.ideal_lane.specs.Sends.{Send, chain_bytes, cluster_bytes, copied, load_again, outcome_with}
use Rattle.ideal_lane.specs.State.{LaneMap, LaneState}
use Rattle.ideal_lane.proofs.Unread.{bytes-unread}
use Rattle.ideal_wire.specs.WireStep as wires
use Rattle.ideal_wire.specs.WireStep.{if_fine, is_free}
use Rattle.lane_state.specs.Doing.{IsAllowedBy, IsDone, asks}
use Rattle.lane_state.proofs.Reading as steps
use Rattle.lane_state.proofs.Reading.{passes}
use Rattle.lane_sends.specs.Resends.{IsStopped, IsUnrefused}

-- ---- a step that goes on

module _ {X Y : Type 0} (f : X → Y) (d : Seen) (lane : ℕ) where
  pub done-on : (step : Asking X) (x : X) (e : Seen) → IsDone d lane step x e →
      IsDone d lane (goes_on f step) (f x) e
  done-on (Gives y) x e h = (ap f h.0, h.1)
  done-on (Asks c k) x e h = record { reply = h.reply; holds = h.holds; is = ap f h.is }

  pub allowed-on : (step : Asking X) → IsAllowedBy d lane (goes_on f step) → IsAllowedBy d lane step
  allowed-on (Gives y) h = tt
  allowed-on (Asks c k) h = h

pub asks-on : {X Y : Type 0} (f : X → Y) (step : Asking X) → asks (goes_on f step) ≡ asks step
asks-on f (Gives y) = refl
asks-on f (Asks c k) = refl

-- ---- a resend

module _ (l : LaneState) (s : Send) where
  abbrev judged_read : Judged
  judged_read = cpu_read_answer (is_known l.memory) l.loans (chain_bytes s l)

  abbrev judged_write : Judged
  judged_write = cpu_write_answer l.loans (cluster_bytes s l)

  abbrev writes : Asking Outcome
  writes = unless_refused judged_write l (load_again s (copied s l))

  abbrev reads : Asking Outcome
  reads = unless_refused judged_read l writes

  abbrev loads : Asking Outcome
  loads = unless_refused (load_judged l s.map (Vector s.clusters)) l reads

  abbrev with-map : Option LaneMap → Asking Outcome
  with-map q = unless_absent q l (λ o. if is_idle o.stage then loads else refused MapBusy 0 l)

  module _ (w : Wire) where
    abbrev wire-writes : Wire
    wire-writes = if_fine judged_write (wires.wire_copied s l w) w

    abbrev wire-reads : Wire
    wire-reads = if_fine judged_read wire-writes w

    abbrev wire-loads : Wire
    wire-loads = if_fine (load_judged l s.map (Vector s.clusters)) wire-reads w

  pub stopped-absent : get l.maps s.map ≡ None → IsStopped l s (record { name = Absent; at = 0 })
  stopped-absent none = record {
    step = ap with-map none;
    wire = λ w. ap (λ q. if is_free q then wire-loads w else w) none;
  }

  pub stopped-busy : (o : LaneMap) → get l.maps s.map ≡ Some o → is_idle o.stage ≡ false →
      IsStopped l s (record { name = MapBusy; at = 0 })
  stopped-busy o there busy = record {
    step = ap with-map there ∙ ap (λ b. if b then loads else refused MapBusy 0 l) busy;
    wire = λ w. ap (λ q. if is_free q then wire-loads w else w) there ∙ ap (λ b. if b then wire-loads w else w) busy;
  }

  free-step : (q : Option LaneMap) → is_free q ≡ true → with-map q ≡ loads
  free-step None h = absurd (cc)
  free-step (Some o) h = ap (λ b. if b then loads else refused MapBusy 0 l) h

  free-wire : (q : Option LaneMap) → is_free q ≡ true → (w : Wire) → (if is_free q then wire-loads w else w)
      ≡ wire-loads w
  free-wire q h w = ap (λ b. if b then wire-loads w else w) h

  module _ (free : is_free (get l.maps s.map) ≡ true) where
    pub stopped-load : (r : Report) → load_judged l s.map (Vector s.clusters) ≡ Refused r → IsStopped l s r
    stopped-load r is = record {
      step = free-step (get l.maps s.map) free ∙ steps.refused _ r l reads is;
      wire = λ w. free-wire (get l.maps s.map) free w ∙ ap (λ j. if_fine j (wire-reads w) w) is;
    }

    module _ (fine : load_judged l s.map (Vector s.clusters) ≡ Fine) where
      to-read : sends.resend s l ≡ reads
      to-read = free-step (get l.maps s.map) free ∙ passes _ l reads fine

      wire-to-read : (w : Wire) → wires.wire_resend s l w ≡ wire-reads w
      wire-to-read w =
          free-wire (get l.maps s.map) free w ∙ ap (λ j. if_fine j (wire-reads w) w) fine

      pub stopped-read : (r : Report) → judged_read ≡ Refused r → IsStopped l s r
      stopped-read r is = record {
        step = to-read ∙ steps.refused _ r l writes is;
        wire = λ w. wire-to-read w ∙ ap (λ j. if_fine j (wire-writes w) w) is;
      }

      module _ (read : judged_read ≡ Fine) where
        to-write : sends.resend s l ≡ writes
        to-write = to-read ∙ passes _ l writes read

        wire-to-write : (w : Wire) → wires.wire_resend s l w ≡ wire-writes w
        wire-to-write w = wire-to-read w ∙ ap (λ j. if_fine j (wire-writes w) w) read

        pub stopped-write : (r : Report) → judged_write ≡ Refused r → IsStopped l s r
        stopped-write r is = record {
          step = to-write ∙ steps.refused _ r l (load_again s (copied s l)) is;
          wire = λ w. wire-to-write w ∙ ap (λ j. if_fine j (wires.wire_copied s l w) w) is;
        }

  -- a resend that is not refused is the load of the clusters with the bytes of the chain in them
  module _ (u : IsUnrefused l s) where
    pub resend-is : sends.resend s l ≡ goes_on (outcome_with (copied s l).memory) (load_again s l)
    resend-is =
        to-write u.free u.loads u.reads ∙ passes _ l (load_again s (copied s l)) u.writes
        ∙ bytes-unread s.map (Vector s.clusters) true s.items (copied s l).memory l

    pub wire-is : (w : Wire) → wires.wire_resend s l w ≡ put (cluster_bytes s l) (map w (chain_bytes s l)) w
    wire-is w =
        wire-to-write u.free u.loads u.reads w ∙ ap (λ j. if_fine j (wires.wire_copied s l w) w) u.writes

    pub resend-done : (d : Seen) (x y : Outcome) (e : Seen) → IsDone d l.id (load_again s l) y e →
        x ≡ outcome_with (copied s l).memory y → IsDone d l.id (sends.resend s l) x e
    resend-done d x y e done is =
        subst (λ z. IsDone d l.id (sends.resend s l) z e) (sym is)
        (subst (λ step. IsDone d l.id step (outcome_with (copied s l).memory y) e) (sym resend-is)
        (done-on (outcome_with (copied s l).memory) d l.id (load_again s l) y e done))

    pub resend-allowed : (d : Seen) → IsAllowedBy d l.id (sends.resend s l) → IsAllowedBy d l.id (load_again s l)
    resend-allowed d may =
        allowed-on (outcome_with (copied s l).memory) d l.id (load_again s l)
        (subst (IsAllowedBy d l.id) resend-is may)

    pub resend-asks : asks (load_again s l) ≡ asks (sends.resend s l)
    resend-asks = sym (ap asks resend-is ∙ asks-on (outcome_with (copied s l).memory) (load_again s l))
