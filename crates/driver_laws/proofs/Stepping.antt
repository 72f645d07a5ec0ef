-- Turns and calls are steps.
use Rattle.std.proofs.Common.{◌≡◌, Bool, true, false, List, ◌∷◌, if◌then◌else◌, refl, ap, sym, ◌∙◌}
use Rattle.std.proofs.lemmas.Bool.{false≢true}
use Rattle.busdma_machine.specs.declared.bounce.hold.HubReply.{HubReply}
use Rattle.busdma_machine.specs.declared.bounce.hold.HubReply.TheVariants as reply
use Rattle.busdma_machine.specs.declared.machine.address.Pa.{Pa}
use Rattle.busdma_machine.specs.declared.name.MapId.{MapId}
use Rattle.busdma_base.specs.declared.journals.answer.Answer.{Answer}
use Rattle.busdma_base.specs.declared.journals.journal.JournalEntry.{JournalEntry}
use Rattle.busdma_base.specs.declared.journals.journal.Side.TheVariants.{Callback, Transfer}
use Rattle.busdma_base.specs.declared.scenarios.queued.QueuedItem.{QueuedItem}
use Rattle.busdma_base.specs.declared.scenarios.script.Op.{Op}
use Rattle.ideal_lane.specs.Asking.{Asking, Gives, by_reply, goes_on}
use Rattle.ideal_lane.specs.Outcomes.{Outcome}
use Rattle.ideal_lane.specs.Scripts.{with_script}
use Rattle.ideal_lane.specs.Sends.{is_kept, send_of}
use Rattle.ideal_lane.specs.State.{LaneState}
use Rattle.ideal_lane.specs.Turns.{Stepped, Turn, Turned, advanced, at_next, kept, lane_step, left_queue, operation}
use Rattle.ideal_lane.specs.Turns.{transfer, transfer_turn, went_on}
use Rattle.ideal_lane.specs.Turns as turns
use Rattle.ideal_lane.proofs.ScriptedRuns.{by-other}
use Rattle.driver_laws.specs.Steps.{DiffersInWork, IsStep, called_step}
use Rattle.driver_laws.proofs.Differing.{worked}

-- the answer of a turn that is a step
abbrev pub answer_in : Answer → Turn → Answer
answer_in a (Stepped e) = e.answer
answer_in a turns.Blocked = a
answer_in a turns.Ended = a

-- a driver that differs from another in its work, and one that is the same as it
at-work : (x y n : LaneState) → n ≡ y → DiffersInWork x y → DiffersInWork x n
at-work x y n p q = p ∙ (q ∙ ap (λ (z : LaneState). worked z x) (sym p))

pub operation-steps : (o : Op) (script : List Op) (l n : LaneState) (e : JournalEntry) (r : HubReply) →
    by_reply (goes_on (went_on o l.place) (operation o (with_script script l))) r
    ≡ record { lane = n; turn = Stepped e } → is_kept (send_of o) e.answer ≡ false → IsStep (operation o) l n e.answer
operation-steps o script l n e r end free =
    by (is_kept (send_of o) x.answer) refl
    (sym (by-other (went_on o l.place) (operation o (with_script script l)) r) ∙ end)
  where
    x : Outcome
    x = by_reply (operation o (with_script script l)) r

    by : (b : Bool) → is_kept (send_of o) x.answer ≡ b →
        (if b then kept l.place x else advanced l.place x) ≡ record { lane = n; turn = Stepped e } →
        IsStep (operation o) l n e.answer
    by true h g =
        let same : x.answer ≡ e.answer = ap (λ (t : Turned). answer_in e.answer t.turn) g in
        absurd (false≢true (sym free ∙ (ap (is_kept (send_of o)) (sym same) ∙ h)))
    by false h g = record {
      begun = with_script script l;
      same = refl;
      reply = r;
      left = at-work x.lane (at_next l.place x.lane) n (sym (ap (λ (t : Turned). t.lane) g)) refl;
      answer = sym (ap (λ (t : Turned). answer_in e.answer t.turn) g);
    }

pub item-steps : (q : QueuedItem) (rest : List QueuedItem) (l n : LaneState) (e : JournalEntry) (r : HubReply) →
    l.queue ≡ q ∷ rest → by_reply (lane_step l Transfer) r ≡ record { lane = n; turn = Stepped e } →
    IsStep (transfer q.item) l n e.answer
item-steps q rest l n e r there end = record {
  begun = l;
  same = refl;
  reply = r;
  left = at-work x.lane (record x.lane { queue = rest }) n (sym (ap (λ (t : Turned). t.lane) so)) refl;
  answer = sym (ap (λ (t : Turned). answer_in e.answer t.turn) so);
}
  where
    x : Outcome
    x = by_reply (transfer q.item l) r

    so : left_queue q rest x ≡ record { lane = n; turn = Stepped e }
    so = sym (by-other (left_queue q rest) (transfer q.item l) r)
        ∙ (ap (λ qs. by_reply (transfer_turn qs l) r) (sym there) ∙ end)

pub call-steps : (step : LaneState → Asking Outcome) (l n : LaneState) (a : Answer) →
    Gives (record { lane = n; answer = a }) ≡ step l → IsStep step l n a
call-steps step l n a e = record {
  begun = l;
  same = refl;
  reply = reply.Nothing;
  left = ap (λ (x : Asking Outcome). worked n (by_reply x reply.Nothing).lane) e;
  answer = ap (λ (x : Asking Outcome). (by_reply x reply.Nothing).answer) e;
}

pub callback-steps : (m : MapId) (pages : List Pa) (l n : LaneState) (e : JournalEntry) →
    by_reply (lane_step l Callback) (reply.Called m pages) ≡ record { lane = n; turn = Stepped e } →
    IsStep (called_step m pages) l n e.answer
callback-steps m pages l n e end = record {
  begun = l;
  same = refl;
  reply = reply.Nothing;
  left = ap (worked n) (sym (ap (λ (t : Turned). t.lane) end));
  answer = sym (ap (λ (t : Turned). answer_in e.answer t.turn) end);
}
