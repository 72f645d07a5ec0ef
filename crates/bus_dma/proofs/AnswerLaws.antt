-- Which answers a read and a load have.
use Rattle.std.proofs.Common.{◌≡◌, ℕ, ◌==◌, true, List, length, refl, sym, subst, Some, None}
use Rattle.std.specs.FinMap.{get}
use Rattle.busdma_base.specs.declared.journals.answer.Answer.{Answer}
use Rattle.busdma_base.specs.declared.journals.answer.Answer.TheVariants as answer
use Rattle.busdma_base.specs.declared.scenarios.buffer.Buffer.{Buffer}
use Rattle.busdma_base.specs.declared.scenarios.script.Item.{Item}
use Rattle.busdma_base.specs.declared.scenarios.script.Op.TheVariants as op
use Rattle.busdma_base.specs.declared.scenarios.script.Place.{Place}
use Rattle.busdma_machine.specs.declared.machine.bio.Bio.{Bio}
use Rattle.busdma_machine.specs.declared.name.MapId.{MapId}
use Rattle.busdma_machine.specs.declared.report.Judged.TheVariants.{Fine}
use Rattle.busdma_machine.specs.declared.bounce.hold.HubReply.{HubReply}
use Rattle.busdma_machine.specs.Runs.{run_of}
use Rattle.busdma_rules.specs.Lending.Access.{cpu_read_answer, cpu_write_answer, dev_read_answer, dev_write_answer}
use Rattle.busdma_rules.specs.Lending.Loans.{loan_of}
use Rattle.busdma_rules.specs.Lending.SyncEffects.{sync_answer}
use Rattle.busdma_rules.specs.Tags.SyncOps.{is_mixed}
use Rattle.ideal_lane.specs.Accesses.{cpu_read, cpu_write, dev_write}
use Rattle.ideal_lane.specs.Asking.{Asking, Gives, Asks, by_reply}
use Rattle.ideal_lane.specs.IdealMemory.{is_known}
use Rattle.ideal_lane.specs.Loads.{asked, load, load_judged}
use Rattle.ideal_lane.specs.Outcomes.{Outcome, is_idle, load_length}
use Rattle.ideal_lane.specs.Places.{bytes_at, first_unreached, virtual_at}
use Rattle.ideal_lane.specs.State.{LaneState, LaneMap}
use Rattle.ideal_lane.specs.Syncs.{sync, sync_part, sync_range}
use Rattle.ideal_lane.specs.Turns.{bio_at, load_buffer, never_waits}
use Rattle.ideal_lane.specs.Unloads.{unload}
use Rattle.ideal_lane.proofs.Effects.{Begins, Operation}
use Rattle.ideal_lane.proofs.Refusing.{absent, busy, either, judged, past, unloaded}
use Rattle.ideal_lane.proofs.Stepping.{Answers-by, begun-answers}
use Rattle.busdma_machine.specs.Bounce.Door.{Seen}
use Rattle.lane_core.specs.Calls.{lane_dev_read, lane_dev_write}
use Rattle.lane_state.specs.Served.{IsServed}
use Rattle.bus_dma.specs.Answers.{IsLoadAnswer, IsReadAnswer, refused_with}

module _ (l : LaneState) where
  abbrev Reads : Asking Outcome → Type 0
  Reads = Answers-by l IsReadAnswer

  pub read-answers : (place : Place) (len : ℕ) → Reads (cpu_read place len l)
  read-answers place len =
      absent l Reads (λ x. tt) (virtual_at l place) _ (λ va e.
      judged l Reads (λ x. tt) (first_unreached l va len) _ (λ reaches.
      judged l Reads (λ x. tt) (cpu_read_answer (is_known l.memory) l.loans (bytes_at l (run_of va len))) _
      (λ fine. tt)))

  pub dev_read-answers : (m : MapId) (off len : ℕ) → Reads (lane_dev_read m off len l)
  dev_read-answers m off len =
      either l Reads (λ x. tt) (m.lane.0 == l.id) _ _ (λ own.
      unloaded l Reads (λ x. tt) m.made_at _ (λ o there i.
      past l Reads (λ x. tt) m.made_at off len _
      (judged l Reads (λ x. tt) (dev_read_answer (is_known l.memory) (loan_of l.loans m.made_at) off len) _
      (λ fine. tt)))) (λ other. tt)

  abbrev LoadsBy : Asking Outcome → Type 0
  LoadsBy = Answers-by l IsLoadAnswer

  pub load-answers : (m : ℕ) (x : Buffer) (flags : ℕ) (items : List Item) → LoadsBy (load_buffer m x flags items l)
  load-answers m x flags items =
      absent l LoadsBy (λ r. tt) (bio_at l x) (λ y. load m (asked m y (never_waits x flags) items l) l) by
    where
      begins : (y : Bio) → bio_at l x ≡ Some y → (o : LaneMap) → get l.maps m ≡ Some o → is_idle o.stage ≡ true →
          load_judged l m y ≡ Fine → Begins l (Operation (op.Load m x flags items))
      begins y found o there i fine = record {
        m = m;
        buffer = x;
        flags = flags;
        items = items;
        is = refl;
        bio = y;
        found = found;
        o = o;
        there = there;
        idle = i;
        fine = fine;
      }

      by : (y : Bio) → bio_at l x ≡ Some y → LoadsBy (load m (asked m y (never_waits x flags) items l) l)
      by y found =
          busy l LoadsBy (λ r. tt) m _ (λ o there i.
          judged l LoadsBy (λ r. tt) (load_judged l m y) _ (λ fine.
          begun-answers l (begins y found o there i fine) IsLoadAnswer (λ ss. tt) (λ have need. tt) tt tt (λ long. tt)))

-- ---- operations that are done, or reported

abbrev pub IsDoneAnswer : Answer → Type 0
IsDoneAnswer answer.Done = Unit {0}
IsDoneAnswer (answer.Report report) = Unit {0}
IsDoneAnswer _ = ⊥

-- one that is not refused is done
pub done-answer : (a : Answer) → IsDoneAnswer a → refused_with a ≡ None → a ≡ answer.Done
done-answer answer.Done can good = refl
done-answer (answer.Report report) can good = absurd (cc)
done-answer (answer.Grown g) can good = absurd can
done-answer (answer.Placed pa) can good = absurd can
done-answer (answer.Segments segments) can good = absurd can
done-answer (answer.InProgress have need) can good = absurd can
done-answer (answer.Served n) can good = absurd can
done-answer (answer.Bytes bytes) can good = absurd can
done-answer answer.Idle can good = absurd can
done-answer (answer.Refused errno) can good = absurd can

module _ (l : LaneState) where
  abbrev Does : Asking Outcome → Type 0
  Does = Answers-by l IsDoneAnswer

  pub write-answers : (place : Place) (vs : List ℕ) → Does (cpu_write place vs l)
  write-answers place vs =
      absent l Does (λ x. tt) (virtual_at l place) _ (λ va e.
      judged l Does (λ x. tt) (first_unreached l va (length vs)) _ (λ reaches.
      judged l Does (λ x. tt) (cpu_write_answer l.loans (bytes_at l (run_of va (length vs)))) _ (λ fine. tt)))

  pub dev_write-answers : (m off : ℕ) (vs : List ℕ) → Does (dev_write m off vs l)
  dev_write-answers m off vs =
      unloaded l Does (λ x. tt) m _ (λ o there i.
      past l Does (λ x. tt) m off (length vs) _
      (judged l Does (λ x. tt) (dev_write_answer (loan_of l.loans m) off (length vs)) _ (λ fine. tt)))

  part-answers : (m : ℕ) (o : LaneMap) (off len ops : ℕ) → Does (sync_part m o off len ops l)
  part-answers m o off len ops =
      either l Does (λ x. tt) (is_mixed ops) _ _ (λ mixed. tt) (λ one.
      judged l Does (λ x. tt) (sync_answer l.loans m off len ops) _ (λ fine. tt))

  pub sync-answers : (m ops : ℕ) → Does (sync m ops l)
  sync-answers m ops = unloaded l Does (λ x. tt) m _ (λ o there i. part-answers m o 0 (load_length l m) ops)

  pub range-answers : (m off len ops : ℕ) → Does (sync_range m off len ops l)
  range-answers m off len ops =
      unloaded l Does (λ x. tt) m _ (λ o there i.
      past l Does (λ x. tt) m off len _ (part-answers m o off len ops))

  pub unload-answers : (m : ℕ) → Does (unload m l)
  unload-answers m = unloaded l Does (λ x. tt) m _ (λ o there i. tt)

-- the answer by a reply
pub answer-by : (l : LaneState) (Q : Answer → Type 0)
    (s : Asking Outcome) → Answers-by l Q s → (r : HubReply) → Q (by_reply s r).answer
answer-by l Q (Gives y) h r = h
answer-by l Q (Asks c k) h r = h r

-- ---- a door serves a driver after a write of its device

module _ (l : LaneState) (d : Seen) where
  abbrev ServesBy : Asking Outcome → Type 0
  ServesBy (Gives x) = IsServed l d → IsServed x.lane d
  ServesBy (Asks c k) = Unit {0}

  written-serves : (m : MapId) (off : ℕ) (vs : List ℕ) → ServesBy (lane_dev_write m off vs l)
  written-serves m off vs =
      either l ServesBy (λ r h. h) (m.lane.0 == l.id) _ _ (λ own.
      unloaded l ServesBy (λ r h. h) m.made_at _ (λ o there i.
      past l ServesBy (λ r h. h) m.made_at off (length vs) _
      (judged l ServesBy (λ r h. h) (dev_write_answer (loan_of l.loans m.made_at) off (length vs)) _ (λ fine h.
      record { served = h.served; opening = h.opening; below = h.below; sound = h.sound; agrees = h.agrees }))))
      (λ other h. h)

  pub dev_write-serves : (m : MapId) (off : ℕ) (vs : List ℕ) (x : Outcome) → Gives x ≡ lane_dev_write m off vs l →
      IsServed l d → IsServed x.lane d
  dev_write-serves m off vs x is = subst ServesBy (sym is) (written-serves m off vs)
