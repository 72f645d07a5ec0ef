-- Calls that returned are steps of their driver.
use Rattle.std.proofs.Common.{◌≡◌, ℕ, ◌==◌, Bool, true, false, List, [], Option, Some, None, Result, Ok, Err}
use Rattle.std.proofs.Common.{refl, sym, ap, ◌∙◌, subst, inl, inr, if◌then◌else◌}
use Rattle.std.proofs.lemmas.Bool.{false≢true}
use Rattle.busdma_base.specs.declared.journals.answer.Answer.{Answer}
use Rattle.busdma_base.specs.declared.journals.answer.Answer.TheVariants as answer
use Rattle.busdma_base.specs.declared.scenarios.buffer.Buffer.{Buffer}
use Rattle.busdma_base.specs.declared.scenarios.script.Bytes.{Bytes}
use Rattle.busdma_base.specs.declared.scenarios.script.Op.{Op}
use Rattle.busdma_base.specs.declared.scenarios.script.Op.TheVariants as op
use Rattle.busdma_base.specs.declared.scenarios.script.Place.{Place}
use Rattle.busdma_base.specs.Scenarios.Operations.{bytes_of}
use Rattle.busdma_machine.specs.Bounce.Door.{Seen}
use Rattle.busdma_machine.specs.declared.bounce.hold.HubReply.{HubReply}
use Rattle.busdma_machine.specs.declared.machine.address.Segment.{Segment}
use Rattle.busdma_machine.specs.declared.name.MapId.{MapId}
use Rattle.busdma_machine.specs.declared.report.Errno.{Errno}
use Rattle.busdma_machine.specs.declared.report.ReportName.TheVariants.{Absent}
use Rattle.bus_dma.specs.declared.driver.DmaDriver.{DmaDriver}
use Rattle.bus_dma.specs.declared.failure.DmaError.{DmaError}
use Rattle.bus_dma.specs.declared.failure.DmaError.TheVariants as error
use Rattle.bus_dma.specs.declared.failure.DmaError.TheVariants.{OutOfMemory}
use Rattle.bus_dma.specs.declared.loads.Load.{Load}
use Rattle.bus_dma.specs.declared.loads.Load.TheVariants as load
use Rattle.bus_dma.specs.Access.{IsAccess, IsAccessed}
use Rattle.bus_dma.specs.Answers.{IsLoadResult, IsReadResult, IsResult, refused_with, unless}
use Rattle.bus_dma.specs.Calls.{IsCall, IsCallAndReturn, IsPerformed, IsPerformedAndReturned, next_step, past}
use Rattle.bus_dma.specs.Returns.{IsReturned, may_return}
use Rattle.bus_dma.specs.State.{is_own_name, is_small, load_hindrance, state}
use Rattle.bus_dma.specs.Unloaded.{IsUnloaded}
use Rattle.bus_dma.proofs.AnswerLaws.{IsDoneAnswer, answer-by, done-answer, range-answers, sync-answers, write-answers}
use Rattle.bus_dma.proofs.AnswerLaws.{dev_write-answers, unload-answers}
use Rattle.bus_dma.proofs.NextLaws.{segments-keep}
use Rattle.bus_dma.proofs.ReturnLaws.{returned-keeps}
use Rattle.bus_dma.proofs.TurnLaws.{done-reply, reply-goes}
use Rattle.driver_laws.specs.Steps.{DiffersInWork, IsStep}
use Rattle.driver_laws.proofs.Stepping.{call-steps}
use Rattle.ideal_lane.specs.Accesses.{cpu_read, cpu_write, dev_read, dev_write}
use Rattle.ideal_lane.specs.Asking.{Asking, Gives, by_reply}
use Rattle.ideal_lane.specs.Outcomes.{Outcome, refused}
use Rattle.ideal_lane.specs.State.{LaneState}
use Rattle.ideal_lane.specs.Syncs.{sync, sync_range}
use Rattle.ideal_lane.specs.Turns.{load_buffer, operation}
use Rattle.ideal_lane.proofs.Stepping.{Answers-by}
use Rattle.lane_core.specs.Appending.{is_ready, with_next}
use Rattle.lane_core.specs.Calls.{lane_dev_read, lane_dev_write}
use Rattle.lane_core.proofs.AppendingLaws.{ready-for}
use Rattle.lane_state.specs.Doing.{IsDone}

-- ---- a call that returned a value was made

module _ {R : Type 0} (As : Result R DmaError → Answer → Type 0) (o : Op) (d : Seen) (l : LaneState) (x : R)
    (n : LaneState) (e : Seen) where
  pub call-made : (h : Option DmaError) → IsCall h As o d l (Ok x) n e → IsPerformed As o d l (Ok x) n e
  call-made (Some y) k = let off : Ok x ≡ Err y = k.result in absurd (cc)
  call-made None (inl made) = made
  call-made None (inr ran) = let off : Ok x ≡ Err OutOfMemory = ran.result in absurd (cc)

  pub return-made : (h : Option DmaError) → IsCallAndReturn h As o d l (Ok x) n e →
      IsPerformedAndReturned As o d l (Ok x) n e
  return-made (Some y) k = let off : Ok x ≡ Err y = k.result in absurd (cc)
  return-made None (inl made) = made
  return-made None (inr ran) = let off : Ok x ≡ Err OutOfMemory = ran.result in absurd (cc)

  pub call-ready : (h : Option DmaError) → may_return o ≡ false → IsCall h As o d l (Ok x) n e → is_ready n ≡ true
  call-ready h off k = (call-made h k).ready off

  pub return-ready : (h : Option DmaError) → IsCallAndReturn h As o d l (Ok x) n e → is_ready n ≡ true
  return-ready h k = (return-made h k).ready

-- ---- an operation that was done is a step

module _ (o : Op) (d : Seen) (l n : LaneState) (e : Seen) (a : Answer) where
  -- an operation that was done, by a reply
  pub record IsDoneBy : Type 0 where
    pub reply : HubReply
    pub lane : n ≡ (past l.place (by_reply (operation o (with_next o l)) reply)).lane
    pub answer : a ≡ (by_reply (operation o (with_next o l)) reply).answer

  pub done-by : IsDone d l.id (next_step o l) (record { lane = n; answer = a }) e → IsDoneBy
  done-by done =
      let by = done-reply d l.id (record { lane = n; answer = a }) (next_step o l) e done in
      let is = by.1 ∙ reply-goes (past l.place) (operation o (with_next o l)) by.0 in
      record {
        reply = by.0;
        lane = ap (λ (x : Outcome). x.lane) is;
        answer = ap (λ (x : Outcome). x.answer) is;
      }

  pub performed-step : IsDone d l.id (next_step o l) (record { lane = n; answer = a }) e → IsStep (operation o) l n a
  performed-step done =
      let by = done-by done in
      let y : Outcome = by_reply (operation o (with_next o l)) by.reply in
      record {
        begun = with_next o l;
        same = refl;
        reply = by.reply;
        left = subst (λ m. DiffersInWork y.lane m) (sym by.lane) refl;
        answer = by.answer;
      }

-- ---- what was done

-- a result that is no refusal has an answer that is none
unrefused : (x : Option DmaError) → Ok (tt {0}) ≡ unless x (tt {0}) → x ≡ None
unrefused None e = refl
unrefused (Some y) e = absurd (cc)

-- an operation that answers Done or a report, and was not refused, is a step that is done
pub done-step : (h : Option DmaError) (o : Op) (d : Seen) (l n : LaneState) (e : Seen) →
    Answers-by (with_next o l) IsDoneAnswer (operation o (with_next o l)) →
    IsCall h (IsResult (tt {0})) o d l (Ok (tt {0})) n e → IsStep (operation o) l n answer.Done
done-step h o d l n e all call =
    let made = call-made (IsResult (tt {0})) o d l (tt {0}) n e h call in
    let by = done-by o d l n e made.answer made.done in
    let can : IsDoneAnswer made.answer =
    subst IsDoneAnswer (sym by.answer) (answer-by (with_next o l) IsDoneAnswer _ all by.reply) in
    let is = done-answer made.answer can (unrefused (refused_with made.answer) made.result) in
    subst (IsStep (operation o) l n) is (performed-step o d l n e made.answer made.done)

pub write-step : (h : Option DmaError) (place : Place) (bytes : Bytes) (d e : Seen) (l n : LaneState) →
    IsCall h (IsResult (tt {0})) (op.CpuWrite place bytes) d l (Ok (tt {0})) n e →
    IsStep (cpu_write place (bytes_of bytes)) l n answer.Done
write-step h place bytes d e l n call =
    let o = op.CpuWrite place bytes in
    done-step h o d l n e (write-answers (with_next o l) place (bytes_of bytes)) call

pub sync-step : (h : Option DmaError) (m ops : ℕ) (d e : Seen) (l n : LaneState) →
    IsCall h (IsResult (tt {0})) (op.Sync m ops) d l (Ok (tt {0})) n e → IsStep (sync m ops) l n answer.Done
sync-step h m ops d e l n call =
    let o = op.Sync m ops in done-step h o d l n e (sync-answers (with_next o l) m ops) call

pub range-step : (h : Option DmaError) (m off len ops : ℕ) (d e : Seen) (l n : LaneState) →
    IsCall h (IsResult (tt {0})) (op.SyncRange m off len ops) d l (Ok (tt {0})) n e →
    IsStep (sync_range m off len ops) l n answer.Done
range-step h m off len ops d e l n call =
    let o = op.SyncRange m off len ops in done-step h o d l n e (range-answers (with_next o l) m off len ops) call

pub read-step : (h : Option DmaError) (place : Place) (len : ℕ) (d e : Seen) (l n : LaneState) (vs : List ℕ) →
    IsCall h IsReadResult (op.CpuRead place len) d l (Ok vs) n e → IsStep (cpu_read place len) l n (answer.Bytes vs)
read-step h place len d e l n vs call =
    let o = op.CpuRead place len in
    let made = call-made IsReadResult o d l vs n e h call in
    subst (IsStep (operation o) l n) made.result (performed-step o d l n e made.answer made.done)

pub load-step : (h : Option DmaError) (m flags : ℕ) (x : Buffer) (d e : Seen) (l n : LaneState)
    (segments : List Segment) → is_ready l ≡ true →
    IsCallAndReturn h IsLoadResult (op.Load m x flags []) d l (Ok (load.Segments segments)) n e →
    IsStep (load_buffer m x flags []) l n (answer.Segments segments)
load-step h m flags x d e l n segments ready call =
    let o : Op = op.Load m x flags [] in
    let all = return-made IsLoadResult o d l (load.Segments segments) n e h call in
    let made = all.made in
    let by = done-by o d l all.between all.seen made.answer made.done in
    let keeps = segments-keep (with_next o l) o by.reply segments (sym by.answer ∙ made.result) in
    let none : all.between.returns ≡ [] =
    ap (λ (l : LaneState). l.returns) by.lane ∙ (keeps ∙ (ready-for l ready).none) in
    let back = subst (λ rs. IsReturned rs all.seen all.between n e) none all.returned in
    subst (λ m. IsStep (operation o) l m (answer.Segments segments)) (sym back.0)
    (subst (IsStep (operation o) l all.between) made.result
    (performed-step o d l all.between all.seen made.answer made.done))

-- ---- a load that was made, or for which memory ran out, was called on a ready driver

-- errors that keep a load from being made
abbrev keeps_load : DmaError → Bool
keeps_load (error.Report report) = true
keeps_load error.NotReady = true
keeps_load error.TooLarge = true
keeps_load _ = false

module _ {R : Type 0} (As : Result R DmaError → Answer → Type 0) (o : Op) (m : MapId) (bytes : ℕ) (driver : DmaDriver)
    (d e : Seen) (n : LaneState) where
  begun-ready : (r : Result R DmaError) → ((x : DmaError) → keeps_load x ≡ true → r ≡ Err x → ⊥) →
      IsCallAndReturn (load_hindrance (Some m) bytes driver) As o d (state driver) r n e →
      is_ready (state driver) ≡ true
  begun-ready r not-kept =
      by (is_small bytes driver) (is_own_name (state driver) (Some m)) (is_ready (state driver))
    where
      by : (small own ready : Bool) → IsCallAndReturn
          (if small then (if own then (if ready then None else Some error.NotReady)
          else Some (error.Report (record { name = Absent; at = 0 }))) else Some error.TooLarge) As o d (state driver)
          r n e → ready ≡ true
      by small own true k = refl
      by true true false k = absurd (not-kept error.NotReady refl k.result)
      by true false false k = absurd (not-kept (error.Report (record { name = Absent; at = 0 })) refl k.result)
      by false own false k = absurd (not-kept error.TooLarge refl k.result)

  pub done-began : (x : R) → IsCallAndReturn (load_hindrance (Some m) bytes driver) As o d (state driver) (Ok x) n e →
      is_ready (state driver) ≡ true
  done-began x = begun-ready (Ok x) none
    where
      none : (y : DmaError) → keeps_load y ≡ true → Ok x ≡ Err y → ⊥
      none y keeps is = absurd (cc)

  pub failed-began : (x : DmaError) → keeps_load x ≡ false →
      IsCallAndReturn (load_hindrance (Some m) bytes driver) As o d (state driver) (Err x) n e →
      is_ready (state driver) ≡ true
  failed-began x off = begun-ready (Err x) none
    where
      failed : DmaError → Result R DmaError
      failed z = Err z

      none : (y : DmaError) → keeps_load y ≡ true → failed x ≡ failed y → ⊥
      none y keeps is =
          let same : x ≡ y = cc in
          false≢true (sym off ∙ ap keeps_load same ∙ keeps)

-- ---- an unload that was done is a step, and then pages may go back

pub unload-is : (h : Option DmaError) (m : ℕ) (d e : Seen) (l n : LaneState) →
    IsCallAndReturn h (IsResult (tt {0})) (op.Unload m) d l (Ok (tt {0})) n e → IsUnloaded m l n
unload-is h m d e l n call =
    let o : Op = op.Unload m in
    let all = return-made (IsResult (tt {0})) o d l (tt {0}) n e h call in
    let made = all.made in
    let by = done-by o d l all.between all.seen made.answer made.done in
    let can : IsDoneAnswer made.answer =
    subst IsDoneAnswer (sym by.answer)
    (answer-by (with_next o l) IsDoneAnswer _ (unload-answers (with_next o l) m) by.reply) in
    let is = done-answer made.answer can (unrefused (refused_with made.answer) made.result) in
    record {
      between = all.between;
      step = subst (IsStep (operation o) l all.between) is
          (performed-step o d l all.between all.seen made.answer made.done);
      kept = returned-keeps all.between.returns all.seen all.between n e all.returned;
    }

-- ---- accesses of the device

module _ {R : Type 0} (As : Result R DmaError → Answer → Type 0) (access : Asking Outcome) (l : LaneState) (x : R)
    (n : LaneState) where
  access-made : IsAccess As access l (Ok x) n → IsAccessed As access (Ok x) n
  access-made (inl made) = made
  access-made (inr ran) = let off : Ok x ≡ Err OutOfMemory = ran.0 in absurd (cc)

-- an access that is not refused is of a map of this driver
own-step : (own : Bool) (step : LaneState → Asking Outcome) (name : Asking Outcome) (l n : LaneState) (a : Answer) →
    (Gives (record { lane = n; answer = a }) ≡ name → refused_with a ≡ None → ⊥) →
    Gives (record { lane = n; answer = a }) ≡ (if own then step l else name) → refused_with a ≡ None →
    IsStep step l n a
own-step true step name l n a foreign is good = call-steps step l n a is
own-step false step name l n a foreign is good = absurd (foreign is good)

-- what is absent is refused
absent-refused : (l n : LaneState) (a : Answer) →
    Gives (record { lane = n; answer = a })
    ≡ refused Rattle.busdma_machine.specs.declared.report.ReportName.TheVariants.Absent 0 l → refused_with a ≡ None → ⊥
absent-refused l n a is good =
    let same : a ≡ answer.Report (record {
      name = Rattle.busdma_machine.specs.declared.report.ReportName.TheVariants.Absent;
      at = 0;
    }) = ap (λ (s : Asking Outcome). (by_reply s Rattle.busdma_machine.specs.declared.bounce.hold.HubReply.TheVariants.Nothing).answer) is in
    let off = ap refused_with (sym same) ∙ good in absurd (cc)

pub dev_read-step : (m : MapId) (off len : ℕ) (l n : LaneState) (vs : List ℕ) →
    IsAccess IsReadResult (lane_dev_read m off len l) l (Ok vs) n →
    IsStep (dev_read m.made_at off len) l n (answer.Bytes vs)
dev_read-step m off len l n vs access =
    let made = access-made IsReadResult (lane_dev_read m off len l) l vs n access in
    let good : refused_with made.answer ≡ None = ap refused_with made.result in
    subst (IsStep (dev_read m.made_at off len) l n) made.result
    (own-step (m.lane.0 == l.id) (dev_read m.made_at off len) _ l n made.answer (absent-refused l n made.answer)
    made.done good)

pub dev_write-step : (m : MapId) (off : ℕ) (vs : List ℕ) (l n : LaneState) →
    IsAccess (IsResult (tt {0})) (lane_dev_write m off vs l) l (Ok (tt {0})) n →
    IsStep (dev_write m.made_at off vs) l n answer.Done
dev_write-step m off vs l n access =
    let made = access-made (IsResult (tt {0})) (lane_dev_write m off vs l) l (tt {0}) n access in
    let good = unrefused (refused_with made.answer) made.result in
    let step = own-step (m.lane.0 == l.id) (dev_write m.made_at off vs) _ l n made.answer
    (absent-refused l n made.answer) made.done good in
    let can : IsDoneAnswer made.answer =
    subst IsDoneAnswer (sym step.answer)
    (answer-by step.begun IsDoneAnswer _ (dev_write-answers step.begun m.made_at off vs) step.reply) in
    subst (IsStep (dev_write m.made_at off vs) l n) (done-answer made.answer can good) step
