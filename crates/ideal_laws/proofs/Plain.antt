-- Steps that make no call, and whose only errno is EINVAL.
use Rattle.std.proofs.Common.{◌≡◌, ℕ, ◌==◌, not, Bool, true, false, if◌then◌else◌, List}
use Rattle.std.proofs.Common.{length, Option, Some, None, slice_get, refl}
use Rattle.std.specs.FinMap.{get}
use Rattle.busdma_machine.specs.declared.report.Errno.{Errno}
use Rattle.busdma_machine.specs.declared.report.Errno.TheVariants as errno
use Rattle.busdma_machine.specs.declared.report.Report.{Report}
use Rattle.busdma_machine.specs.declared.report.ReportName.TheVariants.{DeviceReadUnlent, DeviceWriteUnlent, MixedSync}
use Rattle.busdma_machine.specs.Judging.{judged as judged_by}
use Rattle.busdma_machine.specs.Runs.{run_of}
use Rattle.busdma_base.specs.declared.journals.answer.Answer.{Answer}
use Rattle.busdma_base.specs.declared.journals.answer.Answer.TheVariants as answer
use Rattle.busdma_base.specs.declared.scenarios.script.Item.{Item}
use Rattle.busdma_base.specs.declared.scenarios.script.Item.TheVariants as item
use Rattle.busdma_base.specs.declared.scenarios.script.Place.{Place}
use Rattle.busdma_base.specs.Scenarios.Operations.{bytes_of}
use Rattle.busdma_rules.specs.declared.descriptor.Descriptor.{Descriptor}
use Rattle.busdma_rules.specs.Lending.Access.{cpu_read_answer, cpu_write_answer, dev_read_answer, dev_write_answer}
use Rattle.busdma_rules.specs.Lending.Access.{dev_read_refusal, dev_write_refusal}
use Rattle.busdma_rules.specs.Lending.Loans.{load_bytes, loan_of}
use Rattle.busdma_rules.specs.Lending.SyncEffects.{sync_answer}
use Rattle.busdma_rules.specs.Rings.Descriptors.{descriptor_bytes}
use Rattle.busdma_rules.specs.Tags.SyncOps.{is_mixed}
use Rattle.ideal_lane.specs.Accesses.{cpu_read, cpu_write, dev_read, dev_read_at, dev_write, dev_write_at, raw_refusal}
use Rattle.ideal_lane.specs.Accesses.{values}
use Rattle.ideal_lane.specs.Asking.{Asking, Gives, Asks}
use Rattle.ideal_lane.specs.IdealMemory.{is_known}
use Rattle.ideal_lane.specs.Outcomes.{Outcome, gives, load_length, refused, unless_past}
use Rattle.ideal_lane.specs.Places.{bytes_at, first_unreached, virtual_at}
use Rattle.ideal_lane.specs.Rings.{Candidate, allowed, at_first, candidates, fetch, fetched, head_at, head_of, is_work}
use Rattle.ideal_lane.specs.Rings.{may_post, posted, ring_post, ring_step, slot_place, told}
use Rattle.ideal_lane.specs.State.{LaneState, LaneMap}
use Rattle.ideal_lane.specs.Syncs.{sync, sync_part, sync_range}
use Rattle.ideal_lane.specs.Turns.{transfer}
use Rattle.ideal_lane.specs.Unloads.{segments_in}
use Rattle.ideal_lane.proofs.Refusing.{absent, either, judged, past, unloaded}

module _ (l : LaneState) where
  abbrev pub PlainErrno : Errno → LaneState → Type 0
  PlainErrno errno.EINVAL after = after ≡ l
  PlainErrno _ after = ⊥

  abbrev pub PlainBy : Answer → LaneState → Type 0
  PlainBy (answer.Refused e) after = PlainErrno e after
  PlainBy (answer.InProgress have need) after = ⊥
  PlainBy (answer.Grown g) after = ⊥
  PlainBy _ after = Unit {0}

  abbrev pub PlainIn : Asking Outcome → Type 0
  PlainIn (Gives x) = PlainBy x.answer x.lane
  PlainIn (Asks c k) = ⊥

  plain-report : (r : Report) → PlainIn (gives l (answer.Report r))
  plain-report r = tt

  sync-plain : (m : ℕ) (o : LaneMap) (off len ops : ℕ) → PlainIn (sync_part m o off len ops l)
  sync-plain m o off len ops =
      either l PlainIn plain-report (is_mixed ops) (refused MixedSync 0 l) _ (λ mixed. tt) (λ alone.
      judged l PlainIn plain-report (sync_answer l.loans m off len ops) _ (λ fine. tt))

  pub whole-plain : (m ops : ℕ) → PlainIn (sync m ops l)
  whole-plain m ops = unloaded l PlainIn plain-report m _ (λ o there i. sync-plain m o 0 (load_length l m) ops)

  pub range-plain : (m off len ops : ℕ) → PlainIn (sync_range m off len ops l)
  range-plain m off len ops =
      unloaded l PlainIn plain-report m (λ o. unless_past m off len l (sync_part m o off len ops l)) (λ o there i.
      past l PlainIn plain-report m off len _ (sync-plain m o off len ops))

  pub read-plain : (place : Place) (len : ℕ) → PlainIn (cpu_read place len l)
  read-plain place len =
      absent l PlainIn plain-report (virtual_at l place) _ (λ va e.
      judged l PlainIn plain-report (first_unreached l va len) _ (λ reaches.
      judged l PlainIn plain-report (cpu_read_answer (is_known l.memory) l.loans (bytes_at l (run_of va len))) _
      (λ fine. tt)))

  pub write-plain : (place : Place) (vs : List ℕ) → PlainIn (cpu_write place vs l)
  write-plain place vs =
      absent l PlainIn plain-report (virtual_at l place) _ (λ va e.
      judged l PlainIn plain-report (first_unreached l va (length vs)) _ (λ reaches.
      judged l PlainIn plain-report (cpu_write_answer l.loans (bytes_at l (run_of va (length vs)))) _ (λ fine. tt)))

  dev_read-plain : (m off len : ℕ) → PlainIn (dev_read m off len l)
  dev_read-plain m off len =
      unloaded l PlainIn plain-report m _ (λ o there i. past l PlainIn plain-report m off len _
      (judged l PlainIn plain-report (dev_read_answer (is_known l.memory) (loan_of l.loans m) off len) _ (λ fine. tt)))

  dev_write-plain : (m off : ℕ) (vs : List ℕ) → PlainIn (dev_write m off vs l)
  dev_write-plain m off vs =
      unloaded l PlainIn plain-report m _ (λ o there i. past l PlainIn plain-report m off (length vs) _
      (judged l PlainIn plain-report (dev_write_answer (loan_of l.loans m) off (length vs)) _ (λ fine. tt)))

  dev_read_at-plain : (t addr len : ℕ) → PlainIn (dev_read_at t addr len l)
  dev_read_at-plain t addr len =
      absent l PlainIn plain-report (get l.tags t) _ (λ g there.
      judged l PlainIn plain-report
      (judged_by (raw_refusal DeviceReadUnlent (dev_read_refusal (is_known l.memory) false) l t) 0 (run_of addr len)) _
      (λ fine. tt))

  dev_write_at-plain : (t addr : ℕ) (vs : List ℕ) → PlainIn (dev_write_at t addr vs l)
  dev_write_at-plain t addr vs =
      absent l PlainIn plain-report (get l.tags t) _ (λ g there.
      judged l PlainIn plain-report
      (judged_by (raw_refusal DeviceWriteUnlent (dev_write_refusal false) l t) 0 (run_of addr (length vs))) _
      (λ fine. tt))

  told-plain : (d : Descriptor) (c : Candidate) (after : LaneState) → PlainBy (told d c l) after
  told-plain d c after = by (d.kind == 1)
    where
      by : (b : Bool) → PlainBy (if b then answer.Bytes (values l (load_bytes l.loans c.map c.off d.len))
          else answer.Done) after
      by true = tt
      by false = tt

  fetch-plain : (k : ℕ) (r : _) (d : Descriptor) → PlainIn (fetch k r d l)
  fetch-plain k r d =
      either l PlainIn plain-report (not (d.owner == 1)) _ _ (λ no. tt) (λ owned.
      either l PlainIn plain-report (not (is_work d.kind d.len)) _ _ (λ no. refl) (λ work.
      first (slice_get (allowed d l (candidates r l)) 0)))
    where
      first : (c : Option Candidate) → PlainIn (at_first k r d (candidates r l) c l)
      first None = tt
      first (Some c) = told-plain d c (fetched k r d c l).lane

  step-plain : (k : ℕ) → PlainIn (ring_step k l)
  step-plain k =
      absent l PlainIn plain-report (get l.rings k) _ (λ r here.
      unloaded l PlainIn plain-report r.mem _ (λ o there i.
      past l PlainIn plain-report r.mem (head_at r) 16 _
      (judged l PlainIn plain-report (dev_read_answer (is_known l.memory) (loan_of l.loans r.mem) (head_at r) 16) _
      (λ fine. fetch-plain k r (head_of r l)))))

  pub post-plain : (k slot m off len kind fill : ℕ) → PlainIn (ring_post k slot m off len kind fill l)
  post-plain k slot m off len kind fill =
      absent l PlainIn plain-report (get l.rings k) _ (λ r here.
      absent l PlainIn plain-report (get l.mems r.mem) _ (λ x memory.
      unloaded l PlainIn plain-report m _ (λ o there i. past l PlainIn plain-report m off len _
      (either l PlainIn plain-report (may_post r slot m o off len kind l) _ _
      (λ may. write-plain (slot_place r slot) (descriptor_bytes (posted (segments_in o.stage) off len kind fill)))
      (λ no. refl)))))

  pub transfer-plain : (i : Item) → PlainIn (transfer i l)
  transfer-plain (item.Sync m ops) = whole-plain m ops
  transfer-plain (item.SyncRange m off len ops) = range-plain m off len ops
  transfer-plain (item.DevRead m off len) = dev_read-plain m off len
  transfer-plain (item.DevWrite m off bytes) = dev_write-plain m off (bytes_of bytes)
  transfer-plain (item.DevReadAt t addr len) = dev_read_at-plain t addr len
  transfer-plain (item.DevWriteAt t addr bytes) = dev_write_at-plain t addr (bytes_of bytes)
  transfer-plain (item.RingStep k) = step-plain k
