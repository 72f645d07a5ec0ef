-- When a resend may be made, when it is not refused, which bytes it copies, and what it makes of a driver.
use Rattle.std.specs.Prelude.{◌≡◌, ◌+◌, ◌<◌, ◌≤◌, ◌^◌, List, Some, Result, IfOk, OnErr, OnOk, length, true}
use Rattle.std.specs.declared.alloc.AllocError.{AllocError}
use Rattle.std.specs.FinMap.{get}
use Rattle.busdma_base.specs.declared.journals.answer.Answer.TheVariants as answer
use Rattle.busdma_machine.specs.declared.machine.address.Extent.{Extent}
use Rattle.busdma_machine.specs.declared.machine.bio.Bio.TheVariants.{Vector}
use Rattle.busdma_machine.specs.declared.report.Judged.TheVariants.{Fine}
use Rattle.busdma_machine.specs.declared.report.Report.{Report}
use Rattle.busdma_machine.specs.Bounce.Door.{Seen}
use Rattle.busdma_machine.specs.Machine.Spans.{span_bytes}
use Rattle.busdma_machine.specs.Machine.Wire.{Wire}
use Rattle.busdma_machine.specs.Runs.{addresses, byte_count}
use Rattle.busdma_rules.specs.Lending.Access.{cpu_read_answer, cpu_write_answer}
use Rattle.loan_table.specs.Table.{AreIn}
use Rattle.mbuf_defrag.specs.Copying.{ShareNone, extents_copied}
use Rattle.phys_memory.specs.Frames.{Lie}
use Rattle.phys_memory.specs.Memory.{wire}
use Rattle.ideal_lane.specs.IdealMemory.{is_known}
use Rattle.ideal_lane.specs.Loads.{load_judged}
use Rattle.ideal_lane.specs.Outcomes.{gives}
use Rattle.ideal_lane.specs.Sends as sends
use Rattle.ideal_lane.specs.Sends.{Send, chain_bytes, cluster_bytes, due_send}
use Rattle.ideal_lane.specs.Standing.{Stands}
use Rattle.ideal_lane.specs.State.{LaneState}
use Rattle.ideal_wire.specs.WireStep as wires
use Rattle.ideal_wire.specs.WireStep.{is_free}
use Rattle.lane_state.specs.declared.holdings.Answered.{Answered}
use Rattle.lane_state.specs.declared.holdings.Holdings.{Holdings}
use Rattle.lane_state.specs.Changes.{IsWireOf, KeepsAgenda, KeepsPromises, KeepsState, with_marked}
use Rattle.lane_state.specs.Doing.{IsAllowedBy, IsDone, IsUndone, asks}
use Rattle.lane_state.specs.Ideal.{given, ideal_of}
use Rattle.lane_state.specs.Wire.{IsWired, wire_of}

-- Refusals

-- a resend is not refused: its map is idle, its clusters can be loaded, its chain may be read, and its clusters may be
-- written
pub record IsUnrefused (l : LaneState) (s : Send) : Type 0 where
  pub free : is_free (get l.maps s.map) ≡ true
  pub loads : load_judged l s.map (Vector s.clusters) ≡ Fine
  pub reads : cpu_read_answer (is_known l.memory) l.loans (chain_bytes s l) ≡ Fine
  pub writes : cpu_write_answer l.loans (cluster_bytes s l) ≡ Fine

-- a resend is refused with this report, and leaves the wire
pub record IsStopped (l : LaneState) (s : Send) (r : Report) : Type 0 where
  pub step : sends.resend s l ≡ gives l (answer.Report r)
  pub wire : (w : Wire) → wires.wire_resend s l w ≡ w

-- Copied bytes

-- the first extents have the bytes of the resend's chain; the others have the bytes of its clusters, if these can be
-- loaded
pub record AreItsBytes (l : LaneState) (s : Send) (from to : List Extent) : Type 0 where
  pub chain : addresses from ≡ chain_bytes s l
  pub clusters : load_judged l s.map (Vector s.clusters) ≡ Fine → addresses to ≡ cluster_bytes s l

-- these extents are of a resend's chain and clusters: they have their bytes, at most 2^20, which are the driver's
pub record AreItsExtents (h : Holdings) (s : Send) (from to : List Extent) : Type 0 where
  pub small : span_bytes s.clusters ≤ 2 ^ 20
  pub from_own : AreIn h.loans.bytes (addresses from)
  pub from_total : byte_count from ≤ 2 ^ 20
  pub to_own : AreIn h.loans.bytes (addresses to)
  pub to_total : byte_count to ≤ 2 ^ 20
  pub bytes : AreItsBytes (ideal_of h) s from to

-- what a resend works on is unchanged, whatever room its tables have
pub record KeepsForResend (h k : Holdings) : Type 0 where
  pub ideal : ideal_of k ≡ ideal_of h
  pub maps : k.maps ≡ h.maps
  pub memory : k.memory ≡ h.memory
  pub memories : k.memories ≡ h.memories
  pub agenda : k.agenda ≡ h.agenda
  pub bytes : k.loans.bytes ≡ h.loans.bytes

-- the bytes of the first extents may be copied to the others: there are as many, at most 2^20, and they share none; all
-- are in the driver's frames; and there is room to mark those of the others
pub record MayCopy (h : Holdings) (from to : List Extent) : Type 0 where
  pub from_lie : Lie h.memory.memory from
  pub to_lie : Lie h.memory.memory to
  pub inside : AreIn h.loans.bytes (addresses to)
  pub total : byte_count to ≤ 2 ^ 20
  pub alike : byte_count from ≡ byte_count to
  pub apart : ShareNone from to
  pub room : length to ≤ h.loans.spare

-- the bytes of the first extents were copied to the others, and these are Known; maps, memories and agenda are
-- unchanged
pub record AreCopied (from to : List Extent) (h k : Holdings) : Type 0 where
  pub ideal : ideal_of k ≡ with_marked (addresses to) k.memory.memory h
  pub wire : wire k.memory.memory ≡ extents_copied from to (wire h.memory.memory)
  pub maps : k.maps ≡ h.maps
  pub memories : k.memories ≡ h.memories
  pub agenda : k.agenda ≡ h.agenda

-- The resend

-- a driver may make this resend at a door: it is due, the door allows its call, and there is room for its items and
-- pages
pub record MayResend (s : Send) (h : Holdings) (d : Seen) : Type 0 where
  pub stands : Stands (ideal_of h)
  pub wired : IsWired h
  pub due : due_send (ideal_of h) ≡ Some s
  pub small : span_bytes s.chain ≤ 2 ^ 20
  pub few_items : length s.items ≤ h.agenda.room
  pub few_pages : h.agenda.promised + span_bytes s.chain < 2 ^ 32
  pub allowed : IsAllowedBy d h.id.0 (sends.resend s (ideal_of h))

-- A resend at a door: the answer, the ideal state, the call and the bytes are those of the ideal driver's resend. If
-- memory runs out, the ideal state, all bytes and the agenda are unchanged, and the call is not in the door's history.
-- The memories and the place in the script are unchanged in any case, and the return queue promises a place for each
-- page that comes to be due.
pub record IsResent (s : Send) (h k : Holdings) (d e : Seen) (r : Result Answered AllocError) : Type 0 where
  pub done : IfOk r (λ a. IsDone d h.id.0 (sends.resend s (ideal_of h)) (given k a.answer) e)
  pub held : IfOk r (λ a. a.held ≡ asks (sends.resend s (ideal_of h)))
  pub wire : OnOk r (IsWireOf h k (wires.wire_resend s (ideal_of h) (wire_of h)))
  pub err : OnErr r (KeepsState h k)
  pub unpromised : OnErr r (k.agenda ≡ h.agenda)
  pub undone : OnErr r (IsUndone d e)
  pub memories : k.memories ≡ h.memories
  pub agenda : KeepsAgenda h k
  pub promised : k.agenda.promised ≤ h.agenda.promised + span_bytes s.chain
  pub due : KeepsPromises h k
