-- The steps of memories, by what is there; and the frames that their calls bring and take back.
use Rattle.std.proofs.Common.{◌≡◌, ℕ, zero, suc, ◌*◌, ◌≤◌, Bool, true, false, List}
use Rattle.std.proofs.Common.{Option, Some, None, refl, sym, ap, ◌∙◌, subst, arith}
use Rattle.std.specs.Prelude.{if◌then◌else◌, slice_index_or}
use Rattle.std.specs.FinMap.{get, insert}
use Rattle.busdma_machine.specs.declared.bounce.hold.HubCall.{HubCall}
use Rattle.busdma_machine.specs.declared.bounce.hold.HubCall.TheVariants.{MemAlloc, MemFree}
use Rattle.busdma_machine.specs.declared.bounce.hold.HubReply.{HubReply}
use Rattle.busdma_machine.specs.declared.bounce.hold.HubReply.TheVariants.{Run}
use Rattle.busdma_base.specs.declared.journals.answer.Answer.TheVariants as answer
use Rattle.busdma_machine.specs.declared.report.Errno.TheVariants.{EBUSY}
use Rattle.busdma_machine.specs.declared.report.ReportName.TheVariants.{Absent}
use Rattle.busdma_machine.specs.declared.name.MapId.{MapId}
use Rattle.busdma_machine.specs.declared.tags.tag.TagLimits.{TagLimits}
use Rattle.busdma_machine.specs.Bounce.Account.{Account}
use Rattle.busdma_machine.specs.Bounce.AccountStep.{memory_placed}
use Rattle.busdma_machine.specs.Bounce.Door.{ArePagesOf, HoldsAtDoor, Seen, account}
use Rattle.busdma_machine.specs.Bounce.EachFrame.{LiesBelowMaxmem}
use Rattle.busdma_machine.specs.Bounce.MemoryRuns.{frames_for, frames_from, in_run, lowest_run}
use Rattle.busdma_machine.proofs.Accounts.EachFrame.{below-history, whole-history}
use Rattle.busdma_machine.proofs.Accounts.WellFormed.{well-opening}
use Rattle.lane_agreement.proofs.Doors.{agrees-passes}
use Rattle.ideal_lane.specs.Asking.{Asks}
use Rattle.ideal_lane.specs.IdealMemory.{Known, Unknown, joined}
use Rattle.ideal_lane.specs.Maps.{with_map}
use Rattle.ideal_lane.specs.Memories as memories
use Rattle.ideal_lane.specs.Memories.{dmamem, dmamem_free, with_memory, without_memory}
use Rattle.ideal_lane.specs.Outcomes.{gives, is_idle}
use Rattle.ideal_lane.specs.State.{LaneMap, LaneMemory, LaneState, LaneTag, named}
use Rattle.ideal_lane.specs.View.{view_of}
use Rattle.ideal_wire.specs.Laid.{AreLaid}
use Rattle.ideal_wire.specs.NewRuns.{BringsNew}
use Rattle.ideal_wire.proofs.Apart.NewFrames.{given-new}
use Rattle.lane_objects.specs.Making.{ideal_memory}
use Rattle.lane_state.specs.Served.{IsServed}

-- ---- the making of a memory

module _ (l : LaneState) (t flags : ℕ) where
  -- the tag does not exist
  pub make-absent : get l.tags t ≡ None →
      dmamem t flags l ≡ gives l (answer.Report (record { name = Absent; at = 0 }))
  make-absent none = rw none refl

  pub make-asks : (o : LaneTag) → get l.tags t ≡ Some o →
      dmamem t flags l ≡ Asks (MemAlloc (named l l.place) o.limits) (memories.memory_by_reply t o.limits flags l)
  make-asks o there = rw there refl

-- ---- its end

module _ (l : LaneState) (m : ℕ) where
  -- the memory does not exist, or its map does not
  pub free-absent : get l.mems m ≡ None →
      dmamem_free m l ≡ gives l (answer.Report (record { name = Absent; at = 0 }))
  free-absent none = rw none refl

  pub free-mapless : (x : LaneMemory) → get l.mems m ≡ Some x → get l.maps m ≡ None →
      dmamem_free m l ≡ gives l (answer.Report (record { name = Absent; at = 0 }))
  free-mapless x there none = rw (there, none) refl

  -- the map is not idle, or it is
  pub free-busy : (x : LaneMemory) (o : LaneMap) → get l.mems m ≡ Some x → get l.maps m ≡ Some o →
      is_idle o.stage ≡ false → dmamem_free m l ≡ gives l (answer.Refused EBUSY)
  free-busy x o there found busy = rw (there, found, busy) refl

  pub free-asks : (x : LaneMemory) (o : LaneMap) → get l.mems m ≡ Some x → get l.maps m ≡ Some o →
      is_idle o.stage ≡ true →
      dmamem_free m l ≡ Asks (MemFree (named l m)) (λ r. record { lane = without_memory m x l; answer = answer.Done })
  free-asks x o there found idle = rw (there, found, idle) refl

  -- the account has its frames
  pub free-pages : (x : LaneMemory) (d : Seen) → IsServed l d → get l.mems m ≡ Some x → (pages : List ℕ) →
      pages ≡ frames_from x.count x.first → ArePagesOf (named l m) pages d
  free-pages x d served there pages is =
      let same = served.agrees.names (named l m) refl in
      is ∙ sym (same.frames ∙ ap (λ o. Rattle.lane_agreement.specs.OwnShare.mem_frames
      (Rattle.ideal_lane.specs.View.own_frames o)) there)

-- ---- what the call for frames brings

-- frames are new to a driver that the account served
pub holds-new : (l : LaneState) (d e : Seen) (c : HubCall) (r : HubReply) → IsServed l d → AreLaid l →
    HoldsAtDoor d l.id c r e → BringsNew l r
holds-new l d e c r served laid holds =
    let p = holds.passes in
    let b : Seen = holds.between in
    let low : LiesBelowMaxmem b.opening = subst LiesBelowMaxmem (sym p.opening) served.below in
    subst (BringsNew l) (sym holds.reply)
    (given-new l (account b) (agrees-passes (view_of l) d holds.others b served.agrees served.served p)
    (whole-history b.opening b.history p.form p.sound)
    (below-history b.opening b.history (well-opening b.opening p.form) p.sound low) laid l.id c)

-- the frames are as many as the memory has
placed-count : (m : MapId) (n first count : ℕ) (o : Option ℕ) (a : Account) →
    Run (record { 0 = first }) count ≡ (memory_placed m n o a).reply → count ≡ n
placed-count m n first count None a e = absurd (cc)
placed-count m n first count (Some f) a e = cc

pub alloc-count : (d e : Seen) (lane : ℕ) (m : MapId) (t : TagLimits) (first count : ℕ) →
    HoldsAtDoor d lane (MemAlloc m t) (Run (record { 0 = first }) count) e → count ≡ frames_for t.maxsize
alloc-count d e lane m t first count holds =
    placed-count m (frames_for t.maxsize) first count
    (lowest_run t.maxsize t.boundary t.lowaddr.0 (account holds.between).bank) (account holds.between) holds.reply

-- the first frame of the run
pub first-of-run : (n first : ℕ) (pages : List ℕ) → 1 ≤ n → pages ≡ frames_from n first →
    slice_index_or pages 0 0 ≡ first
first-of-run zero first pages some e = absurd (omega arith)
first-of-run (suc n) first pages some e = ap (λ ps. slice_index_or ps 0 0) e

pub frames-some : (len : ℕ) → 1 ≤ frames_for len
frames-some len = omega arith

pub frames-hold : (len : ℕ) → len ≤ 4096 * frames_for len
frames-hold len = omega arith

-- ---- what is made of them

-- a memory with its map is the memory that was asked for
pub made-memory : (l : LaneState) (tag first count len flags : ℕ) (coherent clear : Bool) → count ≡ frames_for len →
    coherent ≡ Rattle.busdma_rules.specs.Tags.MemFlags.coherent flags →
    clear ≡ Rattle.busdma_rules.specs.Tags.MemFlags.zero_filled flags →
    with_map tag None (record l {
      mems = insert l.mems l.place
          (record { tag = tag; first = first; count = count; len = len; coherent = coherent });
      memory = joined (in_run first count) (if clear then Known 0 else Unknown) l.memory;
    }) ≡ with_memory (ideal_memory tag first len flags) (Rattle.busdma_rules.specs.Tags.MemFlags.zero_filled flags) l
made-memory l tag first count len flags coherent clear size shared filled = λ i. with_map tag None (record l {
  mems = insert l.mems l.place
      (record { tag = tag; first = first; count = size i; len = len; coherent = shared i });
  memory = joined (in_run first (size i)) (if filled i then Known 0 else Unknown) l.memory;
})

-- the memory is the one that the reply names
pub placed-memory : (l : LaneState) (t first count : ℕ) (limits : TagLimits) (flags : ℕ) →
    count ≡ frames_for limits.maxsize →
    memories.memory_by_reply t limits flags l (Run (record { 0 = first }) count) ≡ record {
      lane = with_memory (ideal_memory t first limits.maxsize flags)
          (Rattle.busdma_rules.specs.Tags.MemFlags.zero_filled flags) l;
      answer = answer.Placed (record { 0 = first });
    }
placed-memory l t first count limits flags size =
    ap (λ n. memories.memory_by_reply t limits flags l (Run (record { 0 = first }) n)) size
