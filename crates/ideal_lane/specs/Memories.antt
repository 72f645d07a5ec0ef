-- Making and ending dmamem memories. After bus_dmamem_alloc(9).
use Rattle.std.specs.Prelude.{ℕ, Bool, false, None, if◌then◌else◌}
use Rattle.std.specs.FinMap.{get, insert, remove}
use Rattle.busdma_machine.specs.declared.bounce.hold.HubCall.TheVariants.{MemAlloc, MemFree}
use Rattle.busdma_machine.specs.declared.bounce.hold.HubReply.{HubReply}
use Rattle.busdma_machine.specs.declared.bounce.hold.HubReply.TheVariants as reply
use Rattle.busdma_base.specs.declared.journals.answer.Answer.TheVariants.{Done, Placed, Refused}
use Rattle.busdma_machine.specs.declared.report.Errno.TheVariants.{EBUSY, ENOMEM}
use Rattle.busdma_machine.specs.declared.tags.tag.TagLimits.{TagLimits}
use Rattle.busdma_machine.specs.Bounce.MemoryRuns.{in_run}
use Rattle.busdma_rules.specs.Tags.MemFlags.{zero_filled, coherent}
use Rattle.ideal_lane.specs.IdealMemory.{Known, Unknown, joined, parted}
use Rattle.ideal_lane.specs.State.{LaneState, LaneMemory, Idle, named}
use Rattle.ideal_lane.specs.Asking.{Asking, Asks}
use Rattle.ideal_lane.specs.Outcomes.{Outcome, gives, unless_absent, is_idle}

-- the driver with a memory named by this place, with its idle map and its bytes, which are 0 if that is asked for and
-- else Unknown
abbrev pub with_memory : LaneMemory → Bool → LaneState → LaneState
with_memory x zero l = record l {
  mems = insert l.mems l.place x;
  maps = insert l.maps l.place (record { tag = x.tag; zone = None; tried = false; stage = Idle });
  memory = joined (in_run x.first x.count) (if zero then Known 0 else Unknown) l.memory;
}

-- the driver after the call for a run of frames: it has the memory, or there is no run and it answers ENOMEM
abbrev pub memory_by_reply : ℕ → TagLimits → ℕ → LaneState → HubReply → Outcome
memory_by_reply t limits flags l (reply.Run first count) = record {
  lane =
      with_memory (record { tag = t; first = first.0; count = count; len = limits.maxsize; coherent = coherent flags })
      (zero_filled flags) l;
  answer = Placed first;
}
memory_by_reply t limits flags l _ = record { lane = l; answer = Refused ENOMEM }

-- dmamem: a new memory of a tag, named by this place of the script
abbrev pub dmamem : ℕ → ℕ → LaneState → Asking Outcome
dmamem t flags l =
    unless_absent (get l.tags t) l
    (λ o. Asks (MemAlloc (named l l.place) o.limits) (memory_by_reply t o.limits flags l))

-- the driver without a memory, its map and its bytes
abbrev pub without_memory : ℕ → LaneMemory → LaneState → LaneState
without_memory m x l = record l {
  mems = remove l.mems m;
  maps = remove l.maps m;
  memory = parted (in_run x.first x.count) l.memory;
}

-- dmamem_free: a memory is ended if its map is idle; otherwise the answer is EBUSY
abbrev pub dmamem_free : ℕ → LaneState → Asking Outcome
dmamem_free m l =
    unless_absent (get l.mems m) l (λ x. unless_absent (get l.maps m) l (λ o.
    if is_idle o.stage
    then Asks (MemFree (named l m)) (λ r. record { lane = without_memory m x l; answer = Done })
    else gives l (Refused EBUSY)))
