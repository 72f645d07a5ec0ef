-- Syncs of a map's load. After bus_dmamap_sync(9).
use Rattle.std.specs.Prelude.{ℕ, ◌+◌, ◌-◌, ◌^◌, ◌==◌, Bool, ◌&&◌, ◌||◌, List, [], Option, Some, None, if◌then◌else◌}
use Rattle.std.specs.Prelude.{max, min, nat_lt}
use Rattle.std.specs.List.{list_any}
use Rattle.busdma_base.specs.declared.journals.answer.Answer.TheVariants.{Done}
use Rattle.busdma_machine.specs.declared.report.ReportName.TheVariants.{MixedSync}
use Rattle.busdma_machine.specs.declared.machine.chunk.Chunk.{Chunk}
use Rattle.busdma_rules.specs.Tags.SyncOps.{is_mixed, prewrite, postread}
use Rattle.busdma_rules.specs.Lending.SyncEffects.{sync_answer, synced, lost}
use Rattle.busdma_rules.specs.Segments.Trace.{chunk_len}
use Rattle.ideal_lane.specs.IdealMemory.{forgotten}
use Rattle.ideal_lane.specs.State.{LaneState, LaneMap, Stage, Idle, Waiting, Loaded, Returning}
use Rattle.ideal_lane.specs.Asking.{Asking}
use Rattle.ideal_lane.specs.Outcomes.{Outcome, gives, refused, unless_refused, unless_unloaded, unless_past}
use Rattle.ideal_lane.specs.Outcomes.{load_length}

-- the bounced chunks of a map at this stage
abbrev pub bounced_in : Stage → List Chunk
bounced_in Idle = []
bounced_in (Waiting w) = []
bounced_in (Loaded bounced segments pages) = bounced
bounced_in Returning = []

-- a chunk has one of the `len` bytes of a load from `off` on
abbrev pub has_byte_of : ℕ → ℕ → Chunk → Bool
has_byte_of off len c = nat_lt (max off c.at) (min (off + len) (c.at + chunk_len c))

-- a sync with these operations, of a range of a map's load, copies a byte to or from a bounce page
abbrev pub copies : ℕ → ℕ → ℕ → Stage → Bool
copies off len ops s = (prewrite ops || postread ops) && list_any (has_byte_of off len) (bounced_in s)

-- the greatest number of syncs that a share counts
abbrev pub greatest_share : ℕ
greatest_share = 2 ^ 64 - 1

-- the driver's shares after one more sync in a zone, up to the greatest number
abbrev pub counted_in : ℕ → (ℕ → ℕ) → ℕ → ℕ
counted_in z shares y = if y == z then min (shares y + 1) greatest_share else shares y

-- the driver's shares after a sync: one that copied is counted for the zone of its map
abbrev pub counted : Bool → Option ℕ → (ℕ → ℕ) → ℕ → ℕ
counted copied None shares = shares
counted copied (Some z) shares = if copied then counted_in z shares else shares

-- the sync of a range of a loaded map's load, if its operations may be given together and the rules of lending allow it
abbrev pub sync_part : ℕ → LaneMap → ℕ → ℕ → ℕ → LaneState → Asking Outcome
sync_part m o off len ops l =
    if is_mixed ops then refused MixedSync 0 l
    else unless_refused (sync_answer l.loans m off len ops) l (gives (record l {
      loans = synced l.loans m off len ops;
      memory = forgotten (lost l.loans m off len ops) l.memory;
      shares = counted (copies off len ops o.stage) o.zone l.shares;
    }) Done)

-- sync: the sync of all bytes of a map's load
abbrev pub sync : ℕ → ℕ → LaneState → Asking Outcome
sync m ops l = unless_unloaded m l (λ o. sync_part m o 0 (load_length l m) ops l)

-- sync_range: the sync of `len` bytes of a map's load, from `off` on
abbrev pub sync_range : ℕ → ℕ → ℕ → ℕ → LaneState → Asking Outcome
sync_range m off len ops l =
    unless_unloaded m l (λ o. unless_past m off len l (sync_part m o off len ops l))
