-- The pages that a driver is done with go back to their zones.
use Rattle.std.specs.Prelude.{◌≡◌, ◌==◌, Bool, true, false, not, ◌&&◌, List, [], ◌∷◌, length}
use Rattle.busdma_base.specs.declared.scenarios.script.Op.{Op}
use Rattle.busdma_base.specs.declared.scenarios.script.Op.TheVariants as op
use Rattle.busdma_machine.specs.Bounce.Door.{Seen}
use Rattle.ideal_lane.specs.Asking.{Asking, goes_on}
use Rattle.ideal_lane.specs.State.{LaneState}
use Rattle.ideal_lane.specs.Turns.{Turned, release}
use Rattle.lane_agreement.specs.View.{Return}
use Rattle.lane_state.specs.Doing.{IsDone}

-- a driver's script has ended, and no resend is due
abbrev pub is_at_end : LaneState → Bool
is_at_end l = (l.place == length l.script) && not l.due

-- the first page of the return queue goes back
abbrev pub release_step : Return → List Return → LaneState → Asking LaneState
release_step r rest l = goes_on (λ (t : Turned). t.lane) (release r rest l)

-- the first of these pages went back, if there is one
abbrev pub IsReleased : List Return → Seen → LaneState → LaneState → Seen → Type 0
IsReleased [] d l n e = ⊥
IsReleased (r ∷ rest) d l n e = IsDone d l.id (release_step r rest l) n e

-- these pages went back, first to last
abbrev pub IsReturned : List Return → Seen → LaneState → LaneState → Seen → Type 0
IsReturned [] d l n e = (n ≡ l) × (e ≡ d)
IsReturned (r ∷ rest) d l n e =
    (m : LaneState) × ((f : Seen) × (IsReleased (r ∷ rest) d l m f × IsReturned rest f m n e))

-- an operation can leave pages that are to go back: an unload can, and a load that has too many segments
abbrev pub may_return : Op → Bool
may_return (op.Tag name parent limits) = false
may_return (op.IommuTag name limits) = false
may_return (op.TagDestroy tag) = false
may_return (op.Map name tag) = false
may_return (op.MapDestroy map) = false
may_return (op.Dmamem name tag flags) = false
may_return (op.DmamemFree mem) = false
may_return (op.Load map buffer flags items) = true
may_return (op.Unload map) = true
may_return (op.Sync map ops) = false
may_return (op.SyncRange map off len ops) = false
may_return (op.CpuRead place len) = false
may_return (op.CpuWrite place bytes) = false
may_return (op.Await map) = false
may_return (op.Ring name mem slots) = false
may_return (op.RingPost ring slot map off len kind fill) = false
may_return (op.Kick ring steps) = false
