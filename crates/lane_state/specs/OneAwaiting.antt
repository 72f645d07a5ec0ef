-- `AreAwaiting` has at most one proof, so a driver can keep it as a ghost field.
use Rattle.std.specs.Prelude.{ℕ, List, Option, Some, None, IfSome}
use Rattle.std.specs.Coded.{Unit-prop}
use Rattle.std.specs.Ordering.{nat_cmp}
use Rattle.std.specs.FinMap.{FinMap, get}
use Rattle.std.specs.List.{AllByRecursion-prop}
use mathlib.Core.List.{is_set}
use base.Stored.{Coded-set}
use denote.Struct.Props.{props}
use Rattle.busdma_machine.specs.contracts.machine.address.Pa as pa
use Rattle.busdma_machine.specs.contracts.machine.address.Segment as segment
use Rattle.busdma_machine.specs.contracts.machine.chunk.Chunk as chunk
use Rattle.busdma_machine.specs.declared.machine.address.Pa.{Pa}
use Rattle.busdma_machine.specs.declared.machine.bio.Bio.{Bio}
use Rattle.busdma_machine.specs.declared.machine.bio.Bio.TheVariants as bio
use Rattle.busdma_machine.specs.declared.machine.chunk.Chunk.{Chunk}
use Rattle.busdma_machine.specs.declared.tags.tag.TagLimits.{TagLimits}
use Rattle.busdma_base.specs.declared.scenarios.scenario.PageRun.{PageRun}
use Rattle.dma_map.specs.declared.room.LoadRoom.{LoadRoom}
use Rattle.load_bio.specs.Bio.{IsBio}
use Rattle.busdma_rules.specs.contracts.position.Position as position
use Rattle.busdma_rules.specs.Lending.Loans.{Loan, Loans}
use Rattle.ideal_wire.specs.OneProof.{IsBioOf-prop}
use Rattle.lane_state.specs.declared.kept.KeptLoad.{KeptLoad}
use Rattle.lane_state.specs.declared.kept.KeptMap.{KeptMap}
use Rattle.lane_state.specs.declared.kept.KeptTag.{KeptTag}
use Rattle.lane_state.specs.Awaiting.{AreAwaiting, IsAwaitingNow, awaited_map}
use Rattle.lane_state.specs.Loading.{HasRoomFor, HasRoomForAny}

Loan-set : IsSet Loan
Loan-set = hlevel (props, is_set, Coded-set position.the_row.coded)

HasRoomFor-prop : (t : TagLimits) (cs : List Chunk) (pages : List Pa) (room : LoadRoom) →
    IsProp (HasRoomFor t cs pages room)
HasRoomFor-prop t cs pages room =
    hlevel (props, is_set, Coded-set pa.the_row.coded, Coded-set segment.the_row.coded, Coded-set chunk.the_row.coded)

HasRoomForAny-prop : (t : TagLimits) (cs : List Chunk) (need : ℕ) (room : LoadRoom) →
    IsProp (HasRoomForAny t cs need room)
HasRoomForAny-prop t cs need room = hlevel (props, HasRoomFor-prop)

IsBio-prop : (b : Bio) → IsProp (IsBio b)
IsBio-prop (bio.Mapped span) = hlevel (props, AllByRecursion-prop)
IsBio-prop (bio.Vector spans) = hlevel (props, AllByRecursion-prop)
IsBio-prop (bio.Unmapped frames off len) = hlevel (props, AllByRecursion-prop)

IsAwaiting-prop : (pages : List PageRun) (maxmem : ℕ) (tag : Option TagLimits) (loan : Option Loan) (w : KeptLoad)
    (room : LoadRoom) → IsProp (IsAwaitingNow pages maxmem tag loan w room)
IsAwaiting-prop pages maxmem tag loan w room =
    hlevel (props, Loan-set, HasRoomForAny-prop, IsBio-prop, IsBioOf-prop, AllByRecursion-prop)

awaits-prop : (pages : List PageRun) (maxmem : ℕ) (loan : Option Loan)
    (w : Option (KeptLoad × LoadRoom × Option TagLimits)) →
    IsProp (IfSome w (λ w. IsAwaitingNow pages maxmem w.2 loan w.0 w.1))
awaits-prop pages maxmem loan None = Unit-prop
awaits-prop pages maxmem loan (Some w) = IsAwaiting-prop pages maxmem w.2 loan w.0 w.1

pub AreAwaiting-prop : (pages : List PageRun) (maxmem : ℕ) (tags : FinMap nat_cmp KeptTag)
    (maps : FinMap nat_cmp KeptMap) (prepared : Loans) → IsProp (AreAwaiting pages maxmem tags maps prepared)
AreAwaiting-prop pages maxmem tags maps prepared = λ p q i m.
    awaits-prop pages maxmem (get prepared m) (awaited_map tags (get maps m)) (p m) (q m) i
