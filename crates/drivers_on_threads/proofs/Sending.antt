-- A driver with its door may go to another thread.
use denote.RattleType.{RattleType}
use denote.Ref.{NamedLft}
use denote.Param.Send.{IsSend, IsSync, sendable}
use denote.Param.SendFields.{as_row_send, declared_send}
use denote.Struct.Field.{row_field}
use denote.Struct.Tuple.{TupleAt, type_at}
use mathlib.Core.List.{[], ◌∷◌}
use mir.Syntax.{Sym}
use Rattle.std.proofs.Crossing.{crosses}
use Rattle.std.proofs.MapsCrossing.{BTreeMap-send, HashMap-send}
use Rattle.busdma_machine.specs.contracts.machine.page.Page as Page
use Rattle.busdma_base.specs.contracts.scenarios.script.Item as Item
use Rattle.busdma_base.specs.contracts.scenarios.script.Op as Op
use Rattle.dma_map.specs.contracts.map.DmaMap as Map
use Rattle.dma_map.specs.declared.callback.Callback as Callback
use Rattle.iommu_map.specs.contracts.iommu.Iommu as Iommu
use Rattle.lane_tables.specs.contracts.agenda.Agenda as Agenda
use Rattle.lane_tables.specs.contracts.place_table.PlaceTable as Table
use Rattle.loan_table.specs.contracts.table.LoanTable as Loans
use Rattle.phys_memory.specs.contracts.pages.LanePages as Pages
use Rattle.lane_state.specs.contracts.kept.KeptLoad as Load
use Rattle.lane_state.specs.contracts.kept.KeptTag as Tag
use Rattle.lane_core.specs.contracts.lane.Lane as Lane
use Rattle.lane_run.proofs.Sending.{door_send}
use Rattle.drivers_on_threads.specs.contracts.seats.Seat as Seat
use Rattle.drivers_on_threads.specs.contracts.signals.Signals as Signals

item_sync : IsSync Item.the_row
item_sync = search (sendable, crosses) depth 60 fits 40000

op_sync : IsSync Op.the_row
op_sync = search (item_sync, sendable, crosses) depth 60 fits 40000

page_send : IsSend Page.the_row
page_send = search (sendable, crosses) depth 60 fits 20000

pages_send : IsSend Pages.the_row
pages_send = search (page_send, HashMap-send, sendable, crosses) depth 60 fits 20000

space_send : IsSend Iommu.the_row
space_send = search (sendable, crosses) depth 60 fits 20000

tag_send : IsSend Tag.the_row
tag_send = search (space_send, sendable, crosses) depth 60 fits 20000

table_send : (T : RattleType) → IsSend T → IsSend (Table.the_row T)
table_send T s = search (sendable, crosses) depth 60 fits 20000

agenda_send : IsSend Agenda.the_row
agenda_send = search (page_send, sendable, crosses) depth 60 fits 40000

loans_send : IsSend Loans.the_row
loans_send = search (BTreeMap-send, sendable, crosses) depth 60 fits 40000

map_send : (T : RattleType) (g : Callback.Ghosts T.Denot) → IsSend T → IsSend (Map.the_row T g)
map_send T g s = search (sendable, crosses) depth 60 fits 40000

load_send : (s : NamedLft) → IsSend (Load.the_row s)
load_send s = search (sendable, crosses) depth 60 fits 40000

lane_send : (s : NamedLft) → IsSend (Lane.the_row s)
lane_send s =
    search (op_sync, pages_send, tag_send, table_send, agenda_send, loans_send, map_send, load_send, sendable, crosses)
    depth 60 fits 40000

pub seat_send : (s a : NamedLft) (Rt : RattleType) → IsSync Rt → IsSend (Seat.the_row s a Rt)
seat_send s a Rt y =
    declared_send (Seat.the_type s a Rt)
    (lane_send s, (search (door_send, y, sendable, crosses) depth 60 fits 20000, tt))

-- so may a closure that captures four values of which each may
pub closure_send : (ν : Sym) (A B C D : RattleType) → IsSend A → IsSend B → IsSend C → IsSend D
    → IsSend (TupleAt ν (A ∷ B ∷ C ∷ D ∷ []))
closure_send ν A B C D a b c d =
    declared_send (type_at ν (A ∷ B ∷ C ∷ D ∷ [])) (
      as_row_send (row_field A) a,
      (as_row_send (row_field B) b, (as_row_send (row_field C) c, (as_row_send (row_field D) d, tt))),
    )

pub signals_sync : IsSync Signals.the_row
signals_sync = search (sendable, crosses) depth 60 fits 20000
