-- A driver at work may go to another thread if its door may.
use denote.RattleType.{RattleType}
use denote.Ref.{NamedLft}
use denote.Param.Send.{IsSend, IsSync, sendable}
use denote.Param.SendFields.{declared_send}
use Rattle.std.proofs.Crossing.{crosses}
use Rattle.std.proofs.MapsCrossing.{BTreeMap-send, HashMap-send}
use Rattle.busdma_machine.specs.contracts.machine.page.Page as Page
use Rattle.busdma_machine.specs.contracts.tags.tag.TagLimits as Limits
use Rattle.busdma_base.specs.contracts.scenarios.buffer.Buffer as Buffer
use Rattle.busdma_base.specs.contracts.scenarios.script.Item as Item
use Rattle.busdma_base.specs.contracts.scenarios.script.Op as Op
use Rattle.dma_map.specs.contracts.map.DmaMap as Map
use Rattle.dma_map.specs.declared.callback.Callback as Callback
use Rattle.iommu_map.specs.contracts.iommu.Iommu as Iommu
use Rattle.lane_tables.specs.contracts.agenda.Agenda as Agenda
use Rattle.lane_tables.specs.contracts.place_table.PlaceTable as Table
use Rattle.loan_table.specs.contracts.table.LoanTable as Loans
use Rattle.phys_memory.specs.contracts.pages.LanePages as Pages
use Rattle.lane_state.specs.contracts.buffers.LoadBytes as Bytes
use Rattle.lane_state.specs.contracts.kept.KeptLoad as Load
use Rattle.lane_state.specs.contracts.kept.KeptTag as Tag
use Rattle.lane_core.specs.contracts.lane.Lane as Lane
use Rattle.ideal_runs.specs.contracts.logged_step.LoggedStep as Step
use Rattle.lane_rounds.specs.contracts.worker.Worker as Worker

step_send : IsSend Step.the_row
step_send = search (sendable, crosses) depth 60 fits 20000

item_sync : IsSync Item.the_row
item_sync = search (sendable, crosses) depth 60 fits 40000

buffer_sync : IsSync Buffer.the_row
buffer_sync = search (sendable, crosses) depth 60 fits 40000

limits_sync : IsSync Limits.the_row
limits_sync = search (sendable, crosses) depth 60 fits 40000

op_sync : IsSync Op.the_row
op_sync = search (item_sync, buffer_sync, limits_sync, sendable, crosses) depth 60 fits 40000

page_send : IsSend Page.the_row
page_send = search (sendable, crosses) depth 60 fits 20000

pages_send : IsSend Pages.the_row
pages_send = search (page_send, HashMap-send, sendable, crosses) depth 60 fits 20000

space_send : IsSend Iommu.the_row
space_send = search (sendable, crosses) depth 60 fits 20000

tag_send : IsSend Tag.the_row
tag_send = search (space_send, sendable, crosses) depth 60 fits 20000

table_send : (T : RattleType) → IsSend T → IsSend (Table.the_row T)
table_send T s = search (sendable, crosses) depth 60 fits 20000

agenda_send : IsSend Agenda.the_row
agenda_send = search (page_send, sendable, crosses) depth 60 fits 40000

loans_send : IsSend Loans.the_row
loans_send = search (BTreeMap-send, sendable, crosses) depth 60 fits 40000

map_send : (T : RattleType) (g : Callback.Ghosts T.Denot) → IsSend T → IsSend (Map.the_row T g)
map_send T g s = search (sendable, crosses) depth 60 fits 40000

bytes_send : (s : NamedLft) → IsSend (Bytes.the_row s)
bytes_send s = search (sendable, crosses) depth 60 fits 40000

load_send : (s : NamedLft) → IsSend (Load.the_row s)
load_send s = search (bytes_send, sendable, crosses) depth 60 fits 40000

lane_send : (s : NamedLft) → IsSend (Lane.the_row s)
lane_send s =
    search (op_sync, pages_send, tag_send, table_send, agenda_send, loans_send, map_send, load_send, sendable, crosses)
    depth 60 fits 40000

pub worker_send : (s : NamedLft) (T F : RattleType) → IsSend T → IsSend (Worker.the_row s T F)
worker_send s T F sent =
    declared_send (Worker.the_type s T F) (
      search (sendable, crosses) depth 20,
      (
        search (sendable, crosses) depth 20,
        (
          lane_send s,
          (
            search (sendable, crosses) depth 20,
            (
              search (step_send, sendable, crosses) depth 20,
              (
                search (sendable, crosses) depth 20,
                (
                  search (sendable, crosses) depth 20,
                  (search (sendable, crosses) depth 20, (search (sendable, crosses) depth 20, tt)),
                ),
              ),
            ),
          ),
        ),
      ),
    )
