use Rattle.std.proofs.Common.{◌≡◌, ℕ, length, Some, sym, ◌∙◌}
use Rattle.std.specs.FinMap.{get}
use Rattle.busdma_machine.specs.Machine.PageList.{page_addresses}
use Rattle.lane_state.specs.declared.kept.KeptLoad.{KeptLoad}
use Rattle.dma_map.specs.declared.room.LoadRoom.{LoadRoom}
use Rattle.lane_state.specs.Awaiting.{kept_load}
use Rattle.lane_state.proofs.Called.{waits-kept}
use Rattle.lane_loads.proofs.EndedWaits.{ends-bytes, ends-done, ends-few, ends-idle, ends-items}
use Rattle.lane_loads.proofs.EndedWaits.{ends-first, ends-prepared}
use Rattle.lane_loads.proofs.EndedWaits.{ends-loadable, ends-promised, ends-reached, ends-room, ends-stands}
use Rattle.lane_loads.proofs.ended_waits.end_wait.Goals as goal

pub complete_load-requires-clause-stands : goal.complete_load-requires-clause-stands
complete_load-requires-clause-stands c =
    let load : ℕ × KeptLoad × LoadRoom = c.in-Some.load in
    let found : kept_load (get c.args.holdings.now.maps.map c.args.map) ≡ Some load = sym c.in-Some.ensures.load in
    ends-stands c.args.holdings.now c.take_load.new.holdings c.args.map load.0 load.1 load.2 found
    c.take_load.ensures.maps
    c.take_load.ensures.rest c.requires.stands

pub complete_load-requires-clause-idle : goal.complete_load-requires-clause-idle
complete_load-requires-clause-idle c =
    let load : ℕ × KeptLoad × LoadRoom = c.in-Some.load in
    let found : kept_load (get c.args.holdings.now.maps.map c.args.map) ≡ Some load = sym c.in-Some.ensures.load in
    ends-idle c.args.holdings.now c.take_load.new.holdings c.args.map load.0 load.1 load.2 found
    c.take_load.ensures.maps
    c.take_load.ensures.rest

pub complete_load-requires-clause-reached : goal.complete_load-requires-clause-reached
complete_load-requires-clause-reached c =
    let load : ℕ × KeptLoad × LoadRoom = c.in-Some.load in
    let found : kept_load (get c.args.holdings.now.maps.map c.args.map) ≡ Some load = sym c.in-Some.ensures.load in
    ends-reached c.args.holdings.now c.take_load.new.holdings c.args.map load.0 load.1 load.2 found
    c.take_load.ensures.maps
    c.take_load.ensures.rest c.requires.stands

pub complete_load-requires-clause-first : goal.complete_load-requires-clause-first
complete_load-requires-clause-first c =
    let load : ℕ × KeptLoad × LoadRoom = c.in-Some.load in
    let found : kept_load (get c.args.holdings.now.maps.map c.args.map) ≡ Some load = sym c.in-Some.ensures.load in
    ends-first c.args.holdings.now c.take_load.new.holdings c.args.map load.0 load.1 load.2 found
    c.take_load.ensures.maps
    c.take_load.ensures.rest c.requires.stands

pub complete_load-requires-clause-loadable : goal.complete_load-requires-clause-loadable
complete_load-requires-clause-loadable c =
    let load : ℕ × KeptLoad × LoadRoom = c.in-Some.load in
    let found : kept_load (get c.args.holdings.now.maps.map c.args.map) ≡ Some load = sym c.in-Some.ensures.load in
    ends-loadable c.args.holdings.now c.take_load.new.holdings c.args.map load.0 load.1 load.2 found
    c.take_load.ensures.maps
    c.take_load.ensures.rest c.requires.stands

pub complete_load-requires-clause-room : goal.complete_load-requires-clause-room
complete_load-requires-clause-room c =
    let load : ℕ × KeptLoad × LoadRoom = c.in-Some.load in
    let found : kept_load (get c.args.holdings.now.maps.map c.args.map) ≡ Some load = sym c.in-Some.ensures.load in
    ends-room c.args.holdings.now c.take_load.new.holdings c.args.map load.0 load.1 load.2 found
    c.take_load.ensures.maps
    c.take_load.ensures.rest c.requires.stands (length c.args.pages.items) c.requires.need

pub complete_load-requires-clause-prepared : goal.complete_load-requires-clause-prepared
complete_load-requires-clause-prepared c =
    let load : ℕ × KeptLoad × LoadRoom = c.in-Some.load in
    let found : kept_load (get c.args.holdings.now.maps.map c.args.map) ≡ Some load = sym c.in-Some.ensures.load in
    ends-prepared c.args.holdings.now c.take_load.new.holdings c.args.map load.0 load.1 load.2 found
    c.take_load.ensures.maps
    c.take_load.ensures.rest c.requires.stands

pub complete_load-requires-clause-few_items : goal.complete_load-requires-clause-few_items
complete_load-requires-clause-few_items c =
    let load : ℕ × KeptLoad × LoadRoom = c.in-Some.load in
    let found : kept_load (get c.args.holdings.now.maps.map c.args.map) ≡ Some load = sym c.in-Some.ensures.load in
    ends-items c.args.holdings.now c.take_load.new.holdings c.args.map load.0 load.1 load.2 found
    c.take_load.ensures.maps
    c.take_load.ensures.rest c.requires.stands c.requires.room

pub complete_load-requires-clause-promised : goal.complete_load-requires-clause-promised
complete_load-requires-clause-promised c =
    let load : ℕ × KeptLoad × LoadRoom = c.in-Some.load in
    let found : kept_load (get c.args.holdings.now.maps.map c.args.map) ≡ Some load = sym c.in-Some.ensures.load in
    ends-promised c.args.holdings.now c.take_load.new.holdings c.args.map load.0 load.1 load.2 found
    c.take_load.ensures.maps
    c.take_load.ensures.rest (length c.args.pages.items) c.requires.need

pub returns-clause-done : goal.returns-clause-done
returns-clause-done c =
    let load : ℕ × KeptLoad × LoadRoom = c.in-Some.load in
    let found : kept_load (get c.args.holdings.now.maps.map c.args.map) ≡ Some load = sym c.in-Some.ensures.load in
    ends-done c.args.holdings.now c.take_load.new.holdings c.args.map load.0 load.1 load.2 found
    c.take_load.ensures.maps
    c.take_load.ensures.rest c.requires.stands
    c.complete_load.new.holdings c.complete_load.result
    (page_addresses c.args.pages.items) c.complete_load.ensures.done

pub returns-clause-bytes : goal.returns-clause-bytes
returns-clause-bytes c =
    let load : ℕ × KeptLoad × LoadRoom = c.in-Some.load in
    let found : kept_load (get c.args.holdings.now.maps.map c.args.map) ≡ Some load = sym c.in-Some.ensures.load in
    ends-bytes c.args.holdings.now c.take_load.new.holdings c.args.map load.0 load.1 load.2 found
    c.take_load.ensures.maps
    c.take_load.ensures.rest c.complete_load.new.holdings c.complete_load.ensures.bytes

pub unreachable-requires : goal.unreachable-requires
unreachable-requires c =
    absurd (waits-kept c.args.holdings.now c.args.map c.requires.waits (sym c.take_load.ensures.load ∙ c.in_default.is))

pub returns-clause-small : goal.returns-clause-small
returns-clause-small c =
    let load : ℕ × KeptLoad × LoadRoom = c.in-Some.load in
    let found : kept_load (get c.args.holdings.now.maps.map c.args.map) ≡ Some load = sym c.in-Some.ensures.load in
    ends-few c.args.holdings.now c.take_load.new.holdings c.args.map load.0 load.1 load.2 found c.take_load.ensures.maps
    c.take_load.ensures.rest c.requires.stands
    c.complete_load.new.holdings c.complete_load.result (page_addresses c.args.pages.items) c.complete_load.ensures.done
    c.requires.small c.complete_load.ensures.agenda.place c.complete_load.ensures.promised
    (length c.args.pages.items) c.requires.need c.complete_load.ensures.due
