use Rattle.std.proofs.Common.{◌≡◌, ◌∙◌, None, Some, [], length, refl, subst, true}
use Rattle.busdma_base.specs.declared.journals.answer.Answer.TheVariants.{Done}
use Rattle.busdma_base.specs.declared.scenarios.buffer.Buffer.TheVariants.{Flat}
use Rattle.busdma_base.specs.declared.scenarios.script.Bytes.TheVariants.{Listed}
use Rattle.busdma_base.specs.declared.scenarios.script.Op.TheVariants.{CpuWrite}
use Rattle.driver_laws.specs.Steps.{IsStep}
use Rattle.ideal_lane.specs.Accesses.{cpu_write}
use Rattle.lane_core.specs.Appending.{is_ready}
use Rattle.bus_dma.specs.State.{hindrance, load_hindrance, state}
use Rattle.driver_in_code.proofs.transfers.send.Goals as goal

pub returns-clause-read : goal.returns-clause-read
returns-clause-read g c =
    let seen = g.D.HubDoor.seen in
    let text = c.args.text.now in
    let place = c.args.place in
    let map = c.args.map in
    let start = state c.args.driver.now in
    let wrote = state c.cpu_write.new.self in
    let loaded = state c.load.new.self in
    let synced = state c.sync.new.self in
    let written : c.new.result ≡ text = c.new.ensures ∙ c.in_ok-from_slice.ensures.items in
    let write : IsStep (cpu_write place text) start wrote Done =
    subst (λ vs. IsStep (cpu_write place vs) start wrote Done) written
    (c.accesses_are_steps.ensures.write (hindrance None start) place (Listed c.new.result) (seen c.args.door.now)
    (seen c.cpu_write.new.door) start wrote c.in_ok-cpu_write.ensures.call) in
    let ready : is_ready wrote ≡ true =
    c.calls_leave_ready.ensures.done (CpuWrite place (Listed c.new.result)) (seen c.args.door.now)
    (seen c.cpu_write.new.door) start wrote (hindrance None start) refl c.in_ok-cpu_write.ensures.call in
    let load =
    c.loads_are_steps.ensures (load_hindrance (Some map) (length text) c.cpu_write.new.self) map.made_at _
    (Flat place (length text)) (seen c.cpu_write.new.door) (seen c.load.new.door) wrote loaded c.in-Segments.field-0
    ready (rw c.in-Segments.is at c.in_ok-load.ensures.call) in
    let sync =
    c.syncs_are_steps.ensures.all (hindrance (Some map) loaded) map.made_at _ (seen c.load.new.door)
    (seen c.sync.new.door) loaded synced c.in_ok-sync.ensures.call in
    let read =
    c.accesses_are_steps.ensures.dev_read map 0 (length text) synced (state c.dev_read.new.self) c.in_ok-read.read
    c.in_ok-read.ensures.read in
    c.devices_read_what_drivers_wrote.ensures.read start wrote loaded synced (state c.dev_read.new.self) place text
    c.in_ok-read.read map.made_at 1 4 [] c.in-Segments.field-0 c.is_in_order.ensures.laid c.is_in_order.ensures.machine
    c.is_in_order.ensures.apart write load sync refl read
