use Rattle.std.proofs.Common.{None, Ok, Some, false, refl, true}
use Rattle.bus_dma.specs.State.{hindrance, state}
use Rattle.bus_dma.proofs.CallLaws.{callback-handed}
use Rattle.bus_dma.proofs.driver.DmaDriver.serve_callback.Goals as goal

pub returns-in-Some-clause-handled : goal.returns-in-Some-clause-handled
returns-in-Some-clause-handled g c =
    let l = state c.args.self.now in
    callback-handed g.H.CallbackHandler.handles (hindrance None l) c.args.handler.now c.called.new.self
    (g.D.HubDoor.seen c.args.door.now) (g.D.HubDoor.seen c.callback.new.door) (g.D.HubDoor.seen c.called.new.door) l
    (state c.callback.new.self) (state c.called.new.driver) (Some c.in-Some.callback) (Ok true)
    (rw c.in-Some.is at c.in_ok-callback.ensures.taken) (refl, c.called.ensures.handled)

pub returns-in-None-clause-handled : goal.returns-in-None-clause-handled
returns-in-None-clause-handled g c =
    let l = state c.args.self.now in
    let seen = g.D.HubDoor.seen c.callback.new.door in
    callback-handed g.H.CallbackHandler.handles (hindrance None l) c.args.handler.now c.args.handler.now
    (g.D.HubDoor.seen c.args.door.now) seen seen l (state c.callback.new.self) (state c.callback.new.self) None
    (Ok false) (rw c.in-None.is at c.in_ok-callback.ensures.taken) (refl, (refl, (refl, refl)))
