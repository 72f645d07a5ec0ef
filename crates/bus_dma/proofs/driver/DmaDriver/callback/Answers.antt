use Rattle.std.proofs.Common.{None, Ok, ap, sym}
use Rattle.lane_turns.specs.TakenTurns.{answered, is_held}
use Rattle.bus_dma.specs.State.{hindrance, state}
use Rattle.bus_dma.proofs.CallLaws.{callback-taken}
use Rattle.bus_dma.proofs.driver.DmaDriver.callback.Goals as goal

pub returns-clause-taken : goal.returns-clause-taken
returns-clause-taken g c =
    let l = state c.args.self.now in
    let turn = c.take_callback-turn.result in
    callback-taken (hindrance None l) (g.D.HubDoor.seen c.args.door.now) l (Ok c.callback_of.result)
    (state c.give_back.new.self) (g.D.HubDoor.seen c.give_back.new.door) c.in_ok-check.ensures (record {
      turn = answered turn;
      held = is_held turn;
      between = state c.take_callback-turn.new.self;
      seen = g.D.HubDoor.seen c.take_callback-turn.new.door;
      taken = c.take_callback-turn.ensures.taken;
      returned = c.give_back.ensures.returned;
      ready = c.give_back.ensures.ready;
      result = ap (λ x. Ok x) (sym c.callback_of.ensures);
    })
