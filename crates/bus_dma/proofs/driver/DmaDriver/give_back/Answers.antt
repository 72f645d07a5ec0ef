use Rattle.std.proofs.Common.{◌≡◌, ◌∙◌, rules, true}
use Rattle.lane_core.specs.Appending.{is_ready}
use Rattle.lane_core.proofs.AppendingLaws.{ready-for}
use Rattle.bus_dma.specs.State.{state}
use Rattle.bus_dma.proofs.ReturnLaws.{returned-next, returned-none}
use Rattle.bus_dma.proofs.driver.DmaDriver.give_back.Goals as goal

pub loop-self-preserved : goal.loop-self-preserved
loop-self-preserved g c =
    let here = state c.loop-self.self in
    let seen = g.D.HubDoor.seen c.loop-self.door in
    let after = state c.release.new.self in
    let saw = g.D.HubDoor.seen c.release.new.door in
    record {
      served = c.release.ensures.served;
      ended = c.release.ensures.ended;
      fixed = c.release.ensures.fixed ∙ c.loop-self.invariant.fixed;
      rest = λ n e back. c.loop-self.invariant.rest n e
          (returned-next here.returns seen saw e here after n c.release.ensures.released back);
    }

pub returns-clause-returned : goal.returns-clause-returned
returns-clause-returned g c =
    let here = state c.loop-self.self in
    let seen = g.D.HubDoor.seen c.loop-self.door in
    let ready : is_ready here ≡ true = search rules in
    c.loop-self.invariant.rest here seen (returned-none here.returns seen here (ready-for here ready).none)
