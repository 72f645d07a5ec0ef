use Rattle.std.proofs.Common.{◌≡◌}
use Rattle.lane_rounds.specs.AtWork.{Grows, Works, worker_place}
use Rattle.lane_rounds.proofs.worker.Worker.cycles.Given as goal

abbrev pub invariant-loop : goal.invariant-loop
invariant-loop g l = record {
  works : Works g.D.HubDoor.seen l.self;
  place : worker_place g.D.HubDoor.fixed l.self ≡ worker_place g.D.HubDoor.fixed l.initial.self;
  grew : Grows l.initial.self.log.items l.self.log.items l.stepped;
}
