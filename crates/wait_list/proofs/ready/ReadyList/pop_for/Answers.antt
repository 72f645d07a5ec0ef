use Rattle.wait_list.specs.Reserved.{IsReserved}
use Rattle.wait_list.proofs.Rest.{rest_kept}
use Rattle.wait_list.proofs.ready.ReadyList.pop_for.Goals as goal

pub invariant_of-self-then-eq : goal.invariant_of-self-then-eq
invariant_of-self-then-eq c =
    rest_kept IsReserved c.in_ok-load.load _ _ _ _ _ c.in_ok-load.ensures.items
    c.in_ok-load.ensures.capacity c.self.invariant
