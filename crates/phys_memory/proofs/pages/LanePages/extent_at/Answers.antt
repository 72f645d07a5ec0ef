use Rattle.std.proofs.Common.{sym, ◌∙◌, subst, arith}
use Rattle.std.specs.Prelude.{Option, IfSome}
use Rattle.phys_memory.specs.declared.reach.Reach.{Reach}
use Rattle.phys_memory.specs.Memory.{IsReachOf}
use Rattle.phys_memory.proofs.Reached.{next_is}
use Rattle.phys_memory.proofs.pages.LanePages.extent_at.Goals as goal

pub returns-clause-next : goal.returns-clause-next
returns-clause-next c =
    let is =
    subst (λ (o : Option Reach). IfSome o (IsReachOf c.args.self.now.memory)) c.in_ok-row.was c.row_by.ensures.row in
    next_is c.args.self.now.memory c.args.at c.min.result c.args.left c.in_ok-row.row (sym c.row_by.ensures.is
    ∙ c.in_ok-row.was) is (omega arith) c.requires.some (omega arith)
