use Rattle.std.proofs.Common.{◌/◌, sym, ◌∙◌, subst, arith}
use Rattle.std.specs.Prelude.{Some}
use Rattle.phys_memory.specs.Memory.{RoomyFrames as Roomy, IsMemory}
use Rattle.phys_memory.specs.Stretches.{whole}
use Rattle.phys_memory.proofs.Kept.{row_is}
use Rattle.phys_memory.proofs.Stretches.{got_in, row_in}
use Rattle.phys_memory.proofs.pages.LanePages.row_by.Goals as goal

pub returns-clause-is : goal.returns-clause-is
returns-clause-is c =
    sym (row_in c.args.self.now.memory c.args.known c.args.at c.in-Some.frame c.requires (omega arith)
    (sym c.frame_of.ensures ∙ c.in-Some.is))

pub returns-clause-row : goal.returns-clause-row
returns-clause-row c =
    let m = c.args.self.now.memory in
    let page = c.args.at / 4096 in
    row_is m page (Some (whole c.in-Some.frame)) (subst (λ (r : Roomy). IsMemory r.memory) c.self.view_is
    c.self.invariant.memory)
    (got_in m.table c.args.known page c.in-Some.frame c.requires (sym c.frame_of.ensures ∙ c.in-Some.is))
