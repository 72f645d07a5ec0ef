use Rattle.std.proofs.Common.{◌≡◌, ◌/◌, ◌^◌, Bool, true, ap, sym, ◌∙◌, subst, arith}
use Rattle.std.specs.Prelude.{None, IfSome, if◌then◌else◌, nat_lt}
use Rattle.std.specs.FinMap.{get}
use Rattle.std.proofs.lemmas.Bool.{lt-ltb}
use Rattle.phys_memory.specs.Memory.{RoomyFrames as Roomy, IsReachOf}
use Rattle.phys_memory.proofs.Kept.{row_is}
use Rattle.phys_memory.proofs.Changes.{row_found}
use Rattle.phys_memory.proofs.pages.LanePages.row_at.Goals as goal

pub returns-clause-is : goal.returns-clause-is
returns-clause-is c =
    let m = c.self.inside in
    let at = c.args.at in
    let low : nat_lt at (2 ^ 64) ≡ true = lt-ltb at (2 ^ 64) (omega arith) in
    sym (row_found m.table.entries m.frames.entries at c.copied.result
    (sym c.get.ensures.value ∙ sym c.copied.ensures))
    ∙ ap (λ (r : Roomy). get r.memory.table (at / 4096)) c.self.view_is
    ∙ ap (λ (b : Bool). if b then get c.args.self.now.memory.table (at / 4096) else None) (sym low)

pub returns-clause-row : goal.returns-clause-row
returns-clause-row c =
    let m = c.self.inside in
    let at = c.args.at in
    let found =
    row_found m.table.entries m.frames.entries at c.copied.result
    (sym c.get.ensures.value ∙ sym c.copied.ensures) in
    subst (λ (r : Roomy). IfSome c.copied.result (IsReachOf r.memory)) c.self.view_is
    (row_is _ (at / 4096) c.copied.result c.self.invariant.memory found)
