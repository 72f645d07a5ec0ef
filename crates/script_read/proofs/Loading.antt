-- A load without frames may be a load of any driver's pages.
use Rattle.std.proofs.Common.{◌≡◌, List, Option, Some, Result, IfOk, IfSome, subst, sym}
use Rattle.std.proofs.lemmas.Result.{IfOk-weaker}
use Rattle.busdma_base.specs.declared.scenarios.buffer.Buffer.{Buffer}
use Rattle.busdma_base.specs.declared.scenarios.scenario.PageRun.{PageRun}
use Rattle.busdma_base.specs.declared.scenarios.script.Op.{Op}
use Rattle.busdma_base.specs.Scenarios.Buffers.{IsBufferOf}
use Rattle.busdma_base.specs.Scenarios.Operations.{about}
use Rattle.busdma_base.specs.Scenarios.Valid.{LoadsFrom}

pub loads_from_any : {E : Type 0} (r : Result Op E) (b : Buffer)
    → ((pages : List PageRun) → IsBufferOf pages b) → IfOk r (λ o. (about o).loads ≡ Some b)
    → IfOk r (λ o. (pages : List PageRun) → LoadsFrom pages o)
loads_from_any r b own loads =
    IfOk-weaker r (λ o. (about o).loads ≡ Some b) (λ o. (pages : List PageRun) → LoadsFrom pages o)
    (λ o is pages. subst (λ (x : Option Buffer). IfSome x (IsBufferOf pages)) (sym is) (own pages)) loads

pub loads_from_these : {E : Type 0} (r : Result Op E) (pages : List PageRun)
    → IfOk r (λ o. (pages : List PageRun) → LoadsFrom pages o) → IfOk r (LoadsFrom pages)
loads_from_these r pages any =
    IfOk-weaker r (λ o. (pages : List PageRun) → LoadsFrom pages o) (LoadsFrom pages) (λ o from. from pages) any
