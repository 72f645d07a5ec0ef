-- Counts after one more driver.
use Rattle.std.proofs.Common.{◌≡◌, List, [], ◌∷◌, ◌++◌, sum_by, arith, ap, ◌∙◌}
use Rattle.std.proofs.lemmas.List.Sums.{sum_by-append}
use Rattle.busdma_base.specs.declared.scenarios.scenario.Driver.{Driver}
use Rattle.busdma_base.specs.Scenarios.Operations.{read_by, loaded_by}
use Rattle.busdma_base.specs.Scenarios.Valid.{read_of, loaded_of}
use Rattle.scenario_format.specs.declared.counts.Counts.{Counts}
use Rattle.scenario_format.specs.Parts.Counts.{with_ops}

pub read_more : (new old : Counts) (ds : List Driver) (d : Driver)
    → new ≡ with_ops old d.script → old.read ≡ read_of ds → new.read ≡ read_of (ds ++ d ∷ [])
read_more new old ds d e h =
    ap (λ (k : Counts). k.read) e
    ∙ rw (sum_by-append (λ (x : Driver). sum_by read_by x.script) ds (d ∷ [])) (omega (arith, h))

pub loaded_more : (new old : Counts) (ds : List Driver) (d : Driver)
    → new ≡ with_ops old d.script → old.loaded ≡ loaded_of ds → new.loaded ≡ loaded_of (ds ++ d ∷ [])
loaded_more new old ds d e h =
    ap (λ (k : Counts). k.loaded) e
    ∙ rw (sum_by-append (λ (x : Driver). sum_by loaded_by x.script) ds (d ∷ [])) (omega (arith, h))
