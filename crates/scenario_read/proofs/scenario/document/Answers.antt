use Rattle.std.proofs.Common.{rules}
use Rattle.serde_json.specs.Errors.{IsMemory}
use Rattle.scenario_read.proofs.Documents.{is_document, no_document}
use Rattle.scenario_read.proofs.scenario.document.Goals as goal

pub returns-in-Ok : goal.returns-in-Ok
returns-in-Ok c = is_document _ _ c.in-Ok.ensures.ok.0 c.in-Ok.ensures.ok.1

pub returns-else-is_memory : goal.returns-else-is_memory
returns-else-is_memory c =
    let other : IsMemory c.in-Err.e → ⊥ = search rules in
    no_document _ (c.in-Err.ensures.err other)
