use Rattle.journal_check.proofs.Headers.{cut-is, is-cut}
use Rattle.journal_check.proofs.laws.inputs_have_headers.Goals as goal

pub returns : goal.returns
returns c = λ input cut. (cut-is input cut, is-cut input cut)
