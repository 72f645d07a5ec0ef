use Rattle.std.proofs.Common.{◌≡◌, ◌∙◌, ◌∷◌, [], Some, None, subst}
use Rattle.std.proofs.lemmas.Bool.Decides.{Decides-eqb}
use Rattle.std.proofs.lemmas.Slice.Eq.{strip_prefix_is}
use Rattle.std.specs.Fmt.{decimal}
use Rattle.program_rules.specs.Verdicts.Header.{header}
use Rattle.journal_check.proofs.Headers.{Stripped, behind-number, no-number}
use Rattle.journal_check.proofs.header.behind_header.Goals as goal

pub returns-in_err-behind : goal.returns-in_err-behind
returns-in_err-behind c =
    let input = c.args.input.now in
    let digits = c.as_bytes.result.now in
    let own : digits ≡ decimal c.args.size = c.as_bytes.ensures.value ∙ c.format.ensures.text in
    let off : Stripped input digits None =
    subst (Stripped input digits) c.in_err-behind.was
    (strip_prefix_is Decides-eqb input digits c.strip_prefix.result c.strip_prefix.ensures.cases) in
    rw c.from_residual.ensures (no-number input digits c.args.size own off)

pub returns : goal.returns
returns c =
    let input = c.args.input.now in
    let digits = c.as_bytes.result.now in
    let own : digits ≡ decimal c.args.size = c.as_bytes.ensures.value ∙ c.format.ensures.text in
    let first : Stripped input digits (Some c.in_ok-behind.behind) =
    subst (Stripped input digits) c.in_ok-behind.was
    (strip_prefix_is Decides-eqb input digits c.strip_prefix.result c.strip_prefix.ensures.cases) in
    behind-number input digits c.in_ok-behind.behind.now c.args.size c.strip_prefix-2.result own first
    (strip_prefix_is Decides-eqb c.in_ok-behind.behind.now (10 ∷ []) c.strip_prefix-2.result
    c.strip_prefix-2.ensures.cases)
