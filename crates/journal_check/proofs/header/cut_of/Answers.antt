use Rattle.std.proofs.Common.{arith, ◌≡◌, ◌<◌, ◌≤◌, ◌∙◌, ◌++◌, ℕ, List, Some, None, sym, ap, length, take, subst}
use Rattle.program_rules.specs.Verdicts.Header.{header}
use Rattle.journal_check.proofs.Headers.{Headed, Stripped, cut-of, headed-by, none-of, not-behind, same-number}
use Rattle.journal_check.proofs.Headers.{same-rest}
use Rattle.journal_check.proofs.header.cut_of.Goals as goal
use Rattle.journal_check.proofs.header.cut_of.Goals.{else-size-le-MOST-via-then-size-le-MOST+else-size-behind}
use Rattle.journal_check.proofs.header.cut_of.Goals.{else-size-le-MOST-via-else-size-le-MOST}

pub returns-in_err-size : goal.returns-in_err-size
returns-in_err-size c =
    rw c.from_residual.ensures (sym (none-of c.args.input.now (λ rest n h.
    let few : n < 100000000 = h.few in
    let told : c.first_number.result ≡ Some n = c.first_number.ensures n rest (omega (arith, few)) h.is in
    let none : c.first_number.result ≡ None = c.in_err-size.was in
    let clash : None ≡ Some n = sym none ∙ told in
    absurd (cc))))

pub returns-in_err-behind : goal.returns-in_err-behind
returns-in_err-behind c =
    let input = c.args.input.now in
    let size = c.in_ok-size.size in
    let off : Stripped input (header size) None =
    subst (Stripped input (header size)) c.in_err-behind.was c.behind_header.ensures in
    rw c.from_residual-in_err-behind.ensures (sym (none-of input (λ rest n h.
    not-behind input rest n size
    (same-number input rest n size c.first_number.result c.in_ok-size.was c.first_number.ensures h) off h)))

pub returns-then-size-behind : goal.returns-then-size-behind
returns-then-size-behind c =
    let input = c.args.input.now in
    let size = c.in_ok-size.size in
    let behind = c.in_ok-behind.behind.now in
    let is : Stripped input (header size) (Some c.in_ok-behind.behind) =
    subst (Stripped input (header size)) c.in_ok-behind.was c.behind_header.ensures in
    let headed : Headed input size behind = headed-by input behind size c.if-size-le-MOST.true is
    c.if-size-behind.true in
    ap (λ t. Some (record { scenario = t; report = c.split_at.result.1.now })) c.split_at.ensures.front
    ∙ (ap (λ t. Some (record { scenario = take size behind; report = t })) c.split_at.ensures.back
    ∙ sym (cut-of input behind size headed))

pub returns-else-size-le-MOST : goal.returns-else-size-le-MOST
returns-else-size-le-MOST c =
    let input = c.args.input.now in
    let size = c.in_ok-size.size in
    let behind = c.in_ok-behind.behind.now in
    let is : Stripped input (header size) (Some c.in_ok-behind.behind) =
    subst (Stripped input (header size)) c.in_ok-behind.was c.behind_header.ensures in
    sym (none-of input (λ rest n h.
    let same : size ≡ n = same-number input rest n size c.first_number.result c.in_ok-size.was c.first_number.ensures
    h in
    let long : length behind ≡ length rest = ap length (same-rest input behind rest n size same is h) in
    let few : n < 100000000 = h.few in
    let enough : n ≤ length rest = h.enough in
    elim c.else-size-le-MOST.branch [
      | else-size-le-MOST-via-then-size-le-MOST+else-size-behind w ↦
          omega (arith, w.if-size-behind.false, same, long, enough)
      | else-size-le-MOST-via-else-size-le-MOST w ↦ omega (arith, w.if-size-le-MOST.false, same, few)
    ]))
