use Rattle.std.proofs.Common.{◌≡◌, ◌∙◌, sym, ap, cond, ℕ, refl, false, []}
use Rattle.std.specs.List.{filter}
use Rattle.busdma_machine.specs.Machine.Wire.{stretch}
use Rattle.loan_table.specs.declared.losing.Losing.{Losing}
use Rattle.loan_table.specs.declared.losing.Losing.TheVariants.{Call, Forgetting}
use Rattle.busdma_rules.specs.declared.position.Position.{Position}
use Rattle.loan_table.specs.Kinds.{losing_test}
use Rattle.busdma_rules.specs.Lending.Loans.{addresses_of}
use Rattle.loan_table.specs.Rows.{lent_like}
use Rattle.loan_table.specs.Table.{set_all}
use Rattle.loan_table.proofs.Pieces.{filter-like, lent_as}
use Rattle.loan_table.proofs.losing.lose_span.Goals as goal

same : (losing : Losing) (p : Position) (a : ℕ) → losing_test losing (lent_as p a) ≡ losing_test losing p
same (Call ops) p a = refl
same Forgetting p a = refl

pub returns-then-takes-clause-bytes : goal.returns-then-takes-clause-bytes
returns-then-takes-clause-bytes c =
    let p = c.args.span.now.first in
    let test = losing_test c.args.losing in
    let range = stretch c.args.at c.args.span.now.len c.args.row.now.positions in
    let like = lent_like p (addresses_of range) in
    let all : filter test range ≡ range =
    ap (filter test) c.requires.alike ∙ filter-like test p (addresses_of range) (same c.args.losing p)
    ∙ ap (λ b. cond b like []) (sym c.takes.ensures ∙ c.if-takes.true) ∙ sym c.requires.alike in
    c.set_range.ensures.bytes ∙ ap (λ ps. set_all c.args.bytes.now.bytes (addresses_of ps) false) (sym all)

pub returns-else-takes-clause-bytes : goal.returns-else-takes-clause-bytes
returns-else-takes-clause-bytes c =
    let p = c.args.span.now.first in
    let test = losing_test c.args.losing in
    let range = stretch c.args.at c.args.span.now.len c.args.row.now.positions in
    let like = lent_like p (addresses_of range) in
    let none : filter test range ≡ [] =
    ap (filter test) c.requires.alike ∙ filter-like test p (addresses_of range) (same c.args.losing p)
    ∙ ap (λ b. cond b like []) (sym c.takes.ensures ∙ c.if-takes.false) in
    ap (λ ps. set_all c.args.bytes.now.bytes (addresses_of ps) false) (sym none)
