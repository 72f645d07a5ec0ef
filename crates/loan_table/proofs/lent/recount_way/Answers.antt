use Rattle.std.proofs.Common.{◌≡◌, ◌∙◌, ap, cond, arith}
use Rattle.busdma_machine.specs.Machine.Wire.{stretch}
use Rattle.loan_table.specs.Kinds.{test_of}
use Rattle.busdma_rules.specs.Lending.Loans.{addresses_of}
use Rattle.loan_table.specs.Rows.{stands}
use Rattle.loan_table.proofs.Pieces.{alike_marked_of, alike_places_of}
use Rattle.loan_table.proofs.lent.recount_way.Goals as goal

pub count_range-requires-clause-held : goal.count_range-requires-clause-held
count_range-requires-clause-held c less a =
    let range = stretch c.args.at c.args.span.now.len c.args.row.now.positions in
    let here = stands a (addresses_of range) in
    let before = alike_places_of c.args.way a c.args.span.now.first range c.requires.alike in
    let was = ap (λ b. cond b here 0) c.passes-was_lent.ensures in
    let is = ap (λ b. cond b 0 here) less in
    let turned : cond c.passes-was_lent.result here 0 ≡ cond c.passes-is_lent.result 0 here =
    grind (arith, c.if-was_lent-is_lent.true) in
    omega (arith, before, was, is, turned, c.requires.held a)

pub returns-then-was_lent-is_lent-clause-counts : goal.returns-then-was_lent-is_lent-clause-counts
returns-then-was_lent-is_lent-clause-counts c a =
    let range = stretch c.args.at c.args.span.now.len c.args.row.now.positions in
    let here = stands a (addresses_of range) in
    let before = alike_places_of c.args.way a c.args.span.now.first range c.requires.alike in
    let after = alike_marked_of c.args.way a c.args.span.now.first range c.requires.alike c.args.ops.0 in
    let was = ap (λ b. cond b here 0) c.passes-was_lent.ensures in
    let is = ap (λ b. cond b here 0) (c.passes-is_lent.ensures ∙ ap (test_of c.args.way) c.marked.ensures) in
    let turned : cond c.passes-was_lent.result here 0 ≡ cond c.passes-is_lent.result 0 here =
    grind (arith, c.if-was_lent-is_lent.true) in
    omega (arith, before, after, was, is, turned, c.count_range.ensures.counts a)

pub returns-else-was_lent-is_lent-clause-counts : goal.returns-else-was_lent-is_lent-clause-counts
returns-else-was_lent-is_lent-clause-counts c a =
    let range = stretch c.args.at c.args.span.now.len c.args.row.now.positions in
    let here = stands a (addresses_of range) in
    let before = alike_places_of c.args.way a c.args.span.now.first range c.requires.alike in
    let after = alike_marked_of c.args.way a c.args.span.now.first range c.requires.alike c.args.ops.0 in
    let was = ap (λ b. cond b here 0) c.passes-was_lent.ensures in
    let is = ap (λ b. cond b here 0) (c.passes-is_lent.ensures ∙ ap (test_of c.args.way) c.marked.ensures) in
    let same : cond c.passes-was_lent.result here 0 ≡ cond c.passes-is_lent.result here 0 =
    grind (arith, c.if-was_lent-is_lent.false) in
    omega (arith, before, after, was, is, same)
