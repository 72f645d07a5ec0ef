use Rattle.std.proofs.Common.{◌≡◌, ◌-◌, ◌++◌, length, take, ap, ◌∙◌, arith}
use Rattle.run_set.specs.Edges.{edge_if}
use Rattle.run_set.specs.Numbers.{stacked}
use Rattle.run_set.proofs.Lines.{length_stacked, put_both}
use Rattle.run_set.proofs.line.Line.replace.Goals as goal

pub returns-clause-items : goal.returns-clause-items
returns-clause-items c =
    let range = rw (← c.self.view_is) at c.requires.at in
    let long = length_stacked c.self.inside.before.items c.self.inside.behind.items in
    let before = c.go_to.new.before.items in
    let behind = c.go_to.new.behind.items in
    let first = edge_if c.args.first.1 c.args.first.0 in
    let second = edge_if c.args.second.1 c.args.second.0 in
    let all : c.len.result ≡ length behind = omega (arith, c.len.ensures) in
    rw (← c.self.view_is, c.truncate.ensures.items, c.push_if-2.ensures.items, c.push_if.ensures.items)
    (ap (λ n. stacked ((before ++ first) ++ second) (take (n - c.args.gone) behind)) all
    ∙ put_both c.args.at c.args.gone before behind _ first second c.go_to.ensures.items c.go_to.ensures.place
    (omega (arith, range, long, c.go_to.ensures.len, c.go_to.ensures.at)))
