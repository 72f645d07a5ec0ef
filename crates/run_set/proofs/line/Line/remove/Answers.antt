use Rattle.std.proofs.Common.{◌≡◌, ◌-◌, length, take, ap, ◌∙◌, arith}
use Rattle.run_set.specs.Numbers.{stacked}
use Rattle.run_set.proofs.Lines.{length_stacked, taken_out}
use Rattle.run_set.proofs.line.Line.remove.Goals as goal

pub returns-clause-items : goal.returns-clause-items
returns-clause-items c =
    let range = rw (← c.self.view_is) at c.requires in
    let long = length_stacked c.self.inside.before.items c.self.inside.behind.items in
    let before = c.go_to.new.before.items in
    let behind = c.go_to.new.behind.items in
    let all : c.len.result ≡ length behind = omega (arith, c.len.ensures) in
    rw (← c.self.view_is, c.truncate.ensures.items) (ap (λ n. stacked before (take (n - c.args.count) behind)) all
    ∙ taken_out c.args.at c.args.count before behind _ c.go_to.ensures.items c.go_to.ensures.place
    (omega (arith, range, long, c.go_to.ensures.len, c.go_to.ensures.at)))
