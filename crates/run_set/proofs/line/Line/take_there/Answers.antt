use Rattle.std.proofs.Common.{◌≡◌, ◌-◌, get_or, sym, ◌∙◌, arith}
use Rattle.run_set.proofs.line.Line.take_there.Goals.{then-stood-eq0-via-then-stood-eq0}
use Rattle.run_set.proofs.line.Line.take_there.Goals.{then-stood-eq0-via-else-stood-eq0+then-number_or-n}
use Rattle.run_set.proofs.Lines.{climbs_out, count_out, is_absent}
use Rattle.run_set.proofs.line.Line.take_there.Goals as goal

pub returns-clause-climbs : goal.returns-clause-climbs
returns-clause-climbs c =
    rw c.remove.ensures.items (climbs_out 0 c.args.self.now.items (c.count_to-stood.result - 1) c.requires)

pub returns-clause-taken : goal.returns-clause-taken
returns-clause-taken c e m =
    let is : get_or c.args.self.now.items (c.count_to-stood.result - 1) 0 ≡ c.args.n =
    sym c.number_or.ensures ∙ c.if-number_or-n.false in
    let out = count_out c.args.self.now.items (c.count_to-stood.result - 1) m 0 (omega arith) in
    rw c.remove.ensures.items (rw is at out)

pub returns-then-stood-eq0-clause-absent : goal.returns-then-stood-eq0-clause-absent
returns-then-stood-eq0-clause-absent c e = elim c.then-stood-eq0.branch [
  | then-stood-eq0-via-then-stood-eq0 w ↦ is_absent c.args.self.now.items c.args.n c.count_to-stood.result c.requires
      (sym c.count_to-stood.ensures.is) (λ p q. absurd (omega (arith, w.if-stood-eq0)))
  | then-stood-eq0-via-else-stood-eq0+then-number_or-n w ↦ is_absent c.args.self.now.items c.args.n
      c.count_to-stood.result
      c.requires (sym c.count_to-stood.ensures.is) (λ p q. w.if-number_or-n.true (w.number_or.ensures ∙ q))
]
