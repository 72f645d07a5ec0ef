use Rattle.std.proofs.Common.{arith}
use Rattle.journal_check.proofs.Alike.{begin-alike, end-alike, end-other, goes-alike, stops-alike}
use Rattle.journal_check.proofs.closing.lines_alike.Goals as goal

pub returns-else-at-other-clause-alike : goal.returns-else-at-other-clause-alike
returns-else-at-other-clause-alike c =
    end-other c.args.text.now c.args.other.now c.loop-at.at c.loop-at.count c.loop-at.invariant.same c.if-at-other.false
