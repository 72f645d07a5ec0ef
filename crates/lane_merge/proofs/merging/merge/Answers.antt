use Rattle.std.proofs.Common.{◌≡◌, IfOk, subst}
use Rattle.ideal_runs.specs.Merged.{merged}
use Rattle.lane_merge.proofs.Cloned.{same-logs}
use Rattle.lane_merge.proofs.merging.merge.Goals as goal

pub returns : goal.returns
returns c =
    subst (λ logs. IfOk c.merge_owned.result (λ v. v.items ≡ merged c.args.holds.now logs))
    (same-logs (λ q. q.items) _ c.args.logs.now c.in_ok-own.own.items c.in_ok-own.ensures.items)
    c.merge_owned.ensures
