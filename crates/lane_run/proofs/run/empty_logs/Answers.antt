use Rattle.std.proofs.Common.{◌+◌, ◌∙◌, ap, length, length-append}
use Rattle.lane_run.proofs.ClosingLaws.{none-more}
use Rattle.lane_run.proofs.run.empty_logs.Goals as goal

pub loop-preserved : goal.loop-preserved
loop-preserved c =
    let logs = c.loop.logs.items in
    let more = c.in_ok-push.ensures.items in
    record {
      count = ap length more ∙ length-append logs _ ∙ ap (λ n. n + 1) c.loop.invariant.count;
      empty = none-more (λ l. l.items) logs c.push.new.self.items c.new.result more c.loop.invariant.empty
          c.new.ensures.items;
    }
