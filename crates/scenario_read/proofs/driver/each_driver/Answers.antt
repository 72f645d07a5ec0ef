use Rattle.std.proofs.Common.{arith}
use Rattle.std.proofs.lemmas.Grind.{common_steps}
use Rattle.busdma_base.specs.Scenarios.Valid.{IsDriver}
use Rattle.scenario_format.specs.declared.counts.Counts.{Counts}
use Rattle.scenario_read.proofs.Counting.{read_more, loaded_more}
use Rattle.script_read.proofs.Each.{EachAfter-append}
use Rattle.scenario_read.proofs.driver.each_driver.Goals as goal

pub loop-value-preserved : goal.loop-value-preserved
loop-value-preserved c =
    let start : Counts = record { steps = 0; read = c.loop-value.counts.read; loaded = c.loop-value.counts.loaded } in
    record {
      rest = grind (arith, common_steps);
      valid = rw c.in_ok-push.ensures.items
          (EachAfter-append (IsDriver c.args.frames.now) _ _ c.in_ok-driver.driver c.loop-value.invariant.valid
          (rw (← c.deref.ensures.value) c.in_ok-driver.ensures.valid));
      count = grind (arith, common_steps);
      read = rw c.in_ok-push.ensures.items
          (read_more c.driver.new.counts start c.loop-value.drivers.items c.in_ok-driver.driver
          c.in_ok-driver.ensures.counted c.loop-value.invariant.read);
      loaded = rw c.in_ok-push.ensures.items
          (loaded_more c.driver.new.counts start c.loop-value.drivers.items c.in_ok-driver.driver
          c.in_ok-driver.ensures.counted c.loop-value.invariant.loaded);
      within = grind (arith, common_steps);
    }
