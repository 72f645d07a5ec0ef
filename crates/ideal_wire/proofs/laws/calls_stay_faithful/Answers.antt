use Rattle.ideal_wire.proofs.Faithful.Calls.{sync-faithful, sync_range-faithful, cpu_write-faithful, dev_write-faithful}
use Rattle.ideal_wire.proofs.Faithful.Calls.{dev_write_at-faithful, ring_post-faithful, ring_step-faithful}
use Rattle.ideal_wire.proofs.laws.calls_stay_faithful.Goals as goal

pub returns-clause-sync : goal.returns-clause-sync
returns-clause-sync c = λ l w m ops r apart laid f. sync-faithful l w apart laid f m ops r

pub returns-clause-sync_range : goal.returns-clause-sync_range
returns-clause-sync_range c = λ l w m off len ops r apart laid f. sync_range-faithful l w apart laid f m off len ops r

pub returns-clause-cpu_write : goal.returns-clause-cpu_write
returns-clause-cpu_write c = λ l w place vs r apart laid f. cpu_write-faithful l w apart laid f place vs r

pub returns-clause-dev_write : goal.returns-clause-dev_write
returns-clause-dev_write c = λ l w m off vs r apart laid f. dev_write-faithful l w apart laid f m off vs r

pub returns-clause-dev_write_at : goal.returns-clause-dev_write_at
returns-clause-dev_write_at c = λ l w t addr vs r apart stands laid spaced mapped f.
    dev_write_at-faithful l w apart laid f
    (record { stands = stands; laid = laid; spaced = spaced; mapped = mapped }) t addr vs r

pub returns-clause-ring_post : goal.returns-clause-ring_post
returns-clause-ring_post c = λ l w k slot m off len kind fill r apart laid f.
    ring_post-faithful l w apart laid f k slot m off len kind fill r

pub returns-clause-ring_step : goal.returns-clause-ring_step
returns-clause-ring_step c = λ l w k r apart stands laid f. ring_step-faithful l w apart laid f stands k r
