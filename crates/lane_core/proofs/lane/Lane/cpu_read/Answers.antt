use Rattle.lane_core.proofs.LaneCalls.{cpu-reads}
use Rattle.lane_core.proofs.lane.Lane.cpu_read.Goals as goal

pub returns-clause-read : goal.returns-clause-read
returns-clause-read c =
    let l = c.args.self.now in
    cpu-reads l.holdings l.wired c.args.place c.args.len c.cpu_read.result c.cpu_read.ensures
