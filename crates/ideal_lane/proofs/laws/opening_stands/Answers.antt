use Rattle.busdma_base.proofs.OpeningLaws.{opening-may_begin}
use Rattle.ideal_lane.proofs.OpeningLaws.{opens-standing, opens-agreeing}
use Rattle.ideal_lane.proofs.laws.opening_stands.Goals as goal

pub returns-clause-stands : goal.returns-clause-stands
returns-clause-stands c = opens-standing

pub returns-clause-agrees : goal.returns-clause-agrees
returns-clause-agrees c = λ s i driver valid is. opens-agreeing s i driver (opening-may_begin s valid) is
