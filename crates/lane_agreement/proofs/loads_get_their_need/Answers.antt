use Rattle.std.proofs.Common.{refl}
use Rattle.lane_agreement.proofs.Whole.{granted-length, called-length}
use Rattle.lane_agreement.proofs.loads_get_their_need.Goals as goal

pub returns-clause-granted : goal.returns-clause-granted
returns-clause-granted c = granted-length

pub returns-clause-called : goal.returns-clause-called
returns-clause-called c = λ l a m pages well agrees e. called-length l a.ready a m pages well agrees refl e
