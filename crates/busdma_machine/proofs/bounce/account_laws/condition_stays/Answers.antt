use Rattle.busdma_machine.proofs.Accounts.ShareLaws.{MayCall-stays, frames-stay, SameFor-history}
use Rattle.busdma_machine.proofs.bounce.account_laws.condition_stays.Goals as goal

pub returns-clause-may : goal.returns-clause-may
returns-clause-may c = MayCall-stays

pub returns-clause-frames : goal.returns-clause-frames
returns-clause-frames c = frames-stay

pub returns-clause-same : goal.returns-clause-same
returns-clause-same c = SameFor-history
