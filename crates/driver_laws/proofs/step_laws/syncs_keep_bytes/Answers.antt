use Rattle.driver_laws.proofs.Syncing.{range-contents, range-mapped, sync-contents, sync-mapped}
use Rattle.driver_laws.proofs.step_laws.syncs_keep_bytes.Goals as goal

pub returns-clause-mapped : goal.returns-clause-mapped
returns-clause-mapped c = λ l n m ops k s. sync-mapped l n m ops s k

pub returns-clause-contents : goal.returns-clause-contents
returns-clause-contents c = λ l n m ops keeps s. sync-contents l n m ops s keeps

pub returns-clause-range_mapped : goal.returns-clause-range_mapped
returns-clause-range_mapped c = λ l n m off len ops k s. range-mapped l n m off len ops s k

pub returns-clause-range_contents : goal.returns-clause-range_contents
returns-clause-range_contents c = λ l n m off len ops keeps s. range-contents l n m off len ops s keeps
