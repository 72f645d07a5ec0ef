use Rattle.driver_laws.proofs.Unloading.{postread-unload, unload-contents}
use Rattle.driver_laws.proofs.step_laws.unloads_keep_bytes.Goals as goal

pub returns-clause-contents : goal.returns-clause-contents
returns-clause-contents c = unload-contents

pub returns-clause-postread : goal.returns-clause-postread
returns-clause-postread c = postread-unload
