use Rattle.storm.proofs.Validity.{storm_valid}
use Rattle.storm.proofs.laws.storms_are_valid.Goals as goal

pub returns : goal.returns
returns c = storm_valid
