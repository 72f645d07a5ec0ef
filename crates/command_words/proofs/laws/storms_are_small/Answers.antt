use Rattle.command_words.proofs.Bounds.{storm_bounds}
use Rattle.command_words.proofs.laws.storms_are_small.Goals as goal

pub returns : goal.returns
returns c = storm_bounds
