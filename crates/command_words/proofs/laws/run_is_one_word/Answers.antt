use Rattle.command_words.proofs.Bounds.{run_alone}
use Rattle.command_words.proofs.laws.run_is_one_word.Goals as goal

pub returns : goal.returns
returns c = run_alone
