use Rattle.ideal_wire.proofs.Apart.Frames.{agreeing-apart}
use Rattle.ideal_wire.proofs.laws.agreeing_pages_are_apart.Goals as goal

pub returns : goal.returns
returns c = λ l a stands agrees laid. agreeing-apart l a agrees stands laid
