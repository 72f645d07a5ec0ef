use Rattle.ideal_wire.proofs.Apart.Frames.{agreeing-apart}
use Rattle.ideal_wire.proofs.Apart.ReachedOnce.{reached-once}
use Rattle.ideal_wire.proofs.laws.bytes_are_reached_once.Goals as goal

pub returns : goal.returns
returns c = λ l a va vb pa stands agrees machine laid e f.
    reached-once l laid (agreeing-apart l a agrees stands laid) machine va vb pa e f
