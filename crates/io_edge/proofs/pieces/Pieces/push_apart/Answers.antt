use Rattle.io_edge.proofs.Giving.{gives_then}
use Rattle.io_edge.proofs.pieces.Pieces.push_apart.Goals as goal

pub returns : goal.returns
returns g c = gives_then c.write_piece.ensures.gives c.begin_piece.ensures
