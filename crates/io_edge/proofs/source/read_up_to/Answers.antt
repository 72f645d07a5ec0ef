use Rattle.std.proofs.Common.{◌++◌, ◌+◌, ◌-◌, ◌≤◌, take, length, length-append, length-take, length-take-le, arith}
use Rattle.std.proofs.lemmas.Result.{err_from_is_err_and}
use Rattle.io_edge.proofs.Taken.{takes_more, takes_front}
use Rattle.io_edge.proofs.source.read_up_to.Goals as goal

pub returns-in_err-extend_from_slice-in-Bytes-clause-memory :
    goal.returns-in_err-extend_from_slice-in-Bytes-clause-memory
returns-in_err-extend_from_slice-in-Bytes-clause-memory g c =
    let p = err_from_is_err_and c.from_residual.result c.from_residual.ensures.1 in
    let bytes = c.loop-piece.bytes.items in
    let piece = take c.in-Bytes.n c.read.new.buffer in
    let fits : c.in-Bytes.n ≤ length c.read.new.buffer = c.in-Bytes.ensures.fits in
    let len = c.loop-piece.bytes.ok.0 in
    let room : length c.read.new.buffer ≤ c.args.most - length bytes + 1 =
    omega (arith, c.read.auto.buffer, length-take (c.min-room.result + 1) c.loop-piece.piece) in
    rw p.1 (
      length (bytes ++ piece),
      omega (arith, length-append bytes piece, length-take-le c.in-Bytes.n c.read.new.buffer fits),
      takes_front (bytes ++ piece) _ _
          (takes_more bytes piece _ _ _ c.loop-piece.invariant.taken c.in-Bytes.ensures.given),
    )
