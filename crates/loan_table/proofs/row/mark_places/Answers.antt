use Rattle.std.proofs.Common.{◌+◌, arith}
use Rattle.loan_table.proofs.PlacedBytes.{few_edges}
use Rattle.loan_table.proofs.row.mark_places.Goals as goal

pub set-requires : goal.set-requires
set-requires c =
    omega (arith, few_edges 0 (c.args.len + 1) c.args.places.now.edges c.requires.room.rise, c.requires.room.room)
