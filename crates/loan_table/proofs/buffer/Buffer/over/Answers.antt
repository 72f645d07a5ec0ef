use Rattle.std.proofs.Common.{arith}
use Rattle.loan_table.proofs.Stretches.{as_many, stretches_kept}
use Rattle.loan_table.proofs.buffer.Buffer.over.Goals as goal

pub starts_of-requires : goal.starts_of-requires
starts_of-requires c =
    rw c.deref.ensures.value (omega (
      arith,
      as_many c.in_ok-stretches.stretches.items c.args.extents.now
          c.in_ok-stretches.ensures.bytes,
      c.requires.total,
    ))

pub invariant_of-result : goal.invariant_of-result
invariant_of-result c =
    stretches_kept _ c.args.extents.now _ _ _ c.in_ok-stretches.ensures.ends
    (rw c.deref.ensures.value at c.in_ok-starts.ensures) c.in_ok-stretches.ensures.bytes
    c.len_of-len.ensures c.requires.total (rw c.deref-2.ensures.value at c.in_ok-places.ensures)
