use Rattle.std.proofs.Common.{rules, arith}
use Rattle.report_text.proofs.Pairs.{byte_step, bytes_done}
use Rattle.report_text.proofs.numbers.write_bytes.Goals as goal

pub loop-place-preserved : goal.loop-place-preserved
loop-place-preserved c = (
  search rules,
  byte_step c.args.bytes.now c.loop-place.buffer c.loop-place.place _ _ (omega arith) (omega arith)
      c.hex_digit.ensures c.hex_digit-in-loop-place.ensures c.loop-place.invariant.1,
)

pub returns : goal.returns
returns c = bytes_done c.args.bytes.now c.loop-place.buffer c.loop-place.place (omega arith) c.loop-place.invariant.1
