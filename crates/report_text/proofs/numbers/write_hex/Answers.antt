use Rattle.std.proofs.Common.{false, ap, arith}
use Rattle.std.proofs.Math.ListN.{drop_of_length-le}
use Rattle.std.specs.Fmt.{digits, digits_onto}
use Rattle.report_text.proofs.numbers.write_hex.Goals as goal

pub loop-at-init : goal.loop-at-init
unfolding digits
loop-at-init c = record {
  within = omega arith;
  room = c.told-buffer;
  digits = ap (digits_onto 64 16 false c.args.number)
      (drop_of_length-le c.args.buffer.now {i = 64} (omega (arith, c.told-buffer)));
}
