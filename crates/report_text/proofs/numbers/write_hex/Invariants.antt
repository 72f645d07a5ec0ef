use Rattle.std.proofs.Common.{◌≡◌, ◌≤◌, false, drop, length}
use Rattle.std.specs.Fmt.{digits, digits_onto}
use Rattle.report_text.proofs.numbers.write_hex.Given as goal

-- the digits that are written and those of the rest are the number's
abbrev pub invariant-loop-at : goal.invariant-loop-at
invariant-loop-at l = record {
  within : l.at ≤ 64;
  room : length l.buffer ≡ 64;
  digits : digits_onto l.at 16 false l.rest (drop l.at l.buffer) ≡ digits 16 false l.number;
}

abbrev pub decreases-loop-at : goal.decreases-loop-at
decreases-loop-at l = l.at
