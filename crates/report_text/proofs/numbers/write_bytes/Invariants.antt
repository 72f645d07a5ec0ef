use Rattle.std.proofs.Common.{◌≡◌, ◌*◌, ◌++◌, take, drop, length}
use Rattle.std.specs.List.{flat_map}
use Rattle.program_rules.specs.Reports.Answer.{byte_text}
use Rattle.report_text.proofs.numbers.write_bytes.Given as goal

-- the digits that are written, and those of the other bytes
abbrev pub invariant-loop-place : goal.invariant-loop-place
invariant-loop-place l =
    (length l.buffer ≡ 128)
    × (take (2 * l.place) l.buffer ++ flat_map byte_text (drop l.place l.bytes) ≡ flat_map byte_text l.bytes)
