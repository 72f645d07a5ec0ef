use Rattle.std.proofs.Common.{rules, ◌≢◌, get_or, arith}
use Rattle.command_words.proofs.Numerals.{number_good, number_bad}
use Rattle.command_words.proofs.number.number.Goals as goal

pub returns-in-Ok : goal.returns-in-Ok
returns-in-Ok c =
    let unsigned : get_or c.args.word.now 0 0 ≢ 43 = search rules in
    number_good c.args.most c.args.word.now c.in-Ok.number (omega arith) unsigned c.in-Ok.ensures.value.0
    (omega arith) (omega arith)

pub returns-in_default-3 : goal.returns-in_default-3
returns-in_default-3 c =
    let unsigned : get_or c.args.word.now 0 0 ≢ 43 = search rules in
    number_bad c.args.most c.args.word.now unsigned c.in_default.ensures.value.0
    (omega (arith, c.ranges.most.fits))
