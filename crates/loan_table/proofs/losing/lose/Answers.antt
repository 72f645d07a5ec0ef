use Rattle.std.proofs.Common.{false, ap, sym, refl, ◌∙◌, arith}
use Rattle.std.specs.List.{filter}
use Rattle.busdma_machine.specs.Machine.Wire.{stretch}
use Rattle.loan_table.specs.Kinds.{losing_test}
use Rattle.busdma_rules.specs.Lending.Loans.{addresses_of}
use Rattle.loan_table.specs.Table.{set_all}
use Rattle.loan_table.proofs.Addresses.{AreIn-set_all}
use Rattle.loan_table.proofs.Pieces.{filter_ahead, marked_front, nothing, span_bytes, there_back, there_front}
use Rattle.loan_table.proofs.Pieces.{two_parts}
use Rattle.loan_table.proofs.Pieces.{whole}
use Rattle.loan_table.proofs.losing.lose.Goals as goal

pub loop-at-init : goal.loop-at-init
loop-at-init c =
    let ps = c.args.row.now.positions in
    let all = whole c.args.off c.args.len c.end_of-end.result ps c.end_of-end.ensures in
    record {
      marked =
          ap (λ xs. set_all c.args.bytes.now.bytes (addresses_of (filter (losing_test c.args.losing) xs)) false) all;
      there = rw all c.requires.there;
      in_room = omega arith;
      same_room = refl;
      from = omega arith;
      to = omega arith;
    }

pub lose_span-requires-clause-there : goal.lose_span-requires-clause-there
lose_span-requires-clause-there c =
    let ps = c.args.row.now.positions in
    let at = c.loop-at.at in
    let len = c.span-span.result.len in
    there_front _ _ (addresses_of (stretch at len ps)) _
    (span_bytes at c.end_of-end.result len ps c.span-span.ensures.within) c.loop-at.invariant.there

pub loop-at-preserved : goal.loop-at-preserved
loop-at-preserved c =
    let ps = c.args.row.now.positions in
    let at = c.loop-at.at in
    let end = c.end_of-end.result in
    let len = c.span-span.result.len in
    let within = c.span-span.ensures.within in
    let test = losing_test c.args.losing in
    let lost = addresses_of (filter test (stretch at len ps)) in
    record {
      marked = marked_front c.loop-at.bytes.bytes c.lose_span.new.bytes.bytes _ false _ lost _
          (filter_ahead test _ (stretch at len ps) _ (two_parts at len end ps within))
          c.lose_span.ensures.bytes c.loop-at.invariant.marked;
      there = rw c.lose_span.ensures.bytes (AreIn-set_all _ lost false _
          (there_back _ _ (addresses_of (stretch at len ps)) _ (span_bytes at end len ps within)
          c.loop-at.invariant.there));
      in_room = omega (arith, c.lose_span.ensures.room, c.loop-at.invariant.in_room);
      same_room = c.lose_span.ensures.there_room ∙ c.loop-at.invariant.same_room;
      from = omega arith;
      to = omega arith;
    }

pub returns-clause-bytes : goal.returns-clause-bytes
returns-clause-bytes c =
    sym (ap (λ xs. set_all c.loop-at.bytes.bytes (addresses_of (filter (losing_test c.args.losing) xs)) false)
    (nothing c.loop-at.at c.end_of-end.result c.args.row.now.positions (omega arith)))
    ∙ c.loop-at.invariant.marked
