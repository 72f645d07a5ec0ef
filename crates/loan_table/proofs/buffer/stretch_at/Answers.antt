use Rattle.std.proofs.Common.{◌≡◌, ◌+◌, ◌-◌, get_or, ap, ◌∙◌, arith}
use Rattle.busdma_machine.specs.Runs.{run_of}
use Rattle.loan_table.proofs.Addresses.{no_extent}
use Rattle.loan_table.proofs.Stretches.{found_before, found_bytes, found_index, found_within, length-starts}
use Rattle.loan_table.proofs.Stretches.{some_found, starts_climb}
use Rattle.loan_table.proofs.buffer.stretch_at.Goals as goal

pub count_near-count-requires : goal.count_near-count-requires
count_near-count-requires c = rw c.requires.starts (starts_climb 0 0 c.args.stretches.now (omega arith))

pub overflow_sub-last : goal.overflow_sub-last
overflow_sub-last c =
    omega (
      arith,
      some_found _ _ c.args.at _ c.args.end c.requires.starts c.requires.some c.requires.range
          c.count_near-count.ensures.small c.count_near-count.ensures.below c.count_near-count.ensures.above,
    )

pub bounds-stretches-last : goal.bounds-stretches-last
bounds-stretches-last c =
    found_index _ _ c.args.at _ c.args.end c.requires.starts c.requires.some c.requires.range
    c.count_near-count.ensures.small c.count_near-count.ensures.below c.count_near-count.ensures.above

pub bounds-starts-last : goal.bounds-starts-last
bounds-starts-last c =
    rw (c.requires.starts, length-starts 0 c.args.stretches.now)
    (found_index _ _ c.args.at _ c.args.end c.requires.starts c.requires.some c.requires.range
    c.count_near-count.ensures.small c.count_near-count.ensures.below c.count_near-count.ensures.above)

pub overflow_sub-at : goal.overflow_sub-at
overflow_sub-at c =
    found_before _ _ c.args.at _ c.args.end c.requires.starts c.requires.some c.requires.range
    c.count_near-count.ensures.small c.count_near-count.ensures.below c.count_near-count.ensures.above

pub part_of-requires-clause-skipped : goal.part_of-requires-clause-skipped
part_of-requires-clause-skipped c =
    found_within _ _ c.args.at _ c.args.end c.requires.starts c.requires.some c.requires.range
    c.count_near-count.ensures.small c.count_near-count.ensures.below c.count_near-count.ensures.above

pub returns-clause-bytes : goal.returns-clause-bytes
returns-clause-bytes c =
    let k = c.count_near-count.result in
    let run = get_or c.args.stretches.now (k - 1) no_extent in
    let skipped = c.args.at - get_or c.args.starts.now (k - 1) 0 in
    let first : run.pa.0 + skipped ≡ c.part_of.result.pa.0 = omega (arith, c.part_of.ensures.pa) in
    found_bytes _ _ c.args.at _ c.args.end c.requires.starts c.requires.some c.requires.range
    c.count_near-count.ensures.small c.count_near-count.ensures.below c.count_near-count.ensures.above
    c.part_of.result.len
    c.part_of.ensures.within ∙ ap (λ a. run_of a c.part_of.result.len) first
