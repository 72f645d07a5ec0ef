use Rattle.std.proofs.Common.{◌++◌, Ok, length, ap, sym, ◌∙◌, subst, arith}
use Rattle.busdma_machine.specs.declared.tags.tag.TagLimits.{TagLimits}
use Rattle.busdma_machine.specs.Runs.{run_of}
use Rattle.busdma_rules.specs.Segments.Built.{AreTooMany, IsFew}
use Rattle.busdma_rules.specs.Segments.Pieces.{pieces_of}
use Rattle.segment_build.proofs.MorePieces.{added_all_shorter, few_with, many_with}
use Rattle.segment_build.proofs.runs.add_pieces.Goals as goal

pub returns-clause-few : goal.returns-clause-few
returns-clause-few c = λ few before h.
    let t = c.limits.result.now in
    let run = c.args.run in
    let ps = pieces_of t (run_of run.addr.0 run.len) in
    let next = c.add_run-few.new.list.items in
    let added = c.unwrap.ensures ∙ ap Ok few in
    let a = c.add_run-few.ensures in
    let own = subst (λ (u : TagLimits). IsFew u before c.args.list.now.items) (sym c.limits.ensures.limits) h in
    subst (λ (u : TagLimits). IsFew u (before ++ pieces_of u (run_of run.addr.0 run.len)) next) c.limits.ensures.limits
    (few_with t before c.args.list.now.items next ps own (a.added added) (a.few added))

pub returns-clause-many : goal.returns-clause-many
returns-clause-many c = λ many before h.
    let t = c.limits.result.now in
    let run = c.args.run in
    let ps = pieces_of t (run_of run.addr.0 run.len) in
    let refused = c.unwrap.ensures ∙ ap Ok many in
    let own = subst (λ (u : TagLimits). IsFew u before c.args.list.now.items) (sym c.limits.ensures.limits) h in
    subst (λ (u : TagLimits). AreTooMany u (before ++ pieces_of u (run_of run.addr.0 run.len))) c.limits.ensures.limits
    (many_with t before c.args.list.now.items ps own (c.add_run-few.ensures.many refused))

pub unwrap-requires : goal.unwrap-requires
unwrap-requires c =
    let t = c.limits.result.now in
    let run = c.args.run in
    let room = c.requires.room in
    c.add_run-few.ensures.within
    (omega (
      arith,
      room,
      added_all_shorter t c.args.list.now.items (pieces_of t (run_of run.addr.0 run.len)),
      ap (λ (u : TagLimits). length (pieces_of u (run_of run.addr.0 run.len))) c.limits.ensures.limits,
      ap (λ (u : TagLimits). u.nsegments) c.limits.ensures.limits,
    ))
