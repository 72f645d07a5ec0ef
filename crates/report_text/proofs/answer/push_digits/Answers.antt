use Rattle.std.proofs.Common.{rules, sym, ap, ◌∙◌}
use Rattle.std.proofs.lemmas.List.{nil_from_length}
use Rattle.io_edge.proofs.Giving.{gives_then, gives_nothing, gives_as}
use Rattle.program_rules.specs.Reports.Answer.{byte_text}
use Rattle.std.specs.List.{flat_map}
use Rattle.std.proofs.lemmas.Grind.{flat_map-append}
use Rattle.report_text.proofs.answer.push_digits.Goals as goal

pub loop-block-init : goal.loop-block-init
loop-block-init g c = (search rules, tt, search rules, λ ended rest. search rules)

pub loop-block-preserved : goal.loop-block-preserved
loop-block-preserved g c =
    let steps = c.in-Some.ensures.steps in
    let size = c.loop-block.invariant.2 in (
      search rules,
      tt,
      steps.0 ∙ size,
      λ ended rest.
          c.loop-block.invariant.3 ended
          (gives_as (sym (ap (flat_map byte_text) steps.1.0 ∙ flat_map-append byte_text _ _)) (gives_then c.push_block.ensures rest)),
    )

pub returns : goal.returns
returns g c =
    let none = nil_from_length _ c.in-None.ensures.steps.1.0 in
    c.loop-block.invariant.3 _ (gives_as (ap (flat_map byte_text) (sym none)) (gives_nothing _))
