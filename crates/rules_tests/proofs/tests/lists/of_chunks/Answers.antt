use Rattle.std.proofs.Common.{sym, ◌∙◌, subst, ap}
use Rattle.std.specs.List.{AllByRecursion}
use Rattle.busdma_machine.specs.declared.tags.tag.TagLimits.{TagLimits}
use Rattle.busdma_machine.specs.Tags.TagFlags.{keep_pg_offset}
use Rattle.busdma_rules.specs.Segments.Trace.{IsPlaced, chunks_in_pages as placed}
use Rattle.busdma_rules.proofs.Segments.Sound.{placed_are}
use Rattle.rules_tests.proofs.tests.lists.of_chunks.Goals as goal

pub build-requires : goal.build-requires
build-requires c =
    let keep = c.keeps_offset.ensures ∙ ap (λ (t : TagLimits). keep_pg_offset t.flags) c.limits.ensures.limits in
    let is = c.place.ensures ∙ ap (λ k. placed k c.args.chunks.now c.args.pages.now) keep in
    record {
      placed = subst (AllByRecursion IsPlaced) (sym is)
          (placed_are c.args.tag.now c.args.chunks.now c.args.pages.now c.requires.sound c.requires.pages);
    }
