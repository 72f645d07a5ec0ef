use Rattle.std.proofs.Common.{◌≡◌, ◌<◌, List, length, get_or, subst, sym, ◌∙◌}
use Rattle.std.specs.Prelude.{Ok, false}
use Rattle.busdma_machine.specs.declared.machine.address.Segment.{Segment}
use Rattle.busdma_machine.specs.declared.tags.tag.TagLimits.{TagLimits}
use Rattle.segment_build.specs.Joining.{extent_added}
use Rattle.busdma_rules.specs.Segments.Built.{IsFew, AreTooMany}
use Rattle.segment_build.proofs.Cuts.{are_few, are_many}
use Rattle.segment_build.proofs.built.build.Goals as goal

pub returns-then-not-branch : goal.returns-then-not-branch
returns-then-not-branch c =
    let t = c.args.tag.now in
    let l = c.loop-piece in
    let pieces = c.as_slice-piece-items.ensures ∙ c.in_ok-pieces.ensures in
    let refused : c.add_piece.result ≡ Ok false = cc in
    let none : Segment = record { addr = record { 0 = 0 }; len = 0 } in
    let many =
    subst (λ (u : TagLimits). u.nsegments < length
    (extent_added u l.list.items (get_or c.as_slice-piece-items.result.now l.piece-index none))) c.limits.ensures.limits
    (c.add_piece.ensures.many refused) in
    subst (AreTooMany t) pieces (are_many t l.list.items c.as_slice-piece-items.result.now l.piece-index none
    c.loop-piece-test.true l.invariant.is many)

pub returns : goal.returns
returns c =
    let t = c.args.tag.now in
    let l = c.loop-piece in
    let pieces = c.as_slice-piece-items.ensures ∙ c.in_ok-pieces.ensures in
    let few =
    are_few t l.list.items c.as_slice-piece-items.result.now l.piece-index
    c.loop-piece-test.false l.invariant.is l.invariant.few in
    subst (λ (ps : List Segment). IsFew t ps c.into_list.result) pieces
    (subst (λ (segs : List Segment). IsFew t c.as_slice-piece-items.result.now segs) (sym c.into_list.ensures) few)
