use Rattle.std.proofs.Common.{sym, ap, ◌∙◌, not}
use Rattle.busdma_base.specs.Scenarios.Opening.{is_owned}
use Rattle.opening_frames.proofs.Runs.{next-kept, next-left}
use Rattle.opening_frames.proofs.frames.add_unowned.Goals.{then-not-is_owned+in_ok-push, else-not-is_owned}
use Rattle.opening_frames.proofs.frames.add_unowned.Goals as goal

pub loop-i-preserved : goal.loop-i-preserved
loop-i-preserved c =
    elim c.if-not-is_owned.branch [
      | then-not-is_owned+in_ok-push w ↦
          ap (λ v. v.items) w.frames-is
          ∙ next-kept (λ f. not (is_owned c.args.drivers.now f)) c.args.frames.now.items c.loop-i.frames.items _
          c.args.run.now.first c.loop-i.i c.loop-i.invariant
          (ap not (sym c.is_owned.ensures ∙ w.if-not-is_owned.true)) w.in_ok-push.ensures.items
      | else-not-is_owned w ↦
          ap (λ v. v.items) w.frames-is
          ∙ next-left (λ f. not (is_owned c.args.drivers.now f)) c.args.frames.now.items c.loop-i.frames.items
          c.loop-i.frames.items c.args.run.now.first c.loop-i.i c.loop-i.invariant
          (ap not (sym c.is_owned.ensures ∙ w.if-not-is_owned.false))
    ]
