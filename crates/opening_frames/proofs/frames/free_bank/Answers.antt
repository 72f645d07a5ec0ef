use Rattle.std.proofs.Common.{◌≡◌, ◌∙◌, ap, sym, subst, List, length, map, [], ℕ, ◌≤◌, ◌<◌, ◌^◌}
use Rattle.std.specs.List.{All, AllPairs}
use Rattle.std.proofs.lemmas.Result.{IfOk-weaker}
use Rattle.busdma_machine.specs.Machine.PageList.{page_addresses}
use Rattle.frame_bank.specs.FrameBank.{fresh_page, put_pages}
use Rattle.opening_frames.proofs.Runs.{all-numbered, are-few, fresh-addresses, pages-are, they-differ}
use Rattle.opening_frames.proofs.frames.free_bank.Goals as goal

pub of_frames-requires-clause-differ : goal.of_frames-requires-clause-differ
of_frames-requires-clause-differ c =
    subst (AllPairs (λ f g. (f ≡ g) → ⊥)) (sym (c.deref.ensures.value ∙ c.in_ok-frames.ensures))
    (they-differ c.args.scenario.now c.requires)

pub of_frames-requires-clause-numbered : goal.of_frames-requires-clause-numbered
of_frames-requires-clause-numbered c =
    subst (All (λ f. f < 2 ^ 30)) (sym (c.deref.ensures.value ∙ c.in_ok-frames.ensures))
    (all-numbered c.args.scenario.now.drivers [] c.args.scenario.now.frames c.requires.frames)

pub of_frames-requires-clause-few : goal.of_frames-requires-clause-few
of_frames-requires-clause-few c =
    subst (λ (fs : List ℕ). length fs ≤ 8192) (sym (c.deref.ensures.value ∙ c.in_ok-frames.ensures))
    (are-few c.args.scenario.now c.requires)

pub returns-clause-pages : goal.returns-clause-pages
returns-clause-pages c =
    IfOk-weaker c.of_frames.result _ _
    (λ bank pages. pages
    ∙ ap (λ fs. put_pages (map fresh_page fs) []) (c.deref.ensures.value ∙ c.in_ok-frames.ensures)
    ∙ pages-are c.args.scenario.now c.requires)
    c.of_frames.ensures.pages

pub returns-clause-free : goal.returns-clause-free
returns-clause-free c =
    IfOk-weaker c.of_frames.result _ _
    (λ bank pages. ap page_addresses (pages
    ∙ ap (λ fs. put_pages (map fresh_page fs) []) (c.deref.ensures.value ∙ c.in_ok-frames.ensures)
    ∙ pages-are c.args.scenario.now c.requires)
    ∙ fresh-addresses _)
    c.of_frames.ensures.pages
