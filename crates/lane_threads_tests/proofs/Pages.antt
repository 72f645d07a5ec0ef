-- The pages of short lists.
use Rattle.std.proofs.Common.{◌≡◌, List, [], ◌∷◌, ◌++◌, ap, ◌∙◌}
use Rattle.busdma_machine.specs.Machine.Page.{FrameBytes}
use Rattle.busdma_machine.specs.Machine.PageList.{page_address, page_addresses}

-- a list whose last page left it empty
pub one_page : (all none : List FrameBytes) (page : FrameBytes) → all ≡ none ++ page ∷ [] → none ≡ []
    → page_addresses all ≡ page_address page ∷ []
one_page all none page last empty = ap page_addresses (last ∙ ap (λ ps. ps ++ page ∷ []) empty)

-- a list whose last two pages left it empty
pub two_pages : (all one none : List FrameBytes) (first second : FrameBytes) → all ≡ one ++ second ∷ []
    → one ≡ none ++ first ∷ [] → none ≡ [] → page_addresses all ≡ page_address first ∷ page_address second ∷ []
two_pages all one none first second last before empty =
    ap page_addresses (last ∙ ap (λ ps. ps ++ second ∷ []) (before ∙ ap (λ ps. ps ++ first ∷ []) empty))
