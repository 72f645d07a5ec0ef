-- Pages with 0 in every byte.
use Rattle.std.proofs.Common.{◌≡◌, ℕ, ◌+◌, List, ◌++◌, length, replicate, sym, ap, ◌∙◌}
use Rattle.std.proofs.Common.{append-nil, arith}
use Rattle.std.proofs.lemmas.List.{drop_all, length-replicate}
use Rattle.busdma_machine.specs.Machine.Page.{FrameBytes, overwritten}

-- as many bytes as there are in the place of all
pub all_overwritten : (old new : List ℕ) → length old ≡ length new → overwritten old 0 new ≡ new
all_overwritten old new e =
    ap (λ xs. new ++ xs) (drop_all (0 + length new) old (omega arith)) ∙ append-nil new

pub page_cleared : (p q : FrameBytes) → length p.bytes ≡ 4096 →
    q ≡ record p { bytes = overwritten p.bytes 0 (replicate 4096 0) } →
    q ≡ record { frame = p.frame; bytes = replicate 4096 0 }
page_cleared p q whole e =
    e ∙ ap (λ (bs : List ℕ). record { frame = p.frame; bytes = bs })
    (all_overwritten p.bytes (replicate 4096 0) (whole ∙ sym (length-replicate {A = ℕ} 4096 0)))
