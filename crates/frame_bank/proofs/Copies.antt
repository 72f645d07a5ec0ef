-- All bytes of a page are overwritten.
use Rattle.std.proofs.Common.{◌≡◌, ℕ, ◌+◌, ◌++◌, List, length, ap, ◌∙◌, arith}
use Rattle.std.proofs.lemmas.List.{append-nil, drop_all}
use Rattle.busdma_machine.specs.Machine.Page.{overwritten}

pub overwritten-whole : (old bytes : List ℕ) → length old ≡ length bytes → overwritten old 0 bytes ≡ bytes
overwritten-whole old bytes same = ap (λ rest. bytes ++ rest) (drop_all (0 + length bytes) old (omega (arith, same)))
    ∙ append-nil bytes
