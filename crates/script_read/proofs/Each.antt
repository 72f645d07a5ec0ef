-- One more element that is right after those before it.
use Rattle.std.proofs.Common.{List, [], ◌∷◌, ◌++◌, append-nil, append_assoc}
use Rattle.busdma_machine.specs.Each.{EachAfter}

pub EachAfter-append : {A : Type 0} (P : List A → A → Type 0) (before xs : List A) (x : A)
    → EachAfter P before xs → P (before ++ xs) x → EachAfter P before (xs ++ x ∷ [])
EachAfter-append P before [] x h p = (rw append-nil at p, tt)
EachAfter-append P before (y ∷ ys) x h p = (h.0, EachAfter-append P (before ++ y ∷ []) ys x h.1 (rw append_assoc p))
