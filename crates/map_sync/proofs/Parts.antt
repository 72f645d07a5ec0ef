-- Parts of lists of addresses, of runs above all.
use Rattle.std.proofs.Common.{◌≡◌, ℕ, ◌+◌, ◌-◌, min, List, [], ◌∷◌, ◌++◌, length, take, drop, refl, ap, ◌∙◌, arith}
use Rattle.std.proofs.Common.{length-drop}
use Rattle.busdma_machine.specs.Machine.Wire.{Wire, put}
use Rattle.busdma_machine.specs.Runs.{run_of}
use Rattle.phys_memory.proofs.RunParts.{drop_append, drop_run, take_append, take_run}
use Rattle.map_sync.specs.Copying.{part}

-- a part of a run is a run
pub part_run : (from to a n : ℕ) → part from to (run_of a n) ≡ run_of (a + from) (min to n - from)
part_run from to a n =
    let e : min (to - from) (n - from) ≡ min to n - from = omega arith in
    ap (take (to - from)) (drop_run from a n) ∙ take_run (to - from) (a + from) (n - from) ∙ ap (run_of (a + from)) e

-- a part of two lists
pub part_append : {A : Type 0} (from to : ℕ) (xs ys : List A) → part from to (xs ++ ys) ≡ part from to xs
    ++ part (from - length xs) (to - length xs) ys
part_append from to xs ys =
    let e : to - from - length (drop from xs) ≡ to - length xs - (from - length xs) =
    omega (arith, length-drop from xs) in
    ap (take (to - from)) (drop_append from xs ys)
    ∙ take_append (to - from) (drop from xs) (drop (from - length xs) ys)
    ∙ ap (λ k. take (to - from) (drop from xs) ++ take k (drop (from - length xs) ys)) e

-- bytes that are put at some addresses, and others that are put at others
pub put_both : (xs ys vs us : List ℕ) (w : Wire) → length xs ≡ length vs →
    put (xs ++ ys) (vs ++ us) w ≡ put ys us (put xs vs w)
put_both [] ys [] us w h = refl
put_both [] ys (v ∷ vs) us w h = absurd (omega arith)
put_both (x ∷ xs) ys [] us w h = absurd (omega arith)
put_both (x ∷ xs) ys (v ∷ vs) us w h = put_both xs ys vs us _ (omega arith)
