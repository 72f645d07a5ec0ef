-- What is left of a list of loads when the first is removed.
use Rattle.std.proofs.Common.{◌≡◌, ℕ, ◌+◌, ◌≤◌, List, ◌∷◌, length, sym, ap, arith}
use Rattle.std.specs.List.{All}
use Rattle.std.proofs.lemmas.List.Elements.{All-tail, All-same}

pub rest_kept : {X : Type 0} (P : X → Type 0) (x : X) (rest all : List X) (spare old new : ℕ) → all ≡ x ∷ rest →
    new ≡ old → (length all + spare ≤ old) × All P all → (length rest + spare ≤ new) × All P rest
rest_kept P x rest all spare old new split same h =
    (omega (arith, h.0, same, ap length split), All-tail P x rest (All-same P (x ∷ rest) all (sym split) h.1))
