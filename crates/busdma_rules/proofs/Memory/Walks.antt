-- Walks and their streams.
use Rattle.std.proofs.Common.{◌≡◌, ℕ, zero, suc, ◌+◌, List, ◌∷◌, ◌++◌, map, length, refl, ap, sym, ◌∙◌, inl, inr, arith}
use Rattle.std.specs.Prelude.{Option, Some, None, nat_eq, if◌then◌else◌, unwrap_or}
use Rattle.std.proofs.lemmas.Bool.{eq-eqb, ne_eqb}
use Rattle.std.proofs.lemmas.Bool.Decides.{eqb_tells}
use Rattle.busdma_machine.specs.declared.report.ReportName.TheVariants as name
use Rattle.busdma_machine.specs.declared.report.Judged.{Judged}
use Rattle.busdma_machine.specs.declared.report.Judged.TheVariants.{Refused}
use Rattle.busdma_machine.specs.Judging.{judged, refused_or}
use Rattle.busdma_machine.specs.Runs.{run_of}
use Rattle.busdma_rules.specs.Memory.Translation.{Translation, missing, physical_or_0, unreached}
use Rattle.busdma_rules.specs.Memory.Extents.{reached_addresses, then_reached}

eqb_suc : (a b : ℕ) → nat_eq (suc a) (suc b) ≡ nat_eq a b
eqb_suc a b = elim (eqb_tells a b) [
  | inl e ↦ eq-eqb (suc a) (suc b) (ap suc e.1) ∙ sym e.0
  | inr d ↦ ne_eqb (suc a) (suc b) (λ e. d.1 (omega arith)) ∙ sym d.0
]

abbrev pub refused_at : ℕ → Judged
refused_at k = Refused (record { name = name.Unmapped; at = k })

-- the judgement of a run of bytes followed by other bytes
pub judged-run : (t : Translation) (va n k : ℕ) (rest : List ℕ) →
    judged (unreached t) k (run_of va n ++ rest)
    ≡ (if nat_eq (length (reached_addresses t va n)) n then judged (unreached t) (k + n) rest
    else refused_at (k + length (reached_addresses t va n)))
judged-run t va zero k rest =
    let none : k ≡ k + 0 = omega arith in
    ap (λ j. judged (unreached t) j rest) none
judged-run t va (suc n) k rest = first (t va) (judged-run t (va + 1) n (k + 1) rest)
  where
    first : (o : Option ℕ) → judged (unreached t) (k + 1) (run_of (va + 1) n ++ rest)
        ≡ (if nat_eq (length (reached_addresses t (va + 1) n)) n then judged (unreached t) (k + 1 + n) rest
        else refused_at (k + 1 + length (reached_addresses t (va + 1) n))) →
        refused_or (missing o) k (judged (unreached t) (k + 1) (run_of (va + 1) n ++ rest))
        ≡ (if nat_eq (length (then_reached o (reached_addresses t (va + 1) n))) (suc n)
        then judged (unreached t) (k + suc n) rest
        else refused_at (k + length (then_reached o (reached_addresses t (va + 1) n))))
    first None others =
        let none : k ≡ k + 0 = omega arith in
        ap refused_at none ∙ ap (λ b. if b then judged (unreached t) (k + suc n) rest else refused_at (k + 0))
        (sym (ne_eqb 0 (suc n) (omega arith)))
    first (Some p) others =
        let l = length (reached_addresses t (va + 1) n) in
        let reached_one : k + 1 + l ≡ k + suc l = omega arith in
        let all_one : k + 1 + n ≡ k + suc n = omega arith in
        others ∙ ap (λ j. if nat_eq l n then judged (unreached t) (k + 1 + n) rest else refused_at j) reached_one
        ∙ ap (λ j. if nat_eq l n then judged (unreached t) j rest else refused_at (k + suc l)) all_one
        ∙ ap (λ b. if b then judged (unreached t) (k + suc n) rest else refused_at (k + suc l)) (sym (eqb_suc l n))

-- if all bytes are reached, they are at their physical addresses
pub reached_all : (t : Translation) (va n : ℕ) → length (reached_addresses t va n) ≡ n →
    reached_addresses t va n ≡ map (physical_or_0 t) (run_of va n)
reached_all t va zero h = refl
reached_all t va (suc n) h = first (t va) h (λ e. reached_all t (va + 1) n e)
  where
    first : (o : Option ℕ) → length (then_reached o (reached_addresses t (va + 1) n)) ≡ suc n →
        (length (reached_addresses t (va + 1) n) ≡ n → reached_addresses t (va + 1) n
        ≡ map (physical_or_0 t) (run_of (va + 1) n)) →
        then_reached o (reached_addresses t (va + 1) n) ≡ unwrap_or o 0 ∷ map (physical_or_0 t) (run_of (va + 1) n)
    first None e others = absurd (omega arith)
    first (Some p) e others = ap (λ pas. p ∷ pas) (others (omega arith))
