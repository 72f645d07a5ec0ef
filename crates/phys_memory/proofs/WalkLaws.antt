-- Walks, from their streams.
use Rattle.std.proofs.Common.{◌≡◌, ℕ, ◌+◌, Bool, true, false, List, [], ◌∷◌, ◌++◌, map, length, refl, ap, sym, ◌∙◌}
use Rattle.std.proofs.Common.{subst, arith, append-nil, append_assoc}
use Rattle.std.specs.Prelude.{nat_eq, if◌then◌else◌}
use Rattle.std.specs.List.{AllByRecursion}
use Rattle.std.proofs.lemmas.Bool.{eqb-true}
use Rattle.busdma_machine.specs.declared.machine.address.Extent.{Extent}
use Rattle.busdma_machine.specs.declared.machine.chunk.Part.{Part}
use Rattle.busdma_machine.specs.declared.machine.chunk.Part.TheVariants as part
use Rattle.busdma_machine.specs.declared.report.Judged.TheVariants.{Fine}
use Rattle.busdma_machine.specs.Machine.Entry.{AreJoined, extent_parts}
use Rattle.busdma_machine.specs.Judging.{judged}
use Rattle.busdma_machine.specs.Runs.{addresses, run_of, IsExtent}
use Rattle.phys_memory.specs.declared.walk.Walked.{Walked}
use Rattle.phys_memory.specs.declared.walk.Walked.TheVariants.{Parts, Unmapped}
use Rattle.busdma_rules.specs.Memory.Translation.{Translation, physical_or_0, unreached}
use Rattle.busdma_rules.specs.Memory.Extents.{extents_of, reached_addresses}
use Rattle.phys_memory.specs.Walk.{IfParts, flat, run_stream, verdict, walk_of, walked}
use Rattle.busdma_rules.proofs.Memory.Extents.{reached_extents}
use Rattle.busdma_rules.proofs.Memory.Paged.{IsPaged}
use Rattle.busdma_rules.proofs.Memory.Walks.{refused_at, judged-run, reached_all}

walked-parts : (before es : List Extent) (opens rounded : Bool) (rest : List Part) →
    walked before (extent_parts opens rounded es ++ rest) ≡ walked (before ++ es) rest
walked-parts before [] opens rounded rest = ap (λ xs. walked xs rest) (sym (append-nil before))
walked-parts before (e ∷ es) opens rounded rest = walked-parts (before ++ e ∷ []) es false rounded rest
    ∙ ap (λ xs. walked xs rest) (append_assoc before (e ∷ []) es)

-- the walk over a stream is the one over its bytes
pub walked-run : (pas : List ℕ) (n : ℕ) (opens rounded : Bool) →
    walked [] (run_stream pas n 0 opens rounded) ≡ walk_of pas n
walked-run pas n opens rounded =
    let zero_plus : 0 + length pas ≡ length pas = omega arith in
    walked-parts [] (extents_of pas) opens rounded (if nat_eq (length pas) n then []
    else part.Unmapped (0 + length pas) ∷ [])
    ∙ elim (nat_eq (length pas) n) as (λ b. walked (extents_of pas) (if b then []
    else part.Unmapped (0 + length pas) ∷ []) ≡ (if b then Parts (extents_of pas) else Unmapped (length pas)))
    [ true ↦ refl | false ↦ ap (λ k. Unmapped k) zero_plus ]

-- ---- what a walk says

verdict-walk_of : (t : Translation) (va n : ℕ) →
    verdict (walk_of (reached_addresses t va n) n) ≡ judged (unreached t) 0 (run_of va n)
verdict-walk_of t va n =
    let l = length (reached_addresses t va n) in
    let zero_plus : l ≡ 0 + l = omega arith in
    elim (nat_eq l n) as (λ b. verdict (if b then Parts (extents_of (reached_addresses t va n)) else Unmapped l)
    ≡ (if b then Fine else refused_at (0 + l))) [ true ↦ refl | false ↦ ap refused_at zero_plus ]
    ∙ sym (judged-run t va n 0 []) ∙ ap (judged (unreached t) 0) (append-nil (run_of va n))

-- what holds of the extents of a walk that found all bytes
if_parts : (pas : List ℕ) (n : ℕ) (P : List Extent → Type 0) →
    (length pas ≡ n → P (extents_of pas)) → IfParts (walk_of pas n) P
if_parts pas n P h = whole (nat_eq (length pas) n) refl
  where
    whole : (b : Bool) → nat_eq (length pas) n ≡ b →
        IfParts (if b then Parts (extents_of pas) else Unmapped (length pas)) P
    whole true e = h (eqb-true (length pas) n e)
    whole false e = tt

-- ---- the walk over a stream of a virtual run

module _ (t : Translation) (va n : ℕ) (w : Walked) (h : w ≡ walked [] (flat t va n)) where
  pub walk_is : w ≡ walk_of (reached_addresses t va n) n
  walk_is = h ∙ walked-run (reached_addresses t va n) n true true

  pub verdict_is : verdict w ≡ judged (unreached t) 0 (run_of va n)
  verdict_is = ap verdict walk_is ∙ verdict-walk_of t va n

  module _ (Has : ℕ → Type 0) (is : IsPaged Has t) where
    from_extents : (P : List Extent → Type 0) →
        (length (reached_addresses t va n) ≡ n → P (extents_of (reached_addresses t va n))) → IfParts w P
    from_extents P k = subst (λ w. IfParts w P) (sym walk_is) (if_parts (reached_addresses t va n) n P k)

    pub walk_addresses : IfParts w (λ es. addresses es ≡ map (physical_or_0 t) (run_of va n))
    walk_addresses =
        from_extents (λ es. addresses es ≡ map (physical_or_0 t) (run_of va n))
        (λ k. (reached_extents Has t is va n).bytes ∙ reached_all t va n k)

    pub walk_extents : IfParts w (AllByRecursion IsExtent)
    walk_extents = from_extents (AllByRecursion IsExtent) (λ k. (reached_extents Has t is va n).extents)

    pub walk_joined : IfParts w AreJoined
    walk_joined = from_extents AreJoined (λ k. (reached_extents Has t is va n).joined)

    pub walk_has : IfParts w (AllByRecursion (λ e. Has e.pa.0))
    walk_has = from_extents (AllByRecursion (λ e. Has e.pa.0)) (λ k. (reached_extents Has t is va n).have)
