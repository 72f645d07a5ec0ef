-- How many bytes the front of clusters has.
use Rattle.std.proofs.Common.{nat_lt, unwrap_or, ◌≡◌, ℕ, ◌+◌, ◌-◌, ◌*◌, ◌≤◌, ◌==◌, min, Bool, true, false}
use Rattle.std.proofs.Common.{if◌then◌else◌, List, [], ◌∷◌, length}
use Rattle.std.proofs.Common.{refl, ap, sym, ◌∙◌, arith, Some, None}
use Rattle.std.proofs.lemmas.Bool.{eqb-true, le-ltb, ltb-false}
use Rattle.std.proofs.lemmas.List.Sums.{sum_by-cons}
use Rattle.busdma_machine.specs.declared.machine.address.Span.{Span}
use Rattle.busdma_machine.specs.declared.machine.address.Va.{Va}
use Rattle.busdma_machine.specs.Machine.Spans.{span_bytes}
use Rattle.busdma_rules.specs.Memory.Clusters.{front_of, plan}

-- the front of no byte is empty
pub front_none : (cs : List Va) → front_of 0 cs ≡ []
front_none [] = refl
front_none (c ∷ cs) = refl

-- if there are enough clusters, their front has as many bytes as were asked for
pub front_bytes : (n : ℕ) (cs : List Va) → n ≤ 4096 * length cs → span_bytes (front_of n cs) ≡ n
front_bytes n [] h = omega (arith, h)
front_bytes n (c ∷ cs) h = by (λ k. front_bytes (n - 4096) cs k) (n == 0) refl
  where
    by : (n - 4096 ≤ 4096 * length cs → span_bytes (front_of (n - 4096) cs) ≡ n - 4096) → (b : Bool) → (n == 0) ≡ b →
        span_bytes (if b then [] else record { va = c; len = min n 4096 } ∷ front_of (n - 4096) cs) ≡ n
    by f true e = omega (arith, eqb-true n 0 e)
    by f false e =
        sum_by-cons (λ (s : Span). s.len) (record { va = c; len = min n 4096 }) (front_of (n - 4096) cs)
        ∙ ap (λ k. min n 4096 + k) (f (omega (arith, h))) ∙ (omega arith)

pub planned : (chain : List Span) (clusters : List Va) (spans : List Span) → span_bytes chain ≤ 4096 * length clusters →
    spans ≡ front_of (span_bytes chain) clusters → Some spans ≡ plan chain clusters
planned chain clusters spans h e =
    ap Some e
    ∙ sym (ap (λ b. if b then None else Some (front_of (span_bytes chain) clusters))
    (le-ltb (4096 * length clusters) (span_bytes chain) h))

-- the clusters that are planned have as many bytes as the chain
pub plan_bytes : (chain : List Span) (clusters : List Va) (spans : List Span) → plan chain clusters ≡ Some spans →
    span_bytes spans ≡ span_bytes chain
plan_bytes chain clusters spans e = by (nat_lt (4096 * length clusters) (span_bytes chain)) refl e
  where
    by : (b : Bool) → nat_lt (4096 * length clusters) (span_bytes chain) ≡ b →
        (if b then None else Some (front_of (span_bytes chain) clusters)) ≡ Some spans → span_bytes spans
        ≡ span_bytes chain
    by true t e = absurd (cc)
    by false t e =
        let is : front_of (span_bytes chain) clusters ≡ spans = ap (λ o. unwrap_or o []) e in
        ap span_bytes (sym is)
        ∙ front_bytes (span_bytes chain) clusters (ltb-false (4096 * length clusters) (span_bytes chain) t)
