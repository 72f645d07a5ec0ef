-- Extents to which one byte after another is added.
use Rattle.std.proofs.Common.{◌≡◌, ℕ, ◌+◌, ◌-◌, ◌%◌, ◌<◌, ◌≤◌, ◌^◌, Bool, true, List, [], ◌∷◌, ◌++◌}
use Rattle.std.proofs.Common.{length, drop, refl, sym, ap, ◌∙◌, append_assoc, append-nil, arith}
use Rattle.std.specs.List.{All, AllByRecursion}
use Rattle.std.specs.Ordering.{nat_cmp}
use Rattle.std.specs.FinMap.{FinMap}
use Rattle.std.proofs.lemmas.List.{length-append, length-map, length-take, length-drop}
use Rattle.std.proofs.lemmas.List.Sums.{sum_by-cons}
use Rattle.std.proofs.lemmas.List.Elements.{All-from_recursion}
use Rattle.busdma_machine.specs.declared.machine.address.Extent.{Extent}
use Rattle.busdma_machine.specs.Runs.{addresses, run_of, byte_count}
use Rattle.busdma_rules.specs.declared.position.Position.{Position}
use Rattle.loan_table.specs.Kept.{AreLow}
use Rattle.busdma_machine.specs.Machine.Wire.{stretch}
use Rattle.busdma_rules.specs.Lending.Loans.{addresses_of}
use Rattle.loan_table.specs.Table.{AreIn, is_next}
use Rattle.loan_table.proofs.Judgement.{length-run_of}

pub addresses-push : (es : List Extent) (e : Extent) → addresses (es ++ e ∷ []) ≡ addresses es ++ run_of e.pa.0 e.len
addresses-push [] e = append-nil _
addresses-push (x ∷ es) e = ap (λ xs. run_of x.pa.0 x.len ++ xs) (addresses-push es e)
    ∙ sym (append_assoc (run_of x.pa.0 x.len) (addresses es) (run_of e.pa.0 e.len))

-- after the last run, the list of extents has all bytes
pub ends : (es new : List Extent) (run : Extent) (rest all : List ℕ) → new ≡ es ++ run ∷ [] → rest ≡ [] →
    addresses es ++ (run_of run.pa.0 run.len ++ rest) ≡ all → addresses new ≡ all
ends es new run rest all pushed none h =
    ap addresses pushed ∙ addresses-push es run ∙ ap (λ xs. addresses es ++ xs) (sym (append-nil _))
    ∙ sym (ap (λ xs. addresses es ++ (run_of run.pa.0 run.len ++ xs)) none) ∙ h

-- the positions of a table's bytes are below 2^42
low_positions : (m : FinMap nat_cmp Bool) → AreLow m → (ps : List Position) → AreIn m (addresses_of ps) →
    AllByRecursion (λ (p : Position). p.pa < 2 ^ 42) ps
low_positions m low [] h = tt
low_positions m low (p ∷ ps) h = (low p.pa h.0, low_positions m low ps h.1)

pub AllLow : (m : FinMap nat_cmp Bool) → AreLow m → (ps : List Position) →
    AreIn m (addresses_of ps) → All (λ p. p.pa < 2 ^ 42) ps
AllLow m low ps h = All-from_recursion (λ p. p.pa < 2 ^ 42) ps (low_positions m low ps h)

pub length-addresses : (es : List Extent) → length (addresses es) ≡ byte_count es
length-addresses [] = refl
length-addresses (e ∷ es) = length-append (run_of e.pa.0 e.len) (addresses es)
    ∙ ap (λ n. n + length (addresses es)) (length-run_of e.pa.0 e.len) ∙ ap (λ n. e.len + n) (length-addresses es)
    ∙ sym (sum_by-cons (λ (x : Extent). x.len) e es)

pub length-range : (off len : ℕ) (ps : List Position) → off + len ≤ length ps →
    length (addresses_of (stretch off len ps)) ≡ len
length-range off len ps h = rw length-map (length-take len (drop off ps) ∙ (omega (arith, length-drop off ps)))

next_place : (before a : ℕ) → is_next before a ≡ true → (a ≡ before + 1) × (0 < a % 4096)
next_place before a h = grind arith

-- a byte directly follows a run, in the same frame
module _ (at n a : ℕ) (some : 0 < n) (next : is_next (at + n - 1) a ≡ true) where
  pub next_is : a ≡ at + n
  next_is = omega (arith, some, (next_place _ a next).0)

  pub next_fits : at % 4096 + n ≤ 4096 → at % 4096 + n < 4096
  next_fits h = omega (arith, h, some, (next_place _ a next).0, (next_place _ a next).1)
