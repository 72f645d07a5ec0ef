-- The way through the bytes of extents.
use Rattle.std.proofs.Common.{◌≡◌, ℕ, zero, suc, ◌+◌, ◌-◌, ◌^◌, ◌<◌, ◌≤◌, List, [], ◌++◌, length, drop, get_or}
use Rattle.std.proofs.Common.{ap, sym, ◌∙◌, subst, inl, inr, arith, append_assoc}
use Rattle.std.proofs.lemmas.Bool.{cases_lt}
use Rattle.std.proofs.lemmas.List.{drop_more, drop_all, drop-append-le}
use Rattle.busdma_machine.specs.declared.machine.address.Extent.{Extent}
use Rattle.busdma_machine.specs.Runs.{addresses, run_of}
use Rattle.phys_memory.proofs.Extents.{length-run_of}
use Rattle.phys_memory.proofs.RunParts.{drop_append, drop_run, run_append}
use Rattle.mbuf_defrag.specs.CopySteps.{BeginsLow, rest_from}

-- the extent that is read at a place outside the list
abbrev pub no_extent : Extent
no_extent = record { pa = record { 0 = 0 }; len = 0 }

-- the bytes of an extent, and of the extents after it
bytes_more : (es : List Extent) (i : ℕ) → i < length es
    → addresses (drop i es) ≡ run_of (get_or es i no_extent).pa.0 (get_or es i no_extent).len
    ++ addresses (drop (i + 1) es)
bytes_more es i h = ap addresses (drop_more es i no_extent h)

nothing_dropped : (k : ℕ) (xs : List ℕ) → xs ≡ [] → length (drop k xs) ≡ 0
nothing_dropped zero xs e = ap length e
nothing_dropped (suc k) xs e = ap (λ ys. length (drop (suc k) ys)) e

-- after an extent
pub past_extent : (es : List Extent) (i skip : ℕ) → i < length es → (get_or es i no_extent).len ≤ skip
    → rest_from es (i + 1) (skip - (get_or es i no_extent).len) ≡ rest_from es i skip
past_extent es i skip h k =
    let s = get_or es i no_extent in
    let run = run_of s.pa.0 s.len in
    let count : length run ≡ s.len = length-run_of s.pa.0 s.len in
    sym (ap (drop skip) (bytes_more es i h) ∙ drop_append skip run (addresses (drop (i + 1) es))
    ∙ ap (λ xs. xs ++ drop (skip - length run) (addresses (drop (i + 1) es)))
    (drop_all skip run (omega (arith, count)))
    ∙ ap (λ n. drop (skip - n) (addresses (drop (i + 1) es))) count)

-- a byte that is left has an extent
pub some_extent : (es : List Extent) (i skip : ℕ) → 0 < length (rest_from es i skip) → i < length es
some_extent es i skip h = elim (cases_lt i (length es)) [
  | inl l ↦ l
  | inr l ↦
      let none = nothing_dropped skip (addresses (drop i es)) (ap addresses (drop_all i es l)) in
      absurd (omega (arith, none))
]

-- within an extent
within_extent : (es : List Extent) (i skip : ℕ) → i < length es → skip ≤ (get_or es i no_extent).len
    → rest_from es i skip ≡ run_of ((get_or es i no_extent).pa.0 + skip) ((get_or es i no_extent).len - skip)
    ++ addresses (drop (i + 1) es)
within_extent es i skip h k =
    let s = get_or es i no_extent in
    let run = run_of s.pa.0 s.len in
    let count : length run ≡ s.len = length-run_of s.pa.0 s.len in
    let fits : skip ≤ length run = omega (arith, count) in
    ap (drop skip) (bytes_more es i h) ∙ drop-append-le skip run (addresses (drop (i + 1) es)) fits
    ∙ ap (λ xs. xs ++ addresses (drop (i + 1) es)) (drop_run skip s.pa.0 s.len)

-- a run of an extent's bytes, and what is after it
pub next_run : (es : List Extent) (i skip n : ℕ) → i < length es → skip + n ≤ (get_or es i no_extent).len
    → rest_from es i skip ≡ run_of ((get_or es i no_extent).pa.0 + skip) n ++ rest_from es i (skip + n)
next_run es i skip n h k =
    let s = get_or es i no_extent in
    let later = addresses (drop (i + 1) es) in
    let all : s.len - skip ≡ n + (s.len - (skip + n)) = omega arith in
    let next : s.pa.0 + skip + n ≡ s.pa.0 + (skip + n) = omega arith in
    within_extent es i skip h (omega arith)
    ∙ ap (λ m. run_of (s.pa.0 + skip) m ++ later) all
    ∙ ap (λ xs. xs ++ later) (run_append (s.pa.0 + skip) n (s.len - (skip + n)))
    ∙ append_assoc (run_of (s.pa.0 + skip) n) (run_of (s.pa.0 + skip + n) (s.len - (skip + n))) later
    ∙ ap (λ a. run_of (s.pa.0 + skip) n ++ (run_of a (s.len - (skip + n)) ++ later)) next
    ∙ ap (λ xs. run_of (s.pa.0 + skip) n ++ xs) (sym (within_extent es i (skip + n) h (omega arith)))

-- the first byte of a run lies low where those that it begins do
low_run : (a n : ℕ) (rest : List ℕ) → 0 < n → BeginsLow (run_of a n ++ rest) → a < 2 ^ 42
low_run a zero rest h l = absurd (omega arith)
low_run a (suc n) rest h l = l

pub low_byte : (es : List Extent) (i skip : ℕ) → i < length es → skip < (get_or es i no_extent).len →
    BeginsLow (rest_from es i skip) → (get_or es i no_extent).pa.0 + skip < 2 ^ 42
low_byte es i skip h k l =
    let s = get_or es i no_extent in
    low_run (s.pa.0 + skip) (s.len - skip) (addresses (drop (i + 1) es)) (omega arith)
    (subst BeginsLow (within_extent es i skip h (omega arith)) l)
