-- The way through the bytes of segments.
use Rattle.std.proofs.Common.{◌≡◌, ℕ, zero, suc, ◌+◌, ◌-◌, ◌^◌, ◌<◌, ◌≤◌, List, [], ◌++◌, length, drop, get_or, sum_by}
use Rattle.std.proofs.Common.{ap, sym, ◌∙◌, subst, inl, inr, arith, append_assoc}
use Rattle.std.proofs.Math.Path.{fun_ext}
use Rattle.std.proofs.lemmas.Bool.{cases_lt}
use Rattle.std.proofs.lemmas.List.{drop_more, drop_all, drop-append-le}
use Rattle.std.proofs.lemmas.List.Concat.{flat_map-cons, length-flat_map}
use Rattle.busdma_machine.specs.declared.machine.address.Segment.{Segment}
use Rattle.busdma_machine.specs.Runs.{run_of}
use Rattle.phys_memory.proofs.RunParts.{drop_append, drop_run, run_append}
use Rattle.busdma_rules.specs.Segments.Obeying.{segments_bytes}
use Rattle.busdma_rules.specs.Segments.Segmentation.{segment_bytes}
use Rattle.busdma_rules.proofs.Segments.Places.{run_length}
use Rattle.device_model.specs.AccessSteps.{BeginsLow, rest_from}

-- the segment that is read at a place outside the list
abbrev pub no_segment : Segment
no_segment = record { addr = record { 0 = 0 }; len = 0 }

-- the bytes of a segment, and of the segments after it
bytes_more : (segments : List Segment) (i : ℕ) → i < length segments
    → segment_bytes (drop i segments) ≡ run_of (get_or segments i no_segment).addr.0 (get_or segments i no_segment).len
    ++ segment_bytes (drop (i + 1) segments)
bytes_more segments i h =
    ap segment_bytes (drop_more segments i no_segment h)
    ∙ flat_map-cons (λ (s : Segment). run_of s.addr.0 s.len) (get_or segments i no_segment) (drop (i + 1) segments)

nothing_dropped : (k : ℕ) (xs : List ℕ) → xs ≡ [] → length (drop k xs) ≡ 0
nothing_dropped zero xs e = ap length e
nothing_dropped (suc k) xs e = ap (λ ys. length (drop (suc k) ys)) e

-- after a segment
pub past_segment : (segments : List Segment) (i skip : ℕ) → i < length segments →
    (get_or segments i no_segment).len ≤ skip
    → rest_from segments (i + 1) (skip - (get_or segments i no_segment).len) ≡ rest_from segments i skip
past_segment segments i skip h k =
    let s = get_or segments i no_segment in
    let run = run_of s.addr.0 s.len in
    let count : length run ≡ s.len = run_length s.addr.0 s.len in
    sym (ap (drop skip) (bytes_more segments i h) ∙ drop_append skip run (segment_bytes (drop (i + 1) segments))
    ∙ ap (λ xs. xs ++ drop (skip - length run) (segment_bytes (drop (i + 1) segments)))
    (drop_all skip run (omega (arith, count)))
    ∙ ap (λ n. drop (skip - n) (segment_bytes (drop (i + 1) segments))) count)

-- a byte that is left has a segment
pub some_segment : (segments : List Segment) (i skip : ℕ) →
    0 < length (rest_from segments i skip) → i < length segments
some_segment segments i skip h = elim (cases_lt i (length segments)) [
  | inl l ↦ l
  | inr l ↦
      let none = nothing_dropped skip (segment_bytes (drop i segments)) (ap segment_bytes (drop_all i segments l)) in
      absurd (omega (arith, none))
]

-- within a segment
within_segment : (segments : List Segment) (i skip : ℕ) → i < length segments →
    skip ≤ (get_or segments i no_segment).len
    → rest_from segments i skip ≡ run_of ((get_or segments i no_segment).addr.0 + skip)
    ((get_or segments i no_segment).len - skip) ++ segment_bytes (drop (i + 1) segments)
within_segment segments i skip h k =
    let s = get_or segments i no_segment in
    let run = run_of s.addr.0 s.len in
    let count : length run ≡ s.len = run_length s.addr.0 s.len in
    let fits : skip ≤ length run = omega (arith, count) in
    ap (drop skip) (bytes_more segments i h) ∙ drop-append-le skip run (segment_bytes (drop (i + 1) segments)) fits
    ∙ ap (λ xs. xs ++ segment_bytes (drop (i + 1) segments)) (drop_run skip s.addr.0 s.len)

-- a run of a segment's bytes, and what is after it
pub next_run : (segments : List Segment) (i skip n : ℕ) → i < length segments →
    skip + n ≤ (get_or segments i no_segment).len
    → rest_from segments i skip ≡ run_of ((get_or segments i no_segment).addr.0 + skip) n
    ++ rest_from segments i (skip + n)
next_run segments i skip n h k =
    let s = get_or segments i no_segment in
    let later = segment_bytes (drop (i + 1) segments) in
    let all : s.len - skip ≡ n + (s.len - (skip + n)) = omega arith in
    let next : s.addr.0 + skip + n ≡ s.addr.0 + (skip + n) = omega arith in
    within_segment segments i skip h (omega arith)
    ∙ ap (λ m. run_of (s.addr.0 + skip) m ++ later) all
    ∙ ap (λ xs. xs ++ later) (run_append (s.addr.0 + skip) n (s.len - (skip + n)))
    ∙ append_assoc (run_of (s.addr.0 + skip) n) (run_of (s.addr.0 + skip + n) (s.len - (skip + n))) later
    ∙ ap (λ a. run_of (s.addr.0 + skip) n ++ (run_of a (s.len - (skip + n)) ++ later)) next
    ∙ ap (λ xs. run_of (s.addr.0 + skip) n ++ xs) (sym (within_segment segments i (skip + n) h (omega arith)))

-- the first byte of a run lies low where those that it begins do
low_run : (a n : ℕ) (rest : List ℕ) → 0 < n → BeginsLow (run_of a n ++ rest) → a < 2 ^ 42
low_run a zero rest h l = absurd (omega arith)
low_run a (suc n) rest h l = l

pub low_byte : (segments : List Segment) (i skip : ℕ) → i < length segments →
    skip < (get_or segments i no_segment).len → BeginsLow (rest_from segments i skip)
    → (get_or segments i no_segment).addr.0 + skip < 2 ^ 42
low_byte segments i skip h k l =
    let s = get_or segments i no_segment in
    low_run (s.addr.0 + skip) (s.len - skip) (segment_bytes (drop (i + 1) segments)) (omega arith)
    (subst BeginsLow (within_segment segments i skip h (omega arith)) l)

-- how many bytes segments have
pub bytes_length : (segments : List Segment) → length (segment_bytes segments) ≡ segments_bytes segments
bytes_length segments =
    length-flat_map (λ (s : Segment). run_of s.addr.0 s.len) segments
    ∙ ap (λ f. sum_by f segments) (fun_ext (λ (s : Segment). run_length s.addr.0 s.len))
