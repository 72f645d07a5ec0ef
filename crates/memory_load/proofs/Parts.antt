-- The stream of a run of bytes.
use Rattle.std.proofs.Common.{◌≡◌, ℕ, zero, suc, ◌+◌, ◌-◌, ◌%◌, ◌^◌, ◌<◌, ◌≤◌, min, Bool, true, false, List, [], ◌∷◌}
use Rattle.std.proofs.Common.{◌++◌, length, refl, ap, sym, ◌∙◌, subst, cond, arith, inl, inr, append-nil}
use Rattle.std.specs.Prelude.{Option, Some, None, nat_eq, nat_lt, if◌then◌else◌}
use Rattle.std.proofs.lemmas.Bool.{cases_lt, eq-eqb, lt-ltb, ltb-true}
use Rattle.busdma_machine.specs.declared.machine.address.Extent.{Extent}
use Rattle.busdma_machine.specs.declared.machine.chunk.Part.{Part}
use Rattle.busdma_machine.specs.declared.machine.chunk.Part.TheVariants as part
use Rattle.busdma_machine.specs.Machine.Entry.{IsStream, stream_entries}
use Rattle.busdma_machine.specs.Machine.Entry.{extent_parts, others_of, unmapped_of}
use Rattle.busdma_machine.specs.Machine.Spans.{one_span}
use Rattle.busdma_machine.specs.Runs.{run_of}
use Rattle.phys_memory.specs.Extents.{BeginsFrame}
use Rattle.busdma_rules.specs.Memory.Extents.{extents_of, reached_addresses, then_reached}
use Rattle.busdma_rules.specs.Memory.Translation.{Translation}
use Rattle.phys_memory.specs.VectorStreams.{spans_stream}
use Rattle.busdma_rules.specs.Memory.Vectors.{with_entry}
use Rattle.phys_memory.specs.Walk.{run_stream}
use Rattle.busdma_rules.proofs.Memory.Extents.{Begins, begins}
use Rattle.phys_memory.proofs.Extents.{extents_of-run, length-run_of}
use Rattle.phys_memory.proofs.Loads.{one_bytes, spans_load}
use Rattle.busdma_rules.proofs.Memory.Paged.{IsPaged}
use Rattle.phys_memory.proofs.RunParts.{run_append}
use Rattle.phys_memory.proofs.VectorLaws.{spans_one}
use Rattle.memory_load.specs.MemoryLoad.{run_entries, run_parts}

-- ---- one part after the other

-- the bytes after the part of one frame begin a frame
next_frame : (a n : ℕ) → (0 < n → a % 4096 ≡ 0) → BeginsFrame (run_of a n)
next_frame a zero h = tt
next_frame a (suc n) h = h (omega arith)

pub run_next : (opens : Bool) (at left n : ℕ) → 0 < left → n ≡ min (4096 - at % 4096) left →
    run_parts opens at left
    ≡ part.Of (record { pa = record { 0 = at }; len = n }) opens true ∷ run_parts false (at + n) (left - n)
run_next opens at left n some is =
    let whole : left ≡ n + (left - n) = omega arith in
    ap (λ k. run_parts opens at k) whole
    ∙ ap (λ pas. extent_parts opens true (extents_of pas)) (run_append at n (left - n))
    ∙ ap (extent_parts opens true) (extents_of-run at n (run_of (at + n) (left - n)) (omega arith) (omega arith)
    (next_frame (at + n) (left - n) (λ more. omega arith)))

-- ---- its entries

others_all : (es : List Extent) → others_of (extent_parts false true es) ≡ es
others_all [] = refl
others_all (e ∷ es) = ap (λ xs. e ∷ xs) (others_all es)

no_entries : (es : List Extent) → stream_entries (extent_parts false true es) ≡ []
no_entries [] = refl
no_entries (e ∷ es) = no_entries es

one_entry : (e : Extent) (es : List Extent) →
    stream_entries (extent_parts true true (e ∷ es)) ≡ record { rounded = true; parts = e ∷ es } ∷ []
one_entry e es =
    ap (λ xs. record { rounded = true; parts = e ∷ xs } ∷ stream_entries (extent_parts false true es)) (others_all es)
    ∙ ap (λ xs. record { rounded = true; parts = e ∷ es } ∷ xs) (no_entries es)

entries_are : (pas : List ℕ) → stream_entries (extent_parts true true (extents_of pas)) ≡ with_entry true pas []
entries_are [] = refl
entries_are (pa ∷ pas) =
    let b = begins pa (extents_of pas) in
    ap (λ es. stream_entries (extent_parts true true es)) b.are ∙ one_entry b.first b.others
    ∙ ap (λ es. record { rounded = true; parts = es } ∷ []) (sym b.are)

pub run_entries_are : (first len : ℕ) → stream_entries (run_parts true first len) ≡ run_entries first len
run_entries_are first len = entries_are (run_of first len)

all_mapped : (opens : Bool) (es : List Extent) → unmapped_of (extent_parts opens true es) ≡ None
all_mapped opens [] = refl
all_mapped opens (e ∷ es) = all_mapped false es

pub run_mapped : (first len : ℕ) → unmapped_of (run_parts true first len) ≡ None
run_mapped first len = all_mapped true (extents_of (run_of first len))

-- ---- it is the stream of a load

-- each byte of a machine by its own address
abbrev itself : Translation
itself va = if nat_lt va (2 ^ 42) then Some va else None

is_itself : (va p : ℕ) → itself va ≡ Some p → (p ≡ va) × (va < 2 ^ 42)
is_itself va p =
    (elim (nat_lt va (2 ^ 42))
    as (λ b. nat_lt va (2 ^ 42) ≡ b → cond b (Some va) None ≡ Some p → (p ≡ va) × (va < 2 ^ 42)) [
      | true ↦ λ w e. (cc, ltb-true va (2 ^ 42) w)
      | false ↦ λ w e. absurd (cc)
    ]) refl

paged : IsPaged (λ _. Unit {0}) itself
paged = record {
  places = λ va p e. ap (λ a. a % 4096) (is_itself va p e).0;
  next = λ va p q e f apart.
      let here = is_itself va p e in
      let there = is_itself (va + 1) q f in
      omega arith;
  low = λ va p e. let here = is_itself va p e in omega arith;
  has = λ va p e. tt;
}

reached_run : (va n : ℕ) → va + n ≤ 2 ^ 42 → reached_addresses itself va n ≡ run_of va n
reached_run va zero h = refl
reached_run va (suc n) h =
    let here : itself va ≡ Some va = ap (λ b. cond b (Some va) None) (lt-ltb va (2 ^ 42) (omega arith)) in
    ap (λ o. then_reached o (reached_addresses itself (va + 1) n)) here
    ∙ ap (λ pas. va ∷ pas) (reached_run (va + 1) n (omega arith))

stream_is : (first len : ℕ) → first + len ≤ 2 ^ 42 →
    spans_stream true itself (one_span first len) ≡ run_parts true first len
stream_is first len h =
    spans_one true itself first len
    ∙ ap (λ pas. run_stream pas len 0 true true) (reached_run first len h)
    ∙ ap (λ b. run_parts true first len ++ (if b then [] else part.Unmapped (0 + length (run_of first len)) ∷ []))
    (eq-eqb (length (run_of first len)) len (length-run_of first len))
    ∙ append-nil (run_parts true first len)

pub run_is_stream : (first len : ℕ) → first + len ≤ 2 ^ 42 → len ≤ 2 ^ 20 → IsStream (run_parts true first len)
run_is_stream first len inside small =
    subst IsStream (stream_is first len inside)
    (spans_load (λ _. Unit {0}) true itself paged (one_span first len) (omega (arith, one_bytes first len)))
