-- The copies of the extents of a chunk, one after the other.
use Rattle.std.proofs.Common.{◌≡◌, ℕ, ◌+◌, ◌-◌, ◌/◌, ◌%◌, ◌<◌, ◌≤◌, min, List, [], ◌∷◌, ◌++◌, length, map}
use Rattle.std.proofs.Common.{ap, sym, ◌∙◌, arith}
use Rattle.std.proofs.Common.{subst}
use Rattle.std.specs.Prelude.{Option, Some}
use Rattle.std.specs.Option.{option_to_list}
use Rattle.std.proofs.lemmas.List.{append-nil, length-map, map-append}
use Rattle.std.proofs.lemmas.List.Sums.{sum_by-cons}
use Rattle.busdma_machine.specs.declared.machine.address.Extent.{Extent}
use Rattle.busdma_machine.specs.Machine.Page.{FrameBytes, overwritten}
use Rattle.busdma_machine.specs.Machine.Wire.{Wire, put, with_bytes_of}
use Rattle.busdma_machine.specs.Runs.{addresses, byte_count, run_of}
use Rattle.phys_memory.specs.Memory.{memory_written}
use Rattle.phys_memory.proofs.PageBytes.{page_written}
use Rattle.phys_memory.proofs.Writing.{written_run}
use Rattle.busdma_rules.proofs.Segments.Places.{run_length}
use Rattle.map_sync.specs.Copying.{IsWritten, part}
use Rattle.phys_memory.proofs.RunParts.{run_append}
use Rattle.map_sync.proofs.Parts.{part_append, part_run, put_both}

-- ---- the bytes of a chunk of one extent, and of two
one_count : (e : Extent) → byte_count (e ∷ []) ≡ e.len
one_count e = sum_by-cons (λ (x : Extent). x.len) e [] ∙ (omega arith)

two_count : (e r : Extent) → byte_count (e ∷ r ∷ []) ≡ e.len + r.len
two_count e r = sum_by-cons (λ (x : Extent). x.len) e (r ∷ []) ∙ ap (λ n. e.len + n) (one_count r)

pub keys_two : (from to bus : ℕ) (e r : Extent) →
    part from to (run_of bus (byte_count (e ∷ r ∷ []))) ≡ part from to (run_of bus e.len)
    ++ part (from - e.len) (to - e.len) (run_of (bus + e.len) r.len)
keys_two from to bus e r =
    ap (λ n. part from to (run_of bus n)) (two_count e r) ∙ ap (part from to) (run_append bus e.len r.len)
    ∙ part_append from to (run_of bus e.len) (run_of (bus + e.len) r.len)
    ∙ ap (λ n. part from to (run_of bus e.len)
    ++ part (from - n) (to - n) (run_of (bus + e.len) r.len)) (run_length bus e.len)

pub bytes_one : (from to : ℕ) (e : Extent) → part from to (addresses (e ∷ [])) ≡ part from to (run_of e.pa.0 e.len)
bytes_one from to e = ap (part from to) (append-nil (run_of e.pa.0 e.len))

pub bytes_two : (from to : ℕ) (e r : Extent) →
    part from to (addresses (e ∷ r ∷ [])) ≡ part from to (run_of e.pa.0 e.len)
    ++ part (from - e.len) (to - e.len) (run_of r.pa.0 r.len)
bytes_two from to e r =
    part_append from to (run_of e.pa.0 e.len) (addresses (r ∷ []))
    ∙ ap (λ n. part from to (run_of e.pa.0 e.len)
    ++ part (from - n) (to - n) (addresses (r ∷ []))) (run_length e.pa.0 e.len)
    ∙ ap (λ xs. part from to (run_of e.pa.0 e.len) ++ xs) (bytes_one (from - e.len) (to - e.len) r)

-- the same part of two runs of one length
pub parts_alike : (from to a b n : ℕ) → length (part from to (run_of a n)) ≡ length (part from to (run_of b n))
parts_alike from to a b n =
    ap length (part_run from to a n) ∙ run_length (a + from) (min to n - from)
    ∙ sym (ap length (part_run from to b n) ∙ run_length (b + from) (min to n - from))

-- ---- what is written into a page
pub written_both : (old now new : FrameBytes) (xs ys vs us : List ℕ) → length xs ≡ length vs →
    IsWritten old now xs vs → IsWritten now new ys us → IsWritten old new (xs ++ ys) (vs ++ us)
written_both old now new xs ys vs us e h k w =
    k w ∙ ap (put ys us) (h w) ∙ sym (put_both xs ys vs us (with_bytes_of (old ∷ []) w) e)

-- a part without a byte
pub empty_part : (from to a n : ℕ) → min to n ≤ from → part from to (run_of a n) ≡ []
empty_part from to a n h = let e : min to n - from ≡ 0 = omega arith in part_run from to a n ∙ ap (run_of (a + from)) e

pub nothing_written : (page : FrameBytes) (from to bus n : ℕ) (vs : List ℕ) → min to n ≤ from →
    IsWritten page page (part from to (run_of bus n)) vs
nothing_written page from to bus n vs h w =
    sym (ap (λ xs. put xs vs (with_bytes_of (page ∷ []) w)) (empty_part from to bus n h))

pub extent_written : (f : ℕ → ℕ) (from to bus pa n : ℕ) (old new : FrameBytes) (bs : List ℕ) →
    length old.bytes ≡ 4096 → bus / 4096 ≡ old.frame → bus % 4096 + n ≤ 4096 → from < min to n
    → bs ≡ map f (run_of (pa + from) (min to n - from)) →
    new ≡ record old { bytes = overwritten old.bytes (bus % 4096 + from) bs }
    → IsWritten old new (part from to (run_of bus n)) (map f (part from to (run_of pa n)))
extent_written f from to bus pa n old new bs whole here fits some e is w =
    let count : length bs ≡ min to n - from = ap length e ∙ length-map (run_of (pa + from) (min to n - from)) f
    ∙ run_length (pa + from) (min to n - from) in
    let place : bus % 4096 + from ≡ (bus + from) % 4096 = omega arith in
    ap (λ p. with_bytes_of (p ∷ []) w) (is ∙ ap (λ at. record old { bytes = overwritten old.bytes at bs }) place)
    ∙ page_written old (bus + from) bs w whole (omega arith) (omega (arith, count))
    ∙ ap (λ k. put (run_of (bus + from) k) bs (with_bytes_of (old ∷ []) w)) count
    ∙ ap (λ vs. put (run_of (bus + from) (min to n - from)) vs (with_bytes_of (old ∷ []) w)) e
    ∙ ap (λ xs. put xs (map f (run_of (pa + from) (min to n - from))) (with_bytes_of (old ∷ []) w))
    (sym (part_run from to bus n))
    ∙ ap (λ xs. put (part from to (run_of bus n)) (map f xs) (with_bytes_of (old ∷ []) w))
    (sym (part_run from to pa n))

-- the second extent of a chunk is written after the first
pub two_written : (f : ℕ → ℕ) (from to later until bus : ℕ) (e r : Extent) (o : Option Extent)
    (old now new : FrameBytes) → o ≡ Some r → later ≡ from - e.len → until ≡ to - e.len
    → IsWritten old now (part from to (run_of bus e.len)) (map f (part from to (run_of e.pa.0 e.len)))
    → IsWritten now new (part later until (run_of (bus + e.len) r.len))
    (map f (part later until (run_of r.pa.0 r.len)))
    → IsWritten old new (part from to (run_of bus (byte_count (e ∷ option_to_list o))))
    (map f (part from to (addresses (e ∷ option_to_list o))))
two_written f from to later until bus e r o old now new is begin end h k =
    subst (λ (x : Option Extent). IsWritten old new (part from to (run_of bus (byte_count (e ∷ option_to_list x))))
    (map f (part from to (addresses (e ∷ option_to_list x))))) (sym is)
    (both
    (subst (λ n. IsWritten now new (part (from - e.len) n (run_of (bus + e.len) r.len))
    (map f (part (from - e.len) n (run_of r.pa.0 r.len)))) end
    (subst (λ n. IsWritten now new (part n until (run_of (bus + e.len) r.len))
    (map f (part n until (run_of r.pa.0 r.len)))) begin k)))
  where
    keys : List ℕ
    keys = part from to (run_of bus e.len)

    more : List ℕ
    more = part (from - e.len) (to - e.len) (run_of (bus + e.len) r.len)

    bytes : List ℕ
    bytes = part from to (run_of e.pa.0 e.len)

    rest : List ℕ
    rest = part (from - e.len) (to - e.len) (run_of r.pa.0 r.len)

    alike : length keys ≡ length (map f bytes)
    alike = parts_alike from to bus e.pa.0 e.len ∙ sym (length-map bytes f)

    both : IsWritten now new more (map f rest) →
        IsWritten old new (part from to (run_of bus (byte_count (e ∷ r ∷ []))))
        (map f (part from to (addresses (e ∷ r ∷ []))))
    both second w =
        written_both old now new keys more (map f bytes) (map f rest) alike h second w
        ∙ ap (λ xs. put xs (map f bytes ++ map f rest) (with_bytes_of (old ∷ []) w)) (sym (keys_two from to bus e r))
        ∙ ap (λ vs. put (part from to (run_of bus (byte_count (e ∷ r ∷ [])))) vs (with_bytes_of (old ∷ []) w))
        (sym (ap (map f) (bytes_two from to e r) ∙ map-append f bytes rest))

-- ---- what is written into the memory
pub copied_extent : (f w now : ℕ → ℕ) (from to bus pa n : ℕ) (bs : List ℕ) →
    bs ≡ map f (run_of (bus + from) (min to n - from)) → now ≡ memory_written (pa + from) bs w
    → now ≡ put (part from to (run_of pa n)) (map f (part from to (run_of bus n))) w
copied_extent f w now from to bus pa n bs e is =
    let count : length bs ≡ min to n - from = ap length e ∙ length-map (run_of (bus + from) (min to n - from)) f
    ∙ run_length (bus + from) (min to n - from) in
    is ∙ written_run (pa + from) bs w ∙ ap (λ k. put (run_of (pa + from) k) bs w) count
    ∙ ap (λ vs. put (run_of (pa + from) (min to n - from)) vs w) e
    ∙ ap (λ xs. put xs (map f (run_of (bus + from) (min to n - from))) w) (sym (part_run from to pa n))
    ∙ ap (λ xs. put (part from to (run_of pa n)) (map f xs) w) (sym (part_run from to bus n))

pub nothing_copied : (w : Wire) (from to pa n : ℕ) (vs : List ℕ) → min to n ≤ from →
    w ≡ put (part from to (run_of pa n)) vs w
nothing_copied w from to pa n vs h = sym (ap (λ xs. put xs vs w) (empty_part from to pa n h))

pub two_copied : (f w now new : ℕ → ℕ) (from to later until bus : ℕ) (e r : Extent) (o : Option Extent) → o ≡ Some r →
    later ≡ from - e.len → until ≡ to - e.len
    → now ≡ put (part from to (run_of e.pa.0 e.len)) (map f (part from to (run_of bus e.len))) w
    → new ≡ put (part later until (run_of r.pa.0 r.len)) (map f (part later until (run_of (bus + e.len) r.len))) now
    → new ≡ put (part from to (addresses (e ∷ option_to_list o)))
    (map f (part from to (run_of bus (byte_count (e ∷ option_to_list o))))) w
two_copied f w now new from to later until bus e r o is begin end h k =
    subst (λ (x : Option Extent). new ≡ put (part from to (addresses (e ∷ option_to_list x)))
    (map f (part from to (run_of bus (byte_count (e ∷ option_to_list x))))) w) (sym is)
    (k
    ∙ ap (λ n. put (part n until (run_of r.pa.0 r.len)) (map f (part n until (run_of (bus + e.len) r.len))) now) begin
    ∙ ap (λ n. put (part (from - e.len) n (run_of r.pa.0 r.len))
    (map f (part (from - e.len) n (run_of (bus + e.len) r.len))) now) end
    ∙ ap (put rest (map f more)) h
    ∙ sym (put_both bytes rest (map f keys) (map f more) w alike)
    ∙ ap (λ xs. put xs (map f keys ++ map f more) w) (sym (bytes_two from to e r))
    ∙ ap (λ vs. put (part from to (addresses (e ∷ r ∷ []))) vs w)
    (sym (ap (map f) (keys_two from to bus e r) ∙ map-append f keys more)))
  where
    keys : List ℕ
    keys = part from to (run_of bus e.len)

    more : List ℕ
    more = part (from - e.len) (to - e.len) (run_of (bus + e.len) r.len)

    bytes : List ℕ
    bytes = part from to (run_of e.pa.0 e.len)

    rest : List ℕ
    rest = part (from - e.len) (to - e.len) (run_of r.pa.0 r.len)

    alike : length bytes ≡ length (map f keys)
    alike = parts_alike from to e.pa.0 bus e.len ∙ sym (length-map keys f)
