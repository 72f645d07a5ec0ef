-- The physical addresses at which an IOMMU finds the bytes of a load.
use Rattle.std.proofs.Common.{◌≡◌, ℕ, zero, suc, ◌+◌, ◌*◌, ◌/◌, ◌%◌, ◌<◌, ◌≤◌, List, [], ◌∷◌, ◌++◌, length, map, Option}
use Rattle.std.proofs.Common.{Some, slice_get, refl, ap, sym, ◌∙◌, subst, arith}
use Rattle.std.specs.List.{AllByRecursion}
use Rattle.std.proofs.lemmas.List.{map-append, length-map, length-append, append-nil}
use Rattle.std.proofs.lemmas.List.Sums.{sum_by-cons}
use Rattle.busdma_machine.specs.declared.machine.address.Extent.{Extent}
use Rattle.busdma_machine.specs.declared.machine.chunk.Entry.{Entry}
use Rattle.busdma_machine.specs.Machine.Entry.{AreJoined, IsEntry, entries_addresses}
use Rattle.busdma_machine.specs.Runs.{IsExtent, addresses, byte_count, run_of}
use Rattle.busdma_rules.specs.Segments.Trace.{RisesByOne, bus_addresses, bus_trace, chunk_len}
use Rattle.busdma_rules.proofs.Segments.ChunkLaws.{run_split}
use Rattle.busdma_rules.specs.Iommu.Device.{device_begin, device_chunk, device_chunks, load_frames}

-- the device pages from `page` on are mapped to these frames
abbrev pub Carries : (ℕ → Option ℕ) → ℕ → List ℕ → Type 0
Carries find page frames = (i f a : ℕ) → slice_get frames i ≡ Some f → a / 4096 ≡ page + i →
    find a ≡ Some (4096 * f + a % 4096)

later : (find : ℕ → Option ℕ) (page f : ℕ) (fs : List ℕ) → Carries find page (f ∷ fs) → Carries find (page + 1) fs
later find page f fs h i g a e at = h (suc i) g a e (omega arith)

one-run : (find : ℕ → Option ℕ) (page f off n : ℕ) (fs : List ℕ) → Carries find page (f ∷ fs) → off + n ≤ 4096 →
    map find (run_of (4096 * page + off) n) ≡ map (λ a. Some a) (run_of (4096 * f + off) n)
one-run find page f off zero fs h l = refl
one-run find page f off (suc n) fs h l =
    let here : find (4096 * page + off) ≡ Some (4096 * f + off) =
    h 0 f (4096 * page + off) refl (omega arith) ∙ ap (λ i. Some (4096 * f + i)) (omega arith) in
    rw here (ap (λ xs. Some (4096 * f + off) ∷ xs)
    (ap (λ a. map find (run_of a n)) (omega arith) ∙ one-run find page f (off + 1) n fs h (omega arith)
    ∙ ap (λ a. map (λ b. Some b) (run_of a n)) (omega arith)))

own : (x : Extent) → 4096 * (x.pa.0 / 4096) + x.pa.0 % 4096 ≡ x.pa.0
own x = omega arith

pub extents-carried : (find : ℕ → Option ℕ) (page : ℕ) (xs : List Extent) →
    Carries find page (map (λ x. x.pa.0 / 4096) xs) → AllByRecursion IsExtent xs → AreJoined xs →
    map find (run_of (device_begin page xs) (byte_count xs)) ≡ map (λ a. Some a) (addresses xs)
extents-carried find page [] h all joined = refl
extents-carried find page (x ∷ []) h all joined =
    ap (λ n. map find (run_of (4096 * page + x.pa.0 % 4096) n)) (omega arith)
    ∙ one-run find page (x.pa.0 / 4096) (x.pa.0 % 4096) x.len [] h all.0.in_frame
    ∙ ap (λ a. map (λ b. Some b) (run_of a x.len)) (own x)
    ∙ ap (map (λ b. Some b)) (sym (append-nil (run_of x.pa.0 x.len)))
extents-carried find page (x ∷ y ∷ ys) h all joined =
    let rest = byte_count (y ∷ ys) in
    let begin = 4096 * page + x.pa.0 % 4096 in
    let full : begin + x.len ≡ device_begin (page + 1) (y ∷ ys) =
    omega (arith, joined.0, joined.1, all.0.in_frame, all.0.some) in
    ap (λ n. map find (run_of begin n)) (sum_by-cons (λ (z : Extent). z.len) x (y ∷ ys))
    ∙ ap (map find) (run_split begin x.len rest)
    ∙ map-append find (run_of begin x.len) (run_of (begin + x.len) rest)
    ∙ ap (λ a. map find (run_of begin x.len) ++ map find (run_of a rest)) full
    ∙ ap (λ zs. zs ++ map find (run_of (device_begin (page + 1) (y ∷ ys)) rest))
    (one-run find page (x.pa.0 / 4096) (x.pa.0 % 4096) x.len (map (λ z. z.pa.0 / 4096) (y ∷ ys)) h all.0.in_frame
    ∙ ap (λ a. map (λ b. Some b) (run_of a x.len)) (own x))
    ∙ ap (λ zs. map (λ b. Some b) (run_of x.pa.0 x.len) ++ zs)
    (extents-carried find (page + 1) (y ∷ ys) (later find page (x.pa.0 / 4096) (map (λ z. z.pa.0 / 4096) (y ∷ ys)) h)
    all.1 joined.2)
    ∙ sym (map-append (λ b. Some b) (run_of x.pa.0 x.len) (addresses (y ∷ ys)))

front : (find : ℕ → Option ℕ) (page : ℕ) (fs gs : List ℕ) → Carries find page (fs ++ gs) → Carries find page fs
front find page [] gs h i f a e at = absurd (cc)
front find page (g ∷ fs) gs h zero f a e at = h zero f a e at
front find page (g ∷ fs) gs h (suc i) f a e at =
    front find (page + 1) fs gs (later find page g (fs ++ gs) h) i f a e (omega arith)

back : (find : ℕ → Option ℕ) (page : ℕ) (fs gs : List ℕ) → Carries find page (fs ++ gs) →
    Carries find (page + length fs) gs
back find page [] gs h i f a e at = h i f a e (omega arith)
back find page (g ∷ fs) gs h i f a e at =
    back find (page + 1) fs gs (later find page g (fs ++ gs) h) i f a e (omega arith)

pub entries-carried : (find : ℕ → Option ℕ) (page at : ℕ) (es : List Entry) → Carries find page (load_frames es) →
    AllByRecursion IsEntry es →
    map find (bus_trace (device_chunks page at es)) ≡ map (λ a. Some a) (entries_addresses es)
entries-carried find page at [] h all = refl
entries-carried find page at (e ∷ es) h all =
    let frames = map (λ (x : Extent). x.pa.0 / 4096) e.parts in
    let run = run_of (device_begin page e.parts) (byte_count e.parts) in
    let others = bus_trace (device_chunks (page + length e.parts) (at + byte_count e.parts) es) in
    ap (λ xs. map find (xs ++ others)) (append-nil run)
    ∙ map-append find run others
    ∙ ap (λ xs. xs ++ map find others)
    (extents-carried find page e.parts (front find page frames (load_frames es) h) all.0.extents all.0.joined)
    ∙ ap (λ xs. map (λ b. Some b) (addresses e.parts) ++ xs)
    (entries-carried find (page + length e.parts) (at + byte_count e.parts) es
    (subst (λ n. Carries find (page + n) (load_frames es)) (length-map e.parts (λ (x : Extent). x.pa.0 / 4096))
    (back find page frames (load_frames es) h)) all.1)
    ∙ sym (map-append (λ b. Some b) (addresses e.parts) (entries_addresses es))

pub device-rises : (page at : ℕ) (es : List Entry) → AllByRecursion RisesByOne (device_chunks page at es)
device-rises page at [] = tt
device-rises page at (e ∷ es) =
    let run : bus_addresses (device_chunk page at e) ≡ run_of (device_begin page e.parts)
    (chunk_len (device_chunk page at e)) =
    append-nil (run_of (device_begin page e.parts) (byte_count e.parts))
    ∙ ap (run_of (device_begin page e.parts)) (omega arith) in
    ((device_begin page e.parts, run), device-rises (page + length e.parts) (at + byte_count e.parts) es)

-- a property of all addresses of device pages holds of the addresses of a load in these pages
all-append : (P : ℕ → Type 0) (xs ys : List ℕ) → AllByRecursion P xs → AllByRecursion P ys →
    AllByRecursion P (xs ++ ys)
all-append P [] ys h k = k
all-append P (x ∷ xs) ys h k = (h.0, all-append P xs ys h.1 k)

run-all : (P : ℕ → Type 0) (a n end : ℕ) → a + n ≤ end → ((b : ℕ) → a ≤ b → b < end → P b) →
    AllByRecursion P (run_of a n)
run-all P a zero end l h = tt
run-all P a (suc n) end l h =
    (h a (omega arith) (omega arith), run-all P (a + 1) n end (omega arith) (λ b g m. h b (omega arith) m))

-- extents begin in the first of their device pages, and end in the last one
begins : (page : ℕ) (xs : List Extent) → 4096 * page ≤ device_begin page xs
begins page [] = omega arith
begins page (x ∷ xs) = omega arith

pub ends : (page : ℕ) (xs : List Extent) → AllByRecursion IsExtent xs → AreJoined xs →
    device_begin page xs + byte_count xs ≤ 4096 * (page + length xs)
ends page [] all joined = omega arith
ends page (x ∷ []) all joined = omega (arith, all.0.in_frame)
ends page (x ∷ y ∷ ys) all joined =
    omega (
      arith,
      joined.0,
      joined.1,
      all.0.in_frame,
      all.0.some,
      ends (page + 1) (y ∷ ys) all.1 joined.2,
      sum_by-cons (λ (z : Extent). z.len) x (y ∷ ys),
    )

pub device-within : (P : ℕ → Type 0) (page at end : ℕ) (es : List Entry) → AllByRecursion IsEntry es →
    4096 * (page + length (load_frames es)) ≤ end → ((b : ℕ) → 4096 * page ≤ b → b < end → P b) →
    AllByRecursion P (bus_trace (device_chunks page at es))
device-within P page at end [] all l h = tt
device-within P page at end (e ∷ es) all l h =
    let frames = map (λ (x : Extent). x.pa.0 / 4096) e.parts in
    let long : length (frames ++ load_frames es) ≡ length e.parts + length (load_frames es) =
    length-append frames (load_frames es)
    ∙ ap (λ n. n + length (load_frames es)) (length-map e.parts (λ (x : Extent). x.pa.0 / 4096)) in
    let run = run_of (device_begin page e.parts) (byte_count e.parts) in
    all-append P (run ++ []) _ (subst (AllByRecursion P) (sym (append-nil run))
    (run-all P (device_begin page e.parts) (byte_count e.parts) end
    (omega (arith, long, l, ends page e.parts all.0.extents all.0.joined))
    (λ b g m. h b (omega (arith, begins page e.parts)) m)))
    (device-within P (page + length e.parts) (at + byte_count e.parts) end es all.1 (omega (arith, long, l))
    (λ b g m. h b (omega arith) m))

-- The first byte of a load.

-- addresses, the first of which lies in a page
pub record BeginsIn (page : ℕ) (bytes : List ℕ) : Type 0 where
  pub first : ℕ
  pub rest : List ℕ
  pub are : bytes ≡ first ∷ rest
  pub lies : first / 4096 ≡ page

run-begins : (page a n : ℕ) (bytes : List ℕ) → 1 ≤ n → a / 4096 ≡ page → BeginsIn page ((run_of a n ++ []) ++ bytes)
run-begins page a zero bytes some e = absurd (omega arith)
run-begins page a (suc n) bytes some e = record {
  first = a;
  rest = (run_of (a + 1) n ++ []) ++ bytes;
  are = refl;
  lies = e;
}

entry-begins : (page : ℕ) (xs : List Extent) (fs bytes : List ℕ) → AllByRecursion IsExtent xs →
    1 ≤ length (map (λ x. x.pa.0 / 4096) xs ++ fs) → (1 ≤ length fs → BeginsIn (page + length xs) bytes) →
    BeginsIn page ((run_of (device_begin page xs) (byte_count xs) ++ []) ++ bytes)
entry-begins page [] fs bytes all some rest =
    let none : page + length {A = Extent} [] ≡ page = omega arith in
    subst (λ q. BeginsIn q bytes) none (rest some)
entry-begins page (x ∷ xs) fs bytes all some rest =
    run-begins page (4096 * page + x.pa.0 % 4096) (byte_count (x ∷ xs)) bytes
    (omega (arith, all.0.some, sum_by-cons (λ (z : Extent). z.len) x xs)) (omega arith)

pub device-first : (page at : ℕ) (es : List Entry) → AllByRecursion IsEntry es → 1 ≤ length (load_frames es) →
    BeginsIn page (bus_trace (device_chunks page at es))
device-first page at [] all some = absurd (omega arith)
device-first page at (e ∷ es) all some =
    entry-begins page e.parts (load_frames es)
    (bus_trace (device_chunks (page + length e.parts) (at + byte_count e.parts) es)) all.0.extents some
    (λ more. device-first (page + length e.parts) (at + byte_count e.parts) es all.1 more)

-- a load that touches no frame has no byte
entry-none : (page : ℕ) (xs : List Extent) (fs bytes : List ℕ) → length (map (λ x. x.pa.0 / 4096) xs ++ fs) ≡ 0 →
    (length fs ≡ 0 → bytes ≡ []) → (run_of (device_begin page xs) (byte_count xs) ++ []) ++ bytes ≡ []
entry-none page [] fs bytes none rest = rest none
entry-none page (x ∷ xs) fs bytes none rest = absurd (omega arith)

pub device-none : (page at : ℕ) (es : List Entry) → length (load_frames es) ≡ 0 →
    bus_trace (device_chunks page at es) ≡ []
device-none page at [] none = refl
device-none page at (e ∷ es) none =
    entry-none page e.parts (load_frames es)
    (bus_trace (device_chunks (page + length e.parts) (at + byte_count e.parts) es)) none
    (λ rest. device-none (page + length e.parts) (at + byte_count e.parts) es rest)
