-- The byte at each address while bytes are written part by part.
use Rattle.std.proofs.Common.{◌≡◌, ℕ, suc, ◌+◌, ◌-◌, ◌<◌, ◌≤◌, ◌==◌, Bool, true, cond, List, [], ◌∷◌, ◌++◌, length}
use Rattle.std.proofs.Common.{map, take, drop, ◌/◌, refl, sym, ap, ◌∙◌, arith}
use Rattle.std.proofs.Common.{get_or, subst, ◌≢◌, inl, inr, length-take, length-drop, length-append}
use Rattle.std.proofs.Common.{append_assoc, IsSome}
use Rattle.std.specs.List.{AllByRecursion}
use Rattle.std.specs.Ordering.{nat_cmp}
use Rattle.std.specs.FinMap.{FinMap, get}
use Rattle.std.proofs.lemmas.Bool.{eq-eqb, ne_eqb, lt-ltb, le-leb, lt-leb, le-ltb, cases_lt}
use Rattle.std.proofs.lemmas.List.{at_drop_more, drop_more, drop-drop, map-append}
use Rattle.std.proofs.lemmas.List.Sums.{sum_by-cons}
use Rattle.busdma_machine.specs.declared.machine.address.Extent.{Extent}
use Rattle.busdma_machine.specs.Runs.{run_of, addresses, byte_count}
use Rattle.phys_memory.specs.Memory.{FrameMemory, memory_has_frame}
use Rattle.phys_memory.specs.Memory.{memory_written, rewritten}
use Rattle.phys_memory.specs.Extents.{LiesInFrames}
use Rattle.busdma_rules.specs.declared.position.Position.{Position}
use Rattle.busdma_rules.specs.Lending.Loans.{addresses_of}
use Rattle.loan_table.proofs.Addresses.{no_extent}
use Rattle.loan_table.proofs.Judgement.{length-run_of}
use Rattle.lane_state.specs.Covered.{IsCovered}
use Rattle.phys_memory.specs.Frames.{Lie, SamePages}
use Rattle.busdma_machine.specs.Machine.Wire.{put}
use Rattle.lane_state.proofs.Marks.{has_inserted}

-- nothing is written without values
wired_none : (xs : List ℕ) (w : ℕ → ℕ) → put xs [] w ≡ w
wired_none [] w = refl
wired_none (x ∷ xs) w = refl

-- bytes that are written at some addresses, then at others
pub wired-append : (xs ys vs : List ℕ) (w : ℕ → ℕ) →
    put (xs ++ ys) vs w ≡ put ys (drop (length xs) vs) (put xs (take (length xs) vs) w)
wired-append [] ys vs w = refl
wired-append (x ∷ xs) ys [] w = sym (wired_none ys w)
wired-append (x ∷ xs) ys (v ∷ vs) w = wired-append xs ys vs (λ b. cond (b == x) v (w b))

eq_here : (a : ℕ) → (a == a) ≡ true
eq_here a = eq-eqb a a refl

-- the first byte of a run, and the others
written_more : (pa v : ℕ) (bs : List ℕ) (w : ℕ → ℕ) (a : ℕ) →
    memory_written pa (v ∷ bs) w a ≡ memory_written (pa + 1) bs (λ b. cond (b == pa) v (w b)) a
written_more pa v bs w a = elim (cases_lt a pa) [
  | inl h ↦ let n : a ≢ pa =
      (λ e. absurd (omega arith)) in rw (lt-leb pa a h, lt-leb (pa + 1) a (omega arith), ne_eqb a pa n) refl
  | inr h ↦ elim (cases_lt pa a) [
    | inl k ↦
        let n : a ≢ pa = (λ e. absurd (omega arith)) in
        let d : a - pa ≡ suc (a - (pa + 1)) = omega arith in
        let t : pa + suc (length bs) ≡ pa + 1 + length bs = omega arith in
        rw (le-leb pa a h, le-leb (pa + 1) a (omega arith), ne_eqb a pa n, d, t) refl
    | inr k ↦
        let e : a ≡ pa = omega arith in
        let d : pa - pa ≡ 0 = omega arith in
        rw (
          e,
          le-leb pa pa (omega arith),
          lt-ltb pa (pa + suc (length bs)) (omega arith),
          lt-leb (pa + 1) pa (omega arith),
          eq_here pa,
          d,
        ) refl
  ]
]

written_none : (pa : ℕ) (w : ℕ → ℕ) (a : ℕ) → memory_written pa [] w a ≡ w a
written_none pa w a = elim (cases_lt a pa) [
  | inl h ↦ rw (lt-leb pa a h) refl
  | inr h ↦ rw (le-leb pa a h, le-ltb a (pa + 0) (omega arith)) refl
]

-- a run of bytes is written byte by byte
pub written_run : (pa : ℕ) (bs : List ℕ) (w : ℕ → ℕ) → memory_written pa bs w ≡ put (run_of pa (length bs)) bs w
written_run pa bs w = λ i a. (at pa bs w a) i
  where
    at : (pa : ℕ) (bs : List ℕ) (w : ℕ → ℕ) (a : ℕ) → memory_written pa bs w a ≡ put (run_of pa (length bs)) bs w a
    at pa [] w a = written_none pa w a
    at pa (v ∷ bs) w a = written_more pa v bs w a ∙ at (pa + 1) bs (λ b. cond (b == pa) v (w b)) a

-- a part of the bytes is written, and the others are left to write
pub part_written : (keys rest bytes : List ℕ) (pa n done k : ℕ) (w now : ℕ → ℕ) → keys ≡ run_of pa n ++ rest → k ≡ n →
    done + n ≤ length bytes → now ≡ memory_written pa (take k (drop done bytes)) w
    → put rest (drop (done + n) bytes) now ≡ put keys (drop done bytes) w
part_written keys rest bytes pa n done k w now split same within is =
    let part = take n (drop done bytes) in
    let size : length part ≡ n = omega (arith, length-take n (drop done bytes), length-drop done bytes) in
    let here : now ≡ put (run_of pa n) part w = is ∙ ap (λ j. memory_written pa (take j (drop done bytes)) w) same
    ∙ written_run pa part w ∙ ap (λ j. put (run_of pa j) part w) size in
    ap (put rest (drop (done + n) bytes)) here
    ∙ sym (ap (λ vs. put rest vs (put (run_of pa n) part w)) (drop-drop n done bytes))
    ∙ sym (wired-append (run_of pa n) rest (drop done bytes) w
    ∙ ap (λ j. put rest (drop j (drop done bytes)) (put (run_of pa n) (take j (drop done bytes)) w))
    (length-run_of pa n))
    ∙ sym (ap (λ ks. put ks (drop done bytes) w) split)

-- the extents from one on
pub extents_more : (parts : List Extent) (i : ℕ) → i < length parts →
    addresses (drop i parts) ≡ run_of (get_or parts i no_extent).pa.0 (get_or parts i no_extent).len
    ++ addresses (drop (i + 1) parts)
extents_more parts i h = at_drop_more addresses parts i no_extent h

-- how many addresses the extents have
pub count_more : (parts : List Extent) (i : ℕ) → i < length parts →
    length (addresses (drop i parts)) ≡ (get_or parts i no_extent).len + length (addresses (drop (i + 1) parts))
count_more parts i h =
    ap length (extents_more parts i h)
    ∙ length-append (run_of (get_or parts i no_extent).pa.0 (get_or parts i no_extent).len)
    (addresses (drop (i + 1) parts))
    ∙ ap (λ n. n + length (addresses (drop (i + 1) parts)))
    (length-run_of (get_or parts i no_extent).pa.0 (get_or parts i no_extent).len)

-- the extents after one lie as well
pub lie_more : (m : FrameMemory) (parts : List Extent) (i : ℕ) → i < length parts →
    Lie m (drop i parts) → Lie m (drop (i + 1) parts)
lie_more m parts i h k = peeled m _ _ (subst (Lie m) (drop_more parts i no_extent h) k)
  where
    peeled : (m : FrameMemory) (e : Extent) (es : List Extent) → Lie m (e ∷ es) → Lie m es
    peeled m e es k = record { extents = k.extents.1; frames = k.frames.1 }

lies_all : (m n : FrameMemory) (es : List Extent) → SamePages m n →
    AllByRecursion (LiesInFrames m) es → AllByRecursion (LiesInFrames n) es
lies_all m n [] s h = tt
lies_all m n (e ∷ es) s h = (s.frames (e.pa.0 / 4096) ∙ h.0, lies_all m n es s h.1)

-- extents lie in each memory with the same pages
pub lie_same : (m n : FrameMemory) (es : List Extent) → SamePages m n → Lie m es → Lie n es
lie_same m n es s h = record { extents = h.extents; frames = lies_all m n es s h.frames }

-- the first extent lies in the frames of a memory if all do
pub lie_first : (m : FrameMemory) (parts : List Extent) (i : ℕ) → i < length parts →
    Lie m (drop i parts) → LiesInFrames m (get_or parts i no_extent)
lie_first m parts i h k = (subst (Lie m) (drop_more parts i no_extent h) k).frames.0

-- bytes that are written in a frame change no page
pub same_rewritten : (m : FrameMemory) (pa : ℕ) (bs : List ℕ) →
    memory_has_frame m (pa / 4096) ≡ true → SamePages m (rewritten m pa bs)
same_rewritten m pa bs h = record { table = refl; frames = λ f. has_inserted m.frames (pa / 4096) _ h f }

-- two changes, neither of which changes a page
pub same_trans : (m n o : FrameMemory) → SamePages m n → SamePages n o → SamePages m o
same_trans m n o h k = record { table = k.table ∙ h.table; frames = λ f. k.frames f ∙ h.frames f }

-- no more addresses are written than there are bytes
front : (ps : List Position) (vs : List ℕ) (w : ℕ → ℕ) →
    put (addresses_of ps) vs w ≡ put (addresses_of (take (length vs) ps)) vs w
front [] [] w = refl
front [] (v ∷ vs) w = refl
front (p ∷ ps) [] w = refl
front (p ∷ ps) (v ∷ vs) w = front ps vs (λ b. cond (b == p.pa) v (w b))

-- a byte of the lane's table lies in a frame
pub in_frame : (m : FrameMemory) (bytes : FinMap nat_cmp Bool) (a : ℕ) → IsCovered m bytes →
    IsSome (get bytes a) → memory_has_frame m (a / 4096) ≡ true
in_frame m bytes a c h = sym (c a) ∙ h

-- a part of the bytes is read, and the others are left to read
pub part_read : (keys rest : List ℕ) (pa n done : ℕ) (out now filled : List ℕ) (w : ℕ → ℕ) →
    keys ≡ run_of pa n ++ rest → filled ≡ take done out ++ now → now ≡ map w (run_of pa n)
    → filled ++ map w rest ≡ take done out ++ map w keys
part_read keys rest pa n done out now filled w split is e =
    ap (λ xs. xs ++ map w rest) (is ∙ ap (λ xs. take done out ++ xs) e)
    ∙ append_assoc (take done out) (map w (run_of pa n)) (map w rest)
    ∙ sym (ap (λ xs. take done out ++ xs) (ap (map w) split ∙ map-append w (run_of pa n) rest))

-- extents have as many bytes as addresses
pub byte_count_addresses : (es : List Extent) → byte_count es ≡ length (addresses es)
byte_count_addresses [] = refl
byte_count_addresses (e ∷ es) =
    sum_by-cons (λ (x : Extent). x.len) e es ∙ ap (λ n. e.len + n) (byte_count_addresses es)
    ∙ sym (length-append (run_of e.pa.0 e.len) (addresses es)
    ∙ ap (λ n. n + length (addresses es)) (length-run_of e.pa.0 e.len))

-- how many bytes a part has
pub part_size : (n done k : ℕ) (bytes : List ℕ) → k ≡ n →
    done + n ≤ length bytes → length (take k (drop done bytes)) ≡ n
part_size n done k bytes e h = ap (λ j. length (take j (drop done bytes))) e
    ∙ (omega (arith, length-take n (drop done bytes), length-drop done bytes))
