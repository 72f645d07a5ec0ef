-- Bytes that are put at addresses one after the other, and at the addresses of a run.
use Rattle.std.proofs.Common.{◌≡◌, ◌≢◌, ℕ, suc, ◌+◌, ◌-◌, ◌≤◌, ◌==◌, true, cond, List, [], ◌∷◌, ◌++◌, length, map}
use Rattle.std.proofs.Common.{take, drop, refl, sym, ap, ◌∙◌, inl, inr, arith, append_assoc, length-take, length-drop}
use Rattle.std.proofs.lemmas.Bool.{eq-eqb, ne_eqb, lt-ltb, le-leb, lt-leb, le-ltb, cases_lt}
use Rattle.std.proofs.lemmas.List.{drop-drop, map-append}
use Rattle.busdma_machine.specs.Machine.Wire.{put}
use Rattle.busdma_machine.specs.Runs.{run_of}
use Rattle.phys_memory.specs.Memory.{memory_written}
use Rattle.phys_memory.proofs.Extents.{length-run_of}

-- nothing is written without values
pub wired_none : (xs : List ℕ) (w : ℕ → ℕ) → put xs [] w ≡ w
wired_none [] w = refl
wired_none (x ∷ xs) w = refl

-- bytes that are written at some addresses, then at others
pub wired-append : (xs ys vs : List ℕ) (w : ℕ → ℕ) →
    put (xs ++ ys) vs w ≡ put ys (drop (length xs) vs) (put xs (take (length xs) vs) w)
wired-append [] ys vs w = refl
wired-append (x ∷ xs) ys [] w = sym (wired_none ys w)
wired-append (x ∷ xs) ys (v ∷ vs) w = wired-append xs ys vs (λ b. cond (b == x) v (w b))

eq_here : (a : ℕ) → (a == a) ≡ true
eq_here a = eq-eqb a a refl

-- the first byte of a run, and the others
written_more : (pa v : ℕ) (bs : List ℕ) (w : ℕ → ℕ) (a : ℕ) →
    memory_written pa (v ∷ bs) w a ≡ memory_written (pa + 1) bs (λ b. cond (b == pa) v (w b)) a
written_more pa v bs w a = elim (cases_lt a pa) [
  | inl h ↦
      let n : a ≢ pa = (λ e. absurd (omega arith)) in
      rw (lt-leb pa a h, lt-leb (pa + 1) a (omega arith), ne_eqb a pa n) refl
  | inr h ↦ elim (cases_lt pa a) [
    | inl k ↦
        let n : a ≢ pa = (λ e. absurd (omega arith)) in
        let d : a - pa ≡ suc (a - (pa + 1)) = omega arith in
        let t : pa + suc (length bs) ≡ pa + 1 + length bs = omega arith in
        rw (le-leb pa a h, le-leb (pa + 1) a (omega arith), ne_eqb a pa n, d, t) refl
    | inr k ↦
        let e : a ≡ pa = omega arith in
        let d : pa - pa ≡ 0 = omega arith in
        rw (
          e,
          le-leb pa pa (omega arith),
          lt-ltb pa (pa + suc (length bs)) (omega arith),
          lt-leb (pa + 1) pa (omega arith),
          eq_here pa,
          d,
        ) refl
  ]
]

written_none : (pa : ℕ) (w : ℕ → ℕ) (a : ℕ) → memory_written pa [] w a ≡ w a
written_none pa w a = elim (cases_lt a pa) [
  | inl h ↦ rw (lt-leb pa a h) refl
  | inr h ↦ rw (le-leb pa a h, le-ltb a (pa + 0) (omega arith)) refl
]

-- a run of bytes is written byte by byte
pub written_run : (pa : ℕ) (bs : List ℕ) (w : ℕ → ℕ) → memory_written pa bs w ≡ put (run_of pa (length bs)) bs w
written_run pa bs w = λ i a. (at pa bs w a) i
  where
    at : (pa : ℕ) (bs : List ℕ) (w : ℕ → ℕ) (a : ℕ) → memory_written pa bs w a ≡ put (run_of pa (length bs)) bs w a
    at pa [] w a = written_none pa w a
    at pa (v ∷ bs) w a = written_more pa v bs w a ∙ at (pa + 1) bs (λ b. cond (b == pa) v (w b)) a

-- a part of the bytes is written, and the others are left to write
pub part_written : (keys rest bytes : List ℕ) (pa n done k : ℕ) (w now : ℕ → ℕ) → keys ≡ run_of pa n ++ rest → k ≡ n →
    done + n ≤ length bytes → now ≡ memory_written pa (take k (drop done bytes)) w
    → put rest (drop (done + n) bytes) now ≡ put keys (drop done bytes) w
part_written keys rest bytes pa n done k w now split same within is =
    let part = take n (drop done bytes) in
    let size : length part ≡ n = omega (arith, length-take n (drop done bytes), length-drop done bytes) in
    let here : now ≡ put (run_of pa n) part w = is ∙ ap (λ j. memory_written pa (take j (drop done bytes)) w) same
    ∙ written_run pa part w ∙ ap (λ j. put (run_of pa j) part w) size in
    ap (put rest (drop (done + n) bytes)) here
    ∙ sym (ap (λ vs. put rest vs (put (run_of pa n) part w)) (drop-drop n done bytes))
    ∙ sym (wired-append (run_of pa n) rest (drop done bytes) w
    ∙ ap (λ j. put rest (drop j (drop done bytes)) (put (run_of pa n) (take j (drop done bytes)) w))
    (length-run_of pa n))
    ∙ sym (ap (λ ks. put ks (drop done bytes) w) split)

-- a part of the bytes is read, and the others are left to read
pub part_read : (keys rest : List ℕ) (pa n done : ℕ) (out now filled : List ℕ) (w : ℕ → ℕ) →
    keys ≡ run_of pa n ++ rest → filled ≡ take done out ++ now → now ≡ map w (run_of pa n)
    → filled ++ map w rest ≡ take done out ++ map w keys
part_read keys rest pa n done out now filled w split is e =
    ap (λ xs. xs ++ map w rest) (is ∙ ap (λ xs. take done out ++ xs) e)
    ∙ append_assoc (take done out) (map w (run_of pa n)) (map w rest)
    ∙ sym (ap (λ xs. take done out ++ xs) (ap (map w) split ∙ map-append w (run_of pa n) rest))
