-- Bytes of frames by their addresses.
use Rattle.std.proofs.Common.{◌≡◌, ℕ, zero, suc, ◌+◌, ◌-◌, ◌*◌, ◌/◌, ◌%◌, ◌<◌, ◌≤◌, Bool, true, false, cond, List, []}
use Rattle.std.proofs.Common.{◌∷◌, ◌++◌, map, take, drop, length, get_or, refl, ap, sym, ◌∙◌, inl, inr, ◌≢◌, arith}
use Rattle.std.proofs.Common.{length-append, length-take, length-drop, drop-cons}
use Rattle.std.specs.Prelude.{Some, nat_lt, nat_le, unwrap_or, if◌then◌else◌, ◌&&◌}
use Rattle.std.specs.FinMap.{get, insert}
use Rattle.std.proofs.Math.Path.{fun_ext}
use Rattle.std.proofs.lemmas.List.{get_or-take, get_or-drop, get_or-append_right, get_or_append_left}
use Rattle.std.proofs.lemmas.Bool.{lt-ltb, le-leb, lt-leb, le-ltb, cases_lt}
use Rattle.std.proofs.lemmas.Bool.Decides.{eqb_tells}
use Rattle.busdma_machine.specs.Machine.Page.{overwritten}
use Rattle.busdma_machine.specs.Runs.{run_of}
use Rattle.phys_memory.specs.Memory.{FrameMemory, byte_in, wire, memory_written, rewritten}
use Rattle.phys_memory.proofs.Tables.{get_inserted}

-- the bytes of a frame from a place on are those at their addresses
take-drop-wire : (m : FrameMemory) (bytes : List ℕ) (f at n : ℕ) → get m.frames f ≡ Some bytes → length bytes ≡ 4096 →
    at + n ≤ 4096 → take n (drop at bytes) ≡ map (wire m) (run_of (4096 * f + at) n)
take-drop-wire m bytes f at zero here whole h = refl
take-drop-wire m bytes f at (suc n) here whole h =
    let number : (4096 * f + at) / 4096 ≡ f = omega arith in
    let place : (4096 * f + at) % 4096 ≡ at = omega arith in
    let byte : wire m (4096 * f + at) ≡ get_or bytes at 0 =
    ap (λ q. byte_in (get m.frames q) ((4096 * f + at) % 4096)) number
    ∙ ap (λ o. byte_in o ((4096 * f + at) % 4096)) here ∙ ap (λ i. get_or bytes i 0) place in
    let next : 4096 * f + suc at ≡ 4096 * f + at + 1 = omega arith in
    let others : take n (drop (suc at) bytes) ≡ map (wire m) (run_of (4096 * f + at + 1) n) =
    take-drop-wire m bytes f (suc at) n here whole (omega arith) ∙ ap (λ a. map (wire m) (run_of a n)) next in
    ap (take (suc n)) (drop-cons bytes at 0 (omega arith)) ∙ ap (λ b. b ∷ take n (drop (suc at) bytes)) (sym byte)
    ∙ ap (λ xs. wire m (4096 * f + at) ∷ xs) others

-- a slice of a frame's bytes has those from an address on
pub slice_wire : (m : FrameMemory) (bytes : List ℕ) (pa n k : ℕ) → k ≡ n → get m.frames (pa / 4096) ≡ Some bytes →
    length bytes ≡ 4096 → pa % 4096 + n ≤ 4096 → take k (drop (pa % 4096) bytes) ≡ map (wire m) (run_of pa n)
slice_wire m bytes pa n k e here whole h =
    let address : 4096 * (pa / 4096) + pa % 4096 ≡ pa = omega arith in
    ap (λ j. take j (drop (pa % 4096) bytes)) e ∙ take-drop-wire m bytes (pa / 4096) (pa % 4096) n here whole h
    ∙ ap (λ a. map (wire m) (run_of a n)) address

-- ---- bytes written over others

-- whether an address lies in a run
abbrev pub in_run : ℕ → ℕ → ℕ → Bool
in_run pa n a = nat_le pa a && nat_lt a (pa + n)

in_run_before : (pa n a : ℕ) → a < pa → in_run pa n a ≡ false
in_run_before pa n a h = rw (lt-leb pa a h)

in_run_inside : (pa n a : ℕ) → pa ≤ a → a < pa + n → in_run pa n a ≡ true
in_run_inside pa n a h k = rw (le-leb pa a h, lt-ltb a (pa + n) k)

in_run_after : (pa n a : ℕ) → pa + n ≤ a → in_run pa n a ≡ false
in_run_after pa n a h = ap (λ b. nat_le pa a && b) (le-ltb a (pa + n) h) ∙ no (nat_le pa a)
  where
    no : (b : Bool) → (b && false) ≡ false
    no true = refl
    no false = refl

-- before, inside or after a run
data Place (pa n a : ℕ) : Type 0 where
  before : a < pa → Place pa n a
  inside : pa ≤ a → a < pa + n → Place pa n a
  after : pa + n ≤ a → Place pa n a

place_of : (pa n a : ℕ) → Place pa n a
place_of pa n a = elim (cases_lt a pa) [
  | inl h ↦ before h
  | inr h ↦ elim (cases_lt a (pa + n)) [ inl k ↦ inside h k | inr k ↦ after k ]
]

-- the element at a place of a list after others were written over it
pub get_or-overwritten : (old : List ℕ) (at : ℕ) (new : List ℕ) (i : ℕ) → at + length new ≤ length old →
    get_or (overwritten old at new) i 0 ≡ (if in_run at (length new) i then get_or new (i - at) 0 else get_or old i 0)
get_or-overwritten old at new i h =
    let rest = drop (at + length new) old in
    let front : length (take at old) ≡ at = omega (arith, length-take at old) in
    let both : length (take at old ++ new) ≡ at + length new =
    length-append (take at old) new ∙ ap (λ n. n + length new) front in
    elim (place_of at (length new) i) [
      | before k ↦
          get_or_append_left (take at old ++ new) rest 0 i (omega arith)
          ∙ (get_or_append_left (take at old) new 0 i (omega arith) ∙ get_or-take at old i 0 k)
          ∙ ap (λ b. if b then get_or new (i - at) 0 else get_or old i 0) (sym (in_run_before at (length new) i k))
      | inside k l ↦
          get_or_append_left (take at old ++ new) rest 0 i (omega arith)
          ∙ get_or-append_right (take at old) new at i 0 front k
          ∙ ap (λ b. if b then get_or new (i - at) 0 else get_or old i 0) (sym (in_run_inside at (length new) i k l))
      | after k ↦
          let back : at + length new + (i - (at + length new)) ≡ i = omega arith in
          get_or-append_right (take at old ++ new) rest (at + length new) i 0 both k
          ∙ get_or-drop (at + length new) old (i - (at + length new)) 0 ∙ ap (λ j. get_or old j 0) back
          ∙ ap (λ b. if b then get_or new (i - at) 0 else get_or old i 0) (sym (in_run_after at (length new) i k))
    ]

-- a byte by its address after bytes were written, in the same frame and in others
pub at_address : (pa n a : ℕ) → pa % 4096 + n ≤ 4096 → a / 4096 ≡ pa / 4096 →
    in_run (pa % 4096) n (a % 4096) ≡ in_run pa n a
at_address pa n a h q = elim (place_of pa n a) [
  | before k ↦ in_run_before (pa % 4096) n (a % 4096) (omega arith) ∙ sym (in_run_before pa n a k)
  | inside k l ↦ in_run_inside (pa % 4096) n (a % 4096) (omega arith) (omega arith) ∙ sym (in_run_inside pa n a k l)
  | after k ↦ in_run_after (pa % 4096) n (a % 4096) (omega arith) ∙ sym (in_run_after pa n a k)
]

pub elsewhere : (pa n a : ℕ) → pa % 4096 + n ≤ 4096 → a / 4096 ≢ pa / 4096 → in_run pa n a ≡ false
elsewhere pa n a h q = elim (place_of pa n a) [
  | before k ↦ in_run_before pa n a k
  | inside k l ↦ absurd (q (omega arith))
  | after k ↦ in_run_after pa n a k
]

pub offset_in_frame : (pa a : ℕ) → a / 4096 ≡ pa / 4096 → a % 4096 - pa % 4096 ≡ a - pa
offset_in_frame pa a q = omega arith

pub length-overwritten : (old : List ℕ) (at : ℕ) (new : List ℕ) → at + length new ≤ length old →
    length (overwritten old at new) ≡ length old
length-overwritten old at new h = simp (length-append, length-take, length-drop) (omega arith)

-- the memory after a write, given the bytes of the frame
pub rewritten_is : (m : FrameMemory) (pa : ℕ) (old new : List ℕ) → get m.frames (pa / 4096) ≡ Some old →
    rewritten m pa new ≡ record m { frames = insert m.frames (pa / 4096) (overwritten old (pa % 4096) new) }
rewritten_is m pa old new here =
    ap (λ o. record m { frames = insert m.frames (pa / 4096) (overwritten (unwrap_or o []) (pa % 4096) new) }) here

module _ (m : FrameMemory) (pa : ℕ) (old new : List ℕ) (here : get m.frames (pa / 4096) ≡ Some old)
    (whole : length old ≡ 4096) (fits : pa % 4096 + length new ≤ 4096) where
  wire_at : (a : ℕ) → wire (record m { frames = insert m.frames (pa / 4096) (overwritten old (pa % 4096) new) }) a
      ≡ memory_written pa new (wire m) a
  wire_at a =
      let frame = overwritten old (pa % 4096) new in
      ap (λ o. byte_in o (a % 4096)) (get_inserted m.frames (pa / 4096) frame (a / 4096))
      ∙ elim (eqb_tells (a / 4096) (pa / 4096)) [
        | inl t ↦
            ap (λ b. byte_in (cond b (Some frame) (get m.frames (a / 4096))) (a % 4096)) t.0
            ∙ get_or-overwritten old (pa % 4096) new (a % 4096) (omega arith)
            ∙ ap (λ b. if b then get_or new (a % 4096 - pa % 4096) 0 else get_or old (a % 4096) 0)
            (at_address pa (length new) a fits t.1)
            ∙ ap (λ i. if in_run pa (length new) a then get_or new i 0
            else get_or old (a % 4096) 0) (offset_in_frame pa a t.1)
            ∙ ap (λ o. if in_run pa (length new) a then get_or new (a - pa) 0 else byte_in o (a % 4096)) (sym here
            ∙ ap (get m.frames) (sym t.1))
        | inr t ↦
            ap (λ b. byte_in (cond b (Some frame) (get m.frames (a / 4096))) (a % 4096)) t.0
            ∙ ap (λ b. if b then get_or new (a - pa) 0 else wire m a) (sym (elsewhere pa (length new) a fits t.1))
      ]

  -- a write changes exactly the bytes of its run
  pub wire-rewritten : wire (rewritten m pa new) ≡ memory_written pa new (wire m)
  wire-rewritten = ap wire (rewritten_is m pa old new here) ∙ fun_ext wire_at
