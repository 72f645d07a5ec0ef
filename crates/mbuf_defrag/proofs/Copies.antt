-- Bytes that are copied run by run.
use Rattle.std.proofs.Common.{◌≡◌, ℕ, zero, suc, ◌+◌, ◌-◌, ◌/◌, ◌<◌, ◌≤◌, ◌==◌, ◌||◌, Bool, true, false, cond, List, []}
use Rattle.std.proofs.Common.{◌∷◌, ◌++◌, length, map, take, drop, refl, ap, sym, ◌∙◌, arith, length-append, length-take}
use Rattle.std.proofs.lemmas.List.{length-map, map-append}
use Rattle.std.specs.List.{AllByRecursion, list_any}
use Rattle.busdma_machine.specs.declared.machine.address.Extent.{Extent}
use Rattle.busdma_machine.specs.Machine.Wire.{Wire, put}
use Rattle.busdma_machine.specs.Runs.{IsExtent, addresses, byte_count, run_of}
use Rattle.phys_memory.specs.Extents.{LiesInFrames}
use Rattle.phys_memory.specs.Memory.{FrameMemory, memory_has_frame}
use Rattle.phys_memory.proofs.Extents.{length-run_of}
use Rattle.phys_memory.proofs.RunParts.{all_append, all_imply, run_in_frame, same_reads, take_append}
use Rattle.std.proofs.lemmas.List.Sums.{sum_by-cons}
use Rattle.mbuf_defrag.specs.Copying.{IsAway}
use Rattle.mbuf_defrag.specs.CopySteps.{BeginsLow, IsThere}

-- ---- addresses that are none of others
neither : (b c : Bool) → b || c ≡ false → (b ≡ false) × (c ≡ false)
neither true c h = absurd (cc)
neither false c h = (refl, h)

away_front : (a : ℕ) (xs ys : List ℕ) → IsAway (xs ++ ys) a → IsAway xs a
away_front a [] ys h = refl
away_front a (x ∷ xs) ys h =
    let two = neither (a == x) (list_any (λ b. a == b) (xs ++ ys)) h in
    ap (λ b. b || list_any (λ b. a == b) xs) two.0 ∙ away_front a xs ys two.1

away_back : (a : ℕ) (xs ys : List ℕ) → IsAway (xs ++ ys) a → IsAway ys a
away_back a [] ys h = h
away_back a (x ∷ xs) ys h = away_back a xs ys (neither (a == x) (list_any (λ b. a == b) (xs ++ ys)) h).1

pub all_front : (xs ys bytes : List ℕ) → AllByRecursion (IsAway (xs ++ ys)) bytes → AllByRecursion (IsAway xs) bytes
all_front xs ys bytes h = all_imply (IsAway (xs ++ ys)) (IsAway xs) (λ a p. away_front a xs ys p) bytes h

pub all_back : (xs ys bytes : List ℕ) → AllByRecursion (IsAway (xs ++ ys)) bytes → AllByRecursion (IsAway ys) bytes
all_back xs ys bytes h = all_imply (IsAway (xs ++ ys)) (IsAway ys) (λ a p. away_back a xs ys p) bytes h

pub all_behind : (P : ℕ → Type 0) (xs ys : List ℕ) → AllByRecursion P (xs ++ ys) → AllByRecursion P ys
all_behind P [] ys h = h
all_behind P (x ∷ xs) ys h = all_behind P xs ys h.1

pub all_before : (P : ℕ → Type 0) (xs ys : List ℕ) → AllByRecursion P (xs ++ ys) → AllByRecursion P xs
all_before P [] ys h = tt
all_before P (x ∷ xs) ys h = (h.0, all_before P xs ys h.1)

-- a byte that is none of those that are put stays
put_away : (xs vs : List ℕ) (w : Wire) (a : ℕ) → IsAway xs a → w a ≡ put xs vs w a
put_away [] vs w a h = refl
put_away (x ∷ xs) [] w a h = refl
put_away (x ∷ xs) (v ∷ vs) w a h =
    let two = neither (a == x) (list_any (λ b. a == b) xs) h in
    sym (ap (λ b. cond b v (w a)) two.0) ∙ put_away xs vs (λ b. cond (b == x) v (w b)) a two.1

put_both : (xs ys vs us : List ℕ) (w : Wire) → length xs ≡ length vs →
    put (xs ++ ys) (vs ++ us) w ≡ put ys us (put xs vs w)
put_both [] ys [] us w h = refl
put_both [] ys (v ∷ vs) us w h = absurd (omega (arith, h))
put_both (x ∷ xs) ys [] us w h = absurd (omega (arith, h))
put_both (x ∷ xs) ys (v ∷ vs) us w h = put_both xs ys vs us (λ b. cond (b == x) v (w b)) (omega (arith, h))

-- bytes are copied to some places, and then the others, which are none of these, to others
pub put_on : (xs ys us vs : List ℕ) (w now : Wire) → length us ≡ length xs → AllByRecursion (IsAway xs) vs →
    now ≡ put xs (map w us) w → put (xs ++ ys) (map w (us ++ vs)) w ≡ put ys (map now vs) now
put_on xs ys us vs w now e h is =
    let then : Wire = put xs (map w us) w in
    ap (λ bs. put (xs ++ ys) bs w) (map-append w us vs)
    ∙ put_both xs ys (map w us) (map w vs) w (sym (length-map us w ∙ e))
    ∙ ap (λ bs. put ys bs then)
    (same_reads vs w then (all_imply (IsAway xs) (λ a. w a ≡ then a) (λ a p. put_away xs (map w us) w a p) vs h))
    ∙ sym (ap (λ (n : Wire). put ys (map n vs) n) is)

-- ---- a run, and what is left after it
pub split_run : (a n left : ℕ) (rest : List ℕ) → n ≤ left →
    take left (run_of a n ++ rest) ≡ run_of a n ++ take (left - n) rest
split_run a n left rest h =
    let whole : take left (run_of a n) ≡ run_of a n = taken left (run_of a n) (omega (arith, length-run_of a n)) in
    take_append left (run_of a n) rest ∙ ap (λ xs. xs ++ take (left - length (run_of a n)) rest) whole
    ∙ ap (λ k. run_of a n ++ take (left - k) rest) (length-run_of a n)
  where
    taken : (k : ℕ) (xs : List ℕ) → length xs ≤ k → take k xs ≡ xs
    taken zero [] l = refl
    taken zero (x ∷ xs) l = absurd (omega arith)
    taken (suc k) [] l = refl
    taken (suc k) (x ∷ xs) l = ap (λ ys. x ∷ ys) (taken k xs (omega arith))

pub first_of_run : (P : ℕ → Type 0) (a n : ℕ) (ys : List ℕ) → 0 < n → AllByRecursion P (run_of a n ++ ys) → P a
first_of_run P a zero ys h k = absurd (omega (arith, h))
first_of_run P a (suc n) ys h k = k.0

pub begins_low : (m : FrameMemory) (xs : List ℕ) → AllByRecursion (IsThere m) xs → BeginsLow xs
begins_low m [] k = tt
begins_low m (x ∷ xs) k = k.0.numbered

-- ---- the bytes of extents of the memory are there
run_there : (m : FrameMemory) (e : Extent) → IsExtent e → LiesInFrames m e →
    AllByRecursion (IsThere m) (run_of e.pa.0 e.len)
run_there m e x h =
    all_imply (λ b. b / 4096 ≡ e.pa.0 / 4096) (IsThere m)
    (λ b q. record {
      numbered = let n = x.numbered in omega (arith, q, n);
      found = ap (memory_has_frame m) q ∙ h;
    })
    (run_of e.pa.0 e.len)
    (let f = x.in_frame in run_in_frame e.len e.pa.0 (e.pa.0 / 4096) (omega (arith, f)) (omega (arith, f)))

pub all_there : (m : FrameMemory) (es : List Extent) → AllByRecursion IsExtent es → AllByRecursion (LiesInFrames m) es →
    AllByRecursion (IsThere m) (addresses es)
all_there m [] x h = tt
all_there m (e ∷ es) x h =
    all_append (IsThere m) (run_of e.pa.0 e.len) (addresses es) (run_there m e x.0 h.0) (all_there m es x.1 h.1)

pub bytes_length : (es : List Extent) → length (addresses es) ≡ byte_count es
bytes_length [] = refl
bytes_length (e ∷ es) =
    length-append (run_of e.pa.0 e.len) (addresses es)
    ∙ (λ i. length-run_of e.pa.0 e.len i + bytes_length es i)
    ∙ sym (sum_by-cons (λ (e : Extent). e.len) e es)

-- after a run
pub drop_past : (n a : ℕ) (rest : List ℕ) → drop n (run_of a n ++ rest) ≡ rest
drop_past zero a rest = refl
drop_past (suc n) a rest = drop_past n (a + 1) rest

-- a list is its first items and the others
pub take_and_drop : (n : ℕ) (xs : List ℕ) → take n xs ++ drop n xs ≡ xs
take_and_drop zero xs = refl
take_and_drop (suc n) [] = refl
take_and_drop (suc n) (x ∷ xs) = ap (λ ys. x ∷ ys) (take_and_drop n xs)

pub take_size : (n : ℕ) (xs : List ℕ) → n ≤ length xs → length (take n xs) ≡ n
take_size n xs h = omega (arith, h, length-take n xs)
