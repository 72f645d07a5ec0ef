-- Stretches of consecutive bytes.
use Rattle.std.proofs.Common.{◌≡◌, ℕ, zero, suc, ◌+◌, ◌-◌, ◌<◌, ◌≤◌, ◌^◌, length, List, [], ◌∷◌, ◌++◌}
use Rattle.std.proofs.Common.{take, drop, get_or, Bool, true, false, ltb, Option}
use Rattle.std.proofs.Common.{refl, sym, ap, ◌∙◌, arith}
use Rattle.std.specs.List.{All}
use Rattle.std.proofs.lemmas.List.{append_assoc, at_drop_more, take_all, drop-drop, drop-append-le}
use Rattle.std.proofs.lemmas.List.{take-append-le, length-drop}
use Rattle.busdma_machine.specs.declared.machine.address.Extent.{Extent}
use Rattle.busdma_machine.specs.Runs.{addresses, byte_count, run_of}
use Rattle.busdma_machine.specs.Machine.Wire.{stretch}
use Rattle.run_set.specs.Counts.{Counts}
use Rattle.run_set.specs.Numbers.{Climbs}
use Rattle.std.proofs.lemmas.List.Sums.{sum_by-cons, sum_by-drop_more, sum_by-take-drop}
use Rattle.std.proofs.lemmas.Bool.{ltb-true, ltb-false}
use Rattle.loan_table.proofs.Addresses.{no_extent}
use Rattle.loan_table.specs.Ends.{Ends}
use Rattle.loan_table.specs.Rows.{AreCounted, IsBuffer, starts_from}
use Rattle.loan_table.proofs.Extending.{addresses-push, length-addresses}
use Rattle.loan_table.proofs.Judgement.{length-run_of}

pub take_run : (a n m : ℕ) → m ≤ n → take m (run_of a n) ≡ run_of a m
take_run a n zero h = refl
take_run a zero (suc m) h = absurd (omega arith)
take_run a (suc n) (suc m) h = ap (λ xs. a ∷ xs) (take_run (a + 1) n m (omega arith))

part : (a n k m : ℕ) → k + m ≤ n → take m (drop k (run_of a n)) ≡ run_of (a + k) m
part a n zero m h =
    let on : a ≡ a + zero = omega arith in take_run a n m (omega arith) ∙ ap (λ b. run_of b m) on
part a zero (suc k) m h = absurd (omega arith)
part a (suc n) (suc k) m h =
    let on : a + 1 + k ≡ a + suc k = omega arith in part (a + 1) n k m (omega arith) ∙ ap (λ b. run_of b m) on

-- some bytes of a run that other bytes follow
pub part_of_run : (a n k m : ℕ) (rest : List ℕ) → k + m ≤ n → take m (drop k (run_of a n ++ rest)) ≡ run_of (a + k) m
part_of_run a n k m rest h =
    let long = length-run_of a n in
    let left = length-drop k (run_of a n) in
    ap (take m) (drop-append-le k (run_of a n) rest (omega (arith, long)))
    ∙ take-append-le m (drop k (run_of a n)) rest (omega (arith, long, left)) ∙ part a n k m h

-- what follows a run
pub behind_run : (a n : ℕ) (rest : List ℕ) → drop n (run_of a n ++ rest) ≡ rest
behind_run a zero rest = refl
behind_run a (suc n) rest = behind_run (a + 1) n rest

-- the bytes at a position, found by its stretch
pub in_stretch : (at before a n m : ℕ) (all rest : List ℕ) → before ≤ at → drop before all ≡ run_of a n ++ rest →
    at - before + m ≤ n → stretch at m all ≡ run_of (a + (at - before)) m
in_stretch at before a n m all rest le e h =
    let on : at ≡ before + (at - before) = omega arith in
    ap (λ k. take m (drop k all)) on ∙ ap (take m) (sym (drop-drop (at - before) before all))
    ∙ ap (λ xs. take m (drop (at - before) xs)) e ∙ part_of_run a n (at - before) m rest h

pub run_of_sum : (a m k : ℕ) → run_of a (m + k) ≡ run_of a m ++ run_of (a + m) k
run_of_sum a zero k =
    let on : zero + k ≡ k = omega arith in
    let here : a ≡ a + zero = omega arith in
    ap (run_of a) on ∙ ap (λ b. run_of b k) here
run_of_sum a (suc m) k =
    let on : suc m + k ≡ suc (m + k) = omega arith in
    let here : a + 1 + m ≡ a + suc m = omega arith in
    ap (run_of a) on ∙ ap (λ xs. a ∷ xs) (run_of_sum (a + 1) m k ∙ ap (λ b. run_of (a + 1) m ++ run_of b k) here)

-- an extent begins a stretch, or joins the last one
module _ (es : List Extent) (run e : Extent) (ahead tail all : List ℕ) (first : ahead ≡ run_of e.pa.0 e.len ++ tail)
    (h : addresses es ++ (run_of run.pa.0 run.len ++ ahead) ≡ all) where
  pub stretch_begins : (new : List Extent) → new ≡ es ++ run ∷ [] → addresses new ++ (run_of e.pa.0 e.len ++ tail) ≡
      all
  stretch_begins new pushed =
      ap (λ xs. addresses xs ++ (run_of e.pa.0 e.len ++ tail)) pushed
      ∙ ap (λ xs. xs ++ (run_of e.pa.0 e.len ++ tail)) (addresses-push es run)
      ∙ append_assoc (addresses es) (run_of run.pa.0 run.len) (run_of e.pa.0 e.len ++ tail)
      ∙ ap (λ xs. addresses es ++ (run_of run.pa.0 run.len ++ xs)) (sym first) ∙ h

  pub stretch_joins : (longer : Extent) →
      run_of longer.pa.0 longer.len ≡ run_of run.pa.0 run.len ++ run_of e.pa.0 e.len →
      addresses es ++ (run_of longer.pa.0 longer.len ++ tail) ≡ all
  stretch_joins longer joined =
      ap (λ xs. addresses es ++ (xs ++ tail)) joined
      ∙ ap (λ xs. addresses es ++ xs) (append_assoc (run_of run.pa.0 run.len) (run_of e.pa.0 e.len) tail)
      ∙ ap (λ xs. addresses es ++ (run_of run.pa.0 run.len ++ xs)) (sym first) ∙ h

-- stretches with the same bytes have equally many bytes
pub as_many : (stretches extents : List Extent) → addresses stretches ≡ addresses extents →
    byte_count stretches ≡ byte_count extents
as_many stretches extents same =
    sym (length-addresses stretches) ∙ ap length same ∙ length-addresses extents

pub stretches_kept : (stretches extents : List Extent) (starts : List ℕ) (len : ℕ) (places : Option Counts) →
    All Ends stretches → starts ≡ starts_from 0 stretches → addresses stretches ≡ addresses extents →
    len ≡ byte_count extents → byte_count extents < 2 ^ 64 →
    AreCounted places (addresses stretches) → IsBuffer stretches starts len places
stretches_kept stretches extents starts len places ends begun same long small counted =
    let many = as_many stretches extents same in
    record {
      ends = ends;
      begun = begun;
      long = many ∙ sym long;
      small = omega (arith, many, small);
      counted = counted;
    }

-- the starts of stretches do not fall, and each is the number of the bytes before it
pub starts_climb : (lo at : ℕ) (es : List Extent) → lo ≤ at → Climbs lo (starts_from at es)
starts_climb lo at [] h = tt
starts_climb lo at (e ∷ es) h = (h, starts_climb at (at + e.len) es (omega arith))

pub length-starts : (at : ℕ) (es : List Extent) → length (starts_from at es) ≡ length es
length-starts at [] = refl
length-starts at (e ∷ es) = ap suc (length-starts (at + e.len) es)

pub start_at : (at : ℕ) (es : List Extent) (k d : ℕ) → k < length es →
    get_or (starts_from at es) k d ≡ at + byte_count (take k es)
start_at at [] k d h = absurd (omega arith)
start_at at (e ∷ es) zero d h = omega arith
start_at at (e ∷ es) (suc k) d h =
    let more = sum_by-cons (λ (x : Extent). x.len) e (take k es) in
    omega (arith, more, start_at (at + e.len) es k d (omega arith))

-- the bytes after some stretches
pub bytes_behind : (es : List Extent) (k : ℕ) → drop (byte_count (take k es)) (addresses es) ≡ addresses (drop k es)
bytes_behind es zero = refl
bytes_behind [] (suc k) = refl
bytes_behind (e ∷ es) (suc k) =
    let more : byte_count (take (suc k) (e ∷ es)) ≡ e.len + byte_count (take k es) =
    sum_by-cons (λ (x : Extent). x.len) e (take k es) in
    ap (λ n. drop n (run_of e.pa.0 e.len ++ addresses es)) more
    ∙ sym (drop-drop (byte_count (take k es)) e.len (run_of e.pa.0 e.len ++ addresses es))
    ∙ ap (drop (byte_count (take k es))) (behind_run e.pa.0 e.len (addresses es)) ∙ bytes_behind es k

-- a loop that adds starts, at one stretch
pub start_added : (old new all : List ℕ) (before : ℕ) (ahead rest : List Extent) (e : Extent) →
    new ≡ old ++ before ∷ [] →
    ahead ≡ e ∷ rest → old ++ starts_from before ahead ≡ all → new ++ starts_from (before + e.len) rest ≡ all
start_added old new all before ahead rest e pushed first h =
    ap (λ xs. xs ++ starts_from (before + e.len) rest) pushed
    ∙ append_assoc old (before ∷ []) (starts_from (before + e.len) rest)
    ∙ sym (ap (λ xs. old ++ starts_from before xs) first) ∙ h

some_stretch : (es : List Extent) (at : ℕ) → at < byte_count es → 0 < length es
some_stretch [] at h = absurd (omega arith)
some_stretch (e ∷ es) at h = omega arith

-- a position is in the last stretch that begins at it or before it
module _ (es : List Extent) (at k : ℕ) (range : at < byte_count es) (small : k ≤ length es)
    (below : (j d : ℕ) → j < k → get_or (starts_from 0 es) j d ≤ at)
    (above : (j d : ℕ) → k ≤ j → j < length (starts_from 0 es) → at < get_or (starts_from 0 es) j d) where
  pub some_start : 0 < k
  some_start = by (ltb 0 k) refl
    where
      by : (b : Bool) → ltb 0 k ≡ b → 0 < k
      by true e = ltb-true 0 k e
      by false e =
          let none : k ≤ 0 = ltb-false 0 k e in
          let some = some_stretch es at range in
          let later = above 0 0 none (omega (arith, some, length-starts 0 es)) in
          absurd (omega (arith, later, start_at 0 es 0 0 some))

  pub last_start : (d : ℕ) → get_or (starts_from 0 es) (k - 1) d ≡ byte_count (take (k - 1) es)
  last_start d = omega (arith, some_start, start_at 0 es (k - 1) d (omega (arith, some_start)))

  pub last_before : byte_count (take (k - 1) es) ≤ at
  last_before = omega (arith, last_start 0, below (k - 1) 0 (omega (arith, some_start)))

  ahead : at < byte_count (take k es)
  ahead = by (ltb k (length es)) refl
    where
      by : (b : Bool) → ltb k (length es) ≡ b → at < byte_count (take k es)
      by true e =
          let lt : k < length es = ltb-true k (length es) e in
          omega (arith, above k 0 (omega arith) (omega (arith, lt, length-starts 0 es)), start_at 0 es k 0 lt)
      by false e =
          let all = ap byte_count (take_all k es (ltb-false k (length es) e)) in omega (arith, all, range)

  pub last_within : at - byte_count (take (k - 1) es) < (get_or es (k - 1) no_extent).len
  last_within =
      let i : ℕ = k - 1 in
      let on : k ≡ i + 1 = omega (arith, some_start) in
      let sum = sum_by-take-drop (λ (e : Extent). e.len) es i in
      let sum_more = sum_by-take-drop (λ (e : Extent). e.len) es k in
      let more = sum_by-drop_more (λ (e : Extent). e.len) es i no_extent (omega (arith, some_start)) in
      let same = ap (λ j. byte_count (drop j es)) on in
      omega (arith, sum, sum_more, more, same, ahead, last_before)

  -- the bytes that the stretch begins with
  pub last_bytes : (m : ℕ) → at - byte_count (take (k - 1) es) + m ≤ (get_or es (k - 1) no_extent).len →
      stretch at m (addresses es)
      ≡ run_of ((get_or es (k - 1) no_extent).pa.0 + (at - byte_count (take (k - 1) es))) m
  last_bytes m h =
      let e = get_or es (k - 1) no_extent in
      in_stretch at (byte_count (take (k - 1) es)) e.pa.0 e.len m (addresses es) (addresses (drop (k - 1 + 1) es))
      last_before
      (bytes_behind es (k - 1) ∙ at_drop_more addresses es (k - 1) no_extent (omega (arith, some_start)))
      h

-- the stretch at a position, found in a list of starts
module _ (es : List Extent) (starts : List ℕ) (at k end : ℕ) (begun : starts ≡ starts_from 0 es) (some : at < end)
    (range : end ≤ byte_count es) (small : k ≤ length starts)
    (below : (j d : ℕ) → j < k → get_or starts j d ≤ at)
    (above : (j d : ℕ) → k ≤ j → j < length starts → at < get_or starts j d) where
  inside : at < byte_count es
  inside = omega (arith, some, range)

  few : k ≤ length es
  few = let long = ap length begun in omega (arith, small, long, length-starts 0 es)

  pub some_found : 0 < k
  some_found = some_start es at k inside few (rw begun at below) (rw begun at above)

  pub found_index : k - 1 < length es
  found_index = omega (arith, some_found, few)

  found_start : get_or starts (k - 1) 0 ≡ byte_count (take (k - 1) es)
  found_start =
      ap (λ xs. get_or xs (k - 1) 0) begun ∙ last_start es at k inside few (rw begun at below) (rw begun at above) 0

  pub found_before : get_or starts (k - 1) 0 ≤ at
  found_before = omega (arith, found_start, last_before es at k inside few (rw begun at below) (rw begun at above))

  pub found_within : at - get_or starts (k - 1) 0 < (get_or es (k - 1) no_extent).len
  found_within = omega (arith, found_start, last_within es at k inside few (rw begun at below) (rw begun at above))

  pub found_bytes : (m : ℕ) → at - get_or starts (k - 1) 0 + m ≤ (get_or es (k - 1) no_extent).len →
      stretch at m (addresses es) ≡ run_of ((get_or es (k - 1) no_extent).pa.0 + (at - get_or starts (k - 1) 0)) m
  found_bytes m h =
      last_bytes es at k inside few (rw begun at below) (rw begun at above) m (omega (arith, found_start, h))
      ∙ ap (λ b. run_of ((get_or es (k - 1) no_extent).pa.0 + (at - b)) m) (sym found_start)
