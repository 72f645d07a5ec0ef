-- The chunks of entries have the bytes of the entries, in order.
use Rattle.std.proofs.Common.{◌≡◌, ℕ, zero, suc, ◌+◌, ◌-◌, ◌<◌, ◌≤◌, List, [], ◌∷◌, ◌++◌, length, take, drop, Bool}
use Rattle.std.proofs.Common.{true, false, leb, refl, ap, sym, ◌∙◌, subst, arith, append_assoc, append-nil, length-take}
use Rattle.std.proofs.Common.{◌⊎◌, inl, inr}
use Rattle.std.specs.Prelude.{Some}
use Rattle.std.specs.Option.{option_to_list}
use Rattle.std.specs.List.{AllByRecursion, flat_map}
use Rattle.std.proofs.lemmas.Bool.Decides.{nat_tests}
use Rattle.std.proofs.lemmas.List.{drop_all, take-append-drop, take-append-le, take_all}
use Rattle.std.proofs.lemmas.List.Concat.{flat_map-append}
use Rattle.std.proofs.lemmas.List.Sums.{sum_by-cons, sum_by-append}
use Rattle.busdma_machine.specs.declared.machine.address.Extent.{Extent}
use Rattle.busdma_machine.specs.declared.machine.chunk.Chunk.{Chunk}
use Rattle.busdma_machine.specs.declared.machine.chunk.Entry.{Entry}
use Rattle.busdma_machine.specs.declared.tags.tag.TagLimits.{TagLimits}
use Rattle.busdma_machine.specs.Each.{EachAfter}
use Rattle.busdma_machine.specs.Machine.Entry.{AreJoined, IsEntry, entry_addresses}
use Rattle.busdma_machine.specs.Runs.{IsExtent, addresses, byte_count, run_of}
use Rattle.busdma_machine.specs.Tags.Tag.{IsEffective}
use Rattle.busdma_rules.specs.Segments.Chunks.{chunk_limit, chunk_of, chunks_from, chunks_of, chunks_of_bytes}
use Rattle.busdma_rules.specs.Segments.Chunks.{chunks_within}
use Rattle.busdma_rules.specs.Segments.Begun.{begun_chunk}
use Rattle.busdma_rules.specs.Segments.Trace.{chunk_extents, chunk_len}
use Rattle.busdma_rules.proofs.Segments.ChunkLaws.{Fits, carried, chunk_begins, drop_past, ends_frame, joined_rest}
use Rattle.busdma_rules.proofs.Segments.ChunkLaws.{limit_close, limit_reaches, nothing_fits, run_split}
use Rattle.busdma_rules.proofs.Segments.Counting.{addresses_length, chunk_bytes, within_bytes}
use Rattle.busdma_rules.proofs.Segments.Places.{run_length}
use Rattle.busdma_rules.proofs.Segments.Sound.{made_len}

-- the addresses of the bytes of a chunk
abbrev own_addresses : Chunk → List ℕ
own_addresses c = addresses (chunk_extents c)

-- ---- the bytes that are carried into the next extent are a run

-- the addresses rise by one from the first of them
abbrev FollowEachOther : List ℕ → Type 0
FollowEachOther [] = Unit {0}
FollowEachOther (x ∷ xs) = run_of x (length (x ∷ xs)) ≡ x ∷ xs

take_run : (k a n : ℕ) → k ≤ n → take k (run_of a n) ≡ run_of a k
take_run zero a n h = refl
take_run (suc k) a zero h = absurd (omega arith)
take_run (suc k) a (suc n) h = ap (λ xs. a ∷ xs) (take_run k (a + 1) n (omega arith))

run_is_run : (a n : ℕ) → FollowEachOther (run_of a n)
run_is_run a zero = tt
run_is_run a (suc n) = ap (λ k. run_of a k) (run_length a (suc n))

carried_is_run : (k : ℕ) (es : List Extent) → Fits k es → FollowEachOther (take k (addresses es))
carried_is_run zero es h = tt
carried_is_run (suc k) [] h = tt
carried_is_run k (e ∷ []) h =
    (elim (leb k e.len) as (λ b. leb k e.len ≡ b → FollowEachOther (take k (run_of e.pa.0 e.len ++ []))) [
      | true ↦
          λ w. subst FollowEachOther (sym (ap (take k) (append-nil (run_of e.pa.0 e.len))
          ∙ take_run k e.pa.0 e.len (at_most k e.len w))) (run_is_run e.pa.0 k)
      | false ↦
          λ w. subst FollowEachOther (sym (ap (take k) (append-nil (run_of e.pa.0 e.len))
          ∙ take_all k (run_of e.pa.0 e.len) (longer k e.len w))) (run_is_run e.pa.0 e.len)
    ]) refl
  where
    at_most : (a b : ℕ) → leb a b ≡ true → a ≤ b
    at_most a b w = grind (arith, nat_tests)

    longer : (k n : ℕ) → leb k n ≡ false → length (run_of e.pa.0 n) ≤ k
    longer k n w = let gt : n < k = grind (arith, nat_tests) in omega (arith, run_length e.pa.0 n)
carried_is_run k (e ∷ f ∷ es) h =
    subst FollowEachOther
    (sym (take-append-le k (run_of e.pa.0 e.len) (addresses (f ∷ es)) (omega (arith, run_length e.pa.0 e.len))
    ∙ take_run k e.pa.0 e.len h)) (run_is_run e.pa.0 k)

carried_addresses : (t : TagLimits) (m at a n : ℕ) (ys : List ℕ) → FollowEachOther ys →
    flat_map own_addresses (option_to_list (carried (Some (begun_chunk t m at a n)) ys)) ≡ run_of a n ++ ys
carried_addresses t m at a n [] h = append-nil (run_of a n ++ [])
carried_addresses t m at a n (y ∷ ys) h =
    append-nil (run_of a n ++ (run_of y (length (y ∷ ys)) ++ []))
    ∙ ap (λ xs. run_of a n ++ xs) (append-nil (run_of y (length (y ∷ ys))) ∙ h)

-- ---- the bytes of an entry

shorter_fits : (owed : ℕ) (e : Extent) (es : List Extent) → e.len ≤ owed → Fits owed (e ∷ es) → Fits (owed - e.len) es
shorter_fits owed e [] l h = tt
shorter_fits owed e (f ∷ []) l h = tt
shorter_fits owed e (f ∷ g ∷ es) l h = omega arith

later_fits : (t : TagLimits) (m : ℕ) (r : Bool) (owed : ℕ) (e : Extent) (es : List Extent) → IsEffective t →
    owed < e.len → AllByRecursion IsExtent (e ∷ es) → AreJoined (e ∷ es) →
    Fits (chunk_limit t m r (e.pa.0 + owed) - (e.len - owed)) es
later_fits t m r owed e [] eff l x j = tt
later_fits t m r owed e (f ∷ []) eff l x j = tt
later_fits t m r owed e (f ∷ g ∷ es) eff l x j =
    let inside = x.0.in_frame in
    let frame = x.1.0.in_frame in
    let some = x.1.0.some in
    let close = limit_close t m r (e.pa.0 + owed) eff in
    omega (arith, j.0, j.1, j.2.0)

cover : (t : TagLimits) (m : ℕ) (r : Bool) (at owed : ℕ) (es : List Extent) → IsEffective t →
    AllByRecursion IsExtent es → AreJoined es → Fits owed es →
    flat_map own_addresses (chunks_of_bytes t m r at (drop owed (addresses es))) ≡ drop owed (addresses es)
cover t m r at zero [] eff x j h = refl
cover t m r at (suc owed) [] eff x j h = refl
cover t m r at owed (e ∷ es) eff x j h =
    (elim (leb e.len owed) as (λ b. leb e.len owed ≡ b →
    flat_map own_addresses (chunks_of_bytes t m r at (drop owed (addresses (e ∷ es))))
    ≡ drop owed (addresses (e ∷ es))) [
      | true ↦ λ w.
          let le = at_most e.len owed w in
          let rest =
          drop_past (run_of e.pa.0 e.len) (addresses es) owed (owed - e.len)
          (omega (arith, run_length e.pa.0 e.len)) in
          ap (λ bs. flat_map own_addresses (chunks_of_bytes t m r at bs)) rest
          ∙ (cover t m r at (owed - e.len) es eff x.1 (joined_rest e es j) (shorter_fits owed e es le h) ∙ sym rest)
      | false ↦ λ w.
          let gt = above e.len owed w in
          let n = e.len - owed in
          let a = e.pa.0 + owed in
          let inside = x.0.in_frame in
          let len : owed + n ≡ e.len = omega arith in
          let more = addresses es in
          let k = chunk_limit t m r a - n in
          let split : run_of e.pa.0 e.len ++ more ≡ run_of e.pa.0 owed ++ (run_of a n ++ more) =
          ap (λ z. run_of e.pa.0 z ++ more) (sym len)
          ∙ (ap (λ zs. zs ++ more) (run_split e.pa.0 owed n)
          ∙ append_assoc (run_of e.pa.0 owed) (run_of a n) more) in
          let rest : drop owed (run_of e.pa.0 e.len ++ more) ≡ run_of a n ++ more =
          ap (drop owed) split ∙ drop_past (run_of e.pa.0 owed) (run_of a n ++ more) owed 0
          (omega (arith, run_length e.pa.0 owed)) in
          let fits = later_fits t m r owed e es eff gt x j in
          let here = carried (Some (begun_chunk t m at a n)) (take k more) in
          ap (λ bs. flat_map own_addresses (chunks_of_bytes t m r at bs)) rest
          ∙
          (ap (flat_map own_addresses)
          (chunk_begins t m r at a n more eff (omega arith) (omega arith) (ends_frame e owed es gt x.0 j))
          ∙ (flat_map-append own_addresses (option_to_list here) (chunks_of_bytes t m r (at + n + k) (drop k more))
          ∙ (ap (λ zs. zs ++ flat_map own_addresses (chunks_of_bytes t m r (at + n + k) (drop k more)))
          (carried_addresses t m at a n (take k more) (carried_is_run k es fits))
          ∙ (ap (λ zs. (run_of a n ++ take k more) ++ zs)
          (cover t m r (at + n + k) k es eff x.1 (joined_rest e es j) fits)
          ∙ (append_assoc (run_of a n) (take k more) (drop k more)
          ∙ (ap (λ zs. run_of a n ++ zs) (take-append-drop k more) ∙ sym rest))))))
    ]) refl
  where
    at_most : (a b : ℕ) → leb a b ≡ true → a ≤ b
    at_most a b w = grind (arith, nat_tests)

    above : (a b : ℕ) → leb a b ≡ false → b < a
    above a b w = grind (arith, nat_tests)

from_cover : (t : TagLimits) (m at : ℕ) (es : List Entry) → IsEffective t → AllByRecursion IsEntry es →
    flat_map own_addresses (chunks_from t m at es) ≡ flat_map entry_addresses es
from_cover t m at [] eff h = refl
from_cover t m at (e ∷ es) eff h =
    flat_map-append own_addresses (chunks_of_bytes t m e.rounded at (entry_addresses e))
    (chunks_from t m (at + byte_count e.parts) es)
    ∙ (ap (λ xs. xs ++ flat_map own_addresses (chunks_from t m (at + byte_count e.parts) es))
    (cover t m e.rounded at 0 e.parts eff h.0.extents h.0.joined (nothing_fits e.parts))
    ∙ ap (λ xs. entry_addresses e ++ xs) (from_cover t m (at + byte_count e.parts) es eff h.1))

-- the chunks of entries have the bytes of the entries
pub chunks_cover : (t : TagLimits) (m : ℕ) (es : List Entry) → IsEffective t → AllByRecursion IsEntry es →
    flat_map (λ c. addresses (chunk_extents c)) (chunks_of t m es) ≡ flat_map entry_addresses es
chunks_cover t m es eff h = from_cover t m 0 es eff h

-- ---- the places of chunks

-- a chunk's place is the number of bytes before it
abbrev pub IsAt : List Chunk → Chunk → Type 0
IsAt before c = c.at ≡ chunk_bytes before

pub each_append : {X : Type 0} (P : List X → X → Type 0) (before xs ys : List X) → EachAfter P before xs →
    EachAfter P (before ++ xs) ys → EachAfter P before (xs ++ ys)
each_append P before [] ys h i = subst (λ zs. EachAfter P zs ys) (append-nil before) i
each_append P before (x ∷ xs) ys h i = (
  h.0,
  each_append P (before ++ x ∷ []) xs ys h.1
      (subst (λ zs. EachAfter P zs ys) (sym (append_assoc before (x ∷ []) xs)) i),
)

within_at : (n : ℕ) (t : TagLimits) (m : ℕ) (r : Bool) (at : ℕ) (bs : List ℕ) (before : List Chunk) → IsEffective t →
    (bs ≡ []) ⊎ (at ≡ chunk_bytes before) → EachAfter IsAt before (chunks_within n t m r at bs)
within_at zero t m r at bs before eff h = tt
within_at (suc n) t m r at [] before eff h = tt
within_at (suc n) t m r at (a ∷ bs) before eff (inl h) = absurd cc
within_at (suc n) t m r at (a ∷ bs) before eff (inr h) =
    let most = chunk_limit t m r a in
    let reaches = limit_reaches t m r a eff in
    let c = chunk_of t m at (take most (a ∷ bs)) in
    let is : most ≡ suc (most - 1) = omega arith in
    let len : chunk_len c ≡ length (take most (a ∷ bs)) =
    subst (λ (k : ℕ). chunk_len (chunk_of t m at (take k (a ∷ bs))) ≡ length (take k (a ∷ bs))) (sym is)
    (made_len t m at a (take (most - 1) bs)) in
    let more = sum_by-append chunk_len before (c ∷ []) in
    let one = sum_by-cons chunk_len c [] in
    let size = length-take most (a ∷ bs) in (
      h,
      within_at n t m r (at + most) (drop most (a ∷ bs)) (before ++ c ∷ []) eff
          ((elim (leb (length (a ∷ bs)) most) as (λ b. leb (length (a ∷ bs)) most ≡ b →
          (drop most (a ∷ bs) ≡ []) ⊎ (at + most ≡ chunk_bytes (before ++ c ∷ []))) [
            | true ↦ λ w. inl (drop_all most (a ∷ bs) (at_most (length (a ∷ bs)) most w))
            | false ↦ λ w. (let gt = above (length (a ∷ bs)) most w in inr (omega arith))
          ]) refl),
    )
  where
    at_most : (a b : ℕ) → leb a b ≡ true → a ≤ b
    at_most a b w = grind (arith, nat_tests)

    above : (a b : ℕ) → leb a b ≡ false → b < a
    above a b w = grind (arith, nat_tests)

from_at : (t : TagLimits) (m at : ℕ) (es : List Entry) (before : List Chunk) → IsEffective t →
    at ≡ chunk_bytes before → EachAfter IsAt before (chunks_from t m at es)
from_at t m at [] before eff h = tt
from_at t m at (e ∷ es) before eff h =
    let here = chunks_of_bytes t m e.rounded at (entry_addresses e) in
    let bytes = within_bytes (length (entry_addresses e)) t m e.rounded at (entry_addresses e) eff (omega arith) in
    each_append IsAt before here (chunks_from t m (at + byte_count e.parts) es)
    (within_at (length (entry_addresses e)) t m e.rounded at (entry_addresses e) before eff (inr h))
    (from_at t m (at + byte_count e.parts) es (before ++ here) eff
    (omega (arith, h, sum_by-append chunk_len before here, bytes, addresses_length e.parts)))

-- the place of each chunk of entries is the number of bytes of the chunks before it
pub chunks_at : (t : TagLimits) (m : ℕ) (es : List Entry) → IsEffective t →
    EachAfter (λ before c. c.at ≡ chunk_bytes before) [] (chunks_of t m es)
chunks_at t m es eff = from_at t m 0 es [] eff refl
