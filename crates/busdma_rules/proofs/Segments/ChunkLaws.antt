-- Extents that are cut one after the other give the chunks of the entries.
use Rattle.std.proofs.Common.{◌≡◌, ℕ, zero, suc, ◌+◌, ◌-◌, ◌/◌, ◌%◌, ◌<◌, ◌≤◌, min, List, [], ◌∷◌, ◌++◌, length, take}
use Rattle.std.proofs.Common.{drop, Bool, true, false, cond, ◌&&◌, not, refl, ap, ◌∙◌, arith, mul_comm, length-append}
use Rattle.std.proofs.Common.{◌⊎◌, inl, inr}
use Rattle.std.specs.Prelude.{Option, Some, None}
use Rattle.std.specs.Option.{option_to_list}
use Rattle.std.proofs.lemmas.List.{drop_at}
use Rattle.busdma_machine.specs.declared.machine.address.Extent.{Extent}
use Rattle.busdma_machine.specs.declared.machine.chunk.Chunk.{Chunk}
use Rattle.busdma_machine.specs.declared.tags.tag.TagLimits.{TagLimits}
use Rattle.busdma_machine.specs.Runs.{IsExtent, run_of, addresses}
use Rattle.busdma_machine.specs.Machine.Entry.{AreJoined}
use Rattle.busdma_machine.specs.Tags.Tag.{IsEffective, needs_bounce}
use Rattle.busdma_machine.specs.Tags.TagFlags.{keep_pg_offset}
use Rattle.busdma_rules.specs.Segments.Chunks.{rounded_up, to_frame_end, chunk_limit, first_extent, extent_from}
use Rattle.busdma_rules.specs.Segments.Chunks.{chunk_of, chunks_within, chunks_of_bytes}
use Rattle.busdma_rules.specs.Segments.Begun.{begun_chunk}
use Rattle.busdma_rules.proofs.Segments.Places.{run_length}

pub take_nil : (k : ℕ) → take {A = ℕ} k [] ≡ []
take_nil zero = refl
take_nil (suc k) = refl

pub take_past : (xs ys : List ℕ) (k j : ℕ) → k ≡ length xs + j → take k (xs ++ ys) ≡ xs ++ take j ys
take_past [] ys k j h = let e : k ≡ j = omega arith in rw e refl
take_past (x ∷ xs) ys zero j h = absurd (omega arith)
take_past (x ∷ xs) ys (suc k) j h = ap (λ zs. x ∷ zs) (take_past xs ys k j (omega arith))

pub drop_past : (xs ys : List ℕ) (k j : ℕ) → k ≡ length xs + j → drop k (xs ++ ys) ≡ drop j ys
drop_past [] ys k j h = let e : k ≡ j = omega arith in rw e refl
drop_past (x ∷ xs) ys zero j h = absurd (omega arith)
drop_past (x ∷ xs) ys (suc k) j h = drop_past xs ys k j (omega arith)

length-drop_less : (k : ℕ) (a : ℕ) (bs : List ℕ) → 0 < k → length (drop k (a ∷ bs)) ≤ length bs
length-drop_less zero a bs h = absurd (omega arith)
length-drop_less (suc k) a bs h = drop_shorter k bs
  where
    drop_shorter : (k : ℕ) (xs : List ℕ) → length (drop k xs) ≤ length xs
    drop_shorter zero xs = omega arith
    drop_shorter (suc k) [] = omega arith
    drop_shorter (suc k) (x ∷ xs) = omega (arith, drop_shorter k xs)

pub run_split : (a n k : ℕ) → run_of a (n + k) ≡ run_of a n ++ run_of (a + n) k
run_split a zero k = let e : 0 + k ≡ k = omega arith in let f : a + 0 ≡ a = omega arith in rw (e, f) refl
run_split a (suc n) k =
    let e : suc n + k ≡ suc (n + k) = omega arith in
    let f : a + suc n ≡ a + 1 + n = omega arith in
    rw (e, f) (ap (λ xs. a ∷ xs) (run_split (a + 1) n k))

round_reaches : (p al : ℕ) → 0 < al → p ≤ rounded_up p al
round_reaches p al h = omega (arith, mul_comm ((p + al - 1) / al) al)

round_close : (p al : ℕ) → 0 < al → rounded_up p al ≤ p + al - 1
round_close p al h = omega (arith, mul_comm ((p + al - 1) / al) al)

pub limit_reaches : (t : TagLimits) (m : ℕ) (r : Bool) (a : ℕ) → IsEffective t → to_frame_end a ≤ chunk_limit t m r a
limit_reaches t m r a h =
    elim (needs_bounce t m a && r && not (keep_pg_offset t.flags))
    as (λ b. to_frame_end a ≤ cond b (rounded_up (to_frame_end a) t.alignment) (to_frame_end a))
    [ true ↦ round_reaches (to_frame_end a) t.alignment h.alignment_low | false ↦ omega arith ]

pub limit_close : (t : TagLimits) (m : ℕ) (r : Bool) (a : ℕ) → IsEffective t →
    chunk_limit t m r a ≤ to_frame_end a + 4095
limit_close t m r a h =
    let high = h.alignment_high in
    let low = h.alignment_low in
    elim (needs_bounce t m a && r && not (keep_pg_offset t.flags))
    as (λ b. cond b (rounded_up (to_frame_end a) t.alignment) (to_frame_end a) ≤ to_frame_end a + 4095)
    [ true ↦ omega (arith, round_close (to_frame_end a) t.alignment low) | false ↦ omega arith ]

chunks_enough : (n k : ℕ) (t : TagLimits) (m : ℕ) (r : Bool) (at : ℕ) (bs : List ℕ) → IsEffective t → length bs ≤ n →
    length bs ≤ k → chunks_within n t m r at bs ≡ chunks_within k t m r at bs
chunks_enough zero zero t m r at bs e h i = refl
chunks_enough zero (suc k) t m r at [] e h i = refl
chunks_enough (suc n) zero t m r at [] e h i = refl
chunks_enough (suc n) (suc k) t m r at [] e h i = refl
chunks_enough zero (suc k) t m r at (a ∷ bs) e h i = absurd (omega arith)
chunks_enough (suc n) zero t m r at (a ∷ bs) e h i = absurd (omega arith)
chunks_enough (suc n) (suc k) t m r at (a ∷ bs) e h i =
    let most = chunk_limit t m r a in
    let reaches = limit_reaches t m r a e in
    let less = length-drop_less most a bs (omega arith) in
    ap (λ cs. chunk_of t m at (take most (a ∷ bs)) ∷ cs)
    (chunks_enough n k t m r (at + most) (drop most (a ∷ bs)) e (omega arith) (omega arith))

chunks_step : (t : TagLimits) (m : ℕ) (r : Bool) (at a : ℕ) (bs : List ℕ) → IsEffective t →
    chunks_of_bytes t m r at (a ∷ bs) ≡ chunk_of t m at (take (chunk_limit t m r a) (a ∷ bs))
    ∷ chunks_of_bytes t m r (at + chunk_limit t m r a) (drop (chunk_limit t m r a) (a ∷ bs))
chunks_step t m r at a bs e =
    let most = chunk_limit t m r a in
    let reaches = limit_reaches t m r a e in
    let less = length-drop_less most a bs (omega arith) in
    ap (λ cs. chunk_of t m at (take most (a ∷ bs)) ∷ cs)
    (chunks_enough (length bs) (length (drop most (a ∷ bs))) t m r (at + most)
    (drop most (a ∷ bs)) e less (omega arith))

-- a chunk with these bytes of the next extent
abbrev pub carried : Option Chunk → List ℕ → Option Chunk
carried None bs = None
carried (Some c) [] = Some c
carried (Some c) (b ∷ bs) = Some (record c { rest = extent_from (b ∷ bs) })

-- an extent of n bytes from a on ends its frame, or no byte follows it
abbrev pub EndsFrame : ℕ → ℕ → List ℕ → Type 0
EndsFrame a n more = (more ≡ []) ⊎ (n ≡ to_frame_end a)

first_of_run : (a n : ℕ) (ys : List ℕ) → 0 < n → n ≤ to_frame_end a → (length ys ≡ 0) ⊎ (n ≡ to_frame_end a) →
    first_extent (run_of a n ++ ys) ≡ record { pa = record { 0 = a }; len = n }
first_of_run a zero ys pos l h = absurd (omega arith)
first_of_run a (suc n) ys pos l h =
    let len = run_length (a + 1) n in
    ap (λ (k : ℕ). record { pa = record { 0 = a }; len = k }) (same_len h)
  where
    same_len : (length ys ≡ 0) ⊎ (suc n ≡ to_frame_end a) →
        min (length (run_of a (suc n) ++ ys)) (to_frame_end a) ≡ suc n
    same_len (inl e) = omega (arith, length-append (run_of a (suc n)) ys, run_length a (suc n))
    same_len (inr e) = omega (arith, length-append (run_of a (suc n)) ys, run_length a (suc n))

chunk_with : (t : TagLimits) (m at a n : ℕ) (ys : List ℕ) →
    first_extent (run_of a n ++ ys) ≡ record { pa = record { 0 = a }; len = n } →
    Some (chunk_of t m at (run_of a n ++ ys)) ≡ carried (Some (begun_chunk t m at a n)) ys
chunk_with t m at a n ys h =
    ap
    (λ (f : Extent). Some (record {
      at = at;
      first = f;
      rest = extent_from (drop f.len (run_of a n ++ ys));
      bounced = needs_bounce t m f.pa.0;
      page = None;
    })) h
    ∙
    (ap
    (λ bs. Some (record {
      at = at;
      first = record { pa = record { 0 = a }; len = n };
      rest = extent_from bs;
      bounced = needs_bounce t m a;
      page = None;
    })) (drop_at (run_of a n) ys n (run_length a n))
    ∙ by_rest ys)
  where
    by_rest : (ys : List ℕ) →
        Some (record {
          at = at;
          first = record { pa = record { 0 = a }; len = n };
          rest = extent_from ys;
          bounced = needs_bounce t m a;
          page = None;
        }) ≡ carried (Some (begun_chunk t m at a n)) ys
    by_rest [] = refl
    by_rest (y ∷ ys) = refl

-- the chunk that begins with the bytes of a run, and the chunks after it
pub chunk_begins : (t : TagLimits) (m : ℕ) (r : Bool) (at a n : ℕ) (more : List ℕ) → IsEffective t → 0 < n →
    a % 4096 + n ≤ 4096 → EndsFrame a n more →
    chunks_of_bytes t m r at (run_of a n ++ more)
    ≡ option_to_list (carried (Some (begun_chunk t m at a n)) (take (chunk_limit t m r a - n) more))
    ++ chunks_of_bytes t m r (at + n + (chunk_limit t m r a - n)) (drop (chunk_limit t m r a - n) more)
chunk_begins t m r at a zero more e pos inside ends = absurd (omega arith)
chunk_begins t m r at a (suc n) more e pos inside ends =
    let most = chunk_limit t m r a in
    let reaches = limit_reaches t m r a e in
    let ys = take (most - suc n) more in
    let one = take_past (run_of a (suc n)) more most (most - suc n) (omega (arith, run_length a (suc n))) in
    let two = drop_past (run_of a (suc n)) more most (most - suc n) (omega (arith, run_length a (suc n))) in
    let place : at + most ≡ at + suc n + (most - suc n) = omega arith in
    let first = first_of_run a (suc n) ys (omega arith) (omega arith) (by_end ends) in
    chunks_step t m r at a (run_of (a + 1) n ++ more) e
    ∙ (ap (λ bs. chunk_of t m at bs ∷ chunks_of_bytes t m r (at + most) (drop most (run_of a (suc n) ++ more))) one
    ∙ (ap (λ bs. chunk_of t m at (run_of a (suc n) ++ ys) ∷ chunks_of_bytes t m r (at + most) bs) two
    ∙ (ap (λ k. chunk_of t m at (run_of a (suc n) ++ ys) ∷ chunks_of_bytes t m r k (drop (most - suc n) more)) place
    ∙ ap (λ o. option_to_list o ++ chunks_of_bytes t m r (at + suc n + (most - suc n)) (drop (most - suc n) more))
    (chunk_with t m at a (suc n) ys first))))
  where
    by_end : EndsFrame a (suc n) more →
        (length (take (chunk_limit t m r a - suc n) more) ≡ 0) ⊎ (suc n ≡ to_frame_end a)
    by_end (inl h) = inl (ap (λ bs. length (take (chunk_limit t m r a - suc n) bs)) h
        ∙ ap length (take_nil (chunk_limit t m r a - suc n)))
    by_end (inr h) = inr h

-- an extent that is not the last one of its entry has all bytes that are still owed to a chunk
abbrev pub Fits : ℕ → List Extent → Type 0
Fits owed [] = Unit {0}
Fits owed (e ∷ []) = Unit {0}
Fits owed (e ∷ f ∷ es) = owed ≤ e.len

pub nothing_fits : (es : List Extent) → Fits 0 es
nothing_fits [] = tt
nothing_fits (e ∷ []) = tt
nothing_fits (e ∷ f ∷ es) = omega arith

-- the last extent ends its entry, and any other extent ends its frame
pub ends_frame : (e : Extent) (owed : ℕ) (es : List Extent) → owed < e.len → IsExtent e → AreJoined (e ∷ es) →
    EndsFrame (e.pa.0 + owed) (e.len - owed) (addresses es)
ends_frame e owed [] l x j = inl refl
ends_frame e owed (f ∷ es) l x j =
    let inside = x.in_frame in
    let some = x.some in
    let at_end = j.0 in
    inr (omega arith)

pub joined_rest : (e : Extent) (es : List Extent) → AreJoined (e ∷ es) → AreJoined es
joined_rest e [] j = tt
joined_rest e (f ∷ es) j = j.2
