-- More bytes give no fewer pieces, and more parts no fewer chunks.
use Rattle.std.proofs.Common.{◌≡◌, ℕ, zero, suc, ◌+◌, ◌-◌, ◌%◌, ◌<◌, ◌≤◌, min, List, [], ◌∷◌, ◌++◌, length, take, drop}
use Rattle.std.proofs.Common.{Bool, true, false, eqb, leb, refl, ap, sym, ◌∙◌, subst, arith, append_assoc}
use Rattle.std.proofs.Common.{length-append, length-take, length-drop}
use Rattle.std.specs.Prelude.{Option, Some, None, IfSome}
use Rattle.std.specs.Option.{option_to_list}
use Rattle.std.proofs.lemmas.List.{drop-append-le, drop_all, take-append-le}
use Rattle.busdma_machine.specs.declared.machine.chunk.Chunk.{Chunk}
use Rattle.busdma_machine.specs.declared.tags.tag.TagLimits.{TagLimits}
use Rattle.busdma_machine.specs.Runs.{run_of}
use Rattle.busdma_machine.specs.Tags.Tag.{IsEffective}
use Rattle.busdma_rules.specs.Segments.Chunks.{chunk_limit, chunk_of, chunks_within}
use Rattle.busdma_rules.specs.Segments.Pieces.{piece_len, pieces_of}
use Rattle.busdma_rules.specs.Segments.Trace.{chunk_len}
use Rattle.busdma_rules.proofs.Segments.ChunkLaws.{limit_reaches}
use Rattle.busdma_rules.proofs.Segments.Numbers.{above, most}
use Rattle.busdma_rules.proofs.Segments.Places.{piece_fits, piece_some, pieces_step}
use Rattle.busdma_rules.proofs.Segments.Sound.{made_len}

-- ---- pieces of longer runs

-- if a piece does not take all that is left, more bytes leave it as it is
piece_more : (t : TagLimits) (a n m : ℕ) → piece_len t a n < n → piece_len t a (n + m) ≡ piece_len t a n
piece_more t a n m h =
    (elim (eqb t.boundary 0) as (λ b. eqb t.boundary 0 ≡ b → piece_len t a (n + m) ≡ piece_len t a n) [
      | true ↦ λ w. (let e : piece_len t a n ≡ min n t.maxsegsz = rw w refl in
          let f : piece_len t a (n + m) ≡ min (n + m) t.maxsegsz = rw w refl in omega arith)
      | false ↦ λ w. (let e : piece_len t a n ≡ min (min n t.maxsegsz) (t.boundary - a % t.boundary) = rw w refl in
          let f : piece_len t a (n + m) ≡ min (min (n + m) t.maxsegsz) (t.boundary - a % t.boundary) =
          rw w refl in omega arith)
    ]) refl

longer_step : (t : TagLimits) (a n m : ℕ) → 0 < t.maxsegsz →
    ((b k : ℕ) → k < suc n → length (pieces_of t (run_of b k)) ≤ length (pieces_of t (run_of b (k + m)))) →
    length (pieces_of t (run_of a (suc n))) ≤ length (pieces_of t (run_of a (suc n + m)))
longer_step t a n m pos ih =
    let k = piece_len t a (suc n) in
    let some = piece_some t a (suc n) pos (omega arith) in
    let fits = piece_fits t a (suc n) in
    let one = ap length (pieces_step t a (suc n) k pos (omega arith) refl) in
    (elim (leb (suc n) k) as (λ b. leb (suc n) k ≡ b →
    length (pieces_of t (run_of a (suc n))) ≤ length (pieces_of t (run_of a (suc n + m)))) [
      | true ↦ λ w.
          let all = most (suc n) k w in
          let e : suc n - k ≡ 0 = omega arith in
          let j = piece_len t a (suc n + m) in
          let other = ap length (pieces_step t a (suc n + m) j pos (omega arith) refl) in
          let none = ap (λ r. length (pieces_of t (run_of (a + k) r))) e in
          omega (arith, one, other, none)
      | false ↦ λ w.
          let less = above (suc n) k w in
          let other =
          ap length (pieces_step t a (suc n + m) k pos (omega arith) (sym (piece_more t a (suc n) m less))) in
          let e : suc n + m - k ≡ suc n - k + m = omega arith in
          let rest = ap (λ r. length (pieces_of t (run_of (a + k) r))) e in
          omega (arith, one, other, rest, ih (a + k) (suc n - k) (omega arith))
    ]) refl

longer_run : (f : ℕ) (t : TagLimits) (a n m : ℕ) → 0 < t.maxsegsz → n ≤ f →
    length (pieces_of t (run_of a n)) ≤ length (pieces_of t (run_of a (n + m)))
longer_run f t a zero m pos h = omega arith
longer_run zero t a (suc n) m pos h = absurd (omega arith)
longer_run (suc f) t a (suc n) m pos h = longer_step t a n m pos (λ b k l. longer_run f t b k m pos (omega arith))

pub run_longer : (t : TagLimits) (a n k : ℕ) → 0 < t.maxsegsz → n ≤ k →
    length (pieces_of t (run_of a n)) ≤ length (pieces_of t (run_of a k))
run_longer t a n k pos h = let e : n + (k - n) ≡ k =
    omega arith in
    omega (arith, longer_run n t a n (k - n) pos (omega arith), ap (λ x. length (pieces_of t (run_of a x))) e)

-- ---- fronts of lists of chunks

-- d begins as c does, and has no fewer bytes
pub record IsLonger (c d : Chunk) : Type 0 where
  pub begins : d.first.pa ≡ c.first.pa
  pub bounced : d.bounced ≡ c.bounced
  pub len : chunk_len c ≤ chunk_len d

abbrev pub BeginsLonger : Chunk → List Chunk → Type 0
BeginsLonger c [] = ⊥
BeginsLonger c (d ∷ ds) = IsLonger c d

-- the chunks of a front are those of the stream, except that the last may be shorter
pub record IsFront (cs ds : List Chunk) : Type 0 where
  pub shared : List Chunk
  pub last : Option Chunk
  pub other : List Chunk
  pub front_is : cs ≡ shared ++ option_to_list last
  pub whole_is : ds ≡ shared ++ other
  pub longer : IfSome last (λ c. BeginsLonger c other)

pub no_front : (ds : List Chunk) → IsFront [] ds
no_front ds = record { shared = []; last = None; other = ds; front_is = refl; whole_is = refl; longer = tt }

pub behind : (xs cs ds : List Chunk) → IsFront cs ds → IsFront (xs ++ cs) (xs ++ ds)
behind xs cs ds f = record {
  shared = xs ++ f.shared;
  last = f.last;
  other = f.other;
  front_is = ap (λ ys. xs ++ ys) f.front_is ∙ sym (append_assoc xs f.shared (option_to_list f.last));
  whole_is = ap (λ ys. xs ++ ys) f.whole_is ∙ sym (append_assoc xs f.shared f.other);
  longer = f.longer;
}

pub extended : (cs ds more : List Chunk) → IsFront cs ds → IsFront cs (ds ++ more)
extended cs ds more f = record {
  shared = f.shared;
  last = f.last;
  other = f.other ++ more;
  front_is = f.front_is;
  whole_is = ap (λ ys. ys ++ more) f.whole_is ∙ append_assoc f.shared f.other more;
  longer = still f.last f.other more f.longer;
}
  where
    begins_still : (c : Chunk) (ys more : List Chunk) → BeginsLonger c ys → BeginsLonger c (ys ++ more)
    begins_still c [] more h = absurd h
    begins_still c (y ∷ ys) more h = h

    still : (o : Option Chunk) (ys more : List Chunk) → IfSome o (λ c. BeginsLonger c ys) →
        IfSome o (λ c. BeginsLonger c (ys ++ more))
    still None ys more h = tt
    still (Some c) ys more h = begins_still c ys more h

pub within_front : (n k : ℕ) (t : TagLimits) (m : ℕ) (r : Bool) (at : ℕ) (bs more : List ℕ) → IsEffective t →
    length bs ≤ n → length bs + length more ≤ k →
    IsFront (chunks_within n t m r at bs) (chunks_within k t m r at (bs ++ more))
within_front zero k t m r at bs more e h i = no_front (chunks_within k t m r at (bs ++ more))
within_front (suc n) k t m r at [] more e h i = no_front (chunks_within k t m r at more)
within_front (suc n) zero t m r at (a ∷ bs) more e h i = absurd (omega arith)
within_front (suc n) (suc k) t m r at (a ∷ bs) more e h i =
    let limit = chunk_limit t m r a in
    let reaches = limit_reaches t m r a e in
    let own = chunk_of t m at (take limit (a ∷ bs)) in
    let wide = chunk_of t m at (take limit (a ∷ (bs ++ more))) in
    (elim (leb limit (length (a ∷ bs))) as (λ b. leb limit (length (a ∷ bs)) ≡ b →
    IsFront (own ∷ chunks_within n t m r (at + limit) (drop limit (a ∷ bs)))
    (wide ∷ chunks_within k t m r (at + limit) (drop limit (a ∷ (bs ++ more))))) [
      | true ↦ λ w.
          let le = most limit (length (a ∷ bs)) w in
          let same : take limit (a ∷ (bs ++ more)) ≡ take limit (a ∷ bs) = take-append-le limit (a ∷ bs) more le in
          let rest : drop limit (a ∷ (bs ++ more)) ≡ drop limit (a ∷ bs) ++ more =
          drop-append-le limit (a ∷ bs) more le in
          let ih =
          within_front n k t m r (at + limit) (drop limit (a ∷ bs)) more e
          (omega (arith, length-drop limit (a ∷ bs))) (omega (arith, length-drop limit (a ∷ bs))) in
          subst (λ (ds : List Chunk). IsFront (own ∷ chunks_within n t m r (at + limit) (drop limit (a ∷ bs))) ds)
          (sym (ap (λ xs. chunk_of t m at xs ∷ chunks_within k t m r (at + limit) (drop limit (a ∷ (bs ++ more))))
          same ∙ ap (λ xs. own ∷ chunks_within k t m r (at + limit) xs) rest))
          (behind (own ∷ []) (chunks_within n t m r (at + limit) (drop limit (a ∷ bs)))
          (chunks_within k t m r (at + limit) (drop limit (a ∷ bs) ++ more)) ih)
      | false ↦ λ w.
          let gt = above limit (length (a ∷ bs)) w in
          let is : limit ≡ suc (limit - 1) = omega arith in
          let none : drop limit (a ∷ bs) ≡ [] = drop_all limit (a ∷ bs) (omega arith) in
          let last : chunks_within n t m r (at + limit) (drop limit (a ∷ bs)) ≡ [] =
          ap (chunks_within n t m r (at + limit)) none ∙ no_chunks n t m r (at + limit) in
          record {
            shared = [];
            last = Some own;
            other = wide ∷ chunks_within k t m r (at + limit) (drop limit (a ∷ (bs ++ more)));
            front_is = ap (λ cs. own ∷ cs) last;
            whole_is = refl;
            longer =
                subst (λ (z : ℕ). IsLonger (chunk_of t m at (take z (a ∷ bs)))
                (chunk_of t m at (take z (a ∷ (bs ++ more))))) (sym is) (record {
                  begins = refl;
                  bounced = refl;
                  len =
                      omega (
                        arith,
                        made_len t m at a (take (limit - 1) bs),
                        made_len t m at a (take (limit - 1) (bs ++ more)),
                        length-take (limit - 1) bs,
                        length-take (limit - 1) (bs ++ more),
                        length-append bs more,
                      );
                });
          }
    ]) refl
  where
    no_chunks : (n : ℕ) (t : TagLimits) (m : ℕ) (r : Bool) (at : ℕ) → chunks_within n t m r at [] ≡ []
    no_chunks zero t m r at = refl
    no_chunks (suc n) t m r at = refl
