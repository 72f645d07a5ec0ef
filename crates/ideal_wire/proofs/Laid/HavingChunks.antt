-- The trace of a load has the bytes of its bounced chunks at their places.
use Rattle.std.proofs.Common.{◌≡◌, ℕ, zero, suc, ◌+◌, ◌-◌, ◌≤◌, ◌==◌, Bool, true, false, not, List, []}
use Rattle.std.proofs.Common.{◌∷◌, ◌++◌, length, take, drop, Option, Some, None, is_some, refl, ap, sym, ◌∙◌, subst}
use Rattle.std.proofs.Common.{unwrap_or, arith, nat_le, nat_lt, append_assoc, eq-eqb, length-append, cond}
use Rattle.std.proofs.lemmas.Bool.{le-leb, lt-ltb}
use Rattle.std.proofs.lemmas.List.{take-append-le, take_all}
use Rattle.std.specs.List.{AllByRecursion}
use Rattle.busdma_machine.specs.declared.machine.address.Pa.{Pa}
use Rattle.busdma_machine.specs.declared.machine.chunk.Chunk.{Chunk}
use Rattle.busdma_machine.specs.Machine.Wire.{Placed, is_bounced}
use Rattle.busdma_machine.specs.Runs.{run_of}
use Rattle.busdma_rules.specs.Syncs.Positions.{placed_at, positions_of}
use Rattle.busdma_rules.specs.Syncs.ChunkTraces.{HasChunk, HasChunks}
use Rattle.busdma_rules.specs.Segments.Chunks.{bounced_of}
use Rattle.busdma_rules.specs.Segments.Trace.{IsPlaced, bus_extent, bus_from, chunk_extents, chunk_len}
use Rattle.busdma_rules.proofs.Segments.Counting.{addresses_length}
use Rattle.busdma_rules.proofs.Segments.Sound.{all_append}
use Rattle.ideal_wire.specs.Traces.{bus_at, placed_from}
use Rattle.ideal_wire.proofs.Laid.Loading.{Follow, before-all, chunk_bytes, chunks_bytes, past-chunk, placed-append}

-- none of these positions is bounced
abbrev AreOwn : List Placed → Type 0
AreOwn ps = AllByRecursion (λ p. is_bounced p ≡ false) ps

-- no position before the chunks is
own-placed : (cs : List Chunk) (at : ℕ) (pas : List ℕ) (end : ℕ) → Follow end cs → at + length pas ≤ end →
    AreOwn (placed_from (bounced_of cs) at pas)
own-placed cs at [] end h le = tt
own-placed cs at (pa ∷ pas) end h le = (
  ap (λ b. not (b == pa)) (before-all cs end at pa h (omega (arith, le))) ∙ ap not (eq-eqb pa pa refl),
  own-placed cs (at + 1) pas end h (omega (arith, le)),
)

placed-length : (cs : List Chunk) (at : ℕ) (pas : List ℕ) → length (placed_from cs at pas) ≡ length pas
placed-length cs at [] = refl
placed-length cs at (pa ∷ pas) = ap suc (placed-length cs (at + 1) pas)

-- the positions of a chunk in its page
page-places : (c : Chunk) (cs : List Chunk) (pas : List ℕ) (k : ℕ) → k + length pas ≤ chunk_len c →
    placed_from (c ∷ cs) (c.at + k) pas ≡ placed_at pas (run_of ((bus_extent c).pa.0 + k) (length pas))
page-places c cs [] k le = refl
page-places c cs (pa ∷ pas) k le =
    let low : nat_le c.at (c.at + k) ≡ true = le-leb c.at (c.at + k) (omega arith) in
    let high : nat_lt (c.at + k) (c.at + chunk_len c) ≡ true =
    lt-ltb (c.at + k) (c.at + chunk_len c) (omega (arith, le)) in
    let place : c.at + k - c.at ≡ k = omega arith in
    let here : bus_at (c ∷ cs) (c.at + k) pa ≡ (bus_extent c).pa.0 + k = rw (low, high, place) refl in
    let next : c.at + k + 1 ≡ c.at + (k + 1) = omega arith in
    let bus : (bus_extent c).pa.0 + (k + 1) ≡ (bus_extent c).pa.0 + k + 1 = omega arith in
    let rest : placed_from (c ∷ cs) (c.at + k + 1) pas
    ≡ placed_at pas (run_of ((bus_extent c).pa.0 + k + 1) (length pas)) =
    ap (λ j. placed_from (c ∷ cs) j pas) next ∙ page-places c cs pas (k + 1) (omega (arith, le))
    ∙ ap (λ j. placed_at pas (run_of j (length pas))) bus in
    λ i. record { pa = pa; bus = here i } ∷ rest i

-- the positions of a bounced chunk
chunk-places : (c : Chunk) (cs : List Chunk) → IsPlaced c → c.bounced ≡ true →
    placed_from (c ∷ cs) c.at (chunk_bytes c) ≡ positions_of c
chunk-places c cs is e =
    let n : length (chunk_bytes c) ≡ chunk_len c = addresses_length (chunk_extents c) in
    let place : c.at ≡ c.at + 0 = omega arith in
    let bus : (bus_extent c).pa.0 + 0 ≡ (bus_extent c).pa.0 = omega arith in
    ap (λ k. placed_from (c ∷ cs) k (chunk_bytes c)) place
    ∙ page-places c cs (chunk_bytes c) 0 (omega (arith, n))
    ∙ (λ i. placed_at (chunk_bytes c) (run_of (bus i) (n i)))
    ∙ ap (placed_at (chunk_bytes c)) (sym (paged c.page (is.paged ∙ e)))
  where
    paged : (p : Option Pa) → is_some p ≡ true →
        bus_from p c ≡ run_of (unwrap_or p c.first.pa).0 (chunk_len c)
    paged None some = absurd (cc)
    paged (Some p) some = refl

drop-past : (xs ys : List Placed) (k j : ℕ) → k ≡ length xs + j → drop k (xs ++ ys) ≡ drop j ys
drop-past [] ys k j h = let e : k ≡ j = omega (arith, h) in ap (λ n. drop n ys) e
drop-past (x ∷ xs) ys zero j h = absurd (omega (arith, h))
drop-past (x ∷ xs) ys (suc k) j h = drop-past xs ys k j (omega (arith, h))

take-all-of : (n : ℕ) (u w : List Placed) → n ≡ length u → take n (u ++ w) ≡ u
take-all-of n u w e = take-append-le n u w (omega (arith, e)) ∙ take_all n u (omega (arith, e))

-- a chunk follows positions that are not bounced, and other positions follow it
one-chunk : (place : ℕ) (u v w : List Placed) (c : Chunk) → place + length u ≡ c.at → AreOwn u →
    length v ≡ chunk_len c → v ≡ positions_of c → HasChunk place (u ++ (v ++ w)) c
one-chunk place u v w c at own len is = record {
  behind = omega (arith, at);
  inside = omega (arith, at, len, length-append u (v ++ w), length-append v w);
  before = subst AreOwn (sym (take-all-of (c.at - place) u (v ++ w) (omega (arith, at)))) own;
  here =
      ap (take (chunk_len c)) (drop-past u (v ++ w) (c.at - place) 0 (omega (arith, at)))
      ∙ take-all-of (chunk_len c) v w (sym len) ∙ is;
}

pub has-chunks : (cs : List Chunk) (place at : ℕ) (u : List Placed) → place + length u ≡ at → AreOwn u → Follow at cs →
    AllByRecursion IsPlaced cs →
    HasChunks place (u ++ placed_from (bounced_of cs) at (chunks_bytes cs)) (bounced_of cs)
has-chunks [] place at u e own h all = all_append (λ p. is_bounced p ≡ false) u [] own tt
has-chunks (c ∷ cs) place at u e own h all =
    by (λ p k v e own is. has-chunks cs p k v e own (subst (λ n. Follow n cs) (sym is) h.1) all.1) c.bounced refl
  where
    n : length (chunk_bytes c) ≡ chunk_len c
    n = addresses_length (chunk_extents c)

    Has : List Chunk → List Chunk → Type 0
    Has bs ds = HasChunks place (u ++ placed_from bs at (chunk_bytes c ++ chunks_bytes cs)) ds

    split : (bs : List Chunk) → placed_from bs at (chunk_bytes c ++ chunks_bytes cs)
        ≡ placed_from bs at (chunk_bytes c) ++ placed_from bs (at + chunk_len c) (chunks_bytes cs)
    split bs = placed-append bs at (chunk_bytes c) (chunks_bytes cs)
        ∙ ap (λ k. placed_from bs at (chunk_bytes c) ++ placed_from bs (at + k) (chunks_bytes cs)) n

    by : ((place at' : ℕ) (u : List Placed) → place + length u ≡ at' → AreOwn u → at' ≡ at + chunk_len c →
        HasChunks place (u ++ placed_from (bounced_of cs) at' (chunks_bytes cs)) (bounced_of cs)) →
        (b : Bool) → c.bounced ≡ b → Has (cond b (c ∷ bounced_of cs) (bounced_of cs))
        (cond b (c ∷ bounced_of cs) (bounced_of cs))
    by more false off =
        let bs : List Chunk = bounced_of cs in
        let v : List Placed = placed_from bs at (chunk_bytes c) in
        let w : List Placed = placed_from bs (at + chunk_len c) (chunks_bytes cs) in
        let v-own : AreOwn v = own-placed cs at (chunk_bytes c) (at + chunk_len c) h.1 (omega (arith, n)) in
        let long : place + length (u ++ v) ≡ at + chunk_len c =
        omega (arith, e, n, length-append u v, placed-length bs at (chunk_bytes c)) in
        let rest = more place (at + chunk_len c) (u ++ v) long
        (all_append (λ p. is_bounced p ≡ false) u v own v-own) refl in
        subst (λ ps. HasChunks place ps bs) (append_assoc u v w ∙ ap (λ ps. u ++ ps) (sym (split bs))) rest
    by more true on =
        let bs : List Chunk = bounced_of cs in
        let v : List Placed = placed_from (c ∷ bs) at (chunk_bytes c) in
        let w : List Placed = placed_from bs (at + chunk_len c) (chunks_bytes cs) in
        let is : v ≡ positions_of c =
        ap (λ k. placed_from (c ∷ bs) k (chunk_bytes c)) (sym h.0) ∙ chunk-places c bs all.0 on in
        let long : length v ≡ chunk_len c = placed-length (c ∷ bs) at (chunk_bytes c) ∙ n in
        let here : place + length u ≡ c.at = e ∙ sym h.0 in
        let same : placed_from (c ∷ bs) at (chunk_bytes c ++ chunks_bytes cs) ≡ v ++ w =
        split (c ∷ bs) ∙ ap (λ ps. v ++ ps)
        (past-chunk c bs (at + chunk_len c) (chunks_bytes cs) (omega (arith, h.0))) in
        let end : drop (c.at + chunk_len c - place) (u ++ (v ++ w)) ≡ w =
        drop-past u (v ++ w) (c.at + chunk_len c - place) (chunk_len c) (omega (arith, here))
        ∙ drop-past v w (chunk_len c) 0 (omega (arith, long)) in
        let next : at + chunk_len c ≡ c.at + chunk_len c = ap (λ k. k + chunk_len c) (sym h.0) in
        let rest : HasChunks (c.at + chunk_len c) w bs =
        subst (λ k. HasChunks k w bs) next
        (more (at + chunk_len c) (at + chunk_len c) [] (omega arith) tt refl) in
        subst (λ ps. HasChunks place (u ++ ps) (c ∷ bs)) (sym same)
        (one-chunk place u v w c here own long is, subst (λ ps. HasChunks (c.at + chunk_len c) ps bs) (sym end) rest)
