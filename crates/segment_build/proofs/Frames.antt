-- The number of pieces is the same in each page.
use Rattle.std.proofs.Common.{◌≡◌, ℕ, zero, suc, ◌+◌, ◌-◌, ◌*◌, ◌/◌, ◌%◌, ◌<◌, ◌≤◌, ◌^◌, min, List, [], ◌∷◌, length}
use Rattle.std.proofs.Common.{drop, true, false, cond, eqb, refl, ap, sym, ◌∙◌, arith, mul_comm, length-append, ◌⊎◌}
use Rattle.std.proofs.Common.{inl, inr, ◌≢◌}
use Rattle.std.specs.List.{AllByRecursion}
use Rattle.std.proofs.Math.Nat.{add-mul-mod_self_left, mul_assoc}
use Rattle.std.proofs.lemmas.Bool.{cases_lt}
use Rattle.std.proofs.lemmas.Bool.Decides.{nat_tests}
use Rattle.std.proofs.lemmas.Nat.{pow-add, pow_pos, div-add-mod', mod_below}
use Rattle.busdma_machine.specs.declared.machine.address.Pa.{Pa}
use Rattle.busdma_machine.specs.declared.machine.chunk.Chunk.{Chunk}
use Rattle.busdma_machine.specs.declared.tags.tag.TagLimits.{TagLimits}
use Rattle.busdma_machine.specs.Runs.{run_of}
use Rattle.busdma_machine.specs.Tags.Tag.{IsEffective}
use Rattle.busdma_machine.specs.Tags.TagFlags.{keep_pg_offset}
use Rattle.busdma_rules.specs.Segments.Building.{IsPlaceable, placed_pieces}
use Rattle.busdma_rules.specs.Segments.Pieces.{chunk_pieces, piece_len, pieces_of}
use Rattle.busdma_rules.specs.Segments.Trace.{IsPage, bus_addresses, chunk_len, first_page, in_page, page_offset}
use Rattle.busdma_rules.specs.Segments.Trace.{chunks_in_pages}
use Rattle.busdma_rules.proofs.Segments.Places.{pieces_step, piece_some, piece_fits}

-- a boundary divides the frame's size or is a multiple of it
IsBoundary : ℕ → Type 0
IsBoundary b = ((d : ℕ) × (4096 ≡ b * d)) ⊎ ((d : ℕ) × (0 < d) × (b ≡ 4096 * d))

power_is : (b k : ℕ) → b ≡ 2 ^ k → IsBoundary b
unfolding IsBoundary
power_is b k e =
    elim (cases_lt 12 k) [
      | inl l ↦ (let whole : 12 + (k - 12) ≡ k = omega arith in
          inr (2 ^ (k - 12), pow_pos (k - 12), e ∙ (ap (λ (n : ℕ). 2 ^ n) (sym whole) ∙ pow-add 2 12 (k - 12))))
      | inr g ↦ (let whole : k + (12 - k) ≡ 12 = omega arith in
          inl (
            2 ^ (12 - k),
            ap (λ (n : ℕ). 2 ^ n) (sym whole)
                ∙ (pow-add 2 k (12 - k) ∙ ap (λ (n : ℕ). n * 2 ^ (12 - k)) (sym e)),
          ))
    ]

is_boundary : (t : TagLimits) → IsEffective t → eqb t.boundary 0 ≡ false → IsBoundary t.boundary
is_boundary t e h = let p = e.boundary_power (not_zero t.boundary h) in power_is t.boundary p.0 p.1
  where
    not_zero : (n : ℕ) → eqb n 0 ≡ false → n ≢ 0
    not_zero n h e = grind (arith, nat_tests)

room_left : (b d x f q left : ℕ) → 0 < d → b ≡ 4096 * d → x ≡ 4096 * f + q → q + left ≤ 4096 → left ≤ b - x % b
room_left b d x f q left pos e is l =
    let whole = div-add-mod' x b in
    let c = mul_comm (x / b) b in
    let m = ap (λ (n : ℕ). n * (x / b)) e in
    let o = mul_assoc 4096 d (x / b) in
    let r = mod_below x b (omega arith) in
    omega arith

-- a piece of a page has the same length in the page at 4096 * f as in the page at 0
page_piece : (t : TagLimits) (f q left : ℕ) → IsEffective t → q + left ≤ 4096 →
    piece_len t (4096 * f + q) left ≡ piece_len t q left
unfolding IsBoundary
page_piece t f q left eff l =
    (elim (eqb t.boundary 0) as (λ v. eqb t.boundary 0 ≡ v →
    cond v (min left t.maxsegsz) (min (min left t.maxsegsz) (t.boundary - (4096 * f + q) % t.boundary))
    ≡ cond v (min left t.maxsegsz) (min (min left t.maxsegsz) (t.boundary - q % t.boundary))) [
      | true ↦ λ v. refl
      | false ↦ λ v. by_case (is_boundary t eff v)
    ]) refl
  where
    divides : (b d f q : ℕ) → 4096 ≡ b * d → 4096 * f + q ≡ q + b * (d * f)
    divides b d f q e = let m = ap (λ (n : ℕ). n * f) e in let o = mul_assoc b d f in omega arith

    by_case : IsBoundary t.boundary → min (min left t.maxsegsz) (t.boundary - (4096 * f + q) % t.boundary)
        ≡ min (min left t.maxsegsz) (t.boundary - q % t.boundary)
    by_case (inl s) = rw (divides t.boundary s.0 f q s.1, add-mul-mod_self_left q t.boundary (s.0 * f)) refl
    by_case (inr s) =
        let x = room_left t.boundary s.0 (4096 * f + q) f q left s.1 s.2 refl l in
        let y = room_left t.boundary s.0 q 0 q left s.1 s.2 (omega arith) l in
        omega arith

-- a run in a page has equally many pieces in each page
as_many_pieces : (n : ℕ) (t : TagLimits) (f q left : ℕ) → IsEffective t → q + left ≤ 4096 → left ≤ n →
    length (pieces_of t (run_of (4096 * f + q) left)) ≡ length (pieces_of t (run_of q left))
as_many_pieces n t f q zero eff l i = refl
as_many_pieces zero t f q (suc left) eff l i = absurd (omega arith)
as_many_pieces (suc n) t f q (suc left) eff l i =
    let m = eff.maxsegsz in
    let k = piece_len t q (suc left) in
    let some = piece_some t q (suc left) m (omega arith) in
    let fits = piece_fits t q (suc left) in
    let here = ap length (pieces_step t q (suc left) k m (omega arith) refl) in
    let there =
    ap length (pieces_step t (4096 * f + q) (suc left) k m (omega arith) (sym (page_piece t f q (suc left) eff l)))
    in
    let next = as_many_pieces n t f (q + k) (suc left - k) eff (omega arith) (omega arith) in
    let e : 4096 * f + q + k ≡ 4096 * f + (q + k) = omega arith in
    let same = ap (λ x. length (pieces_of t (run_of x (suc left - k)))) e in
    omega (arith, here, there, next, same)

-- ---- chunks

-- a bounced chunk in some page, and in the page at 0
in_any_page : (t : TagLimits) (c : Chunk) (page other : Pa) → IsEffective t → IsPlaceable t c → c.bounced ≡ true →
    IsPage page → IsPage other → length (pieces_of t (bus_addresses (in_page (keep_pg_offset t.flags) page c)))
    ≡ length (pieces_of t (bus_addresses (in_page (keep_pg_offset t.flags) other c)))
in_any_page t c page other eff sound b p o =
    let q = page_offset (keep_pg_offset t.flags) c.first.pa.0 in
    let len = chunk_len c in
    let fits = sound.fits b in
    let e : page.0 + q ≡ 4096 * (page.0 / 4096) + q = omega arith in
    let f : other.0 + q ≡ 4096 * (other.0 / 4096) + q = omega arith in
    let one = as_many_pieces len t (page.0 / 4096) q len eff fits (omega arith) in
    let two = as_many_pieces len t (other.0 / 4096) q len eff fits (omega arith) in
    ap (λ x. length (pieces_of t (run_of x len))) e
    ∙ (one ∙ (sym two ∙ ap (λ x. length (pieces_of t (run_of x len))) (sym f)))

page_first : (pages : List Pa) → AllByRecursion IsPage pages → IsPage (first_page pages)
page_first [] h = (omega arith, omega arith)
page_first (p ∷ ps) h = h.0

pages_later : (pages : List Pa) → AllByRecursion IsPage pages → AllByRecursion IsPage (drop 1 pages)
pages_later [] h = tt
pages_later (p ∷ ps) h = h.1

-- chunks have equally many pieces in any pages
pub as_many : (t : TagLimits) (cs : List Chunk) (xs ys : List Pa) → IsEffective t → AllByRecursion (IsPlaceable t) cs →
    AllByRecursion IsPage xs → AllByRecursion IsPage ys →
    length (placed_pieces t cs xs) ≡ length (placed_pieces t cs ys)
as_many t [] xs ys eff h p q = refl
as_many t (c ∷ cs) xs ys eff h p q =
    let keep = keep_pg_offset t.flags in
    (elim c.bounced as (λ b. c.bounced ≡ b →
    length
    (chunk_pieces t (cond b (in_page keep (first_page xs) c ∷ chunks_in_pages keep cs (drop 1 xs))
    (c ∷ chunks_in_pages keep cs xs)))
    ≡ length
    (chunk_pieces t
    (cond b (in_page keep (first_page ys) c ∷ chunks_in_pages keep cs (drop 1 ys)) (c ∷ chunks_in_pages keep cs ys)))) [
      | true ↦
          λ w. omega (
            arith,
            in_any_page t c (first_page xs) (first_page ys) eff h.0 w (page_first xs p)
                (page_first ys q),
            as_many t cs (drop 1 xs) (drop 1 ys) eff h.1 (pages_later xs p) (pages_later ys q),
            length-append (pieces_of t (bus_addresses (in_page keep (first_page xs) c)))
                (chunk_pieces t (chunks_in_pages keep cs (drop 1 xs))),
            length-append (pieces_of t (bus_addresses (in_page keep (first_page ys) c)))
                (chunk_pieces t (chunks_in_pages keep cs (drop 1 ys))),
          )
      | false ↦ λ w. omega (
        arith,
        as_many t cs xs ys eff h.1 p q,
        length-append (pieces_of t (bus_addresses c)) (chunk_pieces t (chunks_in_pages keep cs xs)),
        length-append (pieces_of t (bus_addresses c)) (chunk_pieces t (chunks_in_pages keep cs ys)),
      )
    ]) refl
