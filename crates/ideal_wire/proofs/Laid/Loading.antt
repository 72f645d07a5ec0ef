-- The chunks of a load in their pages: one page for each that is bounced, and the trace of all.
use Rattle.std.proofs.Common.{◌≡◌, ℕ, suc, ◌+◌, ◌-◌, ◌%◌, ◌<◌, ◌≤◌, Bool, true, false, cond, List, []}
use Rattle.std.proofs.Common.{◌∷◌, ◌++◌, length, drop, Option, Some, None, is_some, refl, ap, sym, ◌∙◌, subst, arith}
use Rattle.std.proofs.Common.{nat_le, nat_lt}
use Rattle.std.proofs.lemmas.Bool.{le-leb, lt-ltb, lt-leb, le-ltb}
use Rattle.std.proofs.lemmas.List.Sums.{sum_by-cons, sum_by-append}
use Rattle.std.specs.Prelude.{sum_by}
use Rattle.std.specs.List.{AllByRecursion, AllZip, flat_map}
use Rattle.busdma_machine.specs.declared.machine.address.Pa.{Pa}
use Rattle.busdma_machine.specs.declared.machine.chunk.Chunk.{Chunk}
use Rattle.busdma_machine.specs.Each.{EachAfter}
use Rattle.busdma_machine.specs.Machine.Wire.{Placed, buses}
use Rattle.busdma_machine.specs.Runs.{addresses, run_of}
use Rattle.busdma_rules.specs.Segments.Chunks.{bounced_of, need_of}
use Rattle.busdma_rules.specs.Segments.Trace.{IsPage, IsPlaced, bus_addresses, bus_extent, bus_from, bus_trace}
use Rattle.busdma_rules.specs.Segments.Trace.{chunk_extents}
use Rattle.busdma_rules.specs.Segments.Trace.{chunk_len, first_page, in_page, page_offset, chunks_in_pages}
use Rattle.busdma_rules.proofs.Segments.Counting.{addresses_length}
use Rattle.lane_agreement.specs.After as after
use Rattle.ideal_wire.specs.Laid.{IsInPage}
use Rattle.ideal_wire.specs.Traces.{bus_at, placed_from}

-- the addresses of the bytes of chunks
abbrev pub chunk_bytes : Chunk → List ℕ
chunk_bytes c = addresses (chunk_extents c)

abbrev pub chunks_bytes : List Chunk → List ℕ
chunks_bytes cs = flat_map chunk_bytes cs

-- ---- each bounced chunk lies in its page

in-frame : (keep : Bool) (c : Chunk) (page : Pa) → IsPage page → IsPlaced (in_page keep page c) →
    IsInPage (in_page keep page c) page.0
in-frame keep c page p is =
    let off : ℕ = page_offset keep c.first.pa.0 in
    let small : off < 4096 = by keep in
    let whole : page.0 % 4096 ≡ 0 = p.0 in
    record { paged = refl; bus = is.inside; frame = omega (arith, small, whole) }
  where
    by : (b : Bool) → page_offset b c.first.pa.0 < 4096
    by true = omega arith
    by false = omega arith

pub zipped : (keep : Bool) (cs : List Chunk) (pages : List Pa) →
    AllByRecursion IsPlaced (chunks_in_pages keep cs pages) →
    AllByRecursion IsPage pages → length pages ≡ need_of cs →
    AllZip IsInPage (bounced_of (chunks_in_pages keep cs pages)) (after.addresses_of_pages pages)
zipped keep [] [] all are few = tt
zipped keep [] (p ∷ ps) all are few = absurd (omega (arith, few))
zipped keep (c ∷ cs) pages all are few = by (λ ps. zipped keep cs ps) c.bounced refl pages all are few
  where
    abbreviated : Bool → List Pa → List Chunk
    abbreviated b ps =
        cond b (in_page keep (first_page ps) c ∷ chunks_in_pages keep cs (drop 1 ps)) (c ∷ chunks_in_pages keep cs ps)

    Rest : Type 0
    Rest = (ps : List Pa) → AllByRecursion IsPlaced (chunks_in_pages keep cs ps) → AllByRecursion IsPage ps →
        length ps ≡ need_of cs → AllZip IsInPage (bounced_of (chunks_in_pages keep cs ps)) (after.addresses_of_pages ps)

    by : Rest → (b : Bool) → c.bounced ≡ b → (ps : List Pa) → AllByRecursion IsPlaced (abbreviated b ps) →
        AllByRecursion IsPage ps → length ps ≡ length (cond b (c ∷ bounced_of cs) (bounced_of cs)) →
        AllZip IsInPage (bounced_of (abbreviated b ps)) (after.addresses_of_pages ps)
    by more true e [] all are few = absurd (omega (arith, few))
    by more true e (p ∷ ps) all are few =
        let here : IsInPage (in_page keep p c) p.0 = in-frame keep c p are.0 all.0 in
        subst (λ b. AllZip IsInPage (cond b (in_page keep p c ∷ bounced_of (chunks_in_pages keep cs ps))
        (bounced_of (chunks_in_pages keep cs ps))) (p.0 ∷ after.addresses_of_pages ps)) (sym e)
        (here, more ps all.1 are.1 (omega (arith, few)))
    by more false e ps all are few =
        subst (λ b. AllZip IsInPage
        (cond b (c ∷ bounced_of (chunks_in_pages keep cs ps)) (bounced_of (chunks_in_pages keep cs ps)))
        (after.addresses_of_pages ps)) (sym e) (more ps all.1 are few)

-- ---- chunks that follow one another

-- each chunk follows the bytes of the chunks before it
abbrev pub Follow : ℕ → List Chunk → Type 0
Follow at [] = Unit {0}
Follow at (c ∷ cs) = (c.at ≡ at) × Follow (at + chunk_len c) cs

pub follow-of : (before cs : List Chunk) (at : ℕ) → at ≡ sum_by chunk_len before →
    EachAfter (λ bs c. c.at ≡ sum_by chunk_len bs) before cs → Follow at cs
follow-of before [] at e h = tt
follow-of before (c ∷ cs) at e h =
    let one = sum_by-cons chunk_len c [] in
    let both = sum_by-append chunk_len before (c ∷ []) in
    (h.0 ∙ sym e, follow-of (before ++ c ∷ []) cs (at + chunk_len c) (omega (arith, e, one, both)) h.1)

pub placed-follow : (keep : Bool) (cs : List Chunk) (pages : List Pa) (at : ℕ) → Follow at cs →
    Follow at (chunks_in_pages keep cs pages)
placed-follow keep [] pages at h = tt
placed-follow keep (c ∷ cs) pages at h =
    by (placed-follow keep cs (drop 1 pages) (at + chunk_len c) h.1)
    (placed-follow keep cs pages (at + chunk_len c) h.1)
    c.bounced
  where
    by : Follow (at + chunk_len c) (chunks_in_pages keep cs (drop 1 pages)) →
        Follow (at + chunk_len c) (chunks_in_pages keep cs pages) →
        (b : Bool) →
        Follow at (cond b (in_page keep (first_page pages) c ∷ chunks_in_pages keep cs (drop 1 pages))
        (c ∷ chunks_in_pages keep cs pages))
    by one all true = (h.0, one)
    by one all false = (h.0, all)

pub placed-bytes : (keep : Bool) (cs : List Chunk) (pages : List Pa) → chunks_bytes (chunks_in_pages keep cs pages) ≡
    chunks_bytes cs
placed-bytes keep [] pages = refl
placed-bytes keep (c ∷ cs) pages = by (placed-bytes keep cs (drop 1 pages)) (placed-bytes keep cs pages) c.bounced
  where
    by : chunks_bytes (chunks_in_pages keep cs (drop 1 pages)) ≡ chunks_bytes cs →
        chunks_bytes (chunks_in_pages keep cs pages) ≡ chunks_bytes cs → (b : Bool) →
        chunks_bytes (cond b (in_page keep (first_page pages) c ∷ chunks_in_pages keep cs (drop 1 pages))
        (c ∷ chunks_in_pages keep cs pages)) ≡ chunk_bytes c ++ chunks_bytes cs
    by one all true = ap (λ xs. chunk_bytes c ++ xs) one
    by one all false = ap (λ xs. chunk_bytes c ++ xs) all

-- ---- their trace

pub placed-append : (cs : List Chunk) (at : ℕ) (xs ys : List ℕ) →
    placed_from cs at (xs ++ ys) ≡ placed_from cs at xs ++ placed_from cs (at + length xs) ys
placed-append cs at [] ys = let e : at ≡ at + 0 = omega arith in ap (λ k. placed_from cs k ys) e
placed-append cs at (x ∷ xs) ys =
    let e : at + 1 + length xs ≡ at + suc (length xs) = omega arith in
    ap (λ ps. record { pa = x; bus = bus_at cs at x } ∷ ps) (placed-append cs (at + 1) xs ys
    ∙ ap (λ k. placed_from cs (at + 1) xs ++ placed_from cs k ys) e)

buses-append : (xs ys : List Placed) → buses (xs ++ ys) ≡ buses xs ++ buses ys
buses-append [] ys = refl
buses-append (x ∷ xs) ys = ap (λ zs. x.bus ∷ zs) (buses-append xs ys)

-- no chunk after a place has a byte before it
pub before-all : (cs : List Chunk) (at k pa : ℕ) → Follow at cs → k < at → bus_at (bounced_of cs) k pa ≡ pa
before-all [] at k pa h lt = refl
before-all (c ∷ cs) at k pa h lt = by (before-all cs (at + chunk_len c) k pa h.1 (omega (arith, lt))) c.bounced
  where
    off : nat_le c.at k ≡ false
    off = lt-leb c.at k (omega (arith, h.0, lt))

    by : bus_at (bounced_of cs) k pa ≡ pa → (b : Bool) → bus_at (cond b (c ∷ bounced_of cs) (bounced_of cs)) k pa ≡ pa
    by rest true = rw off rest
    by rest false = rest

own-buses : (cs : List Chunk) (at : ℕ) (pas : List ℕ) (end : ℕ) → Follow end cs → at + length pas ≤ end →
    buses (placed_from (bounced_of cs) at pas) ≡ pas
own-buses cs at [] end h le = refl
own-buses cs at (pa ∷ pas) end h le =
    let p = before-all cs end at pa h (omega (arith, le)) in
    let q = own-buses cs (at + 1) pas end h (omega (arith, le)) in
    λ i. p i ∷ q i

-- the bytes of a chunk in its page
page-buses : (c : Chunk) (cs : List Chunk) (pas : List ℕ) (k : ℕ) → k + length pas ≤ chunk_len c →
    buses (placed_from (c ∷ cs) (c.at + k) pas) ≡ run_of ((bus_extent c).pa.0 + k) (length pas)
page-buses c cs [] k le = refl
page-buses c cs (pa ∷ pas) k le =
    let low : nat_le c.at (c.at + k) ≡ true = le-leb c.at (c.at + k) (omega arith) in
    let high : nat_lt (c.at + k) (c.at + chunk_len c) ≡ true =
    lt-ltb (c.at + k) (c.at + chunk_len c) (omega (arith, le)) in
    let place : c.at + k - c.at ≡ k = omega arith in
    let here : bus_at (c ∷ cs) (c.at + k) pa ≡ (bus_extent c).pa.0 + k = rw (low, high, place) refl in
    let next : c.at + k + 1 ≡ c.at + (k + 1) = omega arith in
    let bus : (bus_extent c).pa.0 + (k + 1) ≡ (bus_extent c).pa.0 + k + 1 = omega arith in
    let rest : buses (placed_from (c ∷ cs) (c.at + k + 1) pas) ≡ run_of ((bus_extent c).pa.0 + k + 1) (length pas) =
    ap (λ j. buses (placed_from (c ∷ cs) j pas)) next ∙ page-buses c cs pas (k + 1) (omega (arith, le))
    ∙ ap (λ j. run_of j (length pas)) bus in
    λ i. here i ∷ rest i

-- the bytes after a chunk are not in it
pub past-chunk : (c : Chunk) (cs : List Chunk) (at : ℕ) (pas : List ℕ) → c.at + chunk_len c ≤ at →
    placed_from (c ∷ cs) at pas ≡ placed_from cs at pas
past-chunk c cs at [] le = refl
past-chunk c cs at (pa ∷ pas) le =
    let off : nat_lt at (c.at + chunk_len c) ≡ false = le-ltb at (c.at + chunk_len c) le in
    let here : bus_at (c ∷ cs) at pa ≡ bus_at cs at pa = by (nat_le c.at at) off in
    let rest = past-chunk c cs (at + 1) pas (omega (arith, le)) in
    λ i. record { pa = pa; bus = here i } ∷ rest i
  where
    by : (b : Bool) → nat_lt at (c.at + chunk_len c) ≡ false →
        cond (Rattle.std.specs.Prelude.◌&&◌ b (nat_lt at (c.at + chunk_len c)))
        ((bus_extent c).pa.0 + (at - c.at)) (bus_at cs at pa) ≡ bus_at cs at pa
    by true off = rw off refl
    by false off = refl

-- the trace of chunks in their places
pub traced : (cs : List Chunk) (at : ℕ) → Follow at cs → AllByRecursion IsPlaced cs →
    bus_trace cs ≡ buses (placed_from (bounced_of cs) at (chunks_bytes cs))
traced [] at h all = refl
traced (c ∷ cs) at h all =
    by (traced cs (at + chunk_len c) h.1 all.1
    ∙ ap (λ k. buses (placed_from (bounced_of cs) (at + k) (chunks_bytes cs)))
    (sym (addresses_length (chunk_extents c)))) c.bounced refl
  where
    n : length (chunk_bytes c) ≡ chunk_len c
    n = addresses_length (chunk_extents c)

    split : (bs : List Chunk) → buses (placed_from bs at (chunk_bytes c ++ chunks_bytes cs))
        ≡ buses (placed_from bs at (chunk_bytes c))
        ++ buses (placed_from bs (at + length (chunk_bytes c)) (chunks_bytes cs))
    split bs =
        ap buses (placed-append bs at (chunk_bytes c) (chunks_bytes cs))
        ∙ buses-append (placed_from bs at (chunk_bytes c))
        (placed_from bs (at + length (chunk_bytes c)) (chunks_bytes cs))

    own : (p : Option Pa) → c.page ≡ p → is_some p ≡ false → bus_from p c ≡ chunk_bytes c
    own None e none = refl
    own (Some p) e none = absurd (cc)

    paged : (p : Option Pa) → is_some p ≡ true →
        bus_from p c ≡ run_of (Rattle.std.specs.Prelude.unwrap_or p c.first.pa).0 (chunk_len c)
    paged None some = absurd (cc)
    paged (Some p) some = refl

    by : bus_trace cs ≡ buses (placed_from (bounced_of cs) (at + length (chunk_bytes c)) (chunks_bytes cs)) →
        (b : Bool) → c.bounced ≡ b →
        bus_addresses c ++ bus_trace cs
        ≡ buses (placed_from (cond b (c ∷ bounced_of cs) (bounced_of cs)) at (chunk_bytes c ++ chunks_bytes cs))
    by rest false e =
        let first : bus_addresses c ≡ buses (placed_from (bounced_of cs) at (chunk_bytes c)) =
        own c.page refl (all.0.paged ∙ e)
        ∙ sym (own-buses cs at (chunk_bytes c) (at + chunk_len c) h.1 (omega (arith, n))) in
        (λ i. first i ++ rest i) ∙ sym (split (bounced_of cs))
    by rest true e =
        let place : at ≡ c.at + 0 = omega (arith, h.0) in
        let bus : (bus_extent c).pa.0 + 0 ≡ (bus_extent c).pa.0 = omega arith in
        let first : bus_addresses c ≡ buses (placed_from (c ∷ bounced_of cs) at (chunk_bytes c)) =
        paged c.page (all.0.paged ∙ e)
        ∙ sym (ap (λ k. buses (placed_from (c ∷ bounced_of cs) k (chunk_bytes c))) place
        ∙ page-buses c (bounced_of cs) (chunk_bytes c) 0 (omega (arith, n))
        ∙ (λ i. run_of (bus i) (n i))) in
        let second : bus_trace cs
        ≡ buses (placed_from (c ∷ bounced_of cs) (at + length (chunk_bytes c)) (chunks_bytes cs)) = rest
        ∙ ap buses (sym (past-chunk c (bounced_of cs) (at + length (chunk_bytes c)) (chunks_bytes cs)
        (omega (arith, n, h.0)))) in
        (λ i. first i ++ second i) ∙ sym (split (c ∷ bounced_of cs))
