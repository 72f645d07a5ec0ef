-- The segments of a load obey its tag.
use Rattle.std.proofs.Common.{◌≡◌, ℕ, zero, suc, ◌+◌, ◌-◌, ◌*◌, ◌/◌, ◌%◌, ◌<◌, ◌≤◌, List, [], ◌∷◌, ◌++◌, length, take}
use Rattle.std.proofs.Common.{drop, get_or, Bool, true, false, cond, eqb, ltb, leb, ◌&&◌, ◌||◌, not, refl, ap, sym, ◌∙◌}
use Rattle.std.proofs.Common.{subst, arith, mul_comm}
use Rattle.std.specs.Prelude.{Option, Some, None, is_some}
use Rattle.std.specs.List.{AllByRecursion, Contains, flat_map}
use Rattle.std.proofs.Math.Nat.{mul_assoc}
use Rattle.busdma_machine.specs.declared.machine.address.Pa.{Pa}
use Rattle.busdma_machine.specs.declared.machine.address.Segment.{Segment}
use Rattle.busdma_machine.specs.declared.machine.chunk.Chunk.{Chunk}
use Rattle.busdma_machine.specs.declared.machine.chunk.Entry.{Entry}
use Rattle.busdma_machine.specs.declared.tags.tag.TagLimits.{TagLimits}
use Rattle.busdma_machine.specs.Each.{EachAfter}
use Rattle.busdma_machine.specs.Machine.Entry.{IsEntry, entry_addresses}
use Rattle.busdma_machine.specs.Runs.{byte_count, run_of}
use Rattle.busdma_machine.specs.Tags.Tag.{IsEffective, could_bounce, excluded, needs_bounce}
use Rattle.busdma_machine.specs.Tags.TagFlags.{keep_pg_offset}
use Rattle.busdma_rules.specs.Segments.Building.{IsPlaceable, placed_pieces, tag_placed}
use Rattle.busdma_rules.specs.Segments.Built.{IsFew}
use Rattle.busdma_rules.specs.Segments.Chunks.{chunk_limit, chunk_of, chunks_from, chunks_of, chunks_of_bytes}
use Rattle.busdma_rules.specs.Segments.Chunks.{chunks_within}
use Rattle.busdma_rules.specs.Segments.Obeying.{BeginsWith, HasAlignedSizes, IsObeying, IsReachable, Obeys}
use Rattle.busdma_rules.specs.Segments.Obeying.{segments_bytes}
use Rattle.busdma_rules.specs.Segments.Pieces.{chunk_pieces, pieces_of}
use Rattle.busdma_rules.specs.Segments.Segmentation.{segment_bytes}
use Rattle.busdma_rules.specs.Segments.Trace.{IsPlaced, bus_addresses, bus_extent, bus_trace, chunk_len, first_page}
use Rattle.busdma_rules.specs.Segments.Trace.{in_page, page_offset, chunks_in_pages}
use Rattle.busdma_rules.proofs.Segments.Bytes.{all_rise, bus_is_run, pieces_bytes, segmentation_bytes}
use Rattle.busdma_rules.proofs.Segments.ChunkLaws.{limit_reaches}
use Rattle.busdma_rules.proofs.Segments.Counting.{chunk_bytes}
use Rattle.busdma_rules.proofs.Segments.Covering.{chunks_at}
use Rattle.busdma_rules.proofs.Segments.Positions.{all_at, all_middle, chunk_at, each_at, each_from, placed_at}
use Rattle.busdma_rules.proofs.Segments.Positions.{segment_at}
use Rattle.busdma_rules.proofs.Segments.PartByPart.{own_run}
use Rattle.busdma_rules.proofs.Segments.Sound.{all_append, chunks_sound, divides_frame}
use Rattle.busdma_rules.proofs.Segments.Numbers.{above, is_above, is_less, is_most, is_not_less, less, most, not_less}
use Rattle.busdma_rules.proofs.Segments.Numbers.{zero_is}
use Rattle.busdma_rules.proofs.Segments.OneWindow.{IsGood, all_first, all_second, pieces_good, segments_good}
use Rattle.busdma_rules.proofs.Segments.Aligned.{IsAligned, multiple, run_aligned, segments_aligned}

-- ---- the device reaches each byte

same_less : (l x y : ℕ) → l % 4096 ≡ 4095 → x / 4096 ≡ y / 4096 → ltb l x ≡ ltb l y
same_less l x y e f =
    (elim (ltb l x) as (λ v. ltb l x ≡ v → ltb l x ≡ ltb l y) [
      | true ↦ λ w. (let lt = less l x w in w ∙ sym (is_less l y (omega arith)))
      | false ↦ λ w. (let ge = not_less l x w in w ∙ sym (is_not_less l y (omega arith)))
    ]) refl

same_most : (x y h : ℕ) → h % 4096 ≡ 4095 → x / 4096 ≡ y / 4096 → leb x h ≡ leb y h
same_most x y h e f =
    (elim (leb x h) as (λ v. leb x h ≡ v → leb x h ≡ leb y h) [
      | true ↦ λ w. (let le = most x h w in w ∙ sym (is_most y h (omega arith)))
      | false ↦ λ w. (let gt = above x h w in w ∙ sym (is_above y h (omega arith)))
    ]) refl

-- the bytes of one frame are all excluded, or none of them is
same_frame : (t : TagLimits) (x y : ℕ) → IsEffective t → x / 4096 ≡ y / 4096 → excluded t x ≡ excluded t y
same_frame t x y eff e = rw (same_less t.lowaddr.0 x y eff.lowaddr e, same_most x y t.highaddr.0 eff.highaddr e) refl

-- a chunk is bounced exactly if its first address needs a bounce page, and begins in the machine's memory
record IsJudged (t : TagLimits) (m : ℕ) (c : Chunk) : Type 0 where
  bounced_is : c.bounced ≡ needs_bounce t m c.first.pa.0
  below : c.first.pa.0 < 4096 * m

abbrev IsBelow : ℕ → ℕ → Type 0
IsBelow m a = a < 4096 * m

below_drop : (m k : ℕ) (bs : List ℕ) → AllByRecursion (IsBelow m) bs → AllByRecursion (IsBelow m) (drop k bs)
below_drop m zero bs h = h
below_drop m (suc k) [] h = tt
below_drop m (suc k) (b ∷ bs) h = below_drop m k bs h.1

within_judged : (n : ℕ) (t : TagLimits) (m : ℕ) (r : Bool) (at : ℕ) (bs : List ℕ) → IsEffective t →
    AllByRecursion (IsBelow m) bs → AllByRecursion (IsJudged t m) (chunks_within n t m r at bs)
within_judged zero t m r at bs eff h = tt
within_judged (suc n) t m r at [] eff h = tt
within_judged (suc n) t m r at (a ∷ bs) eff h =
    let k = chunk_limit t m r a in
    let reaches = limit_reaches t m r a eff in
    let is : k ≡ suc (k - 1) = omega arith in (
      subst (λ (z : ℕ). IsJudged t m (chunk_of t m at (take z (a ∷ bs)))) (sym is)
          (record { bounced_is = refl; below = h.0 }),
      within_judged n t m r (at + k) (drop k (a ∷ bs)) eff (below_drop m k (a ∷ bs) h),
    )

from_judged : (t : TagLimits) (m at : ℕ) (es : List Entry) → IsEffective t →
    AllByRecursion (IsBelow m) (flat_map entry_addresses es) → AllByRecursion (IsJudged t m) (chunks_from t m at es)
from_judged t m at [] eff h = tt
from_judged t m at (e ∷ es) eff h =
    all_append (IsJudged t m) (chunks_of_bytes t m e.rounded at (entry_addresses e))
    (chunks_from t m (at + byte_count e.parts) es)
    (within_judged (length (entry_addresses e)) t m e.rounded at (entry_addresses e) eff
    (all_first (IsBelow m) (entry_addresses e) (flat_map entry_addresses es) h))
    (from_judged t m (at + byte_count e.parts) es eff
    (all_second (IsBelow m) (entry_addresses e) (flat_map entry_addresses es) h))

neither : (c e m : Bool) → (c && (e || not m)) ≡ false → c ≡ true → (e ≡ false) × (m ≡ true)
neither true true m h k = absurd cc
neither true false true h k = (refl, refl)
neither true false false h k = absurd cc
neither false e m h k = absurd cc

neither_bound : (a b : Bool) → (a || b) ≡ false → (a ≡ false) × (b ≡ false)
neither_bound true b h = absurd cc
neither_bound false b h = (refl, h)

-- an address that needs no bounce page is reached and aligned
unbounced : (t : TagLimits) (m a : ℕ) → IsEffective t → a < 4096 * m → needs_bounce t m a ≡ false →
    (excluded t a ≡ false) × (a % t.alignment ≡ 0)
unbounced t m a eff below h =
    (elim (could_bounce t m) as (λ v. could_bounce t m ≡ v → (excluded t a ≡ false) × (a % t.alignment ≡ 0)) [
      | true ↦ λ w. (let n = neither (could_bounce t m) (excluded t a) (eqb (a % t.alignment) 0) h w in
          (n.0, zero_is (a % t.alignment) n.1))
      | false ↦ λ w. (
          let n = neither_bound (ltb t.lowaddr.0 (4096 * m)) (ltb 1 t.alignment) w in
          let high = not_less t.lowaddr.0 (4096 * m) n.0 in
          let one = not_less 1 t.alignment n.1 in
          let low = eff.alignment_low in
          let not_low = is_not_less t.lowaddr.0 a (omega arith) in
          (rw not_low refl, omega arith))
    ]) refl

abbrev IsReachedAt : TagLimits → ℕ → Type 0
IsReachedAt t a = excluded t a ≡ false

all_run : (P : ℕ → Type 0) (a n : ℕ) → ((j : ℕ) → j < n → P (a + j)) → AllByRecursion P (run_of a n)
all_run P a zero h = tt
all_run P a (suc n) h =
    let z : a + 0 ≡ a = omega arith in (
      subst P z (h 0 (omega arith)),
      all_run P (a + 1) n
          (λ j l. (let e : a + suc j ≡ a + 1 + j = omega arith in subst P e (h (suc j) (omega arith)))),
    )

-- the bus address at which a chunk begins
record StartsWell (t : TagLimits) (c : Chunk) : Type 0 where
  begins : (keep_pg_offset t.flags ≡ false → (bus_extent c).pa.0 % t.alignment ≡ 0)
      × (keep_pg_offset t.flags ≡ true → (bus_extent c).pa.0 % 4096 ≡ c.first.pa.0 % 4096)
  reached : AllByRecursion (IsReachedAt t) (bus_addresses c)
  is_placed : IsPlaced c

own_well : (t : TagLimits) (m : ℕ) (c : Chunk) → IsEffective t → IsPlaceable t c →
    IsJudged t m c → c.bounced ≡ false → StartsWell t c
own_well t m c eff sound judged b =
    let own = sound.own b in
    let good = unbounced t m c.first.pa.0 eff judged.below (sym judged.bounced_is ∙ b) in
    let run = own_run t c sound b in
    let inside = first_inside c own b in
    record {
      begins = (
        λ _. ap (λ (a : Pa). a.0 % t.alignment) (own_start c own b)
            ∙ good.1,
        λ _. ap (λ (a : Pa). a.0 % 4096) (own_start c own b),
      );
      reached =
          subst (AllByRecursion (IsReachedAt t)) (sym run)
          (all_run (IsReachedAt t) c.first.pa.0 (chunk_len c)
          (λ j l. same_frame t (c.first.pa.0 + j) c.first.pa.0 eff (omega arith) ∙ good.0));
      is_placed = own;
    }
  where
    own_start : (c : Chunk) → IsPlaced c → c.bounced ≡ false → (bus_extent c).pa ≡ c.first.pa
    own_start c own b = rw (no_page c.page (own.paged ∙ b)) refl
      where
        no_page : (o : Option Pa) → is_some o ≡ false → o ≡ None
        no_page None e = refl
        no_page (Some x) e = absurd cc

    first_inside : (c : Chunk) → IsPlaced c → c.bounced ≡ false → c.first.pa.0 % 4096 + chunk_len c ≤ 4096
    first_inside c own b = let inside =
        own.inside.in_frame in omega (arith, ap (λ (a : Pa). a.0 % 4096) (own_start c own b))

paged_well : (t : TagLimits) (c : Chunk) (page : Pa) → IsEffective t → IsPlaceable t c → c.bounced ≡ true →
    IsReachable t page → StartsWell t (in_page (keep_pg_offset t.flags) page c)
paged_well t c page eff sound b p =
    let keep = keep_pg_offset t.flags in
    let q = page_offset keep c.first.pa.0 in
    let fits = sound.fits b in
    let some = sound.some in
    let frame = p.0.0 in
    let small = p.0.1 in
    let low = p.1 in
    let last = eff.lowaddr in
    let d = divides_frame t eff in
    record {
      begins = (
        λ off. (
            let none : q ≡ 0 = rw off refl in
            let e : page.0 + q ≡ page.0 = omega arith in
            let f : page.0 ≡ page.0 / 4096 * 4096 = omega arith in
            ap (λ (x : ℕ). x % t.alignment) e
            ∙ multiple page.0 t.alignment (d.0 * (page.0 / 4096)) (f
            ∙ (mul_comm (page.0 / 4096) 4096
            ∙ (ap (λ (n : ℕ). n * (page.0 / 4096)) d.1 ∙ mul_assoc t.alignment d.0 (page.0 / 4096))))),
        λ on. (let all : q ≡ c.first.pa.0 % 4096 = rw on refl in omega arith),
      );
      reached =
          all_run (IsReachedAt t) (page.0 + q) (chunk_len c)
          (λ j l. (let not_low = is_not_less t.lowaddr.0 (page.0 + q + j) (omega arith) in rw not_low refl));
      is_placed =
          record {
            paged = sym b;
            single = λ e. absurd cc;
            inside = record { some = some; in_frame = omega arith; numbered = omega arith };
          };
    }

page_first : (t : TagLimits) (pages : List Pa) →
    AllByRecursion (IsReachable t) pages → IsReachable t (first_page pages)
page_first t [] h = ((omega arith, omega arith), omega arith)
page_first t (p ∷ ps) h = h.0

pages_later : (t : TagLimits) (pages : List Pa) → AllByRecursion (IsReachable t) pages →
    AllByRecursion (IsReachable t) (drop 1 pages)
pages_later t [] h = tt
pages_later t (p ∷ ps) h = h.1

all_well : (t : TagLimits) (m : ℕ) (cs : List Chunk) (pages : List Pa) → IsEffective t →
    AllByRecursion (IsPlaceable t) cs → AllByRecursion (IsJudged t m) cs → AllByRecursion (IsReachable t) pages →
    AllByRecursion (StartsWell t) (tag_placed t cs pages)
all_well t m [] pages eff s j p = tt
all_well t m (c ∷ cs) pages eff s j p =
    let keep = keep_pg_offset t.flags in
    (elim c.bounced as (λ b. c.bounced ≡ b →
    AllByRecursion (StartsWell t) (cond b
    (in_page keep (first_page pages) c ∷ chunks_in_pages keep cs (drop 1 pages)) (c ∷ chunks_in_pages keep cs pages))) [
      | true ↦ λ w. (
        paged_well t c (first_page pages) eff s.0 w (page_first t pages p),
        all_well t m cs (drop 1 pages) eff s.1 j.1 (pages_later t pages p),
      )
      | false ↦ λ w. (own_well t m c eff s.0 j.0 w, all_well t m cs pages eff s.1 j.1 p)
    ]) refl

-- ---- segments

pub reached_of : (t : TagLimits) (a n : ℕ) → AllByRecursion (IsReachedAt t) (run_of a n) →
    (k : ℕ) → k < n → excluded t (a + k) ≡ false
reached_of t a zero h k l = absurd (omega arith)
reached_of t a (suc n) h zero l = let z : a + 0 ≡ a = omega arith in subst (IsReachedAt t) (sym z) h.0
reached_of t a (suc n) h (suc k) l = let e : a + 1 + k ≡ a + suc k =
    omega arith in subst (IsReachedAt t) e (reached_of t (a + 1) n h.1 k (omega arith))

pub bytes_of_middle : (P : ℕ → Type 0) (xs : List Segment) (y : Segment) (zs : List Segment) →
    AllByRecursion P (segment_bytes (xs ++ y ∷ zs)) → AllByRecursion P (run_of y.addr.0 y.len)
bytes_of_middle P [] y zs h = all_first P (run_of y.addr.0 y.len) (segment_bytes zs) h
bytes_of_middle P (x ∷ xs) y zs h =
    bytes_of_middle P xs y zs (all_second P (run_of x.addr.0 x.len) (segment_bytes (xs ++ y ∷ zs)) h)

all_trace : (t : TagLimits) (cs : List Chunk) → AllByRecursion (StartsWell t) cs →
    AllByRecursion (IsReachedAt t) (bus_trace cs)
all_trace t [] h = tt
all_trace t (c ∷ cs) h = all_append (IsReachedAt t) (bus_addresses c) (bus_trace cs) h.0.reached (all_trace t cs h.1)

all_placed : (t : TagLimits) (cs : List Chunk) → AllByRecursion (StartsWell t) cs → AllByRecursion IsPlaced cs
all_placed t [] h = tt
all_placed t (c ∷ cs) h = (h.0.is_placed, all_placed t cs h.1)

pieces_aligned : (t : TagLimits) (cs : List Chunk) → IsEffective t → keep_pg_offset t.flags ≡ false →
    HasAlignedSizes t → AllByRecursion (StartsWell t) cs → AllByRecursion (IsAligned t) (chunk_pieces t cs)
pieces_aligned t [] eff off sizes h = tt
pieces_aligned t (c ∷ cs) eff off sizes h =
    all_append (IsAligned t) (pieces_of t (bus_addresses c)) (chunk_pieces t cs)
    (subst (λ bs. AllByRecursion (IsAligned t) (pieces_of t bs)) (sym (bus_is_run c h.0.is_placed))
    (run_aligned (chunk_len c) t (bus_extent c).pa.0 (chunk_len c) eff.maxsegsz
    sizes (h.0.begins.0 off) (omega arith)))
    (pieces_aligned t cs eff off sizes h.1)

begins_with : (t : TagLimits) (cs : List Chunk) (segs before : List Segment) (s : Segment) (later : List Segment)
    (c : Chunk) → AllByRecursion (StartsWell t) cs → EachAfter (λ b x. x.at ≡ chunk_bytes b) [] cs →
    segment_bytes segs ≡ bus_trace cs → segs ≡ before ++ s ∷ later → 1 ≤ s.len → Contains cs c →
    c.at ≡ segments_bytes before → BeginsWith t s c
begins_with t cs segs before s later c well ats bytes split some has at =
    let k = has.0 in
    let x = get_or cs k c in
    let here : x ≡ c = has.2 in
    let place = each_at (λ b y. y.at ≡ chunk_bytes b) [] cs k c ats has.1 in
    let same : segments_bytes before ≡ chunk_bytes (take k cs) =
    sym at ∙ (ap (λ (y : Chunk). y.at) (sym here) ∙ place) in
    let one = segment_at before s later some in
    let two = chunk_at cs k c (all_placed t cs well) has.1 in
    let trace : segment_bytes (before ++ s ∷ later) ≡ bus_trace cs = ap segment_bytes (sym split) ∙ bytes in
    let start : s.addr.0 ≡ (bus_extent c).pa.0 =
    sym one ∙ (ap (λ bs. get_or bs (segments_bytes before) 0) trace
    ∙ (ap (λ n. get_or (bus_trace cs) n 0) same ∙ (two ∙ ap (λ (y : Chunk). (bus_extent y).pa.0) here))) in
    let begins = (subst (StartsWell t) here (all_at (StartsWell t) cs k c well has.1)).begins in
    (λ off. ap (λ (n : ℕ). n % t.alignment) start ∙ begins.0 off, λ on. ap (λ (n : ℕ). n % 4096) start ∙ begins.1 on)

-- the segments of entries in reachable pages obey the tag
pub obeys : (t : TagLimits) (m : ℕ) (es : List Entry) (pages : List Pa) (segs : List Segment) → IsEffective t →
    AllByRecursion IsEntry es → AllByRecursion (IsBelow m) (flat_map entry_addresses es) →
    AllByRecursion (IsReachable t) pages → IsFew t (placed_pieces t (chunks_of t m es) pages) segs →
    Obeys t (tag_placed t (chunks_of t m es) pages) segs
obeys t m es pages segs eff entries below reachable few =
    let cs = tag_placed t (chunks_of t m es) pages in
    let pieces = chunk_pieces t cs in
    let well =
    all_well t m (chunks_of t m es) pages eff (chunks_sound t m es eff entries)
    (from_judged t m 0 es eff below) reachable in
    let is_placed = all_placed t cs well in
    let bytes : segment_bytes segs ≡ bus_trace cs =
    segmentation_bytes t segs pieces few.0 ∙ pieces_bytes t cs eff.maxsegsz (all_rise cs is_placed) in
    let good = segments_good t segs pieces few.0 (pieces_good t cs eff.maxsegsz (all_rise cs is_placed)) in
    let ats = placed_at (keep_pg_offset t.flags) (chunks_of t m es) pages [] [] refl (chunks_at t m es eff) in
    let reached = subst (AllByRecursion (IsReachedAt t)) (sym bytes) (all_trace t cs well) in
    record {
      few = few.1;
      each = each_from (IsObeying t cs) [] segs (λ xs y zs e.
          let own = all_middle (IsGood t) xs y zs (subst (AllByRecursion (IsGood t)) e good) in
          record {
            some = own.some;
            short = own.short;
            window = own.window;
            reached =
                reached_of t y.addr.0 y.len
                (bytes_of_middle (IsReachedAt t) xs y zs
                (subst (λ ss. AllByRecursion (IsReachedAt t) (segment_bytes ss)) e reached));
            begins = λ c has at. begins_with t cs segs xs y zs c well ats bytes e own.some has at;
            aligned =
                λ off sizes. all_middle (IsAligned t) xs y zs
                (subst (AllByRecursion (IsAligned t)) e
                (segments_aligned t segs pieces few.0 (pieces_aligned t cs eff off sizes well)));
          });
    }
