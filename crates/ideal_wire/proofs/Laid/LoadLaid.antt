-- A load that has its pages is laid in them.
use Rattle.std.proofs.Common.{◌≡◌, ℕ, zero, suc, ◌≤◌, Bool, true, false, cond, if◌then◌else◌, List, [], ◌∷◌, length}
use Rattle.std.proofs.Common.{Some, slice_get, is_some, refl, ap, sym, ◌∙◌, subst, arith, nat_le, unwrap_or}
use Rattle.std.proofs.Common.{drop}
use Rattle.std.specs.FinMap.{get}
use Rattle.std.specs.List.{AllByRecursion, AllZip}
use Rattle.busdma_base.specs.declared.journals.answer.Answer.TheVariants as answer
use Rattle.busdma_machine.specs.declared.report.Errno.TheVariants.{EFBIG}
use Rattle.busdma_machine.specs.declared.machine.address.Pa.{Pa}
use Rattle.busdma_machine.specs.declared.machine.chunk.Chunk.{Chunk}
use Rattle.busdma_machine.specs.declared.machine.chunk.Entry.{Entry}
use Rattle.busdma_machine.specs.declared.tags.tag.TagLimits.{TagLimits}
use Rattle.busdma_machine.specs.Bounce.AccountStep.{as_pages}
use Rattle.busdma_machine.specs.Machine.Entry.{IsEntry, entries_addresses}
use Rattle.busdma_machine.specs.Tags.Tag.{IsEffective}
use Rattle.busdma_machine.specs.Tags.TagFlags.{keep_pg_offset}
use Rattle.busdma_rules.specs.declared.position.Position.{Position}
use Rattle.busdma_rules.specs.Lending.Loans.{Loan, loan_of, no_loan, new_loan, unlent_positions}
use Rattle.busdma_rules.specs.Syncs.ChunkTraces.{HasChunks}
use Rattle.busdma_rules.specs.Segments.Building.{tag_placed}
use Rattle.busdma_rules.specs.Segments.Chunks.{bounced_of, chunks_of, need_of}
use Rattle.busdma_rules.specs.Segments.Trace.{IsPage, IsPlaced, first_page, in_page, chunks_in_pages}
use Rattle.busdma_rules.proofs.Segments.Covering.{chunks_at, chunks_cover}
use Rattle.busdma_rules.proofs.Segments.Sound.{chunks_sound, placed_are}
use Rattle.busdma_rules.specs.Iommu.Device.{device_chunks}
use Rattle.std.proofs.Common.{◌+◌, not}
use Rattle.std.proofs.lemmas.Bool.{eq-eqb, false≢true}
use Rattle.busdma_machine.specs.Machine.Wire.{is_bounced}
use Rattle.busdma_machine.specs.Runs.{byte_count}
use Rattle.ideal_lane.specs.Loads.{Asked, finished, is_coherent, is_device, limits_of, unpaged}
use Rattle.std.specs.Option.{option_map_or}
use Rattle.ideal_lane.specs.Outcomes.{Outcome}
use Rattle.ideal_lane.specs.State.{LaneState, LaneMap, LaneMemory, Loaded}
use Rattle.ideal_wire.specs.Laid.{AreFirst, IsInPage, IsOfExtents, is_behind, is_loadable, IsLaid, LiesIn, AreLaid}
use Rattle.ideal_wire.specs.Traces.{placed_from, traces_of}
use Rattle.ideal_wire.proofs.Obeys.AcceptedLaws.{same-pages, count-pages, flat-entries, segments, fits, stage-is}
use Rattle.ideal_wire.proofs.Obeys.AcceptedLaws.{loan-is}
use Rattle.ideal_wire.proofs.Obeys.AcceptedLaws.{bytes-are, trace-is, traces-are}
use Rattle.ideal_wire.proofs.Laid.Alike.{KeepsRest, kept-script, loadable-alike, one-changed}
use Rattle.ideal_wire.proofs.Obeys.ChunkExtents.{chunks-extents, placed-extents}
use Rattle.ideal_wire.proofs.Laid.HavingChunks.{has-chunks}
use Rattle.ideal_wire.proofs.Laid.Loading.{Follow, chunks_bytes, follow-of, placed-bytes, placed-follow, zipped}
use Rattle.ideal_wire.proofs.Laid.Positions.{found_one}
use Rattle.ideal_wire.proofs.Tags.KeptTags.{put-off, put-there}
use Rattle.ideal_wire.proofs.Laid.StillLaid.{kept-map, put-limits, unpaged-still}

-- ---- small lists

-- a page changes no chunk that is not bounced
pub none-placed : (keep : Bool) (cs : List Chunk) (pages : List Pa) → bounced_of cs ≡ [] →
    bounced_of (chunks_in_pages keep cs pages) ≡ []
none-placed keep [] pages h = refl
none-placed keep (c ∷ cs) pages h = by c.bounced refl (λ g. none-placed keep cs pages g) h
  where
    by : (b : Bool) → c.bounced ≡ b → (bounced_of cs ≡ [] → bounced_of (chunks_in_pages keep cs pages) ≡ []) →
        cond b (c ∷ bounced_of cs) (bounced_of cs) ≡ [] →
        bounced_of (cond b (in_page keep (first_page pages) c ∷ chunks_in_pages keep cs (drop 1 pages))
        (c ∷ chunks_in_pages keep cs pages)) ≡ []
    by true e rest g = absurd (cc)
    by false e rest g =
        ap (λ b. cond b (c ∷ bounced_of (chunks_in_pages keep cs pages)) (bounced_of (chunks_in_pages keep cs pages))) e
        ∙ rest g

none-counted : (cs : List Chunk) → length cs ≡ 0 → cs ≡ []
none-counted [] h = refl
none-counted (c ∷ cs) h = absurd (omega (arith, h))

-- the byte of a position of a new loan is one of its bytes
unlent-at : (P : ℕ → Type 0) (bytes : List ℕ) (i : ℕ) (p : Position) → AllByRecursion P bytes →
    slice_get (unlent_positions bytes) i ≡ Some p → P p.pa
unlent-at P [] i p all h = absurd (cc)
unlent-at P (a ∷ bytes) zero p all h =
    subst P (ap (λ (q : Position). q.pa)
    (found_one (Some _) (record { pa = a; to_read = false; to_write = false }) p refl h))
    all.0
unlent-at P (a ∷ bytes) (suc i) p all h = unlent-at P bytes i p all.1 h

-- ---- what a load has that can end with its pages

-- a load can end with its pages: its chunks follow one another and have its bytes, each in its place and with its
-- extents in frames; its pages are as many as it needs; a load of a memory's map needs none, and has the memory's first
-- bytes; and its map may load its bytes
pub record IsReady (l : LaneState) (m : ℕ) (t : TagLimits) (es : List Entry) (chunks : List Chunk) (pages : List ℕ)
    : Type 0 where
  pub some : 1 ≤ t.maxsegsz
  pub follow : Follow 0 chunks
  pub bytes : chunks_bytes chunks ≡ entries_addresses es
  pub are : AllByRecursion IsPlaced (tag_placed t chunks (as_pages pages))
  pub extents : AllByRecursion IsOfExtents chunks
  pub whole : AllByRecursion IsPage (as_pages pages)
  pub count : length pages ≡ need_of chunks
  pub direct : is_some (get l.mems m) ≡ true → need_of chunks ≡ 0
  pub first : (y : LaneMemory) → get l.mems m ≡ Some y → AreFirst y (entries_addresses es)
  pub loadable : AllByRecursion (λ a. is_loadable (get l.mems m) l a ≡ true) (entries_addresses es)

-- a load can end with its pages if its chunks are cut from its entries by an effective tag
pub ready : (l : LaneState) (m : ℕ) (t t' : TagLimits) (maxmem : ℕ) (es : List Entry) (pages : List ℕ) →
    1 ≤ t.maxsegsz → IsEffective t' → t'.flags ≡ t.flags → AllByRecursion IsEntry es →
    AllByRecursion IsPage (as_pages pages) → length pages ≡ need_of (chunks_of t' maxmem es) →
    (is_some (get l.mems m) ≡ true → need_of (chunks_of t' maxmem es) ≡ 0) →
    ((y : LaneMemory) → get l.mems m ≡ Some y → AreFirst y (entries_addresses es)) →
    AllByRecursion (λ a. is_loadable (get l.mems m) l a ≡ true) (entries_addresses es) →
    IsReady l m t es (chunks_of t' maxmem es) pages
ready l m t t' maxmem es pages some eff flags entries whole count direct first loadable = record {
  some = some;
  follow = follow-of [] chunks 0 refl (chunks_at t' maxmem es eff);
  bytes = chunks_cover t' maxmem es eff entries ∙ flat-entries es;
  are =
      subst (λ f. AllByRecursion IsPlaced (chunks_in_pages (keep_pg_offset f) chunks (as_pages pages))) flags
      (placed_are t' chunks (as_pages pages) (chunks_sound t' maxmem es eff entries) whole);
  extents = chunks-extents t' maxmem es eff entries;
  whole = whole;
  count = count;
  direct = direct;
  first = first;
  loadable = loadable;
}
  where
    chunks : List Chunk
    chunks = chunks_of t' maxmem es

-- a load can end with its pages if a load with other entries of the same bytes can
pub of-bytes : (l : LaneState) (m : ℕ) (t : TagLimits) (es fs : List Entry) (chunks : List Chunk) (pages : List ℕ) →
    entries_addresses es ≡ entries_addresses fs → IsReady l m t es chunks pages → IsReady l m t fs chunks pages
of-bytes l m t es fs chunks pages same r = record {
  some = r.some;
  follow = r.follow;
  bytes = r.bytes ∙ same;
  are = r.are;
  extents = r.extents;
  whole = r.whole;
  count = r.count;
  direct = r.direct;
  first = λ y there. subst (AreFirst y) same (r.first y there);
  loadable = subst (AllByRecursion (λ a. is_loadable (get l.mems m) l a ≡ true)) same r.loadable;
}

module _ (l : LaneState) (laid : AreLaid l) (m : ℕ) (o : LaneMap) (there : get l.maps m ≡ Some o)
    (none : loan_of l.loans m ≡ no_loan) (load_at : ℕ) (x : Asked) (chunks : List Chunk) (pages : List ℕ)
    (r : IsReady l m (limits_of l o) x.entries chunks pages) where
  abbrev t : TagLimits
  t = limits_of l o

  abbrev in_pages : List Chunk
  in_pages = tag_placed t chunks (as_pages pages)

  abbrev after : LaneState
  after = fits l m o load_at x chunks pages

  rest : KeepsRest l after
  rest = record { script = refl; pages = refl; maxmem = refl; own = λ a. refl; mems = refl }

  lies : IsLaid after m (bounced_of in_pages) (segments l m o load_at x chunks pages) pages
  lies = record {
    coherent = ap (λ (n : Loan). n.coherent) (loan-is l m o load_at x chunks pages);
    bytes = λ i p at.
        loadable-alike l after (kept-script l after rest) (get l.mems m) p.pa
        ∙ unlent-at (λ a. is_loadable (get l.mems m) l a ≡ true) (entries_addresses x.entries) i p r.loadable
        (sym (λ j. slice_get (loan-is l m o load_at x chunks pages j).positions i) ∙ at);
    first = λ y memory. subst (AreFirst y) (sym (bytes-are l m o load_at x chunks pages)) (r.first y memory);
    direct = λ some. none-placed (keep_pg_offset t.flags) chunks (as_pages pages)
        (none-counted (bounced_of chunks) (r.direct some));
    paged =
        subst (AllZip IsInPage (bounced_of in_pages)) (same-pages pages)
        (zipped (keep_pg_offset t.flags) chunks (as_pages pages) r.are r.whole (count-pages pages ∙ r.count));
    extents = placed-extents (keep_pg_offset t.flags) chunks (as_pages pages) r.extents;
    chunks = subst (λ ts. HasChunks 0 ts (bounced_of in_pages)) (sym traces) has;
    trace = λ plain. trace-is l m o load_at x chunks pages r.some r.are r.follow r.bytes;
  }
    where
      traces : traces_of after m
          ≡ placed_from (bounced_of in_pages) 0 (chunks_bytes in_pages)
      traces = traces-are l m o load_at x chunks pages
          ∙ ap (placed_from (bounced_of in_pages) 0)
          (sym (placed-bytes (keep_pg_offset t.flags) chunks (as_pages pages) ∙ r.bytes))

      has : HasChunks 0 (placed_from (bounced_of in_pages) 0 (chunks_bytes in_pages)) (bounced_of in_pages)
      has = has-chunks in_pages 0 0 [] refl tt
          (placed-follow (keep_pg_offset t.flags) chunks (as_pages pages) 0 r.follow) r.are

  fits-laid : AreLaid after
  fits-laid =
      one-changed l after rest laid m
      (λ n off. kept-map l after n (λ k y e. refl) (ap (λ y. unwrap_or y no_loan) (put-off l.loans m n new off))
      (put-off l.maps m n loaded-map off))
      (λ y e. put-limits l laid after (λ k x f. refl) m loaded-map (put-there l.maps m loaded-map) (o, there, refl))
      (subst (LiesIn after m) (sym (stage-is l m o load_at x chunks pages)) lies)
    where
      new : Loan
      new = new_loan (is_coherent (get l.mems m)) (entries_addresses x.entries)

      loaded-map : LaneMap
      loaded-map = record o {
        tried = true;
        stage = Loaded (bounced_of in_pages) (segments l m o load_at x chunks pages) pages;
      }

  pub finished-laid : AreLaid (finished m o load_at x chunks pages l).lane
  finished-laid = by (nat_le (length (segments l m o load_at x chunks pages)) t.nsegments)
    where
      by : (b : Bool) → AreLaid (Outcome.lane (if b then record {
        lane = after;
        answer = answer.Segments (segments l m o load_at x chunks pages);
      }
          else record { lane = unpaged m o pages l; answer = answer.Refused EFBIG }))
      by true = fits-laid
      by false = unpaged-still l laid m o pages there none

-- no chunk of an IOMMU tag's load is bounced
pub device-direct : (page at : ℕ) (es : List Entry) → bounced_of (device_chunks page at es) ≡ []
device-direct page at [] = refl
device-direct page at (e ∷ es) = device-direct (page + length e.parts) (at + byte_count e.parts) es

-- if no chunk is bounced, each byte is at its own address
all-own : (at : ℕ) (pas : List ℕ) → AllByRecursion (λ p. is_bounced p ≡ false) (placed_from [] at pas)
all-own at [] = tt
all-own at (pa ∷ pas) = (ap not (eq-eqb pa pa refl), all-own (at + 1) pas)

-- such a load is laid at its own addresses if the map may load its bytes
module _ (l : LaneState) (laid : AreLaid l) (m : ℕ) (o : LaneMap) (there : get l.maps m ≡ Some o)
    (device : is_device l o ≡ true) (none : loan_of l.loans m ≡ no_loan) (load_at : ℕ) (x : Asked) (first : ℕ)
    (loadable : AllByRecursion (λ a. is_loadable (get l.mems m) l a ≡ true) (entries_addresses x.entries))
    (begins : (y : LaneMemory) → get l.mems m ≡ Some y → AreFirst y (entries_addresses x.entries)) where
  pub unbounced : bounced_of (tag_placed (limits_of l o) (device_chunks first 0 x.entries) (as_pages [])) ≡ []
  unbounced =
      none-placed (keep_pg_offset (limits_of l o).flags) (device_chunks first 0 x.entries) (as_pages [])
      (device-direct first 0 x.entries)

  device-rest : KeepsRest l (fits l m o load_at x (device_chunks first 0 x.entries) [])
  device-rest = record { script = refl; pages = refl; maxmem = refl; own = λ a. refl; mems = refl }

  -- the map is one of an IOMMU tag
  behind : is_behind (fits l m o load_at x (device_chunks first 0 x.entries) []) m ≡ true
  behind = ap (λ y. option_map_or (is_device l) y false) (put-there l.maps m _) ∙ device

  device-lies : IsLaid (fits l m o load_at x (device_chunks first 0 x.entries) []) m
      (bounced_of (tag_placed (limits_of l o) (device_chunks first 0 x.entries) (as_pages [])))
      (segments l m o load_at x (device_chunks first 0 x.entries) []) []
  device-lies = record {
    coherent = ap (λ (n : Loan). n.coherent) (loan-is l m o load_at x (device_chunks first 0 x.entries) []);
    bytes = λ i p at.
        loadable-alike l (fits l m o load_at x (device_chunks first 0 x.entries) [])
        (kept-script l (fits l m o load_at x (device_chunks first 0 x.entries) []) device-rest) (get l.mems m) p.pa
        ∙ unlent-at (λ a. is_loadable (get l.mems m) l a ≡ true) (entries_addresses x.entries) i p loadable
        (sym (λ j. slice_get (loan-is l m o load_at x (device_chunks first 0 x.entries) [] j).positions i) ∙ at);
    first = λ y memory. subst (AreFirst y) (sym (bytes-are l m o load_at x (device_chunks first 0 x.entries) []))
        (begins y memory);
    direct = λ some. unbounced;
    paged = subst (λ cs. AllZip IsInPage cs []) (sym unbounced) tt;
    extents = subst (AllByRecursion IsOfExtents) (sym unbounced) tt;
    chunks =
        subst (HasChunks 0 (traces_of (fits l m o load_at x (device_chunks first 0 x.entries) []) m)) (sym unbounced)
        (subst (λ ts. HasChunks 0 ts [])
        (sym (traces-are l m o load_at x (device_chunks first 0 x.entries) []
        ∙ ap (λ cs. placed_from cs 0 (entries_addresses x.entries)) unbounced))
        (all-own 0 (entries_addresses x.entries)));
    trace = λ plain. absurd (false≢true (sym plain ∙ behind));
  }

  device-fits-laid : AreLaid (fits l m o load_at x (device_chunks first 0 x.entries) [])
  device-fits-laid =
      one-changed l after device-rest laid m
      (λ n off. kept-map l after n (λ k y e. refl) (ap (λ y. unwrap_or y no_loan) (put-off l.loans m n new off))
      (put-off l.maps m n loaded-map off))
      (λ y e. put-limits l laid after (λ k x f. refl) m loaded-map (put-there l.maps m loaded-map) (o, there, refl))
      (subst (LiesIn after m) (sym (stage-is l m o load_at x (device_chunks first 0 x.entries) [])) device-lies)
    where
      after : LaneState
      after = fits l m o load_at x (device_chunks first 0 x.entries) []

      new : Loan
      new = new_loan (is_coherent (get l.mems m)) (entries_addresses x.entries)

      loaded-map : LaneMap
      loaded-map = record o {
        tried = true;
        stage = Loaded (bounced_of (tag_placed (limits_of l o) (device_chunks first 0 x.entries) (as_pages [])))
            (segments l m o load_at x (device_chunks first 0 x.entries) []) [];
      }

  pub device-finished-laid : AreLaid (finished m o load_at x (device_chunks first 0 x.entries) [] l).lane
  device-finished-laid =
      by (nat_le (length (segments l m o load_at x (device_chunks first 0 x.entries) [])) (limits_of l o).nsegments)
    where
      by : (b : Bool) → AreLaid (Outcome.lane (if b then record {
        lane = fits l m o load_at x (device_chunks first 0 x.entries) [];
        answer = answer.Segments (segments l m o load_at x (device_chunks first 0 x.entries) []);
      }
          else record { lane = unpaged m o [] l; answer = answer.Refused EFBIG }))
      by true = device-fits-laid
      by false = unpaged-still l laid m o [] there none
