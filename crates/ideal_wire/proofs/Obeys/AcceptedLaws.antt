-- A load that has its pages lies in them, and its segments are its bytes and obey its tag.
use Rattle.std.proofs.Common.{◌≡◌, ℕ, suc, ◌*◌, ◌<◌, ◌≤◌, Bool, true, false, cond, List, [], ◌∷◌, ◌++◌}
use Rattle.std.proofs.Common.{length, map, Option, Some, refl, ap, sym, ◌∙◌, subst}
use Rattle.std.proofs.Common.{unwrap_or, nat_le, eq-eqb, if◌then◌else◌}
use Rattle.std.proofs.lemmas.Bool.{leb-true}
use Rattle.std.specs.Option.{option_map}
use Rattle.std.specs.List.{AllByRecursion, flat_map}
use Rattle.std.specs.FinMap.{get, contains_key}
use Rattle.busdma_base.specs.declared.journals.answer.Answer.TheVariants as answer
use Rattle.busdma_machine.specs.declared.report.Errno.TheVariants.{EFBIG}
use Rattle.busdma_machine.specs.declared.report.Judged.TheVariants.{Fine}
use Rattle.busdma_machine.specs.declared.machine.address.Pa.{Pa}
use Rattle.busdma_machine.specs.declared.machine.address.Segment.{Segment}
use Rattle.busdma_machine.specs.declared.machine.bio.Bio.{Bio}
use Rattle.busdma_machine.specs.declared.machine.chunk.Chunk.{Chunk}
use Rattle.busdma_machine.specs.declared.machine.chunk.Entry.{Entry}
use Rattle.busdma_base.specs.declared.scenarios.script.Item.{Item}
use Rattle.busdma_machine.specs.declared.tags.tag.TagLimits.{TagLimits}
use Rattle.busdma_machine.specs.Bounce.AccountStep.{as_pages}
use Rattle.busdma_machine.specs.Machine.Entry.{IsEntry, entry_addresses, entries_addresses}
use Rattle.busdma_machine.specs.Machine.Spans.{bio_spans}
use Rattle.busdma_machine.specs.Machine.Wire.{buffers, buses}
use Rattle.busdma_base.specs.Scenarios.Buffers.{IsBioOf}
use Rattle.busdma_machine.specs.Tags.Tag.{IsEffective}
use Rattle.busdma_machine.specs.Tags.TagFlags.{keep_pg_offset}
use Rattle.lane_agreement.specs.After as after
use Rattle.busdma_rules.specs.Lending.Loans.{Loan, loan_of, no_loan, addresses_of, unlent_positions, new_loan}
use Rattle.busdma_rules.specs.Memory.Bios.{is_rounded}
use Rattle.busdma_rules.specs.Memory.Translation.{physical_or_0}
use Rattle.busdma_rules.proofs.Memory.Vectors.{entries_are}
use Rattle.busdma_rules.specs.Segments.Building.{tag_placed, placed_pieces}
use Rattle.busdma_rules.specs.Segments.Chunks.{bounced_of, chunks_of}
use Rattle.busdma_rules.specs.Segments.Obeying.{IsReachable}
use Rattle.busdma_rules.specs.Segments.Segmentation.{segment_bytes, segmentation}
use Rattle.busdma_rules.specs.Segments.Trace.{IsPage, IsPlaced}
use Rattle.busdma_rules.proofs.Segments.Bytes.{all_rise, pieces_bytes, segmentation_bytes}
use Rattle.busdma_rules.proofs.Segments.Covering.{chunks_at, chunks_cover}
use Rattle.busdma_rules.proofs.Segments.Cuts.{cut_is}
use Rattle.busdma_rules.proofs.Segments.Obeys as obeying
use Rattle.busdma_rules.proofs.Segments.Sound.{chunks_sound, placed_are}
use Rattle.ideal_lane.specs.Loads.{Asked, asked, limits_of, no_limits, finished, loaded, unpaged, is_coherent}
use Rattle.ideal_lane.specs.Loads.{load_addresses, load_judged, load_translation}
use Rattle.ideal_lane.specs.Outcomes.{Outcome}
use Rattle.ideal_lane.specs.Standing.{Stands}
use Rattle.ideal_lane.specs.State.{LaneState, LaneTag, LaneMap, Loaded}
use Rattle.ideal_lane.proofs.Lookups.{get_put}
use Rattle.ideal_wire.specs.Accepted.{ArePagesFor, IsAcceptedLoad, IfSegments}
use Rattle.ideal_wire.specs.Laid.{AreLaid}
use Rattle.ideal_wire.specs.Machine.{IsInMachine}
use Rattle.ideal_wire.specs.Traces.{stage_in, stage_at, placed_from, traces_of}
use Rattle.ideal_wire.proofs.Loads.Bios.{bio-own, bio-paged, bio_places}
use Rattle.ideal_wire.proofs.Faithful.Buses.{placed-buffers}
use Rattle.ideal_wire.proofs.Laid.Loading.{chunks_bytes, Follow, follow-of, placed-follow, placed-bytes, traced}
use Rattle.ideal_wire.proofs.Loads.Reaching.{AllReached, all-reached, byte-below, entries-bytes}

-- ---- small lists

pub same-pages : (pages : List ℕ) → after.addresses_of_pages (as_pages pages) ≡ pages
same-pages [] = refl
same-pages (p ∷ pages) = ap (λ xs. p ∷ xs) (same-pages pages)

pub count-pages : (pages : List ℕ) → length (as_pages pages) ≡ length pages
count-pages [] = refl
count-pages (p ∷ pages) = ap suc (count-pages pages)

pub are-pages : (t : TagLimits) (pages : List Pa) → AllByRecursion (IsReachable t) pages → AllByRecursion IsPage pages
are-pages t [] h = tt
are-pages t (p ∷ pages) h = (h.0.0, are-pages t pages h.1)

pub unlent-bytes : (bytes : List ℕ) → addresses_of (unlent_positions bytes) ≡ bytes
unlent-bytes [] = refl
unlent-bytes (b ∷ bytes) = ap (λ xs. b ∷ xs) (unlent-bytes bytes)

pub flat-entries : (es : List Entry) → flat_map entry_addresses es ≡ entries_addresses es
flat-entries [] = refl
flat-entries (e ∷ es) = ap (λ xs. entry_addresses e ++ xs) (flat-entries es)

-- ---- the load of a map that has its pages
module _ (l : LaneState) (m : ℕ) (o : LaneMap) (load_at : ℕ) (x : Asked) (chunks : List Chunk) (pages : List ℕ) where
  abbrev t : TagLimits
  t = limits_of l o

  abbrev placed : List Chunk
  placed = tag_placed t chunks (as_pages pages)

  abbrev pub segments : List Segment
  segments = segmentation t (placed_pieces t chunks (as_pages pages))

  abbrev pub fits : LaneState
  fits = loaded m o load_at x placed segments pages l

  pub stage-is : stage_at fits m ≡ Loaded (bounced_of placed) segments pages
  stage-is =
      ap stage_in (get_put l.maps m there m ∙ ap (λ b. cond b (Some there) (get l.maps m)) (eq-eqb m m refl))
    where
      there : LaneMap
      there = record o { tried = true; stage = Loaded (bounced_of placed) segments pages }

  pub loan-is : loan_of fits.loans m ≡ new_loan (is_coherent (get l.mems m)) (entries_addresses x.entries)
  loan-is =
      ap (λ q. unwrap_or q no_loan) (get_put l.loans m new m
      ∙ ap (λ b. cond b (Some new) (get l.loans m)) (eq-eqb m m refl))
    where
      new : Loan
      new = new_loan (is_coherent (get l.mems m)) (entries_addresses x.entries)

  pub bytes-are : addresses_of (loan_of fits.loans m).positions ≡ entries_addresses x.entries
  bytes-are = ap (λ (q : Loan). addresses_of q.positions) loan-is ∙ unlent-bytes (entries_addresses x.entries)

  pub traces-are : traces_of fits m ≡ placed_from (bounced_of placed) 0 (entries_addresses x.entries)
  traces-are =
      (λ i. placed_from (Rattle.ideal_lane.specs.Syncs.bounced_in (stage-is i)) 0 (addresses_of (loan-is i).positions))
      ∙ ap (placed_from (bounced_of placed) 0) (unlent-bytes (entries_addresses x.entries))

  module _ (some : 1 ≤ t.maxsegsz) (are : AllByRecursion IsPlaced placed) (follow : Follow 0 chunks)
      (bytes : chunks_bytes chunks ≡ entries_addresses x.entries) where
    pub trace-is : segment_bytes segments ≡ buses (traces_of fits m)
    trace-is =
        let pieces = placed_pieces t chunks (as_pages pages) in
        let keep = keep_pg_offset t.flags in
        segmentation_bytes t segments pieces (cut_is t pieces)
        ∙ pieces_bytes t placed some (all_rise placed are)
        ∙ traced placed 0 (placed-follow keep chunks (as_pages pages) 0 follow) are
        ∙ ap (λ xs. buses (placed_from (bounced_of placed) 0 xs)) (placed-bytes keep chunks (as_pages pages) ∙ bytes)
        ∙ ap buses (sym traces-are)

-- the tag of a map is an effective one
pub limits-effective : (l : LaneState) → IsInMachine l → Stands l → (m : ℕ) (o : LaneMap) → get l.maps m ≡ Some o →
    IsEffective (limits_of l o)
limits-effective l machine stands m o there =
    let st = stands.each m o there in
    let same : limits_of l o ≡ st.tag.limits =
    ap (λ q. unwrap_or (option_map (λ (g : LaneTag). g.limits) q) no_limits) st.there in
    subst IsEffective (sym same) (machine.tags o.tag st.tag st.there)

-- ---- a load of a map that is not a memory's
module _ (l : LaneState) (laid : AreLaid l) (machine : IsInMachine l) (stands : Stands l) (m : ℕ) (o : LaneMap)
    (there : get l.maps m ≡ Some o) (direct : contains_key l.mems m ≡ false) (b : Bio) (named : IsBioOf l.pages b)
    (load_at : ℕ) (no_wait : Bool) (items : List Item) (fine : load_judged l m b ≡ Fine) (pages : List ℕ) where
  abbrev x : Asked
  x = asked m b no_wait items l

  abbrev limits : TagLimits
  limits = limits_of l o

  abbrev pub chunks : List Chunk
  chunks = chunks_of limits l.maxmem x.entries

  effective : IsEffective limits
  effective = limits-effective l machine stands m o there

  are-entries : AllByRecursion IsEntry x.entries
  are-entries =
      entries_are (λ p. Unit {0}) (is_rounded b) (load_translation l b) (bio-paged l laid machine b named)
      (bio_spans b)

  reached-all : AllReached (load_translation l b) (bio_places b)
  reached-all = all-reached l m b fine

  are-bytes : entries_addresses x.entries ≡ load_addresses l b
  are-bytes =
      entries-bytes (load_translation l b) (bio-paged l laid machine b named) (is_rounded b) (bio_spans b) reached-all

  all-below : (vas : List ℕ) → AllReached (load_translation l b) vas →
      AllByRecursion (λ a. a < 4096 * l.maxmem) (map (physical_or_0 (load_translation l b)) vas)
  all-below [] h = tt
  all-below (va ∷ vas) h =
      let e = h.0.1 in
      let is : physical_or_0 (load_translation l b) va ≡ h.0.0 = ap (λ (q : Option ℕ). unwrap_or q 0) e in (
        subst (λ a. a < 4096 * l.maxmem) (sym is)
            (byte-below l laid machine h.0.0 (bio-own l laid b named va h.0.0 e)),
        all-below vas h.1,
      )

  inside : AllByRecursion (λ a. a < 4096 * l.maxmem) (flat_map entry_addresses x.entries)
  inside =
      subst (AllByRecursion (λ a. a < 4096 * l.maxmem)) (sym (flat-entries x.entries ∙ are-bytes))
      (all-below (bio_places b) reached-all)

  module _ (has : ArePagesFor limits chunks pages) where
    whole : AllByRecursion IsPage (as_pages pages)
    whole = are-pages limits (as_pages pages) has.reachable

    placed-chunks : AllByRecursion IsPlaced (tag_placed limits chunks (as_pages pages))
    placed-chunks =
        placed_are limits chunks (as_pages pages)
        (chunks_sound limits l.maxmem x.entries effective are-entries) whole

    follows : Follow 0 chunks
    follows = follow-of [] chunks 0 refl (chunks_at limits l.maxmem x.entries effective)

    covers : chunks_bytes chunks ≡ entries_addresses x.entries
    covers = chunks_cover limits l.maxmem x.entries effective are-entries ∙ flat-entries x.entries

    pub accepted : nat_le (length (segments l m o load_at x chunks pages)) limits.nsegments ≡ true →
        IsAcceptedLoad (fits l m o load_at x chunks pages) m (λ a. Some a) limits (load_addresses l b) chunks pages
        (segments l m o load_at x chunks pages)
    accepted few = record {
      buffer =
          ap buffers (traces-are l m o load_at x chunks pages)
          ∙ placed-buffers (bounced_of (tag_placed limits chunks (as_pages pages))) 0 (entries_addresses x.entries)
          ∙ are-bytes;
      trace =
          ap (map (λ a. Some a)) (trace-is l m o load_at x chunks pages effective.maxsegsz placed-chunks follows
          covers);
      obeys =
          obeying.obeys limits l.maxmem x.entries (as_pages pages) (segments l m o load_at x chunks pages) effective
          are-entries inside has.reachable (
            cut_is limits (placed_pieces limits chunks (as_pages pages)),
            leb-true (length (segments l m o load_at x chunks pages)) limits.nsegments few,
          );
    }

    abbrev answered : LaneState → List Segment → Type 0
    answered l' ss =
        IsAcceptedLoad l' m (λ a. Some a) limits (load_addresses l b) chunks pages ss

    pub finished-accepted : IfSegments (finished m o load_at x chunks pages l).answer
        (answered (finished m o load_at x chunks pages l).lane)
    finished-accepted = by (nat_le (length (segments l m o load_at x chunks pages)) limits.nsegments) refl
      where
        end : Bool → Outcome
        end b = if b then record {
          lane = fits l m o load_at x chunks pages;
          answer = answer.Segments (segments l m o load_at x chunks pages);
        } else record { lane = unpaged m o pages l; answer = answer.Refused EFBIG }

        by : (b : Bool) → nat_le (length (segments l m o load_at x chunks pages)) limits.nsegments ≡ b →
            IfSegments (end b).answer (answered (end b).lane)
        by true few = accepted few
        by false many = tt
