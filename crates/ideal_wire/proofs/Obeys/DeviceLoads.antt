-- The segments of an IOMMU tag's load are the bytes of the load, to its device, and obey the tag.
use Rattle.std.proofs.Common.{◌≡◌, ℕ, ◌*◌, ◌≤◌, Bool, true, false, List, [], ◌∷◌}
use Rattle.std.proofs.Common.{length, map, Option, Some, refl, ap, sym, ◌∙◌, subst}
use Rattle.std.proofs.Common.{nat_le}
use Rattle.std.proofs.lemmas.Bool.{leb-true}
use Rattle.std.specs.List.{AllByRecursion}
use Rattle.std.specs.FinMap.{get}
use Rattle.busdma_machine.specs.declared.report.Judged.TheVariants.{Fine}
use Rattle.busdma_machine.specs.declared.machine.address.Pa.{Pa}
use Rattle.busdma_machine.specs.declared.machine.bio.Bio.{Bio}
use Rattle.busdma_machine.specs.declared.machine.chunk.Chunk.{Chunk}
use Rattle.busdma_machine.specs.declared.machine.chunk.Entry.{Entry}
use Rattle.busdma_base.specs.declared.scenarios.script.Item.{Item}
use Rattle.busdma_machine.specs.declared.tags.tag.TagLimits.{TagLimits}
use Rattle.busdma_machine.specs.Bounce.AccountStep.{as_pages}
use Rattle.busdma_machine.specs.Machine.Entry.{IsEntry, entries_addresses}
use Rattle.busdma_machine.specs.Machine.Spans.{bio_spans}
use Rattle.busdma_machine.specs.Machine.Wire.{buffers, buses}
use Rattle.busdma_base.specs.Scenarios.Buffers.{IsBioOf}
use Rattle.busdma_machine.specs.Tags.Tag.{IsEffective}
use Rattle.busdma_machine.specs.Tags.TagFlags.{keep_pg_offset}
use Rattle.busdma_rules.specs.Memory.Bios.{is_rounded}
use Rattle.busdma_rules.proofs.Memory.Vectors.{entries_are}
use Rattle.busdma_rules.specs.Segments.Building.{tag_placed, placed_pieces}
use Rattle.busdma_rules.specs.Segments.Chunks.{bounced_of}
use Rattle.busdma_rules.specs.Segments.Segmentation.{segment_bytes, segmentation}
use Rattle.busdma_rules.proofs.Segments.Bytes.{pieces_bytes, segmentation_bytes}
use Rattle.busdma_rules.proofs.Segments.Cuts.{cut_is}
use Rattle.ideal_lane.specs.Loads.{Asked, asked, limits_of}
use Rattle.ideal_lane.specs.Loads.{load_addresses, load_judged, load_translation}
use Rattle.ideal_lane.specs.Standing.{Stands}
use Rattle.ideal_lane.specs.State.{LaneState, LaneMap}
use Rattle.ideal_wire.specs.Accepted.{IsAcceptedLoad}
use Rattle.ideal_wire.specs.Laid.{AreLaid}
use Rattle.ideal_wire.specs.Machine.{IsInMachine}
use Rattle.ideal_wire.specs.Traces.{placed_from}
use Rattle.ideal_wire.proofs.Loads.Bios.{bio-paged}
use Rattle.ideal_wire.proofs.Faithful.Buses.{placed-buffers}
use Rattle.ideal_wire.proofs.Loads.Reaching.{all-reached, entries-bytes}
use Rattle.std.proofs.Common.{◌+◌, ◌*◌, ◌≤◌, false, List, [], ◌∷◌, length, Option, Some}
use Rattle.std.proofs.lemmas.Bool.{leb-true}
use Rattle.busdma_rules.specs.Iommu.Device.{device_chunk, device_chunks, load_frames}
use Rattle.busdma_rules.proofs.Iommu.Carrying.{Carries, device-rises, entries-carried}
use Rattle.busdma_rules.proofs.Iommu.DeviceObeying.{device-obeys}
use Rattle.busdma_rules.specs.Segments.Built.{IsFew}
use Rattle.busdma_rules.specs.Segments.Obeying.{Obeys}
use Rattle.busdma_machine.specs.Runs.{byte_count}
use Rattle.ideal_lane.specs.Loads.{load_entries}
use Rattle.busdma_rules.specs.Segments.Pieces.{chunk_pieces}
use Rattle.busdma_rules.proofs.Segments.Bytes.{pieces_bytes, segmentation_bytes}
use Rattle.ideal_wire.proofs.Obeys.AcceptedLaws.{fits, limits-effective, segments, traces-are}
use Rattle.ideal_wire.proofs.Laid.LoadLaid.{device-direct, none-placed}
use Rattle.busdma_rules.specs.Segments.Trace.{bus_trace, chunks_in_pages}

same-placed : (keep : Bool) (page at : ℕ) (es : List Entry) (pages : List Pa) →
    chunks_in_pages keep (device_chunks page at es) pages ≡ device_chunks page at es
same-placed keep page at [] pages = refl
same-placed keep page at (e ∷ es) pages =
    ap (λ cs. device_chunk page at e ∷ cs) (same-placed keep (page + length e.parts) (at + byte_count e.parts) es pages)

own-buses : (at : ℕ) (pas : List ℕ) → buses (placed_from [] at pas) ≡ pas
own-buses at [] = refl
own-buses at (pa ∷ pas) = ap (λ xs. pa ∷ xs) (own-buses (at + 1) pas)

module _ (l : LaneState) (laid : AreLaid l) (machine : IsInMachine l) (stands : Stands l) (m : ℕ) (o : LaneMap)
    (there : get l.maps m ≡ Some o) (b : Bio) (named : IsBioOf l.pages b)
    (load_at : ℕ) (now : Bool) (items : List Item) (fine : load_judged l m b ≡ Fine)
    (one : (limits_of l o).alignment ≡ 1) (off : keep_pg_offset (limits_of l o).flags ≡ false) (first : ℕ)
    (find : ℕ → Option ℕ) (carries : Carries find first (load_frames (load_entries l b)))
    (low : 4096 * (first + length (load_frames (load_entries l b))) ≤ (limits_of l o).lowaddr.0 + 1) where
  abbrev x : Asked
  x = asked m b now items l

  abbrev t : TagLimits
  t = limits_of l o

  abbrev cs : List Chunk
  cs = device_chunks first 0 (load_entries l b)

  effective : IsEffective t
  effective = limits-effective l machine stands m o there

  pub are-entries : AllByRecursion IsEntry (load_entries l b)
  are-entries =
      entries_are (λ p. Unit {0}) (is_rounded b) (load_translation l b) (bio-paged l laid machine b named)
      (bio_spans b)

  are-bytes : entries_addresses (load_entries l b) ≡ load_addresses l b
  are-bytes =
      entries-bytes (load_translation l b) (bio-paged l laid machine b named) (is_rounded b) (bio_spans b)
      (all-reached l m b fine)

  same : tag_placed t cs (as_pages []) ≡ cs
  same = same-placed (keep_pg_offset t.flags) first 0 (load_entries l b) (as_pages [])

  -- the bytes of its segments are its device addresses, in order
  pub device-bytes : segment_bytes (segments l m o load_at x cs []) ≡ bus_trace cs
  device-bytes =
      ap (λ zs. segment_bytes (segmentation t (chunk_pieces t zs))) same
      ∙ segmentation_bytes t (segmentation t (chunk_pieces t cs)) (chunk_pieces t cs) (cut_is t (chunk_pieces t cs))
      ∙ pieces_bytes t cs effective.maxsegsz (device-rises first 0 (load_entries l b))

  pub device-accepted : nat_le (length (segments l m o load_at x cs [])) t.nsegments ≡ true →
      IsAcceptedLoad (fits l m o load_at x cs []) m find t (load_addresses l b) cs [] (segments l m o load_at x cs [])
  device-accepted few = record {
    buffer =
        ap buffers (traces-are l m o load_at x cs [])
        ∙ placed-buffers (bounced_of (tag_placed t cs (as_pages []))) 0 (entries_addresses (load_entries l b))
        ∙ are-bytes;
    trace =
        ap (map find) device-bytes
        ∙ entries-carried find first 0 (load_entries l b) carries are-entries
        ∙ ap (map (λ a. Some a)) (sym (ap buses (traces-are l m o load_at x cs []
        ∙ ap (λ c. placed_from c 0 (entries_addresses (load_entries l b)))
        (none-placed (keep_pg_offset t.flags) cs (as_pages []) (device-direct first 0 (load_entries l b))))
        ∙ own-buses 0 (entries_addresses (load_entries l b))));
    obeys =
        subst (λ zs. Obeys t zs (segments l m o load_at x cs [])) (sym same)
        (device-obeys t effective (load_entries l b) are-entries first (segments l m o load_at x cs []) one off low
        (subst (λ zs. IsFew t (chunk_pieces t zs) (segments l m o load_at x cs [])) same (
          cut_is t (placed_pieces t cs (as_pages [])),
          leb-true (length (segments l m o load_at x cs [])) t.nsegments
              few,
        )));
  }
