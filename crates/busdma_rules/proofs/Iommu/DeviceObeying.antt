-- The segments of a load in device pages obey the tag.
use Rattle.std.proofs.Common.{◌≡◌, ◌*◌, ◌+◌, ◌%◌, ◌≤◌, false, length, [], refl, ap, sym, subst, ◌∙◌, arith, ℕ, List}
use Rattle.std.specs.List.{AllByRecursion}
use Rattle.std.proofs.lemmas.Bool.{le-ltb, false≢true}
use Rattle.busdma_machine.specs.Tags.Tag.{excluded, IsEffective}
use Rattle.busdma_rules.specs.Segments.Obeying.{IsObeying, Obeys}
use Rattle.busdma_rules.specs.Segments.Pieces.{chunk_pieces}
use Rattle.busdma_rules.specs.Segments.Segmentation.{segment_bytes}
use Rattle.busdma_rules.specs.Segments.Trace.{bus_trace}
use Rattle.busdma_rules.proofs.Segments.Bytes.{pieces_bytes, segmentation_bytes}
use Rattle.busdma_rules.proofs.Segments.OneWindow.{IsGood, pieces_good, segments_good}
use Rattle.busdma_rules.proofs.Segments.Obeys.{bytes_of_middle, reached_of}
use Rattle.busdma_rules.proofs.Segments.Positions.{all_middle, each_from}
use Rattle.busdma_rules.specs.Iommu.Device.{device_chunks, load_frames}
use Rattle.busdma_rules.proofs.Iommu.Carrying.{device-rises, device-within}
use Rattle.busdma_machine.specs.declared.machine.address.Segment.{Segment}
use Rattle.busdma_machine.specs.declared.machine.chunk.Entry.{Entry}
use Rattle.busdma_machine.specs.declared.tags.tag.TagLimits.{TagLimits}
use Rattle.busdma_machine.specs.Machine.Entry.{IsEntry}
use Rattle.busdma_machine.specs.Tags.TagFlags.{keep_pg_offset}
use Rattle.busdma_rules.specs.Segments.Built.{IsFew}

pub device-obeys : (t : TagLimits) → IsEffective t → (es : List Entry) → AllByRecursion IsEntry es →
    (first : ℕ) (segs : List Segment) → t.alignment ≡ 1 → keep_pg_offset t.flags ≡ false →
    4096 * (first + length (load_frames es)) ≤ t.lowaddr.0 + 1 →
    IsFew t (chunk_pieces t (device_chunks first 0 es)) segs →
    Obeys t (device_chunks first 0 es) segs
device-obeys t eff es entries first segs one off low few =
    let cs = device_chunks first 0 es in
    let pieces = chunk_pieces t cs in
    let some = eff.maxsegsz in
    let bytes : segment_bytes segs ≡ bus_trace cs =
    segmentation_bytes t segs pieces few.0 ∙ pieces_bytes t cs some (device-rises first 0 es) in
    let good = segments_good t segs pieces few.0 (pieces_good t cs some (device-rises first 0 es)) in
    let reached =
    subst (AllByRecursion (λ a. excluded t a ≡ false)) (sym bytes)
    (device-within (λ a. excluded t a ≡ false) first 0 (t.lowaddr.0 + 1) es entries low
    (λ b g l. rw (le-ltb t.lowaddr.0 b (omega arith)) refl)) in
    record {
      few = few.1;
      each = each_from (IsObeying t cs) [] segs (λ xs y zs e.
          let own = all_middle (IsGood t) xs y zs (subst (AllByRecursion (IsGood t)) e good) in
          record {
            some = own.some;
            short = own.short;
            window = own.window;
            reached =
                reached_of t y.addr.0 y.len
                (bytes_of_middle (λ a. excluded t a ≡ false) xs y zs
                (subst (λ ss. AllByRecursion (λ a. excluded t a ≡ false) (segment_bytes ss)) e reached));
            begins = λ ch has at. (
              λ _. ap (λ n. y.addr.0 % n) one ∙ omega arith,
              λ on. absurd (false≢true (sym off ∙ on)),
            );
            aligned = λ _ sizes. ap (λ n. y.addr.0 % n) one ∙ omega arith;
          });
    }
