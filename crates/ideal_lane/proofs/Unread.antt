-- What a load looks at, the call that it makes and how it ends are the same, whatever the bytes of the driver.
use Rattle.std.proofs.Common.{◌≡◌, ℕ, ◌==◌, Bool, true, false, if◌then◌else◌, List, [], length, Option, Some, None}
use Rattle.std.proofs.Common.{refl}
use Rattle.std.proofs.Common.{ap, ◌∙◌, map, nat_lt}
use Rattle.std.specs.FinMap.{contains_key, get}
use Rattle.std.specs.List.{enumerate_from}
use Rattle.busdma_machine.specs.declared.bounce.hold.HubCall.{HubCall}
use Rattle.busdma_machine.specs.declared.bounce.hold.HubCall.TheVariants.{Grab}
use Rattle.busdma_machine.specs.declared.bounce.hold.HubReply.{HubReply}
use Rattle.busdma_machine.specs.declared.bounce.hold.HubReply.TheVariants as reply
use Rattle.busdma_machine.specs.declared.machine.bio.Bio.{Bio}
use Rattle.busdma_machine.specs.declared.machine.bio.Bio.TheVariants.{Mapped, Vector, Unmapped}
use Rattle.busdma_machine.specs.declared.machine.chunk.Chunk.{Chunk}
use Rattle.busdma_machine.specs.declared.report.Errno.TheVariants.{EINVAL}
use Rattle.busdma_machine.specs.declared.report.Judged.{Judged}
use Rattle.busdma_machine.specs.declared.report.Judged.TheVariants as judgement
use Rattle.busdma_machine.specs.declared.report.ReportName.TheVariants.{MapBusy}
use Rattle.busdma_base.specs.declared.journals.answer.Answer.TheVariants.{Refused}
use Rattle.busdma_machine.specs.Judging.{judged}
use Rattle.busdma_machine.specs.Machine.Spans.{bio_spans, span_addresses}
use Rattle.busdma_base.specs.declared.scenarios.script.Item.{Item}
use Rattle.busdma_base.specs.Scenarios.PageRuns.{physical_in}
use Rattle.busdma_rules.specs.Iommu.Device.{device_chunks, load_frames}
use Rattle.busdma_rules.specs.Iommu.Space.{first_free}
use Rattle.lane_agreement.specs.After.{addresses_of_pages}
use Rattle.busdma_rules.specs.Memory.Bios.{bio_translation, is_rounded}
use Rattle.busdma_rules.specs.Memory.Translation.{physical_or_0}
use Rattle.busdma_rules.specs.Memory.Vectors.{entries_of}
use Rattle.busdma_rules.specs.Segments.Chunks.{need_of}
use Rattle.ideal_lane.specs.State.{LaneState, LaneMap, LaneMemory, named}
use Rattle.ideal_lane.specs.Asking.{Asking, Gives, Asks, goes_on}
use Rattle.ideal_lane.specs.IdealMemory.{IdealMemory}
use Rattle.ideal_lane.specs.Loads.{Asked, asked, is_foreign_in}
use Rattle.ideal_lane.specs.Loads.{is_foreign_to, load_addresses, load_entries, load_judged}
use Rattle.ideal_lane.specs.Loads.{are_few, chunks_for, device_load, ended}
use Rattle.ideal_lane.specs.Loads.{finished, granted, is_device, limits_of, load}
use Rattle.ideal_lane.specs.Loads.{load_chunks, load_refusal, load_translation}
use Rattle.ideal_lane.specs.Loads.{taken, with_run, with_spaces, zone_of_map}
use Rattle.ideal_lane.specs.Outcomes.{Outcome, is_idle, refused, unless_absent, unless_refused}
use Rattle.ideal_lane.specs.Places.{or_in_memory, physical}
use Rattle.ideal_lane.specs.Sends.{outcome_with, with_bytes}
use Rattle.ideal_lane.proofs.Endings.{fits, fitting, too_big}

module _ (w : IdealMemory) (l : LaneState) where
  -- the driver with other bytes
  abbrev n : LaneState
  n = with_bytes w l

  same-place : (va : ℕ) (q : Option ℕ) → or_in_memory n va q ≡ or_in_memory l va q
  same-place va (Some pa) = refl
  same-place va None = refl

  pub same-physical : physical n ≡ physical l
  same-physical = (λ j va. same-place va (physical_in l.pages va) j)

  pub same-translation : (b : Bio) → load_translation n b ≡ load_translation l b
  same-translation b = ap (λ t. bio_translation t b) same-physical

  same-to : (o : Option LaneMemory) (at va : ℕ) → is_foreign_to o n at va ≡ is_foreign_to o l at va
  same-to None at va = refl
  same-to (Some x) at va = refl

  same-foreign : (b : Bio) (o : Option LaneMemory) (at va : ℕ) → is_foreign_in b o n at va ≡ is_foreign_in b o l at va
  same-foreign (Mapped span) o at va = same-to o at va
  same-foreign (Vector spans) o at va = same-to o at va
  same-foreign (Unmapped frames off len) o at va = refl

  pub same-judged : (m : ℕ) (b : Bio) → load_judged n m b ≡ load_judged l m b
  same-judged m b =
      (λ j. judged (λ x. load_refusal (same-foreign b (get l.mems m) x.0 x.1 j) (same-translation b j x.1)) 0
      (enumerate_from 0 (span_addresses (bio_spans b))))

  pub same-entries : (b : Bio) → load_entries n b ≡ load_entries l b
  same-entries b = ap (λ t. entries_of (is_rounded b) t (bio_spans b)) (same-translation b)

  pub same-addresses : (b : Bio) → load_addresses n b ≡ load_addresses l b
  same-addresses b = ap (λ t. map (physical_or_0 t) (span_addresses (bio_spans b))) (same-translation b)

  pub same-asked : (m : ℕ) (b : Bio) (nowait : Bool) (items : List Item) →
      asked m b nowait items n ≡ asked m b nowait items l
  same-asked m b nowait items =
      (λ j. record (asked m b nowait items l) { judged = same-judged m b j; entries = same-entries b j })

  -- ---- the load

  abbrev other : Outcome → Outcome
  other = outcome_with w

  -- the same load leaves drivers that differ only in their bytes
  module _ (m : ℕ) (x : Asked) (o : LaneMap) where
    finished-same : (at : ℕ) (chunks : List Chunk) (pages : List ℕ) →
        finished m o at x chunks pages n ≡ other (finished m o at x chunks pages l)
    finished-same at chunks pages = by (fits l m o at x chunks pages)
      where
        by : (fit : Bool) →
            (if fit then fitting n m o at x chunks pages else too_big n m o at x chunks pages)
            ≡ other (if fit then fitting l m o at x chunks pages else too_big l m o at x chunks pages)
        by true = refl
        by false = refl

    taken-same : (q : Option ℕ) → taken m o x q n ≡ other (taken m o x q l)
    taken-same None = refl
    taken-same (Some first) =
        let chunks : List Chunk = device_chunks first 0 x.entries in
        ap (with_spaces (with_run (are_few (limits_of l o) chunks) o.tag first (load_frames x.entries) l.spaces))
        (finished-same l.place chunks [])

    device-same : device_load m o x n ≡ other (device_load m o x l)
    device-same = by (length (load_frames x.entries) == 0)
      where
        by : (none : Bool) →
            (if none then finished m o n.place x (device_chunks 0 0 x.entries) [] n
            else taken m o x (first_free (n.spaces o.tag) (length (load_frames x.entries))) n)
            ≡ other
            (if none then finished m o l.place x (device_chunks 0 0 x.entries) [] l
            else taken m o x (first_free (l.spaces o.tag) (length (load_frames x.entries))) l)
        by true = finished-same l.place (device_chunks 0 0 x.entries) []
        by false = taken-same (first_free (l.spaces o.tag) (length (load_frames x.entries)))

    granted-same : (chunks : List Chunk) (r : HubReply) → granted m o x chunks n r ≡ other (granted m o x chunks l r)
    granted-same chunks (reply.Granted pages) = finished-same l.place chunks (addresses_of_pages pages)
    granted-same chunks (reply.Queued have) = refl
    granted-same chunks _ = refl

    abbrev grab : List Chunk → HubCall
    grab chunks = Grab (named l m) (record { 0 = zone_of_map o }) (need_of chunks) x.nowait

    chunks-same : (chunks : List Chunk) → load_chunks m o x chunks n ≡ goes_on other (load_chunks m o x chunks l)
    chunks-same chunks = by (need_of chunks == 0)
      where
        by : (none : Bool) →
            (if none then Gives (finished m o n.place x chunks [] n) else Asks (grab chunks) (granted m o x chunks n))
            ≡ goes_on other
            (if none then Gives (finished m o l.place x chunks [] l) else Asks (grab chunks) (granted m o x chunks l))
        by true = ap Gives (finished-same l.place chunks [])
        by false = (λ j. Asks (grab chunks) (λ r. granted-same chunks r j))

    abbrev idle_load : LaneState → Asking Outcome
    idle_load k =
        unless_refused x.judged k (
        if nat_lt (limits_of k o).maxsize x.len then Gives (ended m o (Refused EINVAL) k)
        else if is_device k o then Gives (device_load m o x k)
        else load_chunks m o x (chunks_for k o (contains_key k.mems m) x.entries) k)

    -- the load of a map, with its tests decided
    abbrev decided : Judged → Bool → Bool → LaneState → Asking Outcome
    decided j long device k =
        unless_refused j k (
        if long then Gives (ended m o (Refused EINVAL) k)
        else if device then Gives (device_load m o x k)
        else load_chunks m o x (chunks_for k o (contains_key k.mems m) x.entries) k)

    idle-same : idle_load n ≡ goes_on other (idle_load l)
    idle-same = by x.judged (nat_lt (limits_of l o).maxsize x.len) (is_device l o)
      where
        by : (j : Judged) (long device : Bool) → decided j long device n ≡ goes_on other (decided j long device l)
        by (judgement.Refused r) long device = refl
        by judgement.Fine true device = refl
        by judgement.Fine false true = ap Gives device-same
        by judgement.Fine false false = chunks-same (chunks_for l o (contains_key l.mems m) x.entries)

  load-same : (m : ℕ) (x : Asked) → load m x n ≡ goes_on other (load m x l)
  load-same m x = by (get l.maps m)
    where
      idle : (o : LaneMap) (b : Bool) →
          (if b then idle_load m x o n else refused MapBusy 0 n)
          ≡ goes_on other (if b then idle_load m x o l else refused MapBusy 0 l)
      idle o true = idle-same m x o
      idle o false = refl

      by : (y : Option LaneMap) →
          unless_absent y n (λ o. if is_idle o.stage then idle_load m x o n else refused MapBusy 0 n)
          ≡ goes_on other (unless_absent y l (λ o. if is_idle o.stage then idle_load m x o l else refused MapBusy 0 l))
      by None = refl
      by (Some o) = idle o (is_idle o.stage)

-- the load of a bio, by the driver with these bytes
pub bytes-unread : (m : ℕ) (b : Bio) (nowait : Bool) (items : List Item) (w : IdealMemory) (l : LaneState) →
    load m (asked m b nowait items (with_bytes w l)) (with_bytes w l)
    ≡ goes_on (outcome_with w) (load m (asked m b nowait items l) l)
bytes-unread m b nowait items w l =
    ap (λ x. load m x (with_bytes w l)) (same-asked w l m b nowait items) ∙ load-same w l m (asked m b nowait items l)
