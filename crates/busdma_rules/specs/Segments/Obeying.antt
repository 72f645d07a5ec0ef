-- When the segments of a load obey its tag.
use Rattle.std.specs.Prelude.{◌≡◌, ◌≢◌, ℕ, ◌+◌, ◌-◌, ◌/◌, ◌%◌, ◌<◌, ◌≤◌, true, false, List, [], length, sum_by}
use Rattle.std.specs.Prelude.{Contains}
use Rattle.busdma_machine.specs.declared.machine.address.Pa.{Pa}
use Rattle.busdma_machine.specs.declared.machine.address.Segment.{Segment}
use Rattle.busdma_machine.specs.declared.machine.chunk.Chunk.{Chunk}
use Rattle.busdma_machine.specs.declared.tags.tag.TagLimits.{TagLimits}
use Rattle.busdma_machine.specs.Each.{EachAfter}
use Rattle.busdma_machine.specs.Tags.Tag.{excluded}
use Rattle.busdma_machine.specs.Tags.TagFlags.{keep_pg_offset}
use Rattle.busdma_rules.specs.Segments.Trace.{IsPage}

-- the device reaches each byte of the segment
abbrev pub IsSegmentReached : TagLimits → Segment → Type 0
IsSegmentReached t s = (k : ℕ) → k < s.len → excluded t (s.addr.0 + k) ≡ false

-- the segment crosses no multiple of the boundary, if there is a boundary
abbrev pub LiesInWindow : TagLimits → Segment → Type 0
LiesInWindow t s = t.boundary ≢ 0 → s.addr.0 / t.boundary ≡ (s.addr.0 + s.len - 1) / t.boundary

-- a segment that begins with a chunk begins at a multiple of the alignment; or, if the tag keeps offsets, it has the
-- same offset in its page as the first byte of the chunk in its frame
abbrev pub BeginsWith : TagLimits → Segment → Chunk → Type 0
BeginsWith t s c =
    (keep_pg_offset t.flags ≡ false → s.addr.0 % t.alignment ≡ 0)
    × (keep_pg_offset t.flags ≡ true → s.addr.0 % 4096 ≡ c.first.pa.0 % 4096)

-- maxsegsz and boundary are multiples of the alignment
abbrev pub HasAlignedSizes : TagLimits → Type 0
HasAlignedSizes t = (t.maxsegsz % t.alignment ≡ 0) × (t.boundary % t.alignment ≡ 0)

-- how many bytes segments have together
abbrev pub segments_bytes : List Segment → ℕ
segments_bytes segments = sum_by (λ s. s.len) segments

-- a segment that follows these others obeys the tag
pub record IsObeying (t : TagLimits) (chunks : List Chunk) (before : List Segment) (s : Segment) : Type 0 where
  pub some : 1 ≤ s.len
  pub short : s.len ≤ t.maxsegsz
  pub window : LiesInWindow t s
  pub reached : IsSegmentReached t s
  pub begins : (c : Chunk) → Contains chunks c → c.at ≡ segments_bytes before → BeginsWith t s c
  pub aligned : keep_pg_offset t.flags ≡ false → HasAlignedSizes t → s.addr.0 % t.alignment ≡ 0

-- the segments of these chunks obey the tag: they are few enough, and each of them obeys it
pub record Obeys (t : TagLimits) (chunks : List Chunk) (segments : List Segment) : Type 0 where
  pub few : length segments ≤ t.nsegments
  pub each : EachAfter (IsObeying t chunks) [] segments

-- a page that the device reaches: a frame that begins at or below lowaddr
abbrev pub IsReachable : TagLimits → Pa → Type 0
IsReachable t page = IsPage page × (page.0 ≤ t.lowaddr.0)
