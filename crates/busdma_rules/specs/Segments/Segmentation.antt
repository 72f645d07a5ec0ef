-- The segments that pieces join to: runs of pieces, each as long as it can be.
use Rattle.std.specs.Prelude.{◌≡◌, ℕ, ◌+◌, ◌/◌, ◌==◌, Bool, true, false, ◌&&◌, ◌||◌, nat_le, if◌then◌else◌, List, []}
use Rattle.std.specs.Prelude.{◌∷◌, map}
use Rattle.std.specs.List.{flat_map}
use Rattle.busdma_machine.specs.declared.machine.address.Segment.{Segment}
use Rattle.busdma_machine.specs.declared.tags.tag.TagLimits.{TagLimits}
use Rattle.busdma_machine.specs.Runs.{run_of}

-- a run: one or more pieces, in order
pub record PieceRun : Type 0 where
  pub first : Segment
  pub others : List Segment

-- two segments as one, if the second begins at the end of the first
abbrev pub joint : Segment → Segment → Segment
joint s p = record { addr = s.addr; len = s.len + p.len }

-- two segments begin between the same multiples of the boundary, if there is a boundary
abbrev pub same_window : TagLimits → Segment → Segment → Bool
same_window t s p = t.boundary == 0 || s.addr.0 / t.boundary == p.addr.0 / t.boundary

-- a piece can join the pieces before it: it begins at their end, together they are at most maxsegsz bytes, and both
-- begin between the same multiples of the boundary
abbrev pub may_join : TagLimits → Segment → Segment → Bool
may_join t s p = p.addr.0 == s.addr.0 + s.len && nat_le (s.len + p.len) t.maxsegsz && same_window t s p

-- the segment of s and the pieces that follow it
abbrev pub pieces_grown : Segment → List Segment → Segment
pieces_grown s [] = s
pieces_grown s (p ∷ ps) = pieces_grown (joint s p) ps

-- the segment of a run: it begins with the first piece, and has the bytes of all its pieces
abbrev pub segment_of : PieceRun → Segment
segment_of r = pieces_grown r.first r.others

-- the pieces of a run, in order
abbrev pub run_pieces : PieceRun → List Segment
run_pieces r = r.first ∷ r.others

-- each of these pieces can join the ones before it, which are s at first
abbrev pub EachJoins : TagLimits → Segment → List Segment → Type 0
EachJoins t s [] = Unit {0}
EachJoins t s (p ∷ ps) = (may_join t s p ≡ true) × EachJoins t (joint s p) ps

-- the first piece of the next run, if there is one, cannot join s
abbrev pub NextIsApart : TagLimits → Segment → List PieceRun → Type 0
NextIsApart t s [] = Unit {0}
NextIsApart t s (r ∷ rs) = may_join t s r.first ≡ false

-- in each run each piece can join the ones before it, and the first piece of the next run cannot join the run before it
abbrev pub AreRuns : TagLimits → List PieceRun → Type 0
AreRuns t [] = Unit {0}
AreRuns t (r ∷ rs) = EachJoins t r.first r.others × NextIsApart t (segment_of r) rs × AreRuns t rs

-- pieces join to these segments: each segment is a run of pieces, and the runs have all pieces in order
pub record IsSegmentation (t : TagLimits) (segments pieces : List Segment) : Type 0 where
  pub runs : List PieceRun
  pub pieces_are : flat_map run_pieces runs ≡ pieces
  pub segments_are : map segment_of runs ≡ segments
  pub joined : AreRuns t runs

-- these segments and no others are the segmentation of the pieces
pub record IsOnlySegmentation (t : TagLimits) (segments pieces : List Segment) : Type 0 where
  pub is : IsSegmentation t segments pieces
  pub only : (others : List Segment) → IsSegmentation t others pieces → others ≡ segments

-- the segments of s and of the pieces after it, joined from the front
abbrev pub segments_from : TagLimits → Segment → List Segment → List Segment
segments_from t s [] = s ∷ []
segments_from t s (p ∷ ps) =
    if may_join t s p then segments_from t (joint s p) ps else s ∷ segments_from t p ps

-- the segments of pieces, joined from the front
abbrev pub segmentation : TagLimits → List Segment → List Segment
segmentation t [] = []
segmentation t (p ∷ ps) = segments_from t p ps

-- the bus addresses of the bytes of segments, in order
abbrev pub segment_bytes : List Segment → List ℕ
segment_bytes segments = flat_map (λ s. run_of s.addr.0 s.len) segments
