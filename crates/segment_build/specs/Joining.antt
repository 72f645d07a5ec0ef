-- How pieces join to segments one after the other. Only the private steps of the code use this, and no public
-- clause cites it.
use Rattle.std.specs.Prelude.{if◌then◌else◌, List, [], ◌∷◌, Option, Some, None}
use Rattle.busdma_machine.specs.declared.machine.address.Segment.{Segment}
use Rattle.busdma_machine.specs.declared.tags.tag.TagLimits.{TagLimits}
use Rattle.busdma_rules.specs.Segments.Segmentation.{joint, may_join}

-- the segments after one more piece, which joins the last segment if it may
abbrev pub extent_added : TagLimits → List Segment → Segment → List Segment
extent_added t [] p = p ∷ []
extent_added t (s ∷ []) p = if may_join t s p then joint s p ∷ [] else s ∷ p ∷ []
extent_added t (s ∷ r ∷ rs) p = s ∷ extent_added t (r ∷ rs) p

-- the segments after more pieces
abbrev pub added_all : TagLimits → List Segment → List Segment → List Segment
added_all t segments [] = segments
added_all t segments (p ∷ ps) = added_all t (extent_added t segments p) ps

-- the last segment joined with a piece, if the piece may join it
abbrev pub extents_joined : TagLimits → Option Segment → Segment → Option Segment
extents_joined t None p = None
extents_joined t (Some s) p = if may_join t s p then Some (joint s p) else None
