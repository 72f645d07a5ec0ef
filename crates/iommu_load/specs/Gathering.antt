-- What the private steps of the code do; no public clause cites them.
-- How the extents of an entry are gathered into one run of device addresses, one extent after the other.
use Rattle.std.specs.Prelude.{◌≡◌, ℕ, ◌+◌, ◌*◌, ◌%◌, Bool, true, false, List, [], ◌∷◌, ◌++◌, Option, Some, None}
use Rattle.std.specs.List.{flat_map}
use Rattle.std.specs.Option.{option_to_list}
use Rattle.busdma_machine.specs.declared.machine.address.Segment.{Segment}
use Rattle.busdma_machine.specs.declared.machine.chunk.Part.{Part}
use Rattle.busdma_machine.specs.declared.machine.chunk.Part.TheVariants.{Of, Unmapped}
use Rattle.busdma_machine.specs.declared.tags.tag.TagLimits.{TagLimits}
use Rattle.busdma_machine.specs.Runs.{run_of}
use Rattle.busdma_rules.specs.Segments.Pieces.{pieces_of}
use Rattle.busdma_rules.specs.Segments.Built.{AreTooMany, IsFew}
use Rattle.iommu_load.specs.declared.gatherer.Gatherer.{Gatherer}

-- what is known before the first extent, whose device page is `first`
abbrev pub ungathered : ℕ → Gatherer
ungathered first = record { page = first; run = record { addr = record { 0 = 0 }; len = 0 } }

-- what is known after one more part
abbrev pub after_part : Gatherer → Part → Gatherer
after_part s (Of e true r) = record {
  page = s.page + 1;
  run = record { addr = record { 0 = 4096 * s.page + e.pa.0 % 4096 }; len = e.len };
}
after_part s (Of e false r) = record { page = s.page + 1; run = record { addr = s.run.addr; len = s.run.len + e.len } }
after_part s (Unmapped n) = s

-- the run that a part ends: the run of the entry before, if the part opens an entry
abbrev pub ended_run : Gatherer → Part → Option Segment
ended_run s (Of e true r) = Some s.run
ended_run s (Of e false r) = None
ended_run s (Unmapped n) = None

-- what is known after several parts
abbrev pub gathered_after : Gatherer → List Part → Gatherer
gathered_after s [] = s
gathered_after s (p ∷ ps) = gathered_after (after_part s p) ps

-- the runs that several parts end, in order
abbrev pub gathering_ended : Gatherer → List Part → List Segment
gathering_ended s [] = []
gathering_ended s (p ∷ ps) = option_to_list (ended_run s p) ++ gathering_ended (after_part s p) ps

-- the pieces of several runs, in order
abbrev pub pieces_of_runs : TagLimits → List Segment → List Segment
pieces_of_runs t runs = flat_map (λ r. pieces_of t (run_of r.addr.0 r.len)) runs

-- what is built of some pieces: their segments while these are few enough, and otherwise that they are too many
pub record AreSoFar (t : TagLimits) (pieces segments : List Segment) (few : Bool) : Type 0 where
  pub segments_are : few ≡ true → IsFew t pieces segments
  pub too_many : few ≡ false → AreTooMany t pieces
