-- What the private steps of an access do; no public clause cites them.
use Rattle.std.specs.Prelude.{ℕ, ◌^◌, ◌<◌, List, [], ◌∷◌, drop}
use Rattle.busdma_machine.specs.declared.machine.address.Segment.{Segment}
use Rattle.busdma_rules.specs.Segments.Segmentation.{segment_bytes}
use Rattle.device_model.specs.declared.cursor.Cursor.{Cursor}

-- the bus addresses of the bytes of segments, from a place in one of them on
abbrev pub rest_from : List Segment → ℕ → ℕ → List ℕ
rest_from segments index skip = drop skip (segment_bytes (drop index segments))

-- the bus addresses of the bytes from a cursor's place on
abbrev pub rest_of : Cursor → List ℕ
rest_of c = rest_from c.segments.now c.index c.skip

-- the first of these addresses, if there is one, lies in a frame with a number below 2^30
abbrev pub BeginsLow : List ℕ → Type 0
BeginsLow [] = Unit {0}
BeginsLow (a ∷ rest) = a < 2 ^ 42
