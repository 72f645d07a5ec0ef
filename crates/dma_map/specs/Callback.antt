-- What a driver's callback returns, after bus_dmamap_load(9).
use Rattle.std.specs.Prelude.{List, Option, Some, None}
use Rattle.busdma_base.specs.declared.scenarios.script.Item.{Item}
use Rattle.dma_map.specs.declared.callback.LoadEnd.{LoadEnd}
use Rattle.dma_map.specs.declared.callback.LoadEnd.TheVariants.{Segments, Refused}

-- the items that a load appends: its own if it ends in segments, and none if it is refused
abbrev pub appended : List Item → LoadEnd → Option (List Item)
appended items (Segments segments) = Some items
appended items (Refused errno) = None
