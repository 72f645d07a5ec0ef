-- The items of a load, as they are read.
use Rattle.std.specs.Prelude.{List, [], ◌∷◌, length, Option, Some, None, Ok, codes}
use Rattle.busdma_base.specs.declared.scenarios.script.Op.{Op}
use Rattle.busdma_base.specs.declared.scenarios.script.Item.{Item}
use Rattle.busdma_base.specs.declared.scenarios.script.Item.TheVariants as item
use Rattle.busdma_base.specs.Scenarios.Operations.{bytes_of}
use Rattle.scenario_format.specs.Json.DocumentPlaces.{key}
use Rattle.scenario_format.specs.Json.Read.{Read, ◌>>=◌, refuse}
use Rattle.scenario_format.specs.declared.refusal.RefusalKind.TheVariants.{BadOp}
use Rattle.scenario_format.specs.Json.Field.{Spot, field, members_of, only_keys, one_of}
use Rattle.scenario_format.specs.Json.Number.{number_field}
use Rattle.scenario_format.specs.Json.Items.{read_items, each}
use Rattle.scenario_format.specs.declared.counts.Counts.{Counts}
use Rattle.busdma_base.specs.declared.scenarios.operations.NameUse.TheVariants as use_as
use Rattle.busdma_base.specs.declared.scenarios.words.ItemWord.{ItemWord}
use Rattle.busdma_base.specs.declared.scenarios.words.ItemWord.TheVariants as word
use Rattle.scenario_format.specs.Parts.Bytes.{read_written}
use Rattle.scenario_format.specs.Parts.Counts.{with_items, one_step_counted, steps_judged, access_judged, read_judged}
use Rattle.scenario_format.specs.Parts.Names.{used_name}
use Rattle.scenario_format.specs.Parts.Syncs.{read_sync_fields, read_range_fields}
use Rattle.scenario_format.specs.Parts.Words.{read_item_word}

-- a sync of all bytes of a map's load
unfoldable pub read_sync_item : List Op → Spot → Read Item
read_sync_item before here = read_sync_fields before here >>= (λ s. Ok (item.Sync s.map s.ops))

-- a sync of a range of a map's load
unfoldable pub read_sync_range_item : List Op → Spot → Read Item
read_sync_range_item before here = read_range_fields before here >>= (λ s. Ok (item.SyncRange s.map s.off s.len s.ops))

-- a read of the device
unfoldable pub read_dev_read : List Op → Counts → Spot → Read Item
read_dev_read before c here =
    only_keys (one_of (codes "op" ∷ codes "map" ∷ codes "off" ∷ codes "len" ∷ [])) here >>= (λ _.
    used_name use_as.Map (codes "map") before here >>= (λ map.
    number_field (codes "off") here >>= (λ off.
    number_field (codes "len") here >>= (λ n.
    read_judged c n here.place >>= (λ _.
    Ok (item.DevRead map off n))))))

-- a write of the device
unfoldable pub read_dev_write : List Op → Spot → Read Item
read_dev_write before here =
    only_keys (one_of (codes "op" ∷ codes "map" ∷ codes "off" ∷ codes "hex" ∷ codes "fill" ∷ codes "len" ∷ [])) here
    >>= (λ _.
    used_name use_as.Map (codes "map") before here >>= (λ map.
    number_field (codes "off") here >>= (λ off.
    read_written here >>= (λ bytes.
    access_judged (length (bytes_of bytes)) here.place >>= (λ _.
    Ok (item.DevWrite map off bytes))))))

-- a read of the device of an IOMMU tag, from a device address on
unfoldable pub read_raw_read : List Op → Counts → Spot → Read Item
read_raw_read before c here =
    only_keys (one_of (codes "op" ∷ codes "tag" ∷ codes "addr" ∷ codes "len" ∷ [])) here >>= (λ _.
    used_name use_as.IommuTag (codes "tag") before here >>= (λ tag.
    number_field (codes "addr") here >>= (λ addr.
    number_field (codes "len") here >>= (λ n.
    read_judged c n here.place >>= (λ _.
    Ok (item.DevReadAt tag addr n))))))

-- a write of the device of an IOMMU tag, from a device address on
unfoldable pub read_raw_write : List Op → Spot → Read Item
read_raw_write before here =
    only_keys (one_of (codes "op" ∷ codes "tag" ∷ codes "addr" ∷ codes "hex" ∷ codes "fill" ∷ codes "len" ∷ [])) here
    >>= (λ _.
    used_name use_as.IommuTag (codes "tag") before here >>= (λ tag.
    number_field (codes "addr") here >>= (λ addr.
    read_written here >>= (λ bytes.
    access_judged (length (bytes_of bytes)) here.place >>= (λ _.
    Ok (item.DevWriteAt tag addr bytes))))))

-- the item of a word. Only a kick gives the steps of a ring, so their word is refused like an unknown one.
abbrev pub item_by : ItemWord → List Op → Counts → Spot → Read Item
item_by word.Sync before c here = read_sync_item before here
item_by word.SyncRange before c here = read_sync_range_item before here
item_by word.DevRead before c here = read_dev_read before c here
item_by word.DevWrite before c here = read_dev_write before here
item_by word.DevReadAt before c here = read_raw_read before c here
item_by word.DevWriteAt before c here = read_raw_write before here
item_by word.RingStep before c here = refuse BadOp (key here.place (codes "op"))

-- an item is an object, is counted as a step, and is then read by its word
unfoldable pub read_item : List Op → Counts → Spot → Read Item
read_item before c here =
    members_of here >>= (λ _.
    steps_judged c 1 here.place >>= (λ _.
    read_item_word here >>= (λ w.
    item_by w before (one_step_counted c) here)))

-- the items of a list, each counted after those before it
unfoldable pub read_then : List Op → Counts → Spot → Read (List Item)
read_then before c here = read_items here >>= each (λ done. read_item before (with_items c done)) here []

-- the items of a list, or none if there is no list
abbrev pub then_or_none : List Op → Counts → Option Spot → Read (List Item)
then_or_none before c None = Ok []
then_or_none before c (Some spot) = read_then before c spot

-- the items of a load; it has none if no list is given
unfoldable pub then_field : List Op → Counts → Spot → Read (List Item)
then_field before c here = then_or_none before c (field (codes "then") here)
