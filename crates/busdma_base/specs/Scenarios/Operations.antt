-- What each operation and each item is about: its word, its names, and the bytes that it works on.
use Rattle.std.specs.Prelude.{ℕ, List, [], ◌∷◌, Option, Some, None, length, replicate, sum_by, ◌+◌, slice_get}
use Rattle.std.specs.Option.{option_map, option_map_or}
use Rattle.busdma_base.specs.declared.scenarios.buffer.Buffer.{Buffer}
use Rattle.busdma_base.specs.declared.scenarios.buffer.Buffer.TheVariants as buffer
use Rattle.busdma_base.specs.declared.scenarios.script.Bytes.{Bytes}
use Rattle.busdma_base.specs.declared.scenarios.script.Bytes.TheVariants as bytes
use Rattle.busdma_base.specs.declared.scenarios.script.Item.{Item}
use Rattle.busdma_base.specs.declared.scenarios.script.Item.TheVariants as item
use Rattle.busdma_base.specs.declared.scenarios.script.Op.{Op}
use Rattle.busdma_base.specs.declared.scenarios.script.Op.TheVariants as op
use Rattle.busdma_base.specs.declared.scenarios.script.Place.{Place}
use Rattle.busdma_base.specs.declared.scenarios.script.Place.TheVariants as place
use Rattle.busdma_base.specs.declared.scenarios.operations.NameKind.{NameKind}
use Rattle.busdma_base.specs.declared.scenarios.operations.NameKind.TheVariants as kind
use Rattle.busdma_base.specs.declared.scenarios.operations.NameUse.TheVariants as use_as
use Rattle.busdma_base.specs.declared.scenarios.operations.UsedName.{UsedName}
use Rattle.busdma_base.specs.declared.scenarios.operations.MadeName.{MadeName}
use Rattle.busdma_base.specs.declared.scenarios.operations.Object.{Object as SeenObject}
use Rattle.busdma_base.specs.declared.scenarios.operations.Object.TheVariants as seen
use Rattle.busdma_base.specs.declared.scenarios.words.OpWord.{OpWord}
use Rattle.busdma_base.specs.declared.scenarios.words.OpWord.TheVariants as op_word
use Rattle.busdma_base.specs.declared.scenarios.words.ItemWord.{ItemWord}
use Rattle.busdma_base.specs.declared.scenarios.words.ItemWord.TheVariants as item_word
use Rattle.busdma_base.specs.Scenarios.Buffers.{buffer_word, counted_bytes}

-- a name that an operation makes, and the kind of thing that it names
pub record Made : Type 0 where
  pub kind : NameKind
  pub name : List ℕ

-- what an operation is about: its word, the name that it makes, the names that it uses, the memory in which its bytes
-- lie, its items, the buffer that it loads, and how many bytes it reads and writes
pub record About : Type 0 where
  pub word : OpWord
  pub makes : Option Made
  pub uses : List UsedName
  pub within : List UsedName
  pub items : List Item
  pub loads : Option Buffer
  pub reads : ℕ
  pub writes : ℕ

-- what an item is about: its word, the name that it uses, and how many bytes it reads and writes
pub record AboutItem : Type 0 where
  pub word : ItemWord
  pub uses : UsedName
  pub reads : ℕ
  pub writes : ℕ

-- the bytes of a write, in order
abbrev pub bytes_of : Bytes → List ℕ
bytes_of (bytes.Listed bs) = bs
bytes_of (bytes.Filled b n) = replicate n b

-- the name of a tag that is made
abbrev pub new_tag : List ℕ → Option Made
new_tag name = Some (record { kind = kind.Tag; name = name })

-- the name of an IOMMU tag that is made
abbrev pub new_iommu_tag : List ℕ → Option Made
new_iommu_tag name = Some (record { kind = kind.IommuTag; name = name })

-- the name of a map that is made
abbrev pub new_map : List ℕ → Option Made
new_map name = Some (record { kind = kind.Map; name = name })

-- the name of a memory that is made
abbrev pub new_memory : List ℕ → Option Made
new_memory name = Some (record { kind = kind.Memory; name = name })

-- the name of a ring that is made
abbrev pub new_ring : List ℕ → Option Made
new_ring name = Some (record { kind = kind.Ring; name = name })

-- a use of the tag, not an IOMMU tag, that was made at a place of the script
abbrev pub tag_at : ℕ → UsedName
tag_at made_at = record { used_as = use_as.Tag; made_at = made_at }

-- a use of the IOMMU tag that was made at a place of the script
abbrev pub iommu_tag_at : ℕ → UsedName
iommu_tag_at made_at = record { used_as = use_as.IommuTag; made_at = made_at }

-- a use of the tag, of either kind, that was made at a place of the script
abbrev pub any_tag_at : ℕ → UsedName
any_tag_at made_at = record { used_as = use_as.AnyTag; made_at = made_at }

-- a use of the map, which can be a memory's own, that was made at a place of the script
abbrev pub map_at : ℕ → UsedName
map_at made_at = record { used_as = use_as.Map; made_at = made_at }

-- a use of the map, not a memory's own, that was made at a place of the script
abbrev pub map_alone_at : ℕ → UsedName
map_alone_at made_at = record { used_as = use_as.MapAlone; made_at = made_at }

-- a use of the memory that was made at a place of the script
abbrev pub memory_at : ℕ → UsedName
memory_at made_at = record { used_as = use_as.Memory; made_at = made_at }

-- a use of the ring that was made at a place of the script
abbrev pub ring_at : ℕ → UsedName
ring_at made_at = record { used_as = use_as.Ring; made_at = made_at }

-- the memory of a place, if the place is in a memory
abbrev pub place_within : Place → List UsedName
place_within (place.At va) = []
place_within (place.In mem off) = memory_at mem ∷ []

-- the memory in which a buffer begins, if it begins in a memory
abbrev pub buffer_within : Buffer → List UsedName
buffer_within (buffer.Flat at len) = place_within at
buffer_within (buffer.Vector spans) = []
buffer_within (buffer.Mbuf chain) = []
buffer_within (buffer.Bio b) = []
buffer_within (buffer.Send chain clusters) = []

-- the parent of a tag, if it has one
abbrev pub parents : Option ℕ → List UsedName
parents None = []
parents (Some place) = tag_at place ∷ []

-- an operation that makes and uses these names, and has no bytes, items or buffer
abbrev pub with_names : OpWord → Option Made → List UsedName → About
with_names word makes uses =
    record { word = word; makes = makes; uses = uses; within = []; items = []; loads = None; reads = 0; writes = 0 }

-- what each operation is about
abbrev pub about : Op → About
about (op.Tag name parent limits) = with_names op_word.Tag (new_tag name) (parents parent)
about (op.IommuTag name limits) = with_names op_word.IommuTag (new_iommu_tag name) []
about (op.TagDestroy tag) = with_names op_word.TagDestroy None (any_tag_at tag ∷ [])
about (op.Map name tag) = with_names op_word.Map (new_map name) (any_tag_at tag ∷ [])
about (op.MapDestroy map) = with_names op_word.MapDestroy None (map_alone_at map ∷ [])
about (op.Dmamem name tag flags) = with_names op_word.Dmamem (new_memory name) (tag_at tag ∷ [])
about (op.DmamemFree mem) = with_names op_word.DmamemFree None (memory_at mem ∷ [])
about (op.Load map buffer flags items) =
    record (with_names (buffer_word buffer) None (map_at map ∷ [])) {
      within = buffer_within buffer;
      items = items;
      loads = Some buffer;
    }
about (op.Unload map) = with_names op_word.Unload None (map_at map ∷ [])
about (op.Sync map ops) = with_names op_word.Sync None (map_at map ∷ [])
about (op.SyncRange map off len ops) = with_names op_word.SyncRange None (map_at map ∷ [])
about (op.CpuRead at len) = record (with_names op_word.CpuRead None []) { within = place_within at; reads = len }
about (op.CpuWrite at bs) =
    record (with_names op_word.CpuWrite None []) { within = place_within at; writes = length (bytes_of bs) }
about (op.Await map) = with_names op_word.Await None (map_at map ∷ [])
about (op.Ring name mem slots) = with_names op_word.Ring (new_ring name) (memory_at mem ∷ [])
about (op.RingPost ring slot map off len kind fill) =
    with_names op_word.RingPost None (ring_at ring ∷ map_at map ∷ [])
about (op.Kick ring steps) = record (with_names op_word.Kick None (ring_at ring ∷ [])) { items = steps }

-- what each item is about; the bytes that a descriptor names are not counted
abbrev pub about_item : Item → AboutItem
about_item (item.Sync map ops) = record { word = item_word.Sync; uses = map_at map; reads = 0; writes = 0 }
about_item (item.SyncRange map off len ops) =
    record { word = item_word.SyncRange; uses = map_at map; reads = 0; writes = 0 }
about_item (item.DevRead map off len) = record { word = item_word.DevRead; uses = map_at map; reads = len; writes = 0 }
about_item (item.DevWrite map off bs) =
    record { word = item_word.DevWrite; uses = map_at map; reads = 0; writes = length (bytes_of bs) }
about_item (item.DevReadAt tag addr len) =
    record { word = item_word.DevReadAt; uses = iommu_tag_at tag; reads = len; writes = 0 }
about_item (item.DevWriteAt tag addr bs) =
    record { word = item_word.DevWriteAt; uses = iommu_tag_at tag; reads = 0; writes = length (bytes_of bs) }
about_item (item.RingStep ring) = record { word = item_word.RingStep; uses = ring_at ring; reads = 0; writes = 0 }

-- the items of an operation
abbrev pub items_of : Op → List Item
items_of o = (about o).items

-- how many bytes an operation counts for the limit on all loads
abbrev pub loaded_by : Op → ℕ
loaded_by o = option_map_or counted_bytes (about o).loads 0

-- how many bytes an item reads
abbrev pub read_by_item : Item → ℕ
read_by_item i = (about_item i).reads

-- how many bytes an operation and its items read
abbrev pub read_by : Op → ℕ
read_by o = (about o).reads + sum_by read_by_item (about o).items

-- the name that a line of a journal shows
pub data Object : Type 0 where
  Makes : Made → Object
  Uses : UsedName → Object

-- the first of the names that an operation uses, if it uses one
abbrev pub first_used : List UsedName → Option Object
first_used uses = option_map Uses (slice_get uses 0)

-- the name that a line of a journal shows for an operation: the name that it makes, or else the first that it uses, or
-- none for an access of the driver to its memory
abbrev pub object_of : About → Option Object
object_of a = option_map_or (λ made. Some (Makes made)) a.makes (first_used a.uses)

-- the name that an operation makes, if it makes one
abbrev pub name_made_by : Op → Option (List ℕ)
name_made_by o = option_map (λ made. made.name) (about o).makes

-- the name that an operation makes, from the form in which code borrows it
abbrev pub made : MadeName → Made
made m = record { kind = m.kind; name = m.name.now }

-- the name that a line of a journal shows, from the form in which code borrows it
abbrev pub object : SeenObject → Object
object (seen.Makes m) = Makes (made m)
object (seen.Uses u) = Uses u
