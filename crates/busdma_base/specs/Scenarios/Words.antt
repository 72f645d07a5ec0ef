-- The words of operations and items, as scenarios and reports have them.
use Rattle.std.specs.Prelude.{ℕ, List, [], ◌∷◌, Option, codes}
use Rattle.std.specs.List.{find}
use Rattle.std.specs.Str.{bytes_eq}
use Rattle.busdma_base.specs.declared.scenarios.words.OpWord.{OpWord}
use Rattle.busdma_base.specs.declared.scenarios.words.OpWord.TheVariants as op
use Rattle.busdma_base.specs.declared.scenarios.words.ItemWord.{ItemWord}
use Rattle.busdma_base.specs.declared.scenarios.words.ItemWord.TheVariants as item

-- the text of an operation's word
abbrev pub op_word_text : OpWord → List ℕ
op_word_text op.Tag = codes "tag"
op_word_text op.IommuTag = codes "iommu_tag"
op_word_text op.TagDestroy = codes "tag_destroy"
op_word_text op.Map = codes "map"
op_word_text op.MapDestroy = codes "map_destroy"
op_word_text op.Dmamem = codes "dmamem"
op_word_text op.DmamemFree = codes "dmamem_free"
op_word_text op.Load = codes "load"
op_word_text op.LoadVector = codes "load_vector"
op_word_text op.LoadMbuf = codes "load_mbuf"
op_word_text op.LoadBio = codes "load_bio"
op_word_text op.Send = codes "send"
op_word_text op.Unload = codes "unload"
op_word_text op.Sync = codes "sync"
op_word_text op.SyncRange = codes "sync_range"
op_word_text op.CpuRead = codes "cpu_read"
op_word_text op.CpuWrite = codes "cpu_write"
op_word_text op.Await = codes "await"
op_word_text op.Ring = codes "ring"
op_word_text op.RingPost = codes "ring_post"
op_word_text op.Kick = codes "kick"

-- the words of all operations
abbrev pub op_words : List OpWord
op_words =
    op.Tag ∷ op.IommuTag ∷ op.TagDestroy ∷ op.Map ∷ op.MapDestroy ∷ op.Dmamem ∷ op.DmamemFree ∷ op.Load ∷ op.LoadVector
    ∷ op.LoadMbuf ∷ op.LoadBio ∷ op.Send ∷ op.Unload ∷ op.Sync ∷ op.SyncRange ∷ op.CpuRead ∷ op.CpuWrite ∷ op.Await
    ∷ op.Ring
    ∷ op.RingPost ∷ op.Kick ∷ []

-- the word of an operation that has this text, if there is one
abbrev pub op_word_of : List ℕ → Option OpWord
op_word_of text = find (λ w. bytes_eq (op_word_text w) text) op_words

-- the text of an item's word
abbrev pub item_word_text : ItemWord → List ℕ
item_word_text item.Sync = codes "sync"
item_word_text item.SyncRange = codes "sync_range"
item_word_text item.DevRead = codes "dev_read"
item_word_text item.DevWrite = codes "dev_write"
item_word_text item.DevReadAt = codes "dev_read_at"
item_word_text item.DevWriteAt = codes "dev_write_at"
item_word_text item.RingStep = codes "ring_step"

-- the words of all items
abbrev pub item_words : List ItemWord
item_words =
    item.Sync ∷ item.SyncRange ∷ item.DevRead ∷ item.DevWrite ∷ item.DevReadAt ∷ item.DevWriteAt ∷ item.RingStep ∷ []

-- the word of an item that has this text, if there is one
abbrev pub item_word_of : List ℕ → Option ItemWord
item_word_of text = find (λ w. bytes_eq (item_word_text w) text) item_words
