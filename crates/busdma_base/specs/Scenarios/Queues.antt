-- The items of a driver's transfer queue.
use Rattle.std.specs.Prelude.{ℕ, ◌+◌, Bool, ◌&&◌, ◌==◌, List, [], ◌∷◌, length, sum_by}
use Rattle.std.specs.List.{list_any}
use Rattle.busdma_base.specs.declared.scenarios.script.Op.{Op}
use Rattle.busdma_base.specs.declared.scenarios.script.Item.{Item}
use Rattle.busdma_base.specs.declared.scenarios.operations.NameKind.TheVariants.{Map}
use Rattle.busdma_base.specs.declared.scenarios.operations.UsedName.{UsedName}
use Rattle.busdma_base.specs.Scenarios.Names.{accepts}
use Rattle.busdma_base.specs.Scenarios.Operations.{about_item, items_of}
use Rattle.busdma_base.specs.declared.scenarios.queued.QueuedItem.{QueuedItem}

-- how many items a script has
abbrev pub script_items : List Op → ℕ
script_items script = sum_by (λ o. length (items_of o)) script

-- items in the form in which the transfer queue has them: the operation at `load_at` queued them, and they have rising
-- places among its items, from `place` on
abbrev pub queued_from : ℕ → ℕ → List Item → List QueuedItem
queued_from load_at place [] = []
queued_from load_at place (i ∷ items) =
    record { load_at = load_at; place = place; item = i } ∷ queued_from load_at (place + 1) items

-- all items of the operation at `load_at`, in the form in which the transfer queue has them
abbrev pub queued_items : ℕ → List Item → List QueuedItem
queued_items load_at items = queued_from load_at 0 items

-- a used name is the name of the map that was made at a place of the script
abbrev pub is_map_at : ℕ → UsedName → Bool
is_map_at made_at used = accepts used.used_as Map && (used.made_at == made_at)

-- An item names the map that was made at a place of the script. A step of a ring names only its ring, and an access at
-- a device address only its tag.
abbrev pub item_names : ℕ → Item → Bool
item_names made_at i = is_map_at made_at (about_item i).uses

-- an item of the queue names the map that was made at a place of the script
abbrev pub queue_names : ℕ → List QueuedItem → Bool
queue_names made_at queue = list_any (λ q. item_names made_at q.item) queue
