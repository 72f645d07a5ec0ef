-- How many items a load brings into the transfer queue.
use Rattle.std.proofs.Common.{◌≡◌, ℕ, suc, ◌+◌, List, [], ◌∷◌, length, refl, ap}
use Rattle.busdma_base.specs.declared.scenarios.script.Item.{Item}
use Rattle.busdma_base.specs.Scenarios.Queues.{queued_from}

pub length-queued_from : (load_at place : ℕ) (items : List Item) →
    length (queued_from load_at place items) ≡ length items
length-queued_from load_at place [] = refl
length-queued_from load_at place (i ∷ items) = ap suc (length-queued_from load_at (place + 1) items)
