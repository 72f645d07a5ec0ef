-- What was last written is defined without ideal memories.
use Rattle.std.proofs.Common.{◌≡◌, List, [], ◌∷◌, Option, Some, None, refl, slice_get}
use Rattle.busdma_base.specs.declared.journals.answer.Answer.{Answer}
use Rattle.busdma_base.specs.declared.journals.journal.Did.{Did}
use Rattle.busdma_base.specs.declared.journals.journal.Did.TheVariants as did
use Rattle.busdma_base.specs.declared.scenarios.queued.QueuedItem.{QueuedItem}
use Rattle.busdma_base.specs.declared.scenarios.script.Item.{Item}
use Rattle.busdma_base.specs.declared.scenarios.script.Item.TheVariants as item
use Rattle.busdma_base.specs.declared.scenarios.script.Op.{Op}
use Rattle.busdma_base.specs.declared.scenarios.script.Op.TheVariants as op
use Rattle.ideal_lane.specs.IdealMemory.{IdealMemory}
use Rattle.ideal_lane.specs.Sends.{Send, send_at, with_bytes}
use Rattle.ideal_lane.specs.State.{LaneState}
use Rattle.ideal_laws.specs.LastWrites.{Written, by_did, by_first, by_item, by_next, by_operation, by_send}

module _ (a : Answer) (l after : LaneState) (memory other : IdealMemory) (w : Written) where
  same-operation : (o : Op) →
      by_operation o a (with_bytes memory l) (with_bytes other after) w ≡ by_operation o a l after w
  same-operation (op.CpuWrite place bytes) = refl
  same-operation _ = refl

  same-next : (q : Option Op) → by_next q a (with_bytes memory l) (with_bytes other after) w ≡ by_next q a l after w
  same-next None = refl
  same-next (Some o) = same-operation o

  same-send : (q : Option Send) → by_send q a (with_bytes memory l) w ≡ by_send q a l w
  same-send None = refl
  same-send (Some s) = refl

  same-item : (i : Item) → by_item i a (with_bytes memory l) w ≡ by_item i a l w
  same-item (item.DevWrite map off bytes) = refl
  same-item _ = refl

  same-first : (qs : List QueuedItem) → by_first qs a (with_bytes memory l) w ≡ by_first qs a l w
  same-first [] = refl
  same-first (q ∷ rest) = same-item q.item

  pub same-did : (d : Did) → by_did d a (with_bytes memory l) (with_bytes other after) w ≡ by_did d a l after w
  same-did (did.Op place) = same-next (slice_get l.script place)
  same-did (did.Again place) = same-send (send_at l.script place)
  same-did (did.Item load_at place) = same-first l.queue
  same-did _ = refl
