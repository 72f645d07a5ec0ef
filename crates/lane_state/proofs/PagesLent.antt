-- A map whose pages are lent out and taken back.
use Rattle.std.proofs.Common.{◌≡◌, Some, sym, ap}
use Rattle.busdma_machine.specs.Machine.PageList.{RoomyPages}
use Rattle.lane_state.specs.declared.kept.KeptLoad.{KeptLoad}
use Rattle.dma_map.specs.MapView as held
use Rattle.lane_state.specs.Kept.{device_in}

-- the pages that a load has are those that it lends
pub lent-pages : (s : held.HeldStage KeptLoad) (p : RoomyPages) → held.held_pages_of s ≡ Some p →
    (device_in s).pages ≡ p.items
lent-pages held.idle p h = absurd (cc)
lent-pages (held.waiting load_at callback room) p h = absurd (cc)
lent-pages (held.loaded bounced segments pages) p h =
    let same : pages ≡ p = cc in ap (λ (q : RoomyPages). q.items) same
lent-pages (held.lent bounced segments frames) p h = absurd (cc)
lent-pages held.returning p h = absurd (cc)

-- a load whose pages are taken back as they were is what it was
pub lent-back : (s : held.HeldStage KeptLoad) (p : RoomyPages) → held.held_pages_of s ≡ Some p →
    held.with_pages p (held.without_pages p.items s) ≡ s
lent-back held.idle p h = absurd (cc)
lent-back (held.waiting load_at callback room) p h = absurd (cc)
lent-back (held.loaded bounced segments pages) p h =
    let same : pages ≡ p = cc in ap (held.loaded bounced segments) (sym same)
lent-back (held.lent bounced segments frames) p h = absurd (cc)
lent-back held.returning p h = absurd (cc)
