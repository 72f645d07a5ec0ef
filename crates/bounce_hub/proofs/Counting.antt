-- The counts of zones.
use Rattle.std.proofs.Common.{◌≡◌, ℕ, ◌+◌, ◌-◌, ◌<◌, List, [], length, get_or, slice_index, refl, ap, ◌∙◌, arith}
use Rattle.std.proofs.lemmas.List.{length-map}
use Rattle.busdma_machine.specs.declared.bounce.zone.ZoneCounts.{ZoneCounts}
use Rattle.busdma_machine.specs.Bounce.Account.{Account, zone_at, reserved, active, free, total, counts}
use Rattle.busdma_machine.specs.Machine.PageList.{page_address}
use Rattle.bounce_hub.specs.declared.hub_zone.HubZone.{HubZone}
use Rattle.bounce_hub.specs.declared.pool.Pool.{Pool}
use Rattle.bounce_hub.specs.HubZones.{HaveCounts, counts_at}
use Rattle.bounce_hub.specs.Pools.{Matches, PoolAgrees}
use Rattle.bounce_hub.specs.Seen.{AreCounts}

abbrev numbers : ℕ → ℕ → ℕ → ℕ → ℕ → ℕ → ℕ → ℕ → ZoneCounts
numbers total free reserved active bounced deferred lowaddr alignment = record {
  total = total;
  free = free;
  reserved = reserved;
  active = active;
  bounced = bounced;
  deferred = deferred;
  lowaddr = record { 0 = lowaddr };
  alignment = alignment;
}

same-numbers : (n t u f g r s a b d e l m x y : ℕ) → t ≡ u → f ≡ g → r ≡ s → a ≡ b → d ≡ e → l ≡ m → x ≡ y →
    numbers t f r a n d l x ≡ numbers u g s b n e m y
same-numbers n t u f g r s a b d e l m x y tu fg rs ab de lm xy = rw (tu, fg, rs, ab, de, lm, xy) refl

counts-is : (bounced : List ℕ) (s : HubZone) (a : Account) (z : ℕ) → Matches s a z →
    counts_at bounced z s ≡ counts a (slice_index bounced z) z
counts-is bounced s a z here =
    let pages : length s.zone.pages ≡ length (zone_at a z).avail =
    omega (arith, ap (λ (x : List ℕ). length x) here.avail, length-map s.zone.pages page_address) in
    same-numbers (slice_index bounced z) (length s.zone.pages + s.zone.active) (total a z)
    (length s.zone.pages - s.zone.reserved) (free a z)
    s.zone.reserved (reserved a z) s.zone.active (active a z) s.deferred (zone_at a z).deferred s.zone.lowaddr
    (zone_at a z).lowaddr s.zone.alignment (zone_at a z).alignment
    (omega (arith, pages, here.active)) (omega (arith, pages, here.reserved)) here.reserved here.active
    here.deferred here.lowaddr here.alignment

pub are-counts : (p : Pool) (bounced : List ℕ) (a : Account) (cs : List ZoneCounts) → PoolAgrees p a →
    HaveCounts p.zones.items bounced cs → AreCounts cs bounced a
are-counts p bounced a cs agrees have = record {
  count = have.count ∙ agrees.count;
  each = λ z d below. (let inside : z < length p.zones.items = omega (arith, below, have.count) in
      let s : HubZone = no_zone in
      have.each z below s d
      ∙ counts-is bounced (get_or p.zones.items z s) a z (agrees.zones z s inside));
}
  where
    no_zone : HubZone
    no_zone =
        record {
          zone = record { lowaddr = 0; alignment = 0; pages = []; reserved = 0; active = 0 };
          wait = [];
          maps = 0;
          deferred = 0;
        }
