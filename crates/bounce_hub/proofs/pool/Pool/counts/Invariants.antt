use Rattle.std.proofs.Common.{◌≡◌, ℕ, ◌<◌, ◌≤◌, length, get_or, vec_len, vec_capacity}
use Rattle.busdma_machine.specs.declared.bounce.zone.ZoneCounts.{ZoneCounts}
use Rattle.bounce_hub.specs.declared.hub_zone.HubZone.{HubZone}
use Rattle.bounce_hub.specs.HubZones.{counts_at}
use Rattle.bounce_hub.proofs.pool.Pool.counts.Given as goal

abbrev pub invariant-loop-hub_zone : goal.invariant-loop-hub_zone
invariant-loop-hub_zone l = record {
  written : (z : ℕ) → z < l.hub_zone-index → (s : HubZone) (d : ZoneCounts) →
      get_or l.counts.items z d ≡ counts_at l.bounced z (get_or l.hub_zone-items z s);
  len : vec_len l.counts ≡ l.hub_zone-index;
  room : length l.hub_zone-items ≤ vec_capacity l.counts;
}
