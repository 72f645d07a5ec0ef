-- Sends, each read by itself and by the operations before it, with the clusters that they name.
use Rattle.std.specs.Prelude.{ℕ, ◌+◌, ◌%◌, ◌==◌, ◌||◌, Bool, List, [], ◌∷◌, Ok, codes, if◌then◌else◌, max, min, nat_lt}
use Rattle.std.specs.Prelude.{not}
use Rattle.std.specs.List.{list_any}
use Rattle.busdma_machine.specs.declared.machine.address.Span.{Span}
use Rattle.busdma_machine.specs.declared.machine.address.Va.{Va}
use Rattle.busdma_base.specs.declared.scenarios.buffer.Buffer.TheVariants as buffer
use Rattle.busdma_base.specs.declared.scenarios.script.Op.{Op}
use Rattle.scenario_format.specs.declared.refusal.RefusalKind.TheVariants.{BadField}
use Rattle.scenario_format.specs.Json.Field.{Spot, only_keys, one_of, required}
use Rattle.scenario_format.specs.Json.Items.{each}
use Rattle.scenario_format.specs.Json.Number.{read_number}
use Rattle.scenario_format.specs.Json.DocumentPlaces.{DocumentPlace}
use Rattle.scenario_format.specs.Json.Read.{Read, ◌>>=◌, refuse}
use Rattle.busdma_rules.specs.Memory.Clusters.{plan}
use Rattle.scenario_format.specs.declared.counts.Counts.{Counts}
use Rattle.scenario_format.specs.Scripts.Loads.{load_of, read_loaded_map}
use Rattle.scenario_format.specs.Parts.Spans.{read_entries, entries_field}

-- a cluster at this address and a span have a byte in common; a span without bytes has none
abbrev pub shares : ℕ → Span → Bool
shares va s = nat_lt (max va s.va.0) (min (va + 4096) (s.va.0 + s.len))

-- the cluster is at this address
abbrev pub is_cluster : ℕ → Va → Bool
is_cluster va c = c.0 == va

-- a cluster at this address; it is refused if the address is not a multiple of 4096, is given twice, or has a byte in
-- common with the chain
abbrev pub cluster_or : List Span → List Va → DocumentPlace → ℕ → Read Va
cluster_or chain before place va =
    if not (va % 4096 == 0) || list_any (is_cluster va) before || list_any (shares va) chain then refuse BadField place
    else Ok (record { 0 = va })

-- a cluster of a send, judged by the chain and by the clusters before it
unfoldable pub read_cluster : List Span → List Va → Spot → Read Va
read_cluster chain before here = read_number here >>= cluster_or chain before here.place

-- the list of clusters
unfoldable pub read_clusters : List Span → Spot → Read (List Va)
read_clusters chain here = read_entries here >>= each (read_cluster chain) here []

-- the list in `clusters`; a missing one is refused
unfoldable pub clusters_field : List Span → Spot → Read (List Va)
clusters_field chain here = required (codes "clusters") here >>= read_clusters chain

-- a send; it has no flags, because the key `flags` is not allowed
unfoldable pub read_send : List Op → Counts → Spot → Read Op
read_send before c here =
    only_keys (one_of (codes "op" ∷ codes "map" ∷ codes "entries" ∷ codes "clusters" ∷ codes "then" ∷ [])) here
    >>= (λ _.
    read_loaded_map before here >>= (λ map.
    entries_field here >>= (λ chain.
    clusters_field chain here >>= (λ clusters.
    load_of before c here map (buffer.Send chain (plan chain clusters))))))
