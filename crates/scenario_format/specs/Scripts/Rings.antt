-- Rings of descriptors, what a driver posts to them, and the kicks of their devices, each read by itself and by the
-- operations before it.
use Rattle.std.specs.Prelude.{ℕ, List, [], ◌∷◌, Ok, codes, replicate, if◌then◌else◌, nat_le, ◌&&◌}
use Rattle.busdma_base.specs.declared.scenarios.operations.NameUse.TheVariants as use_as
use Rattle.busdma_base.specs.declared.scenarios.script.Item.TheVariants as item
use Rattle.busdma_base.specs.declared.scenarios.script.Op.{Op}
use Rattle.busdma_base.specs.declared.scenarios.script.Op.TheVariants as op
use Rattle.busdma_base.specs.Scenarios.Limits.{steps_limit}
use Rattle.scenario_format.specs.declared.refusal.RefusalKind.TheVariants.{BadField}
use Rattle.scenario_format.specs.Json.Field.{Spot, only_keys, one_of}
use Rattle.scenario_format.specs.Json.Number.{number_field}
use Rattle.scenario_format.specs.Json.DocumentPlaces.{DocumentPlace, key}
use Rattle.scenario_format.specs.Json.Read.{Read, ◌>>=◌, refuse}
use Rattle.scenario_format.specs.declared.counts.Counts.{Counts}
use Rattle.scenario_format.specs.Parts.Counts.{steps_judged}
use Rattle.scenario_format.specs.Parts.Names.{new_name, used_name}
use Rattle.scenario_format.specs.Parts.Numbers.{short_field, byte_field, byte_or}

-- the making of a ring in a memory
unfoldable pub read_ring : List Op → Spot → Read Op
read_ring before here =
    only_keys (one_of (codes "op" ∷ codes "name" ∷ codes "mem" ∷ codes "slots" ∷ [])) here >>= (λ _.
    new_name (codes "name") before here >>= (λ name.
    used_name use_as.Memory (codes "mem") before here >>= (λ mem.
    short_field (codes "slots") here >>= (λ slots.
    Ok (op.Ring name mem slots)))))

-- the posting of a range of a map's load to a slot of a ring
unfoldable pub read_ring_post : List Op → Spot → Read Op
read_ring_post before here =
    only_keys (one_of (codes "op" ∷ codes "ring" ∷ codes "slot" ∷ codes "map" ∷ codes "off" ∷ codes "len"
    ∷ codes "kind" ∷ codes "fill" ∷ []))
    here >>= (λ _.
    used_name use_as.Ring (codes "ring") before here >>= (λ ring.
    short_field (codes "slot") here >>= (λ slot.
    used_name use_as.Map (codes "map") before here >>= (λ map.
    number_field (codes "off") here >>= (λ off.
    number_field (codes "len") here >>= (λ n.
    byte_field (codes "kind") here >>= (λ kind.
    byte_or (codes "fill") 0 here >>= (λ fill.
    Ok (op.RingPost ring slot map off n kind fill)))))))))

-- the number of steps that a kick asks for; none, or more than a script may have, is refused
abbrev pub count_or : DocumentPlace → ℕ → Read ℕ
count_or place n = if nat_le 1 n && nat_le n steps_limit then Ok n else refuse BadField place

-- how many steps a kick asks for
unfoldable pub read_count : Spot → Read ℕ
read_count here = number_field (codes "count") here >>= count_or (key here.place (codes "count"))

-- a kick of a ring's device: so many steps of the ring, each of which is a step of the script
unfoldable pub read_kick : List Op → Counts → Spot → Read Op
read_kick before c here =
    only_keys (one_of (codes "op" ∷ codes "ring" ∷ codes "count" ∷ [])) here >>= (λ _.
    used_name use_as.Ring (codes "ring") before here >>= (λ ring.
    read_count here >>= (λ n.
    steps_judged c n here.place >>= (λ _.
    Ok (op.Kick ring (replicate n (item.RingStep ring)))))))
