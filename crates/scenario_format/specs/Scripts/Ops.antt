-- The operations of a script other than its loads, each read by itself and by the operations before it.
use Rattle.std.specs.Prelude.{ℕ, ◌-◌, ◌^◌, List, [], ◌∷◌, length, Ok, codes}
use Rattle.busdma_base.specs.declared.scenarios.script.Op.{Op}
use Rattle.busdma_base.specs.declared.scenarios.script.Op.TheVariants as op
use Rattle.busdma_machine.specs.declared.tags.tag.SpaceLimits.{SpaceLimits}
use Rattle.busdma_machine.specs.declared.tags.tag.TagLimits.{TagLimits}
use Rattle.busdma_base.specs.Scenarios.Operations.{bytes_of}
use Rattle.scenario_format.specs.Json.Read.{Read, ◌>>=◌}
use Rattle.scenario_format.specs.Json.Field.{Spot, field, only_keys, one_of}
use Rattle.scenario_format.specs.Json.Number.{number_field, number_or}
use Rattle.scenario_format.specs.declared.counts.Counts.{Counts}
use Rattle.scenario_format.specs.declared.flag_set.FlagSet.TheVariants as set
use Rattle.busdma_base.specs.declared.scenarios.operations.NameUse.{NameUse}
use Rattle.busdma_base.specs.declared.scenarios.operations.NameUse.TheVariants as use_as
use Rattle.scenario_format.specs.Parts.Bytes.{read_written}
use Rattle.scenario_format.specs.Parts.Counts.{access_judged, read_judged}
use Rattle.scenario_format.specs.Parts.Flags.{flags_field}
use Rattle.scenario_format.specs.Parts.Names.{new_name, used_name, parent_or_none}
use Rattle.scenario_format.specs.Parts.Numbers.{short_or}
use Rattle.scenario_format.specs.Parts.Places.{read_access}
use Rattle.scenario_format.specs.Parts.Syncs.{read_sync_fields, read_range_fields}

-- the limits of a tag, each with its default if none is given
unfoldable pub read_limits : Spot → Read TagLimits
read_limits here =
    number_or (codes "alignment") 1 here >>= (λ alignment.
    number_or (codes "boundary") 0 here >>= (λ boundary.
    number_or (codes "lowaddr") (2 ^ 64 - 1) here >>= (λ lowaddr.
    number_or (codes "highaddr") (2 ^ 64 - 1) here >>= (λ highaddr.
    number_or (codes "maxsize") (2 ^ 32 - 1) here >>= (λ maxsize.
    short_or (codes "nsegments") 65536 here >>= (λ nsegments.
    number_or (codes "maxsegsz") (2 ^ 32 - 1) here >>= (λ maxsegsz.
    flags_field set.Tag here >>= (λ flags.
    Ok (record {
      alignment = alignment;
      boundary = boundary;
      lowaddr = record { 0 = lowaddr };
      highaddr = record { 0 = highaddr };
      maxsize = maxsize;
      nsegments = nsegments;
      maxsegsz = maxsegsz;
      flags = flags;
    })))))))))

-- the making of a tag
unfoldable pub read_tag : List Op → Spot → Read Op
read_tag before here =
    only_keys (one_of (codes "op" ∷ codes "name" ∷ codes "parent" ∷ codes "alignment" ∷ codes "boundary"
    ∷ codes "lowaddr" ∷ codes "highaddr" ∷ codes "maxsize" ∷ codes "nsegments" ∷ codes "maxsegsz" ∷ codes "flags" ∷
    []))
    here >>= (λ _.
    new_name (codes "name") before here >>= (λ name.
    parent_or_none before (field (codes "parent") here) >>= (λ parent.
    read_limits here >>= (λ limits.
    Ok (op.Tag name parent limits)))))

-- the limits of an IOMMU tag, each with its default if none is given
unfoldable pub read_space_limits : Spot → Read SpaceLimits
read_space_limits here =
    number_or (codes "lowaddr") (2 ^ 32 - 1) here >>= (λ lowaddr.
    number_or (codes "boundary") 0 here >>= (λ boundary.
    number_or (codes "maxsize") (2 ^ 32 - 1) here >>= (λ maxsize.
    short_or (codes "nsegments") 65536 here >>= (λ nsegments.
    number_or (codes "maxsegsz") (2 ^ 32 - 1) here >>= (λ maxsegsz.
    Ok (record {
      boundary = boundary;
      lowaddr = record { 0 = lowaddr };
      maxsize = maxsize;
      nsegments = nsegments;
      maxsegsz = maxsegsz;
    }))))))

-- the making of an IOMMU tag
unfoldable pub read_iommu_tag : List Op → Spot → Read Op
read_iommu_tag before here =
    only_keys (one_of (codes "op" ∷ codes "name" ∷ codes "lowaddr" ∷ codes "boundary" ∷ codes "maxsize"
    ∷ codes "nsegments" ∷ codes "maxsegsz" ∷ []))
    here >>= (λ _.
    new_name (codes "name") before here >>= (λ name.
    read_space_limits here >>= (λ limits.
    Ok (op.IommuTag name limits))))

-- the end of a tag of either kind
unfoldable pub read_tag_destroy : List Op → Spot → Read Op
read_tag_destroy before here =
    only_keys (one_of (codes "op" ∷ codes "tag" ∷ [])) here >>= (λ _.
    used_name use_as.AnyTag (codes "tag") before here >>= (λ tag.
    Ok (op.TagDestroy tag)))

-- the making of a map of a tag of either kind
unfoldable pub read_map : List Op → Spot → Read Op
read_map before here =
    only_keys (one_of (codes "op" ∷ codes "name" ∷ codes "tag" ∷ [])) here >>= (λ _.
    new_name (codes "name") before here >>= (λ name.
    used_name use_as.AnyTag (codes "tag") before here >>= (λ tag.
    Ok (op.Map name tag))))

-- the map of an operation that has no other field
unfoldable pub read_only_map : NameUse → List Op → Spot → Read ℕ
read_only_map u before here =
    only_keys (one_of (codes "op" ∷ codes "map" ∷ [])) here >>= (λ _.
    used_name u (codes "map") before here)

-- the end of a map that is no memory's own
unfoldable pub read_map_destroy : List Op → Spot → Read Op
read_map_destroy before here = read_only_map use_as.MapAlone before here >>= (λ map. Ok (op.MapDestroy map))

-- the making of a memory
unfoldable pub read_dmamem : List Op → Spot → Read Op
read_dmamem before here =
    only_keys (one_of (codes "op" ∷ codes "name" ∷ codes "tag" ∷ codes "flags" ∷ [])) here >>= (λ _.
    new_name (codes "name") before here >>= (λ name.
    used_name use_as.Tag (codes "tag") before here >>= (λ tag.
    flags_field set.Memory here >>= (λ flags.
    Ok (op.Dmamem name tag flags)))))

-- the end of a memory
unfoldable pub read_dmamem_free : List Op → Spot → Read Op
read_dmamem_free before here =
    only_keys (one_of (codes "op" ∷ codes "mem" ∷ [])) here >>= (λ _.
    used_name use_as.Memory (codes "mem") before here >>= (λ mem.
    Ok (op.DmamemFree mem)))

-- an unload
unfoldable pub read_unload : List Op → Spot → Read Op
read_unload before here = read_only_map use_as.Map before here >>= (λ map. Ok (op.Unload map))

-- a sync of all bytes of a map's load
unfoldable pub read_sync : List Op → Spot → Read Op
read_sync before here = read_sync_fields before here >>= (λ s. Ok (op.Sync s.map s.ops))

-- a sync of a range of a map's load
unfoldable pub read_sync_range : List Op → Spot → Read Op
read_sync_range before here = read_range_fields before here >>= (λ s. Ok (op.SyncRange s.map s.off s.len s.ops))

-- a read of the driver
unfoldable pub read_cpu_read : List Op → Counts → Spot → Read Op
read_cpu_read before c here =
    only_keys (one_of (codes "op" ∷ codes "va" ∷ codes "mem" ∷ codes "off" ∷ codes "len" ∷ [])) here >>= (λ _.
    read_access before here >>= (λ place.
    number_field (codes "len") here >>= (λ n.
    read_judged c n here.place >>= (λ _.
    Ok (op.CpuRead place n)))))

-- a write of the driver
unfoldable pub read_cpu_write : List Op → Spot → Read Op
read_cpu_write before here =
    only_keys (one_of (codes "op" ∷ codes "va" ∷ codes "mem" ∷ codes "off" ∷ codes "hex" ∷ codes "fill" ∷ codes "len"
    ∷ []))
    here >>= (λ _.
    read_access before here >>= (λ place.
    read_written here >>= (λ bytes.
    access_judged (length (bytes_of bytes)) here.place >>= (λ _.
    Ok (op.CpuWrite place bytes)))))

-- a wait for a map
unfoldable pub read_await : List Op → Spot → Read Op
read_await before here = read_only_map use_as.Map before here >>= (λ map. Ok (op.Await map))
