-- The loads of a map, each read by itself and by the operations before it. They differ in what they load and in the
-- keys that they may have.
use Rattle.std.specs.Prelude.{ℕ, List, [], ◌∷◌, Ok, codes}
use Rattle.busdma_base.specs.declared.scenarios.buffer.Buffer.{Buffer}
use Rattle.busdma_base.specs.declared.scenarios.buffer.Buffer.TheVariants as buffer
use Rattle.busdma_base.specs.declared.scenarios.operations.NameUse.TheVariants as use_as
use Rattle.busdma_base.specs.declared.scenarios.scenario.PageRun.{PageRun}
use Rattle.busdma_base.specs.declared.scenarios.script.Op.{Op}
use Rattle.busdma_base.specs.declared.scenarios.script.Op.TheVariants as op
use Rattle.busdma_base.specs.Scenarios.Buffers.{buffer_bytes, counted_bytes}
use Rattle.scenario_format.specs.Json.Read.{Read, ◌>>=◌}
use Rattle.scenario_format.specs.Json.Field.{Spot, only_keys, one_of}
use Rattle.scenario_format.specs.Json.Number.{number_field}
use Rattle.scenario_format.specs.declared.counts.Counts.{Counts}
use Rattle.scenario_format.specs.declared.flag_set.FlagSet.TheVariants as set
use Rattle.scenario_format.specs.Parts.Bios.{bio_field}
use Rattle.scenario_format.specs.Parts.Counts.{having_loaded, load_counted}
use Rattle.scenario_format.specs.Parts.Flags.{flags_field}
use Rattle.scenario_format.specs.Scripts.Items.{then_field}
use Rattle.scenario_format.specs.Parts.Names.{used_name}
use Rattle.scenario_format.specs.Parts.Places.{loaded_from}
use Rattle.scenario_format.specs.Parts.Spans.{entries_field}

-- the buffer of `len` bytes from a place on
unfoldable pub read_flat : List Op → Spot → Read Buffer
read_flat before here =
    loaded_from before here >>= (λ place.
    number_field (codes "len") here >>= (λ n.
    Ok (buffer.Flat place n)))

-- the map that a load names
unfoldable pub read_loaded_map : List Op → Spot → Read ℕ
read_loaded_map before here = used_name use_as.Map (codes "map") before here

-- the load of a map with a buffer: its flags; then its bytes are judged, after all its other fields; then its items
unfoldable pub load_of : List Op → Counts → Spot → ℕ → Buffer → Read Op
load_of before c here map buffer =
    flags_field set.Load here >>= (λ flags.
    load_counted c (buffer_bytes buffer) (counted_bytes buffer) here.place >>= (λ _.
    then_field before (having_loaded c (counted_bytes buffer)) here >>= (λ items.
    Ok (op.Load map buffer flags items))))

-- a load of bytes from a place on
unfoldable pub read_load : List Op → Counts → Spot → Read Op
read_load before c here =
    only_keys (one_of (codes "op" ∷ codes "map" ∷ codes "va" ∷ codes "mem" ∷ codes "len" ∷ codes "flags" ∷ codes "then"
    ∷ []))
    here >>= (λ _.
    read_loaded_map before here >>= (λ map.
    read_flat before here >>= (λ buffer.
    load_of before c here map buffer)))

-- a load of a vector
unfoldable pub read_load_vector : List Op → Counts → Spot → Read Op
read_load_vector before c here =
    only_keys (one_of (codes "op" ∷ codes "map" ∷ codes "entries" ∷ codes "flags" ∷ codes "then" ∷ [])) here >>= (λ _.
    read_loaded_map before here >>= (λ map.
    entries_field here >>= (λ spans.
    load_of before c here map (buffer.Vector spans))))

-- a load of an mbuf chain; it has no flags, because the key `flags` is not allowed
unfoldable pub read_load_mbuf : List Op → Counts → Spot → Read Op
read_load_mbuf before c here =
    only_keys (one_of (codes "op" ∷ codes "map" ∷ codes "entries" ∷ codes "then" ∷ [])) here >>= (λ _.
    read_loaded_map before here >>= (λ map.
    entries_field here >>= (λ chain.
    load_of before c here map (buffer.Mbuf chain))))

-- a load of a bio of the driver's pages
unfoldable pub read_load_bio : List PageRun → List Op → Counts → Spot → Read Op
read_load_bio pages before c here =
    only_keys (one_of (codes "op" ∷ codes "map" ∷ codes "bio" ∷ codes "flags" ∷ codes "then" ∷ [])) here >>= (λ _.
    read_loaded_map before here >>= (λ map.
    bio_field pages here >>= (λ b.
    load_of before c here map (buffer.Bio b))))
