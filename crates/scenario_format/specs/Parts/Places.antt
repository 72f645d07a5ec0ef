-- Where an operation works: at a virtual address, or in a memory that the script made.
use Rattle.std.specs.Prelude.{Bool, false, List, Option, Some, None, Ok, is_some, codes}
use Rattle.busdma_base.specs.declared.scenarios.operations.NameUse.TheVariants as use_as
use Rattle.busdma_base.specs.declared.scenarios.script.Op.{Op}
use Rattle.busdma_base.specs.declared.scenarios.script.Place.{Place}
use Rattle.busdma_base.specs.declared.scenarios.script.Place.TheVariants.{At, In}
use Rattle.scenario_format.specs.Json.Read.{Read, ◌>>=◌, refuse}
use Rattle.scenario_format.specs.Json.Field.{Spot, field}
use Rattle.scenario_format.specs.Json.Number.{read_number, number_or}
use Rattle.scenario_format.specs.declared.refusal.RefusalKind.TheVariants.{BadField}
use Rattle.scenario_format.specs.Parts.Names.{read_use}

-- the place at the virtual address that is given here
unfoldable pub read_address : Spot → Read Place
read_address va = read_number va >>= (λ n. Ok (At (record { 0 = n })))

-- the place of the first byte of the memory that is named here
unfoldable pub read_begin : List Op → Spot → Read Place
read_begin before mem = read_use use_as.Memory before mem >>= (λ m. Ok (In m 0))

-- the place `off` bytes after the first byte of the memory that `mem` names
unfoldable pub read_behind_begin : List Op → Spot → Spot → Read Place
read_behind_begin before mem here =
    read_use use_as.Memory before mem >>= (λ m.
    number_or (codes "off") 0 here >>= (λ off.
    Ok (In m off)))

-- the place that `va` gives, or `mem` with `off`; an operation with both or with neither, or with `off` beside `va`, is
-- refused at its own place
abbrev pub access_by : Option Spot → Option Spot → Bool → List Op → Spot → Read Place
access_by (Some va) None false before here = read_address va
access_by None (Some mem) _ before here = read_behind_begin before mem here
access_by _ _ _ before here = refuse BadField here.place

-- the place where an access of the driver begins
unfoldable pub read_access : List Op → Spot → Read Place
read_access before here =
    access_by (field (codes "va") here) (field (codes "mem") here) (is_some (field (codes "off") here)) before here

-- the place that `va` or `mem` gives; a load with both or with neither is refused at its own place
abbrev pub load_by : Option Spot → Option Spot → List Op → Spot → Read Place
load_by (Some va) None before here = read_address va
load_by None (Some mem) before here = read_begin before mem
load_by _ _ before here = refuse BadField here.place

-- the place where a load begins: at a virtual address, or at the first byte of a memory
unfoldable pub loaded_from : List Op → Spot → Read Place
loaded_from before here = load_by (field (codes "va") here) (field (codes "mem") here) before here
