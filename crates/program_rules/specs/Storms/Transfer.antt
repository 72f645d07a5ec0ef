-- The operations of one round of a storm.
use Rattle.std.specs.Prelude.{ℕ, ◌+◌, ◌*◌, ◌/◌, ◌%◌, ◌==◌, List, [], ◌∷◌, min, if◌then◌else◌}
use Rattle.busdma_base.specs.declared.scenarios.buffer.Buffer.TheVariants.{Flat}
use Rattle.busdma_base.specs.declared.scenarios.script.Bytes.TheVariants.{Filled}
use Rattle.busdma_base.specs.declared.scenarios.script.Item.{Item}
use Rattle.busdma_base.specs.declared.scenarios.script.Item.TheVariants as item
use Rattle.busdma_base.specs.declared.scenarios.script.Op.{Op}
use Rattle.busdma_base.specs.declared.scenarios.script.Op.TheVariants as op
use Rattle.busdma_base.specs.declared.scenarios.script.Place.TheVariants.{At}
use Rattle.busdma_rules.specs.Tags.SyncOps.{preread_bit, postread_bit, prewrite_bit, postwrite_bit}
use Rattle.program_rules.specs.declared.transfer.Transfer.{Transfer}

-- how many bytes a round with the numbers p and q loads
abbrev pub length_drawn : ℕ → ℕ
length_drawn p = 1 + p / 8192 % 8192

-- the transfer of a round with the numbers p and q: its map, the second or third operation of the script;
-- where its bytes begin, in the first 13 of the driver's 16 pages; how many are loaded; how many of them are
-- read and written, 64 at most; and the byte that is written
abbrev pub storm_transfer : ℕ → ℕ → Transfer
storm_transfer p q = record {
  map = 1 + p % 2;
  va = record { 0 = 0x100000 + 4096 * (q / 512 % 13) + p / 2 % 4096 };
  len = length_drawn p;
  touched = min (length_drawn p) 64;
  byte = q / 2 % 256;
}

-- the load of a transfer; its items are the device's work, with one sync before it and one after it
abbrev pub load_with : Transfer → ℕ → Item → ℕ → Op
load_with t before work after =
    op.Load t.map (Flat (At t.va) t.len) 0 (item.Sync t.map before ∷ work ∷ item.Sync t.map after ∷ [])

-- a round to the device: the driver writes its bytes, and the device reads them
abbrev pub to_device : Transfer → List Op
to_device t =
    op.CpuWrite (At t.va) (Filled t.byte t.touched)
    ∷ load_with t prewrite_bit (item.DevRead t.map 0 t.touched) postwrite_bit
    ∷ op.Await t.map
    ∷ op.Unload t.map
    ∷ []

-- a round from the device: the device writes bytes, and the driver reads them
abbrev pub from_device : Transfer → List Op
from_device t =
    load_with t preread_bit (item.DevWrite t.map 0 (Filled t.byte t.touched)) postread_bit
    ∷ op.Await t.map
    ∷ op.CpuRead (At t.va) t.touched
    ∷ op.Unload t.map
    ∷ []

-- the operations of a round with the numbers p and q
unfoldable pub round : ℕ → ℕ → List Op
round p q = if q % 2 == 0 then to_device (storm_transfer p q) else from_device (storm_transfer p q)
