-- Which bytes a driver reaches: the bytes of its pages and of its memories.
use Rattle.std.specs.Prelude.{ℕ, ◌+◌, ◌-◌, Bool, ◌&&◌, List, Option, Some, None, if◌then◌else◌, map, nat_le, nat_lt}
use Rattle.std.specs.FinMap.{entries, get}
use Rattle.std.specs.List.{list_any}
use Rattle.std.specs.Option.{option_map}
use Rattle.busdma_machine.specs.declared.report.Judged.{Judged}
use Rattle.busdma_base.specs.declared.scenarios.script.Place.{Place}
use Rattle.busdma_base.specs.declared.scenarios.script.Place.TheVariants.{At, In}
use Rattle.busdma_machine.specs.Judging.{judged}
use Rattle.busdma_machine.specs.Machine.VirtualPages.{pages_end}
use Rattle.busdma_base.specs.Scenarios.PageRuns.{physical_in}
use Rattle.busdma_machine.specs.Runs.{run_of}
use Rattle.busdma_rules.specs.Memory.Memories.{virtual_of}
use Rattle.busdma_rules.specs.Memory.Translation.{Translation, unreached, physical_or_0}
use Rattle.ideal_lane.specs.State.{LaneState, LaneMemory}

-- the virtual address of a memory's first byte
abbrev pub begin_of : LaneMemory → ℕ
begin_of x = virtual_of x.first

-- a virtual address is one of a memory's bytes
abbrev pub is_in_memory : ℕ → LaneMemory → Bool
is_in_memory va x = nat_le (begin_of x) va && nat_lt va (begin_of x + x.len)

-- a virtual address is one of the bytes of the driver's memories
abbrev pub is_memory_byte : LaneState → ℕ → Bool
is_memory_byte l va = list_any (λ e. is_in_memory va e.1) (entries l.mems)

-- the physical address of a memory's byte, by its virtual address
abbrev pub physical_of : ℕ → ℕ
physical_of va = va - pages_end

-- the physical address of a byte: the one in the driver's pages, or else the one in its memories
abbrev pub or_in_memory : LaneState → ℕ → Option ℕ → Option ℕ
or_in_memory l va (Some pa) = Some pa
or_in_memory l va None = if is_memory_byte l va then Some (physical_of va) else None

-- the physical address of the byte at a virtual address, if the driver reaches it
abbrev pub physical : LaneState → Translation
physical l va = or_in_memory l va (physical_in l.pages va)

-- the virtual address of a place, or None if the place is in a memory that does not exist
abbrev pub virtual_at : LaneState → Place → Option ℕ
virtual_at l (At va) = Some va.0
virtual_at l (In mem off) = option_map (λ x. begin_of x + off) (get l.mems mem)

-- the physical addresses of bytes that the driver reaches, by their virtual ones
abbrev pub bytes_at : LaneState → List ℕ → List ℕ
bytes_at l vas = map (physical_or_0 (physical l)) vas

-- the judgement of `len` bytes from a virtual address on: the first that the driver does not reach is refused
abbrev pub first_unreached : LaneState → ℕ → ℕ → Judged
first_unreached l va len = judged (unreached (physical l)) 0 (run_of va len)
