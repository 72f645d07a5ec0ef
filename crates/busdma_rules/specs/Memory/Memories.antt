-- The virtual addresses of dmamem memories, which are this project's own rule.
use Rattle.std.specs.Prelude.{ℕ, ◌+◌}
use Rattle.busdma_machine.specs.Machine.VirtualPages.{pages_end}

-- the virtual address of a memory's byte at this physical address; virtual addresses of memories begin after those of
-- pages
abbrev pub virtual_of : ℕ → ℕ
virtual_of pa = pages_end + pa
