-- The physical addresses of virtual ones.
use Rattle.std.specs.Prelude.{ℕ, Option, Some, None, unwrap_or}
use Rattle.busdma_machine.specs.declared.report.ReportName.{ReportName}
use Rattle.busdma_machine.specs.declared.report.ReportName.TheVariants.{Unmapped}

-- the physical address of each virtual address that can be reached
abbrev pub Translation : Type 0
Translation = ℕ → Option ℕ

-- the report for a byte that has no physical address
abbrev pub missing : Option ℕ → Option ReportName
missing None = Some Unmapped
missing (Some pa) = None

-- the report for a virtual address that cannot be reached
abbrev pub unreached : Translation → ℕ → Option ReportName
unreached t va = missing (t va)

-- the physical address of a virtual address, or 0 if it cannot be reached
abbrev pub physical_or_0 : Translation → ℕ → ℕ
physical_or_0 t va = unwrap_or (t va) 0
