-- Which accesses are allowed.
use Rattle.std.specs.Prelude.{ℕ, Bool, if◌then◌else◌, ◌||◌, List, Option, Some, None}
use Rattle.busdma_machine.specs.declared.report.ReportName.{ReportName}
use Rattle.busdma_machine.specs.declared.report.ReportName.TheVariants.{CpuReadLent, CpuWriteLent, DeviceReadUnlent}
use Rattle.busdma_machine.specs.declared.report.ReportName.TheVariants.{DeviceWriteUnlent, StaleByte}
use Rattle.busdma_machine.specs.declared.report.Judged.{Judged}
use Rattle.busdma_machine.specs.Judging.{judged}
use Rattle.busdma_rules.specs.declared.position.Position.{Position}
use Rattle.busdma_rules.specs.Lending.Loans.{Loan, Loans, to_write, in_any_way, lent}
use Rattle.busdma_machine.specs.Machine.Wire.{stretch}

-- why the driver must not read a byte: a map lends it to write, or it is unknown
abbrev pub cpu_read_refusal : (ℕ → Bool) → Loans → ℕ → Option ReportName
cpu_read_refusal known loans a =
    if lent to_write a loans then Some CpuReadLent else if known a then None else Some StaleByte

-- why the driver must not write a byte: a map lends it
abbrev pub cpu_write_refusal : Loans → ℕ → Option ReportName
cpu_write_refusal loans a = if lent in_any_way a loans then Some CpuWriteLent else None

-- why a device must not read the byte at a position of its map: the map is not coherent and does not lend it to read;
-- or the byte is unknown
abbrev pub dev_read_refusal : (ℕ → Bool) → Bool → Position → Option ReportName
dev_read_refusal known coherent p =
    if coherent || p.to_read then if known p.pa then None else Some StaleByte else Some DeviceReadUnlent

-- why a device must not write the byte at a position of its map: the map is not coherent and does not lend it to write
abbrev pub dev_write_refusal : Bool → Position → Option ReportName
dev_write_refusal coherent p = if coherent || p.to_write then None else Some DeviceWriteUnlent

-- the judgement of a driver's read of these bytes, given by their addresses in order
abbrev pub cpu_read_answer : (ℕ → Bool) → Loans → List ℕ → Judged
cpu_read_answer known loans bytes = judged (cpu_read_refusal known loans) 0 bytes

-- the judgement of a driver's write of these bytes, given by their addresses in order
abbrev pub cpu_write_answer : Loans → List ℕ → Judged
cpu_write_answer loans bytes = judged (cpu_write_refusal loans) 0 bytes

-- the judgement of a device's read of a range of its map's buffer
abbrev pub dev_read_answer : (ℕ → Bool) → Loan → ℕ → ℕ → Judged
dev_read_answer known loan off len = judged (dev_read_refusal known loan.coherent) 0 (stretch off len loan.positions)

-- the judgement of a device's write of a range of its map's buffer
abbrev pub dev_write_answer : Loan → ℕ → ℕ → Judged
dev_write_answer loan off len = judged (dev_write_refusal loan.coherent) 0 (stretch off len loan.positions)
