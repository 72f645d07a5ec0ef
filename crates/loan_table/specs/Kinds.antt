-- The kinds of lending and access in the code, as tests on positions and bytes.
use Rattle.std.specs.Prelude.{ℕ, Bool, if◌then◌else◌, Option, Some, None}
use Rattle.busdma_machine.specs.declared.report.ReportName.{ReportName}
use Rattle.busdma_rules.specs.declared.position.Position.{Position}
use Rattle.loan_table.specs.declared.row.Way.{Way}
use Rattle.loan_table.specs.declared.row.Way.TheVariants.{ToWrite, ToRead}
use Rattle.loan_table.specs.declared.losing.Losing.{Losing}
use Rattle.loan_table.specs.declared.losing.Losing.TheVariants.{Call, Forgetting}
use Rattle.loan_table.specs.declared.access.Access.{Access}
use Rattle.loan_table.specs.declared.access.Access.TheVariants.{Read, Write}
use Rattle.busdma_rules.specs.Lending.Loans.{Loans, to_read, to_write}
use Rattle.busdma_rules.specs.Lending.SyncEffects.{loses}
use Rattle.busdma_rules.specs.Lending.Access.{cpu_read_refusal, cpu_write_refusal, dev_read_refusal, dev_write_refusal}

-- whether a position is lent in a given way
abbrev pub test_of : Way → Position → Bool
test_of ToWrite = to_write
test_of ToRead = to_read

-- the report of the driver's access of a byte, if the access is refused
abbrev pub cpu_refusal : Access → (ℕ → Bool) → Loans → ℕ → Option ReportName
cpu_refusal Read known loans a = cpu_read_refusal known loans a
cpu_refusal Write known loans a = cpu_write_refusal loans a

-- the report of the device's access of a position, if the access is refused
abbrev pub dev_refusal : Access → (ℕ → Bool) → Bool → Position → Option ReportName
dev_refusal Read known coherent p = dev_read_refusal known coherent p
dev_refusal Write known coherent p = dev_write_refusal coherent p

-- the report with the given name if a position is not lent to write
abbrev pub unlent_refusal : ReportName → Position → Option ReportName
unlent_refusal name p = if p.to_write then None else Some name

-- whether the byte of a position becomes Unknown for a cause: a sync call, or that its map is forgotten
abbrev pub losing_test : Losing → Position → Bool
losing_test (Call ops) p = loses ops.0 p
losing_test Forgetting p = to_write p
