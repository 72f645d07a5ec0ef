-- Accesses by the driver and by its device, which reaches the driver's buffers directly.
use Rattle.std.specs.Prelude.{ℕ, ◌+◌, ◌-◌, ◌^◌, ◌==◌, false, not, ◌&&◌, ◌||◌, List, [], ◌∷◌, map, length, Option}
use Rattle.std.specs.Prelude.{Some, None, if◌then◌else◌, is_some, nat_le, nat_lt, slice_get, unwrap_or}
use Rattle.std.specs.FinMap.{entries, get}
use Rattle.busdma_base.specs.declared.journals.answer.Answer.TheVariants.{Done, Bytes}
use Rattle.busdma_machine.specs.declared.report.ReportName.{ReportName}
use Rattle.busdma_machine.specs.declared.report.ReportName.TheVariants.{DeviceReadUnlent, DeviceWriteUnlent}
use Rattle.busdma_machine.specs.declared.report.ReportName.TheVariants.{Untranslated}
use Rattle.busdma_machine.specs.declared.machine.address.Segment.{Segment}
use Rattle.busdma_base.specs.declared.scenarios.script.Place.{Place}
use Rattle.busdma_machine.specs.Judging.{judged}
use Rattle.busdma_machine.specs.Runs.{run_of}
use Rattle.busdma_rules.specs.Iommu.Space.{translated}
use Rattle.busdma_rules.specs.declared.position.Position.{Position}
use Rattle.busdma_rules.specs.Lending.Access.{cpu_read_answer, cpu_write_answer, dev_read_answer, dev_write_answer}
use Rattle.busdma_rules.specs.Lending.Access.{dev_read_refusal, dev_write_refusal}
use Rattle.busdma_rules.specs.Lending.Loans.{loan_of, load_bytes}
use Rattle.ideal_lane.specs.IdealMemory.{is_known, value, written}
use Rattle.ideal_lane.specs.State.{LaneState, LaneMap}
use Rattle.ideal_lane.specs.Unloads.{segments_in}
use Rattle.ideal_lane.specs.Asking.{Asking}
use Rattle.ideal_lane.specs.Outcomes.{Outcome, gives, unless_absent, unless_refused, unless_unloaded, unless_past}
use Rattle.ideal_lane.specs.Places.{virtual_at, first_unreached, bytes_at}

-- the values of the bytes at these physical addresses, in order
abbrev pub values : LaneState → List ℕ → List ℕ
values l bytes = map (λ a. value (l.memory a)) bytes

-- cpu_read: the driver reads the `len` bytes at a place, if it reaches them all and the rules of lending allow it
abbrev pub cpu_read : Place → ℕ → LaneState → Asking Outcome
cpu_read place len l =
    unless_absent (virtual_at l place) l (λ va.
    unless_refused (first_unreached l va len) l (
    unless_refused (cpu_read_answer (is_known l.memory) l.loans (bytes_at l (run_of va len))) l (
    gives l (Bytes (values l (bytes_at l (run_of va len)))))))

-- cpu_write: the driver writes these values at a place, if it reaches all the bytes and the rules of lending allow it
abbrev pub cpu_write : Place → List ℕ → LaneState → Asking Outcome
cpu_write place vs l =
    unless_absent (virtual_at l place) l (λ va.
    unless_refused (first_unreached l va (length vs)) l (
    unless_refused (cpu_write_answer l.loans (bytes_at l (run_of va (length vs)))) l (
    gives (record l { memory = written (bytes_at l (run_of va (length vs))) vs l.memory }) Done)))

-- the step, unless the device is forbidden to read `len` bytes of a map's load, from `off` on
abbrev pub unless_unread : ℕ → ℕ → ℕ → LaneState → Asking Outcome → Asking Outcome
unless_unread m off len l step =
    unless_unloaded m l (λ o. unless_past m off len l (
    unless_refused (dev_read_answer (is_known l.memory) (loan_of l.loans m) off len) l step))

-- dev_read: the device reads `len` bytes of a map's load from `off` on, if the load has them and the rules of lending
-- allow it
abbrev pub dev_read : ℕ → ℕ → ℕ → LaneState → Asking Outcome
dev_read m off len l = unless_unread m off len l (gives l (Bytes (values l (load_bytes l.loans m off len))))

-- dev_write: the device writes these values to a map's load from `off` on, if the load has the bytes and the rules of
-- lending allow it
abbrev pub dev_write : ℕ → ℕ → List ℕ → LaneState → Asking Outcome
dev_write m off vs l =
    unless_unloaded m l (λ o. unless_past m off (length vs) l (
    unless_refused (dev_write_answer (loan_of l.loans m) off (length vs)) l (
    gives (record l { memory = written (load_bytes l.loans m off (length vs)) vs l.memory }) Done)))

-- Accesses of an IOMMU tag's address space

-- the place of the byte at a device address among the bytes of these segments, which follow `before` other bytes
abbrev pub place_in : ℕ → List Segment → ℕ → Option ℕ
place_in before [] a = None
place_in before (s ∷ ss) a =
    if nat_le s.addr.0 a && nat_lt a (s.addr.0 + s.len) then Some (before + (a - s.addr.0))
    else place_in (before + s.len) ss a

-- the position of the byte at a device address, in the load of the first of these maps that is of the tag and has the
-- byte
abbrev pub position_in : LaneState → ℕ → ℕ → List (ℕ × LaneMap) → Option Position
position_in l t a [] = None
position_in l t a (e ∷ es) =
    if e.1.tag == t && is_some (place_in 0 (segments_in e.1.stage) a)
    then slice_get (loan_of l.loans e.0).positions (unwrap_or (place_in 0 (segments_in e.1.stage) a) 0)
    else position_in l t a es

-- why the device's access of a position is refused, if it is; without a position no load has the byte, so it is not
-- lent
abbrev pub unless_unlent : ReportName → (Position → Option ReportName) → Option Position → Option ReportName
unless_unlent unlent refusal None = Some unlent
unless_unlent unlent refusal (Some p) = refusal p

-- why an access of the byte at a device address is refused, if it is
abbrev pub raw_refusal : ReportName → (Position → Option ReportName) → LaneState → ℕ → ℕ → Option ReportName
raw_refusal unlent refusal l t a =
    if nat_le (2 ^ 64) a || not (is_some (translated (l.spaces t) a)) then Some Untranslated
    else unless_unlent unlent refusal (position_in l t a (entries l.maps))

-- the physical addresses of the bytes at these device addresses
abbrev pub raw_bytes : LaneState → ℕ → List ℕ → List ℕ
raw_bytes l t addresses = map (λ a. unwrap_or (translated (l.spaces t) a) 0) addresses

-- dev_read_at: the device reads the `len` bytes from a device address on, if each has a translation and the rules of
-- lending allow it
abbrev pub dev_read_at : ℕ → ℕ → ℕ → LaneState → Asking Outcome
dev_read_at t addr len l =
    unless_absent (get l.tags t) l (λ o.
    unless_refused
    (judged (raw_refusal DeviceReadUnlent (dev_read_refusal (is_known l.memory) false) l t) 0 (run_of addr len)) l (
    gives l (Bytes (values l (raw_bytes l t (run_of addr len))))))

-- dev_write_at: the device writes these values from a device address on, if each byte has a translation and the rules
-- of lending allow it
abbrev pub dev_write_at : ℕ → ℕ → List ℕ → LaneState → Asking Outcome
dev_write_at t addr vs l =
    unless_absent (get l.tags t) l (λ o.
    unless_refused
    (judged (raw_refusal DeviceWriteUnlent (dev_write_refusal false) l t) 0 (run_of addr (length vs))) l (
    gives (record l { memory = written (raw_bytes l t (run_of addr (length vs))) vs l.memory }) Done))
