-- What a sync of a range of a map's buffer does. Each operation of a call is judged on the loans before the call, and a
-- call is done completely or not at all.
use Rattle.std.specs.Prelude.{ℕ, ◌+◌, Bool, false, if◌then◌else◌, ◌&&◌, ◌||◌, not, List, [], ◌++◌, map, take, drop}
use Rattle.std.specs.Prelude.{Option, Some, None}
use Rattle.std.specs.List.{filter}
use Rattle.std.specs.Option.{option_or}
use Rattle.std.specs.FinMap.{insert}
use Rattle.busdma_rules.specs.Tags.SyncOps.{preread, prewrite, postread, postwrite}
use Rattle.busdma_machine.specs.declared.report.ReportName.{ReportName}
use Rattle.busdma_machine.specs.declared.report.ReportName.TheVariants.{SyncOrder, Overlap}
use Rattle.busdma_machine.specs.declared.report.Judged.{Judged}
use Rattle.busdma_machine.specs.declared.report.Judged.TheVariants.{Fine}
use Rattle.busdma_machine.specs.Judging.{judged}
use Rattle.busdma_machine.specs.Machine.Wire.{stretch}
use Rattle.busdma_rules.specs.declared.position.Position.{Position}
use Rattle.busdma_rules.specs.Lending.Loans.{Loans, loan_of, to_write, in_any_way, lent_elsewhere, stands_twice}
use Rattle.busdma_rules.specs.Lending.Loans.{addresses_of}

-- what is wrong with PREWRITE by map m at a position: SyncOrder if m lends the position to write, or Overlap if another
-- map lends its byte to write
abbrev pub prewrite_refusal : Loans → ℕ → Position → Option ReportName
prewrite_refusal loans m p =
    if p.to_write then Some SyncOrder else if lent_elsewhere to_write m p.pa loans then Some Overlap else None

-- what is wrong with PREREAD by map m at a position that m does not lend to write yet: Overlap if another map lends its
-- byte in any way, or if the byte is at more than one position of m's buffer
abbrev pub preread_refusal : Loans → ℕ → Position → Option ReportName
preread_refusal loans m p =
    if p.to_write then None else if lent_elsewhere in_any_way m p.pa loans
    || stands_twice p.pa (loan_of loans m) then Some Overlap else None

-- what is wrong with POSTREAD at a position: SyncOrder if the map does not lend the position to write
abbrev pub postread_refusal : Position → Option ReportName
postread_refusal p = if p.to_write then None else Some SyncOrder

-- What is wrong with a sync call at a position: the refusal of POSTREAD, else of PREWRITE, else of PREREAD, of those
-- that the call has. If one of these is SyncOrder, that is the result.
abbrev pub sync_refusal : Loans → ℕ → ℕ → Position → Option ReportName
sync_refusal loans m ops p =
    option_or (if postread ops then postread_refusal p else None)
    (option_or (if prewrite ops then prewrite_refusal loans m p else None) (if preread ops
    then preread_refusal loans m p else None))

-- the judgement of a sync call on a range, which reports the first position that is refused; nothing is refused for a
-- coherent map
abbrev pub sync_answer : Loans → ℕ → ℕ → ℕ → ℕ → Judged
sync_answer loans m off len ops =
    if (loan_of loans m).coherent then Fine
    else judged (sync_refusal loans m ops) off (stretch off len (loan_of loans m).positions)

-- a position after a sync call: PREWRITE lends it to read and POSTWRITE ends that; PREREAD lends it to write and
-- POSTREAD ends that
abbrev pub marked : ℕ → Position → Position
marked ops p = record {
  pa = p.pa;
  to_read = not (postwrite ops) && (prewrite ops || p.to_read);
  to_write = not (postread ops) && (preread ops || p.to_write);
}

-- the positions of a buffer after a sync call on a range of it
abbrev pub marked_range : ℕ → ℕ → ℕ → List Position → List Position
marked_range ops off len ps = take off ps ++ map (marked ops) (stretch off len ps) ++ drop (off + len) ps

-- the loans after a sync call that was done; the call changes no loan of a coherent map
abbrev pub synced : Loans → ℕ → ℕ → ℕ → ℕ → Loans
synced loans m off len ops =
    let loan = loan_of loans m in
    if loan.coherent then loans else insert loans m
    (record { coherent = false; positions = marked_range ops off len loan.positions })

-- the byte of a position becomes unknown by a sync call: it is newly lent to write, and is not lent to read, before the
-- call or by it
abbrev pub loses : ℕ → Position → Bool
loses ops p = preread ops && not p.to_write && not (prewrite ops || p.to_read)

-- the physical addresses of the bytes that become unknown by a sync call that was done
abbrev pub lost : Loans → ℕ → ℕ → ℕ → ℕ → List ℕ
lost loans m off len ops =
    let loan = loan_of loans m in
    if loan.coherent then [] else addresses_of (filter (loses ops) (stretch off len loan.positions))

-- the physical addresses of the bytes that become unknown if a map is forgotten: the bytes that it lends to write
abbrev pub lost_by_forgetting : Loans → ℕ → List ℕ
lost_by_forgetting loans m = addresses_of (filter to_write (loan_of loans m).positions)
