-- How a line of a report says what a step answered.
use Rattle.std.specs.Prelude.{ℕ, ◌/◌, ◌%◌, List, [], ◌∷◌, ◌++◌, true, false, codes, Bool}
use Rattle.std.specs.List.{flat_map}
use Rattle.std.specs.Fmt.{decimal, digit_glyph}
use Rattle.program_rules.specs.Reports.Text.{hex}
use Rattle.busdma_machine.specs.declared.machine.address.Segment.{Segment}
use Rattle.busdma_base.specs.declared.journals.answer.Answer.{Answer}
use Rattle.busdma_base.specs.declared.journals.answer.Answer.TheVariants as answer
use Rattle.busdma_machine.specs.declared.report.Errno.{Errno}
use Rattle.busdma_machine.specs.declared.report.Errno.TheVariants.{EINVAL, ENOMEM, EFBIG, EINPROGRESS, EBUSY}
use Rattle.busdma_machine.specs.declared.report.Report.{Report}
use Rattle.busdma_machine.specs.declared.report.ReportName.{ReportName}
use Rattle.busdma_machine.specs.declared.report.ReportName.TheVariants.{Absent, Unmapped, MapBusy, NotLoaded, PastEnd}
use Rattle.busdma_machine.specs.declared.report.ReportName.TheVariants.{DeviceReadUnlent, DeviceWriteUnlent}
use Rattle.busdma_machine.specs.declared.report.ReportName.TheVariants.{CpuReadLent, CpuWriteLent, StaleByte, SyncOrder}
use Rattle.busdma_machine.specs.declared.report.ReportName.TheVariants.{MixedSync, Overlap, NotDeferred, ForeignMemory}
use Rattle.busdma_machine.specs.declared.report.ReportName.TheVariants.{Untranslated}
use Rattle.busdma_machine.specs.declared.bounce.zone.Grown.{Grown}

-- the name of an error
abbrev pub errno_name : Errno → List ℕ
errno_name EINVAL = codes "EINVAL"
errno_name ENOMEM = codes "ENOMEM"
errno_name EFBIG = codes "EFBIG"
errno_name EINPROGRESS = codes "EINPROGRESS"
errno_name EBUSY = codes "EBUSY"

-- the name of a report
abbrev pub report_name : ReportName → List ℕ
report_name Absent = codes "Absent"
report_name Unmapped = codes "Unmapped"
report_name MapBusy = codes "MapBusy"
report_name NotLoaded = codes "NotLoaded"
report_name PastEnd = codes "PastEnd"
report_name DeviceReadUnlent = codes "DeviceReadUnlent"
report_name DeviceWriteUnlent = codes "DeviceWriteUnlent"
report_name CpuReadLent = codes "CpuReadLent"
report_name CpuWriteLent = codes "CpuWriteLent"
report_name StaleByte = codes "StaleByte"
report_name SyncOrder = codes "SyncOrder"
report_name MixedSync = codes "MixedSync"
report_name Overlap = codes "Overlap"
report_name NotDeferred = codes "NotDeferred"
report_name ForeignMemory = codes "ForeignMemory"
report_name Untranslated = codes "Untranslated"

-- a segment, after a space: its address, `+` and its length
abbrev pub segment_text : Segment → List ℕ
segment_text segment = codes " " ++ (hex segment.addr.0 ++ (codes "+" ++ decimal segment.len))

-- a byte as two lower-case hexadecimal digits
abbrev pub byte_text : ℕ → List ℕ
byte_text byte = digit_glyph false (byte / 16) ∷ digit_glyph false (byte % 16) ∷ []

-- the digits of these bytes, after a space if there is a byte
abbrev pub bytes_text : List ℕ → List ℕ
bytes_text [] = []
bytes_text (byte ∷ bytes) = codes " " ++ flat_map byte_text (byte ∷ bytes)

-- the word for whether a tag or map was made
abbrev pub made_text : Bool → List ℕ
made_text true = codes "ok"
made_text false = codes "ENOMEM"

-- what an answer says of a zone that grew: whether the tag or map was made, the zone, and how many pages came
abbrev pub grown_text : Grown → List ℕ
grown_text grown =
    made_text grown.made ++ (codes " zone" ++ (decimal grown.zone.0 ++ (codes " +" ++ decimal grown.added)))

-- the text of a report: its name and its offset
abbrev pub report_text : Report → List ℕ
report_text report = codes "report " ++ (report_name report.name ++ (codes " " ++ decimal report.at))

-- the text of an answer
abbrev pub answer_text : Answer → List ℕ
answer_text answer.Done = codes "ok"
answer_text (answer.Grown grown) = grown_text grown
answer_text (answer.Placed at) = codes "ok " ++ hex at.0
answer_text (answer.Segments segments) = codes "ok" ++ flat_map segment_text segments
answer_text (answer.InProgress have need) =
    codes "EINPROGRESS " ++ (decimal have ++ (codes "/" ++ decimal need))
answer_text (answer.Served moved) = codes "ok ready " ++ decimal moved
answer_text (answer.Bytes bytes) = codes "bytes" ++ bytes_text bytes
answer_text answer.Idle = codes "idle"
answer_text (answer.Refused errno) = errno_name errno
answer_text (answer.Report report) = report_text report
