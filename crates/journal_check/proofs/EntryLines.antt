-- The lines of entries: none has a line feed inside, and each names its actor.
use Rattle.std.proofs.Common.{◌≡◌, ℕ, zero, suc, ◌+◌, ◌/◌, ◌%◌, ◌==◌, ◌<◌, ◌≤◌, ◌^◌, ◌&&◌, Bool, true, false, cond}
use Rattle.std.proofs.Common.{List, [], ◌∷◌, ◌++◌, length, codes}
use Rattle.std.proofs.Common.{Option, Some, None, refl, sym, ap, ◌∙◌, arith, if◌then◌else◌, nat_lt, slice_get, subst}
use Rattle.std.proofs.lemmas.Bool.Decides.{nat_tests}
use Rattle.std.proofs.lemmas.Fmt.{decimal_injective}
use Rattle.std.proofs.lemmas.List.{append_cancel_left}
use Rattle.std.proofs.lemmas.List.Folds.{list_all-append}
use Rattle.std.specs.Fmt.{decimal, digits, digits_onto, digit_glyph}
use Rattle.std.specs.List.{list_all, flat_map}
use Rattle.busdma_base.specs.declared.journals.journal.Actor.{Actor}
use Rattle.busdma_base.specs.declared.journals.journal.JournalEntry.{JournalEntry}
use Rattle.busdma_base.specs.declared.journals.journal.Side.{Side}
use Rattle.busdma_base.specs.declared.journals.journal.Side.TheVariants as side
use Rattle.busdma_base.specs.declared.scenarios.scenario.Scenario.{Scenario}
use Rattle.std.specs.Prelude.{unwrap_or, slice_index, nat_le}
use Rattle.std.specs.Option.{option_map, option_map_or}
use Rattle.busdma_machine.specs.Each.{EachAfter}
use Rattle.busdma_base.specs.Scenarios.Names.{in_name, is_name, is_letter, MakesNewName}
use Rattle.busdma_base.specs.Scenarios.Operations.{Made, about, about_item, object_of, first_used, Makes, Uses}
use Rattle.busdma_base.specs.Scenarios.Script.{IsOp}
use Rattle.busdma_base.specs.Scenarios.Valid.{IsDriver, IsValid}
use Rattle.busdma_base.specs.Scenarios.Words.{op_word_text, item_word_text}
use Rattle.busdma_machine.specs.declared.name.LaneId.{LaneId}
use Rattle.busdma_base.specs.declared.journals.journal.Did.{Did}
use Rattle.busdma_base.specs.declared.journals.journal.Did.TheVariants as did
use Rattle.busdma_base.specs.declared.scenarios.operations.UsedName.{UsedName}
use Rattle.busdma_base.specs.declared.scenarios.scenario.Driver.{Driver}
use Rattle.busdma_base.specs.declared.scenarios.scenario.FrameRun.{FrameRun}
use Rattle.busdma_base.specs.declared.scenarios.script.Item.{Item}
use Rattle.busdma_base.specs.declared.scenarios.script.Op.{Op}
use Rattle.busdma_base.specs.declared.scenarios.words.OpWord.{OpWord}
use Rattle.busdma_base.specs.declared.scenarios.words.OpWord.TheVariants as op
use Rattle.busdma_base.specs.declared.scenarios.words.ItemWord.{ItemWord}
use Rattle.busdma_base.specs.declared.scenarios.words.ItemWord.TheVariants as item
use Rattle.std.specs.List.{concat}
use Rattle.std.proofs.lemmas.List.{append_assoc}
use Rattle.busdma_machine.specs.declared.bounce.zone.Grown.{Grown}
use Rattle.busdma_machine.specs.declared.machine.address.Segment.{Segment}
use Rattle.busdma_base.specs.declared.journals.answer.Answer.{Answer}
use Rattle.busdma_base.specs.declared.journals.answer.Answer.TheVariants as answers
use Rattle.busdma_base.specs.declared.journals.journal.Journal.{Journal}
use Rattle.busdma_machine.specs.declared.report.Errno.{Errno}
use Rattle.busdma_machine.specs.declared.report.Errno.TheVariants.{EINVAL, ENOMEM, EFBIG, EINPROGRESS, EBUSY}
use Rattle.busdma_machine.specs.declared.report.ReportName.{ReportName}
use Rattle.busdma_machine.specs.declared.report.ReportName.TheVariants as names
use Rattle.program_rules.specs.Reports.Answer.{errno_name, report_name, made_text, segment_text, byte_text, bytes_text}
use Rattle.program_rules.specs.Reports.Report.{journal_end_line, report}
use Rattle.program_rules.specs.Reports.Zone.{zone_lines}
use Rattle.program_rules.specs.Reports.Text.{hex, numbered}
use Rattle.program_rules.specs.Verdicts.TextLines.{lines}
use Rattle.program_rules.specs.Verdicts.ReportLines.{entry_lines, closing_lines}
use Rattle.journal_check.proofs.Lines.{lines-line, concat-lines}
use Rattle.program_rules.specs.Reports.Did.{did_text, script_of, name_made_at}
use Rattle.program_rules.specs.Reports.Did.{map_name, object_text, object_name, item_of_load}
use Rattle.program_rules.specs.Reports.Did.{again_text, op_text as report_op, item_text as report_item}
use Rattle.program_rules.specs.Reports.Answer.{answer_text}
use Rattle.program_rules.specs.Reports.Report.{side_letter, actor_text, entry_line}
use Rattle.journal_check.proofs.Lines.{over, and-both}
use Rattle.journal_check.proofs.Digits.{glyph-high, digits-high, decimal-high, joined, lower}

-- ---- the actor of a line

-- texts without a space are equal if they are equal up to a space
cut : (a b r t : List ℕ) → over 32 a ≡ true → over 32 b ≡ true → a ++ 32 ∷ r ≡ b ++ 32 ∷ t → a ≡ b
cut [] [] r t h k e = refl
cut [] (y ∷ b) r t h k e =
    let same : 32 ≡ y = cc in
    let high : nat_lt 32 y ≡ true = (and-both (nat_lt 32 y) (over 32 b) k).0 in
    absurd (grind (arith, nat_tests))
cut (x ∷ a) [] r t h k e =
    let same : x ≡ 32 = cc in
    let high : nat_lt 32 x ≡ true = (and-both (nat_lt 32 x) (over 32 a) h).0 in
    absurd (grind (arith, nat_tests))
cut (x ∷ a) (y ∷ b) r t h k e =
    let same : x ≡ y = cc in
    let rest : a ++ 32 ∷ r ≡ b ++ 32 ∷ t = cc in
    let left = and-both (nat_lt 32 x) (over 32 a) h in
    let right = and-both (nat_lt 32 y) (over 32 b) k in
    ap (λ z. z ∷ a) same ∙ ap (λ z. y ∷ z) (cut a b r t left.1 right.1 rest)

letter-high : (d : Side) → over 32 (side_letter d) ≡ true
letter-high side.Script = refl
letter-high side.Transfer = refl
letter-high side.Callback = refl

actor-high : (a : Actor) → over 32 (actor_text a) ≡ true
actor-high a = joined 32 (side_letter a.side) (decimal a.lane.0) (letter-high a.side)
    (lower 32 47 (decimal a.lane.0) (omega arith) (digits-high 10 false a.lane.0))

letters : (d e : Side) (x y : List ℕ) → side_letter d ++ x ≡ side_letter e ++ y → (d ≡ e) × (x ≡ y)
letters side.Script side.Script x y h = (refl, cc)
letters side.Script side.Transfer x y h = let m : ℕ = 115 in let c : m ≡ 100 = cc in absurd (omega (arith, c))
letters side.Script side.Callback x y h = let m : ℕ = 115 in let c : m ≡ 99 = cc in absurd (omega (arith, c))
letters side.Transfer side.Script x y h = let m : ℕ = 100 in let c : m ≡ 115 = cc in absurd (omega (arith, c))
letters side.Transfer side.Transfer x y h = (refl, cc)
letters side.Transfer side.Callback x y h = let m : ℕ = 100 in let c : m ≡ 99 = cc in absurd (omega (arith, c))
letters side.Callback side.Script x y h = let m : ℕ = 99 in let c : m ≡ 115 = cc in absurd (omega (arith, c))
letters side.Callback side.Transfer x y h = let m : ℕ = 99 in let c : m ≡ 100 = cc in absurd (omega (arith, c))
letters side.Callback side.Callback x y h = (refl, cc)

pub actor-told : (a b : Actor) → a.lane.0 < 2 ^ 64 → b.lane.0 < 2 ^ 64 → actor_text a ≡ actor_text b → a ≡ b
actor-told a b la lb h =
    let parts = letters a.side b.side (decimal a.lane.0) (decimal b.lane.0) h in
    let lane : a.lane.0 ≡ b.lane.0 = decimal_injective a.lane.0 b.lane.0 la lb parts.1 in
    ap (λ i. record { lane = record { 0 = i }; side = a.side }) lane
    ∙ ap (λ (d : Side). record { lane = b.lane; side = d }) parts.0

-- entries whose lines are the same under one number are of the same actor
pub one-actor : (s : Scenario) (n : ℕ) (e f : JournalEntry) → e.actor.lane.0 < 2 ^ 64 → f.actor.lane.0 < 2 ^ 64
    → entry_line s n e ≡ entry_line s n f → e.actor ≡ f.actor
one-actor s n e f le lf h =
    let behind = append_cancel_left (decimal n) _ _ h in
    let own = append_cancel_left (codes " ") _ _ behind in
    actor-told e.actor f.actor le lf
    (cut (actor_text e.actor) (actor_text f.actor) _ _ (actor-high e.actor) (actor-high f.actor) own)

-- ---- names

name-byte : (b : ℕ) → in_name b ≡ true → nat_lt 31 b ≡ true
name-byte b h = grind (arith, nat_tests)

name-bytes : (bs : List ℕ) → list_all in_name bs ≡ true → over 31 bs ≡ true
name-bytes [] h = refl
name-bytes (b ∷ bs) h =
    let parts = and-both (in_name b) (list_all in_name bs) h in
    rw (name-byte b parts.0) (name-bytes bs parts.1)

name-high : (name : List ℕ) → is_name name ≡ true → over 31 name ≡ true
name-high name h =
    by (nat_le 1 (length name) && nat_le (length name) 32 && is_letter (slice_index name 0)) h
  where
    by : (b : Bool) → (if b then list_all in_name name else false) ≡ true → over 31 name ≡ true
    by true k = name-bytes name k
    by false k = absurd (cc)

made-high : (before : List Op) (m : Option Made) → MakesNewName before m
    → over 31 (unwrap_or (option_map (λ (x : Made). x.name) m) []) ≡ true
made-high before None h = refl
made-high before (Some m) h = name-high m.name h.well_formed

-- what each operation of a script makes is a name, or nothing
name-at-high : (before script : List Op) (place : ℕ) → EachAfter IsOp before script →
    over 31 (name_made_at script place) ≡ true
name-at-high before [] place h = refl
name-at-high before (o ∷ script) zero h = made-high before (about o).makes h.0.new
name-at-high before (o ∷ script) (suc place) h = name-at-high (before ++ o ∷ []) script place h.1

script-high : (frames : List FrameRun) (before drivers : List Driver) (i : ℕ) → EachAfter (IsDriver frames) before
    drivers
    → EachAfter IsOp [] (option_map_or (λ (d : Driver). d.script) (slice_get drivers i) [])
script-high frames before [] i h = tt
script-high frames before (d ∷ drivers) zero h = h.0.script.each
script-high frames before (d ∷ drivers) (suc i) h = script-high frames (before ++ d ∷ []) drivers i h.1

-- ---- what was done

op-high : (w : OpWord) → over 31 (op_word_text w) ≡ true
op-high op.Tag = refl
op-high op.IommuTag = refl
op-high op.TagDestroy = refl
op-high op.Map = refl
op-high op.MapDestroy = refl
op-high op.Dmamem = refl
op-high op.DmamemFree = refl
op-high op.Load = refl
op-high op.LoadVector = refl
op-high op.LoadMbuf = refl
op-high op.LoadBio = refl
op-high op.Send = refl
op-high op.Unload = refl
op-high op.Sync = refl
op-high op.SyncRange = refl
op-high op.CpuRead = refl
op-high op.CpuWrite = refl
op-high op.Await = refl
op-high op.Ring = refl
op-high op.RingPost = refl
op-high op.Kick = refl

item-high : (w : ItemWord) → over 31 (item_word_text w) ≡ true
item-high item.Sync = refl
item-high item.SyncRange = refl
item-high item.DevRead = refl
item-high item.DevWrite = refl
item-high item.DevReadAt = refl
item-high item.DevWriteAt = refl
item-high item.RingStep = refl

hex-high : (n : ℕ) → over 31 (hex n) ≡ true
hex-high n = joined 31 (codes "0x") (digits 16 false n) refl
    (lower 31 47 (digits 16 false n) (omega arith) (digits-high 16 false n))

module _ (script : List Op) (names : EachAfter IsOp [] script) where
  named-high : (o : Op) (before : List Op) → IsOp before o →
      over 31 (object_text (option_map (object_name script) (object_of (about o)))) ≡ true
  named-high o before h = by (about o).makes (about o).uses h.new
    where
      used : (uses : List UsedName) → over 31 (object_text (option_map (object_name script) (first_used uses))) ≡ true
      used [] = refl
      used (u ∷ uses) = joined 31 (codes " ") (name_made_at script u.made_at) refl
          (name-at-high [] script u.made_at names)

      by : (m : Option Made) (uses : List UsedName) → MakesNewName before m
          → over 31 (object_text (option_map (object_name script)
          (option_map_or (λ made. Some (Makes made)) m (first_used uses)))) ≡ true
      by None uses k = used uses
      by (Some m) uses k = joined 31 (codes " ") m.name refl (name-high m.name k.well_formed)

  op-line-high : (rest before : List Op) (place : ℕ) → EachAfter IsOp before rest →
      over 31 (option_map_or (report_op script) (slice_get rest place) []) ≡ true
  op-line-high [] before place h = refl
  op-line-high (o ∷ rest) before zero h =
      joined 31 (op_word_text (about o).word) (object_text (option_map (object_name script) (object_of (about o))))
      (op-high (about o).word) (named-high o before h.0)
  op-line-high (o ∷ rest) before (suc place) h = op-line-high rest (before ++ o ∷ []) place h.1

  again-line-high : (rest before : List Op) (place : ℕ) → EachAfter IsOp before rest →
      over 31 (option_map_or (again_text script) (slice_get rest place) []) ≡ true
  again-line-high [] before place h = refl
  again-line-high (o ∷ rest) before zero h =
      joined 31 (codes "resend") (object_text (option_map (object_name script) (object_of (about o)))) refl
      (named-high o before h.0)
  again-line-high (o ∷ rest) before (suc place) h = again-line-high rest (before ++ o ∷ []) place h.1

  item-line-high : (i : Option Item) → over 31 (option_map_or (report_item script) i []) ≡ true
  item-line-high None = refl
  item-line-high (Some i) =
      joined 31 (item_word_text (about_item i).word) (codes " " ++ name_made_at script (about_item i).uses.made_at)
      (item-high (about_item i).word)
      (joined 31 (codes " ") (name_made_at script (about_item i).uses.made_at) refl
      (name-at-high [] script (about_item i).uses.made_at names))

pub did-high : (s : Scenario) (lane : LaneId) (d : Did) → IsValid s → over 31 (did_text s lane d) ≡ true
did-high s lane (did.Op place) valid =
    let own = script-high s.frames [] s.drivers lane.0 valid.drivers in
    op-line-high (script_of s lane) own (script_of s lane) [] place own
did-high s lane (did.Again place) valid =
    let own = script-high s.frames [] s.drivers lane.0 valid.drivers in
    again-line-high (script_of s lane) own (script_of s lane) [] place own
did-high s lane (did.Release map page) valid =
    let own = script-high s.frames [] s.drivers map.lane.0 valid.drivers in
    joined 31 (codes "release ") (map_name s map ++ (codes " " ++ hex page.0)) refl
    (joined 31 (map_name s map) (codes " " ++ hex page.0) (name-at-high [] (script_of s map.lane) map.made_at own)
    (joined 31 (codes " ") (hex page.0) refl (hex-high page.0)))
did-high s lane (did.Callback map) valid =
    let own = script-high s.frames [] s.drivers map.lane.0 valid.drivers in
    joined 31 (codes "callback ") (map_name s map) refl (name-at-high [] (script_of s map.lane) map.made_at own)
did-high s lane (did.Item load_at place) valid =
    let own = script-high s.frames [] s.drivers lane.0 valid.drivers in
    item-line-high (script_of s lane) own (item_of_load (script_of s lane) load_at place)

-- ---- answers

errno-high : (e : Errno) → over 31 (errno_name e) ≡ true
errno-high EINVAL = refl
errno-high ENOMEM = refl
errno-high EFBIG = refl
errno-high EINPROGRESS = refl
errno-high EBUSY = refl

report-name-high : (n : ReportName) → over 31 (report_name n) ≡ true
report-name-high names.Absent = refl
report-name-high names.Unmapped = refl
report-name-high names.MapBusy = refl
report-name-high names.NotLoaded = refl
report-name-high names.PastEnd = refl
report-name-high names.DeviceReadUnlent = refl
report-name-high names.DeviceWriteUnlent = refl
report-name-high names.CpuReadLent = refl
report-name-high names.CpuWriteLent = refl
report-name-high names.StaleByte = refl
report-name-high names.SyncOrder = refl
report-name-high names.MixedSync = refl
report-name-high names.Overlap = refl
report-name-high names.NotDeferred = refl
report-name-high names.ForeignMemory = refl
report-name-high names.Untranslated = refl

made-text-high : (b : Bool) → over 31 (made_text b) ≡ true
made-text-high true = refl
made-text-high false = refl

flat-high : {A : Type 0} (text : A → List ℕ) → ((x : A) → over 31 (text x) ≡ true) → (xs : List A)
    → over 31 (flat_map text xs) ≡ true
flat-high text each [] = refl
flat-high text each (x ∷ xs) = joined 31 (text x) (flat_map text xs) (each x) (flat-high text each xs)

segment-high : (x : Segment) → over 31 (segment_text x) ≡ true
segment-high x = joined 31 (codes " ") (hex x.addr.0 ++ (codes "+" ++ decimal x.len)) refl
    (joined 31 (hex x.addr.0) (codes "+" ++ decimal x.len) (hex-high x.addr.0)
    (joined 31 (codes "+") (decimal x.len) refl (decimal-high x.len)))

byte-high : (b : ℕ) → over 31 (byte_text b) ≡ true
byte-high b =
    lower 31 47 (byte_text b) (omega arith) (rw (glyph-high false (b / 16), glyph-high false (b % 16)) refl)

bytes-high : (bs : List ℕ) → over 31 (bytes_text bs) ≡ true
bytes-high [] = refl
bytes-high (b ∷ bs) = joined 31 (codes " ") (flat_map byte_text (b ∷ bs)) refl (flat-high byte_text byte-high (b ∷ bs))

pub answer-high : (a : Answer) → over 31 (answer_text a) ≡ true
answer-high answers.Done = refl
answer-high (answers.Grown g) =
    joined 31 (made_text g.made) (codes " zone" ++ (decimal g.zone.0 ++ (codes " +" ++ decimal g.added)))
    (made-text-high g.made)
    (joined 31 (codes " zone") (decimal g.zone.0 ++ (codes " +" ++ decimal g.added)) refl
    (joined 31 (decimal g.zone.0) (codes " +" ++ decimal g.added) (decimal-high g.zone.0)
    (joined 31 (codes " +") (decimal g.added) refl (decimal-high g.added))))
answer-high (answers.Placed at) = joined 31 (codes "ok ") (hex at.0) refl (hex-high at.0)
answer-high (answers.Segments segments) =
    joined 31 (codes "ok") (flat_map segment_text segments) refl (flat-high segment_text segment-high segments)
answer-high (answers.InProgress have need) =
    joined 31 (codes "EINPROGRESS ") (decimal have ++ (codes "/" ++ decimal need)) refl
    (joined 31 (decimal have) (codes "/" ++ decimal need) (decimal-high have)
    (joined 31 (codes "/") (decimal need) refl (decimal-high need)))
answer-high (answers.Served moved) = joined 31 (codes "ok ready ") (decimal moved) refl (decimal-high moved)
answer-high (answers.Bytes bytes) = joined 31 (codes "bytes") (bytes_text bytes) refl (bytes-high bytes)
answer-high answers.Idle = refl
answer-high (answers.Refused errno) = errno-high errno
answer-high (answers.Report r) =
    joined 31 (codes "report ") (report_name r.name ++ (codes " " ++ decimal r.at)) refl
    (joined 31 (report_name r.name) (codes " " ++ decimal r.at) (report-name-high r.name)
    (joined 31 (codes " ") (decimal r.at) refl (decimal-high r.at)))

-- ---- lines

-- a text is one line
record IsLine (text : List ℕ) : Type 0 where
  front : List ℕ
  high : over 31 front ≡ true
  is : text ≡ front ++ 10 ∷ []

behind : (a text : List ℕ) → over 31 a ≡ true → IsLine text → IsLine (a ++ text)
behind a text h l = record {
  front = a ++ l.front;
  high = joined 31 a l.front h l.high;
  is = ap (λ t. a ++ t) l.is ∙ sym (append_assoc a l.front (10 ∷ []));
}

entry-line : (s : Scenario) (n : ℕ) (e : JournalEntry) → IsValid s → IsLine (entry_line s n e)
entry-line s n e valid =
    let own : over 31 (actor_text e.actor) ≡ true = lower 31 32 (actor_text e.actor) (omega arith)
    (actor-high e.actor) in
    let last : IsLine (codes "\n") = record { front = []; high = refl; is = refl } in
    behind (decimal n) _ (decimal-high n) (behind (codes " ") _ refl (behind (actor_text e.actor) _ own
    (behind (codes " ") _ refl (behind (did_text s e.actor.lane e.did) _ (did-high s e.actor.lane e.did valid)
    (behind (codes " -> ") _ refl (behind (answer_text e.answer) _ (answer-high e.answer) last))))))

first-line : (text rest : List ℕ) → IsLine text → lines (text ++ rest) ≡ text ∷ lines rest
first-line text rest l =
    ap (λ t. lines (t ++ rest)) l.is ∙ ap lines (append_assoc l.front (10 ∷ []) rest) ∙ lines-line l.front rest l.high
    ∙ ap (λ t. t ∷ lines rest) (sym l.is)

-- the lines of entries and of what follows
pub lines-numbered : (s : Scenario) (n : ℕ) (es : List JournalEntry) (rest : List ℕ) → IsValid s
    → lines (numbered (entry_line s) n es ++ rest) ≡ entry_lines s n es ++ lines rest
lines-numbered s n [] rest valid = refl
lines-numbered s n (e ∷ es) rest valid =
    let t : List ℕ = entry_line s n e in
    ap lines (append_assoc t (numbered (entry_line s) (n + 1) es) rest)
    ∙ first-line t (numbered (entry_line s) (n + 1) es ++ rest) (entry-line s n e valid)
    ∙ ap (λ ls. t ∷ ls) (lines-numbered s (n + 1) es rest valid)

pub concat-entries : (s : Scenario) (n : ℕ) (es : List JournalEntry) (rest : List (List ℕ))
    → concat (entry_lines s n es ++ rest) ≡ numbered (entry_line s) n es ++ concat rest
concat-entries s n [] rest = refl
concat-entries s n (e ∷ es) rest =
    ap (λ t. entry_line s n e ++ t) (concat-entries s (n + 1) es rest)
    ∙ sym (append_assoc (entry_line s n e) (numbered (entry_line s) (n + 1) es) (concat rest))

-- a report's lines are those of its entries, and those of its zones and its end
pub lines-report : (s : Scenario) (j : Journal) → IsValid s
    → lines (report s j) ≡ entry_lines s 0 j.entries ++ closing_lines j
lines-report s j valid = lines-numbered s 0 j.entries (zone_lines j.zones ++ journal_end_line j) valid

-- a text with these lines is the report
pub report-from_lines : (s : Scenario) (j : Journal) (text : List ℕ)
    → lines text ≡ entry_lines s 0 j.entries ++ closing_lines j → text ≡ report s j
report-from_lines s j text h =
    sym (concat-lines text) ∙ ap concat h ∙ concat-entries s 0 j.entries (closing_lines j)
    ∙ ap (λ t. numbered (entry_line s) 0 j.entries ++ t) (concat-lines (zone_lines j.zones ++ journal_end_line j))
