-- What a command takes from its source, and how it stops before it has a journal.
use Rattle.std.proofs.Common.{◌≡◌, ◌≢◌, ℕ, ◌+◌, ◌≤◌, ◌<◌, arith}
use Rattle.std.proofs.Common.{List, length, drop, length-drop, Option, Some, None, Result, Ok, Err, refl, sym, ap, ◌∙◌}
use Rattle.std.proofs.Common.{subst}
use Rattle.std.proofs.Math.Seq.{drop-length}
use Rattle.std.specs.Result.{IsErrAnd}
use Rattle.io_edge.specs.Reading.{Takes, TakesAtMost, TakesAll}
use Rattle.busdma_base.specs.Scenarios.Valid.{IsValid}
use Rattle.busdma_base.specs.declared.scenarios.scenario.Scenario.{Scenario}
use Rattle.busdma_base.specs.declared.journals.journal.Journal.{Journal}
use Rattle.std.specs.Prelude.{IfSome, IsSomeAnd}
use Rattle.busdma_cmd.specs.declared.cause.Cause.{Cause}
use Rattle.busdma_cmd.specs.declared.cause.Cause.TheVariants as cause
use Rattle.program_rules.specs.declared.command.Command.{Command}
use Rattle.program_rules.specs.declared.command.Command.TheVariants.{Replay, Run, Storm, Check}
use Rattle.program_rules.specs.Commands.Words.{command}
use Rattle.program_rules.specs.Commands.Edges.{StreamEdges as Edges, ReadNothing, ReadAll, ReadAtMost, input_limit}
use Rattle.program_rules.specs.Commands.Edges.{WriteFailed, WroteNothing, WrotePart}
use Rattle.busdma_cmd.specs.Ends.{ReadsInput, CountsReads, Stops, StopsReading, EndsBy}
use Rattle.program_rules.specs.Commands.Judging.{command_reading}
use Rattle.program_rules.specs.Commands.Keeps.{GaveTooMany}
use Rattle.program_rules.specs.Commands.Runs.{IsMadeOf, ReadScenario as IsRead, IsReader, RunsScenario as Runs, text_of}

-- ---- what is taken

-- all of a short input is at most one byte too many
pub all_at_most : (bytes : List ℕ) (before after : Option (List ℕ)) → TakesAll bytes before after
    → length bytes ≤ input_limit → TakesAtMost (input_limit + 1) before after
all_at_most bytes None after all short = (0, omega arith, tt)
all_at_most bytes (Some left) after all short =
    let some : after ≡ Some (drop (length left) left) = all.1 ∙ ap Some (sym (drop-length left)) in
    let same : length left ≡ length bytes = ap length all.0 in
    (length left, omega arith, (omega arith, some))

-- what is within the limit is at most one byte more than the limit
pub one_more_at_most : (before after : Option (List ℕ)) → TakesAtMost input_limit before after
    → TakesAtMost (input_limit + 1) before after
one_more_at_most before after most = (most.0, omega (arith, most.1), most.2)

-- taking nothing is taking at most one byte too many
pub nothing_at_most : (before after : Option (List ℕ)) → after ≡ before
    → TakesAtMost (input_limit + 1) before after
nothing_at_most None after same = (0, omega arith, tt)
nothing_at_most (Some left) after same = (0, omega arith, (omega arith, same))

-- a command that reads stops if its reading stops
pub stops_reading : (c : Command) (e : Edges) (why : Cause) → IsReader c
    → StopsReading (command_reading c) e.left e.left_after why → Stops c e why
stops_reading Replay e why reader stops = stops
stops_reading Run e why reader stops = stops
stops_reading (Storm n seed) e why reader stops = absurd reader
stops_reading Check e why reader stops = stops

-- memory ran out after all of the input was read
pub ran_out : (c : Command) (e : Edges) (scenario : Scenario) (ran : Result Journal Cause) → IsReader c
    → IsErrAnd ran (λ why. why ≡ cause.OutOfMemory)
    → ReadsInput e.left e.left_after (Ok scenario) → WroteNothing e → EndsBy c e ran
ran_out c e scenario (Ok journal) reader is reads nothing = absurd is
ran_out c e scenario (Err why) reader is reads nothing =
    subst (λ w. EndsBy c e (Err w)) (sym is)
    (stops_reading c e cause.OutOfMemory reader (all_at_most reads.0 e.left e.left_after reads.1 reads.2), nothing)

-- the command runs the scenario that it reads
abbrev pub RunsInput : Command → Type 0
RunsInput Replay = Unit {0}
RunsInput Run = Unit {0}
RunsInput (Storm n seed) = ⊥
RunsInput Check = ⊥

-- the scenario of the input is the one that the command runs
pub runs_input : (c : Command) (e : Edges) (scenario : Scenario) → RunsInput c
    → ReadsInput e.left e.left_after (Ok scenario) → Runs c e scenario
runs_input c e scenario reader reads = of_command_that_reads c reader
  where
    is_read : IsRead e scenario
    is_read = record { bytes = reads.0; read = record { all = reads.1; short = reads.2 }; good = reads.3 }

    of_command_that_reads : (d : Command) → RunsInput d → Runs d e scenario
    of_command_that_reads Replay reader = is_read
    of_command_that_reads Run reader = is_read
    of_command_that_reads (Storm n seed) reader = absurd reader
    of_command_that_reads Check reader = absurd reader

-- if memory ran out after reading, no read had failed
pub ran_out_after : {A : Type 0} (before now : ℕ) (ran : Result A Cause)
    → IsErrAnd ran (λ why. why ≡ cause.OutOfMemory) → now ≡ before → CountsReads before now ran
ran_out_after before now (Ok done) is stayed = absurd is
ran_out_after {A} before now (Err why) is stayed =
    subst (λ w. CountsReads {A = A} before now (Err w)) (sym is) stayed

-- the sink failed before the text's last byte
pub sink_failed : (c : Command) (e : Edges) (scenario : Scenario) (journal : Journal) (text : List ℕ)
    → Runs c e scenario → IsValid scenario
    → IsMadeOf c scenario journal → text ≡ text_of c scenario journal
    → WrotePart text e → WriteFailed e → EndsBy c e (Err (cause.WriteFailed journal))
sink_failed c e scenario journal text runs valid made is part failed =
    (failed, (scenario, runs, valid, made, subst (λ t. WrotePart t e) is part))

-- memory ran out for a storm
pub storm_ran_out : (n seed : ℕ) (e : Edges) (ran : Result Journal Cause)
    → IsErrAnd ran (λ why. why ≡ cause.OutOfMemory) → ReadNothing e → WroteNothing e
    → EndsBy (Storm n seed) e ran
storm_ran_out n seed e (Ok journal) is read nothing = absurd is
storm_ran_out n seed e (Err why) is read nothing =
    subst (λ w. EndsBy (Storm n seed) e (Err w)) (sym is) ((refl, read), nothing)

-- ---- what the words ask for

-- the words ask for this command
abbrev pub AsksFor : List (List ℕ) → Command → Type 0
AsksFor words c = command words ≡ Some c

pub some_command : (words : List (List ℕ)) (c : Command) → AsksFor words c → command words ≢ None
some_command words c asked none = let bad : Some c ≡ None = sym asked ∙ none in absurd (cc)

pub of_command : (words : List (List ℕ)) (c : Command) (P : Command → Type 0) → AsksFor words c → P c
    → IsSomeAnd (command words) P
of_command words c P asked holds = subst (λ o. IsSomeAnd o P) (sym asked) holds

pub if_command : (words : List (List ℕ)) (c : Command) (P : Command → Type 0) → AsksFor words c → P c
    → IfSome (command words) P
if_command words c P asked holds = subst (λ o. IfSome o P) (sym asked) holds

-- ---- too many bytes

pub not_too_many : (before after : Option (List ℕ)) → TakesAtMost input_limit before after
    → (input rest : List ℕ) → before ≡ Some input → after ≡ Some rest
    → length rest + input_limit < length input → ⊥
not_too_many None after most input rest was is more = absurd (cc)
not_too_many (Some left) after most input rest was is more =
    let l : left ≡ input = cc in
    let d : rest ≡ drop most.0 left = cc (most.2.1) in
    let n : length rest ≡ length (drop most.0 left) = ap length d in
    let m : length left ≡ length input = ap length l in
    absurd (omega (arith, length-drop most.0 left, most.1))

-- all of a short input is not too many
pub all_not_too_many : (bytes : List ℕ) (before after : Option (List ℕ)) → TakesAll bytes before after
    → length bytes ≤ input_limit → (input rest : List ℕ) → before ≡ Some input → after ≡ Some rest
    → length rest + input_limit < length input → ⊥
all_not_too_many bytes None after all short input rest was is more = absurd (cc)
all_not_too_many bytes (Some left) after all short input rest was is more =
    let l : left ≡ input = cc in
    let n : length left ≡ length bytes = ap length all.0 in
    let m : length left ≡ length input = ap length l in
    absurd (omega arith)

-- bytes that were read completely are not too many
pub not_gave_too_many : (bytes : List ℕ) (e : Edges) → ReadAll bytes e → GaveTooMany e → ⊥
not_gave_too_many bytes e read more =
    all_not_too_many bytes e.left e.left_after read.all read.short more.0 more.1 more.2 more.3 more.4

pub same_length : (before after : Option (List ℕ)) → after ≡ before → (input rest : List ℕ)
    → before ≡ Some input → after ≡ Some rest → length rest + input_limit < length input → ⊥
same_length before after same input rest was is more =
    let one : Some rest ≡ Some input = sym is ∙ (same ∙ was) in
    let equal : rest ≡ input = cc in
    let long : length rest ≡ length input = ap length equal in
    absurd (omega arith)

-- no bytes are not too many
pub not_gave_unread : (e : Edges) → ReadNothing e → GaveTooMany e → ⊥
not_gave_unread e read more =
    same_length e.left e.left_after read.bytes more.0 more.1 more.2 more.3 more.4

-- what a command runs was not too many bytes
pub runs_few : (c : Command) (e : Edges) (scenario : Scenario) → Runs c e scenario → GaveTooMany e → ⊥
runs_few Replay e scenario runs more = not_gave_too_many runs.bytes e runs.read more
runs_few Run e scenario runs more = not_gave_too_many runs.bytes e runs.read more
runs_few (Storm n seed) e scenario runs more = not_gave_unread e runs.read more
runs_few Check e scenario runs more = absurd runs

pub runs_read : (c : Command) (e : Edges) (scenario : Scenario) → Runs c e scenario → ReadAtMost e
runs_read Replay e scenario runs =
    all_at_most runs.bytes e.left e.left_after runs.read.all runs.read.short
runs_read Run e scenario runs =
    all_at_most runs.bytes e.left e.left_after runs.read.all runs.read.short
runs_read (Storm n seed) e scenario runs = nothing_at_most e.left e.left_after runs.read.bytes
runs_read Check e scenario runs = absurd runs

-- a command that does not read took nothing
pub runs_unread : (words : List (List ℕ)) (c : Command) (e : Edges) (scenario : Scenario) → AsksFor words c
    → Runs c e scenario → (IsSomeAnd (command words) IsReader → ⊥) → ReadNothing e
runs_unread words Replay e scenario asked runs other = absurd (other (of_command words Replay IsReader asked tt))
runs_unread words Run e scenario asked runs other = absurd (other (of_command words Run IsReader asked tt))
runs_unread words (Storm n seed) e scenario asked runs other = runs.read
runs_unread words Check e scenario asked runs other = absurd runs

-- the bytes that were all of the input are the input
pub same_input : (bytes : List ℕ) (before after : Option (List ℕ)) (input : List ℕ)
    → TakesAll bytes before after → before ≡ Some input → input ≡ bytes
same_input bytes None after input all is = absurd (cc)
same_input bytes (Some left) after input all is =
    let l : left ≡ input = cc in sym l ∙ all.0

-- the input is judged as the bytes that were read completely
pub same_judged : (c : Command) (bytes : List ℕ) (e : Edges) (input : List ℕ) → ReadAll bytes e
    → e.left ≡ Some input → command_reading c input ≡ command_reading c bytes
same_judged c bytes e input read is =
    ap (command_reading c) (same_input bytes e.left e.left_after input read.all is)

-- an input that was read completely is not long
pub not_long : (bytes : List ℕ) (e : Edges) (input : List ℕ) → ReadAll bytes e
    → e.left ≡ Some input → input_limit < length input → ⊥
not_long bytes e input read is long =
    let same : length input ≡ length bytes =
    ap length (same_input bytes e.left e.left_after input read.all is) in
    absurd (omega (arith, read.short))

-- an input of which too many bytes were taken is long
pub is_long : (before after : Option (List ℕ)) (input : List ℕ) → Takes (input_limit + 1) before after
    → before ≡ Some input → input_limit < length input
is_long None after input takes is = absurd (cc)
is_long (Some left) after input takes is =
    let l : left ≡ input = cc in
    let m : length left ≡ length input = ap length l in
    omega (arith, takes.0)
