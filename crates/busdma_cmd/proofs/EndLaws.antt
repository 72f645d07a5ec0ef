-- From how a run ends to what a call of the program keeps.
use Rattle.std.proofs.Common.{◌≡◌, ◌≢◌, ℕ, ◌+◌, ◌≤◌, ◌<◌, inl, inr, cond, Bool, true, false, arith}
use Rattle.std.proofs.Common.{List, length, Option, Some, None, Result, Ok, Err, refl, sym, ap, ◌∙◌}
use Rattle.std.proofs.Common.{subst}
use Rattle.io_edge.specs.Reading.{TakesAtMost}
use Rattle.busdma_base.specs.declared.scenarios.scenario.Scenario.{Scenario}
use Rattle.busdma_base.specs.declared.journals.journal.Journal.{Journal}
use Rattle.busdma_base.specs.declared.journals.journal.JournalEntry.{JournalEntry}
use Rattle.busdma_base.specs.declared.journals.journal.End.{End}
use Rattle.busdma_base.specs.declared.journals.journal.End.TheVariants.{Finished, Stuck}
use Rattle.scenario_format.specs.declared.refusal.Refusal.{Refusal}
use Rattle.scenario_format.specs.declared.reading.Reading.TheVariants.{Good, Bad}
use Rattle.std.specs.Prelude.{IfSome, IsSomeAnd}
use Rattle.ideal_world.specs.Ends.{status, status_by, has_report}
use Rattle.busdma_cmd.specs.declared.cause.Cause.{Cause}
use Rattle.busdma_cmd.specs.declared.cause.Cause.TheVariants as cause
use Rattle.program_rules.specs.declared.program_end.ProgramEnd.{ProgramEnd}
use Rattle.program_rules.specs.declared.command.Command.{Command}
use Rattle.program_rules.specs.declared.command.Command.TheVariants.{Replay, Run, Storm, Check}
use Rattle.program_rules.specs.Commands.Words.{command}
use Rattle.program_rules.specs.Commands.Edges.{StreamEdges as Edges, ReadFailed, NoReadFailed}
use Rattle.program_rules.specs.Commands.Edges.{ReadNothing, ReadAll, ReadAtMost}
use Rattle.program_rules.specs.Commands.Edges.{ReadTooMany, input_limit}
use Rattle.program_rules.specs.Commands.Edges.{WriteFailed, NoWriteFailed, WroteNothing, WroteAll, WrotePart}
use Rattle.busdma_cmd.specs.Ends.{OfInput, CountsReads, Makes, Stops, StopsReading, EndsBy, outcome}
use Rattle.program_rules.specs.Commands.Judging.{command_reading}
use Rattle.program_rules.specs.Commands.Keeps.{IsDoneStatus as IsDone, IsOfReading, HasWritten}
use Rattle.program_rules.specs.Commands.Keeps.{KeepsJournal, Ran, RanAndWrote}
use Rattle.program_rules.specs.Commands.Keeps.{RanUnwritten, Done, EndsUnwritten as Unwritten}
use Rattle.program_rules.specs.Commands.Keeps.{WasRefused, AnswersInput, AnswersReading}
use Rattle.program_rules.specs.Commands.Keeps.{IsComplete, Keeps}
use Rattle.program_rules.specs.Commands.Runs.{ReadScenario as IsRead, IsReader, RunsScenario as Runs}
use Rattle.busdma_cmd.proofs.Taking.{AsksFor, all_at_most, if_command, is_long, not_gave_too_many, not_long}
use Rattle.busdma_cmd.proofs.Taking.{not_too_many, nothing_at_most, of_command, one_more_at_most, runs_few, runs_read}
use Rattle.busdma_cmd.proofs.Taking.{runs_unread, same_judged, some_command}

-- ---- the fields

-- the status of a run is one of a run that was done
by_reports : (b : Bool) → IsDone (cond b 1 0)
by_reports true = inr (inl refl)
by_reports false = inl refl

by_end : (end : End) (entries : List JournalEntry) → IsDone (status_by end entries)
by_end Stuck entries = inr (inr refl)
by_end Finished entries = by_reports (has_report entries)

status_is_done : (j : Journal) → IsDone (status j)
status_is_done j = by_end j.end j.entries

done_is_small : (n : ℕ) → IsDone n → n ≤ 2
done_is_small n (inl is) = omega arith
done_is_small n (inr (inl is)) = omega arith
done_is_small n (inr (inr is)) = omega arith

pub not_done : (n : ℕ) → 2 < n → IsDone n → ⊥
not_done n large done = let small = done_is_small n done in absurd (omega arith)

not_written : (n : ℕ) → 2 < n → n ≢ 73 → HasWritten n → ⊥
not_written n large other (inl done) = not_done n large done
not_written n large other (inr is) = other is

-- a call has no journal if its status is that of no run and of no failed write
no_journal : (o : Option Command) (n : ℕ) → 2 < n → n ≢ 73 → IsSomeAnd o (λ c. KeepsJournal c n) → ⊥
no_journal None n large other keeps = keeps
no_journal (Some Replay) n large other keeps = not_written n large other keeps
no_journal (Some Run) n large other keeps = not_written n large other keeps
no_journal (Some (Storm rounds seed)) n large other keeps = not_written n large other keeps
no_journal (Some Check) n large other keeps = absurd (omega (arith, large, keeps))

pub done_of_reading : (n : ℕ) → IsDone n → IsOfReading n → ⊥
done_of_reading n done (inl is) = not_done n (omega arith) done
done_of_reading n done (inr (inl is)) = not_done n (omega arith) done
done_of_reading n done (inr (inr is)) = not_done n (omega arith) done

pub other_of_reading : (n : ℕ) → n ≢ 65 → n ≢ 66 → n ≢ 74 → IsOfReading n → ⊥
other_of_reading n first second third (inl is) = first is
other_of_reading n first second third (inr (inl is)) = second is
other_of_reading n first second third (inr (inr is)) = third is

-- a scenario is not both good and refused
not_both : (c : Command) (bytes : List ℕ) (s : Scenario) (r : Refusal) → command_reading c bytes ≡ Good s
    → command_reading c bytes ≡ Bad r → ⊥
not_both c bytes s r good bad = let h : Good s ≡ Bad r = sym good ∙ bad in absurd (cc)

-- the same bytes have only one refusal
same_refusal : (c : Command) (bytes : List ℕ) (r q : Refusal) → command_reading c bytes ≡ Bad r
    → command_reading c bytes ≡ Bad q → r ≡ q
same_refusal c bytes r q first second = let h : Bad r ≡ Bad q = sym first ∙ second in cc

-- None is not Some
pub none_is_some : false ≡ true → ⊥
none_is_some is = absurd (cc)

-- ---- each ending

-- an input that was read and is good is answered by what is done
pub done_answers : (c : Command) (e : Edges) (o : ProgramEnd) (bytes : List ℕ) (scenario : Scenario) → ReadAll bytes e
    → command_reading c bytes ≡ Good scenario → IsDone o.status → AnswersInput c e o
done_answers c e o bytes scenario read good done = record {
  short = λ input is short unread unwritten.
      inl (subst (AnswersReading o) (sym (same_judged c bytes e input read is ∙ good)) done);
  long = λ input is long unread. absurd (not_long bytes e input read is long);
  refused = λ input r is short bad unread.
      absurd (not_both c bytes scenario r good (sym (same_judged c bytes e input read is) ∙ bad));
}

done_complete : (c : Command) (e : Edges) (j : Journal) (scenario : Scenario) → Runs c e scenario
    → IsDone (status j) → IsComplete c e (outcome (Ok j))
done_complete Replay e j scenario runs done =
    done_answers Replay e (outcome (Ok j)) runs.bytes scenario runs.read runs.good done
done_complete Run e j scenario runs done =
    done_answers Run e (outcome (Ok j)) runs.bytes scenario runs.read runs.good done
done_complete (Storm n seed) e j scenario runs done = λ unwritten. inl done
done_complete Check e j scenario runs done = absurd runs

-- a command that ran a scenario has done its work, or could not write
done_run : (c : Command) (e : Edges) (o : ProgramEnd) → RanAndWrote c e o → Done c e o
done_run Replay e o ran = ran
done_run Run e o ran = ran
done_run (Storm n seed) e o ran = ran
done_run Check e o ran = absurd ran.ran.runs

unwritten_run : (c : Command) (e : Edges) (o : ProgramEnd) → RanUnwritten c e o → Unwritten c e o
unwritten_run Replay e o ran = ran
unwritten_run Run e o ran = ran
unwritten_run (Storm n seed) e o ran = ran
unwritten_run Check e o ran = absurd ran.ran.runs

-- a command that ran a scenario keeps its journal
journal_run : (c : Command) (e : Edges) (scenario : Scenario) (n : ℕ) → Runs c e scenario → HasWritten n →
    KeepsJournal c n
journal_run Replay e scenario n runs written = written
journal_run Run e scenario n runs written = written
journal_run (Storm rounds seed) e scenario n runs written = written
journal_run Check e scenario n runs written = absurd runs

done_keeps : (words : List (List ℕ)) (c : Command) (e : Edges) (j : Journal) → AsksFor words c
    → NoReadFailed e → NoWriteFailed e → Makes c e j WroteAll → Keeps words e (outcome (Ok j))
done_keeps words c e j asked well_read well_written ends =
    let done : IsDone (status j) = status_is_done j in
    let small : status j ≤ 2 = done_is_small (status j) done in
    let ran : Ran c e (outcome (Ok j)) = record {
      scenario = ends.0;
      journal = j;
      runs = ends.1;
      valid = ends.2;
      kept = refl;
      made = ends.3;
    } in
    record {
      known = inl done;
      no_command = λ is. absurd (omega arith);
      usage = λ none. absurd (some_command words c asked none);
      reads = λ is. absurd (done_of_reading (status j) done is);
      reads_nothing = λ other. runs_unread words c e ends.0 asked ends.1 other;
      done = λ _. of_command words c (λ x. Done x e (outcome (Ok j))) asked
          (done_run c e (outcome (Ok j)) (record { ran = ran; wrote = ends.4; status = refl }));
      refused = λ is. absurd (omega arith);
      too_long = λ is. absurd (omega arith);
      too_many = λ more. absurd (runs_few c e ends.0 ends.1 more);
      unwritten = λ is. absurd (omega arith);
      unread = λ is. absurd (omega arith);
      no_read_failed = λ _. well_read;
      no_write_failed = λ _. well_written;
      nothing = inl (inl done);
      journal = (
        λ _. of_command words c (λ x. KeepsJournal x (status j)) asked
            (journal_run c e ends.0 (status j) ends.1 (inl done)),
        λ _. refl,
      );
      fault = (λ is. absurd (none_is_some is), λ is. absurd (omega arith));
      read_most = runs_read c e ends.0 ends.1;
      complete = if_command words c (λ x. IsComplete x e (outcome (Ok j))) asked
          (done_complete c e j ends.0 ends.1 done);
    }

-- if the sink failed, nothing is required of it
pub unwritten_answers : (c : Command) (e : Edges) (o : ProgramEnd) (bytes : List ℕ) (scenario : Scenario) →
    ReadAll bytes e
    → command_reading c bytes ≡ Good scenario → WriteFailed e → AnswersInput c e o
unwritten_answers c e o bytes scenario read good failed = record {
  short = λ input is short unread unwritten. absurd (unwritten failed);
  long = λ input is long unread. absurd (not_long bytes e input read is long);
  refused = λ input r is short bad unread.
      absurd (not_both c bytes scenario r good (sym (same_judged c bytes e input read is) ∙ bad));
}

unwritten_complete : (c : Command) (e : Edges) (j : Journal) (scenario : Scenario)
    → Runs c e scenario → WriteFailed e → IsComplete c e (outcome (Err (cause.WriteFailed j)))
unwritten_complete Replay e j scenario runs failed =
    unwritten_answers Replay e (outcome (Err (cause.WriteFailed j))) runs.bytes scenario runs.read runs.good failed
unwritten_complete Run e j scenario runs failed =
    unwritten_answers Run e (outcome (Err (cause.WriteFailed j))) runs.bytes scenario runs.read runs.good failed
unwritten_complete (Storm n seed) e j scenario runs failed = λ unwritten. absurd (unwritten failed)
unwritten_complete Check e j scenario runs failed = absurd runs

unwritten_keeps : (words : List (List ℕ)) (c : Command) (e : Edges) (j : Journal) → AsksFor words c
    → NoReadFailed e → WriteFailed e → Makes c e j WrotePart
    → Keeps words e (outcome (Err (cause.WriteFailed j)))
unwritten_keeps words c e j asked well_read failed ends =
    let ran : Ran c e (outcome (Err (cause.WriteFailed j))) = record {
      scenario = ends.0;
      journal = j;
      runs = ends.1;
      valid = ends.2;
      kept = refl;
      made = ends.3;
    } in
    record {
      known = inr (inr (inr (inr (inr (inl refl)))));
      no_command = λ is. absurd (omega arith);
      usage = λ none. absurd (some_command words c asked none);
      reads = λ is. absurd (other_of_reading 73 (λ is. absurd (omega arith))
          (λ is. absurd (omega arith)) (λ is. absurd (omega arith)) is);
      reads_nothing = λ other. runs_unread words c e ends.0 asked ends.1 other;
      done = λ is. absurd (not_done 73 (omega arith) is);
      refused = λ is. absurd (omega arith);
      too_long = λ is. absurd (omega arith);
      too_many = λ more. absurd (runs_few c e ends.0 ends.1 more);
      unwritten = λ _. of_command words c
          (λ x. Unwritten x e (outcome (Err (cause.WriteFailed j)))) asked
          (unwritten_run c e (outcome (Err (cause.WriteFailed j)))
          (record { ran = ran; wrote = ends.4; cause = failed }));
      unread = λ is. absurd (omega arith);
      no_read_failed = λ _. well_read;
      no_write_failed = λ other. absurd (other refl);
      nothing = inl (inr refl);
      journal = (
        λ _. of_command words c (λ x. KeepsJournal x 73) asked (journal_run c e ends.0 73 ends.1 (inr refl)),
        λ _. refl,
      );
      fault = (λ is. absurd (none_is_some is), λ is. absurd (omega arith));
      read_most = runs_read c e ends.0 ends.1;
      complete = if_command words c (λ x. IsComplete x e (outcome (Err (cause.WriteFailed j)))) asked
          (unwritten_complete c e j ends.0 ends.1 failed);
    }

-- the outcome of the input makes a command that reads it complete
reader_complete : (c : Command) (e : Edges) (o : ProgramEnd) → IsReader c → AnswersInput c e o → IsComplete c e o
reader_complete Replay e o reader answers = answers
reader_complete Run e o reader answers = answers
reader_complete (Storm n seed) e o reader answers = absurd reader
reader_complete Check e o reader answers = answers

pub refused_keeps : (words : List (List ℕ)) (c : Command) (e : Edges) (r : Refusal) → AsksFor words c → IsReader c
    → NoReadFailed e → OfInput e.left e.left_after (λ bytes. command_reading c bytes ≡ Bad r)
    → WroteNothing e → Keeps words e (outcome (Err (cause.Refused r)))
refused_keeps words c e r asked reader well_read ends nothing =
    let all : ReadAll ends.0 e = record { all = ends.1; short = ends.2 } in
    record {
      known = inr (inr (inl refl));
      no_command = λ is. absurd (omega arith);
      usage = λ none. absurd (some_command words c asked none);
      reads = λ _. of_command words c IsReader asked reader;
      reads_nothing = λ other. absurd (other (of_command words c IsReader asked reader));
      done = λ is. absurd (not_done 65 (omega arith) is);
      refused = λ _. of_command words c (λ x. WasRefused x e (outcome (Err (cause.Refused r)))) asked
          (record { bytes = ends.0; refusal = r; read = all; bad = ends.3; kept = refl });
      too_long = λ is. absurd (omega arith);
      too_many = λ more. absurd (not_gave_too_many ends.0 e all more);
      unwritten = λ is. absurd (omega arith);
      unread = λ is. absurd (omega arith);
      no_read_failed = λ _. well_read;
      no_write_failed = λ _. nothing.faults;
      nothing = inr nothing;
      journal = (
        λ is. absurd (none_is_some is),
        λ is. absurd (no_journal (command words) 65 (omega arith) (λ is. absurd (omega arith)) is),
      );
      fault = (λ _. refl, λ _. refl);
      read_most = all_at_most ends.0 e.left e.left_after ends.1 ends.2;
      complete = if_command words c (λ x. IsComplete x e (outcome (Err (cause.Refused r)))) asked
          (reader_complete c e (outcome (Err (cause.Refused r))) reader (record {
            short = λ input is short unread unwritten.
                let bad : command_reading c input ≡ Bad r = same_judged c ends.0 e input all is ∙ ends.3 in
                inl (subst (AnswersReading (outcome (Err (cause.Refused r)))) (sym bad) (refl, refl));
            long = λ input is long unread. absurd (not_long ends.0 e input all is long);
            refused = λ input q is short bad unread.
                let same : command_reading c ends.0 ≡ Bad q = sym (same_judged c ends.0 e input all is) ∙ bad in
                inl (refl, ap Some (same_refusal c ends.0 r q ends.3 same));
          }));
    }

pub long_keeps : (words : List (List ℕ)) (c : Command) (e : Edges) → AsksFor words c → IsReader c → NoReadFailed e
    → ReadTooMany e → WroteNothing e → Keeps words e (outcome (Err cause.TooLong))
long_keeps words c e asked reader well_read takes nothing =
    let long : (input : List ℕ) → e.left ≡ Some input → input_limit < length input =
    λ input is. is_long e.left e.left_after input takes is in
    record {
      known = inr (inr (inr (inl refl)));
      no_command = λ is. absurd (omega arith);
      usage = λ none. absurd (some_command words c asked none);
      reads = λ _. of_command words c IsReader asked reader;
      reads_nothing = λ other. absurd (other (of_command words c IsReader asked reader));
      done = λ is. absurd (not_done 66 (omega arith) is);
      refused = λ is. absurd (omega arith);
      too_long = λ _. takes;
      too_many = λ more. inl refl;
      unwritten = λ is. absurd (omega arith);
      unread = λ is. absurd (omega arith);
      no_read_failed = λ _. well_read;
      no_write_failed = λ _. nothing.faults;
      nothing = inr nothing;
      journal = (
        λ is. absurd (none_is_some is),
        λ is. absurd (no_journal (command words) 66 (omega arith) (λ is. absurd (omega arith)) is),
      );
      fault = (λ is. absurd (none_is_some is), λ is. absurd (omega arith));
      read_most = (input_limit + 1, omega arith, takes);
      complete = if_command words c (λ x. IsComplete x e (outcome (Err cause.TooLong))) asked
          (reader_complete c e (outcome (Err cause.TooLong)) reader (record {
            short = λ input is short unread unwritten. absurd (omega (arith, short, long input is));
            long = λ input is long unread. inl refl;
            refused = λ input r is short bad unread. absurd (omega (arith, short, long input is));
          }));
    }

pub unread_keeps : (words : List (List ℕ)) (c : Command) (e : Edges) → AsksFor words c → IsReader c → ReadFailed e
    → TakesAtMost input_limit e.left e.left_after → WroteNothing e
    → Keeps words e (outcome (Err cause.ReadFailed))
unread_keeps words c e asked reader failed most nothing = record {
  known = inr (inr (inr (inr (inr (inr refl)))));
  no_command = λ is. absurd (omega arith);
  usage = λ none. absurd (some_command words c asked none);
  reads = λ _. of_command words c IsReader asked reader;
  reads_nothing = λ other. absurd (other (of_command words c IsReader asked reader));
  done = λ is. absurd (not_done 74 (omega arith) is);
  refused = λ is. absurd (omega arith);
  too_long = λ is. absurd (omega arith);
  too_many = λ more.
      absurd (not_too_many e.left e.left_after most more.0 more.1 more.2 more.3 more.4);
  unwritten = λ is. absurd (omega arith);
  unread = λ _. failed;
  no_read_failed = λ other. absurd (other refl);
  no_write_failed = λ _. nothing.faults;
  nothing = inr nothing;
  journal = (
    λ is. absurd (none_is_some is),
    λ is. absurd (no_journal (command words) 74 (omega arith) (λ is. absurd (omega arith)) is),
  );
  fault = (λ is. absurd (none_is_some is), λ is. absurd (omega arith));
  read_most = one_more_at_most e.left e.left_after most;
  complete = if_command words c (λ x. IsComplete x e (outcome (Err cause.ReadFailed))) asked
      (reader_complete c e (outcome (Err cause.ReadFailed)) reader (record {
        short = λ input is short unread unwritten. absurd (unread failed);
        long = λ input is long unread. absurd (unread failed);
        refused = λ input r is short bad unread. absurd (unread failed);
      }));
}

-- if memory ran out, nothing is required
no_memory_answers : (c : Command) (e : Edges) → AnswersInput c e (outcome (Err cause.OutOfMemory))
no_memory_answers c e = record {
  short = λ input is short unread unwritten. inr refl;
  long = λ input is long unread. inr refl;
  refused = λ input r is short bad unread. inr refl;
}

no_memory_complete : (c : Command) (e : Edges) → IsComplete c e (outcome (Err cause.OutOfMemory))
no_memory_complete Replay e = no_memory_answers Replay e
no_memory_complete Run e = no_memory_answers Run e
no_memory_complete (Storm n seed) e = λ unwritten. inr refl
no_memory_complete Check e = no_memory_answers Check e

each_complete : (o : Option Command) (e : Edges)
    → IfSome o (λ c. IsComplete c e (outcome (Err cause.OutOfMemory)))
each_complete None e = tt
each_complete (Some c) e = no_memory_complete c e

-- the end of a call that ran out of memory, whatever the words ask for
pub no_memory_keeps : (words : List (List ℕ)) (e : Edges) → NoReadFailed e → ReadAtMost e
    → ((IsSomeAnd (command words) IsReader → ⊥) → ReadNothing e) → WroteNothing e
    → Keeps words e (outcome (Err cause.OutOfMemory))
no_memory_keeps words e well_read most unread nothing = record {
  known = inr (inr (inr (inr (inl refl))));
  no_command = λ is. absurd (omega arith);
  usage = λ none. inr refl;
  reads = λ is. absurd (other_of_reading 71 (λ is. absurd (omega arith))
      (λ is. absurd (omega arith)) (λ is. absurd (omega arith)) is);
  reads_nothing = unread;
  done = λ is. absurd (not_done 71 (omega arith) is);
  refused = λ is. absurd (omega arith);
  too_long = λ is. absurd (omega arith);
  too_many = λ more. inr refl;
  unwritten = λ is. absurd (omega arith);
  unread = λ is. absurd (omega arith);
  no_read_failed = λ _. well_read;
  no_write_failed = λ _. nothing.faults;
  nothing = inr nothing;
  journal = (
    λ is. absurd (none_is_some is),
    λ is. absurd (no_journal (command words) 71 (omega arith) (λ is. absurd (omega arith)) is),
  );
  fault = (λ is. absurd (none_is_some is), λ is. absurd (omega arith));
  read_most = most;
  complete = each_complete (command words) e;
}

-- the outcome if there was no memory for the words
pub unjudged_keeps : (words : List (List ℕ)) (e : Edges) → ReadNothing e → WroteNothing e
    → Keeps words e (outcome (Err cause.OutOfMemory))
unjudged_keeps words e read nothing =
    no_memory_keeps words e read.faults (nothing_at_most e.left e.left_after read.bytes) (λ _. read) nothing

reading_stopped : (c : Command) (e : Edges) (why : Cause) → IsReader c → Stops c e why
    → StopsReading (command_reading c) e.left e.left_after why
reading_stopped Replay e why reader stops = stops
reading_stopped Run e why reader stops = stops
reading_stopped (Storm n seed) e why reader stops = absurd reader
reading_stopped Check e why reader stops = stops

-- what a command that reads keeps, however it ends
pub reader_keeps : (words : List (List ℕ)) (c : Command) (e : Edges) (ran : Result Journal Cause)
    → AsksFor words c → IsReader c → EndsBy c e ran
    → CountsReads e.read_faults e.read_faults_after ran → Keeps words e (outcome ran)
reader_keeps words c e (Ok j) asked reader ends read = done_keeps words c e j asked read ends.0 ends.1
reader_keeps words c e (Err (cause.WriteFailed j)) asked reader ends read =
    unwritten_keeps words c e j asked read ends.0 ends.1
reader_keeps words c e (Err cause.LineUnwritten) asked reader ends read =
    absurd (reading_stopped c e cause.LineUnwritten reader ends.0)
reader_keeps words c e (Err (cause.Refused r)) asked reader ends read =
    refused_keeps words c e r asked reader read (reading_stopped c e (cause.Refused r) reader ends.0) ends.1
reader_keeps words c e (Err cause.TooLong) asked reader ends read =
    long_keeps words c e asked reader read (reading_stopped c e cause.TooLong reader ends.0) ends.1
reader_keeps words c e (Err cause.OutOfMemory) asked reader ends read =
    no_memory_keeps words e read (reading_stopped c e cause.OutOfMemory reader ends.0)
    (λ other. absurd (other (of_command words c IsReader asked reader))) ends.1
reader_keeps words c e (Err cause.ReadFailed) asked reader ends read =
    unread_keeps words c e asked reader read (reading_stopped c e cause.ReadFailed reader ends.0) ends.1

-- what a storm keeps
pub storm_keeps : (words : List (List ℕ)) (n seed : ℕ) (e : Edges) (ran : Result Journal Cause)
    → AsksFor words (Storm n seed) → EndsBy (Storm n seed) e ran → Keeps words e (outcome ran)
storm_keeps words n seed e (Ok j) asked ends =
    done_keeps words (Storm n seed) e j asked ends.1.1.read.faults ends.0 ends.1
storm_keeps words n seed e (Err (cause.WriteFailed j)) asked ends =
    unwritten_keeps words (Storm n seed) e j asked ends.1.1.read.faults ends.0 ends.1
storm_keeps words n seed e (Err cause.LineUnwritten) asked ends = absurd (cc (ends.0.0))
storm_keeps words n seed e (Err (cause.Refused r)) asked ends = absurd (cc (ends.0.0))
storm_keeps words n seed e (Err cause.TooLong) asked ends = absurd (cc (ends.0.0))
storm_keeps words n seed e (Err cause.OutOfMemory) asked ends = unjudged_keeps words e ends.0.1 ends.1
storm_keeps words n seed e (Err cause.ReadFailed) asked ends = absurd (cc (ends.0.0))
