-- From how a check ends to what a call of the program keeps.
use Rattle.std.proofs.Common.{◌≡◌, ◌≢◌, ℕ, ◌+◌, ◌≤◌, ◌<◌, ◌↔◌, inl, inr, arith}
use Rattle.std.proofs.Common.{List, length, Option, Some, None, Result, Ok, Err, refl, sym, ap, ◌∙◌, subst, option_map}
use Rattle.std.specs.Option.{option_map_or}
use Rattle.std.specs.Prelude.{IfSome, IsSome, IsSomeAnd}
use Rattle.std.specs.Result.{IsErrAnd}
use Rattle.io_edge.specs.Reading.{TakesAll}
use Rattle.busdma_base.specs.declared.scenarios.scenario.Scenario.{Scenario}
use Rattle.scenario_format.specs.declared.refusal.Refusal.{Refusal}
use Rattle.scenario_format.specs.declared.reading.Reading.TheVariants.{Good, Bad}
use Rattle.scenario_format.specs.Scenarios.Scenario.{scenario_of}
use Rattle.program_rules.specs.declared.verdict.Verdict.{Verdict}
use Rattle.program_rules.specs.declared.verdict.Verdict.TheVariants.{Yes, No}
use Rattle.program_rules.specs.Verdicts.Header.{Cut, cut_of}
use Rattle.program_rules.specs.declared.command.Command.TheVariants.{Check}
use Rattle.program_rules.specs.Commands.Words.{command}
use Rattle.busdma_cmd.specs.declared.cause.Cause.{Cause}
use Rattle.busdma_cmd.specs.declared.cause.Cause.TheVariants as cause
use Rattle.program_rules.specs.declared.program_end.ProgramEnd.{ProgramEnd}
use Rattle.program_rules.specs.Commands.Checks.{Checked, HasVerdict, verdict_journal, verdict_line, verdict_status}
use Rattle.busdma_cmd.specs.Checks.{ChecksBy, Judges, ReadsVerdict, checked_outcome}
use Rattle.program_rules.specs.Commands.Edges.{StreamEdges as Edges, NoReadFailed, WriteFailed}
use Rattle.program_rules.specs.Commands.Edges.{NoWriteFailed, WroteNothing, WroteAll}
use Rattle.program_rules.specs.Commands.Edges.{WrotePart, input_limit}
use Rattle.busdma_cmd.specs.Ends.{CountsReads, outcome}
use Rattle.program_rules.specs.Commands.Judging.{bad_header, command_reading, scenario_behind_header}
use Rattle.program_rules.specs.Commands.Keeps.{Done, IsComplete, IsDoneStatus as IsDone}
use Rattle.program_rules.specs.Commands.Keeps.{Keeps, KeepsJournal, EndsUnwritten as Unwritten}
use Rattle.program_rules.specs.Commands.Runs.{IsReader}
use Rattle.busdma_cmd.proofs.EndLaws.{done_answers, done_of_reading, long_keeps, no_memory_keeps, none_is_some}
use Rattle.busdma_cmd.proofs.EndLaws.{not_done, other_of_reading, refused_keeps, unread_keeps, unwritten_answers}
use Rattle.busdma_cmd.proofs.Taking.{AsksFor, all_at_most, if_command, not_gave_too_many, of_command, some_command}

-- ---- how an input is judged

behind : (input : List ℕ) (o : Option Cut) → o ≡ cut_of input →
    scenario_behind_header input ≡ option_map_or (λ c. scenario_of c.scenario) o (Bad bad_header)
behind input o is = ap (λ x. option_map_or (λ c. scenario_of c.scenario) x (Bad bad_header)) (sym is)

behind_header : (input : List ℕ) (cut : Cut) → Some cut ≡ cut_of input →
    scenario_behind_header input ≡ scenario_of cut.scenario
behind_header input cut is = behind input (Some cut) is

good_of : (input : List ℕ) (v : Verdict) (h : HasVerdict input v) → command_reading Check input ≡ Good h.scenario
good_of input v h = behind_header input h.cut (sym h.is_cut) ∙ h.good

-- memory ran out for the line
pub check_ran_out : (e : Edges) (v : Verdict) (ran : Result Verdict Cause) →
    IsErrAnd ran (λ why. why ≡ cause.OutOfMemory)
    → ReadsVerdict e.left e.left_after (Ok v) → WroteNothing e → ChecksBy e ran
check_ran_out e v (Ok w) is reads nothing = absurd is
check_ran_out e v (Err why) is reads nothing =
    subst (λ w. ChecksBy e (Err w)) (sym is) (all_at_most reads.0 e.left e.left_after reads.1 reads.2, nothing)

-- ---- the fields

small : (v : Verdict) → verdict_status v ≤ 1
small (Yes j) = omega arith
small (No n) = omega arith

is_done : (v : Verdict) → IsDone (verdict_status v)
is_done (Yes j) = inl refl
is_done (No n) = inr (inl refl)

has_journal : (v : Verdict) → IsSome (verdict_journal v) ↔ (verdict_status v ≡ 0)
has_journal (Yes j) = (λ _. refl, λ _. refl)
has_journal (No n) = (λ is. absurd (none_is_some is), λ is. absurd (omega arith))

-- what holds of the command that the words ask for
of_asked : (words : List (List ℕ)) (n : ℕ) → AsksFor words Check → IsSomeAnd (command words) (λ c. KeepsJournal c n) → n
    ≡ 0
of_asked words n asked keeps = subst (λ o. IsSomeAnd o (λ c. KeepsJournal c n)) asked keeps

-- ---- each ending

verdict_keeps : (words : List (List ℕ)) (e : Edges) (v : Verdict) → AsksFor words Check → NoReadFailed e →
    NoWriteFailed e
    → Checked e v → WroteAll (verdict_line v) e → Keeps words e (checked_outcome (Ok v))
verdict_keeps words e v asked well_read well_written checked wrote =
    let o : ProgramEnd = checked_outcome (Ok v) in
    let few : verdict_status v ≤ 1 = small v in
    record {
      known = inl (is_done v);
      no_command = λ is. absurd (omega (arith, few, is));
      usage = λ none. absurd (some_command words Check asked none);
      reads = λ is. absurd (done_of_reading (verdict_status v) (is_done v) is);
      reads_nothing = λ other. absurd (other (of_command words Check IsReader asked tt));
      done = λ _. of_command words Check (λ x. Done x e o) asked
          (record { verdict = v; checked = checked; wrote = wrote; status = refl; journal = refl });
      refused = λ is. absurd (omega (arith, few, is));
      too_long = λ is. absurd (omega (arith, few, is));
      too_many = λ more. absurd (not_gave_too_many checked.bytes e checked.read more);
      unwritten = λ is. absurd (omega (arith, few, is));
      unread = λ is. absurd (omega (arith, few, is));
      no_read_failed = λ _. well_read;
      no_write_failed = λ _. well_written;
      nothing = inl (inl (is_done v));
      journal = (
        λ some. of_command words Check (λ x. KeepsJournal x (verdict_status v)) asked ((has_journal v).0 some),
        λ keeps. (has_journal v).1 (of_asked words (verdict_status v) asked keeps),
      );
      fault = (λ is. absurd (none_is_some is), λ is. absurd (omega (arith, few, is)));
      read_most = all_at_most checked.bytes e.left e.left_after checked.read.all checked.read.short;
      complete = if_command words Check (λ x. IsComplete x e o) asked
          (done_answers Check e o checked.bytes checked.judged.scenario checked.read
          (good_of checked.bytes v checked.judged) (is_done v));
    }

line_unwritten_keeps : (words : List (List ℕ)) (e : Edges) (v : Verdict) → AsksFor words Check → NoReadFailed e
    → WriteFailed e → Checked e v → WrotePart (verdict_line v) e
    → Keeps words e (checked_outcome (Err cause.LineUnwritten))
line_unwritten_keeps words e v asked well_read failed checked wrote =
    let o : ProgramEnd = checked_outcome (Err cause.LineUnwritten) in
    record {
      known = inr (inr (inr (inr (inr (inl refl)))));
      no_command = λ is. absurd (omega arith);
      usage = λ none. absurd (some_command words Check asked none);
      reads = λ is. absurd (other_of_reading 73 (λ is. absurd (omega arith))
          (λ is. absurd (omega arith)) (λ is. absurd (omega arith)) is);
      reads_nothing = λ other. absurd (other (of_command words Check IsReader asked tt));
      done = λ is. absurd (not_done 73 (omega arith) is);
      refused = λ is. absurd (omega arith);
      too_long = λ is. absurd (omega arith);
      too_many = λ more. absurd (not_gave_too_many checked.bytes e checked.read more);
      unwritten = λ _. of_command words Check (λ x. Unwritten x e o) asked
          (record { verdict = v; checked = checked; wrote = wrote; cause = failed });
      unread = λ is. absurd (omega arith);
      no_read_failed = λ _. well_read;
      no_write_failed = λ other. absurd (other refl);
      nothing = inl (inr refl);
      journal = (
        λ is. absurd (none_is_some is),
        λ keeps. let zero : 73 ≡ 0 = of_asked words 73 asked keeps in absurd (omega (arith, zero)),
      );
      fault = (λ is. absurd (none_is_some is), λ is. absurd (omega arith));
      read_most = all_at_most checked.bytes e.left e.left_after checked.read.all checked.read.short;
      complete = if_command words Check (λ x. IsComplete x e o) asked
          (unwritten_answers Check e o checked.bytes checked.judged.scenario checked.read
          (good_of checked.bytes v checked.judged) failed);
    }

-- what a check keeps, however it ends
pub check_keeps : (words : List (List ℕ)) (e : Edges) (ran : Result Verdict Cause) → AsksFor words Check →
    ChecksBy e ran
    → CountsReads e.read_faults e.read_faults_after ran → Keeps words e (checked_outcome ran)
check_keeps words e (Ok v) asked ends read = verdict_keeps words e v asked read ends.0 ends.1 ends.2
check_keeps words e (Err cause.LineUnwritten) asked ends read =
    line_unwritten_keeps words e ends.1.0 asked read ends.0 ends.1.1 ends.1.2
check_keeps words e (Err (cause.WriteFailed j)) asked ends read = absurd ends
check_keeps words e (Err (cause.Refused r)) asked ends read =
    refused_keeps words Check e r asked tt read ends.0 ends.1
check_keeps words e (Err cause.TooLong) asked ends read = long_keeps words Check e asked tt read ends.0 ends.1
check_keeps words e (Err cause.OutOfMemory) asked ends read =
    no_memory_keeps words e read ends.0 (λ other. absurd (other (of_command words Check IsReader asked tt))) ends.1
check_keeps words e (Err cause.ReadFailed) asked ends read =
    unread_keeps words Check e asked tt read ends.0 ends.1
