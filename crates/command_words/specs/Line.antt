-- The command line as clap sees it.
use Rattle.std.specs.Prelude.{◌==◌, Bool, List, Option, Some, None, codes, slice_index, true, if◌then◌else◌}
use Rattle.std.specs.Str.{bytes_eq}
use Rattle.clap.specs.Words.{App, Row, Rule, Text, first_of, new_app, new_rule, with_rule, with_subcommand}
use Rattle.program_rules.specs.declared.command.Command.{Command}
use Rattle.program_rules.specs.declared.command.Command.TheVariants.{Replay, Run, Check}
use Rattle.program_rules.specs.Commands.Words.{storm_command}

-- the word begins with a hyphen
abbrev pub is_flag : Text → Bool
is_flag word = slice_index word 0 == 45

-- the rule of an argument that must be given
abbrev pub required_argument : Text → Rule
required_argument id = record (new_rule id) { required = true }

-- the subcommand `storm N SEED`
abbrev pub storm_arguments : App
storm_arguments =
    with_rule (with_rule (new_app (codes "storm")) (required_argument (codes "N"))) (required_argument (codes "SEED"))

-- the program without its commands
abbrev pub program : App
program = record (new_app (codes "busdma_run")) {
  top = record (new_app (codes "busdma_run")).top {
    no_binary_name = true;
    disable_help_flag = true;
    disable_help_subcommand = true;
    subcommand_required = true;
  };
}

-- the program and its four commands
abbrev pub line : App
line = with_subcommand
    (with_subcommand
    (with_subcommand (with_subcommand program (new_app (codes "replay")).top) (new_app (codes "run")).top)
    (new_app (codes "check")).top)
    storm_arguments.top

-- the storm that two words ask for, if both were given
abbrev pub storm_asked : Option Text → Option Text → Option Command
storm_asked (Some n) (Some seed) = storm_command n seed
storm_asked (Some n) None = None
storm_asked None seed = None

-- the command that clap found, given its subcommand and the matches of that
abbrev pub met : Option (Text × List Row) → Option Command
met None = None
met (Some found) =
    if bytes_eq found.0 (codes "replay") then Some Replay
    else (if bytes_eq found.0 (codes "run") then Some Run
    else (if bytes_eq found.0 (codes "check") then Some Check
    else storm_asked (first_of (codes "N") found.1) (first_of (codes "SEED") found.1)))
