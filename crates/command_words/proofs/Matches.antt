-- The command of the matches that clap found.
use Rattle.std.proofs.Common.{◌≡◌, ◌∙◌, cond, false, List, codes, sym, ap, ap₂, Option, Some, None, option_map}
use Rattle.std.specs.Prelude.{Box}
use Rattle.std.specs.Box.{box_value}
use Rattle.std.specs.Str.{bytes_eq}
use Rattle.clap.specs.Walk.{Row, Text, first_of, rows_of}
use Rattle.clap.specs.Matches.{found_of, subcommand_name_of}
use Rattle.clap.specs.Simple.{subcommand_rows, subcommand_rows_of}
use Rattle.clap.specs.declared.parser.matches.ArgMatches.{ArgMatches}
use Rattle.clap.specs.declared.parser.matches.ArgMatches.TheViews.{out-ArgMatches, out-SubCommand}
use Rattle.clap.specs.declared.parser.matches.SubCommand.{SubCommand}
use Rattle.program_rules.specs.declared.command.Command.{Command}
use Rattle.program_rules.specs.declared.command.Command.TheVariants.{Replay, Run, Check}
use Rattle.command_words.specs.Line.{met, storm_asked}

-- the storm that the matched words ask for
abbrev asked : List Row → Option Command
asked rows = storm_asked (first_of (codes "N") rows) (first_of (codes "SEED") rows)

met_in : {Z : Type 0} (name : Text) (rows : List Row) (s : Option (Box SubCommand Z))
    → Some name ≡ option_map (λ b. (out-SubCommand (box_value b)).name.now) s
    → Some rows ≡ option_map (λ p. p.1) (subcommand_rows s)
    → bytes_eq name (codes "replay") ≡ false → bytes_eq name (codes "run") ≡ false
    → bytes_eq name (codes "check") ≡ false → asked rows ≡ met (subcommand_rows s)
met_in name rows None is_name is_rows other no_run no_check = absurd (cc)
met_in name rows (Some b) is_name is_rows other no_run no_check =
    let sub = out-SubCommand (box_value b) in
    let same_name : name ≡ sub.name.now = cc in
    let same_rows : rows ≡ rows_of (found_of sub.matches) = cc in
    let no_replay : bytes_eq sub.name.now (codes "replay") ≡ false =
    ap (λ t. bytes_eq t (codes "replay")) (sym same_name) ∙ other in
    let not_run : bytes_eq sub.name.now (codes "run") ≡ false =
    ap (λ t. bytes_eq t (codes "run")) (sym same_name) ∙ no_run in
    let not_check : bytes_eq sub.name.now (codes "check") ≡ false =
    ap (λ t. bytes_eq t (codes "check")) (sym same_name) ∙ no_check in
    let found : Option Command = asked (rows_of (found_of sub.matches)) in
    ap asked same_rows
    ∙ (ap (λ d. cond d (Some Check) found) (sym not_check)
    ∙ ap₂ (λ b c. cond b (Some Replay)
    (cond c (Some Run) (cond (bytes_eq sub.name.now (codes "check")) (Some Check) found)))
    (sym no_replay) (sym not_run))

-- a subcommand that is none of `replay`, `run` and `check` is the storm of its two words
pub met_is : (name : Text) (rows : List Row) (m : ArgMatches) → Some name ≡ subcommand_name_of m
    → Some rows ≡ option_map (λ p. p.1) (subcommand_rows_of m)
    → bytes_eq name (codes "replay") ≡ false → bytes_eq name (codes "run") ≡ false
    → bytes_eq name (codes "check") ≡ false → asked rows ≡ met (subcommand_rows_of m)
met_is name rows m = met_in name rows (out-ArgMatches m).subcommand
