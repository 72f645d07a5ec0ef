use Rattle.std.proofs.Common.{rules, ◌≡◌, ◌∙◌, ap₂, false, codes}
use Rattle.std.specs.Str.{bytes_eq}
use Rattle.clap.specs.Walk.{rows_of}
use Rattle.clap.specs.Matches.{found_of}
use Rattle.clap.proofs.WalkLemmas.{first_value-rows}
use Rattle.command_words.specs.Line.{storm_asked}
use Rattle.command_words.proofs.Matches.{met_is}
use Rattle.command_words.proofs.command.met.Goals as goal

pub returns-in_default : goal.returns-in_default
returns-in_default c =
    let sub = c.in_ok-subcommand.field-0 in
    let other : bytes_eq sub.0.now (codes "replay") ≡ false = search rules in
    let no_run : bytes_eq sub.0.now (codes "run") ≡ false = search rules in
    let no_check : bytes_eq sub.0.now (codes "check") ≡ false = search rules in
    let found = found_of sub.1.now in
    c.storm_of.ensures
    ∙ (ap₂ storm_asked (c.get_str.ensures ∙ first_value-rows found (codes "N"))
    (c.get_str-in_default.ensures ∙ first_value-rows found (codes "SEED"))
    ∙ met_is sub.0.now (rows_of found) c.args.matches.now c.in_ok-subcommand.ensures.name
    c.in_ok-subcommand.ensures.rows other no_run no_check)
