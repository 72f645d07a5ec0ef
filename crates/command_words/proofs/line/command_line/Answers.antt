use Rattle.std.proofs.Common.{ap, ap₂, true, codes, ◌≡◌, ◌∙◌}
use Rattle.std.proofs.lemmas.Result.{IfOk-weaker}
use Rattle.clap.specs.Words.{App, app_of, new_app, with_subcommand}
use Rattle.clap.specs.Simple.{app_of_fields}
use Rattle.clap.proofs.SimpleLemmas.{plain_fields}
use Rattle.command_words.specs.Line.{program}
use Rattle.command_words.proofs.line.command_line.Goals as goal

abbrev without_name : App → App
without_name a = record a { top = record a.top { no_binary_name = true } }

abbrev without_flag : App → App
without_flag a = record a { top = record a.top { disable_help_flag = true } }

abbrev without_help : App → App
without_help a = record a { top = record a.top { disable_help_subcommand = true } }

abbrev with_required : App → App
with_required a = record a { top = record a.top { subcommand_required = true } }

pub returns : goal.returns
returns c =
    let named : app_of c.no_binary_name.result ≡ without_name (new_app (codes "busdma_run")) =
    ap app_of_fields c.no_binary_name.ensures ∙ ap without_name c.new.ensures.app in
    let flagged : app_of c.disable_help_flag.result ≡ without_flag (without_name (new_app (codes "busdma_run"))) =
    ap app_of_fields c.disable_help_flag.ensures ∙ ap without_flag named in
    let helped : app_of c.disable_help_subcommand.result
    ≡ without_help (without_flag (without_name (new_app (codes "busdma_run")))) =
    ap app_of_fields c.disable_help_subcommand.ensures ∙ ap without_help flagged in
    let program_is : app_of c.subcommand_required.result ≡ program =
    ap app_of_fields c.subcommand_required.ensures ∙ ap with_required helped in
    let replay_is = ap (λ (a : App). a.top) c.new-2.ensures.app in
    let first : app_of c.in_ok-subcommand.field-0 ≡ with_subcommand program (new_app (codes "replay")).top =
    c.in_ok-subcommand.ensures.shape c.new-2.ensures.local ∙ ap₂ with_subcommand program_is replay_is in
    let run_is = ap (λ (a : App). a.top) c.new-3.ensures.app in
    let second : app_of c.in_ok-subcommand-2.field-0
    ≡ with_subcommand (with_subcommand program (new_app (codes "replay")).top) (new_app (codes "run")).top =
    c.in_ok-subcommand-2.ensures.shape c.new-3.ensures.local ∙ ap₂ with_subcommand first run_is in
    let check_is = ap (λ (a : App). a.top) c.new-4.ensures.app in
    let third : app_of c.in_ok-subcommand-3.field-0
    ≡ with_subcommand (with_subcommand (with_subcommand program (new_app (codes "replay")).top)
    (new_app (codes "run")).top)
    (new_app (codes "check")).top =
    c.in_ok-subcommand-3.ensures.shape c.new-4.ensures.local ∙ ap₂ with_subcommand second check_is in
    let storm_is = ap (λ (a : App). a.top) c.in_ok-storm.ensures in
    let local = (plain_fields c.in_ok-storm.storm (ap (λ (a : App). a.top.is_plain) c.in_ok-storm.ensures)).globals in
    IfOk-weaker c.subcommand-4.result _ _ (λ r added. added.shape local ∙ ap₂ with_subcommand third storm_is)
    c.subcommand-4.ensures
