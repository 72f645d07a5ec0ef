use Rattle.std.proofs.Common.{◌≡◌, ◌∙◌, sym, map, string_bytes, false}
use Rattle.std.specs.List.{list_any}
use Rattle.clap.proofs.WalkLemmas.{list_any-map}
use Rattle.clap.specs.Words.{app_of}
use Rattle.command_words.specs.Line.{is_flag}
use Rattle.command_words.proofs.Flags.{flags_ask_nothing}
use Rattle.command_words.proofs.Reading.{read_is, unread_is}
use Rattle.command_words.proofs.command.command_of.Goals as goal

pub returns-then-has_flag : goal.returns-then-has_flag
returns-then-has_flag c =
    sym (flags_ask_nothing (map string_bytes c.args.words.now) (sym (list_any-map is_flag string_bytes c.args.words.now)
    ∙ (sym c.has_flag.ensures ∙ c.if-has_flag.true)))

pub returns-in-Ok : goal.returns-in-Ok
returns-in-Ok c =
    let words = map string_bytes c.args.words.now in
    let plain : list_any is_flag words ≡ false = sym (list_any-map is_flag string_bytes c.args.words.now)
    ∙ (sym c.has_flag.ensures ∙ c.if-has_flag.false) in
    c.met.ensures
    ∙ read_is (app_of c.in_ok-line.line) words c.in-Ok.matches c.in_ok-line.ensures plain
    c.in-Ok.ensures.kinds c.in-Ok.ensures.matches

pub returns : goal.returns
returns c =
    let words = map string_bytes c.args.words.now in
    let plain : list_any is_flag words ≡ false = sym (list_any-map is_flag string_bytes c.args.words.now)
    ∙ (sym c.has_flag.ensures ∙ c.if-has_flag.false) in
    sym (unread_is (app_of c.in_ok-line.line) words c.in-Err.error c.in_ok-line.ensures plain
    c.in-Err.ensures.kinds (λ oom. c.in_default.not-OutOfMemory (c.kind.ensures ∙ oom)))
