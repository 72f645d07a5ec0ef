use Rattle.std.proofs.Common.{◌∙◌, ap, codes, string_bytes}
use Rattle.std.specs.Str.{bytes_eq}
use Rattle.command_words.proofs.Bounds.{one_word_is}
use Rattle.command_words.proofs.command.is_run.Goals as goal

pub returns-in-len1 : goal.returns-in-len1
returns-in-len1 c =
    one_word_is string_bytes c.args.words.now c.word-item.result c.eq.result c.in-len1.len_at_least
    c.in-len1.len_below c.word-item.is (c.eq.ensures ∙ ap (λ t. bytes_eq t (codes "run")) c.as_str.ensures.value)
