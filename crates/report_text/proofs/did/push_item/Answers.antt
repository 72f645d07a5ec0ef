use Rattle.std.proofs.Common.{rules, ◌≡◌}
use Rattle.busdma_base.specs.Scenarios.Operations.{about_item}
use Rattle.busdma_base.specs.Scenarios.Words.{item_word_text}
use Rattle.program_rules.specs.Reports.Did.{name_made_at}
use Rattle.io_edge.proofs.Giving.{gives_then}
use Rattle.report_text.proofs.did.push_item.Goals as goal

pub returns : goal.returns
returns g c =
    let word : c.text.result.now ≡ item_word_text (about_item c.args.item.now).word = search rules in
    let name : c.name_at.result.now ≡ name_made_at c.args.script.now (about_item c.args.item.now).uses.made_at =
    search rules in
    gives_then (rw word at c.push_str.ensures) (gives_then c.push_str-2.ensures (rw name at c.push_str-3.ensures))
