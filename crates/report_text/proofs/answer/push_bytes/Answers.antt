use Rattle.io_edge.proofs.Giving.{gives_then, gives_nothing, gives_as}
use Rattle.report_text.proofs.Rest.{no_bytes, some_bytes}
use Rattle.report_text.proofs.answer.push_bytes.Goals as goal

pub returns-then-is_empty : goal.returns-then-is_empty
returns-then-is_empty g c =
    gives_as (no_bytes _ _ c.is_empty.ensures c.if-is_empty.true) (gives_nothing c.args.out.now)

pub returns : goal.returns
returns g c =
    gives_as (some_bytes _ _ c.is_empty.ensures c.if-is_empty.false)
    (gives_then c.push_str.ensures c.push_digits.ensures)
