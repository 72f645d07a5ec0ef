use Rattle.std.proofs.Common.{rules}
use Rattle.io_edge.proofs.Giving.{gives_nothing, gives_as}
use Rattle.report_text.proofs.did.push_again_at.Goals as goal

pub returns-in-None : goal.returns-in-None
returns-in-None g c = gives_as (search rules) (gives_nothing c.args.out.now)
